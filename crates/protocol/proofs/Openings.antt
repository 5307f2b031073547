-- Open and replay keep the invariant, never fail, and hand out what they owe.
use Rattle.std.proofs.Common.{◌≡◌, ℕ, suc, ◌<◌, ◌≤◌, true, ◌⊎◌, List, [], ◌∷◌, ◌++◌, length, Some, None, Ok, Err, Option, Result, sym, refl, ap, ◌∙◌, subst, inl, inr, true≢false, append_assoc, append-nil, arith, length-append, eq-eqb}
use Rattle.std.proofs.lemmas.Option.{same_Some}
use mathlib.Core.List.Memᴰ
use mathlib.Core.List.{Memᴰ}
use Rattle.std.proofs.lemmas.Bool.{cond-true}
use Rattle.records.specs.Pages.{Contents, page_of, all_good, decoded_page}
use Rattle.records.specs.declared.commands.Command.{Command}
use Rattle.records.specs.declared.notices.Notice.{Notice}
use Rattle.records.specs.declared.headers.Header.{Header}
use Rattle.records.specs.declared.numbers.PageNumber.{PageNumber}
use Rattle.device.specs.Meaning.{Meaning, bytes}
use Rattle.journal.specs.Slots.{other, body_place}
use Rattle.journal.specs.declared.slots.Slot.{Slot}
use Rattle.journal.specs.declared.slots.Slot.TheVariants.{Zero, One}
use Rattle.journal.specs.declared.choosing.SlotHeader.{SlotHeader}
use Rattle.protocol.specs.declared.phases.Phase.TheVariants.{Dark, Replaying}
use Rattle.protocol.specs.declared.tokens.ReceiptNumbers.{ReceiptNumbers}
use Rattle.protocol.specs.declared.faults.ExchangeFault.{ExchangeFault}
use Rattle.device.specs.declared.run.Operation.TheVariants as op
use Rattle.device.specs.Runs as runs
use Rattle.protocol.specs.Worlds.{World, page_head, looks, sector, part, body_at}
use Rattle.protocol.specs.Steps.{Handed, Open, Replay, State, handed, wake_ops, shown, header_of, taken, loaded_from, loaded, Opened, Replayed, CaughtUp, NoHeaderFound, BadBody, BadPage}
use Rattle.protocol.specs.Promises.{Pages, flat, Sent, added, market_after, notices_count, record_notices, OfRecord, RunsOver}
use Rattle.protocol.proofs.Devices.{Ran, all_did}
use Rattle.protocol.proofs.Codecs.{PageFits, Laws}
use Rattle.protocol.proofs.Lists.{counted_below, after_valid}
use Rattle.protocol.proofs.Sectors.{in_journal}
use Rattle.protocol.proofs.Reasons.{may_open}
use Rattle.protocol.proofs.Safe.{bytes_inj, May, Whole, Only, Shrinks, Single, did_whole, own, from_only, synced_single, head_within, body_within, page_after, head_of, NextFits, page_fits, Saved, IsSent, safe_adds, front_fits, front_last, inside_fits, other_other, Rested, rests}
use Rattle.protocol.proofs.Watches.{Opening, Watch, more, watch_answered, watch_note}
use Rattle.protocol.proofs.Inv.{AtDark, AtReplaying, Inv, at_phase, covers, covers_shrinks, over_more, over_applied, of_record, added_next, added_old}
use Rattle.protocol.proofs.Calls.{did_still, with_kept}
use Rattle.protocol.proofs.Choosing.{Chosen, chosen, none_shown}

ok_inj : {A E : Type 0} (a b : A) → ◌≡◌ {A = Result A E} (Ok a) (Ok b) → a ≡ b
ok_inj a b e = cc

ok_err : {A E : Type 0} (a : A) (b : E) → ◌≡◌ {A = Result A E} (Ok a) (Err b) → ⊥
ok_err a b e = let z : ◌≡◌ {A = ℕ} 0 1 = cc in omega arith

module _ {S : Type 0} (w : World S) (laws : Laws w) where
  woke : (m₀ m : Meaning) → Whole w laws m₀ → Ran m₀ (op.Wake ∷ op.Sync ∷ []) m → Whole w laws m × Shrinks w laws m₀ m × Single w laws m
  woke m₀ m h (k₁, d₁, (k₂, d₂, e)) =
      let h₁ = did_whole w laws h d₁ in
      subst (λ z. Whole w laws z × Shrinks w laws m₀ z × Single w laws z) (sym e) (did_whole w laws h₁ d₂, λ t r a. did_still w laws tt h d₁ t r (did_still w laws tt h₁ d₂ t r a), synced_single w laws h₁ d₂)

  woken : (x : State S) (m : Meaning) → runs.Ran x.device wake_ops m → Ran x.device (op.Wake ∷ op.Sync ∷ []) m
  woken x m d = all_did x.device m (op.Wake ∷ op.Sync ∷ []) (tt, (tt, tt)) d

  loads : (m : Meaning) (s : SlotHeader) (f : Pages) → Whole w laws m → Saved w laws m s.slot f → w.rules.count (market_after w f) ≡ s.header.commands.0 → loaded w m s ≡ Ok (market_after w f)
  loads m s f wh b c =
      let t = s.slot in
      let p : (i : ℕ) → i < 3 → m.reads (body_at t i) ≡ bytes (part w (market_after w f) i) = (λ i l. from_only w laws m wh (body_at t i) (body_within w laws t i l) _ (b i l)) in
      (λ i. loaded_from w (body_place t) s.header.commands.0 (p 0 (omega arith) i) (p 1 (omega arith) i) (p 2 (omega arith) i))
      ∙ ap (taken w (body_place t) s.header.commands.0) (laws.load_saved (market_after w f) (after_valid w laws w.rules.start (flat f) laws.fresh_valid))
      ∙ cond-true _ _ _ (eq-eqb (w.rules.count (market_after w f)) s.header.commands.0 c)

  same_or_other : (t u : Slot) → (u ≡ t) ⊎ (t ≡ other u)
  same_or_other Zero Zero = inl refl
  same_or_other Zero One = inr refl
  same_or_other One Zero = inr refl
  same_or_other One One = inl refl

  -- the chosen slot is the one that covers
  module _ {kept : Pages} {sent : Option Sent} {highest : ℕ} {m : Meaning} {t : Slot} {f : Pages} (v : Rested w laws kept sent highest m t f) where
    there : header_of w m t ≡ Some (head_of w laws f)
    there = ap (shown w) (from_only w laws m v.safe.whole _ (head_within w laws t) _ v.safe.head) ∙ laws.header_good _ _ _ (front_fits w laws v.safe)

    chosen_slot : {s : SlotHeader} → Chosen w m s → s.slot ≡ t
    chosen_slot {s} c = go (same_or_other t s.slot)
      where
        go : (s.slot ≡ t) ⊎ (t ≡ other s.slot) → s.slot ≡ t
        go (inl e) = e
        go (inr e) = absurd (
            let o = c.first (head_of w laws f) (subst (λ z. header_of w m z ≡ Some (head_of w laws f)) e there) in
            let u_is : s.slot ≡ other t = sym (other_other w laws s.slot) ∙ ap other (sym e) in
            let k = v.settled _ (own w laws m v.safe.whole _ (head_within w laws (other t))) s.header (subst (λ z. header_of w m z ≡ Some s.header) u_is c.there) in
            omega arith)

    chosen_head : {s : SlotHeader} → Chosen w m s → s.header ≡ head_of w laws f
    chosen_head {s} c = same_Some _ _ (sym (subst (λ z. header_of w m z ≡ Some s.header) (chosen_slot c) c.there) ∙ there)

    chosen_loads : {s : SlotHeader} → Chosen w m s → loaded w m s ≡ Ok (market_after w f)
    chosen_loads {s} c = loads m s f v.safe.whole (subst (λ z. Saved w laws m z f) (sym (chosen_slot c)) v.safe.body) (front_last w laws v.safe ∙ sym (ap (λ (h : Header). h.commands.0) (chosen_head c)))

  -- what a dark exchange wakes to
  wakes : {l : Watch} {x : State S} {m : Meaning} → AtDark w laws l x → runs.Ran x.device wake_ops m → (t : Slot) × (f : Pages) × Rested w laws l.kept l.sent l.highest m t f
  wakes {l} {x} {m} v d =
      let k = woke x.device m v.safe.whole (woken x m d) in
      let c = covers_shrinks w laws {l = l} {m = x.device} {m' = m} k.0 k.1 (covers w laws l x Dark v) in
      rests w laws c.safe c.newer k.2

  pub opened_keeps : {l : Watch} {x x' : State S} (p : PageNumber) → Inv w laws l x → Opened w x p x' → Inv w laws (watch_note (Open (Ok p)) l) x'
  opened_keeps {l} {x} p i s =
      let v = at_phase w laws Dark (may_open w laws x s.allowed) i in
      let (t, f, d) = wakes v s.did in
      let c = chosen w s.device s.first s.chosen in
      let same = chosen_head d c in
      let few : s.first.header.notices.0 ≤ l.highest = (let b = d.safe.bound in let e : s.first.header.notices.0 ≡ notices_count w f = ap (λ (h : Header). h.notices.0) same in omega arith) in
      subst (Inv w laws _) (sym s.result) (record {
        house = refl;
        mark = few;
        at = record {
          front = f;
          rested = subst (λ u. Rested w laws l.kept l.sent l.highest s.device u f) (sym (chosen_slot d c)) d;
          covered = ap (λ (h : Header). h.page.0) same;
          single = (woke x.device s.device v.safe.whole (woken x s.device s.did)).2;
          done = f;
          left = d.safe.rest;
          split = d.safe.front;
          beyond = omega arith;
          over = record {
            pages = ap (λ (h : Header). h.page.0) same;
            commands = ap (λ (h : Header). h.commands.0) same;
            notices = ap (λ (h : Header). h.notices.0) same;
            market = ok_inj _ _ (sym s.load ∙ chosen_loads d c);
          };
          staged = refl;
          draft = v.draft;
          opening = record { above = l.highest; handed = [] };
          is = refl;
          handed = λ n h a. absurd (let b = d.safe.bound in let c = counted_below 0 _ n h in omega arith);
        };
      })

  -- the page that a replay finds
  module _ {l : Watch} {x : State S} (v : AtReplaying w laws l x) where
    at_next : sector w (suc x.pages) ≡ sector w (suc (length v.done))
    at_next = ap (λ k. sector w (suc k)) v.over.pages

    -- a page of the record comes next: it is what is read
    old_there : (p : List Command) (ls : Pages) → l.kept ≡ v.done ++ (p ∷ ls) → x.device.reads (sector w (suc x.pages)) ≡ bytes (page_after w laws v.done p)
    old_there p ls e = ap x.device.reads at_next ∙ from_only w laws x.device v.rested.safe.whole _ (in_journal w laws (suc (length v.done))).1 _ (v.rested.safe.pages v.done p ls e v.beyond)

    -- nothing of the record comes next: what looks like a page is the sent page
    new_there : l.kept ≡ v.done → (b : List ℕ) → x.device.reads (sector w (suc x.pages)) ≡ bytes b → looks w b (suc x.pages) ≡ true → (p : List Command) × (b ≡ page_after w laws l.kept p) × (l.sent ≡ Some (record { number = suc (length l.kept); page = p })) × NextFits w laws l.kept p
    new_there e b r k =
        let j = in_journal w laws (suc x.pages) in
        go (v.rested.safe.strays (sector w (suc x.pages)) j.0 j.1 b (subst (λ z. May w laws x.device (sector w (suc x.pages)) z) r (own w laws x.device v.rested.safe.whole _ j.1)) (suc x.pages) k)
      where
        go : (suc x.pages ≤ length l.kept) ⊎ IsSent w laws l.kept l.sent (sector w (suc x.pages)) b (suc x.pages) → (p : List Command) × (b ≡ page_after w laws l.kept p) × (l.sent ≡ Some (record { number = suc (length l.kept); page = p })) × NextFits w laws l.kept p
        go (inl h) = absurd (let q = v.over.pages in let u = ap length e in omega arith)
        go (inr h) = (h.page, h.image, h.is, h.fits)

    -- every way, by what is left of the record
    module _ {A : Type 0} (old : (p : List Command) (ls : Pages) → l.kept ≡ v.done ++ (p ∷ ls) → A) (new : l.kept ≡ v.done → A) where
      pub by_left : A
      by_left = go v.left v.split
        where
          go : (ls : Pages) → l.kept ≡ v.done ++ ls → A
          go [] e = new (e ∙ append-nil v.done)
          go (p ∷ ls) e = old p ls e

  -- 17, 18 and 19 do not happen
  pub never_17 : {l : Watch} {x : State S} (f : ExchangeFault) (m : Meaning) → AtDark w laws l x → NoHeaderFound w x f m → ⊥
  never_17 f m v (e, d, n) =
      let (t, g, c) = wakes v d in
      none_shown w m n t _ (there c)

  pub never_18 : {l : Watch} {x : State S} (f : ExchangeFault) (m : Meaning) → AtDark w laws l x → BadBody w x f m → ⊥
  never_18 f m v (d, (h, c, n)) =
      let (u, g, r) = wakes v d in
      ok_err (market_after w g) f (sym (chosen_loads r (chosen w m h c)) ∙ n)

  -- a page of the right number and first command, as a replay looks for it
  looked_for : (x : State S) (es : Pages) (p : List Command) → x.pages ≡ length es → x.commands ≡ length (flat es) → PageFits (suc (length es)) (suc (length (flat es))) p
      → decoded_page (page_after w laws es p) ≡ Some (page_of (page_head w (suc x.pages) (suc x.commands)) p)
  looked_for x es p e k fit = laws.page_good _ _ _ fit ∙ (λ j. Some (page_of (page_head w (suc (sym e j)) (suc (sym k j))) p))

  pub never_19 : {l : Watch} {x : State S} (f : ExchangeFault) (m : Meaning) → AtReplaying w laws l x → BadPage w x f m → ⊥
  never_19 {l} {x} f m v b =
      by_left v
      (λ p ls s. b.bad p (ap decoded_page (bytes_inj _ _ _ b.there (old_there v p ls s)) ∙ looked_for x v.done p v.over.pages v.over.commands (inside_fits w laws v.rested.safe v.done p ls s)))
      (λ s. let (p, image, is, fits) = new_there v s b.content b.there b.looks in
      b.bad p (ap decoded_page image ∙ looked_for x l.kept p (v.over.pages ∙ sym (ap length s)) (v.over.commands ∙ sym (ap (λ z. length (flat z)) s)) (page_fits w laws l.kept p v.rested.safe.full fits)))

  -- replay applies a page
  pub record Replays (l : Watch) (h : Handed) (x' : State S) : Type 0 where
    pub keeps : Inv w laws (watch_answered h l) x'
    pub true_receipt : OfRecord w (watch_answered h l).kept h

  module _ {l : Watch} {x x' : State S} (room : ℕ) (h : Handed) (i : Inv w laws l x) (v : AtReplaying w laws l x) (s : Replayed w x room h x') where
    -- once it is known which page it is, and what the record is then
    replays_on : (kept : Pages) → added h.receipt.page.0 l.sent l.kept ≡ kept → (ls : Pages) → kept ≡ v.done ++ (s.page ∷ ls)
        → Rested w laws kept l.sent l.highest x.device x.slot v.front → Replays l h x'
    replays_on kept e ls split rested = record {
      keeps = subst (Inv w laws _) (sym s.result) (with_kept w laws l h kept e (record {
        house = i.house;
        mark = i.mark;
        at = record {
          front = v.front;
          rested = rested;
          covered = v.covered;
          single = v.single;
          done = v.done ++ (s.page ∷ []);
          left = ls;
          split = split ∙ sym (append_assoc v.done (s.page ∷ []) ls);
          beyond = (let a = length-append v.done (s.page ∷ []) in let b = v.beyond in omega arith);
          over = over_applied w laws v.done s.page Replaying x.device v.over;
          staged = refl;
          draft = v.draft;
          opening = record { above = v.opening.above; handed = v.opening.handed ++ h.notices };
          is = ap (more h.notices) v.is;
          handed = λ n z a. hand n a (Memᴰ.append_cases (record_notices w v.done) (subst (Memᴰ n) (over_more w laws v.done s.page).2 z));
        };
      }));
      true_receipt = of_record w laws v.done s.page ls _ v.over (e ∙ split) h s.answer s.notices;
    }
      where
        from_here : h.notices ≡ handed w (notices_count w v.done) (market_after w v.done) s.page
        from_here = s.notices ∙ (λ j. handed w (v.over.notices j) (v.over.market j) s.page)

        hand : (n : Notice) → v.opening.above < n.number.0 → Memᴰ n (record_notices w v.done) ⊎ Memᴰ n (handed w (notices_count w v.done) (market_after w v.done) s.page) → Memᴰ n (v.opening.handed ++ h.notices)
        hand n a (inl z) = Memᴰ.append_left h.notices (v.handed n z a)
        hand n a (inr z) = Memᴰ.append_right v.opening.handed (subst (Memᴰ n) (sym from_here) z)

    -- a page image says which page was read
    page_is : (es : Pages) (p : List Command) → PageFits (suc (length es)) (suc (length (flat es))) p → s.content ≡ page_after w laws es p → s.page ≡ p
    page_is es p fit b = ap (λ (a : Contents). a.commands) (same_Some _ _ (sym s.good ∙ ap decoded_page b ∙ laws.page_good _ _ _ fit))

    number_is : h.receipt.page.0 ≡ suc (length v.done)
    number_is = ap (λ (z : ReceiptNumbers). z.page.0) s.answer ∙ ap suc v.over.pages

    pub replays : Replays l h x'
    replays = by_left v old new
      where
        old : (p : List Command) (ls : Pages) → l.kept ≡ v.done ++ (p ∷ ls) → Replays l h x'
        old p ls e =
            let same = page_is v.done p (inside_fits w laws v.rested.safe v.done p ls e) (bytes_inj _ _ _ s.there (old_there v p ls e)) in
            let a : added h.receipt.page.0 l.sent l.kept ≡ l.kept = added_old l.kept l.sent h.receipt.page.0 (let n = number_is in let k = ap length e ∙ length-append v.done (p ∷ ls) in omega arith) in
            replays_on l.kept a ls (e ∙ ap (λ z. v.done ++ (z ∷ ls)) (sym same)) v.rested

        new : l.kept ≡ v.done → Replays l h x'
        new e =
            let (p, image, is, fits) = new_there v e s.content s.there s.looks in
            let same = page_is l.kept p (page_fits w laws l.kept p v.rested.safe.full fits) image in
            let a : added h.receipt.page.0 l.sent l.kept ≡ l.kept ++ (s.page ∷ []) = ap (λ z. added h.receipt.page.0 z l.kept) is ∙ added_next l.kept p h.receipt.page.0 (number_is ∙ ap (λ z. suc (length z)) (sym e)) ∙ ap (λ z. l.kept ++ (z ∷ [])) (sym same) in
            let only : Only w laws x.device (sector w (suc (length l.kept))) (bytes (page_after w laws l.kept s.page)) =
            (λ q z. v.single _ q z ∙ ap (λ z. x.device.reads (sector w (suc z))) (ap length e ∙ sym v.over.pages) ∙ s.there ∙ ap bytes (image ∙ ap (page_after w laws l.kept) (sym same))) in
            replays_on (l.kept ++ (s.page ∷ [])) a [] (ap (λ z. z ++ (s.page ∷ [])) e) (record { safe = safe_adds w laws s.page (subst (NextFits w laws l.kept) (sym same) fits) only v.rested.safe; settled = v.rested.settled })

  -- an opening goes on, and every notice of the record above the highest delivered before it was handed out in it
  pub record AllHandedOut (l : Watch) : Type 0 where
    pub opening : Opening
    pub is : l.opening ≡ Some opening
    pub each : (n : Notice) → Memᴰ n (record_notices w l.kept) → opening.above < n.number.0 → Memᴰ n opening.handed

  -- replay finds nothing more
  module _ {l : Watch} {x x' : State S} (room : ℕ) (i : Inv w laws l x) (v : AtReplaying w laws l x) (s : CaughtUp w x room x') where
    pub all_done : l.kept ≡ v.done
    all_done = by_left v (λ p ls e. absurd (true≢false (sym (laws.page_looks _ _ _ (inside_fits w laws v.rested.safe v.done p ls e)) ∙ ap (looks w (page_after w laws v.done p)) (ap suc (sym v.over.pages)) ∙ s.nothing _ (old_there v p ls e)))) (λ e. e)

    pub caught_up_keeps : Inv w laws (watch_note (Replay room (Ok None)) l) x'
    caught_up_keeps = subst (Inv w laws _) (sym s.result) (record {
      house = i.house;
      mark = i.mark;
      at = record {
        front = v.front;
        rested = v.rested;
        covered = v.covered;
        over = (let o = subst (λ z. RunsOver w z x) (sym all_done) v.over in record { pages = o.pages; commands = o.commands; notices = o.notices; market = o.market });
        staged = v.staged ∙ sym v.draft;
        clean = λ a l' u b h q k. go a b q h k (v.rested.safe.strays a l' u b h q k);
        few = (let e = ap length v.draft in omega arith);
        each = ap all_good v.draft;
        limit = (let e = ap length v.draft in let n = v.rested.safe.total in omega arith);
      };
    })
      where
        go : (a : ℕ) (b : List ℕ) (q : ℕ) → May w laws x.device a (bytes b) → looks w b q ≡ true → (q ≤ length l.kept) ⊎ IsSent w laws l.kept l.sent a b q → q ≤ length l.kept
        go a b q h k (inl n) = n
        go a b q h k (inr n) =
            let q_is : q ≡ suc x.pages = n.next ∙ ap (λ z. suc (length z)) all_done ∙ ap suc (sym v.over.pages) in
            let r : x.device.reads (sector w (suc x.pages)) ≡ bytes b = ap (λ z. x.device.reads (sector w z)) (sym q_is) ∙ ap x.device.reads (sym n.place) ∙ sym (v.single a _ h) in
            absurd (true≢false (sym k ∙ ap (looks w b) q_is ∙ s.nothing b r))

    pub caught_up_handed : AllHandedOut l
    caught_up_handed = record { opening = v.opening; is = v.is; each = λ n h. v.handed n (subst (λ z. Memᴰ n (record_notices w z)) all_done h) }
