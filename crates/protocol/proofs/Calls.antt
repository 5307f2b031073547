-- Stage, write, sync, deliver, and what is cut without a write, keep the invariant.
use Rattle.std.proofs.Common.{◌≡◌, ℕ, suc, ◌<◌, ◌≤◌, max, List, [], ◌∷◌, ◌++◌, length, Some, Ok, Option, sym, refl, ap, ◌∙◌, subst, subst₂, inl, inr, arith, length-append}
use Rattle.records.specs.LittleEndian.{le}
use Rattle.records.specs.Pages.{all_good}
use Rattle.records.specs.declared.numbers.CommandNumber.{CommandNumber}
use Rattle.device.specs.Meaning.{Meaning, bytes}
use Rattle.device.specs.declared.run.Operation.{Operation}
use Rattle.journal.specs.Slots.{other}
use Rattle.journal.specs.declared.slots.Slot.{Slot}
use Rattle.protocol.specs.declared.phases.Phase.{Phase}
use Rattle.protocol.specs.declared.phases.Phase.TheVariants.{Live, Written, Dark, Replaying}
use Rattle.protocol.specs.declared.tokens.TicketNumbers.{TicketNumbers}
use Rattle.protocol.specs.declared.tokens.ReceiptNumbers.{ReceiptNumbers}
use Rattle.device.specs.declared.run.Operation.TheVariants as op
use Rattle.protocol.specs.Worlds.{World, page_image, sector}
use Rattle.protocol.specs.Steps.{last_notice, Handed, Stage, Write, Sync, Deliver, State, reset, staging, next_page, next_sector, Staged, Wrote, Synced, Delivered}
use Rattle.protocol.specs.Promises.{Pages, flat, Sent, added, with_command, OfRecord, RunsOver}
use Rattle.protocol.proofs.Devices.{Did, Cut, CutWithin, one_did}
use Rattle.protocol.proofs.Codecs.{Laws}
use Rattle.protocol.proofs.Lists.{decoded_good, flat_snoc, each_snoc}
use Rattle.protocol.proofs.Sectors.{in_journal, below_journal}
use Rattle.protocol.proofs.Reasons.{stages, Writes, writes, syncs}
use Rattle.protocol.proofs.Safe.{Whole, Shrinks, Gains, did_gains, cut_gains, did_whole, cut_whole, elsewhere, synced_only, page_after, NextFits, Safe, Rising, safe_shrinks, safe_sends, adds_clean, safe_adds, Rested}
use Rattle.protocol.proofs.Watches.{Watch, more, watch_sends, watch_answered, watch_broken, watch_note}
use Rattle.protocol.proofs.Inv.{AtLive, At, Inv, at_phase, inv_at, covers, covers_shrinks, resets, over_applied, of_record, added_next}

-- calls that add nothing
abbrev pub Still : Operation → Type 0
Still op.Wake = Unit {0}
Still op.Sync = Unit {0}
Still (op.Read s) = Unit {0}
Still (op.Write s b) = ⊥

module _ {S : Type 0} (w : World S) (laws : Laws w) where
  still : (m m' : Meaning) (o : Operation) → Still o → Gains w laws m o m' → Shrinks w laws m m'
  still m m' op.Wake k n t r h = elim (n t r h) [ inl a ↦ a | inr a ↦ absurd a ]
  still m m' op.Sync k n t r h = elim (n t r h) [ inl a ↦ a | inr a ↦ absurd a ]
  still m m' (op.Read s) k n t r h = elim (n t r h) [ inl a ↦ a | inr a ↦ absurd a ]
  still m m' (op.Write s b) k n t r h = absurd k

  pub did_still : {m m' : Meaning} {o : Operation} → Still o → Whole w laws m → Did m o m' → Shrinks w laws m m'
  did_still {m} {m'} {o} k h d = still m m' o k (did_gains w laws h d)

  pub cut_still : {m m' : Meaning} {o : Operation} → Still o → Whole w laws m → Cut m o m' → Shrinks w laws m m'
  cut_still {m} {m'} {o} k h d = still m m' o k (cut_gains w laws h d)

  pub staged_keeps : {l : Watch} {x x' : State S} (bs : List ℕ) (n : CommandNumber) → Inv w laws l x → Staged w x bs n x' → Inv w laws (watch_note (Stage bs (Ok n)) l) x'
  staged_keeps {l} {x} bs n i s =
      let a = stages w laws x bs s.allowed in
      let v = at_phase w laws Live a.phase i in
      let c = s.command in
      let k = length-append l.draft (c ∷ []) in
      let e = ap length v.staged in
      let f = a.few in
      let g = a.limit in
      let o = v.over.commands in
      subst₂ (λ d y. Inv w laws (record { kept = l.kept; draft = d; sent = l.sent; highest = l.highest; opening = l.opening }) y) (ap (λ z. with_command z l.draft) (sym s.is)) (sym s.result)
      (inv_at w laws (record { kept = l.kept; draft = l.draft ++ (c ∷ []); sent = l.sent; highest = l.highest; opening = l.opening }) (staging w c x) Live a.phase i.house i.mark (record {
        front = v.front;
        rested = v.rested;
        covered = v.covered;
        over = record { pages = v.over.pages; commands = v.over.commands; notices = v.over.notices; market = v.over.market };
        staged = ap (λ a. a ++ (c ∷ [])) v.staged;
        clean = v.clean;
        few = omega arith;
        each = each_snoc l.draft c v.each (decoded_good bs c s.is);
        limit = omega arith;
      }))

  -- what a write, or a cut one, leaves on the device
  module _ {l : Watch} {x : State S} (m : Meaning) (v : AtLive w laws l x) (a : Writes w laws x) (wh : Whole w laws m) (n : Gains w laws x.device (op.Write (next_sector w x) (next_page w x)) m) where
    same_place : next_sector w x ≡ sector w (suc (length l.kept))
    same_place = ap (λ k. sector w (suc k)) v.over.pages

    same_page : next_page w x ≡ page_after w laws l.kept l.draft
    same_page = λ i. page_image w (suc (v.over.pages i)) (suc (v.over.commands i)) (v.staged i)

    adds_sent : Gains w laws x.device (op.Write (sector w (suc (length l.kept))) (page_after w laws l.kept l.draft)) m
    adds_sent = subst₂ (λ s b. Gains w laws x.device (op.Write s b) m) same_place same_page n

    sent_fits : NextFits w laws l.kept l.draft
    sent_fits = record { full = record { one = (let n = a.staged in let e = ap length v.staged in omega arith); few = v.few; each = v.each }; total = v.limit }

    pub sent_rested : Rested w laws l.kept (watch_sends l).sent l.highest m x.slot v.front
    sent_rested = record {
      safe = safe_sends w laws l.draft wh sent_fits adds_sent (let p = v.over.pages in let c = v.covered in let r = a.room in omega arith) v.clean v.rested.safe;
      settled = λ r h. v.rested.settled r (elsewhere w laws x.device m _ _ adds_sent _ (λ e. let j = in_journal w laws (suc (length l.kept)) in let k = below_journal (other x.slot) in omega arith) r h);
    }

  -- the sector of the next page lies on the device
  pub next_inside : (x : State S) → Whole w laws x.device → next_sector w x < x.device.size
  next_inside x h = let j = in_journal w laws (suc x.pages) in let e = h.size in omega arith

  pub wrote_keeps : {l : Watch} {x x' : State S} (t : TicketNumbers) → Inv w laws l x → Wrote w x t x' → Inv w laws (watch_note (Write (Ok t)) l) x'
  wrote_keeps {l} {x} t i s =
      let a = writes w laws x s.allowed in
      let v = at_phase w laws Live a.phase i in
      let did = one_did x.device s.device (op.Write (next_sector w x) (next_page w x)) (next_inside x v.rested.safe.whole) s.did in
      let wh = did_whole w laws v.rested.safe.whole did in
      let g = did_gains w laws v.rested.safe.whole did in
      subst (Inv w laws _) (sym s.result) (record {
        house = i.house;
        mark = i.mark;
        at = record {
          front = v.front;
          rested = sent_rested s.device v a wh g;
          covered = v.covered;
          over = record { pages = v.over.pages; commands = v.over.commands; notices = v.over.notices; market = v.over.market };
          draft = refl;
          fits = subst (NextFits w laws l.kept) (sym v.staged) (sent_fits s.device v a wh g);
          sent = ap (λ a. Some (record { number = suc (length l.kept); page = a })) (sym v.staged);
          there = ap s.device.reads (sym (same_place s.device v a wh g)) ∙ did.contents.0 ∙ ap bytes (same_page s.device v a wh g ∙ ap (page_after w laws l.kept) (sym v.staged));
        };
      })

  pub write_cut_keeps : {l : Watch} {x : State S} → Inv w laws l x → Writes w laws x → (m : Meaning) → Cut x.device (op.Write (next_sector w x) (next_page w x)) m → Inv w laws (watch_broken (watch_sends l)) (reset w m)
  write_cut_keeps {l} {x} i a m c =
      let v = at_phase w laws Live a.phase i in
      let wh = cut_whole w laws v.rested.safe.whole c in
      let g = cut_gains w laws v.rested.safe.whole c in
      let k = sent_rested m v a wh g in
      resets w laws {l = watch_sends l} (record { slot = x.slot; front = v.front; safe = k.safe; newer = inl k.settled })

  -- a receipt's ledger, once it is known what it adds
  pub with_kept : (l : Watch) {x : State S} (h : Handed) (kept : Pages) → added h.receipt.page.0 l.sent l.kept ≡ kept
      → Inv w laws (record { kept = kept; draft = l.draft; sent = l.sent; highest = l.highest; opening = more h.notices l.opening }) x → Inv w laws (watch_answered h l) x
  with_kept l {x} h kept e i = subst (λ a. Inv w laws (record { kept = a; draft = l.draft; sent = l.sent; highest = l.highest; opening = more h.notices l.opening }) x) (sym e) i

  module _ {l : Watch} {x x' : State S} (t : TicketNumbers) (room : ℕ) (h : Handed) (i : Inv w laws l x) (s : Synced w x t room h x') where
    synced_adds : added h.receipt.page.0 l.sent l.kept ≡ l.kept ++ (x.staged ∷ [])
    synced_adds =
        let v = at_phase w laws Written (syncs w laws x t room s.allowed) i in
        ap (λ a. added h.receipt.page.0 a l.kept) v.sent ∙ added_next l.kept x.staged h.receipt.page.0 (ap (λ (z : ReceiptNumbers). z.page.0) s.answer ∙ ap suc v.over.pages)

    pub synced_keeps : Inv w laws (watch_note (Sync t room (Ok h)) l) x'
    synced_keeps =
        let v = at_phase w laws Written (syncs w laws x t room s.allowed) i in
        let wh = v.rested.safe.whole in
        let did = one_did x.device s.device op.Sync tt s.did in
        let le = did_still tt wh did in
        let now = safe_shrinks w laws {m' = s.device} (did_whole w laws wh did) le v.rested.safe in
        subst (Inv w laws _) (sym s.result) (with_kept l h (l.kept ++ (x.staged ∷ [])) synced_adds (record {
          house = i.house;
          mark = i.mark;
          at = record {
            front = v.front;
            rested = record {
              safe = safe_adds w laws x.staged v.fits (λ q a. synced_only w laws wh did _ q a ∙ v.there) now;
              settled = λ q a. v.rested.settled q (le _ q a);
            };
            covered = v.covered;
            over = over_applied w laws l.kept x.staged Live s.device v.over;
            staged = sym v.draft;
            clean = adds_clean w laws x.staged now;
            few = (let e = ap length v.draft in omega arith);
            each = ap all_good v.draft;
            limit = (let e = ap length v.draft in let k = ap length (flat_snoc l.kept x.staged) ∙ length-append (flat l.kept) x.staged in let n = v.fits.total in omega arith);
          };
        }))

    pub synced_of_record : OfRecord w (watch_note (Sync t room (Ok h)) l).kept h
    synced_of_record = of_record w laws l.kept x.staged [] _ (at_phase w laws Written (syncs w laws x t room s.allowed) i).over synced_adds h s.answer s.notices

  -- deliver: a higher bound on the covered notices
  safe_raises : {kept : Pages} {sent : Option Sent} {a b : ℕ} {m : Meaning} {t : Slot} {f : Pages} → a ≤ b → Safe w laws kept sent a m t f → Safe w laws kept sent b m t f
  safe_raises le s = record { whole = s.whole; full = s.full; total = s.total; rest = s.rest; front = s.front; head = s.head; body = s.body; bound = (let k = s.bound in omega arith); pages = s.pages; strays = s.strays }

  rested_raises : {kept : Pages} {sent : Option Sent} {a b : ℕ} {m : Meaning} {t : Slot} {f : Pages} → a ≤ b → Rested w laws kept sent a m t f → Rested w laws kept sent b m t f
  rested_raises le s = record { safe = safe_raises le s.safe; settled = s.settled }

  rising_raises : {kept : Pages} {a b : ℕ} {m : Meaning} {t : Slot} {f to : Pages} → a ≤ b → Rising w laws kept a m t f to → Rising w laws kept b m t f to
  rising_raises le s = record { rest = s.rest; front = s.front; longer = s.longer; body = s.body; bound = (let k = s.bound in omega arith); head = s.head }

  pub delivered_keeps : {l : Watch} {x x' : State S} (r : ReceiptNumbers) → Inv w laws l x → Delivered w x r x' → Inv w laws (watch_note (Deliver r (Ok tt)) l) x'
  delivered_keeps {l} {x} r i s = subst (Inv w laws _) (sym s.result) (record { house = i.house; mark = (let k = i.mark in omega arith); at = go x.phase i.at })
    where
      up : l.highest ≤ max l.highest (last_notice r)
      up = omega arith

      y : State S
      y = record { house = x.house; phase = x.phase; staged = x.staged; pages = x.pages; commands = x.commands; notices = x.notices; mark = max x.mark (last_notice r); covered = x.covered; slot = x.slot; market = x.market; device = x.device }

      again : (ps : Pages) → RunsOver w ps x → RunsOver w ps y
      again ps o = record { pages = o.pages; commands = o.commands; notices = o.notices; market = o.market }

      go : (p : Phase) → At w laws p l x → At w laws p (watch_note (Deliver r (Ok tt)) l) y
      go Live v = record { front = v.front; rested = rested_raises up v.rested; covered = v.covered; over = again _ v.over; staged = v.staged; clean = v.clean; few = v.few; each = v.each; limit = v.limit }
      go Written v = record { front = v.front; rested = rested_raises up v.rested; covered = v.covered; over = again _ v.over; draft = v.draft; fits = v.fits; sent = v.sent; there = v.there }
      go Dark v = record { slot = v.slot; front = v.front; safe = safe_raises up v.safe; newer = elim v.newer [ inl k ↦ inl k | inr k ↦ inr (k.0, rising_raises up k.1) ]; draft = v.draft }
      go Replaying v = record { front = v.front; rested = rested_raises up v.rested; covered = v.covered; single = v.single; done = v.done; left = v.left; split = v.split; beyond = v.beyond; over = again _ v.over; staged = v.staged; draft = v.draft; opening = v.opening; is = v.is; handed = v.handed }

  -- a restart, and a cut of what writes nothing
  pub restarted_keeps : {l : Watch} {x x' : State S} → Inv w laws l x → x' ≡ reset w x.device → Inv w laws (watch_broken l) x'
  restarted_keeps {l} {x} i e = subst (Inv w laws _) (sym e) (resets w laws (covers w laws l x x.phase i.at))

  pub still_cut_keeps : {l : Watch} {x : State S} (m : Meaning) → Whole w laws m → Shrinks w laws x.device m → Inv w laws l x → Inv w laws (watch_broken l) (reset w m)
  still_cut_keeps {l} {x} m wh le i = resets w laws (covers_shrinks w laws wh le (covers w laws l x x.phase i.at))

  -- the calls of open add nothing, however far they come
  abbrev pub Stills : List Operation → Type 0
  Stills [] = Unit {0}
  Stills (o ∷ ops) = Still o × Stills ops

  pub stills_cut : (m m' : Meaning) (ops : List Operation) → Stills ops → Whole w laws m → CutWithin m ops m' → Whole w laws m' × Shrinks w laws m m'
  stills_cut m m' [] k h c = absurd c
  stills_cut m m' (o ∷ ops) k h (inl c) = (cut_whole w laws h c, cut_still k.0 h c)
  stills_cut m m' (o ∷ ops) k h (inr c) =
      let i = stills_cut c.0 m' ops k.1 (did_whole w laws h c.1) c.2 in
      (i.0, λ t r a. did_still k.0 h c.1 t r (i.1 t r a))

  pub whole_of : {l : Watch} {x : State S} → Inv w laws l x → Whole w laws x.device
  whole_of {l} {x} i = (covers w laws l x x.phase i.at).safe.whole
