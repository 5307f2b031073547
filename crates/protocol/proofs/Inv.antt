-- The invariant between the ledger of a history and the exchange's state, by phase.
use Rattle.std.proofs.Common.{◌≡◌, ℕ, suc, ◌+◌, ◌<◌, ◌≤◌, Bool, true, false, cond, ◌&&◌, eqb, ltb, ◌⊎◌, List, [], ◌∷◌, ◌++◌, length, Some, None, Option, sym, refl, ap, ◌∙◌, subst, inl, inr, arith, length-append, ltb-true, lt-ltb, eq-eqb, eqb-true}
use mathlib.Core.List.{Memᴰ}
use Rattle.records.specs.LittleEndian.{le}
use Rattle.records.specs.Notices.{counted}
use Rattle.records.specs.Pages.{all_good}
use Rattle.records.specs.declared.commands.Command.{Command}
use Rattle.records.specs.declared.notices.Notice.{Notice}
use Rattle.device.specs.Meaning.{Meaning, bytes}
use Rattle.journal.specs.declared.slots.Slot.{Slot}
use Rattle.protocol.specs.declared.phases.Phase.{Phase}
use Rattle.protocol.specs.declared.phases.Phase.TheVariants.{Live, Written, Dark, Replaying}
use Rattle.protocol.specs.Worlds.{N, World, after, given, sector}
use Rattle.protocol.specs.Steps.{Handed, State, reset, applied, receipt, handed}
use Rattle.protocol.specs.Promises.{Pages, flat, Sent, added, market_after, notices_count, record_notices, OfRecord, RunsOver}
use Rattle.protocol.proofs.Codecs.{Laws}
use Rattle.protocol.proofs.Lists.{flat_snoc, counted_append, after_append, given_append}
use Rattle.protocol.proofs.Safe.{Whole, Shrinks, Single, page_after, NextFits, Clean, Safe, Settled, Rising, rising_shrinks, safe_shrinks, Rested}
use Rattle.protocol.proofs.Watches.{Opening, Watch, watch_broken}

module _ {S : Type 0} (w : World S) (laws : Laws w) where
  pub record AtLive (l : Watch) (x : State S) : Type 0 where
    pub front : Pages
    pub rested : Rested w laws l.kept l.sent l.highest x.device x.slot front
    pub covered : x.covered ≡ length front
    pub over : RunsOver w l.kept x
    pub staged : x.staged ≡ l.draft
    pub clean : Clean w laws l.kept x.device
    pub few : length l.draft ≤ 16
    pub each : all_good l.draft ≡ true
    pub limit : length (flat l.kept) + length l.draft ≤ N

  pub record AtWritten (l : Watch) (x : State S) : Type 0 where
    pub front : Pages
    pub rested : Rested w laws l.kept l.sent l.highest x.device x.slot front
    pub covered : x.covered ≡ length front
    pub over : RunsOver w l.kept x
    pub draft : l.draft ≡ []
    pub fits : NextFits w laws l.kept x.staged
    pub sent : l.sent ≡ Some (record { number = suc (length l.kept); page = x.staged })
    pub there : x.device.reads (sector w (suc (length l.kept))) ≡ bytes (page_after w laws l.kept x.staged)

  pub record AtDark (l : Watch) (x : State S) : Type 0 where
    pub slot : Slot
    pub front : Pages
    pub safe : Safe w laws l.kept l.sent l.highest x.device slot front
    pub newer : Settled w laws x.device slot front ⊎ ((to : Pages) × Rising w laws l.kept l.highest x.device slot front to)
    pub draft : l.draft ≡ []

  pub record AtReplaying (l : Watch) (x : State S) : Type 0 where
    pub front : Pages
    pub rested : Rested w laws l.kept l.sent l.highest x.device x.slot front
    pub covered : x.covered ≡ length front
    pub single : Single w laws x.device
    pub done : Pages
    pub left : Pages
    pub split : l.kept ≡ done ++ left
    pub beyond : length front ≤ length done
    pub over : RunsOver w done x
    pub staged : x.staged ≡ []
    pub draft : l.draft ≡ []
    pub opening : Opening
    pub is : l.opening ≡ Some opening
    pub handed : (n : Notice) → Memᴰ n (record_notices w done) → opening.above < n.number.0 → Memᴰ n opening.handed

  abbrev pub At : Phase → Watch → State S → Type 0
  At Live l x = AtLive l x
  At Written l x = AtWritten l x
  At Dark l x = AtDark l x
  At Replaying l x = AtReplaying l x

  pub record Inv (l : Watch) (x : State S) : Type 0 where
    pub house : x.house ≡ w.house
    pub mark : x.mark ≤ l.highest
    pub at : At x.phase l x

  pub at_phase : {l : Watch} {x : State S} (p : Phase) → x.phase ≡ p → Inv l x → At p l x
  at_phase {l} {x} p e i = subst (λ q. At q l x) e i.at

  pub inv_at : (l : Watch) (x : State S) (p : Phase) → x.phase ≡ p → x.house ≡ w.house → x.mark ≤ l.highest → At p l x → Inv l x
  inv_at l x p e h m a = record { house = h; mark = m; at = subst (λ q. At q l x) (sym e) a }

  -- the slot that covers, in any phase
  pub record Covers (l : Watch) (m : Meaning) : Type 0 where
    pub slot : Slot
    pub front : Pages
    pub safe : Safe w laws l.kept l.sent l.highest m slot front
    pub newer : Settled w laws m slot front ⊎ ((to : Pages) × Rising w laws l.kept l.highest m slot front to)

  pub covers : (l : Watch) (x : State S) (p : Phase) → At p l x → Covers l x.device
  covers l x Live v = record { slot = x.slot; front = v.front; safe = v.rested.safe; newer = inl v.rested.settled }
  covers l x Written v = record { slot = x.slot; front = v.front; safe = v.rested.safe; newer = inl v.rested.settled }
  covers l x Dark v = record { slot = v.slot; front = v.front; safe = v.safe; newer = v.newer }
  covers l x Replaying v = record { slot = x.slot; front = v.front; safe = v.rested.safe; newer = inl v.rested.settled }

  pub covers_shrinks : {l : Watch} {m m' : Meaning} → Whole w laws m' → Shrinks w laws m m' → Covers l m → Covers l m'
  covers_shrinks {l} {m} {m'} wh le v = record { slot = v.slot; front = v.front; safe = safe_shrinks w laws wh le v.safe; newer = go v.newer }
    where
      go : Settled w laws m v.slot v.front ⊎ ((to : Pages) × Rising w laws l.kept l.highest m v.slot v.front to) → Settled w laws m' v.slot v.front ⊎ ((to : Pages) × Rising w laws l.kept l.highest m' v.slot v.front to)
      go (inl s) = inl (λ r h. s r (le _ r h))
      go (inr (to, s)) = inr (to, rising_shrinks w laws le s)

  -- a reset, whatever the phase was
  pub resets : {l : Watch} {m : Meaning} → Covers l m → Inv (watch_broken l) (reset w m)
  resets v = record { house = refl; mark = omega arith; at = record { slot = v.slot; front = v.front; safe = v.safe; newer = v.newer; draft = refl } }

  -- the counts and the market after one more page
  pub over_more : (ps : Pages) (p : List Command) → (notices_count w (ps ++ (p ∷ [])) ≡ notices_count w ps + length (given w (market_after w ps) p)) × (market_after w (ps ++ (p ∷ [])) ≡ after w (market_after w ps) p)
      × (record_notices w (ps ++ (p ∷ [])) ≡ record_notices w ps ++ handed w (notices_count w ps) (market_after w ps) p)
  over_more ps p =
      let e = flat_snoc ps p in
      let g = ap (given w w.rules.start) e ∙ given_append w laws w.rules.start (flat ps) p in
      (ap length g ∙ length-append (given w w.rules.start (flat ps)) (given w (market_after w ps) p), ap (after w w.rules.start) e ∙ after_append w laws w.rules.start (flat ps) p, ap (counted 0) g ∙ counted_append 0 (given w w.rules.start (flat ps)) (given w (market_after w ps) p) ∙ ap (λ k. record_notices w ps ++ counted k (given w (market_after w ps) p)) (omega arith))

  pub over_applied : {x : State S} (ps : Pages) (p : List Command) (ph : Phase) (m : Meaning) → RunsOver w ps x → RunsOver w (ps ++ (p ∷ [])) (applied w ph p m x)
  over_applied {x} ps p ph m o =
      let k = over_more ps p in
      record {
        pages = (let e = o.pages in let n = length-append ps (p ∷ []) in omega arith);
        commands = (let e = o.commands in let n = ap length (flat_snoc ps p) ∙ length-append (flat ps) p in omega arith);
        notices = (λ i. o.notices i + length (given w (o.market i) p)) ∙ sym k.0;
        market = ap (λ s. after w s p) o.market ∙ sym k.1;
      }

  -- the receipt of the page that follows a front of the record
  pub of_record : {x : State S} (ps : Pages) (p : List Command) (ls : Pages) (kept : Pages) → RunsOver w ps x → kept ≡ ps ++ (p ∷ ls) → (h : Handed)
      → h.receipt ≡ receipt w x.pages x.commands x.notices x.market p → h.notices ≡ handed w x.notices x.market p → OfRecord w kept h
  of_record ps p ls kept o e h er en = record {
    earlier = ps;
    page = p;
    later = ls;
    split = e;
    receipt = er ∙ (λ i. receipt w (o.pages i) (o.commands i) (o.notices i) (o.market i) p);
    notices = en ∙ (λ i. handed w (o.notices i) (o.market i) p);
  }

-- what a receipt adds to the record
pub added_next : (kept : Pages) (page : List Command) (n : ℕ) → n ≡ suc (length kept) → added n (Some (record { number = suc (length kept); page = page })) kept ≡ kept ++ (page ∷ [])
added_next kept page n e = rw (eq-eqb n (suc (length kept)) e, lt-ltb (length kept) (suc (length kept)) (omega arith)) refl

pub added_old : (kept : Pages) (sent : Option Sent) (n : ℕ) → n ≤ length kept → added n sent kept ≡ kept
added_old kept None n l = refl
added_old kept (Some s) n l = go (eqb n s.number) (ltb (length kept) s.number) refl refl
  where
    go : (a b : Bool) → eqb n s.number ≡ a → ltb (length kept) s.number ≡ b → cond (eqb n s.number && ltb (length kept) s.number) (kept ++ (s.page ∷ [])) kept ≡ kept
    go true true ea eb = absurd (let h1 = eqb-true n s.number ea in let h2 = ltb-true (length kept) s.number eb in omega arith)
    go true false ea eb = rw (ea, eb) refl
    go false b ea eb = rw ea refl
