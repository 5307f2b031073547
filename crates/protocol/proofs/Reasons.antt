-- What is known when no reason fits, and which reasons can be given.
use Rattle.std.proofs.Common.{◌≡◌, ℕ, suc, ◌+◌, ◌<◌, ◌≤◌, Bool, true, false, ◌≢◌, List, [], ◌∷◌, length, Some, sym, refl, subst, true≢false, arith, ltb-false, leb-false}
use Rattle.std.proofs.lemmas.Bool.{or_parts}
use Rattle.std.proofs.lemmas.Option.{same_Some}
use borrow.Author.Tests.{eqb-false}
use Rattle.records.specs.declared.refusals.Refusal.{Refusal}
use Rattle.records.proofs.SectorLaws.{none_some}
use Rattle.journal.specs.Places.{journal}
use Rattle.protocol.specs.declared.phases.Phase.{Phase}
use Rattle.protocol.specs.declared.phases.Phase.TheVariants.{Live, Written, Dark, Replaying}
use Rattle.protocol.specs.declared.tokens.TicketNumbers.{TicketNumbers}
use Rattle.protocol.specs.declared.tokens.ReceiptNumbers.{ReceiptNumbers}
use Rattle.protocol.specs.declared.faults.ExchangeFault.{ExchangeFault}
use Rattle.protocol.specs.Faults.{reason_of, plain, first_fit}
use Rattle.protocol.specs.Worlds.{N, World}
use Rattle.protocol.specs.Steps.{State, not_in, Allowed, open_reasons, stage_reasons, write_reasons, sync_reasons, deliver_reasons, snapshot_reasons, replay_reasons}
use Rattle.protocol.proofs.Codecs.{Laws}

-- no reason fits: each test fails
abbrev AllFail : List (Bool × Refusal) → Type 0
AllFail [] = Unit {0}
AllFail ((test, r) ∷ rs) = (test ≡ false) × AllFail rs

none_fits : (rs : List (Bool × Refusal)) → Allowed rs → AllFail rs
none_fits [] a = tt
none_fits ((true, r) ∷ rs) a = none_some r (sym a)
none_fits ((false, r) ∷ rs) a = (refl, none_fits rs a)

in_phase : (p q : Phase) → not_in p q ≡ false → q ≡ p
in_phase Live Live e = refl
in_phase Live Written e = absurd (true≢false e)
in_phase Live Dark e = absurd (true≢false e)
in_phase Live Replaying e = absurd (true≢false e)
in_phase Written Live e = absurd (true≢false e)
in_phase Written Written e = refl
in_phase Written Dark e = absurd (true≢false e)
in_phase Written Replaying e = absurd (true≢false e)
in_phase Dark Live e = absurd (true≢false e)
in_phase Dark Written e = absurd (true≢false e)
in_phase Dark Dark e = refl
in_phase Dark Replaying e = absurd (true≢false e)
in_phase Replaying Live e = absurd (true≢false e)
in_phase Replaying Written e = absurd (true≢false e)
in_phase Replaying Dark e = absurd (true≢false e)
in_phase Replaying Replaying e = refl

module _ {S : Type 0} (w : World S) (laws : Laws w) where
  pub record Stages (x : State S) : Type 0 where
    pub phase : x.phase ≡ Live
    pub few : length x.staged < 16
    pub limit : x.commands + length x.staged < N

  pub stages : (x : State S) (bs : List ℕ) → Allowed (stage_reasons w x bs) → Stages x
  stages x bs a =
      let t = none_fits (stage_reasons w x bs) a in
      let h₁ = leb-false 16 (length x.staged) t.1.1.0 in
      let h₂ = leb-false N (x.commands + length x.staged) t.1.1.1.0 in
      record { phase = in_phase Live x.phase t.0; few = omega arith; limit = omega arith }

  pub record Writes (x : State S) : Type 0 where
    pub phase : x.phase ≡ Live
    pub staged : 1 ≤ length x.staged
    pub room : suc x.pages ≤ x.covered + journal w.size

  pub writes : (x : State S) → Allowed (write_reasons w x) → Writes x
  writes x a =
      let t = none_fits (write_reasons w x) a in
      let h₁ = eqb-false (length x.staged) 0 t.1.0 in
      let h₂ = ltb-false (x.covered + journal w.size) (suc x.pages) t.1.1.0 in
      record { phase = in_phase Live x.phase t.0; staged = omega arith; room = omega arith }

  pub syncs : (x : State S) (t : TicketNumbers) (room : ℕ) → Allowed (sync_reasons w x t room) → x.phase ≡ Written
  syncs x t room a = in_phase Written x.phase (none_fits (sync_reasons w x t room) a).0

  -- a receipt that deliver keeps begins no higher than one above the mark
  pub may_deliver : (x : State S) (r : ReceiptNumbers) → Allowed (deliver_reasons w x r) → r.notice.0 ≤ suc x.mark
  may_deliver x r a = ltb-false (suc x.mark) r.notice.0 (or_parts _ _ (or_parts _ _ (none_fits (deliver_reasons w x r) a).0).1).0

  pub record Snapshots (x : State S) : Type 0 where
    pub phase : x.phase ≡ Live
    pub newer : x.covered ≢ x.pages
    pub delivered : x.notices ≤ x.mark

  pub snapshots : (x : State S) → Allowed (snapshot_reasons w x) → Snapshots x
  snapshots x a =
      let t = none_fits (snapshot_reasons w x) a in
      record { phase = in_phase Live x.phase t.0; newer = eqb-false x.covered x.pages t.1.0; delivered = ltb-false x.mark x.notices t.1.1.0 }

  pub may_open : (x : State S) → Allowed (open_reasons w x) → x.phase ≡ Dark
  may_open x a = in_phase Dark x.phase (none_fits (open_reasons w x) a).1.1.0

  pub may_replay : (x : State S) (room : ℕ) → Allowed (replay_reasons w x room) → x.phase ≡ Replaying
  may_replay x room a = in_phase Replaying x.phase (none_fits (replay_reasons w x room) a).0

-- a reason after which nothing has changed
abbrev pub Ordinary : ExchangeFault → Type 0
Ordinary f = (reason_of f ≢ 15) × (reason_of f ≢ 17) × (reason_of f ≢ 18) × (reason_of f ≢ 19)

abbrev pub AllOrdinary : List (Bool × Refusal) → Type 0
AllOrdinary [] = Unit {0}
AllOrdinary ((test, r) ∷ rs) = Ordinary (plain r) × AllOrdinary rs

first_ordinary : (rs : List (Bool × Refusal)) → AllOrdinary rs → (r : Refusal) → first_fit rs ≡ Some r → Ordinary (plain r)
first_ordinary [] a r e = none_some r e
first_ordinary ((true, q) ∷ rs) a r e = subst (λ z. Ordinary (plain z)) (same_Some q r e) a.0
first_ordinary ((false, q) ∷ rs) a r e = first_ordinary rs a.1 r e

pub ordinary : (rs : List (Bool × Refusal)) → AllOrdinary rs → (f : ExchangeFault) (r : Refusal) → first_fit rs ≡ Some r → f ≡ plain r → Ordinary f
ordinary rs a f r e s = subst Ordinary (sym s) (first_ordinary rs a r e)
