-- A call whose device call is cut answers that, and resets the exchange; and what becomes of tokens and lists.
use Rattle.std.proofs.Common.{◌≡◌, ℕ, Bool, true, ◌⊎◌, List, ◌++◌, length, take, Err, sym, ap, ◌∙◌, subst, inl, inr, arith}
use Rattle.std.proofs.lemmas.List.{take_at}
use Rattle.records.specs.Notices.{counted}
use Rattle.records.specs.declared.notices.Notice.{Notice}
use Rattle.records.specs.declared.refusals.Refusal.{Refusal}
use Rattle.records.specs.declared.refusals.Refusal.TheVariants.{WrongPhase, ShortList, WrongTicket}
use Rattle.market.specs.Lists.{over}
use Rattle.batches.proofs.Fronts.{length_counted}
use Rattle.device.specs.Meaning.{Meaning, Lawful}
use Rattle.device.specs.declared.fault.DeviceFault.TheVariants.{OutOfRange, Cut, Torn}
use Rattle.device.specs.declared.run.Operation.{Operation}
use Rattle.protocol.specs.declared.faults.ExchangeFault.{ExchangeFault}
use Rattle.protocol.specs.declared.faults.JournalFault.{JournalFault}
use Rattle.protocol.specs.declared.faults.JournalFault.TheVariants as fault
use Rattle.protocol.specs.Faults.{plain, of_journal, reason_of}
use Rattle.protocol.specs.Worlds.{World, Fits, header_for}
use Rattle.protocol.specs.Steps.{State, Allowed, Fails, broke, CutShort, reset, blanks, body_ops, seal_ops, set_up_ops}
use Rattle.journal_io.specs.Running.{Running, snapshot_writes, first_writes}
use Rattle.journal.specs.Places.{journal, size_good}
use Rattle.journal.specs.declared.slots.Slot.{Slot}
use Rattle.journal.specs.declared.slots.Slot.TheVariants.{Zero}
use Rattle.records.specs.Headers.{header_fits}
use Rattle.records.specs.Sectors.{fits_in}
use Rattle.records.specs.declared.headers.Header.{Header}
use Rattle.std.proofs.lemmas.Bool.{and_parts}

pub cut_off : {S : Type 0} (w : World S) (rs : List (Bool × Refusal)) (x x' : State S) (m n : Meaning) (ops : List Operation) (f : JournalFault) (e : ExchangeFault) →
    Allowed rs → Lawful n → Running m ops (Err f) n → e ≡ of_journal f → x' ≡ reset w n → Fails w rs (CutShort w m ops) e x x'
cut_off w rs x x' m n ops (fault.Device (Cut s)) e a l c q r = broke a n l (s, q, c) r
cut_off w rs x x' m n ops (fault.Device (OutOfRange s)) e a l c q r = absurd c
cut_off w rs x x' m n ops (fault.Device (Torn s)) e a l c q r = absurd c
cut_off w rs x x' m n ops fault.NoHeader e a l c q r = absurd c
cut_off w rs x x' m n ops (fault.Refused s) e a l c q r = absurd c
cut_off w rs x x' m n ops (fault.OtherLast s) e a l c q r = absurd c
cut_off w rs x x' m n ops (fault.BadPage s) e a l c q r = absurd c

-- a cut is neither reason 9 nor 10
pub cut_spends : (m n : Meaning) (ops : List Operation) (f : JournalFault) (e : ExchangeFault) → Running m ops (Err f) n → e ≡ of_journal f → (reason_of e ≡ 9 → ⊥) × (reason_of e ≡ 10 → ⊥)
cut_spends m n ops (fault.Device (Cut s)) e c q = let k : reason_of e ≡ 15 = ap reason_of q in (λ h. omega arith, λ h. omega arith)
cut_spends m n ops (fault.Device (OutOfRange s)) e c q = absurd c
cut_spends m n ops (fault.Device (Torn s)) e c q = absurd c
cut_spends m n ops fault.NoHeader e c q = absurd c
cut_spends m n ops (fault.Refused s) e c q = absurd c
cut_spends m n ops (fault.OtherLast s) e c q = absurd c
cut_spends m n ops (fault.BadPage s) e c q = absurd c

pub phase_spends : (e : ExchangeFault) → e ≡ plain WrongPhase → (reason_of e ≡ 9 → ⊥) × (reason_of e ≡ 10 → ⊥)
phase_spends e q = let k : reason_of e ≡ 3 = ap reason_of q in (λ h. omega arith, λ h. omega arith)

-- the two reasons after which a ticket comes back
pub ticket_comes_back : (r : Refusal) (e : ExchangeFault) → (r ≡ WrongPhase → ⊥) → (r ≡ WrongPhase) ⊎ ((r ≡ ShortList) ⊎ (r ≡ WrongTicket)) → e ≡ plain r → (reason_of e ≡ 9) ⊎ (reason_of e ≡ 10)
ticket_comes_back r e n (inl k) q = absurd (n k)
ticket_comes_back r e n (inr (inl k)) q = inl (ap reason_of (q ∙ ap plain k))
ticket_comes_back r e n (inr (inr k)) q = inr (ap reason_of (q ∙ ap plain k))

-- the notices that were counted over the front of a list
pub front_taken : (before after vs : List Notice) (k n : ℕ) → n ≡ length vs → after ≡ over before (counted k vs) → take n after ≡ counted k vs
front_taken before after vs k n l e = ap (take n) e ∙ take_at (counted k vs) _ n (length_counted k vs ∙ sym l)

pub front_over : (before after vs : List Notice) (k n : ℕ) → n ≡ length vs → after ≡ over before (counted k vs) → after ≡ over before (take n after)
front_over before after vs k n l e = e ∙ ap (over before) (sym (front_taken before after vs k n l e))

-- what a snapshot writes, from the bytes and the header that it was given
pub writes_are : {S : Type 0} (w : World S) (t u : Slot) (s : S) (pages commands notices : ℕ) (b : List ℕ) (h : Header) → t ≡ u → b ≡ w.rules.body s → h ≡ header_for w pages commands notices → snapshot_writes t b h ≡ body_ops w u s ++ seal_ops w u pages commands notices
writes_are w t u s pages commands notices b h e f k = (λ i. snapshot_writes (e i) (f i) (k i))

-- and what a set-up writes
pub first_are : {S : Type 0} (w : World S) (j : ℕ) (s : S) (b : List ℕ) (h : Header) → j ≡ journal w.size → s ≡ w.rules.start → b ≡ w.rules.body s → h ≡ header_for w 0 0 0 → (first_writes ++ blanks 8 j) ++ snapshot_writes Zero b h ≡ set_up_ops w
first_are w j s b h e q f k = (λ i. (first_writes ++ blanks 8 (e i)) ++ snapshot_writes Zero ((f ∙ ap w.rules.body q) i) (k i))

-- the numbers of a world have room in its first header
pub world_fits : {S : Type 0} (w : World S) (h : Header) → h ≡ header_for w 0 0 0 → header_fits h ≡ true → size_good w.size ≡ true → Fits w
world_fits w h e f z =
    let k = subst (λ z. header_fits z ≡ true) e f in
    let a = and_parts (fits_in 4 w.house.0) _ k in
    let b = and_parts (fits_in 8 0) _ a.1 in
    let c = and_parts (fits_in 8 0) _ b.1 in
    let d = and_parts (fits_in 8 0) (fits_in 2 w.rules.code) c.1 in
    record { house = a.0; code = d.1; size = z }
