-- What open and replay meet on the device.
use Rattle.std.proofs.Common.{◌≡◌, ℕ, suc, true, [], ◌∷◌, Err, sym, refl, ap, ◌∙◌, subst, inl, inr}
use Rattle.device.specs.Meaning.{Meaning, Lawful}
use Rattle.device.specs.Runs.{Ran}
use Rattle.device.specs.declared.fault.DeviceFault.TheVariants.{OutOfRange, Cut, Torn}
use Rattle.device.specs.declared.run.Operation.TheVariants as op
use Rattle.journal.specs.declared.choosing.SlotHeader.{SlotHeader}
use Rattle.protocol.specs.declared.faults.ExchangeFault.{ExchangeFault}
use Rattle.protocol.specs.declared.faults.JournalFault.{JournalFault}
use Rattle.protocol.specs.declared.faults.JournalFault.TheVariants as fault
use Rattle.protocol.specs.Faults.{of_journal}
use Rattle.protocol.specs.Worlds.{World, page_head}
use Rattle.protocol.specs.Steps.{State, Allowed, Fails, broke, reset, open_reasons, replay_reasons, OpenFails, ReplayFails, next_sector, loaded}
use Rattle.journal_io.specs.Opening.{Opens}
use Rattle.journal_io.specs.Paging.{PageFound}

module _ {S : Type 0} (w : World S) (x x' : State S) (n : Meaning) (s : S) where
  -- a body that is not taken
  not_taken : (f : JournalFault) (e : ExchangeFault) (h : SlotHeader) → loaded w n h ≡ Err (of_journal f) → e ≡ of_journal f → loaded w n h ≡ Err e
  not_taken f e h l q = l ∙ ap Err (sym q)

  pub open_fails : (f : JournalFault) (e : ExchangeFault) → Allowed (open_reasons w x) → Lawful n → Opens w x.device (Err f) n s → e ≡ of_journal f → x' ≡ reset w n → Fails w (open_reasons w x) (OpenFails w x) e x x'
  open_fails (fault.Device (Cut t)) e a l o q r = broke a n l (inl (t, q, o)) r
  open_fails (fault.Device (OutOfRange t)) e a l o q r = absurd o
  open_fails (fault.Device (Torn t)) e a l o q r = broke a n l (inr (inr (o.did, (o.head, o.chosen, not_taken (fault.Device (Torn t)) e o.head o.load q)))) r
  open_fails fault.NoHeader e a l o q r = broke a n l (inr (inl (q, o.0, o.1))) r
  open_fails (fault.Refused t) e a l o q r = broke a n l (inr (inr (o.did, (o.head, o.chosen, not_taken (fault.Refused t) e o.head o.load q)))) r
  open_fails (fault.OtherLast t) e a l o q r = broke a n l (inr (inr (o.did, (o.head, o.chosen, not_taken (fault.OtherLast t) e o.head o.load q)))) r
  open_fails (fault.BadPage t) e a l o q r = absurd o

-- a read that changed nothing
idle : (m n : Meaning) (at : ℕ) → Lawful n → n ≡ m → m.lit ≡ true → Ran m (op.Read at ∷ []) n
idle m n at l e on = (n, l, (λ _. on, e), refl)

pub idle_here : (m n : Meaning) (at : ℕ) → Lawful n → n ≡ m → m.lit ≡ true → Ran m (op.Read at ∷ []) m
idle_here m n at l e on = subst (Ran m (op.Read at ∷ [])) e (idle m n at l e on)

module _ {S : Type 0} (w : World S) (x x' : State S) (n : Meaning) (room : ℕ) where
  pub replay_fails : (f : JournalFault) (e : ExchangeFault) → Allowed (replay_reasons w x room) → Lawful n → PageFound x.device (next_sector w x) (page_head w (suc x.pages) (suc x.commands)) (Err f) n → e ≡ of_journal f → x' ≡ reset w n →
      Fails w (replay_reasons w x room) (ReplayFails w x) e x x'
  replay_fails (fault.Device (Cut t)) e a l o q r = broke a n l (inl (t, q, o)) r
  replay_fails (fault.Device (OutOfRange t)) e a l o q r = absurd o
  replay_fails (fault.Device (Torn t)) e a l o q r = absurd o
  replay_fails fault.NoHeader e a l o q r = absurd o
  replay_fails (fault.Refused t) e a l o q r = absurd o
  replay_fails (fault.OtherLast t) e a l o q r = absurd o
  replay_fails (fault.BadPage t) e a l (at, o) q r =
      broke a n l (inr (record { fault = q ∙ ap (λ s. of_journal (fault.BadPage s)) at; same = o.same; did = idle x.device n (next_sector w x) l o.same o.lit; content = o.content; there = o.here; looks = o.looks; bad = o.bad })) r
