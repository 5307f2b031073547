-- A call that is not allowed gives the first reason that fits, and changes nothing.
use Rattle.std.proofs.Common.{◌≡◌, ℕ, List, IsErrAnd, Some, Ok, Err, Option, Result, refl}
use Rattle.records.specs.declared.numbers.CommandNumber.{CommandNumber}
use Rattle.records.specs.declared.numbers.PageNumber.{PageNumber}
use Rattle.records.specs.declared.refusals.Refusal.{Refusal}
use Rattle.protocol.specs.declared.faults.ExchangeFault.{ExchangeFault}
use Rattle.records.specs.declared.notices.Notice.{Notice}
use Rattle.exchange.specs.declared.tokens.Ticket.{Ticket}
use Rattle.exchange.specs.declared.tokens.Receipt.{Receipt}
use Rattle.exchange.specs.Answers.{ticket_said, replay_said, ReplayList}
use Rattle.protocol.specs.Faults.{plain, first_fit}
use Rattle.protocol.specs.Worlds.{Rules, World}
use Rattle.protocol.specs.Steps.{State, Stage, Write, Snapshot, Open, Replay, Step, SetsUp, world_of, refused, stage_reasons, write_reasons, snapshot_reasons, open_reasons, replay_reasons}

module _ {S : Type 0} (w : World S) (x : State S) (r : Refusal) where
  pub stage_refused : (bs : List ℕ) (a : Result CommandNumber ExchangeFault) → first_fit (stage_reasons w x bs) ≡ Some r → IsErrAnd a (λ y. y ≡ plain r) → Step w x (Stage bs a) x
  stage_refused bs (Ok n) f e = absurd e
  stage_refused bs (Err y) f e = refused r f e refl

  pub write_refused : (a : Result Ticket ExchangeFault) → first_fit (write_reasons w x) ≡ Some r → IsErrAnd a (λ y. y ≡ plain r) → Step w x (Write (ticket_said a)) x
  write_refused (Ok n) f e = absurd e
  write_refused (Err y) f e = refused r f e refl

  pub snapshot_refused : (a : Result (Unit {0}) ExchangeFault) → first_fit (snapshot_reasons w x) ≡ Some r → IsErrAnd a (λ y. y ≡ plain r) → Step w x (Snapshot a) x
  snapshot_refused (Ok n) f e = absurd e
  snapshot_refused (Err y) f e = refused r f e refl

  pub open_refused : (a : Result PageNumber ExchangeFault) → first_fit (open_reasons w x) ≡ Some r → IsErrAnd a (λ y. y ≡ plain r) → Step w x (Open a) x
  open_refused (Ok n) f e = absurd e
  open_refused (Err y) f e = refused r f e refl

  pub replay_refused : (room : ℕ) (list : List Notice) (a : Result (Option Receipt) ExchangeFault) → first_fit (replay_reasons w x room) ≡ Some r → IsErrAnd a (λ y. y ≡ plain r) → Step w x (Replay room (replay_said a list)) x
  replay_refused room list (Ok n) f e = absurd e
  replay_refused room list (Err y) f e = refused r f e refl

pub replay_list_refused : (list : List Notice) (r : Refusal) (a : Result (Option Receipt) ExchangeFault) → IsErrAnd a (λ y. y ≡ plain r) → ReplayList list a list
replay_list_refused list r (Ok n) e = absurd e
replay_list_refused list r (Err y) e = refl

pub set_up_refused : {S : Type 0} (rules : Rules S) (x : State S) (r : Refusal) (a : Result (Unit {0}) ExchangeFault) → first_fit (open_reasons (world_of rules x) x) ≡ Some r → IsErrAnd a (λ y. y ≡ plain r) → SetsUp rules x a x
set_up_refused rules x r (Ok n) f e = absurd e
set_up_refused rules x r (Err y) f e = refused r f e refl
