-- What an answer says, without the token in it, and which tokens come back.
use Rattle.std.specs.Prelude.{◌≡◌, ◌⊎◌, List, take, Some, None, Ok, Err, Option, Result, ◌≢◌}
use Rattle.records.specs.declared.notices.Notice.{Notice}
use Rattle.market.specs.Lists.{over}
use Rattle.protocol.specs.declared.tokens.TicketNumbers.{TicketNumbers}
use Rattle.protocol.specs.declared.faults.ExchangeFault.{ExchangeFault}
use Rattle.protocol.specs.Faults.{reason_of}
use Rattle.protocol.specs.Steps.{Handed}
use Rattle.exchange.specs.declared.tokens.Ticket.{Ticket}
use Rattle.exchange.specs.declared.tokens.Receipt.{Receipt}
use Rattle.exchange.specs.declared.tokens.SyncRefusal.{SyncRefusal}
use Rattle.exchange.specs.declared.tokens.SyncRefusal.TheVariants.{Back, Spent}
use Rattle.exchange.specs.declared.tokens.DeliverRefusal.{DeliverRefusal}

abbrev pub ticket_said : Result Ticket ExchangeFault → Result TicketNumbers ExchangeFault
ticket_said (Ok t) = Ok t.numbers
ticket_said (Err f) = Err f

-- a receipt, with the notices in the front of the lent list
abbrev pub handed_with : Receipt → List Notice → Handed
handed_with r list = record { receipt = r.numbers; notices = take r.numbers.notices list }

abbrev pub sync_said : Result Receipt SyncRefusal → List Notice → Result Handed ExchangeFault
sync_said (Ok r) list = Ok (handed_with r list)
sync_said (Err (Back t f)) list = Err f
sync_said (Err (Spent f)) list = Err f

abbrev pub replay_said : Result (Option Receipt) ExchangeFault → List Notice → Result (Option Handed) ExchangeFault
replay_said (Ok (Some r)) list = Ok (Some (handed_with r list))
replay_said (Ok None) list = Ok None
replay_said (Err f) list = Err f

abbrev pub deliver_said : Result (Unit {0}) DeliverRefusal → Result (Unit {0}) ExchangeFault
deliver_said (Ok u) = Ok u
deliver_said (Err e) = Err e.fault

-- after reasons 9 and 10 the ticket comes back, the one that was handed in; after any other it is spent
abbrev pub TicketBack : Ticket → Result Receipt SyncRefusal → Type 0
TicketBack t (Ok r) = Unit {0}
TicketBack t (Err (Back u f)) = (u ≡ t) × ((reason_of f ≡ 9) ⊎ (reason_of f ≡ 10))
TicketBack t (Err (Spent f)) = (reason_of f ≢ 9) × (reason_of f ≢ 10)

-- a receipt that is not delivered comes back
abbrev pub ReceiptBack : Receipt → Result (Unit {0}) DeliverRefusal → Type 0
ReceiptBack r (Ok u) = Unit {0}
ReceiptBack r (Err e) = e.receipt ≡ r

-- what a lent list holds then: the notices that came with a receipt over its front, and else what it held
abbrev pub SyncList : List Notice → Result Receipt SyncRefusal → List Notice → Type 0
SyncList before (Ok r) after = after ≡ over before (take r.numbers.notices after)
SyncList before (Err e) after = after ≡ before

abbrev pub ReplayList : List Notice → Result (Option Receipt) ExchangeFault → List Notice → Type 0
ReplayList before (Ok (Some r)) after = after ≡ over before (take r.numbers.notices after)
ReplayList before (Ok None) after = after ≡ before
ReplayList before (Err f) after = after ≡ before
