-- The events of a log.
use Rattle.std.specs.Prelude.{◌≡◌, List, [], ◌∷◌, Some, None, Ok, Err, vec_items, Option, Result}
use Rattle.market.specs.declared.interface.Market as market
use Rattle.device.specs.declared.Device as device
use Rattle.protocol.specs.declared.faults.ExchangeFault.{ExchangeFault}
use Rattle.protocol.specs.Steps.{Handed, Event}
use Rattle.protocol.specs.Steps as steps
use Rattle.protocol.specs.Promises.{History}
use Rattle.exchange.specs.declared.state.Exchange.{Exchange}
use Rattle.exchange.specs.Views.{view, Called}
use Rattle.runner.specs.declared.log.HandedOut.{HandedOut}
use Rattle.runner.specs.declared.log.Entry.{Entry}
use Rattle.runner.specs.declared.log.Entry.TheVariants as entry

abbrev pub handed_out : HandedOut → Handed
handed_out h = record { receipt = h.receipt; notices = vec_items h.notices }

abbrev pub sync_answer : Result HandedOut ExchangeFault → Result Handed ExchangeFault
sync_answer (Ok h) = Ok (handed_out h)
sync_answer (Err f) = Err f

abbrev pub replay_answer : Result (Option HandedOut) ExchangeFault → Result (Option Handed) ExchangeFault
replay_answer (Ok (Some h)) = Ok (Some (handed_out h))
replay_answer (Ok None) = Ok None
replay_answer (Err f) = Err f

-- the event that an entry tells of; none where no call was made
abbrev pub event_of : Entry → Option Event
event_of (entry.Stage bs a) = Some (steps.Stage (vec_items bs) a)
event_of (entry.Write a) = Some (steps.Write a)
event_of (entry.Sync t room a) = Some (steps.Sync t room (sync_answer a))
event_of (entry.Deliver r a) = Some (steps.Deliver r a)
event_of (entry.Shelve r) = Some (steps.Shelve r)
event_of (entry.Snapshot a) = Some (steps.Snapshot a)
event_of entry.Restart = Some steps.Restart
event_of (entry.Open a) = Some (steps.Open a)
event_of (entry.Replay room a) = Some (steps.Replay room (replay_answer a))
event_of entry.Spent = None

abbrev pub noted : Option Event → History → History
noted None h = h
noted (Some e) h = e ∷ h

-- the history after a log, whose first entry is the oldest
abbrev pub history_on : List Entry → History → History
history_on [] h = h
history_on (e ∷ es) h = history_on es (noted (event_of e) h)

abbrev pub history : List Entry → History
history es = history_on es []

-- the exchange did what the entry tells; where no call was made, nothing
module _ {M D : Type 0} (m : market.Ghosts M) (d : device.Ghosts D) where
  abbrev pub ByEvent : Exchange M D → Option Event → Exchange M D → Type 0
  ByEvent x (Some e) y = Called m d x e y
  ByEvent x None y = view m d y ≡ view m d x

  abbrev pub Told : Exchange M D → Entry → Exchange M D → Type 0
  Told x e y = ByEvent x (event_of e) y
