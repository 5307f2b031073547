-- Openings that are under way, and whether each that reached live has handed out what was awaited.
use Rattle.std.specs.Prelude.{◌<◌, cond, List, [], ◌∷◌, ◌++◌, length, drop, Some, None, Ok, Err, Result}
use mathlib.Core.List.{Memᴰ}
use Rattle.records.specs.declared.notices.Notice.{Notice}
use Rattle.protocol.specs.declared.faults.ExchangeFault.{ExchangeFault}
use Rattle.protocol.specs.Worlds.{World}
use Rattle.audit.specs.declared.checks.Opening.{Opening}
use Rattle.protocol.specs.Steps.{Event, Stage, Write, Sync, Deliver, Shelve, Snapshot, Restart, Open, Replay}
use Rattle.protocol.specs.Promises.{History, Pages, is_cut, recorded, highest_delivered, handed_out, record_notices}

-- a 15 ends every opening
abbrev pub if_uncut : ExchangeFault → List Opening → List Opening
if_uncut f os = cond (is_cut f) [] os

abbrev pub if_calm : {X : Type 0} → Result X ExchangeFault → List Opening → List Opening
if_calm (Ok x) os = os
if_calm (Err f) os = if_uncut f os

-- the openings under way after an event, of those before it: an open that answers a page begins one, a restart or a 15 ends all
abbrev pub goes_on : Event → Opening → List Opening → List Opening
goes_on (Stage bs a) new os = if_calm a os
goes_on (Write a) new os = if_calm a os
goes_on (Sync t room a) new os = if_calm a os
goes_on (Deliver r a) new os = if_calm a os
goes_on (Shelve r) new os = os
goes_on (Snapshot a) new os = if_calm a os
goes_on Restart new os = []
goes_on (Open (Ok p)) new os = os ++ (new ∷ [])
goes_on (Open (Err f)) new os = if_uncut f os
goes_on (Replay room a) new os = if_calm a os

abbrev pub under_way : History → List Opening
under_way [] = []
under_way (e ∷ h) = goes_on e (record { above = highest_delivered h; from = length (handed_out h) }) (under_way h)

module _ {S : Type 0} (w : World S) where
  -- every notice of the record above the highest delivered is among those that were handed out since the opening
  abbrev pub Served : Pages → List Notice → Opening → Type 0
  Served kept handed o = (n : Notice) → Memᴰ n (record_notices w kept) → o.above < n.number.0 → Memᴰ n (drop o.from handed)

  abbrev pub AllServed : Pages → List Notice → List Opening → Type 0
  AllServed kept handed os = (o : Opening) → Memᴰ o os → Served kept handed o

  -- where a replay answers none, all openings under way have handed out what was awaited
  abbrev pub ServesAt : Event → History → Type 0
  ServesAt (Stage bs a) h = Unit {0}
  ServesAt (Write a) h = Unit {0}
  ServesAt (Sync t room a) h = Unit {0}
  ServesAt (Deliver r a) h = Unit {0}
  ServesAt (Shelve r) h = Unit {0}
  ServesAt (Snapshot a) h = Unit {0}
  ServesAt Restart h = Unit {0}
  ServesAt (Open a) h = Unit {0}
  ServesAt (Replay room (Ok (Some x))) h = Unit {0}
  ServesAt (Replay room (Ok None)) h = AllServed (recorded h) (handed_out h) (under_way h)
  ServesAt (Replay room (Err f)) h = Unit {0}

  abbrev pub Serves : History → Type 0
  Serves [] = Unit {0}
  Serves (e ∷ h) = Serves h × ServesAt e h
