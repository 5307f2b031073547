-- What is promised of an entry of a log.
use Rattle.std.specs.Prelude.{Some, None, Option}
use Rattle.protocol.specs.Worlds.{World}
use Rattle.protocol.specs.Steps.{Event}
use Rattle.protocol.specs.Promises.{Pages, Kept}
use Rattle.runner.specs.declared.log.Entry.{Entry}
use Rattle.runner.specs.Events.{event_of}

-- nothing, where no call was made
abbrev pub KeptEvent : {S : Type 0} → World S → Pages → Option Event → Type 0
KeptEvent w kept None = Unit {0}
KeptEvent w kept (Some e) = Kept w kept e

unfoldable pub KeptEntry : {S : Type 0} → World S → Pages → Entry → Type 0
KeptEntry w kept entry = KeptEvent w kept (event_of entry)
