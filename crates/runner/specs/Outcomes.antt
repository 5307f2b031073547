-- What a script's run answers.
use Rattle.std.specs.Prelude.{List, Ok, Err, vec_items, Result}
use Rattle.market.specs.declared.interface.Market as market
use Rattle.device.specs.declared.Device as device
use Rattle.exchange.specs.declared.state.Exchange.{Exchange}
use Rattle.runner.specs.declared.script.Call.{Call}
use Rattle.runner.specs.declared.running.Run.{Run}
use Rattle.runner.specs.declared.running.RunFault.{RunFault}
use Rattle.runner.specs.declared.running.RunFault.TheVariants.{NoMemory, Refused}
use Rattle.runner.specs.Running.{Finished, NotBegun}

-- a log with all that is promised of it; or the set-up was refused; or there was not enough memory, and all tokens are
-- spent (of that last case the clause says nothing)
abbrev pub Outcome : {M D : Type 0} (m : market.Ghosts M) (d : device.Ghosts D) → Exchange M D → List Call → Result Run RunFault → Exchange M D → Type 0
Outcome m d x script (Ok r) y = Finished m d script (vec_items r.log) r.closing y
Outcome m d x script (Err NoMemory) y = Unit {0}
Outcome m d x script (Err (Refused f)) y = NotBegun m d x f y
