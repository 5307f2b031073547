use Rattle.std.proofs.Common.{ℕ, [], take}
use Rattle.records.specs.declared.numbers.HouseNumber.{HouseNumber}
use Rattle.runner.specs.Events.{history}
use Rattle.audit.specs.Readings.{Reads}
use Rattle.audit.proofs.readings.Reader.read.Given as goal

abbrev pub invariant-loop-entry : goal.invariant-loop-entry
invariant-loop-entry g l = (house : HouseNumber) (size : ℕ) → Reads g.M.Market house size [] l.initial.self → Reads g.M.Market house size (history (take l.entry-index l.log)) l.self
