use Rattle.std.proofs.Common.{◌≡◌, take}
use Rattle.device.specs.Runs.{Ran}
use Rattle.device.proofs.run.run.Given as goal

abbrev pub invariant-loop-operation : goal.invariant-loop-operation
invariant-loop-operation g l =
    Ran (g.D.Device.meaning l.initial.device) (take l.operation-index l.script) (g.D.Device.meaning l.device)
    × (g.D.Device.lender l.device ≡ g.D.Device.lender l.initial.device)
