use Rattle.std.proofs.Common.{◌≡◌, ◌++◌}
use Rattle.runner.specs.declared.script.Call.TheVariants as call
use Rattle.drill_parts.specs.Tails.{each_to}
use Rattle.drill_parts.proofs.tail.push_deliveries.Given as goal

abbrev pub invariant-loop-receipt : goal.invariant-loop-receipt
invariant-loop-receipt l = l.calls.items ≡ l.fn.calls.items ++ each_to call.Deliver l.receipt
