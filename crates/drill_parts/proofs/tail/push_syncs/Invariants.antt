use Rattle.std.proofs.Common.{◌≡◌, ◌++◌}
use Rattle.runner.specs.declared.script.Call.TheVariants as call
use Rattle.drill_parts.specs.Tails.{each_to}
use Rattle.drill_parts.proofs.tail.push_syncs.Given as goal

abbrev pub invariant-loop-ticket : goal.invariant-loop-ticket
invariant-loop-ticket l = l.calls.items ≡ l.fn.calls.items ++ each_to (λ t. call.Sync t 1024) l.ticket
