use Rattle.std.proofs.Common.{◌≡◌, ◌++◌}
use Rattle.drill_parts.specs.Tails.{opening}
use Rattle.drill_parts.proofs.tail.push_opening.Given as goal

abbrev pub invariant-loop-replay : goal.invariant-loop-replay
invariant-loop-replay l = l.calls.items ≡ l.fn.calls.items ++ opening l._replay
