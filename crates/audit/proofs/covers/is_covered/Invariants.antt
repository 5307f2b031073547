use Rattle.std.proofs.Common.{◌+◌, ◌-◌, ◌≤◌}
use Rattle.audit.specs.Delivered.{CoveredTo}
use Rattle.audit.proofs.covers.is_covered.Given as goal

-- every notice below the next one is covered
abbrev pub invariant-loop-next : goal.invariant-loop-next
invariant-loop-next l = (1 ≤ l.next) × CoveredTo l.receipts (l.next - 1)

abbrev pub decreases-loop-next : goal.decreases-loop-next
decreases-loop-next l = l.highest + 1 - l.next
