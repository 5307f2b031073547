use Rattle.std.proofs.Common.{◌≡◌, ◌+◌, ◌≤◌, drop, count_by}
use Rattle.drill_parts.specs.Logs.{opens_well}
use Rattle.drill_parts.proofs.logs.count_openings.Given as goal

abbrev pub invariant-loop-entry : goal.invariant-loop-entry
invariant-loop-entry l = (l.openings + count_by opens_well (drop l.entry-index l.log) ≡ count_by opens_well l.log) × (l.openings ≤ l.entry-index)
