use Rattle.std.proofs.Common.{◌≡◌, ◌+◌, ◌≤◌, drop}
use Rattle.drill_parts.specs.Logs.{added_by, lost_by, tally, fresh}
use Rattle.drill_parts.proofs.logs.count_pages.Given as goal

abbrev pub invariant-loop-entry : goal.invariant-loop-entry
invariant-loop-entry l = (l.counts.added + tally added_by l.watch (drop l.entry-index l.log) ≡ tally added_by fresh l.log) × (l.counts.lost + tally lost_by l.watch (drop l.entry-index l.log) ≡ tally lost_by fresh l.log) × (l.counts.added ≤ l.entry-index) × (l.counts.lost ≤ l.entry-index)
