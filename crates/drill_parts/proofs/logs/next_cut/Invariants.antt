use Rattle.std.proofs.Common.{◌≡◌, drop}
use Rattle.drill_parts.specs.Logs.{first_from, is_cut}
use Rattle.drill_parts.proofs.logs.next_cut.Given as goal

abbrev pub invariant-loop-place : goal.invariant-loop-place
invariant-loop-place l = first_from is_cut l.from 0 l.log ≡ first_from is_cut l.from l.place (drop l.place l.log)
