use Rattle.std.proofs.Common.{arith, ◌%◌, ◌-◌}
use Rattle.drill_parts.proofs.Powers.{four_step}
use Rattle.drill_parts.proofs.plans.+fates_of.Goals as goal

pub returns-clause-below : goal.returns-clause-below
returns-clause-below t c = four_step c.args.writes (c.args.writes - 1) c.fates_of.result (c.args.number % 3) (omega arith) c.fates_of.ensures.below (omega arith)
