use Rattle.device.proofs.Running.{runs_grow, settled_lasts, runs_join}
use Rattle.device.proofs.run.laws_hold.Goals as goal

pub returns-clause-runs : goal.returns-clause-runs
returns-clause-runs c = runs_grow

pub returns-clause-settled : goal.returns-clause-settled
returns-clause-settled c = settled_lasts

pub returns-clause-joins : goal.returns-clause-joins
returns-clause-joins c = runs_join
