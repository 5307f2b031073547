use Rattle.protocol.proofs.promises.runs_exist.Goals as goal
use Rattle.protocol.proofs.Witnesses.{a_run}

pub returns : goal.returns
returns c = a_run
