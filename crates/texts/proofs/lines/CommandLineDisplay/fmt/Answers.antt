use Rattle.std.proofs.Common.{rules}
use Rattle.texts.proofs.lines.CommandLineDisplay.fmt.Goals as goal

pub returns-in-Enter-clause-writes : goal.returns-in-Enter-clause-writes
returns-in-Enter-clause-writes g c = rw c.in-Enter.is (search rules)

pub returns-in-Cancel-clause-writes : goal.returns-in-Cancel-clause-writes
returns-in-Cancel-clause-writes g c = rw c.in-Cancel.is (search rules)
