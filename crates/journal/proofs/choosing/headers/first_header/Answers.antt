use Rattle.journal.proofs.Firsts.{first_is_first}
use Rattle.journal.proofs.choosing.headers.first_header.Goals as goal

pub returns-in_err-first-clause-rank : goal.returns-in_err-first-clause-rank
returns-in_err-first-clause-rank g c = first_is_first

pub returns-clause-rank : goal.returns-clause-rank
returns-clause-rank g c = first_is_first
