use Rattle.protocol.specs.Worlds.{blank}
use Rattle.journal_io.proofs.writing.clear_headers.Goals as goal

pub returns-clause-did : goal.returns-clause-did
unfolding blank
returns-clause-did g c = c.perform_all.ensures.did
