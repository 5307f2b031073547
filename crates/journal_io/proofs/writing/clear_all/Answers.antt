use Rattle.protocol.specs.Steps.{blanks}
use Rattle.journal_io.specs.Running.{first_writes}
use Rattle.journal_io.proofs.Rows.{running_append}
use Rattle.journal_io.proofs.writing.clear_all.Goals as goal

pub returns-clause-did : goal.returns-clause-did
returns-clause-did g c =
    let e = c.in_ok-clear_headers.ensures in
    running_append _ _ _ first_writes (blanks 8 c.args.journal) c.blank_journal.result e.did c.blank_journal.ensures.did
