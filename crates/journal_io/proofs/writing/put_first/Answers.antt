use Rattle.std.proofs.Common.{◌++◌}
use Rattle.journal.specs.declared.slots.Slot.TheVariants.{Zero}
use Rattle.protocol.specs.Steps.{blanks}
use Rattle.journal_io.specs.Running.{first_writes, snapshot_writes}
use Rattle.journal_io.proofs.Rows.{running_append, cut_first}
use Rattle.journal_io.proofs.writing.put_first.Goals as goal

pub returns-in_err-clear_all-clause-did : goal.returns-in_err-clear_all-clause-did
returns-in_err-clear_all-clause-did g c =
    let e = c.in_err-clear_all.ensures in
    cut_first _ _ (first_writes ++ blanks 8 c.args.journal) (snapshot_writes Zero c.args.body.now c.args.header.now) _ c.from_residual.result e.did c.from_residual.ensures.1

pub returns-clause-did : goal.returns-clause-did
returns-clause-did g c =
    let e = c.in_ok-clear_all.ensures in
    running_append _ _ _ (first_writes ++ blanks 8 c.args.journal) (snapshot_writes Zero c.args.body.now c.args.header.now) c.put_snapshot.result e.did c.put_snapshot.ensures.did
