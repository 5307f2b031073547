use Rattle.std.proofs.Common.{◌∙◌, rules}
use Rattle.protocol.specs.Worlds.{blank}
use Rattle.journal_io.proofs.Rows.{blanks_more, blanks_cut_by}
use Rattle.journal_io.proofs.writing.blank_journal.Goals as goal

pub returns-in_err-perform-clause-did : goal.returns-in_err-perform-clause-did
unfolding blank
returns-in_err-perform-clause-did g c =
    let m = g.D.Device.meaning in
    let e = c.in_err-perform.ensures in
    blanks_cut_by 8 c.loop-i.i c.args.journal (m c.args.device.now) (m c.loop-i.device) (m c.perform.new.device) _ c.from_residual.result (search rules) c.loop-i.invariant.0 e.did c.from_residual.ensures.1

pub loop-i-preserved : goal.loop-i-preserved
unfolding blank
loop-i-preserved g c =
    let m = g.D.Device.meaning in
    let e = c.in_ok-perform.ensures in
    (blanks_more 8 c.loop-i.i (m c.args.device.now) (m c.loop-i.device) (m c.perform.new.device) c.loop-i.invariant.0 (g.D.Device.lawful c.perform.new.device) e.did, e.kept ∙ c.loop-i.invariant.1)
