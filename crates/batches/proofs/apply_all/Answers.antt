use Rattle.std.proofs.Common.{arith}
use Rattle.batches.proofs.Fronts.{stands_next}
use Rattle.batches.proofs.apply_all.Goals as goal

pub loop-command-preserved : goal.loop-command-preserved
loop-command-preserved g c =
    let m = g.M.Market in
    let e = c.apply_one-at.ensures in
    stands_next m.step (m.means c.args.market.now) c.args.commands.now c.args.list.now c.loop-command.command-index c.loop-command.at c.apply_one-at.result c.loop-command.list c.apply_one-at.new.list (m.means c.loop-command.market) (m.means c.apply_one-at.new.market) _
    c.loop-command-test.true (omega (arith, c.loop-command.invariant.0, c.loop-command.auto.list, c.loop-command-test.true, c.requires)) c.loop-command.invariant e.state e.number e.list e.few
