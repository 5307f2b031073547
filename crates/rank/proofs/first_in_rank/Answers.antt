use Rattle.std.proofs.Common.{sym}
use Rattle.rank.proofs.Keyed.{best_next}
use Rattle.rank.proofs.first_in_rank.Goals as goal
use Rattle.rank.proofs.first_in_rank.Goals.{then-stands_before, else-stands_before}

pub loop-i-preserved : goal.loop-i-preserved
loop-i-preserved g c =
    let r = g.met.R.Ranking in
    let n = best_next (r.irreflexive c.args.ranking.now) (r.chains c.args.ranking.now) (r.total c.args.ranking.now) g.R.Ranking.key c.args.xs.now c.loop-i.i c.loop-i.best in
    elim c.if-stands_before.branch [
      | then-stands_before w ↦ simp w.best-is (n _ _ _ c.loop-i.invariant c.loop-i-test.true c.index-xs-i.is c.index-xs-best.is (sym w.if-stands_before.ensures))
      | else-stands_before w ↦ simp w.best-is (n _ _ _ c.loop-i.invariant c.loop-i-test.true c.index-xs-i.is c.index-xs-best.is (sym w.if-stands_before.ensures))
    ]
