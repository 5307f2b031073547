use Rattle.rank.proofs.Keyed.{BestSofar}
use Rattle.rank.proofs.first_in_rank.Given as goal

abbrev pub invariant-loop-i : goal.invariant-loop-i
invariant-loop-i g l =
    let r = g.met.R.Ranking in
    BestSofar (r.irreflexive l.ranking) (r.chains l.ranking) (r.total l.ranking) g.R.Ranking.key l.xs l.i l.best
