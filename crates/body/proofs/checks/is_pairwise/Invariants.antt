use Rattle.std.proofs.Common.{◌≡◌, length}
use Rattle.market.specs.Lists.{pairwise}
use Rattle.body.proofs.checks.is_pairwise.Given as goal

abbrev pub invariant-loop-left : goal.invariant-loop-left
invariant-loop-left g l = pairwise (g.R.Relation.related l.relation) l.left ≡ pairwise (g.R.Relation.related l.relation) l.xs

abbrev pub decreases-loop-left : goal.decreases-loop-left
decreases-loop-left g l = length l.left
