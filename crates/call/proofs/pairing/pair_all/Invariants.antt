use Rattle.std.proofs.Common.{◌≡◌, ◌+◌, length, vec_capacity}
use Rattle.market.specs.Means.{rows}
use Rattle.call.specs.Pairings.{Sofar}
use Rattle.call.proofs.pairing.pair_all.Given as goal

abbrev pub invariant-loop-left : goal.invariant-loop-left
invariant-loop-left l = Sofar l.initial.resting.last l.clearing.price l.clearing.lots.0 (rows l.initial.resting.buys) (rows l.initial.resting.sells) l.initial.list l.left (rows l.resting.buys) (rows l.resting.sells) l.list l.n
    × (l.resting.last ≡ l.initial.resting.last)
    × (vec_capacity l.resting.buys.rows ≡ vec_capacity l.initial.resting.buys.rows)
    × (vec_capacity l.resting.sells.rows ≡ vec_capacity l.initial.resting.sells.rows)

abbrev pub decreases-loop-left : goal.decreases-loop-left
decreases-loop-left l = l.left + (length (rows l.resting.buys) + length (rows l.resting.sells))
