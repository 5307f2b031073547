use Rattle.std.proofs.Common.{◌≡◌, ◌+◌, length, vec_capacity}
use Rattle.market.specs.Means.{rows}
use Rattle.book.specs.Meetings.{Sofar}
use Rattle.book.proofs.matching.meet.Given as goal

abbrev pub invariant-loop-notice : goal.invariant-loop-notice
invariant-loop-notice l = Sofar l.side l.initial.taker (rows l.initial.opposite) l.initial.list l.taker (rows l.opposite) l.list l.n
    × (vec_capacity l.opposite.rows ≡ vec_capacity l.initial.opposite.rows)

abbrev pub decreases-loop-notice : goal.decreases-loop-notice
decreases-loop-notice l = l.taker.lots.0 + length (rows l.opposite)
