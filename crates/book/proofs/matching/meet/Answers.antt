use Rattle.std.proofs.Common.{◌∙◌}
use Rattle.book.specs.Meetings.{sofar_room, sofar_more, sofar_all}
use Rattle.book.proofs.matching.meet.Goals as goal

pub bounds-list-n : goal.bounds-list-n
bounds-list-n c = sofar_room _ _ _ _ c.loop-notice.invariant.0 c.in-Some.ensures.cases

pub loop-notice-preserved : goal.loop-notice-preserved
loop-notice-preserved c = (sofar_more _ _ _ _ c.loop-notice.invariant.0 c.in-Some.ensures.cases, c.fill_first.ensures.capacity ∙ c.loop-notice.invariant.1)

pub returns-clause-met : goal.returns-clause-met
returns-clause-met c = sofar_all _ _ _ _ c.loop-notice.invariant.0 c.in_default.ensures.cases
