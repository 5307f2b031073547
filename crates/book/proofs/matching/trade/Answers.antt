use Rattle.std.proofs.Common.{arith}
use Rattle.book.specs.Meetings.{remainder_settled}
use Rattle.book.proofs.matching.trade.Goals as goal

pub returns-clause-traded : goal.returns-clause-traded
returns-clause-traded c = remainder_settled c.meet-n.ensures.met _ c.if-taker-eq0.false (omega (arith, c.meet-n.ensures.met.few)) c.settle.ensures.rested
