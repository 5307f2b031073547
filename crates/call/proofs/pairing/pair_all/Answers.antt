use Rattle.std.proofs.Common.{◌∙◌, arith}
use Rattle.call.specs.Pairings.{sofar_more, sofar_all}
use Rattle.call.proofs.pairing.pair_all.Goals as goal

pub loop-left-preserved : goal.loop-left-preserved
loop-left-preserved c = (
  sofar_more _ _ _ _ _ _ c.loop-left-test.true c.loop-left.invariant.0 (rw c.loop-left.invariant.1 at c.pair_first-notice.ensures.paired),
  c.pair_first-notice.ensures.last ∙ c.loop-left.invariant.1,
  c.pair_first-notice.ensures.buys_capacity ∙ c.loop-left.invariant.2,
  c.pair_first-notice.ensures.sells_capacity ∙ c.loop-left.invariant.3,
)

pub returns-clause-paired : goal.returns-clause-paired
returns-clause-paired c = sofar_all _ _ _ _ _ _ (omega (arith, c.loop-left-test.false)) c.loop-left.invariant.0
