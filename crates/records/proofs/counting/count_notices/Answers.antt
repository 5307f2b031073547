use Rattle.std.proofs.Common.{rules}
use Rattle.records.proofs.Countings.{counting_more}
use Rattle.records.proofs.counting.count_notices.Goals as goal

pub loop-i-preserved : goal.loop-i-preserved
loop-i-preserved c = counting_more _ _ _ _ _ c.loop-i.invariant (search rules)
