use Rattle.std.proofs.Common.{get_or, ap}
use Rattle.market.proofs.Rows.{blank}
use Rattle.call.specs.Pairings.{paired_first}
use Rattle.call.proofs.pairing.pair_first.Goals as goal

pub returns-clause-paired : goal.returns-clause-paired
returns-clause-paired c =
    paired_first _ _ _ _ _ _ _ _ _ blank _ c.requires.some c.requires.fillable (ap (λ xs. get_or xs 0 blank) c.as_slice.ensures) (ap (λ xs. get_or xs 0 blank) c.as_slice-2.ensures)
    c.pair_of-notice.ensures c.reduce.ensures.rows c.reduce-2.ensures.rows
