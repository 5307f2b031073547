use Rattle.market.specs.Orders.{order_key, earlier}
use Rattle.market.proofs.Ranks.{first_front}
use Rattle.market.proofs.tables.OrderTable.first.Goals as goal

pub returns : goal.returns
returns c = first_front (earlier c.args.side) order_key _ _ c.requires (simp c.as_slice.ensures at c.first_in_rank.ensures)
