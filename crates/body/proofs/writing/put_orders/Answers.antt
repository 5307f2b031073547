use Rattle.std.proofs.Common.{rules}
use Rattle.body.proofs.Puts.{orders_next}
use Rattle.body.proofs.writing.put_orders.Goals as goal

pub loop-order-preserved : goal.loop-order-preserved
loop-order-preserved c = search (rules, orders_next)
