use Rattle.std.proofs.Common.{arith}
use Rattle.body.proofs.Gets.{orders_more}
use Rattle.body.proofs.reading.get_orders.Goals as goal

pub loop-i-preserved : goal.loop-i-preserved
loop-i-preserved c =
    let i = c.loop-i.invariant in
    record { read = orders_more c.args.bytes.now c.args.at c.loop-i.i c.push.ensures.items i.read c.get_order.ensures; many = omega (arith, c.push.ensures.len, i.many) }
