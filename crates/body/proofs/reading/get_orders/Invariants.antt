use Rattle.std.proofs.Common.{◌≡◌, length}
use Rattle.body.specs.Layout.{orders_at}
use Rattle.body.proofs.reading.get_orders.Given as goal

abbrev pub invariant-loop-i : goal.invariant-loop-i
invariant-loop-i l = record { read : l.orders.items ≡ orders_at l.bytes l.at l.i; many : length l.orders.items ≡ l.i }
