use Rattle.std.proofs.Common.{◌≡◌, ◌+◌, ◌*◌, ◌++◌, length, take}
use Rattle.body.specs.Layout.{orders_bytes}
use Rattle.body.proofs.writing.put_orders.Given as goal

abbrev pub invariant-loop-order : goal.invariant-loop-order
invariant-loop-order l = (l.out ≡ l.initial.out ++ orders_bytes (take l.order-index l.orders)) × (length l.out ≡ length l.initial.out + 20 * l.order-index)
