use Rattle.std.proofs.Common.{◌≡◌, take, vec_len, vec_capacity}
use Rattle.market.specs.Means.{rows}
use Rattle.market.proofs.tables.OrderTable.refill.Given as goal

abbrev pub invariant-loop-order : goal.invariant-loop-order
invariant-loop-order l = (rows l.self ≡ take l.order-index l.orders) × (vec_len l.self.rows ≡ l.order-index) × (vec_capacity l.self.rows ≡ vec_capacity l.initial.self.rows)
