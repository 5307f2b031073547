-- What the code's values stand for.
use Rattle.std.specs.Prelude.{◌≤◌, List, vec_items, vec_capacity}
use Rattle.market.specs.declared.orders.Order.{Order}
use Rattle.market.specs.declared.tables.OrderTable.{OrderTable}
use Rattle.market.specs.declared.resting.RestingOrders.{RestingOrders}
use Rattle.market.specs.Resting.{Resting}

-- the orders in a table
abbrev pub rows : OrderTable → List Order
rows t = vec_items t.rows

abbrev pub state_of : RestingOrders → Resting
state_of r = record { last = r.last.0; buys = rows r.buys; sells = rows r.sells }

-- the memory for 32 orders a side is there
abbrev pub HasRoom : RestingOrders → Type 0
HasRoom r = (32 ≤ vec_capacity r.buys.rows) × (32 ≤ vec_capacity r.sells.rows)
