-- An entering order against the orders that rest on the other side.
use Rattle.std.specs.Prelude.{◌≡◌, ℕ, ◌+◌, ◌<◌, ◌≤◌, Bool, true, cond, ◌&&◌, List, [], ◌∷◌, ◌++◌, length, ◌==◌, nat_le, nat_lt}
use Rattle.std.specs.Option.{option_to_list}
use Rattle.records.specs.declared.commands.Side.{Side}
use Rattle.records.specs.declared.commands.Side.TheVariants.{Buy, Sell}
use Rattle.records.specs.declared.notices.Notice.{Notice}
use Rattle.market.specs.declared.orders.Order.{Order}
use Rattle.market.specs.Lists.{pairwise, over}
use Rattle.market.specs.Orders.{before, other, accepts, less, fill, rested}

-- the entering order o and the resting order r trade
abbrev pub trades : Side → Order → Order → Bool
trades s o r = nat_lt 0 o.lots.0 && accepts s o.price.0 r.price.0

-- n lots of the entering order o and the resting order r change hands at the resting price
abbrev pub fill_with : Side → Order → Order → ℕ → Notice
fill_with Buy o r n = fill o.number o r r.price n
fill_with Sell o r n = fill o.number r o r.price n

-- what a meeting leaves: of the entering order, of the resting orders, and its fills
pub record Met : Type 0 where
  pub taker : Order
  pub rows : List Order
  pub fills : List Notice

abbrev pub after_fill : Notice → Met → Met
after_fill n m = record { taker = m.taker; rows = m.rows; fills = n ∷ m.fills }

-- the entering order meets the first in rank while they trade, each time for the smaller lots; whoever has none left leaves
abbrev pub met : Side → Order → List Order → Met
met s o [] = record { taker = o; rows = []; fills = [] }
met s o (r ∷ rs) = cond (trades s o r)
    (cond (nat_le r.lots.0 o.lots.0)
    (after_fill (fill_with s o r r.lots.0) (met s (less o r.lots.0) rs))
    (record { taker = less o o.lots.0; rows = less r o.lots.0 ∷ rs; fills = fill_with s o r o.lots.0 ∷ [] }))
    (record { taker = o; rows = r ∷ rs; fills = [] })

-- the rows of the entering order's side, those of the other side, and the notices
pub record Sides : Type 0 where
  pub own : List Order
  pub opposite : List Order
  pub notices : List Notice

-- what is left of the entering order rests, or is dropped where 32 rest
abbrev pub settled : Side → List Order → Met → Sides
settled s own m = cond (m.taker.lots.0 == 0)
    (record { own = own; opposite = m.rows; notices = m.fills })
    (record { own = (rested s m.taker own).0; opposite = m.rows; notices = m.fills ++ option_to_list (rested s m.taker own).1 })

abbrev pub traded : Side → Order → List Order → List Order → Sides
traded s o own opposite = settled s own (met s o opposite)

-- one fill: what it leaves, of which the rest of the meeting is made
pub record Filled (s : Side) (o : Order) (rs : List Order) (p : Order) (qs : List Order) (n : Notice) : Type 0 where
  pub rest : met s o rs ≡ after_fill n (met s p qs)
  pub falls : p.lots.0 + length qs < o.lots.0 + length rs
  pub ranked : pairwise (before (other s)) qs ≡ true

-- no fill: the meeting is over, and nothing has changed
pub record Stopped (s : Side) (o : Order) (rs : List Order) (p : Order) (qs : List Order) : Type 0 where
  pub taker : p ≡ o
  pub rows : qs ≡ rs
  pub done : met s o rs ≡ record { taker = o; rows = rs; fills = [] }

-- the whole meeting, with its fills over the front of the lent list
pub record MetAll (s : Side) (o : Order) (rs : List Order) (xs : List Notice) (p : Order) (qs : List Order) (ys : List Notice) (n : ℕ) : Type 0 where
  pub taker : p ≡ (met s o rs).taker
  pub rows : qs ≡ (met s o rs).rows
  pub number : n ≡ length (met s o rs).fills
  pub list : ys ≡ over xs (met s o rs).fills
  pub few : n ≤ length rs

-- the whole trade, with its notices over the front of the lent list
pub record Traded (t : Sides) (xs : List Notice) (rs qs : List Order) (ys : List Notice) (n : ℕ) : Type 0 where
  pub own : rs ≡ t.own
  pub opposite : qs ≡ t.opposite
  pub number : n ≡ length t.notices
  pub list : ys ≡ over xs t.notices
