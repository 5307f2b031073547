-- Orders: rank, what they tell, and the notices of them.
use Rattle.std.specs.Prelude.{ℕ, ◌+◌, ◌-◌, ◌≤◌, Bool, cond, not, ◌&&◌, List, [], ◌∷◌, length, Some, None, Option, ◌==◌, nat_le, nat_lt}
use Rattle.rank.specs.Ranked.{low_first, high_first}
use Rattle.records.specs.Commands.{within, in_range}
use Rattle.records.specs.declared.numbers.CommandNumber.{CommandNumber}
use Rattle.records.specs.declared.numbers.Member.{Member}
use Rattle.records.specs.declared.numbers.Price.{Price}
use Rattle.records.specs.declared.commands.Side.{Side}
use Rattle.records.specs.declared.commands.Side.TheVariants.{Buy, Sell}
use Rattle.records.specs.declared.notices.Kind.{Kind}
use Rattle.records.specs.declared.notices.Kind.TheVariants.{Fill, Dropped, Cancelled}
use Rattle.records.specs.declared.notices.Party.{Party}
use Rattle.records.specs.declared.notices.Notice.{Notice}
use Rattle.market.specs.declared.orders.Order.{Order}
use Rattle.market.specs.Lists.{placed}

-- what ranks an order: its price, and its number
abbrev pub order_key : Order → ℕ × ℕ
order_key o = (o.price.0, o.number.0)

-- buys rank by the higher price and sells by the lower, then both by the smaller number
abbrev pub earlier : Side → ℕ × ℕ → ℕ × ℕ → Bool
earlier Buy = high_first
earlier Sell = low_first

-- which of two orders of a side stands before the other
abbrev pub before : Side → Order → Order → Bool
before s x y = earlier s (order_key x) (order_key y)

abbrev pub other : Side → Side
other Buy = Sell
other Sell = Buy

-- an order of side s at price p accepts the price q: a buy accepts what is no higher, a sell what is no lower
abbrev pub accepts : Side → ℕ → ℕ → Bool
accepts Buy p q = nat_le q p
accepts Sell p q = nat_le p q

-- a buy and a sell that stay apart in price
abbrev pub below : Order → Order → Bool
below b s = nat_lt b.price.0 s.price.0

-- two orders have not one number
abbrev pub differ : Order → Order → Bool
differ x y = not (x.number.0 == y.number.0)

-- an order keeps the ranges that it entered with, and its number is one of the first n
abbrev pub kept : ℕ → Order → Bool
kept n o = in_range o.member o.price o.lots && within 1 n o.number.0

-- this order of this member
abbrev pub is_of : Member → CommandNumber → Order → Bool
is_of m n o = o.number.0 == n.0 && o.member.0 == m.0

-- the order less n lots
abbrev pub less : Order → ℕ → Order
less o n = record { number = o.number; member = o.member; price = o.price; lots = record { 0 = o.lots.0 - n } }

abbrev pub party : Order → Party
party o = record { order = o.number; member = o.member }

abbrev pub nobody : Party
nobody = record { order = record { 0 = 0 }; member = record { 0 = 0 } }

-- the notice, not counted yet, that n lots of a buy and a sell changed hands at a price
abbrev pub fill : CommandNumber → Order → Order → Price → ℕ → Notice
fill c buy sell p n = record { number = record { 0 = 0 }; command = c; kind = Fill; a = party buy; b = party sell; price = p; lots = record { 0 = n } }

-- the notice that all lots of an order were dropped or cancelled
abbrev pub lots_of : Kind → CommandNumber → Order → Notice
lots_of k c o = record { number = record { 0 = 0 }; command = c; kind = k; a = party o; b = nobody; price = record { 0 = 0 }; lots = o.lots }

-- the lots of all orders
abbrev pub lots_in : List Order → ℕ
lots_in [] = 0
lots_in (x ∷ xs) = x.lots.0 + lots_in xs

-- the lots of all notices
abbrev pub total : List Notice → ℕ
total [] = 0
total (v ∷ vs) = v.lots.0 + total vs

-- an order's lots found no place to rest
abbrev pub dropped : Order → Notice
dropped o = lots_of Dropped o.number o

-- command c took back an order's lots
abbrev pub cancelled : CommandNumber → Order → Notice
cancelled c o = lots_of Cancelled c o

-- an order comes to rest in its rank place where fewer than 32 rest, else its lots are dropped
abbrev pub rested : Side → Order → List Order → List Order × Option Notice
rested s o xs = cond (nat_lt (length xs) 32) (placed (before s) o xs, None) (xs, Some (dropped o))

-- n lots are taken from the first order, which leaves at 0 lots
abbrev pub reduced : List Order → ℕ → List Order
reduced [] n = []
reduced (r ∷ rs) n = cond (n == r.lots.0) rs (less r n ∷ rs)

-- the first order has at least n lots
abbrev pub Has : List Order → ℕ → Type 0
Has [] n = ⊥
Has (r ∷ rs) n = n ≤ r.lots.0

-- the place of the first of a list
abbrev pub front : List Order → Option ℕ
front [] = None
front (x ∷ xs) = Some 0
