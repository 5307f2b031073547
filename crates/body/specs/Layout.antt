-- A state as the bytes of its body.
use Rattle.std.specs.Prelude.{ℕ, zero, suc, ◌+◌, ◌-◌, Bool, List, [], ◌∷◌, ◌++◌, length, replicate, nat_eq}
use Rattle.std.specs.Cmp.Lexicographic.{pointwise}
use Rattle.records.specs.LittleEndian.{le, field}
use Rattle.market.specs.declared.orders.Order.{Order}
use Rattle.market.specs.Resting.{Resting}

-- an order: its number in 8 bytes, its member, price and lots in 4 each
unfoldable pub order_bytes : Order → List ℕ
order_bytes o = le 8 o.number.0 ++ le 4 o.member.0 ++ le 4 o.price.0 ++ le 4 o.lots.0

abbrev pub orders_bytes : List Order → List ℕ
orders_bytes [] = []
orders_bytes (o ∷ os) = order_bytes o ++ orders_bytes os

-- the last number in 8 bytes, the counts of buys and sells in 2 each, then the buys and the sells in rank order
abbrev pub content : Resting → List ℕ
content h = le 8 h.last ++ le 2 (length h.buys) ++ le 2 (length h.sells) ++ orders_bytes h.buys ++ orders_bytes h.sells

-- and zeros up to 1,536 bytes
abbrev pub body : Resting → List ℕ
body h = content h ++ replicate (1536 - length (content h)) 0

-- the order whose bytes begin at the place i
abbrev pub order_at : List ℕ → ℕ → Order
order_at b i = record { number = record { 0 = field i 8 b }; member = record { 0 = field (i + 8) 4 b }; price = record { 0 = field (i + 12) 4 b }; lots = record { 0 = field (i + 16) 4 b } }

abbrev pub orders_at : List ℕ → ℕ → ℕ → List Order
orders_at b i zero = []
orders_at b i (suc n) = order_at b i ∷ orders_at b (i + 20) n

-- the same bytes
abbrev pub equal : List ℕ → List ℕ → Bool
equal xs ys = pointwise nat_eq xs ys
