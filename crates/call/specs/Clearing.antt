-- The price of a cross.
use Rattle.std.specs.Prelude.{ℕ, ◌+◌, ◌<◌, min, Bool, cond, List, [], ◌∷◌}
use Rattle.std.specs.List.{fold}
use Rattle.rank.specs.Ranked.{high_first}
use Rattle.records.specs.declared.numbers.Price.{Price}
use Rattle.records.specs.declared.commands.Side.{Side}
use Rattle.records.specs.declared.commands.Side.TheVariants.{Buy, Sell}
use Rattle.market.specs.declared.orders.Order.{Order}
use Rattle.market.specs.Orders.{accepts, lots_in}
use Rattle.call.specs.declared.clearing.Clearing.{Clearing}

-- the lots of an order of a side, where it accepts price p
abbrev pub lots_at : Side → ℕ → Order → ℕ
lots_at s p x = cond (accepts s x.price.0 p) x.lots.0 0

-- the lots of a side's orders that accept price p: of the buys at p or above, of the sells at p or below
abbrev pub offered : Side → ℕ → List Order → ℕ
offered s p [] = 0
offered s p (x ∷ xs) = lots_at s p x + offered s p xs

-- the lots that a cross at price p matches: the smaller of the lots bought at p or above and the lots sold at p or below
abbrev pub matched : List Order → List Order → ℕ → ℕ
matched buys sells p = min (offered Buy p buys) (offered Sell p sells)

abbrev pub at_price : List Order → List Order → Price → Clearing
at_price buys sells p = record { price = p; lots = record { 0 = matched buys sells p.0 } }

-- more matched lots are preferred, of as many the lower price
abbrev pub preferred : Clearing → Clearing → Bool
preferred c d = high_first (c.lots.0, c.price.0) (d.lots.0, d.price.0)

-- the best of c and the price of the order x
abbrev pub better : List Order → List Order → Clearing → Order → Clearing
better buys sells c x = cond (preferred (at_price buys sells x.price) c) (at_price buys sells x.price) c

-- the best of c and the prices of the orders xs
abbrev pub best : List Order → List Order → Clearing → List Order → Clearing
best buys sells c xs = fold (better buys sells) c xs

-- no price is taken yet
abbrev pub no_clearing : Clearing
no_clearing = record { price = record { 0 = 0 }; lots = record { 0 = 0 } }

-- the best of all resting prices
abbrev pub clearing : List Order → List Order → Clearing
clearing buys sells = best buys sells (best buys sells no_clearing buys) sells

-- sums of these orders' lots fit 32 bits
abbrev pub FewLots : List Order → Type 0
FewLots xs = lots_in xs < 4_294_967_296

abbrev pub Summable : List Order → List Order → Type 0
Summable buys sells = FewLots buys × FewLots sells
