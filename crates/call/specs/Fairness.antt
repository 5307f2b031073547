-- What members may rely on at a cross, whatever the auction does inside.
use Rattle.std.specs.Prelude.{◌≡◌, ℕ, ◌+◌, ◌<◌, ◌≤◌, ◌⊎◌, List, [], ◌∷◌, ◌++◌, length}
use Rattle.records.specs.declared.numbers.CommandNumber.{CommandNumber}
use Rattle.records.specs.declared.numbers.Price.{Price}
use Rattle.records.specs.declared.commands.Command.{Command}
use Rattle.records.specs.declared.commands.Command.TheVariants.{Enter, Cancel, Cross}
use Rattle.records.specs.declared.notices.Notice.{Notice}
use Rattle.market.specs.declared.orders.Order.{Order}
use Rattle.market.specs.Lists.{In}
use Rattle.market.specs.Orders.{less, fill, total, lots_in}
use Rattle.market.specs.Resting.{Resting, next, passed}
use Rattle.call.specs.Clearing.{matched}

-- an order rests, on whichever side
abbrev pub Rests : Resting → Order → Type 0
Rests h o = In o h.buys ⊎ In o h.sells

-- the lots that a cross at a price would match
abbrev pub matched_at : Resting → ℕ → ℕ
matched_at h p = matched h.buys h.sells p

-- no resting price matches any lots, and nothing happens
pub record Idle (h h' : Resting) (ns : List Notice) : Type 0 where
  pub none : (o : Order) → Rests h o → matched_at h o.price.0 ≡ 0
  pub stays : h' ≡ passed h
  pub silent : ns ≡ []

-- a fill of a cross, by command c at price p
pub record FairPair (c : CommandNumber) (p : Price) (buys sells : List Order) (v : Notice) : Type 0 where
  -- it is of a buy and a sell that rested
  pub buy : Order
  pub sell : Order
  pub bought : In buy buys
  pub sold : In sell sells
  pub told : v ≡ fill c buy sell p v.lots.0
  -- at a price that both accept
  pub buyer : p.0 ≤ buy.price.0
  pub seller : sell.price.0 ≤ p.0
  -- for some lots that both have
  pub some : 1 ≤ v.lots.0
  pub of_buy : v.lots.0 ≤ buy.lots.0
  pub of_sell : v.lots.0 ≤ sell.lots.0

-- k lots are taken from the first order, which keeps some
abbrev pub PartTaken : ℕ → List Order → List Order → Type 0
PartTaken k [] ys = ⊥
PartTaken k (x ∷ xs) ys = (k < x.lots.0) × (ys ≡ less x k ∷ xs)

-- n lots of a side's orders are filled in rank order, from xs to ys: those in front whole, at most one more in part, the others not at all
pub record FilledInRank (n : ℕ) (xs ys : List Order) : Type 0 where
  pub whole : List Order
  pub others : List Order
  pub part : ℕ
  pub split : xs ≡ whole ++ others
  pub adds : lots_in whole + part ≡ n
  pub left : ((part ≡ 0) × (ys ≡ others)) ⊎ PartTaken part others ys

-- the sides cross
pub record Crossing (h h' : Resting) (ns : List Notice) : Type 0 where
  pub price : Price
  pub lots : ℕ
  -- at a resting price, for the lots that it matches
  pub resting : (o : Order) × Rests h o × (o.price ≡ price)
  pub matching : lots ≡ matched_at h price.0
  pub some : 1 ≤ lots
  -- no resting price matches more, and none lower matches as many
  pub most : (o : Order) → Rests h o → matched_at h o.price.0 ≤ lots
  pub lowest : (o : Order) → Rests h o → o.price.0 < price.0 → matched_at h o.price.0 < lots
  -- the lots filled on each side are the matched lots
  pub filled : total ns ≡ lots
  pub bought : lots_in h.buys ≡ lots + lots_in h'.buys
  pub sold : lots_in h.sells ≡ lots + lots_in h'.sells
  -- in rank order on both
  pub buys_in_rank : FilledInRank lots h.buys h'.buys
  pub sells_in_rank : FilledInRank lots h.sells h'.sells
  -- every fill is fair
  pub told : (v : Notice) → In v ns → FairPair (next h) price h.buys h.sells v
  pub few : length ns ≤ 64

-- a command, from a state to the next with these notices
abbrev pub Fair : Resting → Command → Resting → List Notice → Type 0
Fair h (Enter m s p q) h' ns = Unit {0}
Fair h (Cancel m n) h' ns = Unit {0}
Fair h Cross h' ns = h.last < 1_000_000_000_000 → Idle h h' ns ⊎ Crossing h h' ns
