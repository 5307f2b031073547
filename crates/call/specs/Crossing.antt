-- A cross: both sides pair in rank order, at one price.
use Rattle.std.specs.Prelude.{◌≡◌, ℕ, zero, suc, ◌+◌, ◌-◌, ◌<◌, ◌≤◌, min, true, cond, List, [], ◌∷◌, length, ◌==◌, nat_lt}
use Rattle.records.specs.declared.numbers.CommandNumber.{CommandNumber}
use Rattle.records.specs.declared.numbers.Price.{Price}
use Rattle.records.specs.declared.commands.Side.TheVariants.{Buy, Sell}
use Rattle.records.specs.declared.notices.Notice.{Notice}
use Rattle.market.specs.declared.orders.Order.{Order}
use Rattle.market.specs.Lists.{pairwise, over}
use Rattle.market.specs.Orders.{before, less, reduced, fill}
use Rattle.call.specs.Clearing.{offered}

-- the first n lots of orders are taken, in their order; who has none left leaves
abbrev pub taken : ℕ → List Order → List Order
taken n [] = []
taken n (x ∷ xs) = cond (n == 0) (x ∷ xs) (cond (nat_lt n x.lots.0) (less x n ∷ xs) (taken (n - x.lots.0) xs))

-- of n lots still to fill, those that the buy b and the sell s pair for
abbrev pub pair_lots : ℕ → Order → Order → ℕ
pair_lots n b s = min n (min b.lots.0 s.lots.0)

-- the fill of one pair, by command c at price p
abbrev pub pair : CommandNumber → Price → ℕ → Order → Order → Notice
pair c p n b s = fill c b s p (pair_lots n b s)

-- the fills of n lots: the two orders in front pair, until all lots are filled. Each pair ends an order or the
-- cross, so k pairs are enough for k orders
abbrev pub pairs : CommandNumber → Price → ℕ → ℕ → List Order → List Order → List Notice
pairs c p zero n bs ss = []
pairs c p (suc k) n [] ss = []
pairs c p (suc k) n (b ∷ bs) [] = []
pairs c p (suc k) n (b ∷ bs) (s ∷ ss) = cond (n == 0) []
    (pair c p n b s ∷ pairs c p k (n - pair_lots n b s) (reduced (b ∷ bs) (pair_lots n b s)) (reduced (s ∷ ss) (pair_lots n b s)))

-- n lots can be filled at price p: each side, in rank order, has as many that accept it
pub record Fillable (p : ℕ) (n : ℕ) (bs ss : List Order) : Type 0 where
  pub buys_ranked : pairwise (before Buy) bs ≡ true
  pub sells_ranked : pairwise (before Sell) ss ≡ true
  pub bought : n ≤ offered Buy p bs
  pub sold : n ≤ offered Sell p ss

-- one pair: what it leaves, of which the rest of the cross is made
pub record Paired (c : CommandNumber) (p : Price) (n : ℕ) (bs ss bs' ss' : List Order) (v : Notice) : Type 0 where
  pub rest : (k : ℕ) → pairs c p (suc k) n bs ss ≡ v ∷ pairs c p k (n - v.lots.0) bs' ss'
  pub buys : taken n bs ≡ taken (n - v.lots.0) bs'
  pub sells : taken n ss ≡ taken (n - v.lots.0) ss'
  pub fillable : Fillable p.0 (n - v.lots.0) bs' ss'
  pub within : v.lots.0 ≤ n
  -- the cross ends, or an order does
  pub ends : 0 < n - v.lots.0 → length bs' + length ss' < length bs + length ss
  pub falls : n - v.lots.0 + (length bs' + length ss') < n + (length bs + length ss)

-- all pairs, with their fills over the front of the lent list
pub record PairedAll (c : CommandNumber) (p : Price) (n : ℕ) (bs ss : List Order) (xs : List Notice) (bs' ss' : List Order) (ys : List Notice) (m : ℕ) : Type 0 where
  pub buys : bs' ≡ taken n bs
  pub sells : ss' ≡ taken n ss
  pub number : m ≡ length (pairs c p (length bs + length ss) n bs ss)
  pub list : ys ≡ over xs (pairs c p (length bs + length ss) n bs ss)
