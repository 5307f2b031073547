-- What members may rely on, whatever the book does inside.
use Rattle.std.specs.Prelude.{◌≡◌, ℕ, ◌+◌, ◌<◌, ◌≤◌, true, false, cond, ◌⊎◌, List, [], ◌∷◌, ◌==◌}
use Rattle.records.specs.Commands.{good}
use Rattle.records.specs.declared.commands.Side.{Side}
use Rattle.records.specs.declared.commands.Side.TheVariants.{Buy, Sell}
use Rattle.records.specs.declared.commands.Command.{Command}
use Rattle.records.specs.declared.commands.Command.TheVariants.{Enter, Cancel, Cross}
use Rattle.records.specs.declared.notices.Kind.{Kind}
use Rattle.records.specs.declared.notices.Kind.TheVariants.{Fill, Dropped, Cancelled}
use Rattle.records.specs.declared.notices.Notice.{Notice}
use Rattle.market.specs.declared.orders.Order.{Order}
use Rattle.market.specs.Lists.{In}
use Rattle.market.specs.Orders.{before, other, accepts, lots_in, total, dropped}
use Rattle.market.specs.Resting.{Resting, arriving}
use Rattle.book.specs.Matching.{fill_with}

abbrev pub side_of : Side → Resting → List Order
side_of Buy h = h.buys
side_of Sell h = h.sells

-- p is what is left of the order o: the same order, with no more lots
pub record LeftOf (o p : Order) : Type 0 where
  pub number : p.number ≡ o.number
  pub member : p.member ≡ o.member
  pub price : p.price ≡ o.price
  pub lots : p.lots.0 ≤ o.lots.0

-- a fill of the entering order o, one of the notices ns of its command
pub record FairFill (s : Side) (o : Order) (opposite : List Order) (ns : List Notice) (v : Notice) : Type 0 where
  -- it is with an order that rested opposite, at that order's price
  pub resting : Order
  pub rested : In resting opposite
  pub told : v ≡ fill_with s o resting v.lots.0
  -- which the entering order accepts
  pub accepted : accepts s o.price.0 v.price.0 ≡ true
  -- for some of its lots
  pub some : 1 ≤ v.lots.0
  pub within : v.lots.0 ≤ resting.lots.0
  -- and whoever stood before that order was filled whole by the same command
  pub first : (q : Order) → In q opposite → before (other s) q resting ≡ true → In (fill_with s o q q.lots.0) ns

-- the notice v tells that what is left of the order o is dropped
abbrev pub DropOf : Order → Notice → Type 0
DropOf o v = (p : Order) × LeftOf o p × (v ≡ dropped p)

-- the lots that rest of the order with this number
abbrev pub open_lots : ℕ → List Order → ℕ
open_lots n [] = 0
open_lots n (x ∷ xs) = cond (x.number.0 == n) x.lots.0 (open_lots n xs)

-- the lots of a notice that is a fill
abbrev pub traded_lots : Kind → Notice → ℕ
traded_lots Fill v = v.lots.0
traded_lots Dropped v = 0
traded_lots Cancelled v = 0

-- the lots of all fills
abbrev pub filled : List Notice → ℕ
filled [] = 0
filled (v ∷ vs) = traded_lots v.kind v + filled vs

-- an order o has entered a side
pub record Entry (s : Side) (o : Order) (own opposite own' opposite' : List Order) (ns : List Notice) : Type 0 where
  -- each notice is a fair fill, or tells that what is left of it is dropped
  pub told : (v : Notice) → In v ns → FairFill s o opposite ns v ⊎ DropOf o v
  -- its lots are filled, dropped or rest, and none is lost
  pub adds : total ns + open_lots o.number.0 own' ≡ o.lots.0
  -- the other side has the lots that were filled less, and loses no more
  pub opposite_adds : lots_in opposite' + filled ns ≡ lots_in opposite
  -- no order is touched that it does not meet
  pub own_stays : (q : Order) → In q own → In q own'
  pub opposite_stays : (q : Order) → In q opposite → accepts s o.price.0 q.price.0 ≡ false → In q opposite'
  -- and none comes but what is left of it and of those that it met
  pub own_comes : (q : Order) → In q own' → In q own ⊎ LeftOf o q
  pub opposite_comes : (q : Order) → In q opposite' → (r : Order) × In r opposite × LeftOf r q

-- no buy meets a sell
abbrev pub Uncrossed : Resting → Type 0
Uncrossed h = (b s : Order) → In b h.buys → In s h.sells → b.price.0 < s.price.0

-- a command, from a state to the next with these notices
abbrev pub Fair : Resting → Command → Resting → List Notice → Type 0
Fair h (Enter m s p q) h' ns = Uncrossed h' × (good (Enter m s p q) ≡ true → h.last < 1_000_000_000_000 →
    Entry s (arriving h m p q) (side_of s h) (side_of (other s) h) (side_of s h') (side_of (other s) h') ns)
Fair h (Cancel m n) h' ns = Uncrossed h'
Fair h Cross h' ns = Uncrossed h'
