-- The state of a market that keeps resting orders, and what the markets' steps share.
use Rattle.std.specs.Prelude.{ℕ, ◌+◌, Bool, cond, ◌&&◌, List, [], length, nat_le, nat_lt}
use Rattle.std.specs.Option.{option_to_list, option_map, option_or}
use Rattle.records.specs.Commands.{good}
use Rattle.records.specs.declared.numbers.CommandNumber.{CommandNumber}
use Rattle.records.specs.declared.numbers.Member.{Member}
use Rattle.records.specs.declared.numbers.Price.{Price}
use Rattle.records.specs.declared.numbers.Lots.{Lots}
use Rattle.records.specs.declared.commands.Side.{Side}
use Rattle.records.specs.declared.commands.Side.TheVariants.{Buy, Sell}
use Rattle.records.specs.declared.commands.Command.{Command}
use Rattle.records.specs.declared.notices.Notice.{Notice}
use Rattle.market.specs.declared.orders.Order.{Order}
use Rattle.market.specs.Lists.{all, pairwise, across, found, without}
use Rattle.market.specs.Orders.{before, differ, kept, is_of, cancelled}

-- the number of the last command, and the orders that rest, each side in rank order
pub record Resting : Type 0 where
  pub last : ℕ
  pub buys : List Order
  pub sells : List Order

-- nothing has come yet
abbrev pub nothing : Resting
nothing = record { last = 0; buys = []; sells = [] }

-- a side is sound: at most 32 orders, in rank order, their numbers distinct and from 1 to n, their fields in range
abbrev pub side_sound : Side → ℕ → List Order → Bool
side_sound s n xs = nat_le (length xs) 32 && (pairwise (before s) xs && (pairwise differ xs && all (kept n) xs))

-- a state is sound: both sides are, no number rests on both, and the last number is at most 1,000,000,000,000
abbrev pub sound : Resting → Bool
sound h = nat_le h.last 1_000_000_000_000 && (side_sound Buy h.last h.buys && (side_sound Sell h.last h.sells && across differ h.buys h.sells))

-- the number of the command that comes next
abbrev pub next : Resting → CommandNumber
next h = record { 0 = h.last + 1 }

-- the order that an Enter brings
abbrev pub arriving : Resting → Member → Price → Lots → Order
arriving h member price lots = record { number = next h; member = member; price = price; lots = lots }

-- a command passes: it takes its number and does nothing else
abbrev pub passed : Resting → Resting
passed h = record { last = h.last + 1; buys = h.buys; sells = h.sells }

-- a cancel: this order of this member leaves, on whichever side it rests, with a notice of its lots; else the command passes
abbrev pub withdrawn : Resting → Member → CommandNumber → Resting × List Notice
withdrawn h m n = (
  record { last = h.last + 1; buys = without (is_of m n) h.buys; sells = without (is_of m n) h.sells },
  option_to_list (option_map (cancelled (next h)) (option_or (found (is_of m n) h.buys) (found (is_of m n) h.sells))),
)

-- a market's step, from what it does at a good command: at the last number nothing happens, and a command that is not good passes
abbrev pub stepped : (Resting → Command → Resting × List Notice) → Resting → Command → Resting × List Notice
stepped act h c = cond (nat_lt h.last 1_000_000_000_000) (cond (good c) (act h c) (passed h, [])) (h, [])
