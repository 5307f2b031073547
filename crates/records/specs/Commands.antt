-- Commands and their records.
use Rattle.std.specs.Prelude.{◌≡◌, ℕ, ◌<◌, Bool, true, cond, ◌&&◌, List, ◌++◌, length, Some, None, Ok, Err, Option, Result, MatchResult, ◌==◌, ◌≢◌, nat_le}
use Rattle.records.specs.LittleEndian.{le, field}
use Rattle.records.specs.declared.numbers.Member.{Member}
use Rattle.records.specs.declared.numbers.Price.{Price}
use Rattle.records.specs.declared.numbers.Lots.{Lots}
use Rattle.records.specs.declared.commands.Side.{Side}
use Rattle.records.specs.declared.commands.NoSide.{NoSide}
use Rattle.records.specs.declared.commands.Side.TheVariants.{Buy, Sell}
use Rattle.records.specs.declared.commands.Command.{Command}
use Rattle.records.specs.declared.commands.Command.TheVariants.{Enter, Cancel, Cross}
use Rattle.records.specs.declared.refusals.Refusal.{Refusal}
use Rattle.records.specs.declared.refusals.Refusal.TheVariants.{NotACommand}

-- low ≤ n ≤ high
abbrev pub within : ℕ → ℕ → ℕ → Bool
within low high n = nat_le low n && nat_le n high

-- the ranges of what an order enters with: member 1 to 999,999, price and lots 1 to 1,000,000 each
abbrev pub in_range : Member → Price → Lots → Bool
in_range member price lots = within 1 999_999 member.0 && (within 1 1_000_000 price.0 && within 1 1_000_000 lots.0)

-- a command is good if its numbers lie in their ranges; a cancelled order's number is 1 to 1,000,000,000,000
abbrev pub good : Command → Bool
good (Enter member side price lots) = in_range member price lots
good (Cancel member order) = within 1 999_999 member.0 && within 1 1_000_000_000_000 order.0
good Cross = true

-- in a record a buy is 0 and a sell is 1
abbrev pub side_number : Side → ℕ
side_number Buy = 0
side_number Sell = 1

-- the side with number n, or n where no side has it
abbrev pub IsSide : ℕ → Result Side NoSide → Type 0
IsSide n r = MatchResult r (λ s. side_number s ≡ n) (λ e. (e.0 ≡ n) × (1 < n))

-- the record of a command: its length in two bytes, its kind in two, and its fields
abbrev pub encoded : Command → List ℕ
encoded (Enter member side price lots) = le 2 18 ++ (le 2 11 ++ (le 4 member.0 ++ (le 2 (side_number side) ++ (le 4 price.0 ++ le 4 lots.0))))
encoded (Cancel member order) = le 2 16 ++ (le 2 12 ++ (le 4 member.0 ++ le 8 order.0))
encoded Cross = le 2 4 ++ le 2 13

-- the fields of an Enter and of a Cancel, where they stand
abbrev pub enter_in_bytes : List ℕ → Command
enter_in_bytes bs = Enter (record { 0 = field 4 4 bs }) (cond (field 8 2 bs == 0) Buy Sell) (record { 0 = field 10 4 bs }) (record { 0 = field 14 4 bs })

abbrev pub cancel_in : List ℕ → Command
cancel_in bs = Cancel (record { 0 = field 4 4 bs }) (record { 0 = field 8 8 bs })

abbrev pub if_good : Command → Option Command
if_good c = cond (good c) (Some c) None

-- by the length and the kind
abbrev pub by_kind : List ℕ → Option Command
by_kind bs =
    cond (length bs == 18 && (field 2 2 bs == 11 && nat_le (field 8 2 bs) 1)) (if_good (enter_in_bytes bs))
    (cond (length bs == 16 && field 2 2 bs == 12) (if_good (cancel_in bs))
    (cond (length bs == 4 && field 2 2 bs == 13) (Some Cross) None))

-- the command read from bytes: the length that they name is theirs, and it is good
unfoldable pub decoded : List ℕ → Option Command
decoded bs = cond (field 0 2 bs == length bs) (by_kind bs) None

-- what is encoded decodes to itself
abbrev pub ComesBack : Command → Type 0
ComesBack c = good c ≡ true → decoded (encoded c) ≡ Some c

-- the answer is the good command that bs are the record of; a refusal says that they are the record of none
abbrev pub Decoded : List ℕ → Result Command Refusal → Type 0
Decoded bs (Ok c) = (decoded bs ≡ Some c) × (good c ≡ true) × (encoded c ≡ bs)
Decoded bs (Err e) = (e ≡ NotACommand) × (decoded bs ≡ None) × ((c : Command) → good c ≡ true → encoded c ≢ bs)
