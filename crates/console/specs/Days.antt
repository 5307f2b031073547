-- What a day does with the bytes of a command.
use Rattle.std.specs.Prelude.{◌≡◌, ℕ, ◌+◌, List, length, take, Some, None, Ok, Err, Option, Result}
use Rattle.records.specs.Notices.{counted}
use Rattle.records.specs.declared.commands.Command.{Command}
use Rattle.records.specs.declared.notices.Notice.{Notice}
use Rattle.records.specs.declared.refusals.Refusal.{Refusal}
use Rattle.records.specs.declared.refusals.Refusal.TheVariants.{NotACommand, NumbersSpent}

-- a day: its market's state, how many commands and notices have come, and its list
pub record Tally (S : Type 0) : Type 0 where
  pub state : S
  pub commands : ℕ
  pub notices : ℕ
  pub list : List Notice

module _ {S : Type 0} (step : S → Command → S × List Notice) where
  -- a command is taken: the market steps, and its n notices stand in the front of the list under the numbers that follow
  pub record Stepped (c : Command) (before after : Tally S) (n : ℕ) : Type 0 where
    pub state : after.state ≡ (step before.state c).0
    pub number : n ≡ length (step before.state c).1
    pub told : take n after.list ≡ counted before.notices (step before.state c).1
    pub commands : after.commands ≡ before.commands + 1
    pub notices : after.notices ≡ before.notices + n

  -- the command that the bytes are is taken, unless all numbers are spent; other bytes are refused; a refusal changes nothing
  abbrev pub Took : Option Command → Tally S → Tally S → Result ℕ Refusal → Type 0
  Took (Some c) before after (Ok n) = Stepped c before after n
  Took (Some c) before after (Err e) = (e ≡ NumbersSpent) × (before.commands ≡ 1_000_000_000_000) × (after ≡ before)
  Took None before after (Ok n) = ⊥
  Took None before after (Err e) = (e ≡ NotACommand) × (after ≡ before)
