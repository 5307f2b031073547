-- Worked figures.
use Rattle.std.specs.Prelude.{◌≡◌, ℕ, true, false, [], ◌∷◌, Some, None}
use Rattle.records.specs.Commands.{good, encoded, decoded}
use Rattle.records.specs.declared.refusals.Refusal.TheVariants.{DeviceSize, NotACommand, JournalFull}
use Rattle.records.specs.declared.commands.Side.{Side}
use Rattle.records.specs.declared.commands.Side.TheVariants.{Buy, Sell}
use Rattle.records.specs.declared.commands.Command.{Command}
use Rattle.records.specs.declared.commands.Command.TheVariants.{Enter, Cancel, Cross}
use Rattle.market.specs.declared.orders.Order.{Order}
use Rattle.market.specs.Orders.{fill}
use Rattle.market.specs.Resting.{Resting, nothing}
use Rattle.device.specs.Meaning.{Meaning}
use Rattle.journal.specs.Places.{size_good, page_place}
use Rattle.protocol.specs.Faults.{first_fit}
use Rattle.protocol.specs.Worlds.{Rules, World}
use Rattle.protocol.specs.Steps.{State, reset, set_up, staging, applied, covering, open_reasons, stage_reasons, write_reasons}
use Rattle.protocol.specs.declared.phases.Phase.TheVariants.{Live}
use Rattle.book.specs.Steps.{book_step}
use Rattle.call.specs.Steps.{call_step}

abbrev pub enter : ℕ → Side → ℕ → ℕ → Command
enter m s p l = Enter (record { 0 = m }) s (record { 0 = p }) (record { 0 = l })

abbrev pub order : ℕ → ℕ → ℕ → ℕ → Order
order n m p l = record { number = record { 0 = n }; member = record { 0 = m }; price = record { 0 = p }; lots = record { 0 = l } }

-- a fresh book after a buy of 20 lots at 104 by member 1
abbrev pub one_buy : Resting
one_buy = (book_step nothing (enter 1 Buy 104 20)).0

-- a fresh call auction after three orders
abbrev pub three_orders : Resting
three_orders = (call_step (call_step (call_step nothing (enter 1 Buy 105 10)).0 (enter 2 Buy 101 5)).0 (enter 3 Sell 101 10)).0

-- an exchange of house 7 over n sectors: new, just set up, after a page with one cross, and with a cross staged behind that
-- page, which no snapshot covers, or one does
abbrev pub house_7 : Rules Resting → ℕ → World Resting
house_7 r n = record { house = record { 0 = 7 }; size = n; rules = r }

abbrev pub new : Rules Resting → ℕ → Meaning → State Resting
new r n m = reset (house_7 r n) m

abbrev pub live : Rules Resting → ℕ → Meaning → State Resting
live r n m = set_up (house_7 r n) m

abbrev pub one_page : Rules Resting → ℕ → Meaning → State Resting
one_page r n m = applied (house_7 r n) Live (Cross ∷ []) m (live r n m)

abbrev pub second_staged : Rules Resting → ℕ → Meaning → State Resting
second_staged r n m = staging (house_7 r n) Cross (one_page r n m)

abbrev pub second_covered : Rules Resting → ℕ → Meaning → State Resting
second_covered r n m = staging (house_7 r n) Cross (covering (house_7 r n) m (one_page r n m))

pub record Figures : Type 0 where
  -- a cross is the bytes 04 00 0D 00
  pub cross : encoded Cross ≡ 4 ∷ (0 ∷ (13 ∷ (0 ∷ [])))
  pub cross_back : decoded (4 ∷ (0 ∷ (13 ∷ (0 ∷ [])))) ≡ Some Cross
  -- with 12 sectors page 5 lies in sector 8
  pub place : page_place 12 5 ≡ 8
  -- 8 sectors are too few, 9 are enough
  pub too_few : size_good 8 ≡ false
  pub enough : size_good 9 ≡ true
  -- an exchange over 8 sectors is refused with reason 2, and one over 9 is set up and opened
  pub eight : (r : Rules Resting) (m : Meaning) → first_fit (open_reasons (house_7 r 8) (new r 8 m)) ≡ Some DeviceSize
  pub nine : (r : Rules Resting) (m : Meaning) → first_fit (open_reasons (house_7 r 9) (new r 9 m)) ≡ None
  -- with 9 sectors the second page is refused with reason 8, and is written once a snapshot covers the first
  pub second : (r : Rules Resting) (m : Meaning) → first_fit (write_reasons (house_7 r 9) (second_staged r 9 m)) ≡ Some JournalFull
  pub covered : (r : Rules Resting) (m : Meaning) → first_fit (write_reasons (house_7 r 9) (second_covered r 9 m)) ≡ None
  -- a price of 1,000,000 is good, of 0 and of 1,000,001 is not
  pub highest : good (enter 1 Buy 1_000_000 1) ≡ true
  pub free : good (enter 1 Buy 0 1) ≡ false
  pub above : good (enter 1 Buy 1_000_001 1) ≡ false
  -- so a live exchange stages the first, and refuses the others with reason 4
  pub staged : (r : Rules Resting) (m : Meaning) → first_fit (stage_reasons (house_7 r 9) (live r 9 m) (encoded (enter 1 Buy 1_000_000 1))) ≡ None
  pub free_refused : (r : Rules Resting) (m : Meaning) → first_fit (stage_reasons (house_7 r 9) (live r 9 m) (encoded (enter 1 Buy 0 1))) ≡ Some NotACommand
  pub above_refused : (r : Rules Resting) (m : Meaning) → first_fit (stage_reasons (house_7 r 9) (live r 9 m) (encoded (enter 1 Buy 1_000_001 1))) ≡ Some NotACommand
  -- a sell of 5 lots at 103 meets the buy at 104: one fill of 5 lots at 104, and 15 lots of the buy rest
  pub fills : (book_step one_buy (enter 2 Sell 103 5)).1 ≡ fill (record { 0 = 2 }) (order 1 1 104 20) (order 2 2 103 5) (record { 0 = 104 }) 5 ∷ []
  pub rests : (book_step one_buy (enter 2 Sell 103 5)).0 ≡ record { last = 2; buys = order 1 1 104 15 ∷ []; sells = [] }
  -- a cancel of order 1 by another member gives no notice, and the order stays
  pub not_his : book_step one_buy (Cancel (record { 0 = 2 }) (record { 0 = 1 })) ≡ (record { last = 2; buys = order 1 1 104 20 ∷ []; sells = [] }, [])
  -- call: buys of 10 lots at 105 and 5 at 101, a sell of 10 at 101, then a cross: 10 lots change hands at 101
  pub clears : (call_step three_orders Cross).1 ≡ fill (record { 0 = 4 }) (order 1 1 105 10) (order 3 3 101 10) (record { 0 = 101 }) 10 ∷ []
  pub waits : (call_step three_orders Cross).0 ≡ record { last = 4; buys = order 2 2 101 5 ∷ []; sells = [] }
