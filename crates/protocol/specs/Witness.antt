-- That none of it is empty: the laws of a market, a market that keeps them, and a run of its exchange that is cut.
-- Assumes nothing.
use Rattle.std.specs.Prelude.{◌≡◌, ℕ, ◌+◌, ◌≤◌, Bool, true, false, cond, ◌&&◌, List, [], ◌∷◌, ◌++◌, length, replicate, Some, None, Ok, Err, Option, ◌==◌, nat_le, nat_lt}
use Rattle.records.specs.LittleEndian.{le, field, Bytes}
use Rattle.records.specs.Commands.{encoded}
use Rattle.records.specs.declared.commands.Command.{Command}
use Rattle.records.specs.declared.commands.Command.TheVariants.{Enter, Cancel, Cross}
use Rattle.records.specs.declared.commands.Side.TheVariants.{Buy}
use Rattle.records.specs.declared.notices.Notice.{Notice}
use Rattle.records.specs.declared.notices.Kind.TheVariants.{Dropped}
use Rattle.market.specs.Lists.{all}
use Rattle.market.specs.Steps.{uncounted}
use Rattle.device.specs.Meaning.{Meaning, Reading, bytes, torn}
use Rattle.protocol.specs.declared.phases.Phase.TheVariants.{Live}
use Rattle.protocol.specs.declared.tokens.TicketNumbers.{TicketNumbers}
use Rattle.protocol.specs.Faults.{cut_at}
use Rattle.protocol.specs.Worlds.{N, Rules, World}
use Rattle.protocol.specs.Steps.{State, Handed, Stage, Write, Sync, Deliver, Snapshot, Open, Replay, receipt, handed}
use Rattle.protocol.specs.Promises.{History, Run, recorded}

-- the laws of the trait `Market`, where `valid` are the states that a market can be in
pub record MarketLaws {S : Type 0} (r : Rules S) (valid : S → Type 0) : Type 0 where
  pub starts : valid r.start × (r.count r.start ≡ 0)
  pub bounded : (s : S) → valid s → r.count s ≤ N
  pub keeps : (s : S) (c : Command) → valid s → valid (r.step s c).0
  pub few : (s : S) (c : Command) → valid s → length (r.step s c).1 ≤ 64
  pub counts : (s : S) (c : Command) → r.count (r.step s c).0 ≡ cond (nat_lt (r.count s) N) (r.count s + 1) (r.count s)
  pub uncounts : (s : S) (c : Command) → all (uncounted (r.count s + 1)) (r.step s c).1 ≡ true
  pub sized : (s : S) → valid s → length (r.body s) ≡ 1536
  pub plain : (s : S) → valid s → Bytes (r.body s)
  pub back : (s : S) → valid s → r.loads (r.body s) ≡ Some s
  pub only : (b : List ℕ) (s : S) → r.loads b ≡ Some s → valid s × (r.body s ≡ b)

abbrev pub same_bytes : List ℕ → List ℕ → Bool
same_bytes [] [] = true
same_bytes [] (y ∷ ys) = false
same_bytes (x ∷ xs) [] = false
same_bytes (x ∷ xs) (y ∷ ys) = x == y && same_bytes xs ys

-- A market whose state is how many commands it has taken, and that gives one notice a command: that it dropped it. A saved
-- state is the count in 8 bytes, and zeros.
abbrev pub dropping : ℕ → Notice
dropping n = record { number = record { 0 = 0 }; command = record { 0 = n }; kind = Dropped; a = record { order = record { 0 = n }; member = record { 0 = 0 } }; b = record { order = record { 0 = 0 }; member = record { 0 = 0 } }; price = record { 0 = 0 }; lots = record { 0 = 0 } }

unfoldable pub saved : ℕ → List ℕ
saved n = le 8 n ++ replicate 1528 0

unfoldable pub found : List ℕ → Option ℕ
found b = cond (nat_le (field 0 8 b) N && same_bytes (saved (field 0 8 b)) b) (Some (field 0 8 b)) None

abbrev pub counting : Rules ℕ
counting = record { code = 9; start = 0; count = λ s. s; step = λ s c. (cond (nat_lt s N) (s + 1) s, dropping (s + 1) ∷ []); body = saved; loads = found }

-- A device of 12 sectors that keeps exactly what it is given: of a sector a cut leaves what it reads as.
abbrev pub same_reading : Reading → Reading → Bool
same_reading torn torn = true
same_reading torn (bytes b) = false
same_reading (bytes a) torn = false
same_reading (bytes a) (bytes b) = same_bytes a b

abbrev pub disk : Bool → (ℕ → Reading) → Meaning
disk lit reads = record { size = 12; lit = lit; reads = reads; may = λ s x. same_reading x (reads s) }

-- the exchange's world: house number 7
abbrev pub house_seven : World ℕ
house_seven = record { house = record { 0 = 7 }; size = 12; rules = counting }

-- Three commands. The first is on page 1, the others are on page 2, whose write is cut, and whose page is there nevertheless.
abbrev pub an_order : Command
an_order = Enter (record { 0 = 1 }) Buy (record { 0 = 100 }) (record { 0 = 5 })

abbrev pub its_cancel : Command
its_cancel = Cancel (record { 0 = 1 }) (record { 0 = 1 })

abbrev pub a_cross : Command
a_cross = Cross

abbrev pub one_ticket : TicketNumbers
one_ticket = record { house = record { 0 = 7 }; page = record { 0 = 1 } }

abbrev pub page_one : Handed
page_one = record { receipt = receipt house_seven 0 0 0 0 (an_order ∷ []); notices = handed house_seven 0 0 (an_order ∷ []) }

abbrev pub page_two : Handed
page_two = record { receipt = receipt house_seven 1 1 1 1 (its_cancel ∷ a_cross ∷ []); notices = handed house_seven 1 1 (its_cancel ∷ a_cross ∷ []) }

-- the latest first: page 1 is written, synced, delivered and covered by a snapshot; page 2 is written and cut; it is opened
abbrev pub till_opened : History
till_opened =
    Open (Ok (record { 0 = 1 })) ∷ Write (Err (cut_at 9)) ∷ Stage (encoded a_cross) (Ok (record { 0 = 3 })) ∷ Stage (encoded its_cancel) (Ok (record { 0 = 2 })) ∷ Snapshot (Ok tt) ∷
    Deliver page_one.receipt (Ok tt) ∷ Sync one_ticket 64 (Ok page_one) ∷ Write (Ok one_ticket) ∷ Stage (encoded an_order) (Ok (record { 0 = 1 })) ∷ []

-- and its replay finds page 2, and then nothing more
abbrev pub till_live : History
till_live = Replay 1024 (Ok None) ∷ Replay 1024 (Ok (Some page_two)) ∷ till_opened

-- this market keeps the laws, and this history is a run of its exchange over such a device: it ends live, and the opening
-- adds the sent page
pub record ARun : Type 0 where
  pub laws : MarketLaws counting (λ s. s ≤ N)
  pub reads : ℕ → Reading
  pub end : State ℕ
  pub live : end.phase ≡ Live
  pub device : end.device ≡ disk true reads
  pub run : Run counting till_live end
  pub record_before : recorded till_opened ≡ (an_order ∷ []) ∷ []
  pub record_after : recorded till_live ≡ (an_order ∷ []) ∷ (its_cancel ∷ a_cross ∷ []) ∷ []
