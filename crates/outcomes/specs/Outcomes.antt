-- What is seen of a device after a cut. Assumes nothing.
use Rattle.std.specs.Prelude.{ℕ, ◌+◌, ◌-◌, ◌^◌, ◌≤◌, min, Bool, true, false, cond, not, List, ◌≡◌, ◌⊎◌, nat_lt, slice_index_or}
use Rattle.device.specs.Meaning.{Meaning, bytes, torn}
use Rattle.device.specs.Calls.{WasCut, Woken, Kept}
use Rattle.device.specs.Runs.{Ran, CutIn}
use Rattle.device.specs.declared.run.Operation.{Operation}
use Rattle.outcomes.specs.declared.seen.Seen.{Seen}
use Rattle.outcomes.specs.declared.seen.Seen.TheVariants.{Byte, Torn, Unread}
use Rattle.outcomes.specs.declared.seen.Outcome.{Outcome}
use Rattle.outcomes.specs.declared.seen.Tally.{Tally}

-- the first byte of a sector, or that it is torn; unread where the read was refused or cut
abbrev pub SawSector : Meaning → ℕ → Seen → Meaning → Type 0
SawSector m s (Byte b) n = (x : List ℕ) × (m.reads s ≡ bytes x) × (b ≡ slice_index_or x 0 0) × (n ≡ m)
SawSector m s Torn n = (m.reads s ≡ torn) × (n ≡ m)
SawSector m s Unread n = ((m.size ≤ s) × (n ≡ m)) ⊎ WasCut m (Kept m) n

-- a list of operations run to its end, or until one is cut, and then a wake
abbrev pub RanAndWoke : Meaning → List Operation → Bool → Meaning → Type 0
RanAndWoke m os true n = (k : Meaning) × (t : ℕ) × CutIn m os t k × Woken k n
RanAndWoke m os false n = (k : Meaning) × Ran m os k × Woken k n

-- and then the first two sectors are read
pub record Observed (m : Meaning) (os : List Operation) (o : Outcome) (n : Meaning) : Type 0 where
  pub woken : Meaning
  pub between : Meaning
  pub ran : RanAndWoke m os o.cut woken
  pub first : SawSector woken 0 o.first between
  pub second : SawSector between 1 o.second n

-- old contents begin with a byte below 97 (a capital letter), new ones do not
abbrev pub seen_is_new : Seen → Bool
seen_is_new (Byte b) = not (nat_lt b 97)
seen_is_new Torn = false
seen_is_new Unread = false

abbrev pub seen_is_old : Seen → Bool
seen_is_old (Byte b) = nat_lt b 97
seen_is_old Torn = false
seen_is_old Unread = false

-- one sector reads as old and the other as new
abbrev pub mixed : Outcome → Bool
mixed o = cond (seen_is_old o.first) (seen_is_new o.second) (cond (seen_is_new o.first) (seen_is_old o.second) false)

abbrev pub torn_of : Seen → ℕ
torn_of (Byte b) = 0
torn_of Torn = 1
torn_of Unread = 0

-- the letter of what was seen: the byte itself, `-` for torn, `?` for unread
abbrev pub letter_of : Seen → ℕ
letter_of (Byte b) = b
letter_of Torn = 45
letter_of Unread = 63

-- a counter stops at its last value
abbrev pub counted : ℕ → ℕ → ℕ
counted n more = min (n + more) (2 ^ 32 - 1)

abbrev pub noted : Outcome → Tally → Tally
noted o t =
    record {
      cuts = counted t.cuts (cond o.cut 1 0);
      mixtures = counted t.mixtures (cond (mixed o) 1 0);
      torn = counted (counted t.torn (torn_of o.first)) (torn_of o.second);
    }
