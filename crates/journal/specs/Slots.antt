-- The two snapshot slots.
use Rattle.std.specs.Prelude.{ℕ, ◌+◌}
use Rattle.journal.specs.declared.slots.Slot.{Slot}
use Rattle.journal.specs.declared.slots.Slot.TheVariants.{Zero, One}

abbrev pub other : Slot → Slot
other Zero = One
other One = Zero

-- slots 0 and 1
abbrev pub slot_number : Slot → ℕ
slot_number Zero = 0
slot_number One = 1

-- slot 0 has its header in sector 0, slot 1 in sector 4
abbrev pub header_place : Slot → ℕ
header_place Zero = 0
header_place One = 4

-- the three sectors behind the header hold the body: here the first of them
abbrev pub body_place : Slot → ℕ
body_place s = header_place s + 1
