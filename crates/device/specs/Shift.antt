-- The sectors of a device from a base on. Assumes nothing.
use Rattle.std.specs.Prelude.{ℕ, ◌+◌, ◌-◌, Ok, Err}
use Rattle.std.proofs.Common.{arith}
use Rattle.device.specs.Meaning.{Meaning, Lawful}
use Rattle.device.specs.Calls.{Answer}
use Rattle.device.specs.Faults.{told_of}

-- sector s is the device's sector base + s; past the end of the device there is none
abbrev pub shifted : ℕ → Meaning → Meaning
shifted base m = record { size = m.size - base; lit = m.lit; reads = λ s. m.reads (base + s); may = λ s. m.may (base + s) }

pub shifted_lawful : (base : ℕ) (m : Meaning) → Lawful m → Lawful (shifted base m)
shifted_lawful base m l =
    record {
      among = λ s h. l.among (base + s) (omega arith);
      whole = λ s h. l.whole (base + s) (omega arith);
      small = let k = l.small in omega arith;
    }

-- the answer of a layer above, told of the sector t of the device below
abbrev pub told_below : ℕ → Answer → Answer
told_below t (Ok u) = Ok u
told_below t (Err f) = Err (told_of t f)
