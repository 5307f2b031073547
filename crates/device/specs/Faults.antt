-- The numbers of a device's faults. Assumes nothing.
use Rattle.std.specs.Prelude.{ℕ}
use Rattle.device.specs.declared.fault.DeviceFault.{DeviceFault}
use Rattle.device.specs.declared.fault.DeviceFault.TheVariants.{OutOfRange, Cut, Torn}

-- 14: a read or write at or past the size; 15: the power was cut, or was off; 16: the sector read is torn
abbrev pub number : DeviceFault → ℕ
number (OutOfRange s) = 14
number (Cut s) = 15
number (Torn s) = 16

-- the sector that was asked, 0 for a sync
abbrev pub asked : DeviceFault → ℕ
asked (OutOfRange s) = s
asked (Cut s) = s
asked (Torn s) = s

-- the same fault, told of another sector: for a layer that numbers sectors its own way
abbrev pub told_of : ℕ → DeviceFault → DeviceFault
told_of t (OutOfRange s) = OutOfRange t
told_of t (Cut s) = Cut t
told_of t (Torn s) = Torn t
