-- Refusals, and what they carry. Assumes nothing.
use Rattle.std.specs.Prelude.{ℕ, Bool, cond, List, [], ◌∷◌, Some, None, Option}
use Rattle.records.specs.declared.refusals.Refusal.{Refusal}
use Rattle.records.specs.declared.refusals.Refusal.TheVariants.{PastTheEnd, PowerCut, NoHeader, BadBody, BadPage}
use Rattle.records.specs.Refusals.{reason}
use Rattle.device.specs.Faults.{number, asked}
use Rattle.device.specs.declared.fault.DeviceFault.{DeviceFault}
use Rattle.device.specs.declared.fault.DeviceFault.TheVariants.{OutOfRange, Cut, Torn}
use Rattle.protocol.specs.declared.faults.Origin.{Origin}
use Rattle.protocol.specs.declared.faults.Origin.TheVariants as origin
use Rattle.protocol.specs.declared.faults.JournalFault.{JournalFault}
use Rattle.protocol.specs.declared.faults.JournalFault.TheVariants as journal
use Rattle.protocol.specs.declared.faults.ExchangeFault.{ExchangeFault}

-- what a fault carries as numbers: the device's own fault, the sector and the layer (1 device, 2 market, 3 exchange),
-- 0 where it has none
abbrev pub own_fault_of : Origin → ℕ
own_fault_of origin.Plain = 0
own_fault_of (origin.Device f) = number f
own_fault_of (origin.Market s) = 0
own_fault_of (origin.Exchange s) = 0

abbrev pub sector_of : Origin → ℕ
sector_of origin.Plain = 0
sector_of (origin.Device f) = asked f
sector_of (origin.Market s) = s
sector_of (origin.Exchange s) = s

abbrev pub layer_of : Origin → ℕ
layer_of origin.Plain = 0
layer_of (origin.Device f) = 1
layer_of (origin.Market s) = 2
layer_of (origin.Exchange s) = 3

-- the number of the reason
abbrev pub reason_of : ExchangeFault → ℕ
reason_of f = reason f.reason

-- a call that is not allowed: its reason alone
abbrev pub plain : Refusal → ExchangeFault
plain r = record { reason = r; origin = origin.Plain }

-- a device call that asked the sector s was cut
abbrev pub cut_at : ℕ → ExchangeFault
cut_at s = record { reason = PowerCut; origin = origin.Device (Cut s) }

-- the body is torn at the sector s; the market refuses the body that begins at s; it is of another command than its header
abbrev pub torn_at : ℕ → ExchangeFault
torn_at s = record { reason = BadBody; origin = origin.Device (Torn s) }

abbrev pub refused_at : ℕ → ExchangeFault
refused_at s = record { reason = BadBody; origin = origin.Market s }

abbrev pub other_last_at : ℕ → ExchangeFault
other_last_at s = record { reason = BadBody; origin = origin.Exchange s }

-- the page in the sector s is the one looked for, and not good or not the next one
abbrev pub bad_page_at : ℕ → ExchangeFault
bad_page_at s = record { reason = BadPage; origin = origin.Exchange s }

-- a device's fault as the journal's
abbrev pub from_device : DeviceFault → JournalFault
from_device f = journal.Device f

-- a journal's fault as the exchange's. (No sector at or past the size is ever asked.)
abbrev pub of_device : DeviceFault → ExchangeFault
of_device (OutOfRange s) = record { reason = PastTheEnd; origin = origin.Device (OutOfRange s) }
of_device (Cut s) = cut_at s
of_device (Torn s) = torn_at s

abbrev pub of_journal : JournalFault → ExchangeFault
of_journal (journal.Device f) = of_device f
of_journal journal.NoHeader = plain NoHeader
of_journal (journal.Refused s) = refused_at s
of_journal (journal.OtherLast s) = other_last_at s
of_journal (journal.BadPage s) = bad_page_at s

-- reasons in their order, each with its test: the first that fits is given
abbrev pub first_fit : List (Bool × Refusal) → Option Refusal
first_fit [] = None
first_fit ((test, r) ∷ rs) = cond test (Some r) (first_fit rs)
