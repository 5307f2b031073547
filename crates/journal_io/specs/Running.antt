-- What a row of device calls answers through the journal.
use Rattle.std.specs.Prelude.{ℕ, List, [], ◌∷◌, Ok, Err, Result}
use Rattle.records.specs.Headers.{header_sector_bytes}
use Rattle.records.specs.Pages.{page_of, page_sector_bytes}
use Rattle.records.specs.declared.commands.Command.{Command}
use Rattle.records.specs.declared.pages.PageHead.{PageHead}
use Rattle.records.specs.declared.headers.Header.{Header}
use Rattle.device.specs.Meaning.{Meaning}
use Rattle.device.specs.Runs.{Ran, CutIn}
use Rattle.device.specs.declared.fault.DeviceFault.TheVariants.{OutOfRange, Cut, Torn}
use Rattle.device.specs.declared.run.Operation.{Operation}
use Rattle.device.specs.declared.run.Operation.TheVariants as op
use Rattle.journal.specs.Places.{page_place}
use Rattle.journal.specs.Slots.{header_place}
use Rattle.journal.specs.declared.slots.Slot.{Slot}
use Rattle.protocol.specs.declared.faults.JournalFault.{JournalFault}
use Rattle.protocol.specs.declared.faults.JournalFault.TheVariants as fault
use Rattle.protocol.specs.Worlds.{blank, body_at}
use Rattle.journal_io.specs.Pieces.{piece}

-- all were performed, or one, which asks the sector s, was cut; no other fault comes of them
abbrev pub Running : Meaning → List Operation → Result (Unit {0}) JournalFault → Meaning → Type 0
Running m ops (Ok _) n = Ran m ops n
Running m ops (Err (fault.Device (Cut s))) n = CutIn m ops s n
Running m ops (Err (fault.Device (OutOfRange s))) n = ⊥
Running m ops (Err (fault.Device (Torn s))) n = ⊥
Running m ops (Err fault.NoHeader) n = ⊥
Running m ops (Err (fault.Refused s)) n = ⊥
Running m ops (Err (fault.OtherLast s)) n = ⊥
Running m ops (Err (fault.BadPage s)) n = ⊥

-- a body goes to a slot, is synced, and then its header goes there, and is synced
abbrev pub snapshot_writes : Slot → List ℕ → Header → List Operation
snapshot_writes t b h = op.Write (body_at t 0) (piece b 0) ∷ op.Write (body_at t 1) (piece b 1) ∷ op.Write (body_at t 2) (piece b 2) ∷ op.Sync ∷ op.Write (header_place t) (header_sector_bytes h) ∷ op.Sync ∷ []

-- sectors 0 and 4 and the journal are cleared, on a device that was woken
abbrev pub first_writes : List Operation
first_writes = op.Wake ∷ op.Write 0 blank ∷ op.Write 4 blank ∷ []

-- a page goes to its sector
abbrev pub page_writes : ℕ → PageHead → List Command → List Operation
page_writes size h cs = op.Write (page_place size h.number.0) (page_sector_bytes (page_of h cs)) ∷ []
