-- What a device on a file means: what the drive in its memory means. Assumes nothing.
use Rattle.std.specs.Prelude.{◌≡◌, ◌⊎◌, ℕ, suc}
use Rattle.std.specs.Borrow.{GName}
use Rattle.device.specs.Meaning.{Meaning, Lawful}
use Rattle.drives.specs.Drives.{State, state, meaning_of, meaning_lawful}
use Rattle.drives.specs.declared.drive.Drive.{Drive}
use Rattle.stores.specs.declared.cached.Cached.{Cached}
use Rattle.file_device.specs.declared.on_file.OnFile.{OnFile}

-- a write-back drive
abbrev pub drive_state : Drive Cached → State
drive_state d = state (λ p. p.image.now) (λ p. p.queue.items.items) d

abbrev pub drive_meaning : Drive Cached → Meaning
drive_meaning d = meaning_of (drive_state d)

abbrev pub drive_lender : Drive Cached → GName
drive_lender d = d.store.image.ghost_name

-- and the one of a device on a file
abbrev pub file_meaning : OnFile → Meaning
file_meaning f = drive_meaning f.drive

pub file_lawful : (f : OnFile) → Lawful (file_meaning f)
file_lawful f = meaning_lawful (drive_state f.drive)

abbrev pub file_lender : OnFile → GName
file_lender f = drive_lender f.drive

-- One more write of the file is not synced, or it is the first after a sync that 8 brought on.
abbrev pub OneMore : ℕ → ℕ → Type 0
OneMore before after = (after ≡ suc before) ⊎ ((before ≡ 8) × (after ≡ 1))
