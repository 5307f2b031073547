-- What the drive under a pile means, and the memory that it stands on. Assumes nothing.
use Rattle.std.specs.Borrow.{GName}
use Rattle.std.specs.Prelude.{◌⊎◌, []}
use Rattle.device.specs.Meaning.{Meaning, Lawful}
use Rattle.drives.specs.Drives.{State, state, meaning_of, meaning_lawful}
use Rattle.drives.specs.declared.schedule.Schedule.{Schedule}
use Rattle.stores.specs.declared.plain.Plain.{Plain}
use Rattle.stores.specs.declared.cached.Cached.{Cached}
use Rattle.either_device.specs.Eithers.{meant_by, meant_lawful, lent_by}
use Rattle.piles.specs.declared.base.Base.{Base}

-- a direct drive, and a write-back drive, to the byte
abbrev pub direct_state : Schedule Plain → State
direct_state s = state (λ p. p.image.now) (λ p. []) s.drive

abbrev pub write_back_state : Schedule Cached → State
write_back_state s = state (λ p. p.image.now) (λ p. p.queue.items.items) s.drive

abbrev pub base_meaning : Base → Meaning
base_meaning b = meant_by (λ s. meaning_of (direct_state s)) (λ s. meaning_of (write_back_state s)) b.0

pub base_lawful : (b : Base) → Lawful (base_meaning b)
base_lawful b =
    meant_lawful (λ s. meaning_of (direct_state s)) (λ s. meaning_of (write_back_state s)) (λ s. meaning_lawful (direct_state s)) (λ s. meaning_lawful (write_back_state s)) b.0

abbrev pub BaseLender : Type 0
BaseLender = GName ⊎ GName

abbrev pub base_lender : Base → BaseLender
base_lender b = lent_by (λ s. s.drive.store.image.ghost_name) (λ s. s.drive.store.image.ghost_name) b.0
