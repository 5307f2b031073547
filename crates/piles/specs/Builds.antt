-- What is built of a shape over lent bytes. Assumes nothing.
use Rattle.std.specs.Prelude.{◌≡◌, ℕ, true, ◌⊎◌, List, [], None, vec_items}
use Rattle.std.specs.Borrow.{MutBor}
use Rattle.drives.specs.Drives.{State}
use Rattle.drives.specs.Schedules.{next_on, rest}
use Rattle.drives.specs.declared.schedule.Schedule.{Schedule}
use Rattle.stores.specs.declared.plain.Plain.{Plain}
use Rattle.stores.specs.declared.cached.Cached.{Cached}
use Rattle.device.specs.declared.offset.Offset.{Offset as Shift}
use Rattle.mirror.specs.declared.Mirror.{Mirror as Pair}
use Rattle.piles.specs.Bases.{direct_state, write_back_state}
use Rattle.either_device.specs.declared.Either.{Either}
use Rattle.either_device.specs.declared.Either.TheVariants.{First, Second}
use Rattle.piles.specs.declared.base.Base.{Base}
use Rattle.piles.specs.declared.shape.DriveKind.{DriveKind}
use Rattle.piles.specs.declared.shape.DriveKind.TheVariants.{Direct, WriteBack}
use Rattle.piles.specs.declared.shape.DriveShape.{DriveShape}
use Rattle.piles.specs.declared.shape.PartShape.{PartShape}
use Rattle.piles.specs.declared.shape.WholeShape.{WholeShape}
use Rattle.piles.specs.declared.shape.WholeShape.TheVariants.{Part, Mirror}
use Rattle.piles.specs.declared.shape.PileShape.{PileShape}

-- lent bytes
abbrev pub Bytes : Type 0
Bytes = MutBor (List ℕ)

-- a new drive over the bytes: lit, nothing waits, and the first of its fuses is on
abbrev pub fresh : DriveShape → Bytes → State
fresh d i = next_on (vec_items d.fuses) (record { image = i.now; waiting = []; lit = true; fuse = None })

-- a drive of a kind over the bytes, with the shape's fuses
abbrev pub IsDrive : DriveKind → DriveShape → Bytes → Either (Schedule Plain) (Schedule Cached) → Type 0
IsDrive Direct d i (First s) = (direct_state s ≡ fresh d i) × (s.fuses.now ≡ rest (vec_items d.fuses)) × (s.drive.store.image.ghost_name ≡ i.ghost_name)
IsDrive Direct d i (Second s) = ⊥
IsDrive WriteBack d i (First s) = ⊥
IsDrive WriteBack d i (Second s) = (write_back_state s ≡ fresh d i) × (s.fuses.now ≡ rest (vec_items d.fuses)) × (s.drive.store.image.ghost_name ≡ i.ghost_name)

abbrev pub IsBase : DriveShape → Bytes → Base → Type 0
IsBase d i b = IsDrive d.kind d i b.0

abbrev pub IsPart : PartShape → Bytes → Shift Base → Type 0
IsPart p i o = (o.base ≡ p.base) × IsBase p.drive i o.device

-- the second bytes are for the second half of a mirror
abbrev pub IsWhole : WholeShape → Bytes → Bytes → Either (Shift Base) (Pair (Shift Base) (Shift Base)) → Type 0
IsWhole (Part p) i j (First a) = IsPart p i a
IsWhole (Part p) i j (Second m) = ⊥
IsWhole (Mirror p q) i j (First a) = ⊥
IsWhole (Mirror p q) i j (Second m) = IsPart p i m.a × IsPart q j m.b

abbrev pub IsPile : PileShape → Bytes → Bytes → Shift (Either (Shift Base) (Pair (Shift Base) (Shift Base))) → Type 0
IsPile p i j o = (o.base ≡ p.base) × IsWhole p.whole i j o.device

-- only a write-back drive takes memory of its own, for the writes that wait
abbrev pub WaitsIn : DriveShape → Type 0
WaitsIn d = d.kind ≡ WriteBack

abbrev pub HasWriteBack : WholeShape → Type 0
HasWriteBack (Part p) = WaitsIn p.drive
HasWriteBack (Mirror p q) = WaitsIn p.drive ⊎ WaitsIn q.drive
