-- A drive to the byte: its image, the writes that wait, its power and its fuse, after every call. Assumes nothing.
use Rattle.std.specs.Prelude.{◌≡◌, ℕ, Bool, true, false, cond, List, [], ◌∷◌, ◌++◌, Some, None, Ok, Err, Option, nat_lt}
use Rattle.device.specs.Meaning.{Meaning, Reading, bytes, torn, Lawful}
use Rattle.device.specs.Calls.{Answer}
use Rattle.device.specs.declared.fault.DeviceFault.TheVariants.{OutOfRange, Cut, Torn}
use Rattle.image.specs.Image.{size_of, seen, filled}
use Rattle.image.specs.Fuses.{cutting, counted}
use Rattle.image.specs.Waiting.{put_all, put_some, over, staying, settled, meant}
use Rattle.image.specs.declared.fuse.Fuse.{Fuse}
use Rattle.image.specs.declared.fuse.Plan.{Plan}
use Rattle.image.specs.declared.pending.Pending.{Pending}
use Rattle.image.proofs.Meanings.{meant_lawful}
use Rattle.drives.specs.declared.drive.Drive.{Drive}

pub record State : Type 0 where
  pub image : List ℕ
  pub waiting : List Pending
  pub lit : Bool
  pub fuse : Option Fuse

abbrev pub state : {S : Type 0} → (S → List ℕ) → (S → List Pending) → Drive S → State
state image waiting d = record { image = image d.store; waiting = waiting d.store; lit = d.lit; fuse = d.fuse }

-- what a drive means: nothing of its fuse
abbrev pub meaning_of : State → Meaning
meaning_of d = meant d.image d.waiting d.lit

pub meaning_lawful : (d : State) → Lawful (meaning_of d)
meaning_lawful d = meant_lawful d.image d.waiting d.lit

-- how far a call comes, the first that fits: it asks a sector at or past the size; the drive is dark; the fuse blows, by its
-- plan; else it goes through. Only in the last two does the fuse count it
pub data Gate : Type 0 where
  Past : Gate
  Dark : Gate
  Blown : Plan → Gate
  Through : Gate

abbrev pub by_plan : Option Plan → Gate
by_plan None = Through
by_plan (Some plan) = Blown plan

abbrev pub gate_of : Bool → Bool → Option Fuse → Gate
gate_of false lit fuse = Past
gate_of true false fuse = Dark
gate_of true true fuse = by_plan (cutting fuse)

abbrev pub gate_at : State → ℕ → Gate
gate_at d at = gate_of (nat_lt at (size_of d.image)) d.lit d.fuse

-- a drive that its fuse cut by `plan`: each waiting write, and then the one in course, is dropped, torn or kept; none waits
abbrev pub cut_off : Plan → List Pending → State → State
cut_off plan course d = record { image = settled plan d.image (d.waiting ++ course); waiting = []; lit = false; fuse = counted d.fuse }

-- one call less to go
abbrev pub ticks : State → State
ticks d = record { image = d.image; waiting = d.waiting; lit = d.lit; fuse = counted d.fuse }

-- a call that asks the sector `at`, with the write in course, if there is one: it is stopped, or the fuse has counted it
abbrev pub PassedBy : Gate → State → ℕ → List Pending → Answer → State → Type 0
PassedBy Past d at course r e = (r ≡ Err (OutOfRange at)) × (e ≡ d)
PassedBy Dark d at course r e = (r ≡ Err (Cut at)) × (e ≡ d)
PassedBy (Blown plan) d at course r e = (r ≡ Err (Cut at)) × (e ≡ cut_off plan course d)
PassedBy Through d at course r e = (r ≡ Ok tt) × (e ≡ ticks d)

-- a read of the sector `at`: the newest waiting write of it, or else the image
abbrev pub newest : State → ℕ → Reading
newest d at = seen (put_all d.image d.waiting) at

abbrev pub read_answer : ℕ → Reading → Answer
read_answer at (bytes b) = Ok tt
read_answer at torn = Err (Torn at)

abbrev pub ReadBy : Gate → State → ℕ → (old : List ℕ) → Answer → (new : List ℕ) → State → Type 0
ReadBy Past d at old r new e = (r ≡ Err (OutOfRange at)) × (new ≡ old) × (e ≡ d)
ReadBy Dark d at old r new e = (r ≡ Err (Cut at)) × (new ≡ old) × (e ≡ d)
ReadBy (Blown plan) d at old r new e = (r ≡ Err (Cut at)) × (new ≡ old) × (e ≡ cut_off plan [] d)
ReadBy Through d at old r new e = (r ≡ read_answer at (newest d at)) × (new ≡ filled old (newest d at)) × (e ≡ ticks d)

abbrev pub DriveRead : State → ℕ → (old : List ℕ) → Answer → (new : List ℕ) → State → Type 0
DriveRead d at old r new e = ReadBy (gate_at d at) d at old r new e

-- a write: it waits behind the others, and where more than `room` then wait the oldest is put down
abbrev pub takes : ℕ → Pending → State → State
takes room p d =
    record {
      image = put_some d.image (over room (d.waiting ++ p ∷ []));
      waiting = staying room (d.waiting ++ p ∷ []);
      lit = d.lit;
      fuse = counted d.fuse;
    }

abbrev pub WriteBy : Gate → ℕ → State → Pending → Answer → State → Type 0
WriteBy Past room d p r e = (r ≡ Err (OutOfRange p.sector)) × (e ≡ d)
WriteBy Dark room d p r e = (r ≡ Err (Cut p.sector)) × (e ≡ d)
WriteBy (Blown plan) room d p r e = (r ≡ Err (Cut p.sector)) × (e ≡ cut_off plan (p ∷ []) d)
WriteBy Through room d p r e = (r ≡ Ok tt) × (e ≡ takes room p d)

abbrev pub DriveWrite : (room : ℕ) → State → (at : ℕ) (new : List ℕ) → Answer → State → Type 0
DriveWrite room d at new r e = WriteBy (gate_at d at) room d (record { sector = at; bytes = new }) r e

-- a sync puts all down
abbrev pub emptied : State → State
emptied d = record { image = put_all d.image d.waiting; waiting = []; lit = d.lit; fuse = counted d.fuse }

abbrev pub SyncBy : Gate → State → Answer → State → Type 0
SyncBy Past d r e = ⊥
SyncBy Dark d r e = (r ≡ Err (Cut 0)) × (e ≡ d)
SyncBy (Blown plan) d r e = (r ≡ Err (Cut 0)) × (e ≡ cut_off plan [] d)
SyncBy Through d r e = (r ≡ Ok tt) × (e ≡ emptied d)

abbrev pub DriveSync : State → Answer → State → Type 0
DriveSync d r e = SyncBy (gate_of true d.lit d.fuse) d r e

-- a wake lights a dark drive and takes its fuse out; a lit one stays as it is
abbrev pub roused : State → State
roused d = record { image = d.image; waiting = d.waiting; lit = true; fuse = cond d.lit d.fuse None }

-- a fuse put on
abbrev pub fused : Option Fuse → State → State
fused fuse d = record { image = d.image; waiting = d.waiting; lit = d.lit; fuse = fuse }
