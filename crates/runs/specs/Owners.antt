-- Whose exchange an image holds. Assumes nothing.
use Rattle.std.specs.Prelude.{◌≡◌, ℕ, List, Bool, true, false, ◌⊎◌, Option, Some, None, Result, Ok, Err, ◌≢◌}
use Rattle.journal.specs.Slots.{header_place}
use Rattle.journal.specs.declared.slots.Slot.TheVariants.{Zero, One}
use Rattle.halls.specs.declared.owners.Owner.{Owner}
use Rattle.halls.specs.Owners.{owner_at}

-- The owners of two snapshots are judged so, where none has no good header: one of the two is the owner's; or neither slot
-- has a snapshot; or neither has the owner's, and one has that of the owner who is told.
abbrev pub Judged : Owner → Option Owner → Option Owner → Result Bool Owner → Type 0
Judged o zero one (Ok true) = (zero ≡ Some o) ⊎ (one ≡ Some o)
Judged o zero one (Ok false) = (zero ≡ None) × (one ≡ None)
Judged o zero one (Err other) = ((zero ≢ Some o) × (one ≢ Some o)) × ((zero ≡ Some other) ⊎ (one ≡ Some other))

-- what an image holds is judged so
abbrev pub JudgedIn : Owner → List ℕ → Result Bool Owner → Type 0
JudgedIn o image = Judged o (owner_at image (header_place Zero)) (owner_at image (header_place One))
