-- Which files a run works on. Assumes nothing.
use Rattle.std.specs.Prelude.{◌≡◌, ℕ, List, Bool, true, ◌⊎◌, Ok, vec_items, vec_len}
use Rattle.halls.specs.declared.owners.Owner.{Owner}
use Rattle.runs.specs.Owners.{JudgedIn}
use Rattle.runs.specs.declared.files.Files.{Files}
use Rattle.runs.specs.declared.files.Files.TheVariants as files

-- the owner's exchange is in the image
abbrev pub Holds : Owner → List ℕ → Type 0
Holds o image = JudgedIn o image (Ok true)

-- the owner's exchange is in the image, or none is
abbrev pub Free : Owner → List ℕ → Type 0
Free o image = (held : Bool) × JudgedIn o image (Ok held)

-- The owner's exchange is on the file; or on one of two at least, of one size, of which none is another's.
abbrev pub FilesOf : Owner → Files → Type 0
FilesOf o (files.One x) = Holds o (vec_items x.image)
FilesOf o (files.Two x y) = (Holds o (vec_items x.image) ⊎ Holds o (vec_items y.image)) × (Free o (vec_items x.image) × Free o (vec_items y.image)) × (vec_len x.image ≡ vec_len y.image)
