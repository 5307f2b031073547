-- Whether a pile has cuts of its own. Assumes nothing.
use Rattle.std.specs.Prelude.{Bool, not, ◌||◌, ◌==◌, length, vec_items}
use Rattle.piles.specs.declared.shape.DriveShape.{DriveShape}
use Rattle.piles.specs.declared.shape.WholeShape.{WholeShape}
use Rattle.piles.specs.declared.shape.WholeShape.TheVariants.{Part, Mirror}

abbrev pub drive_cuts : DriveShape → Bool
drive_cuts d = not (length (vec_items d.fuses) == 0)

abbrev pub has_cuts : WholeShape → Bool
has_cuts (Part p) = drive_cuts p.drive
has_cuts (Mirror a b) = drive_cuts a.drive || drive_cuts b.drive
