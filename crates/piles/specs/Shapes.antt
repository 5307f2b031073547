-- The bytes that the drives of a shape stand on. Assumes nothing.
use Rattle.std.specs.Prelude.{ℕ, ◌*◌}
use Rattle.piles.specs.declared.shape.DriveShape.{DriveShape}
use Rattle.piles.specs.declared.shape.WholeShape.{WholeShape}
use Rattle.piles.specs.declared.shape.WholeShape.TheVariants.{Part, Mirror}

-- 513 bytes a sector: a mark and the 512 bytes
abbrev pub drive_bytes : DriveShape → ℕ
drive_bytes d = d.sectors * 513

abbrev pub first_bytes_of : WholeShape → ℕ
first_bytes_of (Part p) = drive_bytes p.drive
first_bytes_of (Mirror p q) = drive_bytes p.drive

-- only a mirror has a second drive
abbrev pub second_bytes_of : WholeShape → ℕ
second_bytes_of (Part p) = 0
second_bytes_of (Mirror p q) = drive_bytes q.drive
