-- The bytes of sectors that lie one after another. Assumes nothing.
use Rattle.std.specs.Prelude.{ℕ, zero, suc, ◌+◌, List, [], ◌++◌, Option, Some, None}
use Rattle.image.specs.Image.{bytes_of, seen}

abbrev pub and_more : Option (List ℕ) → Option (List ℕ) → Option (List ℕ)
and_more (Some a) (Some b) = Some (a ++ b)
and_more (Some a) None = None
and_more None b = None

-- the bytes of n sectors of an image from `at` on; none where one of them is torn
abbrev pub row_of_sectors : List ℕ → ℕ → ℕ → Option (List ℕ)
row_of_sectors image at zero = Some []
row_of_sectors image at (suc n) = and_more (row_of_sectors image at n) (bytes_of (seen image (at + n)))
