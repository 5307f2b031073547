-- Which lengths are no image's. Assumes nothing.
use Rattle.std.specs.Prelude.{◌≡◌, ℕ, ◌*◌, false}
use Rattle.journal.specs.Places.{size_good}

-- no number of sectors that an exchange can lie on makes so many bytes
abbrev pub NoImage : ℕ → Type 0
NoImage bytes = (n : ℕ) → 512 * n ≡ bytes → size_good n ≡ false
