-- Which devices have a layout.
use Rattle.std.specs.Prelude.{◌≡◌, ℕ, true, false, Some, None, Option}
use Rattle.journal.specs.Places.{size_good}
use Rattle.journal.specs.declared.layouts.Layout.{Layout}

-- the layout of a device of this size, which only a good size has
abbrev pub LaidOut : ℕ → Option Layout → Type 0
LaidOut size (Some l) = (size_good size ≡ true) × (l.size ≡ size)
LaidOut size None = size_good size ≡ false
