-- How a page in the journal stands to an opening. Assumes nothing.
use Rattle.std.specs.Prelude.{◌≡◌, ◌<◌, ◌≤◌, ℕ}
use Rattle.records.specs.declared.numbers.HouseNumber.{HouseNumber}
use Rattle.records.specs.declared.pages.PageHead.{PageHead}
use Rattle.journal.specs.Places.{page_place}
use Rattle.halls.specs.declared.courses.Course.{Course}
use Rattle.halls.specs.declared.stands.Stand.{Stand}
use Rattle.halls.specs.declared.stands.Stand.TheVariants as stand

-- The page with this head, in this sector of so many, is what is said to an opening of the house.
abbrev pub StandsSo : HouseNumber → Course → ℕ → ℕ → PageHead → Stand → Type 0
StandsSo house course size sector head stand.Foreign = head.house ≡ house → ⊥
StandsSo house course size sector head stand.Covered = (head.house ≡ house) × (head.number.0 ≤ course.covered.0)
StandsSo house course size sector head stand.Replayed = (head.house ≡ house) × (course.covered.0 < head.number.0) × (head.number.0 ≤ course.last.0) × (page_place size head.number.0 ≡ sector)
StandsSo house course size sector head stand.Left = (head.house ≡ house) × (course.covered.0 < head.number.0) × (head.number.0 ≤ course.last.0 → page_place size head.number.0 ≡ sector → ⊥)
