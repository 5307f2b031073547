-- How the sectors of a device are used.
use Rattle.std.specs.Prelude.{◌≡◌, ℕ, ◌+◌, ◌-◌, ◌%◌, ◌<◌, ◌≤◌, Bool}
use Rattle.records.specs.Commands.{within}

-- an exchange works on devices of 9 to 4,096 sectors
abbrev pub size_good : ℕ → Bool
size_good size = within 9 4_096 size

-- sectors 0 to 7 are for two snapshots, all others are the journal's: so many
abbrev pub journal : ℕ → ℕ
journal size = size - 8

-- pages go round in the journal: the sector of page p
abbrev pub page_place : ℕ → ℕ → ℕ
page_place size p = 8 + (p - 1) % journal size

-- a sector of the journal
abbrev pub InJournal : ℕ → ℕ → Type 0
InJournal size s = (8 ≤ s) × (s < size)

-- of the pages above c and at most c + journal no two lie in one sector
abbrev pub PagesApart : ℕ → Type 0
PagesApart size = (c p q : ℕ) → c < p → p ≤ c + journal size → c < q → q ≤ c + journal size → page_place size p ≡ page_place size q → p ≡ q
