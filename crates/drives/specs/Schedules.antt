-- Fuses put on one after another. Assumes nothing.
use Rattle.std.specs.Prelude.{◌≡◌, Bool, true, false, List, [], ◌∷◌, Some}
use Rattle.image.specs.declared.fuse.Fuse.{Fuse}
use Rattle.drives.specs.Drives.{State, fused, roused}

-- the next fuse of the list put on, where there is one
abbrev pub next_on : List Fuse → State → State
next_on [] d = d
next_on (f ∷ fs) d = fused (Some f) d

abbrev pub rest : List Fuse → List Fuse
rest [] = []
rest (f ∷ fs) = fs

-- a wake from the dark puts the next one on; a wake of a lit drive changes nothing
abbrev pub WokeBy : Bool → List Fuse → State → List Fuse → State → Type 0
WokeBy true fs d gs e = (gs ≡ fs) × (e ≡ roused d)
WokeBy false fs d gs e = (gs ≡ rest fs) × (e ≡ next_on fs (roused d))

abbrev pub ScheduleWake : List Fuse → State → List Fuse → State → Type 0
ScheduleWake fs d gs e = WokeBy d.lit fs d gs e
