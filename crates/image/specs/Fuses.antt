-- A fuse counts calls down, and cuts the power by a plan. Assumes nothing.
use Rattle.std.specs.Prelude.{◌-◌, ◌/◌, ◌%◌, cond, Some, None, Option, ◌==◌}
use Rattle.image.specs.declared.fuse.Fate.{Fate}
use Rattle.image.specs.declared.fuse.Fate.TheVariants.{Dropped, Torn, Kept}
use Rattle.image.specs.declared.fuse.Plan.{Plan}
use Rattle.image.specs.declared.fuse.Fuse.{Fuse}

-- what becomes of the first write of a plan, by its lowest two bits: 0 dropped, 2 torn, 1 and 3 kept
abbrev pub fate : Plan → Fate
fate plan = cond (plan.bits % 4 == 0) Dropped (cond (plan.bits % 4 == 2) Torn Kept)

-- the plan of the writes after that
abbrev pub later : Plan → Plan
later plan = record { bits = plan.bits / 4 }

-- the plan by which the next call is cut, if it is: a fuse with n left lets n calls through
abbrev pub cutting : Option Fuse → Option Plan
cutting None = None
cutting (Some f) = cond (f.left == 0) (Some f.plan) None

-- the fuse after that call
abbrev pub counted : Option Fuse → Option Fuse
counted None = None
counted (Some f) = cond (f.left == 0) (Some f) (Some (record { left = f.left - 1; plan = f.plan }))
