-- The state that a body is of.
use Rattle.std.specs.Prelude.{ℕ, ◌+◌, ◌*◌, Bool, cond, ◌&&◌, List, Some, None, Option, nat_le}
use Rattle.records.specs.LittleEndian.{field}
use Rattle.market.specs.Resting.{Resting}
use Rattle.body.specs.declared.image.Image.{Image}
use Rattle.body.specs.Layout.{orders_at, body, equal}

-- what an image holds
abbrev pub held : Image → Resting
held m = record { last = m.last.0; buys = m.buys.items; sells = m.sells.items }

-- the state that the fields of a body spell, good or not
abbrev pub spelt : List ℕ → Resting
spelt b = record { last = field 0 8 b; buys = orders_at b 12 (field 8 2 b); sells = orders_at b (12 + 20 * field 8 2 b) (field 10 2 b) }

-- bytes are the body of the state that they spell, with at most 32 orders a side
abbrev pub reads : List ℕ → Option Resting
reads b = cond (nat_le (field 8 2 b) 32 && nat_le (field 10 2 b) 32) (cond (equal (body (spelt b)) b) (Some (spelt b)) None) None

-- that state, where it passes the test of a market's states
abbrev pub if_passes : (Resting → Bool) → Option Resting → Option Resting
if_passes v None = None
if_passes v (Some h) = cond (v h) (Some h) None

abbrev pub loads : (Resting → Bool) → List ℕ → Option Resting
loads v b = if_passes v (reads b)
