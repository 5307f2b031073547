-- What an exchange's own numbers keep.
use Rattle.std.specs.Prelude.{ℕ, Bool, true, nat_le}
use Rattle.protocol.specs.declared.phases.Phase.{Phase}
use Rattle.protocol.specs.declared.phases.Phase.TheVariants.{Live, Written, Dark, Replaying}

-- a written page has a command
abbrev pub waits : Phase → ℕ → Bool
waits Live n = true
waits Written n = nat_le 1 n
waits Dark n = true
waits Replaying n = true
