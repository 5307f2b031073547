-- Whether a call is allowed.
use Rattle.std.specs.Prelude.{◌≡◌, Bool, List, Some, Ok, Err, Result}
use Rattle.records.specs.declared.refusals.Refusal.{Refusal}
use Rattle.protocol.specs.Faults.{first_fit}
use Rattle.protocol.specs.Steps.{Allowed}

-- no reason fits, or the first that fits is given
abbrev pub Judged : {X : Type 0} → List (Bool × Refusal) → Result X Refusal → Type 0
Judged rs (Ok x) = Allowed rs
Judged rs (Err r) = first_fit rs ≡ Some r
