-- Records in front of zeros.
use Rattle.std.proofs.Common.{◌≡◌, ℕ, zero, suc, true, eqb, List, [], ◌∷◌, length, replicate, Some, None, Option, refl}
use Rattle.std.proofs.lemmas.Bool.{and_parts, eqb-true}
use Rattle.records.specs.Sectors.{zeros}
use Rattle.std.proofs.lemmas.Option.{none-some}

pub zeros_replicate : (n : ℕ) → zeros (replicate n 0) ≡ true
zeros_replicate zero = refl
zeros_replicate (suc n) = zeros_replicate n

pub zeros_are : (bs : List ℕ) → zeros bs ≡ true → bs ≡ replicate (length bs) 0
zeros_are [] h = refl
zeros_are (b ∷ bs) h =
    let p = and_parts (eqb b 0) (zeros bs) h in
    let e = eqb-true b 0 p.0 in
    let r = zeros_are bs p.1 in
    (λ i. e i ∷ r i)

-- none is not some
pub none_some : {A X : Type 0} (x : A) → ◌≡◌ {A = Option A} None (Some x) → X
none_some x h = absurd (none-some x h)
