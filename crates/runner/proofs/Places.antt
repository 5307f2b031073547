-- What is taken out of a list and put back.
use Rattle.std.proofs.Common.{◌≡◌, ℕ, zero, suc, ◌-◌, Bool, true, false, cond, eqb, List, [], ◌∷◌, get_or, set, Some, None, Option, sym, refl, ap, ◌∙◌, arith}
use Rattle.std.proofs.lemmas.Bool.{cond-false}
use Rattle.std.proofs.lemmas.List.{set-get_or}
use Rattle.runner.specs.Tokens.{held, cleared}

set_back : {X : Type 0} (xs : List X) (i : ℕ) (u d : X) → set (set xs i u) i (get_or xs i d) ≡ set xs i (get_or xs i d)
set_back [] i u d = refl
set_back (x ∷ xs) zero u d = refl
set_back (x ∷ xs) (suc i) u d = ap (λ l. x ∷ l) (set_back xs i u d)

module _ {X : Type 0} (xs : List (Option X)) (n : ℕ) where
  -- a token that was held and is put back is where it was
  pub back_again : (x : X) → held xs n ≡ Some x → set (cleared xs n) (n - 1) (Some x) ≡ xs
  back_again x e = go (eqb n 0) refl e
    where
      go : (b : Bool) → eqb n 0 ≡ b → cond b None (get_or xs (n - 1) None) ≡ Some x → set (cleared xs n) (n - 1) (Some x) ≡ xs
      go true t e = absurd (let z : ◌≡◌ {A = ℕ} 0 1 = cc in omega arith)
      go false t e = ap (λ l. set l (n - 1) (Some x)) (cond-false _ _ _ t) ∙ ap (λ v. set (set xs (n - 1) None) (n - 1) v) (sym e) ∙ set_back xs (n - 1) None None ∙ set-get_or xs (n - 1) None
