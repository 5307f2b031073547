-- Options, pair by pair.
use Rattle.std.proofs.Common.{◌≡◌, ℕ, true, List, ◌∷◌, None, Result, Ok, Err, MatchResult, sym, subst, inr}
use denote.Ref.{Bor}
use Rattle.cli.specs.declared.faults.WordFault.{WordFault}
use Rattle.cli.specs.Options.{value_in, named, Options, WrongOptions}

-- a pair in front of others
pub one_more_pair : (names words ws : List (Bor (List ℕ))) (w v : Bor (List ℕ)) (r : Result (Unit {0}) WordFault) → words ≡ w ∷ (v ∷ ws) → named w.now names ≡ true → value_in w.now ws ≡ None →
    MatchResult r (λ _. Options names ws) (WrongOptions names ws) → MatchResult r (λ _. Options names words) (WrongOptions names words)
one_more_pair names words ws w v (Ok u) e a b h = subst (Options names) (sym e) (a, b, h)
one_more_pair names words ws w v (Err f) e a b h = subst (λ l. WrongOptions names l f) (sym e) (inr (inr h))
