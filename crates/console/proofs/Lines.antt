-- At most n bytes of a line are kept, and the one that follows tells that it is longer.
use Rattle.std.proofs.Common.{◌≡◌, ℕ, ◌+◌, ◌<◌, ◌≤◌, true, false, cond, List, [], ◌∷◌, ◌++◌, length, take, refl, sym, ◌∙◌, ap, arith, nat_lt, nat_eq}
use native.Mathlib.Decide.{dec_le}
use Rattle.std.proofs.lemmas.Bool.{cond_below, cond_above, eqb-false, eq-eqb, ne_eqb}
use Rattle.std.proofs.lemmas.List.{take_all, take-append-le, length-take-le, length_push}

module _ (n : ℕ) (s : List ℕ) (b : ℕ) where
  abbrev pub Kept : List ℕ → Type 0
  Kept t =
      (take n t ≡ cond (nat_lt (length (take n s)) n) (take n s ++ b ∷ []) (take n s))
      × (nat_eq (length t) (n + 1) ≡ cond (nat_lt (length (take n s)) n) (nat_eq (length s) (n + 1)) true)

  -- it is kept where there is room
  pub kept : length s < n + 1 → Kept (s ++ b ∷ [])
  kept h = elim (dec_le n (length s)) [ yes e ↦ last e | no e ↦ inside (omega arith) ]
    where
      last : n ≤ length s → Kept (s ++ b ∷ [])
      last e =
          let m : n ≤ length (take n s) = omega (arith, length-take-le n s e) in
          (cond_above _ _ _ _ _ m (take-append-le n s (b ∷ []) e), cond_above _ _ _ _ _ m (eq-eqb _ _ (omega (arith, length_push s b))))

      inside : length s < n → Kept (s ++ b ∷ [])
      inside e =
          let all : take n s ≡ s = take_all n s (omega arith) in
          let m : length (take n s) < n = omega (arith, ap length all) in (
            take_all n _ (omega (arith, length_push s b)) ∙ ap (λ xs. xs ++ b ∷ []) (sym all) ∙ cond_below _ _ _ _ m,
            ne_eqb _ _ (λ q. omega (arith, length_push s b)) ∙ sym (ne_eqb _ _ (λ q. omega arith)) ∙ cond_below _ _ _ _ m,
          )

  -- and else dropped
  pub dropped : length s ≡ n + 1 → Kept s
  dropped h =
      let m : n ≤ length (take n s) = omega (arith, length-take-le n s (omega arith)) in
      (cond_above _ _ _ _ _ m refl, cond_above _ _ _ _ _ m (eq-eqb _ _ h))

-- a line that is not longer is kept whole
pub whole : (n : ℕ) (s : List ℕ) → length s ≤ n + 1 → nat_eq (length s) (n + 1) ≡ false → take n s ≡ s
whole n s h e = take_all n s (omega (arith, eqb-false (length s) (n + 1) e))
