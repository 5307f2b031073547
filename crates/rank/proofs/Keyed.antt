-- The law of a rank, as the loop of a search uses it.
use Rattle.std.proofs.Common.{◌≡◌, ℕ, zero, suc, ◌+◌, ◌<◌, Bool, true, false, cond, List, length, get_or, sym, refl, ap, subst, ◌∙◌, arith}
use Rattle.std.specs.Cmp.{IsStrictWeakOrder}
use Rattle.std.specs.List.{IsFirstBest}
use Rattle.std.proofs.lemmas.List.MinMax.{IsFirstBest-none, IsFirstBest-keeps, IsFirstBest-takes}

module _ {K : Type 0} {earlier : K → K → Bool} (irreflexive : (a : K) → earlier a a ≡ false)
    (chains : (a b c : K) → earlier a b ≡ true → earlier b c ≡ true → earlier a c ≡ true)
    (total : (a b : K) → earlier a b ≡ false → earlier b a ≡ false → a ≡ b) where
  one_way : (b : Bool) (x y : K) → earlier y x ≡ b → earlier x y ≡ true → b ≡ false
  one_way true x y e h = sym (chains x y x h e) ∙ irreflexive x
  one_way false x y e h = refl

  chain : (p q : Bool) (x y z : K) → earlier x z ≡ p → earlier y x ≡ q → earlier x y ≡ false → earlier y z ≡ false → p ≡ false
  chain false q x y z ep eq h k = refl
  chain true true x y z ep eq h k = sym (chains y x z eq ep) ∙ k
  chain true false x y z ep eq h k = sym ep ∙ ap (λ a. earlier a z) (total x y h eq) ∙ k

  module _ {X : Type 0} (key : X → K) where
    pub ranks : IsStrictWeakOrder {X = X} (λ x y. earlier (key x) (key y))
    ranks = record { one_way = λ x y h. one_way (earlier (key y) (key x)) (key x) (key y) refl h; chain = λ x y z h k. chain (earlier (key x) (key z)) (earlier (key y) (key x)) (key x) (key y) (key z) refl refl h k }

    -- b is the place of the best of the first i, and 0 before the first
    pub record BestSofar (xs : List X) (i b : ℕ) : Type 0 where
      pub begins : i ≡ 0 → b ≡ 0
      pub best : 0 < i → IsFirstBest (λ x y. earlier (key x) (key y)) xs i b
      pub inside : 0 < length xs → b < length xs

    -- one more has been looked at
    pub best_next : (xs : List X) (i b : ℕ) (x y : X) (t : Bool) → BestSofar xs i b → i < length xs → x ≡ get_or xs i x → y ≡ get_or xs b y → earlier (key x) (key y) ≡ t → BestSofar xs (i + 1) (cond t i b)
    best_next xs i b x y t f l p q r = record { begins = λ e. absurd (omega arith); best = λ h. way i t (f.begins) f.best l p r; inside = λ h. within t } where
      way : (i : ℕ) (t : Bool) → (i ≡ 0 → b ≡ 0) → (0 < i → IsFirstBest (λ x y. earlier (key x) (key y)) xs i b) → i < length xs → x ≡ get_or xs i x → earlier (key x) (key y) ≡ t →
          IsFirstBest (λ x y. earlier (key x) (key y)) xs (i + 1) (cond t i b)
      way zero true e f l p r = IsFirstBest-none ranks xs
      way zero false e f l p r = subst (IsFirstBest (λ x y. earlier (key x) (key y)) xs 1) (sym (e refl)) (IsFirstBest-none ranks xs)
      way (suc i) true e f l p r = IsFirstBest-takes ranks xs (suc i) b x y (f (omega arith)) l p q r
      way (suc i) false e f l p r = IsFirstBest-keeps ranks xs (suc i) b x y (f (omega arith)) l p q r

      within : (t : Bool) → cond t i b < length xs
      within true = l
      within false = f.inside (omega arith)
