-- Rows in rank order: the front is the first in rank, and where a new one goes.
use Rattle.std.proofs.Common.{◌≡◌, ℕ, zero, suc, ◌+◌, ◌<◌, ◌≤◌, Bool, true, false, List, [], ◌∷◌, length, get_or, cond, Some, None, Option, refl, ap, ◌∙◌, arith, rules, MatchOption, not, ltb, ltb-true, ltb-false, unwrap_or, one-add}
use Rattle.std.specs.List.{insert, position, position_or_len}
use Rattle.std.proofs.lemmas.List.Sums.{prefix_len-le-length}
use Rattle.std.proofs.lemmas.Bool.{and_parts}
use Rattle.rank.specs.Ranked.{First}
use Rattle.market.specs.declared.orders.Order.{Order}
use Rattle.market.specs.Lists.{all, pairwise, placed}
use Rattle.market.specs.Orders.{front}

all_at : {X : Type 0} (p : X → Bool) (ys : List X) (i : ℕ) (d : X) → i < length ys → all p ys ≡ true → p (get_or ys i d) ≡ true
all_at p [] i d h l = absurd (omega arith)
all_at p (y ∷ ys) zero d h l = (and_parts (p y) (all p ys) l).0
all_at p (y ∷ ys) (suc i) d h l = all_at p ys i d (omega arith) (and_parts (p y) (all p ys) l).1

-- where the rows stand in rank, the first in rank is the front
pub first_front : {K : Type 0} (earlier : K → K → Bool) (key : Order → K) (xs : List Order) (r : Option ℕ) →
    pairwise (λ x y. earlier (key x) (key y)) xs ≡ true → MatchOption r (length xs ≡ 0) (First earlier key xs) → r ≡ front xs
first_front earlier key [] None q c = refl
first_front earlier key [] (Some i) q c = absurd (omega (arith, c.inside))
first_front earlier key (x ∷ xs) None q c = absurd (omega (arith, c))
first_front earlier key (x ∷ xs) (Some zero) q c = refl
first_front earlier key (x ∷ xs) (Some (suc i)) q c =
    let l = and_parts (all (λ y. earlier (key x) (key y)) xs) (pairwise (λ x y. earlier (key x) (key y)) xs) q in
    let t = all_at (λ y. earlier (key x) (key y)) xs i x (omega (arith, c.inside)) l.0 in
    let f = c.none_before 0 x (omega arith) in
    absurd (search rules)

-- a new one goes in at the first place of one that it stands before, else at the end
pub placed_at : {X : Type 0} (b : X → X → Bool) (o : X) (xs : List X) → placed b o xs ≡ insert xs (position_or_len (b o) xs) o
placed_at b o [] = refl
placed_at b o (x ∷ xs) = way (b o x) (placed_at b o xs) where
  way : (t : Bool) → placed b o xs ≡ insert xs (position_or_len (b o) xs) o → cond t (o ∷ x ∷ xs) (x ∷ placed b o xs) ≡ insert (x ∷ xs) (cond (not t) (1 + position_or_len (b o) xs) 0) o
  way true h = refl
  way false h = rw one-add (ap (λ z. x ∷ z) h)

pub place_found : {X : Type 0} (b : X → X → Bool) (o : X) (xs : List X) (r : Option ℕ) (i n : ℕ) → r ≡ position (b o) xs → n ≡ length xs → i ≡ unwrap_or r n → (i ≤ length xs) × (placed b o xs ≡ insert xs i o)
place_found b o xs r i n e l f = rw (f, l, e) (way (ltb (position_or_len (b o) xs) (length xs)) refl) where
  way : (t : Bool) → ltb (position_or_len (b o) xs) (length xs) ≡ t →
      (unwrap_or (cond t (Some (position_or_len (b o) xs)) None) (length xs) ≤ length xs) × (placed b o xs ≡ insert xs (unwrap_or (cond t (Some (position_or_len (b o) xs)) None) (length xs)) o)
  way true f = let l = ltb-true (position_or_len (b o) xs) (length xs) f in (omega arith, placed_at b o xs)
  way false f =
      let l = ltb-false (position_or_len (b o) xs) (length xs) f in
      let k : position_or_len (b o) xs ≡ length xs = omega (arith, prefix_len-le-length (λ x. not (b o x)) xs) in
      (omega arith, placed_at b o xs ∙ ap (λ i. insert xs i o) k)
