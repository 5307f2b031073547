-- Tests of lists under what is taken out of them or put in.
use Rattle.std.proofs.Common.{◌≡◌, ℕ, ◌+◌, ◌-◌, ◌≤◌, Bool, true, false, cond, List, [], ◌∷◌, ◌++◌, length, take, drop, refl, sym, ap, ◌∙◌, ⊎_elim, arith, append_assoc, append-nil, length-append, length-drop, drop-drop}
use borrow.Rule.Slice.PartMut.{put_mid}
use Rattle.std.proofs.lemmas.Bool.{and_parts, and_from}
use Rattle.std.proofs.lemmas.List.{take_at, drop_at, take_all, drop_all}
use Rattle.market.specs.Lists.{all, pairwise, across, In, without, placed, over}

module _ {X : Type 0} where
  pub all_weaken : (p q : X → Bool) (xs : List X) → ((x : X) → p x ≡ true → q x ≡ true) → all p xs ≡ true → all q xs ≡ true
  all_weaken p q [] f h = refl
  all_weaken p q (x ∷ xs) f h =
      let a = and_parts (p x) (all p xs) h in
      and_from (q x) (all q xs) (f x a.0) (all_weaken p q xs f a.1)

  -- what holds of all holds of one of them
  pub all_in : (p : X → Bool) (x : X) (xs : List X) → In x xs → all p xs ≡ true → p x ≡ true
  all_in p x [] i h = absurd i
  all_in p x (y ∷ ys) i h =
      let a = and_parts (p y) (all p ys) h in
      ⊎_elim (λ e. ap p e ∙ a.0) (λ j. all_in p x ys j a.1) i

  -- taken out
  pub all_without : (p q : X → Bool) (xs : List X) → all q xs ≡ true → all q (without p xs) ≡ true
  all_without p q [] h = refl
  all_without p q (x ∷ xs) h = way (p x) (all_without p q xs (and_parts (q x) (all q xs) h).1) where
    way : (t : Bool) → all q (without p xs) ≡ true → all q (cond t xs (x ∷ without p xs)) ≡ true
    way true k = (and_parts (q x) (all q xs) h).1
    way false k = and_from (q x) (all q (without p xs)) (and_parts (q x) (all q xs) h).0 k

  pub pairwise_without : (p : X → Bool) (b : X → X → Bool) (xs : List X) → pairwise b xs ≡ true → pairwise b (without p xs) ≡ true
  pairwise_without p b [] h = refl
  pairwise_without p b (x ∷ xs) h = way (p x) (pairwise_without p b xs (and_parts (all (b x) xs) (pairwise b xs) h).1) where
    way : (t : Bool) → pairwise b (without p xs) ≡ true → pairwise b (cond t xs (x ∷ without p xs)) ≡ true
    way true k = (and_parts (all (b x) xs) (pairwise b xs) h).1
    way false k = and_from (all (b x) (without p xs)) (pairwise b (without p xs)) (all_without p (b x) xs (and_parts (all (b x) xs) (pairwise b xs) h).0) k

  pub length_without : (p : X → Bool) (xs : List X) → length (without p xs) ≤ length xs
  length_without p [] = omega arith
  length_without p (x ∷ xs) = way (p x) (length_without p xs) where
    way : (t : Bool) → length (without p xs) ≤ length xs → length (cond t xs (x ∷ without p xs)) ≤ length (x ∷ xs)
    way true k = omega arith
    way false k = omega arith

  pub across_without : (p q : X → Bool) (b : X → X → Bool) (xs ys : List X) → across b xs ys ≡ true → across b (without p xs) (without q ys) ≡ true
  across_without p q b xs ys h =
      all_without p (λ x. all (b x) (without q ys)) xs (all_weaken (λ x. all (b x) ys) (λ x. all (b x) (without q ys)) xs (λ x k. all_without q (b x) ys k) h)

  -- put in
  pub all_placed : (b : X → X → Bool) (o : X) (q : X → Bool) (xs : List X) → q o ≡ true → all q xs ≡ true → all q (placed b o xs) ≡ true
  all_placed b o q [] h u = and_from (q o) true h refl
  all_placed b o q (x ∷ xs) h u = way (b o x) (all_placed b o q xs h (and_parts (q x) (all q xs) u).1) where
    way : (t : Bool) → all q (placed b o xs) ≡ true → all q (cond t (o ∷ x ∷ xs) (x ∷ placed b o xs)) ≡ true
    way true k = and_from (q o) (all q (x ∷ xs)) h u
    way false k = and_from (q x) (all q (placed b o xs)) (and_parts (q x) (all q xs) u).0 k

  pub length_placed : (b : X → X → Bool) (o : X) (xs : List X) → length (placed b o xs) ≡ length xs + 1
  length_placed b o [] = refl
  length_placed b o (x ∷ xs) = way (b o x) (length_placed b o xs) where
    way : (t : Bool) → length (placed b o xs) ≡ length xs + 1 → length (cond t (o ∷ x ∷ xs) (x ∷ placed b o xs)) ≡ length (x ∷ xs) + 1
    way true k = omega arith
    way false k = omega arith

  -- a pairwise test c, of what goes in and those behind it, and of those in front and what goes in
  pub pairwise_placed : (b c : X → X → Bool) (k : X → Bool) (o : X) →
      ((x : X) (ys : List X) → b o x ≡ true → all (c x) ys ≡ true → all k (x ∷ ys) ≡ true → all (c o) (x ∷ ys) ≡ true) →
      ((x : X) → b o x ≡ false → k x ≡ true → c x o ≡ true) →
      (xs : List X) → all k xs ≡ true → pairwise c xs ≡ true → pairwise c (placed b o xs) ≡ true
  pairwise_placed b c k o behind front [] u q = refl
  pairwise_placed b c k o behind front (x ∷ xs) u q =
      let v = and_parts (k x) (all k xs) u in
      let p = and_parts (all (c x) xs) (pairwise c xs) q in
      way (b o x) refl (pairwise_placed b c k o behind front xs v.1 p.1) where
        way : (t : Bool) → b o x ≡ t → pairwise c (placed b o xs) ≡ true → pairwise c (cond t (o ∷ x ∷ xs) (x ∷ placed b o xs)) ≡ true
        way true e h = and_from (all (c o) (x ∷ xs)) (pairwise c (x ∷ xs)) (behind x xs e (and_parts (all (c x) xs) (pairwise c xs) q).0 u) q
        way false e h = and_from (all (c x) (placed b o xs)) (pairwise c (placed b o xs))
            (all_placed b o (c x) xs (front x e (and_parts (k x) (all k xs) u).0) (and_parts (all (c x) xs) (pairwise c xs) q).0) h

  -- the other way round
  all_all_true : (ys : List X) → all (λ y. true) ys ≡ true
  all_all_true [] = refl
  all_all_true (y ∷ ys) = all_all_true ys

  across_add : (b : X → X → Bool) (x : X) (xs ys : List X) → all (λ y. b y x) ys ≡ true → across b ys xs ≡ true → across b ys (x ∷ xs) ≡ true
  across_add b x xs [] h k = refl
  across_add b x xs (y ∷ ys) h k =
      let p = and_parts (b y x) (all (λ z. b z x) ys) h in
      let q = and_parts (all (b y) xs) (across b ys xs) k in
      and_from (all (b y) (x ∷ xs)) (across b ys (x ∷ xs)) (and_from (b y x) (all (b y) xs) p.0 q.0) (across_add b x xs ys p.1 q.1)

  across_none : (b : X → X → Bool) (ys : List X) → across b ys [] ≡ true
  across_none b ys = all_all_true ys

  pub across_swap : (b c : X → X → Bool) → ((x y : X) → b x y ≡ true → c y x ≡ true) → (xs ys : List X) → across b xs ys ≡ true → across c ys xs ≡ true
  across_swap b c f [] ys h = across_none c ys
  across_swap b c f (x ∷ xs) ys h =
      let p = and_parts (all (b x) ys) (across b xs ys) h in
      across_add c x xs ys (all_weaken (b x) (λ y. c y x) ys (λ y k. f x y k) p.0) (across_swap b c f xs ys p.1)

  -- a part of the list, from its place `at` on, gets more behind what was put over the front
  pub over_more : (xs old new ys part : List X) (at : ℕ) → at ≡ length old → at ≤ length ys → ys ≡ over xs old → part ≡ over (take (length ys - at) (drop at ys)) new →
      put_mid at (length ys - at) ys part ≡ over xs (old ++ new)
  over_more xs old new ys part at e le front more =
      let left : length (drop at ys) ≤ length ys - at = omega (arith, length-drop at ys) in
      let before : take at ys ≡ old = ap (take at) front ∙ take_at old _ at (sym e) in
      let behind : drop at ys ≡ drop (length old) xs = ap (drop at) front ∙ drop_at old _ at (sym e) in
      let rest = drop_all (length ys - at) (drop at ys) left in
      rw (before, rest, append-nil, more, take_all (length ys - at) (drop at ys) left, behind) (simp (drop-drop, length-append, append_assoc))
