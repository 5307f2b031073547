-- What a table's calls leave of its rows.
use Rattle.std.proofs.Common.{◌≡◌, ℕ, ◌+◌, ◌<◌, ◌≤◌, Bool, true, false, List, [], ◌∷◌, length, get_or, cond, not, ltb, Some, None, Option, refl, ap, one-add, arith, ltb-true, ltb-false}
use Rattle.std.specs.List.{remove, position, position_or_len}
use Rattle.market.specs.declared.orders.Order.{Order}
use Rattle.market.specs.Lists.{found, without, FoundAt}

-- what a read past the end would give
abbrev pub blank : Order
blank = record { number = record { 0 = 0 }; member = record { 0 = 0 }; price = record { 0 = 0 }; lots = record { 0 = 0 } }

-- the place of the first that passes
module _ {X : Type 0} (p : X → Bool) where
  found_some : (xs : List X) → position_or_len p xs < length xs → (without p xs ≡ remove xs (position_or_len p xs)) × ((d : X) → found p xs ≡ Some (get_or xs (position_or_len p xs) d))
  found_some [] l = absurd (omega arith)
  found_some (x ∷ xs) l = way (p x) l (found_some xs) where
    way : (t : Bool) → cond (not t) (1 + position_or_len p xs) 0 < length (x ∷ xs) → (position_or_len p xs < length xs → (without p xs ≡ remove xs (position_or_len p xs)) × ((d : X) → found p xs ≡ Some (get_or xs (position_or_len p xs) d))) →
        (cond t xs (x ∷ without p xs) ≡ remove (x ∷ xs) (cond (not t) (1 + position_or_len p xs) 0)) × ((d : X) → cond t (Some x) (found p xs) ≡ Some (get_or (x ∷ xs) (cond (not t) (1 + position_or_len p xs) 0) d))
    way true l h = (refl, λ d. refl)
    way false l h = let k = h (omega arith) in (rw one-add (ap (λ z. x ∷ z) k.0), λ d. rw one-add (k.1 d))

  found_none : (xs : List X) → length xs ≤ position_or_len p xs → (found p xs ≡ None) × (without p xs ≡ xs)
  found_none [] l = (refl, refl)
  found_none (x ∷ xs) l = way (p x) l (found_none xs) where
    way : (t : Bool) → length (x ∷ xs) ≤ cond (not t) (1 + position_or_len p xs) 0 → (length xs ≤ position_or_len p xs → (found p xs ≡ None) × (without p xs ≡ xs)) → (cond t (Some x) (found p xs) ≡ None) × (cond t xs (x ∷ without p xs) ≡ x ∷ xs)
    way true l h = absurd (omega arith)
    way false l h = let k = h (omega arith) in (k.0, ap (λ z. x ∷ z) k.1)

  pub found_at : (xs : List X) (r : Option ℕ) → r ≡ position p xs → FoundAt p xs r
  found_at xs r e = rw e (way (ltb (position_or_len p xs) (length xs)) refl) where
    way : (t : Bool) → ltb (position_or_len p xs) (length xs) ≡ t → FoundAt p xs (cond t (Some (position_or_len p xs)) None)
    way true f = let l = ltb-true (position_or_len p xs) (length xs) f in let k = found_some xs l in (l, k.0, k.1)
    way false f = found_none xs (ltb-false (position_or_len p xs) (length xs) f)
