-- Members of lists, by place and one after the other.
use Rattle.std.proofs.Common.{◌≡◌, ℕ, zero, suc, ◌<◌, List, [], ◌∷◌, ◌++◌, length, get_or, sym, arith, ◌⊎◌, inl, inr}
use Rattle.std.specs.List.{Contains}
use mathlib.Core.List.{Memᴰ}

pub from_place : {X : Type 0} (xs : List X) (x : X) (k : ℕ) (d : X) → k < length xs → get_or xs k d ≡ x → Memᴰ x xs
from_place [] x k d l e = absurd (omega (arith, l))
from_place (y ∷ ys) x zero d l e = Memᴰ.head (sym e)
from_place (y ∷ ys) x (suc k) d l e = Memᴰ.tail (from_place ys x k d (omega (arith, l)) e)

pub member : {X : Type 0} (xs : List X) (x : X) → Contains xs x → Memᴰ x xs
member xs x (k, l, e) = from_place xs x k x l e

pub contained : {X : Type 0} (xs : List X) (x : X) → Memᴰ x xs → Contains xs x
contained [] x m = elim m [ ]
contained (y ∷ ys) x (Memᴰ.head e) = (0, omega arith, sym e)
contained (y ∷ ys) x (Memᴰ.tail m) = let (k, l, e) = contained ys x m in (suc k, omega (arith, l), e)

pub in_front : {X : Type 0} (xs ys : List X) (x : X) → Memᴰ x xs → Memᴰ x (xs ++ ys)
in_front [] ys x m = elim m [ ]
in_front (z ∷ zs) ys x (Memᴰ.head e) = Memᴰ.head e
in_front (z ∷ zs) ys x (Memᴰ.tail m) = Memᴰ.tail (in_front zs ys x m)

pub behind : {X : Type 0} (xs ys : List X) (x : X) → Memᴰ x ys → Memᴰ x (xs ++ ys)
behind [] ys x m = m
behind (z ∷ zs) ys x m = Memᴰ.tail (behind zs ys x m)

pub either_part : {X : Type 0} (xs ys : List X) (x : X) → Memᴰ x (xs ++ ys) → Memᴰ x xs ⊎ Memᴰ x ys
either_part [] ys x m = inr m
either_part (z ∷ zs) ys x (Memᴰ.head e) = inl (Memᴰ.head e)
either_part (z ∷ zs) ys x (Memᴰ.tail m) = further (either_part zs ys x m)
  where
    further : Memᴰ x zs ⊎ Memᴰ x ys → Memᴰ x (z ∷ zs) ⊎ Memᴰ x ys
    further (inl a) = inl (Memᴰ.tail a)
    further (inr b) = inr b
