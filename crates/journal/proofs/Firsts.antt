-- The first in rank of two.
use Rattle.std.proofs.Common.{◌≡◌, ℕ, zero, suc, ◌<◌, Bool, true, false, cond, List, [], ◌∷◌, get_or, Some, None, refl, arith, lit<}
use Rattle.std.proofs.lemmas.Bool.{both_ways}
use Rattle.std.proofs.lemmas.Bool.Decides.{nat_tests}
use Rattle.rank.specs.Ranked.{First, high_first}
use Rattle.rank.proofs.Pairs.{high_first_irreflexive, high_first_total}
use Rattle.journal.specs.declared.slots.Slot.TheVariants.{Zero, One}
use Rattle.journal.specs.declared.choosing.SlotHeader.{SlotHeader}
use Rattle.journal.specs.Choices.{header_key, in_slot, IsFirst, FirstIsFirst}

one_way : (a b : ℕ × ℕ) → high_first a b ≡ true → high_first b a ≡ false
one_way a b h = grind (arith, nat_tests)

pub one_first : (x : SlotHeader) → First high_first header_key (x ∷ []) 0
one_first x =
    record {
      inside = lit< tt;
      none_before = λ k d l. at_one k d (high_first_irreflexive (header_key x)) l;
      only = λ k d l u. key_one k d l;
      earliest = λ k d l. absurd (omega arith);
    }
  where
    at_one : (k : ℕ) (d : SlotHeader) → high_first (header_key x) (header_key x) ≡ false → k < 1 → high_first (header_key (get_or (x ∷ []) k d)) (header_key x) ≡ false
    at_one zero d h l = h
    at_one (suc k) d h l = absurd (omega arith)

    key_one : (k : ℕ) (d : SlotHeader) → k < 1 → header_key (get_or (x ∷ []) k d) ≡ header_key x
    key_one zero d l = refl
    key_one (suc k) d l = absurd (omega arith)

module _ (x y : SlotHeader) where
  both : List SlotHeader
  both = x ∷ y ∷ []

  -- what holds of both holds at each place
  each : (P : SlotHeader → Type 0) → P x → P y → (k : ℕ) (d : SlotHeader) → k < 2 → P (get_or both k d)
  unfolding both
  each P px py zero d l = px
  each P px py (suc zero) d l = py
  each P px py (suc (suc k)) d l = absurd (omega arith)

  first_one : high_first (header_key y) (header_key x) ≡ false → First high_first header_key (x ∷ y ∷ []) 0
  unfolding both
  first_one h =
      record {
        inside = lit< tt;
        none_before = λ k d l. each (λ z. high_first (header_key z) (header_key x) ≡ false) (high_first_irreflexive (header_key x)) h k d l;
        only = λ k d l u. each (λ z. high_first (header_key x) (header_key z) ≡ false → header_key z ≡ header_key x) (λ v. refl) (λ v. high_first_total (header_key y) (header_key x) h v) k d l u;
        earliest = λ k d l. absurd (omega arith);
      }

  first_two : high_first (header_key y) (header_key x) ≡ true → First high_first header_key (x ∷ y ∷ []) 1
  unfolding both
  first_two h =
      record {
        inside = lit< tt;
        none_before = λ k d l. each (λ z. high_first (header_key z) (header_key y) ≡ false) (one_way (header_key y) (header_key x) h) (high_first_irreflexive (header_key y)) k d l;
        only = λ k d l u. each (λ z. high_first (header_key y) (header_key z) ≡ false → header_key z ≡ header_key y) (λ v. absurd (both_ways _ v h)) (λ v. refl) k d l u;
        earliest = λ k d l. below k d l;
      }
    where
      below : (k : ℕ) (d : SlotHeader) → k < 1 → high_first (header_key y) (header_key (get_or (x ∷ y ∷ []) k d)) ≡ true
      below zero d l = h
      below (suc k) d l = absurd (omega arith)

  of_two : (t : Bool) → high_first (header_key y) (header_key x) ≡ t → IsFirst (x ∷ y ∷ []) (Some (cond t y x))
  of_two true h = (1, first_two h, refl)
  of_two false h = (0, first_one h, refl)

pub first_is_first : FirstIsFirst
first_is_first None None = refl
first_is_first (Some x) None = (0, one_first (in_slot Zero x), refl)
first_is_first None (Some y) = (0, one_first (in_slot One y), refl)
first_is_first (Some x) (Some y) = of_two (in_slot Zero x) (in_slot One y) _ refl
