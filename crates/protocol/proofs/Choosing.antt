-- What is known of the header that is first in rank: its slot shows it, and the other slot shows none of a higher page.
use Rattle.std.proofs.Common.{◌≡◌, ℕ, ◌≤◌, Bool, true, false, cond, Some, None, Option, sym, refl, ap, ◌∙◌, subst, arith}
use Rattle.std.proofs.lemmas.Option.{same_Some}
use Rattle.std.proofs.lemmas.Bool.Decides.{nat_tests}
use Rattle.records.specs.declared.headers.Header.{Header}
use Rattle.records.proofs.SectorLaws.{none_some}
use Rattle.rank.specs.Ranked.{high_first}
use Rattle.device.specs.Meaning.{Meaning}
use Rattle.journal.specs.Slots.{other}
use Rattle.journal.specs.Choices.{first_of, in_slot, of_slot, header_key}
use Rattle.journal.specs.declared.slots.Slot.{Slot}
use Rattle.journal.specs.declared.slots.Slot.TheVariants.{Zero, One}
use Rattle.journal.specs.declared.choosing.SlotHeader.{SlotHeader}
use Rattle.protocol.specs.Worlds.{World}
use Rattle.protocol.specs.Steps.{header_of, first_header}

record ChosenFrom (a b : Option Header) (s : SlotHeader) : Type 0 where
  pub there : of_slot a b s.slot ≡ Some s.header
  pub first : (g : Header) → of_slot a b (other s.slot) ≡ Some g → g.page.0 ≤ s.header.page.0

higher : (a b i j : ℕ) → high_first (a, i) (b, j) ≡ true → b ≤ a
higher a b i j h = grind (arith, nat_tests)

lower : (a b i j : ℕ) → high_first (a, i) (b, j) ≡ false → a ≤ b
lower a b i j h = grind (arith, nat_tests)

same_page : (x g : Header) → ◌≡◌ {A = Option Header} (Some x) (Some g) → x.page.0 ≡ g.page.0
same_page x g e = ap (λ (h : Header). h.page.0) (same_Some x g e)

chosen_from : (a b : Option Header) (s : SlotHeader) → first_of a b ≡ Some s → ChosenFrom a b s
chosen_from None None s e = none_some s e
chosen_from (Some x) None s e = subst (ChosenFrom (Some x) None) (same_Some _ _ e) (record { there = refl; first = λ g k. none_some g k })
chosen_from None (Some y) s e = subst (ChosenFrom None (Some y)) (same_Some _ _ e) (record { there = refl; first = λ g k. none_some g k })
chosen_from (Some x) (Some y) s e = subst (ChosenFrom (Some x) (Some y)) (same_Some _ _ e) (by_test (high_first (header_key (in_slot One y)) (header_key (in_slot Zero x))) refl)
  where
    by_test : (t : Bool) → high_first (header_key (in_slot One y)) (header_key (in_slot Zero x)) ≡ t → ChosenFrom (Some x) (Some y) (cond t (in_slot One y) (in_slot Zero x))
    by_test true h = record { there = refl; first = λ g k. let p = same_page x g k in let q = higher y.page.0 x.page.0 1 0 h in omega arith }
    by_test false h = record { there = refl; first = λ g k. let p = same_page y g k in let q = lower y.page.0 x.page.0 1 0 h in omega arith }

module _ {S : Type 0} (w : World S) where
  pub record Chosen (m : Meaning) (s : SlotHeader) : Type 0 where
    pub there : header_of w m s.slot ≡ Some s.header
    pub first : (g : Header) → header_of w m (other s.slot) ≡ Some g → g.page.0 ≤ s.header.page.0

  of_both : (m : Meaning) (t : Slot) → of_slot (header_of w m Zero) (header_of w m One) t ≡ header_of w m t
  of_both m Zero = refl
  of_both m One = refl

  pub chosen : (m : Meaning) (s : SlotHeader) → first_header w m ≡ Some s → Chosen m s
  chosen m s e =
      let c = chosen_from (header_of w m Zero) (header_of w m One) s e in
      record { there = sym (of_both m s.slot) ∙ c.there; first = λ g k. c.first g (of_both m (other s.slot) ∙ k) }

  -- where there is none, neither slot shows one
  none_from : (a b : Option Header) → first_of a b ≡ None → (t : Slot) (h : Header) → of_slot a b t ≡ Some h → ⊥
  none_from None None e Zero h k = none_some h k
  none_from None None e One h k = none_some h k
  none_from (Some x) None e t h k = none_some _ (sym e)
  none_from None (Some y) e t h k = none_some _ (sym e)
  none_from (Some x) (Some y) e t h k = none_some _ (sym e)

  pub none_shown : (m : Meaning) → first_header w m ≡ None → (t : Slot) (h : Header) → header_of w m t ≡ Some h → ⊥
  none_shown m e t h k = none_from (header_of w m Zero) (header_of w m One) e t h (of_both m t ∙ k)
