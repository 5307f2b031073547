-- A header that is another's is not taken.
use Rattle.std.proofs.Common.{◌≡◌, ℕ, Bool, false, eqb, List, Some, None, sym, ap, ◌∙◌}
use Rattle.std.proofs.lemmas.Bool.{both_ways, and_from, eq-eqb}
use Rattle.records.proofs.HeaderLaws.{header_comes_back}
use Rattle.records.specs.Headers.{decoded_header}
use Rattle.records.specs.declared.headers.Header.{Header}
use Rattle.records.specs.declared.numbers.HouseNumber.{HouseNumber}
use Rattle.journal.specs.Choices.{is_own, OwnHeader}

-- the test that the code made, of the market's own code
pub own_test : (house : HouseNumber) (k code : ℕ) (h : Header) (t : Bool) → k ≡ code → t ≡ is_own house k h → is_own house code h ≡ t
own_test house k code h t e f = ap (λ c. is_own house c h) (sym e) ∙ sym f

module _ (house : HouseNumber) (code : ℕ) (bs : List ℕ) (h : Header) (d : decoded_header bs ≡ Some h) where
  pub own_none : is_own house code h ≡ false → OwnHeader house code bs None
  own_none e k g eh em f =
      let s : Some k ≡ Some h = sym (header_comes_back k g) ∙ ap decoded_header f ∙ d in
      let same : k ≡ h = cc in
      let hk : h.house.0 ≡ house.0 = ap (λ (x : Header). x.house.0) (sym same) ∙ ap (λ (x : HouseNumber). x.0) eh in
      let mk : h.market ≡ code = ap (λ (x : Header). x.market) (sym same) ∙ em in
      both_ways (is_own house code h) e (and_from (eqb h.house.0 house.0) (eqb h.market code) (eq-eqb _ _ hk) (eq-eqb _ _ mk))
