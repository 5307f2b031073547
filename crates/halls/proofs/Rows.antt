-- Sectors that lie one after another, read one by one.
use Rattle.std.proofs.Common.{◌≡◌, ℕ, suc, ◌+◌, ◌*◌, List, ◌++◌, length, take, Some, sym, ap, ap₂, ◌∙◌, subst, arith}
use Rattle.std.proofs.lemmas.List.{take_all}
use Rattle.image.specs.Image.{bytes_of, seen}
use Rattle.halls.specs.Bodies.{and_more, row_of_sectors}

module _ (image : List ℕ) (at : ℕ) where
  pub one_more_sector : (i : ℕ) (xs part ys : List ℕ) → Some xs ≡ row_of_sectors image at i → Some part ≡ bytes_of (seen image (at + i)) → ys ≡ xs ++ part → Some ys ≡ row_of_sectors image at (i + 1)
  one_more_sector i xs part ys p q e =
      let next : suc i ≡ i + 1 = omega arith in
      subst (λ n. Some ys ≡ row_of_sectors image at n) next (ap Some e ∙ ap₂ and_more p q)

  pub all_three : (i : ℕ) (body : List ℕ) → i ≡ 3 → length body ≡ 1536 → Some (take (512 * i) body) ≡ row_of_sectors image at i → Some body ≡ row_of_sectors image at 3
  all_three i body e long p =
      let whole : take (512 * i) body ≡ body = take_all (512 * i) body (omega (arith, e, long)) in
      subst (λ n. Some body ≡ row_of_sectors image at n) e (ap Some (sym whole) ∙ p)
