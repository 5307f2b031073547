-- What becomes of one write: it is dropped, torn or put down.
use Rattle.std.proofs.Common.{◌≡◌, ℕ, ◌*◌, ◌<◌, true, ltb, ◌⊎◌, List, length, sym, refl, ap, ◌∙◌, subst, inl, inr, ⊎_elim, ltb-true, lt-ltb, eq-eqb, eqb-true}
use Rattle.std.proofs.lemmas.Bool.{and_from, and_parts, cases_eq, cases_Bool, cond-true, cond-false}
use Rattle.device.specs.Meaning.{Reading, bytes, torn}
use Rattle.image.specs.Image.{size_of, reading, list_put_at}
use Rattle.image.specs.Waiting.{whole, fits, put_down, landed}
use Rattle.image.specs.declared.fuse.Fate.{Fate}
use Rattle.image.specs.declared.fuse.Fate.TheVariants.{Dropped, Torn, Kept}
use Rattle.image.specs.declared.pending.Pending.{Pending}
use Rattle.image.proofs.Changes.{Changed, is_put, is_torn}

-- a write that fits
test_fits : (xs : List ℕ) (p : Pending) → p.sector < size_of xs → length p.bytes ≡ 512 → fits xs p ≡ true
test_fits xs p h l = and_from _ _ (lt-ltb p.sector (size_of xs) h) (eq-eqb (length p.bytes) 512 l)

pub down_put : (xs : List ℕ) (p : Pending) → p.sector < size_of xs → length p.bytes ≡ 512 → put_down xs p ≡ list_put_at xs (p.sector * 513) p.bytes
down_put xs p h l = cond-true (fits xs p) _ _ (test_fits xs p h l)

-- each sector reads as it did, or it is the write's and reads as its bytes or torn
pub record Landed (xs : List ℕ) (p : Pending) (ys : List ℕ) : Type 0 where
  pub size : size_of ys ≡ size_of xs
  pub one : (s : ℕ) → (reading ys s ≡ reading xs s) ⊎ ((s ≡ p.sector) × (whole p ≡ true) × ((reading ys s ≡ bytes p.bytes) ⊎ (reading ys s ≡ torn)))

landed_same : (xs ys : List ℕ) (p : Pending) → ys ≡ xs → Landed xs p ys
landed_same xs ys p e = record { size = ap (λ (zs : List ℕ). size_of zs) e; one = λ s. inl (ap (λ (zs : List ℕ). reading zs s) e) }

landed_changed : (xs ys zs : List ℕ) (p : Pending) (y : Reading) → zs ≡ ys → whole p ≡ true → (y ≡ bytes p.bytes) ⊎ (y ≡ torn) → Changed xs p.sector y ys → Landed xs p zs
landed_changed xs ys zs p y e w k c =
    subst (λ (ws : List ℕ). Landed xs p ws) (sym e)
    (record {
      size = c.size;
      one = λ s. elim (cases_eq s p.sector) [
        | inl f ↦ inr (f, w, ⊎_elim (λ g. inl (ap (reading ys) f ∙ c.here ∙ g)) (λ g. inr (ap (reading ys) f ∙ c.here ∙ g)) k)
        | inr n ↦ inl (c.others s n)
      ];
    })

pub down_is : (xs : List ℕ) (p : Pending) → Landed xs p (put_down xs p)
down_is xs p =
    elim (cases_Bool (fits xs p)) [
      | inl e ↦ let f = and_parts (ltb p.sector (size_of xs)) (whole p) e in
          landed_changed xs _ _ p (bytes p.bytes) (cond-true (fits xs p) _ _ e) f.1 (inl refl) (is_put xs p.sector p.bytes (ltb-true _ _ f.0) (eqb-true (length p.bytes) 512 f.1))
      | inr e ↦ landed_same xs _ p (cond-false (fits xs p) _ _ e)
    ]

pub landed_is : (f : Fate) (xs : List ℕ) (p : Pending) → Landed xs p (landed f xs p)
landed_is Dropped xs p = landed_same xs xs p refl
landed_is Torn xs p =
    elim (cases_Bool (fits xs p)) [
      | inl e ↦ let f = and_parts (ltb p.sector (size_of xs)) (whole p) e in
          landed_changed xs _ _ p torn (cond-true (fits xs p) _ _ e) f.1 (inr refl) (is_torn xs p.sector (ltb-true _ _ f.0))
      | inr e ↦ landed_same xs _ p (cond-false (fits xs p) _ _ e)
    ]
landed_is Kept xs p = down_is xs p
