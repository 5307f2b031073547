-- One sector of an image changed.
use Rattle.std.proofs.Common.{◌≡◌, ℕ, ◌+◌, ◌*◌, ◌/◌, ◌<◌, ◌≤◌, min, ltb, ◌⊎◌, List, length, get_or, take, drop, set, refl, ap, inl, inr, arith, ne_eqb}
use borrow.Author.Tests.{clash}
use Rattle.std.proofs.lemmas.Bool.{cases_eq, cases_order, cond-true, cond-false, lt-ltb, le-ltb}
use Rattle.std.proofs.lemmas.List.{length-set, length-drop, length-take-le}
use Rattle.std.proofs.lemmas.Slice.Eq.{bytes_eq-Decides}
use Rattle.device.specs.Meaning.{Reading, bytes, torn, ◌∈◌}
use Rattle.image.specs.Image.{size_of, reading, seen, list_put_at, same, only}
use Rattle.image.proofs.Images.{length_put, put_here, put_other, tear_here, tear_other}

-- a set of one content
pub in_only : (x : Reading) → x ∈ only x
unfolding same
in_only (bytes xs) = (bytes_eq-Decides xs xs).1 refl
in_only torn = refl

pub only_is : (x y : Reading) → x ∈ only y → x ≡ y
unfolding same
only_is (bytes xs) (bytes ys) e = ap bytes ((bytes_eq-Decides xs ys).0 e)
only_is (bytes xs) torn e = absurd (clash e)
only_is torn (bytes ys) e = absurd (clash e)
only_is torn torn e = refl

-- a sector below the size lies whole in the image
pub inside : (xs : List ℕ) (s : ℕ) → s < size_of xs → s * 513 + 513 ≤ length xs
inside xs s h = omega arith

apart : (s t : ℕ) → (s ≡ t → ⊥) → (s * 513 + 513 ≤ t * 513) ⊎ (t * 513 + 513 ≤ s * 513)
apart s t n = elim (cases_order s t) [ inl e ↦ absurd (n e) | inr q ↦ elim q [ inl l ↦ inl (omega arith) | inr l ↦ inr (omega arith) ] ]

-- a sector whose mark is 0, and one whose mark is not
pub reads_bytes : (xs : List ℕ) (s : ℕ) → get_or xs (s * 513) 0 ≡ 0 → reading xs s ≡ bytes (take 512 (drop (s * 513 + 1) xs))
unfolding reading
reads_bytes xs s e = rw e

pub reads_torn : (xs : List ℕ) (s : ℕ) → (get_or xs (s * 513) 0 ≡ 0 → ⊥) → reading xs s ≡ torn
unfolding reading
reads_torn xs s n = rw (ne_eqb (get_or xs (s * 513) 0) 0 n)

pub seen_within : (xs : List ℕ) (s : ℕ) → s < size_of xs → seen xs s ≡ reading xs s
seen_within xs s h = cond-true (ltb s (size_of xs)) (reading xs s) torn (lt-ltb s (size_of xs) h)

pub seen_past : (xs : List ℕ) (s : ℕ) → size_of xs ≤ s → seen xs s ≡ torn
seen_past xs s h = cond-false (ltb s (size_of xs)) (reading xs s) torn (le-ltb s (size_of xs) h)

-- so what can be read is 512 bytes
window : (xs : List ℕ) (at : ℕ) → at + 513 ≤ length xs → length (take 512 (drop (at + 1) xs)) ≡ 512
window xs at h = length-take-le 512 (drop (at + 1) xs) (simp length-drop (omega arith))

pub reads_whole : (xs : List ℕ) (s : ℕ) → s < size_of xs → (b : List ℕ) → bytes b ≡ reading xs s → length b ≡ 512
reads_whole xs s h b e =
    elim (cases_eq (get_or xs (s * 513) 0) 0) [
      | inl z ↦ let f : bytes b ≡ bytes (take 512 (drop (s * 513 + 1) xs)) = cc (e, reads_bytes xs s z) in
          let g : b ≡ take 512 (drop (s * 513 + 1) xs) = cc in
          let k = window xs (s * 513) (inside xs s h) in cc
      | inr n ↦ let t = reads_torn xs s n in let z : ◌≡◌ {A = ℕ} 0 1 = cc in absurd (omega arith)
    ]

-- `ys` is `xs`, but the sector `at` reads as `y`
pub record Changed (xs : List ℕ) (at : ℕ) (y : Reading) (ys : List ℕ) : Type 0 where
  pub size : size_of ys ≡ size_of xs
  pub here : reading ys at ≡ y
  pub others : (s : ℕ) → (s ≡ at → ⊥) → reading ys s ≡ reading xs s

pub is_put : (xs : List ℕ) (at : ℕ) (new : List ℕ) → at < size_of xs → length new ≡ 512 → Changed xs at (bytes new) (list_put_at xs (at * 513) new)
unfolding reading
is_put xs at new h l =
    let f = inside xs at h in
    record {
      size = ap (λ (n : ℕ). min (n / 513) 65536) (length_put xs (at * 513) new f l);
      here = put_here xs (at * 513) new f l;
      others = λ s n. put_other xs (at * 513) new (s * 513) f l (apart s at n);
    }

pub is_torn : (xs : List ℕ) (at : ℕ) → at < size_of xs → Changed xs at torn (set xs (at * 513) 1)
unfolding reading
is_torn xs at h =
    let f = inside xs at h in
    record {
      size = ap (λ (n : ℕ). min (n / 513) 65536) (length-set xs (at * 513) 1);
      here = tear_here xs (at * 513) (omega arith);
      others = λ s n. tear_other xs (at * 513) (s * 513) (omega arith) (apart s at n);
    }
