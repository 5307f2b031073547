-- What a write at a place of an image does to what the image reads as.
use Rattle.std.proofs.Common.{◌≡◌, ℕ, suc, ◌+◌, ◌-◌, ◌<◌, ◌≤◌, ◌⊎◌, List, [], ◌∷◌, ◌++◌, length, get_or, take, drop, set, sym, ap, ◌∙◌, inl, inr, arith}
use Rattle.std.proofs.lemmas.List.{append_assoc, get_or_at, get_or_append_left, get_or-append_right, get_or-take, get_or-drop, get_or-set_same, get_or-set_other, set_split, take-append-drop, take-append-le, drop-append-le, take_at, drop_at, length-take-le, length-append, length-take, length-drop, drop-set-lt}
use Rattle.std.proofs.lemmas.Slice.{drop-append-drop}
use Rattle.device.specs.Meaning.{bytes, torn}
use Rattle.image.specs.Image.{reading_at, list_put_at}

-- a part of a list that ends before `at` does not depend on what stands from there on
window_left : (p q : List ℕ) (m n : ℕ) → m + n ≤ length p → take n (drop m (p ++ q)) ≡ take n (drop m p)
window_left p q m n h =
    let a : m ≤ length p = omega arith in
    let b : n ≤ length (drop m p) = simp length-drop (omega arith) in
    rw (drop-append-le m p q a) (take-append-le n (drop m p) q b)

before : (xs q : List ℕ) (at m n : ℕ) → at ≤ length xs → m + n ≤ at → take n (drop m (take at xs ++ q)) ≡ take n (drop m xs)
before xs q at m n h k =
    let l : m + n ≤ length (take at xs) = simp length-take (omega arith) in
    window_left (take at xs) q m n l ∙ sym (window_left (take at xs) (drop at xs) m n l) ∙ ap (λ (zs : List ℕ). take n (drop m zs)) (take-append-drop at xs)

mark_before : (xs q : List ℕ) (at to : ℕ) → at ≤ length xs → to < at → get_or (take at xs ++ q) to 0 ≡ get_or xs to 0
mark_before xs q at to h k =
    let l : to < length (take at xs) = simp length-take (omega arith) in
    get_or_append_left (take at xs) q 0 to l ∙ get_or-take at xs to 0 k

-- the image after a write, as what stands before its end and what stands after
split_put : (xs : List ℕ) (at : ℕ) (new : List ℕ) → list_put_at xs at new ≡ ((take at xs ++ 0 ∷ []) ++ new) ++ drop (at + 513) xs
split_put xs at new = simp append_assoc

length_split : (xs : List ℕ) (at : ℕ) (new : List ℕ) → at + 513 ≤ length xs → length new ≡ 512 → length ((take at xs ++ 0 ∷ []) ++ new) ≡ at + 513
length_split xs at new h l = simp (length-append, length-take) (omega arith)

after : (xs ys : List ℕ) (a to : ℕ) → length ys ≡ a → a ≤ to → (get_or (ys ++ drop a xs) to 0 ≡ get_or xs to 0) × (drop (to + 1) (ys ++ drop a xs) ≡ drop (to + 1) xs)
after xs ys a to l h = (
  get_or-append_right ys (drop a xs) a to 0 l h ∙ get_or-drop a xs (to - a) 0 ∙ ap (λ (n : ℕ). get_or xs n 0) (omega arith),
  drop-append-drop a xs ys (to + 1) (omega arith) l,
)

pub length_put : (xs : List ℕ) (at : ℕ) (new : List ℕ) → at + 513 ≤ length xs → length new ≡ 512 → length (list_put_at xs at new) ≡ length xs
length_put xs at new h l = simp (length-append, length-take, length-drop) (omega arith)

reading_same : (xs ys : List ℕ) (at : ℕ) → get_or xs at 0 ≡ get_or ys at 0 → take 512 (drop (at + 1) xs) ≡ take 512 (drop (at + 1) ys) → reading_at xs at ≡ reading_at ys at
reading_same xs ys at e f = cc

pub put_here : (xs : List ℕ) (at : ℕ) (new : List ℕ) → at + 513 ≤ length xs → length new ≡ 512 → reading_at (list_put_at xs at new) at ≡ bytes new
put_here xs at new h l =
    let n : length (take at xs) ≡ at = length-take-le at xs (omega arith) in
    let m : length (take at xs ++ 0 ∷ []) ≡ at + 1 = simp length-append (omega arith) in
    let e : get_or (list_put_at xs at new) at 0 ≡ 0 = get_or_at (take at xs) 0 (new ++ drop (at + 513) xs) 0 at n in
    let d : drop (at + 1) (list_put_at xs at new) ≡ new ++ drop (at + 513) xs =
    ap (drop (at + 1)) (sym (append_assoc (take at xs) (0 ∷ []) (new ++ drop (at + 513) xs))) ∙ drop_at (take at xs ++ 0 ∷ []) (new ++ drop (at + 513) xs) (at + 1) m in
    let f : take 512 (drop (at + 1) (list_put_at xs at new)) ≡ new = ap (take 512) d ∙ take_at new (drop (at + 513) xs) 512 l in
    rw (e, f)

pub put_other : (xs : List ℕ) (at : ℕ) (new : List ℕ) (to : ℕ) → at + 513 ≤ length xs → length new ≡ 512 → (to + 513 ≤ at) ⊎ (at + 513 ≤ to) → reading_at (list_put_at xs at new) to ≡ reading_at xs to
put_other xs at new to h l (inl q) =
    let r = 0 ∷ (new ++ drop (at + 513) xs) in
    reading_same _ _ to (mark_before xs r at to (omega arith) (omega arith)) (before xs r at (to + 1) 512 (omega arith) (omega arith))
put_other xs at new to h l (inr q) =
    let r = after xs ((take at xs ++ 0 ∷ []) ++ new) (at + 513) to (length_split xs at new h l) q in
    ap (λ (zs : List ℕ). reading_at zs to) (split_put xs at new) ∙ reading_same _ _ to r.0 (ap (take 512) r.1)

pub tear_here : (xs : List ℕ) (at : ℕ) → at < length xs → reading_at (set xs at 1) at ≡ torn
tear_here xs at h = rw (get_or-set_same xs at 1 0 h)

pub tear_other : (xs : List ℕ) (at to : ℕ) → at < length xs → (to + 513 ≤ at) ⊎ (at + 513 ≤ to) → reading_at (set xs at 1) to ≡ reading_at xs to
tear_other xs at to h (inl q) =
    let r = 1 ∷ drop (suc at) xs in
    ap (λ (zs : List ℕ). reading_at zs to) (set_split xs at 1 h)
    ∙ reading_same _ _ to (mark_before xs r at to (omega arith) (omega arith)) (before xs r at (to + 1) 512 (omega arith) (omega arith))
tear_other xs at to h (inr q) =
    reading_same _ _ to (get_or-set_other xs at to 1 0 (omega arith)) (ap (take 512) (drop-set-lt (to + 1) xs at 1 (omega arith)))
