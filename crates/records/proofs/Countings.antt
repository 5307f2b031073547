-- The loop that numbers notices.
use Rattle.std.proofs.Common.{◌≡◌, ℕ, ◌+◌, ◌<◌, ◌≤◌, List, [], ◌∷◌, ◌++◌, length, get_or, take, drop, set, sym, ap, ◌∙◌, arith, length-set}
use Rattle.std.proofs.lemmas.List.{take_more, drop_more, take_more_set, drop-set-lt, drop-drop, length-take-le}
use Rattle.records.specs.declared.notices.Notice.{Notice}
use Rattle.records.specs.Notices.{numbered, counted}

-- i notices of xs are numbered in ys
pub record Counting (n : ℕ) (xs ys : List Notice) (i : ℕ) : Type 0 where
  pub done : take i ys ≡ counted n (take i xs)
  pub rest : drop i ys ≡ drop i xs
  pub long : length ys ≡ length xs

counted_push : (n : ℕ) (xs : List Notice) (v : Notice) → counted n (xs ++ v ∷ []) ≡ counted n xs ++ numbered (n + length xs + 1) v ∷ []
counted_push n [] v = ap (λ k. numbered k v ∷ []) (omega arith)
counted_push n (x ∷ xs) v = ap (λ vs. numbered (n + 1) x ∷ vs) (counted_push (n + 1) xs v ∙ ap (λ k. counted (n + 1) xs ++ numbered k v ∷ []) (omega arith))

module _ (n : ℕ) (xs ys : List Notice) (i : ℕ) (d : Notice) (f : Counting n xs ys i) (h : i < length ys) where
  same : get_or ys i d ≡ get_or xs i d
  same =
      let l : i < length xs = omega (arith, f.long) in
      let a = drop_more ys i d h in
      let b = drop_more xs i d l in
      let r = f.rest in
      cc

  pub counting_more : Counting n xs (set ys i (numbered (n + 1 + i) (get_or ys i d))) (i + 1)
  counting_more =
      let l : i < length xs = omega (arith, f.long) in
      let m : i ≤ length xs = omega arith in
      let v = numbered (n + 1 + i) (get_or ys i d) in
      let e : n + i + 1 ≡ n + 1 + i = omega arith in
      let one : numbered (n + length (take i xs) + 1) (get_or xs i d) ≡ v = rw (length-take-le i xs m, e, ← same) in
      record {
        done = take_more_set ys i v h ∙ ap (λ zs. zs ++ v ∷ []) f.done ∙ sym (ap (counted n) (take_more xs i d l) ∙ counted_push n (take i xs) (get_or xs i d) ∙ ap (λ w. counted n (take i xs) ++ w ∷ []) one);
        rest = drop-set-lt (i + 1) ys i v (omega arith) ∙ sym (drop-drop 1 i ys) ∙ ap (drop 1) f.rest ∙ drop-drop 1 i xs;
        long = simp length-set f.long;
      }
