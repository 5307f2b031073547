-- One command more of a page, and its notices behind those before.
use Rattle.std.proofs.Common.{◌≡◌, ℕ, ◌+◌, ◌-◌, ◌*◌, ◌<◌, ◌≤◌, List, [], ◌∷◌, ◌++◌, length, get_or, take, drop, sym, refl, ap, ◌∙◌, append_assoc, append-nil, arith, length-append}
use borrow.Rule.Slice.PartMut.{put_mid}
use Rattle.std.proofs.lemmas.List.{take_more}
use Rattle.records.specs.Notices.{counted}
use Rattle.records.specs.declared.commands.Command.{Command}
use Rattle.records.specs.declared.notices.Notice.{Notice}
use Rattle.market.proofs.ListLaws.{over_more}
use Rattle.market.specs.Lists.{over}
use Rattle.batches.specs.Given.{after_all, given_by}

module _ {S : Type 0} (step : S → Command → S × List Notice) where
  pub after_more : (s : S) (xs : List Command) (x : Command) → after_all step s (xs ++ x ∷ []) ≡ (step (after_all step s xs) x).0
  after_more s [] x = refl
  after_more s (y ∷ xs) x = after_more (step s y).0 xs x

  pub given_more : (s : S) (xs : List Command) (x : Command) → given_by step s (xs ++ x ∷ []) ≡ given_by step s xs ++ (step (after_all step s xs) x).1
  given_more s [] x = append-nil _
  given_more s (y ∷ xs) x = ap (λ l. (step s y).1 ++ l) (given_more (step s y).0 xs x) ∙ sym (append_assoc (step s y).1 _ _)

pub length_counted : (k : ℕ) (vs : List Notice) → length (counted k vs) ≡ length vs
length_counted k [] = refl
length_counted k (v ∷ vs) = omega (arith, length_counted (k + 1) vs)

-- where the loop over a page's commands stands before command i
abbrev pub Stands : {S : Type 0} (step : S → Command → S × List Notice) (s : S) (xs : List Command) (before : List Notice) (i at : ℕ) (list : List Notice) (now : S) → Type 0
Stands step s xs before i at list now =
    (at ≤ 64 * i) × (at ≡ length (given_by step s (take i xs))) × (list ≡ over before (given_by step s (take i xs))) × (now ≡ after_all step s (take i xs))

pub stands_next : {S : Type 0} (step : S → Command → S × List Notice) (s : S) (xs : List Command) (before : List Notice) (i at n : ℕ) (list part : List Notice) (now next : S) (d : Command) →
    i < length xs → at ≤ length list → Stands step s xs before i at list now →
    next ≡ (step now (get_or xs i d)).0 → n ≡ length (step now (get_or xs i d)).1 → part ≡ over (take (length list - at) (drop at list)) (step now (get_or xs i d)).1 → n ≤ 64 →
    Stands step s xs before (i + 1) (at + n) (put_mid at (length list - at) list part) next
stands_next step s xs before i at n list part now next d lt le (few, long, front, here) e-state e-number e-list e-few =
    let more = take_more xs i d lt in
    let x = get_or xs i d in
    let new = (step now x).1 in
    let gives : given_by step s (take (i + 1) xs) ≡ given_by step s (take i xs) ++ new = ap (given_by step s) more ∙ given_more step s (take i xs) x ∙ ap (λ z. given_by step s (take i xs) ++ (step z x).1) (sym here) in (
      omega arith,
      omega (arith, ap length gives, length-append (given_by step s (take i xs)) new),
      over_more before (given_by step s (take i xs)) new list part at long le front e-list ∙ ap (over before) (sym gives),
      e-state ∙ ap (λ z. (step z x).0) here ∙ sym (ap (after_all step s) more ∙ after_more step s (take i xs) x),
    )
