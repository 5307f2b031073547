-- Rows of pages: what a market gives over two rows joined, numbers of counted notices, where a page at the end of a record lies.
use Rattle.std.proofs.Common.{◌≡◌, ℕ, ◌+◌, ◌*◌, ◌≤◌, true, cond, ◌&&◌, eqb, leb, ◌⊎◌, List, [], ◌∷◌, ◌++◌, length, Some, None, sym, refl, ap, ◌∙◌, subst, inl, inr, ⊎_elim, append_assoc, append-nil, arith, length-append}
use Rattle.std.proofs.lemmas.Option.{same_Some}
use mathlib.Core.List.{Memᴰ, nil≢cons, head-eq_of_cons-eq, tail-eq_of_cons-eq}
use Rattle.std.proofs.lemmas.Bool.{and_from, and_parts}
use Rattle.records.specs.Commands.{good, decoded, if_good, by_kind, enter_in_bytes, cancel_in}
use Rattle.records.specs.LittleEndian.{field}
use Rattle.records.specs.Notices.{counted, numbered}
use Rattle.records.specs.Pages.{all_good}
use Rattle.records.specs.declared.commands.Command.{Command}
use Rattle.records.specs.declared.commands.Command.TheVariants.{Cross}
use Rattle.records.specs.declared.notices.Notice.{Notice}
use Rattle.records.proofs.CommandLaws.{which}
use Rattle.records.proofs.SectorLaws.{none_some}
use Rattle.protocol.specs.Worlds.{N, World, after, given}
use Rattle.protocol.specs.Promises.{Pages, flat}
use Rattle.protocol.proofs.Codecs.{Laws}

-- bytes that are taken for a command are a good one's
pub decoded_good : (bs : List ℕ) (c : Command) → decoded bs ≡ Some c → good c ≡ true
unfolding decoded
decoded_good bs c h = ⊎_elim (λ a. by_kind_good a.1) (λ a. none_some c a.1) (which _ _ _ _ h)
  where
    if_good_good : (d : Command) → if_good d ≡ Some c → good c ≡ true
    if_good_good d e = ⊎_elim (λ a. subst (λ z. good z ≡ true) (same_Some d c a.1) a.0) (λ a. none_some c a.1) (which (good d) _ _ _ e)

    cross : cond (eqb (length bs) 4 && eqb (field 2 2 bs) 13) (Some Cross) None ≡ Some c → good c ≡ true
    cross e = ⊎_elim (λ d. subst (λ z. good z ≡ true) (same_Some Cross c d.1) refl) (λ d. none_some c d.1) (which (eqb (length bs) 4 && eqb (field 2 2 bs) 13) (Some Cross) None (Some c) e)

    cancel : cond (eqb (length bs) 16 && eqb (field 2 2 bs) 12) (if_good (cancel_in bs)) (cond (eqb (length bs) 4 && eqb (field 2 2 bs) 13) (Some Cross) None) ≡ Some c → good c ≡ true
    cancel e = ⊎_elim (λ b. if_good_good (cancel_in bs) b.1) (λ b. cross b.1) (which (eqb (length bs) 16 && eqb (field 2 2 bs) 12) (if_good (cancel_in bs)) _ (Some c) e)

    by_kind_good : by_kind bs ≡ Some c → good c ≡ true
    by_kind_good e = ⊎_elim (λ a. if_good_good (enter_in_bytes bs) a.1) (λ a. cancel a.1) (which (eqb (length bs) 18 && (eqb (field 2 2 bs) 11 && leb (field 8 2 bs) 1)) (if_good (enter_in_bytes bs)) _ (Some c) e)

pub flat_append : (ps qs : Pages) → flat (ps ++ qs) ≡ flat ps ++ flat qs
flat_append [] qs = refl
flat_append (p ∷ ps) qs = ap (λ l. p ++ l) (flat_append ps qs) ∙ sym (append_assoc p (flat ps) (flat qs))

pub flat_snoc : (ps : Pages) (p : List Command) → flat (ps ++ (p ∷ [])) ≡ flat ps ++ p
flat_snoc ps p = flat_append ps (p ∷ []) ∙ ap (λ l. flat ps ++ l) (append-nil p)

pub counted_append : (n : ℕ) (xs ys : List Notice) → counted n (xs ++ ys) ≡ counted n xs ++ counted (n + length xs) ys
counted_append n [] ys = ap (λ k. counted k ys) (omega arith)
counted_append n (x ∷ xs) ys = ap (λ l. numbered (n + 1) x ∷ l) (counted_append (n + 1) xs ys ∙ ap (λ k. counted (n + 1) xs ++ counted k ys) (omega arith))

pub counted_below : (n : ℕ) (xs : List Notice) (a : Notice) → Memᴰ a (counted n xs) → a.number.0 ≤ n + length xs
counted_below n [] a m = elim m [ ]
counted_below n (x ∷ xs) a (Memᴰ.head e) = let k : a.number.0 ≡ n + 1 = ap (λ (b : Notice). b.number.0) e in omega arith
counted_below n (x ∷ xs) a (Memᴰ.tail m) = let k = counted_below (n + 1) xs a m in omega arith

module _ {S : Type 0} (w : World S) (laws : Laws w) where
  pub after_append : (s : S) (xs ys : List Command) → after w s (xs ++ ys) ≡ after w (after w s xs) ys
  after_append s [] ys = refl
  after_append s (x ∷ xs) ys = after_append (w.rules.step s x).0 xs ys

  pub given_append : (s : S) (xs ys : List Command) → given w s (xs ++ ys) ≡ given w s xs ++ given w (after w s xs) ys
  given_append s [] ys = refl
  given_append s (x ∷ xs) ys = ap (λ l. (w.rules.step s x).1 ++ l) (given_append (w.rules.step s x).0 xs ys) ∙ sym (append_assoc (w.rules.step s x).1 (given w (w.rules.step s x).0 xs) (given w (after w (w.rules.step s x).0 xs) ys))

  pub after_valid : (s : S) (xs : List Command) → laws.valid s → laws.valid (after w s xs)
  after_valid s [] v = v
  after_valid s (x ∷ xs) v = after_valid (w.rules.step s x).0 xs (laws.next_valid s x v)

  pub last_after : (s : S) (xs : List Command) → laws.valid s → w.rules.count s + length xs ≤ N → w.rules.count (after w s xs) ≡ w.rules.count s + length xs
  last_after s [] v l = omega arith
  last_after s (x ∷ xs) v l =
      let b = laws.last_next s x v (omega arith) in
      let a = last_after (w.rules.step s x).0 xs (laws.next_valid s x v) (omega arith) in
      omega arith

  pub given_few : (s : S) (xs : List Command) → laws.valid s → length (given w s xs) ≤ 64 * length xs
  given_few s [] v = omega arith
  given_few s (x ∷ xs) v =
      let a = length-append (w.rules.step s x).1 (given w (w.rules.step s x).0 xs) in
      let b = laws.gives_few s x v in
      let c = given_few (w.rules.step s x).0 xs (laws.next_valid s x v) in
      omega arith

-- pages of 1 to 16 good commands
pub record Full (p : List Command) : Type 0 where
  pub one : 1 ≤ length p
  pub few : length p ≤ 16
  pub each : all_good p ≡ true

abbrev pub AllFull : Pages → Type 0
AllFull [] = Unit {0}
AllFull (p ∷ ps) = Full p × AllFull ps

pub full_snoc : (ps : Pages) (p : List Command) → AllFull ps → Full p → AllFull (ps ++ (p ∷ []))
full_snoc [] p a f = (f, tt)
full_snoc (q ∷ ps) p (g, a) f = (g, full_snoc ps p a f)

pub full_front : (ps qs : Pages) → AllFull (ps ++ qs) → AllFull ps
full_front [] qs a = tt
full_front (p ∷ ps) qs (g, a) = (g, full_front ps qs a)

pub full_at : (es : Pages) (p : List Command) (ls : Pages) → AllFull (es ++ (p ∷ ls)) → Full p
full_at [] p ls (g, a) = g
full_at (e ∷ es) p ls (g, a) = full_at es p ls a

pub full_sizes : (ps : Pages) → AllFull ps → (length ps ≤ length (flat ps)) × (length (flat ps) ≤ 16 * length ps)
full_sizes [] a = (omega arith, omega arith)
full_sizes (p ∷ ps) (g, a) =
    let i = full_sizes ps a in
    let n = length-append p (flat ps) in
    let s = g.one in
    let f = g.few in
    (omega arith, omega arith)

pub each_snoc : (cs : List Command) (c : Command) → all_good cs ≡ true → good c ≡ true → all_good (cs ++ (c ∷ [])) ≡ true
each_snoc [] c e t = and_from _ _ t refl
each_snoc (d ∷ cs) c e t = let p = and_parts (good d) (all_good cs) e in and_from _ _ p.0 (each_snoc cs c p.1 t)

-- a row with one more at its end, taken apart
pub record Inside {A : Type 0} (ps : List A) (p : A) (es : List A) (q : A) (ls : List A) : Type 0 where
  pub back : List A
  pub split : ps ≡ es ++ (q ∷ back)
  pub later : ls ≡ back ++ (p ∷ [])

pub record AtEnd {A : Type 0} (ps : List A) (p : A) (es : List A) (q : A) : Type 0 where
  pub earlier : es ≡ ps
  pub last : q ≡ p

pub none_left : {A : Type 0} (es : List A) (q : A) (ls : List A) → [] ≡ es ++ (q ∷ ls) → ⊥
none_left [] q ls e = nil≢cons e
none_left (x ∷ es) q ls e = nil≢cons e

pub snoc_split : {A : Type 0} (ps : List A) (p : A) (es : List A) (q : A) (ls : List A) → ps ++ (p ∷ []) ≡ es ++ (q ∷ ls) → Inside ps p es q ls ⊎ AtEnd ps p es q
snoc_split [] p [] q ls e = inr (record { earlier = refl; last = sym (head-eq_of_cons-eq e) })
snoc_split [] p (x ∷ es) q ls e = absurd (none_left es q ls (tail-eq_of_cons-eq e))
snoc_split (y ∷ ps) p [] q ls e = inl (record { back = ps; split = ap (λ z. z ∷ ps) (head-eq_of_cons-eq e); later = sym (tail-eq_of_cons-eq e) })
snoc_split (y ∷ ps) p (x ∷ es) q ls e = further (head-eq_of_cons-eq e) (snoc_split ps p es q ls (tail-eq_of_cons-eq e))
  where
    further : y ≡ x → Inside ps p es q ls ⊎ AtEnd ps p es q → Inside (y ∷ ps) p (x ∷ es) q ls ⊎ AtEnd (y ∷ ps) p (x ∷ es) q
    further h (inl i) = inl (record { back = i.back; split = (λ i'. h i' ∷ i.split i'); later = i.later })
    further h (inr i) = inr (record { earlier = (λ i'. sym h i' ∷ i.earlier i'); last = i.last })
