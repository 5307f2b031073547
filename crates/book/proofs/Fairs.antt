-- The book is fair.
use Rattle.std.proofs.Common.{◌≡◌, ℕ, ◌+◌, ◌<◌, ◌≤◌, Bool, true, false, cond, eqb, ltb, ◌⊎◌, List, [], ◌∷◌, ◌++◌, length, take, sym, refl, ap, ◌∙◌, subst, inl, inr, ⊎_elim, arith, rules, ltb-true, eq-eqb, eqb-true}
use Rattle.std.proofs.lemmas.Bool.{and_parts}
use Rattle.std.proofs.lemmas.List.{append-nil}
use Rattle.records.specs.Commands.{good}
use Rattle.records.specs.declared.commands.Side.{Side}
use Rattle.records.specs.declared.commands.Side.TheVariants.{Buy, Sell}
use Rattle.records.specs.declared.commands.Command.{Command}
use Rattle.records.specs.declared.commands.Command.TheVariants.{Enter, Cancel, Cross}
use Rattle.records.specs.declared.notices.Notice.{Notice}
use Rattle.market.specs.declared.orders.Order.{Order}
use Rattle.market.specs.Lists.{all, pairwise, placed, In}
use Rattle.market.specs.Orders.{before, other, accepts, lots_in, total, kept, differ, less, dropped}
use Rattle.market.specs.Resting.{Resting, arriving}
use Rattle.market.specs.Steps.{Taken}
use Rattle.market.proofs.ListLaws.{all_weaken, all_in}
use Rattle.market.proofs.Sounds.{SideSound, all_new}
use Rattle.market.proofs.StepLaws.{stepped_acts, taken_tells}
use Rattle.book.specs.Matching.{trades, fill_with, met, traded}
use Rattle.book.specs.Steps.{Valid, entered, acted, book_step}
use Rattle.book.specs.Fairness.{side_of, LeftOf, FairFill, open_lots, traded_lots, filled, Entry, Fair}
use Rattle.book.specs.Meetings.{met_ind}
use Rattle.book.specs.Sounds.{book_fact, met_taker}
use Rattle.book.specs.Laws.{keeps, uncrossed}

in_append : {X : Type 0} (x : X) (xs ys : List X) → In x (xs ++ ys) → In x xs ⊎ In x ys
in_append x [] ys i = inr i
in_append x (y ∷ xs) ys i = ⊎_elim (λ e. inl (inl e)) (λ j. ⊎_elim (λ k. inl (inr k)) (λ k. inr k) (in_append x xs ys j)) i

append_in : {X : Type 0} (x : X) (xs ys : List X) → In x xs → In x (xs ++ ys)
append_in x [] ys i = absurd i
append_in x (y ∷ xs) ys i = ⊎_elim (λ e. inl e) (λ j. inr (append_in x xs ys j)) i

placed_in : {X : Type 0} (b : X → X → Bool) (o q : X) (xs : List X) → In q xs → In q (placed b o xs)
placed_in b o q [] i = absurd i
placed_in b o q (x ∷ xs) i = way (b o x) (placed_in b o q xs) where
  way : (t : Bool) → (In q xs → In q (placed b o xs)) → In q (cond t (o ∷ x ∷ xs) (x ∷ placed b o xs))
  way true f = inr i
  way false f = ⊎_elim (λ e. inl e) (λ j. inr (f j)) i

in_placed : {X : Type 0} (b : X → X → Bool) (o q : X) (xs : List X) → In q (placed b o xs) → In q xs ⊎ (q ≡ o)
in_placed b o q [] i = ⊎_elim (λ e. inr e) (λ j. absurd j) i
in_placed b o q (x ∷ xs) i = way (b o x) (in_placed b o q xs) i where
  way : (t : Bool) → (In q (placed b o xs) → In q xs ⊎ (q ≡ o)) → In q (cond t (o ∷ x ∷ xs) (x ∷ placed b o xs)) → In q (x ∷ xs) ⊎ (q ≡ o)
  way true f j = ⊎_elim (λ e. inr e) (λ k. inl k) j
  way false f j = ⊎_elim (λ e. inl (inl e)) (λ k. ⊎_elim (λ l. inl (inr l)) (λ e. inr e) (f k)) j

-- the entering order's lots do not stand in a fill
fill_less : (s : Side) (o r : Order) (k n : ℕ) → fill_with s (less o k) r n ≡ fill_with s o r n
fill_less Buy o r k n = refl
fill_less Sell o r k n = refl

fill_lots : (s : Side) (o r : Order) (n : ℕ) → (fill_with s o r n).lots.0 ≡ n
fill_lots Buy o r n = refl
fill_lots Sell o r n = refl

fill_price : (s : Side) (o r : Order) (n : ℕ) → (fill_with s o r n).price ≡ r.price
fill_price Buy o r n = refl
fill_price Sell o r n = refl

one_way : (s : Side) (x y : Order) → before s x y ≡ true → before s y x ≡ true → ⊥
one_way Buy x y h k = search rules
one_way Sell x y h k = search rules

some_lots : Order → Bool
some_lots r = ltb 0 r.lots.0

-- a fill with the first row is fair
module _ (s : Side) (o r : Order) (rs : List Order) (ns : List Notice) (n : ℕ) (t : trades s o r ≡ true) (l : 1 ≤ n) (u : n ≤ r.lots.0)
    (q : all (before (other s) r) rs ≡ true) where
  fair_front : FairFill s o (r ∷ rs) ns (fill_with s o r n)
  fair_front =
      let a = and_parts (ltb 0 o.lots.0) (accepts s o.price.0 r.price.0) t in
      record {
        resting = r;
        rested = inl refl;
        told = ap (fill_with s o r) (sym (fill_lots s o r n));
        accepted = ap (λ p. accepts s o.price.0 p.0) (fill_price s o r n) ∙ a.1;
        some = subst (λ k. 1 ≤ k) (sym (fill_lots s o r n)) l;
        within = subst (λ k. k ≤ r.lots.0) (sym (fill_lots s o r n)) u;
        first = λ x i h. absurd (⊎_elim
            (λ e. one_way (other s) r r (subst (λ y. before (other s) y r ≡ true) e h) (subst (λ y. before (other s) y r ≡ true) e h))
            (λ j. one_way (other s) r x (all_in (before (other s) r) x rs j q) h) i);
      }

-- a fair fill stays fair with one more fill, of a row that stood first
fair_behind : (s : Side) (o r : Order) (rs : List Order) (ns : List Notice) (v : Notice) →
    FairFill s (less o r.lots.0) rs ns v → FairFill s o (r ∷ rs) (fill_with s o r r.lots.0 ∷ ns) v
fair_behind s o r rs ns v f = record {
  resting = f.resting;
  rested = inr f.rested;
  told = f.told ∙ fill_less s o f.resting r.lots.0 v.lots.0;
  accepted = f.accepted;
  some = f.some;
  within = f.within;
  first = λ x i h. ⊎_elim
      (λ e. inl (ap (λ y. fill_with s o y y.lots.0) e))
      (λ j. inr (subst (λ w. In w ns) (fill_less s o x r.lots.0 x.lots.0) (f.first x j h))) i;
}

met_fair : (s : Side) (o : Order) (rs : List Order) → pairwise (before (other s)) rs ≡ true → all some_lots rs ≡ true →
    (v : Notice) → In v (met s o rs).fills → FairFill s o rs (met s o rs).fills v
unfolding some_lots
met_fair s = met_ind s (λ o rs m. pairwise (before (other s)) rs ≡ true → all some_lots rs ≡ true → (v : Notice) → In v m.fills → FairFill s o rs m.fills v)
    (λ o q p v i. absurd i)
    (λ o r rs t q p v i. absurd i)
    (λ o r rs t l q p v i.
    let some = and_parts (ltb 0 o.lots.0) _ t in
    let k = ltb-true 0 o.lots.0 some.0 in
    ⊎_elim (λ e. subst (FairFill s o (r ∷ rs) _) (sym e) (fair_front s o r rs _ o.lots.0 t (omega arith) (omega arith) (and_parts (all (before (other s) r) rs) _ q).0)) (λ j. absurd j) i)
    (λ o r rs m t l f q p v i.
    let a = and_parts (all (before (other s) r) rs) _ q in
    let b = and_parts (some_lots r) (all some_lots rs) p in
    let k = ltb-true 0 r.lots.0 b.0 in
    ⊎_elim (λ e. subst (FairFill s o (r ∷ rs) _) (sym e) (fair_front s o r rs _ r.lots.0 t (omega arith) (omega arith) a.0))
    (λ j. fair_behind s o r rs m.fills v (f a.1 b.1 v j)) i)

-- the lots add up
met_adds : (s : Side) (o : Order) (rs : List Order) → total (met s o rs).fills + (met s o rs).taker.lots.0 ≡ o.lots.0
met_adds s = met_ind s (λ o rs m. total m.fills + m.taker.lots.0 ≡ o.lots.0)
    (λ o. omega arith) (λ o r rs t. omega arith)
    (λ o r rs t l. omega (arith, fill_lots s o r o.lots.0))
    (λ o r rs m t l k. omega (arith, fill_lots s o r r.lots.0, k))

total_append : (xs ys : List Notice) → total (xs ++ ys) ≡ total xs + total ys
total_append [] ys = omega arith
total_append (x ∷ xs) ys = omega (arith, total_append xs ys)

-- the other side's lots add up
fill_filled : (s : Side) (o r : Order) (n : ℕ) → traded_lots (fill_with s o r n).kind (fill_with s o r n) ≡ n
fill_filled Buy o r n = refl
fill_filled Sell o r n = refl

met_takes : (s : Side) (o : Order) (rs : List Order) → lots_in (met s o rs).rows + filled (met s o rs).fills ≡ lots_in rs
met_takes s = met_ind s (λ o rs m. lots_in m.rows + filled m.fills ≡ lots_in rs)
    (λ o. refl) (λ o r rs t. omega arith)
    (λ o r rs t l. omega (arith, fill_filled s o r o.lots.0, l))
    (λ o r rs m t l k. omega (arith, fill_filled s o r r.lots.0, k))

filled_append : (xs ys : List Notice) → filled (xs ++ ys) ≡ filled xs + filled ys
filled_append [] ys = omega arith
filled_append (x ∷ xs) ys = omega (arith, filled_append xs ys)

none_open : (n : ℕ) (xs : List Order) (o : Order) → o.number.0 ≡ n → all (differ o) xs ≡ true → open_lots n xs ≡ 0
none_open n [] o e h = refl
none_open n (x ∷ xs) o e h =
    let a = and_parts (differ o x) (all (differ o) xs) h in
    let k : eqb x.number.0 n ≡ false = search rules in
    simp k (none_open n xs o e a.1)

placed_open : (b : Order → Order → Bool) (n : ℕ) (xs : List Order) (o : Order) → o.number.0 ≡ n → all (differ o) xs ≡ true → open_lots n (placed b o xs) ≡ o.lots.0
placed_open b n [] o e h = let k = eq-eqb o.number.0 n e in simp k
placed_open b n (x ∷ xs) o e h = way (b o x) (placed_open b n xs o e (and_parts (differ o x) (all (differ o) xs) h).1) where
  way : (t : Bool) → open_lots n (placed b o xs) ≡ o.lots.0 → open_lots n (cond t (o ∷ x ∷ xs) (x ∷ placed b o xs)) ≡ o.lots.0
  way true f = let k = eq-eqb o.number.0 n e in simp k
  way false f =
      let a = and_parts (differ o x) (all (differ o) xs) h in
      let k : eqb x.number.0 n ≡ false = search rules in
      simp k f

-- what is not met is not touched
not_met : (s : Side) (o r q : Order) → trades s o r ≡ true → accepts s o.price.0 q.price.0 ≡ false → q ≡ r → ⊥
not_met s o r q t a e =
    let b = (and_parts (ltb 0 o.lots.0) (accepts s o.price.0 r.price.0) t).1 in
    let c : accepts s o.price.0 r.price.0 ≡ false = ap (λ x. accepts s o.price.0 x.price.0) (sym e) ∙ a in
    search rules

met_stays : (s : Side) (q : Order) (o : Order) (rs : List Order) → In q rs → accepts s o.price.0 q.price.0 ≡ false → In q (met s o rs).rows
met_stays s q = met_ind s (λ o rs m. In q rs → accepts s o.price.0 q.price.0 ≡ false → In q m.rows)
    (λ o i a. i) (λ o r rs t i a. i)
    (λ o r rs t l i a. ⊎_elim (λ e. absurd (not_met s o r q t a e)) (λ j. inr j) i)
    (λ o r rs m t l f i a. ⊎_elim (λ e. absurd (not_met s o r q t a e)) (λ j. f j a) i)

whole : (o : Order) → LeftOf o o
whole o = record { number = refl; member = refl; price = refl; lots = omega arith }

met_comes : (s : Side) (q : Order) (o : Order) (rs : List Order) → In q (met s o rs).rows → (r : Order) × In r rs × LeftOf r q
met_comes s q = met_ind s (λ o rs m. In q m.rows → (r : Order) × In r rs × LeftOf r q)
    (λ o i. absurd i)
    (λ o r rs t i. (q, i, whole q))
    (λ o r rs t l i. ⊎_elim
    (λ e. (r, inl refl, subst (LeftOf r) (sym e) (record { number = refl; member = refl; price = refl; lots = omega arith })))
    (λ j. (q, inr j, whole q)) i)
    (λ o r rs m t l f i. let g = f i in (g.0, inr g.1, g.2))

kept_some : (n : ℕ) (r : Order) → kept n r ≡ true → some_lots r ≡ true
unfolding some_lots
kept_some n r h = search rules

-- an order has entered
module _ (s : Side) (o : Order) (n : ℕ) (own opposite : List Order) (new : o.number.0 ≡ n + 1) (f : SideSound s n own) (g : SideSound (other s) n opposite) where
  fills_fair : (ns : List Notice) → ((w : Notice) → In w (met s o opposite).fills → In w ns) → (v : Notice) → In v (met s o opposite).fills → FairFill s o opposite ns v
  fills_fair ns up v i =
      let k = met_fair s o opposite g.ranked (all_weaken (kept n) some_lots opposite (kept_some n) g.ranged) v i in
      record { resting = k.resting; rested = k.rested; told = k.told; accepted = k.accepted; some = k.some; within = k.within; first = λ x j h. up _ (k.first x j h) }

  fresh : (p : Order) → p.number ≡ o.number → all (differ p) own ≡ true
  fresh p e = let k : p.number.0 ≡ n + 1 = ap (λ x. x.0) e ∙ new in all_new n p (omega arith) own f.ranged

  pub entry : Entry s o own opposite (traded s o own opposite).own (traded s o own opposite).opposite (traded s o own opposite).notices
  entry = way (eqb (met s o opposite).taker.lots.0 0) (ltb (length own) 32) refl refl where
    way : (a b : Bool) → eqb (met s o opposite).taker.lots.0 0 ≡ a → ltb (length own) 32 ≡ b →
        Entry s o own opposite (traded s o own opposite).own (traded s o own opposite).opposite (traded s o own opposite).notices
    way true b e c =
        let z = eqb-true (met s o opposite).taker.lots.0 0 e in
        simp e (record {
          told = λ v i. inl (fills_fair (met s o opposite).fills (λ w j. j) v i);
          adds = omega (arith, met_adds s o opposite, none_open o.number.0 own o refl (fresh o refl));
          opposite_adds = met_takes s o opposite;
          own_stays = λ q i. i;
          opposite_stays = λ q i a. met_stays s q o opposite i a;
          own_comes = λ q i. inl i;
          opposite_comes = λ q i. met_comes s q o opposite i;
        })
    way false true e c =
        let t = (met s o opposite).taker in
        let l = met_taker s o opposite in
        simp (e, c) (record {
          told = λ v i. inl (fills_fair ((met s o opposite).fills ++ []) (λ w j. append_in w (met s o opposite).fills [] j) v (subst (λ xs. In v xs) (append-nil _) i));
          adds = omega (arith, met_adds s o opposite, total_append (met s o opposite).fills [], placed_open (before s) o.number.0 own t (ap (λ x. x.0) l.number) (fresh t l.number));
          opposite_adds = omega (arith, met_takes s o opposite, filled_append (met s o opposite).fills []);
          own_stays = λ q i. placed_in (before s) t q own i;
          opposite_stays = λ q i a. met_stays s q o opposite i a;
          own_comes = λ q i. ⊎_elim (λ j. inl j) (λ k. inr (subst (LeftOf o) (sym k) l)) (in_placed (before s) t q own i);
          opposite_comes = λ q i. met_comes s q o opposite i;
        })
    way false false e c =
        let t = (met s o opposite).taker in
        let d : List Notice = dropped t ∷ [] in
        simp (e, c) (record {
          told = λ v i. ⊎_elim
              (λ j. inl (fills_fair ((met s o opposite).fills ++ d) (λ w k. append_in w (met s o opposite).fills d k) v j))
              (λ j. inr (⊎_elim (λ k. (t, met_taker s o opposite, k)) (λ k. absurd k) j)) (in_append v (met s o opposite).fills d i);
          adds = omega (arith, met_adds s o opposite, total_append (met s o opposite).fills d, none_open o.number.0 own o refl (fresh o refl));
          opposite_adds = omega (arith, met_takes s o opposite, filled_append (met s o opposite).fills d);
          own_stays = λ q i. i;
          opposite_stays = λ q i a. met_stays s q o opposite i a;
          own_comes = λ q i. inl i;
          opposite_comes = λ q i. met_comes s q o opposite i;
        })

entered_fair : (h : Resting) (s : Side) (o : Order) → o.number.0 ≡ h.last + 1 → Valid h →
    Entry s o (side_of s h) (side_of (other s) h) (side_of s (entered h s o).0) (side_of (other s) (entered h s o).0) (entered h s o).1
entered_fair h Buy o new v = let f = book_fact h v in entry Buy o h.last h.buys h.sells new f.0.buys f.0.sells
entered_fair h Sell o new v = let f = book_fact h v in entry Sell o h.last h.sells h.buys new f.0.sells f.0.buys

pub fair : (h : Resting) (c : Command) → Valid h → Fair h c (book_step h c).0 (book_step h c).1
fair h (Enter m s p q) v =
    let c = Enter m s p q in (
      uncrossed _ (keeps h c v),
      λ g l.
          let e : ltb h.last 1_000_000_000_000 ≡ true = search rules in
          simp (e, g) (entered_fair h s (arriving h m p q) refl v),
    )
fair h (Cancel m n) v = uncrossed _ (keeps h (Cancel m n) v)
fair h Cross v = uncrossed _ (keeps h Cross v)

-- and so is what is done at a good command, as it is left in the lent list
pub acted_fair : (h : Resting) (c : Command) {xs : List Notice} {t : Resting} {ys : List Notice} {n : ℕ} → Valid h → h.last < 1_000_000_000_000 → good c ≡ true → Taken (acted h c) xs t ys n → Fair h c t (take n ys)
acted_fair h c v l g a = taken_tells (Fair h c) (subst (λ t. Fair h c t.0 t.1) (stepped_acts acted h c l g) (fair h c v)) a
