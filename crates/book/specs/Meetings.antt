-- A meeting, one fill after another, and its fills in the lent list.
use Rattle.std.specs.Prelude.{◌≡◌, ℕ, ◌+◌, ◌-◌, ◌<◌, ◌≤◌, min, Bool, true, false, cond, List, [], ◌∷◌, ◌++◌, length, get_or, take, drop, set, Some, nat_eq, nat_le, nat_lt, slice_index_or, slice_set, refl}
use Rattle.std.proofs.Common.{sym, ap, subst, ◌∙◌, arith, length-append, length-set, rules, leb-true, leb-false, eq-eqb, ne_eqb}
use Rattle.std.specs.Option.{option_to_list}
use Rattle.std.proofs.lemmas.Bool.{and_parts}
use Rattle.std.proofs.lemmas.List.{length-take-le, take_more_set, drop-set-lt, append_assoc, append-nil, drop_more, set_at, length_push, take-append-drop, drop-drop}
use borrow.Rule.Slice.PartMut.{put_mid}
use Rattle.records.specs.declared.commands.Side.{Side}
use Rattle.records.specs.declared.commands.Side.TheVariants.{Buy, Sell}
use Rattle.records.specs.declared.notices.Notice.{Notice}
use Rattle.market.specs.declared.orders.Order.{Order}
use Rattle.market.specs.Lists.{all, pairwise, over}
use Rattle.market.specs.Orders.{before, other, less, reduced, front, rested}
use Rattle.market.specs.Steps.{Taken}
use Rattle.market.proofs.ListLaws.{over_more}
use Rattle.book.specs.Matching.{trades, fill_with, met, Met, after_fill, traded, Filled, Stopped, MetAll, Traded}

-- what holds of every meeting, by the ways that a meeting goes
module _ (s : Side) (P : Order → List Order → Met → Type 0)
    (none : (o : Order) → P o [] (record { taker = o; rows = []; fills = [] }))
    (stop : (o r : Order) (rs : List Order) → trades s o r ≡ false → P o (r ∷ rs) (record { taker = o; rows = r ∷ rs; fills = [] }))
    (part : (o r : Order) (rs : List Order) → trades s o r ≡ true → o.lots.0 < r.lots.0 → P o (r ∷ rs) (record { taker = less o o.lots.0; rows = less r o.lots.0 ∷ rs; fills = fill_with s o r o.lots.0 ∷ [] }))
    (more : (o r : Order) (rs : List Order) (m : Met) → trades s o r ≡ true → r.lots.0 ≤ o.lots.0 → P (less o r.lots.0) rs m → P o (r ∷ rs) (after_fill (fill_with s o r r.lots.0) m)) where
  pub met_ind : (o : Order) (rs : List Order) → P o rs (met s o rs)
  met_ind o [] = none o
  met_ind o (r ∷ rs) = way (trades s o r) (nat_le r.lots.0 o.lots.0) refl refl (met_ind (less o r.lots.0) rs) where
    way : (a b : Bool) → trades s o r ≡ a → nat_le r.lots.0 o.lots.0 ≡ b → P (less o r.lots.0) rs (met s (less o r.lots.0) rs) → P o (r ∷ rs)
        (cond a (cond b (after_fill (fill_with s o r r.lots.0) (met s (less o r.lots.0) rs)) (record { taker = less o o.lots.0; rows = less r o.lots.0 ∷ rs; fills = fill_with s o r o.lots.0 ∷ [] }))
        (record { taker = o; rows = r ∷ rs; fills = [] }))
    way true true t e h = more o r rs _ t (leb-true r.lots.0 o.lots.0 e) h
    way true false t e h = part o r rs t (leb-false r.lots.0 o.lots.0 e)
    way false b t e h = stop o r rs t

pub met_few : (s : Side) (o : Order) (rs : List Order) → length (met s o rs).fills ≤ length rs
met_few s = met_ind s (λ o rs m. length m.fills ≤ length rs) (λ o. omega arith) (λ o r rs t. omega arith) (λ o r rs t h. omega arith) (λ o r rs m t l k. omega arith)

rank_less : (s : Side) (r : Order) (m : ℕ) (rs : List Order) → pairwise (before s) (r ∷ rs) ≡ true → pairwise (before s) (less r m ∷ rs) ≡ true
rank_less Buy r m rs h = h
rank_less Sell r m rs h = h

-- a fill with the first row
module _ (s : Side) (o r : Order) (rs : List Order) (t : trades s o r ≡ true) (q : pairwise (before (other s)) (r ∷ rs) ≡ true) where
  some_lots : 0 < o.lots.0
  some_lots = search rules

  core : (b : Bool) → nat_le r.lots.0 o.lots.0 ≡ b → (m : ℕ) → m ≡ min o.lots.0 r.lots.0 →
      Filled s o (r ∷ rs) (less o m) (reduced (r ∷ rs) m) (fill_with s o r m)
  core true e m h =
      let le = leb-true r.lots.0 o.lots.0 e in
      let z : r.lots.0 ≡ m = omega arith in
      let k = eq-eqb r.lots.0 r.lots.0 refl in
      subst (λ y. Filled s o (r ∷ rs) (less o y) (reduced (r ∷ rs) y) (fill_with s o r y)) z
      (record { rest = simp (k, t, e); falls = simp k (omega arith); ranked = simp k (and_parts (all (before (other s) r) rs) _ q).1 })
  core false e m h =
      let gt = leb-false r.lots.0 o.lots.0 e in
      let some = some_lots in
      let z : o.lots.0 ≡ m = omega arith in
      let k : nat_eq o.lots.0 r.lots.0 ≡ false = ne_eqb o.lots.0 r.lots.0 (λ x. omega arith) in
      let u : nat_lt 0 (o.lots.0 - o.lots.0) ≡ false = search rules in
      subst (λ y. Filled s o (r ∷ rs) (less o y) (reduced (r ∷ rs) y) (fill_with s o r y)) z
      (record { rest = simp (k, t, e, u); falls = simp k (omega arith); ranked = simp k (rank_less (other s) r o.lots.0 rs q) })

pub filled : (s : Side) (o r d : Order) (xs ys : List Order) (i m : ℕ) (n : Notice) → Some i ≡ front xs → r ≡ slice_index_or xs i d → trades s o r ≡ true → m ≡ min o.lots.0 r.lots.0 →
    n ≡ fill_with s o r m → ys ≡ reduced xs m → pairwise (before (other s)) xs ≡ true → Filled s o xs (less o m) ys n
filled s o r d [] ys i m n f g t h e k q = absurd (search rules)
filled s o r d (x ∷ xs) ys i m n f g t h e k q =
    let i0 : i ≡ 0 = cc in
    let rx : r ≡ x = g ∙ ap (λ y. get_or (x ∷ xs) y d) i0 in
    let w = core s o x xs (rw rx at t) q (nat_le x.lots.0 o.lots.0) refl m (rw rx at h) in
    rw (k, e, rx) w

pub stopped : (s : Side) (o r d : Order) (xs : List Order) (i : ℕ) → Some i ≡ front xs → r ≡ slice_index_or xs i d → trades s o r ≡ false → Stopped s o xs o xs
stopped s o r d [] i f g t = absurd (search rules)
stopped s o r d (x ∷ xs) i f g t =
    let i0 : i ≡ 0 = cc in
    let rx : r ≡ x = g ∙ ap (λ y. get_or (x ∷ xs) y d) i0 in
    let u : trades s o x ≡ false = rw rx at t in
    record { taker = refl; rows = refl; done = simp u }

-- the loop of a meeting of o and rs, over the list xs
module _ (s : Side) (o : Order) (rs : List Order) (xs : List Notice) where
  pub record Sofar (p : Order) (qs : List Order) (ys : List Notice) (n : ℕ) : Type 0 where
    pub ranked : pairwise (before (other s)) qs ≡ true
    pub taker : (met s p qs).taker ≡ (met s o rs).taker
    pub rows : (met s p qs).rows ≡ (met s o rs).rows
    pub fills : take n ys ++ (met s p qs).fills ≡ (met s o rs).fills
    pub rest : drop n ys ≡ drop n xs
    pub long : length ys ≡ length xs
    pub room : length rs ≤ length xs
    pub inside : n ≤ length xs

  module _ {p p' : Order} {qs qs' : List Order} {ys : List Notice} {n : ℕ} {v : Notice} (f : Sofar p qs ys n) (g : Filled s p qs p' qs' v) where
    whole : take n ys ++ v ∷ (met s p' qs').fills ≡ (met s o rs).fills
    whole = ap (λ m. take n ys ++ m.fills) (sym g.rest) ∙ f.fills

    pub sofar_room : n < length ys
    sofar_room =
        let few = met_few s o rs in
        let le : n ≤ length ys = omega arith in
        let k = simp (length-append, length-take-le) at (ap length whole) in
        omega arith

    pub sofar_more : Sofar p' qs' (slice_set ys n v) (n + 1)
    sofar_more =
        let lt = sofar_room in
        record {
          ranked = g.ranked;
          taker = ap (λ m. m.taker) (sym g.rest) ∙ f.taker;
          rows = ap (λ m. m.rows) (sym g.rest) ∙ f.rows;
          fills = rw (take_more_set, append_assoc) whole;
          rest = drop-set-lt (n + 1) ys n v (omega arith) ∙ sym (drop-drop 1 n ys) ∙ ap (drop 1) f.rest ∙ drop-drop 1 n xs;
          long = simp length-set f.long;
          room = f.room;
          inside = omega arith;
        }

  pub sofar_all : {p p' : Order} {qs qs' : List Order} {ys : List Notice} {n : ℕ} → Sofar p qs ys n → Stopped s p qs p' qs' → MetAll s o rs xs p' qs' ys n
  sofar_all {p} {p'} {qs} {qs'} {ys} {n} f g =
      let le : n ≤ length ys = omega arith in
      let fills = (met s o rs).fills in
      let all_of : take n ys ≡ fills = sym (append-nil (take n ys)) ∙ ap (λ m. take n ys ++ m.fills) (sym g.done) ∙ f.fills in
      let number : n ≡ length fills = sym (length-take-le n ys le) ∙ ap length all_of in
      record {
        taker = g.taker ∙ ap (λ m. m.taker) (sym g.done) ∙ f.taker;
        rows = g.rows ∙ ap (λ m. m.rows) (sym g.done) ∙ f.rows;
        number = number;
        list = sym (take-append-drop n ys) ∙ ap (λ z. z ++ drop n ys) all_of ∙ ap (λ z. fills ++ z) f.rest ∙ ap (λ k. fills ++ drop k xs) number;
        few = omega (arith, number, met_few s o rs);
      }

-- one more notice
over_push : (xs ns : List Notice) (n : ℕ) (v : Notice) → n ≡ length ns → n < length xs → slice_set (over xs ns) n v ≡ over xs (ns ++ v ∷ [])
over_push xs ns n v e h =
    let d = drop_more xs (length ns) v (omega arith) in
    ap (λ z. set (ns ++ z) n v) d ∙ set_at ns (slice_index_or xs (length ns) v) (drop (length ns + 1) xs) v n (sym e) ∙ simp (length_push, append_assoc)

-- what is left of the order rests, or is dropped
module _ {s : Side} {o : Order} {opposite : List Order} {xs : List Notice} {p : Order} {qs : List Order} {ys : List Notice} {n : ℕ}
    (m : MetAll s o opposite xs p qs ys n) (own : List Order) (some : p.lots.0 ≡ 0 → ⊥) where
  open_lots : nat_eq (met s o opposite).taker.lots.0 0 ≡ false
  open_lots = ne_eqb _ 0 (λ z. some (ap (λ t. t.lots.0) m.taker ∙ z))

  pub remainder_settled : {rs : List Order} {part : List Notice} {k : ℕ} → n ≤ length ys →
      Taken ((rested s p own).0, option_to_list (rested s p own).1) (take (length ys - n) (drop n ys)) rs part k → Traded (traded s o own opposite) xs rs qs (put_mid n (length ys - n) ys part) (n + k)
  remainder_settled {rs} {part} {k} le t =
      let e = open_lots in
      let w = rw m.taker at t in
      let new = option_to_list (rested s (met s o opposite).taker own).1 in
      record {
        own = simp e w.state;
        opposite = simp e m.rows;
        number = simp e (omega (arith, m.number, w.number, length-append (met s o opposite).fills new));
        list = simp e (over_more xs (met s o opposite).fills new ys part n m.number le m.list w.list);
      }

  pub remainder_dropped : (rs : List Order) (v : Notice) → (rs, Some v) ≡ rested s p own → n < length xs → Traded (traded s o own opposite) xs rs qs (slice_set ys n v) (n + 1)
  remainder_dropped rs v h room =
      let e = open_lots in
      let fills = (met s o opposite).fills in
      let k : (rs, Some v) ≡ rested s (met s o opposite).taker own = h ∙ ap (λ t. rested s t own) m.taker in
      let last : fills ++ option_to_list (rested s (met s o opposite).taker own).1 ≡ fills ++ v ∷ [] = ap (λ x. fills ++ option_to_list x.1) (sym k) in
      record {
        own = simp e (ap (λ x. x.0) k);
        opposite = simp e m.rows;
        number = simp (e, last, length_push) (ap (λ j. j + 1) m.number);
        list = simp (e, last) (rw m.list (over_push xs fills n v m.number room));
      }
