-- A cross, one pair after another, and its fills in the lent list.
use Rattle.std.specs.Prelude.{◌≡◌, ℕ, zero, suc, ◌+◌, ◌-◌, ◌<◌, ◌≤◌, Bool, true, false, cond, ltb, List, [], ◌∷◌, ◌++◌, length, take, drop, ◌==◌, nat_eq, nat_lt, slice_index_or, slice_set, refl}
use Rattle.std.proofs.Common.{sym, ap, ◌∙◌, arith, length-set, rules, ltb-true, ltb-false, eqb-true, eq-eqb, ne_eqb}
use Rattle.std.proofs.lemmas.Bool.{and_parts, eqb-false}
use Rattle.std.proofs.lemmas.List.{length-take-le, take_more_set, drop-set-lt, append_assoc, append-nil, take-append-drop, drop-drop}
use Rattle.records.specs.declared.numbers.CommandNumber.{CommandNumber}
use Rattle.records.specs.declared.numbers.Price.{Price}
use Rattle.records.specs.declared.commands.Side.{Side}
use Rattle.records.specs.declared.commands.Side.TheVariants.{Buy, Sell}
use Rattle.records.specs.declared.notices.Notice.{Notice}
use Rattle.market.specs.declared.orders.Order.{Order}
use Rattle.market.specs.Lists.{all, pairwise}
use Rattle.market.specs.Orders.{before, accepts, less, reduced, Has, fill}
use Rattle.call.specs.Clearing.{offered}
use Rattle.call.specs.Crossing.{taken, pair_lots, pair, pairs, Fillable, Paired, PairedAll}

-- whoever stands behind an order that does not accept a price does not accept it
further : (s : Side) (p : ℕ) (x y : Order) → accepts s x.price.0 p ≡ false → before s x y ≡ true → accepts s y.price.0 p ≡ false
further Buy p x y h k = search rules
further Sell p x y h k = search rules

none_further : (s : Side) (p : ℕ) (x : Order) (xs : List Order) → accepts s x.price.0 p ≡ false → all (before s x) xs ≡ true → offered s p xs ≡ 0
none_further s p x [] h k = refl
none_further s p x (y ∷ ys) h k =
    let a = and_parts (before s x y) (all (before s x) ys) k in
    let f = further s p x y h a.0 in
    let i = none_further s p x ys h a.1 in
    rw f (omega arith)

-- where some of a side's orders accept a price, the first does
pub front_accepts : (s : Side) (p : ℕ) (x : Order) (xs : List Order) → pairwise (before s) (x ∷ xs) ≡ true → 0 < offered s p (x ∷ xs) → accepts s x.price.0 p ≡ true
front_accepts s p x xs q l = way (accepts s x.price.0 p) refl where
  way : (t : Bool) → accepts s x.price.0 p ≡ t → accepts s x.price.0 p ≡ true
  way true e = e
  way false e =
      let z = none_further s p x xs e (and_parts (all (before s x) xs) (pairwise (before s) xs) q).0 in
      let k : 0 < 0 + offered s p xs = rw e at l in
      absurd (omega arith)

rank_less : (s : Side) (r : Order) (m : ℕ) (rs : List Order) → pairwise (before s) (r ∷ rs) ≡ true → pairwise (before s) (less r m ∷ rs) ≡ true
rank_less Buy r m rs h = h
rank_less Sell r m rs h = h

-- the first order has m lots less, or leaves
module _ (s : Side) (p : ℕ) (x : Order) (xs : List Order) (m : ℕ) (l : m ≤ x.lots.0) where
  reduced_ranked : pairwise (before s) (x ∷ xs) ≡ true → pairwise (before s) (reduced (x ∷ xs) m) ≡ true
  reduced_ranked q = way (m == x.lots.0) where
    way : (t : Bool) → pairwise (before s) (cond t xs (less x m ∷ xs)) ≡ true
    way true = (and_parts (all (before s x) xs) (pairwise (before s) xs) q).1
    way false = rank_less s x m xs q

  reduced_offered : accepts s x.price.0 p ≡ true → offered s p (x ∷ xs) ≡ m + offered s p (reduced (x ∷ xs) m)
  reduced_offered a = way (m == x.lots.0) refl where
    way : (t : Bool) → (m == x.lots.0) ≡ t → offered s p (x ∷ xs) ≡ m + offered s p (cond t xs (less x m ∷ xs))
    way true e = let k = eqb-true m x.lots.0 e in rw a (omega arith)
    way false e = rw a (omega arith)

  reduced_shorter : length (reduced (x ∷ xs) m) ≤ length (x ∷ xs)
  reduced_shorter = way (m == x.lots.0) where
    way : (t : Bool) → length (cond t xs (less x m ∷ xs)) ≤ length (x ∷ xs)
    way true = omega arith
    way false = omega arith

  reduced_leaves : m ≡ x.lots.0 → length (reduced (x ∷ xs) m) + 1 ≡ length (x ∷ xs)
  reduced_leaves e = let k = eq-eqb m x.lots.0 e in rw k (omega arith)

  -- what is left of n lots is taken from what is left of the orders
  reduced_taken : (n : ℕ) → 0 < n → m ≤ n → taken n (x ∷ xs) ≡ taken (n - m) (reduced (x ∷ xs) m)
  reduced_taken n some u = way (m == x.lots.0) (nat_lt n x.lots.0) (n - m == 0) refl refl refl where
    z : nat_eq n 0 ≡ false
    z = ne_eqb n 0 (λ e. omega arith)

    same : (j k : ℕ) → j ≡ k → ◌≡◌ {A = List Order} (record { number = x.number; member = x.member; price = x.price; lots = record { 0 = j } } ∷ xs) (record { number = x.number; member = x.member; price = x.price; lots = record { 0 = k } } ∷ xs)
    same j k e = ap (λ i. record { number = x.number; member = x.member; price = x.price; lots = record { 0 = i } } ∷ xs) e

    way : (a b t : Bool) → (m == x.lots.0) ≡ a → nat_lt n x.lots.0 ≡ b → (n - m == 0) ≡ t → taken n (x ∷ xs) ≡ taken (n - m) (cond a xs (less x m ∷ xs))
    way true true t e f g = absurd (let i = eqb-true m x.lots.0 e in let j = ltb-true n x.lots.0 f in omega arith)
    way true false t e f g = let i = eqb-true m x.lots.0 e in simp (z, f) (ap (λ j. taken j xs) (let k : n - x.lots.0 ≡ n - m = omega arith in k))
    way false true true e f g = let i = eqb-true (n - m) 0 g in simp (z, f, g) (same (x.lots.0 - n) (x.lots.0 - m) (omega arith))
    way false false true e f g = absurd (let i = eqb-true (n - m) 0 g in let j = eqb-false m x.lots.0 e in let k = ltb-false n x.lots.0 f in omega arith)
    way false true false e f g =
        let j = ltb-true n x.lots.0 f in
        let k : ltb (n - m) (x.lots.0 - m) ≡ true = search rules in
        simp (z, f, g, k) (same (x.lots.0 - n) (x.lots.0 - m - (n - m)) (omega arith))
    way false false false e f g =
        let j = ltb-false n x.lots.0 f in
        let k : ltb (n - m) (x.lots.0 - m) ≡ false = search rules in
        simp (z, f, g, k) (ap (λ i. taken i xs) (let i : n - x.lots.0 ≡ n - m - (x.lots.0 - m) = omega arith in i))

pub some_order : (s : Side) (p n : ℕ) (xs : List Order) → 0 < n → n ≤ offered s p xs → 0 < length xs
some_order s p n [] some l = absurd (omega arith)
some_order s p n (x ∷ xs) some l = omega arith

-- the two orders in front pair
module _ (c : CommandNumber) (p : Price) (n : ℕ) (b : Order) (bs : List Order) (s : Order) (ss : List Order) (some : 0 < n) (f : Fillable p.0 n (b ∷ bs) (s ∷ ss)) where
  pub buyer_accepts : accepts Buy b.price.0 p.0 ≡ true
  buyer_accepts = front_accepts Buy p.0 b bs f.buys_ranked (omega (arith, f.bought))

  pub seller_accepts : accepts Sell s.price.0 p.0 ≡ true
  seller_accepts = front_accepts Sell p.0 s ss f.sells_ranked (omega (arith, f.sold))

  pub core : (m : ℕ) → m ≡ pair_lots n b s → Fillable p.0 (n - m) (reduced (b ∷ bs) m) (reduced (s ∷ ss) m)
  core m e =
      let lb : m ≤ b.lots.0 = omega arith in
      let ls : m ≤ s.lots.0 = omega arith in
      record {
        buys_ranked = reduced_ranked Buy p.0 b bs m lb f.buys_ranked;
        sells_ranked = reduced_ranked Sell p.0 s ss m ls f.sells_ranked;
        bought = omega (arith, f.bought, reduced_offered Buy p.0 b bs m lb buyer_accepts);
        sold = omega (arith, f.sold, reduced_offered Sell p.0 s ss m ls seller_accepts);
      }

  pub ended : (m : ℕ) → m ≡ pair_lots n b s → 0 < n - m → length (reduced (b ∷ bs) m) + length (reduced (s ∷ ss) m) < length (b ∷ bs) + length (s ∷ ss)
  ended m e l = way (m == b.lots.0) refl where
    lb : m ≤ b.lots.0
    lb = omega arith

    ls : m ≤ s.lots.0
    ls = omega arith

    way : (t : Bool) → (m == b.lots.0) ≡ t → length (reduced (b ∷ bs) m) + length (reduced (s ∷ ss) m) < length (b ∷ bs) + length (s ∷ ss)
    way true g = omega (arith, reduced_leaves Buy p.0 b bs m lb (eqb-true m b.lots.0 g), reduced_shorter Sell p.0 s ss m ls)
    way false g =
        let ne = eqb-false m b.lots.0 g in
        let es : m ≡ s.lots.0 = omega arith in
        omega (arith, reduced_leaves Sell p.0 s ss m ls es, reduced_shorter Buy p.0 b bs m lb)

  pub paired_front : (m : ℕ) → m ≡ pair_lots n b s → Paired c p n (b ∷ bs) (s ∷ ss) (reduced (b ∷ bs) m) (reduced (s ∷ ss) m) (fill c b s p m)
  paired_front m e =
      let lb : m ≤ b.lots.0 = omega arith in
      let ls : m ≤ s.lots.0 = omega arith in
      let z : nat_eq n 0 ≡ false = ne_eqb n 0 (λ i. omega arith) in
      record {
        rest = λ k. simp (z, sym e);
        buys = reduced_taken Buy p.0 b bs m lb n some (omega arith);
        sells = reduced_taken Sell p.0 s ss m ls n some (omega arith);
        fillable = core m e;
        within = omega arith;
        ends = ended m e;
        falls = way (nat_lt 0 (n - m)) refl;
      } where
        way : (t : Bool) → nat_lt 0 (n - m) ≡ t → n - m + (length (reduced (b ∷ bs) m) + length (reduced (s ∷ ss) m)) < n + (length (b ∷ bs) + length (s ∷ ss))
        way true g = omega (arith, ended m e (ltb-true 0 (n - m) g))
        way false g = let h = ltb-false 0 (n - m) g in
            omega (arith, reduced_shorter Buy p.0 b bs m (omega arith), reduced_shorter Sell p.0 s ss m (omega arith))

-- the code's two rows are the orders in front
pub paired_first : (c : CommandNumber) (p : Price) (n : ℕ) (bs ss bs' ss' : List Order) (b s d : Order) (v : Notice) → 0 < n → Fillable p.0 n bs ss → b ≡ slice_index_or bs 0 d → s ≡ slice_index_or ss 0 d →
    v ≡ pair c p n b s → bs' ≡ reduced bs v.lots.0 → ss' ≡ reduced ss v.lots.0 → Paired c p n bs ss bs' ss' v
paired_first c p n [] ss bs' ss' b s d v some f x y e g h = absurd (let k = f.bought in omega arith)
paired_first c p n (b ∷ bs) [] bs' ss' b₀ s d v some f x y e g h = absurd (let k = f.sold in omega arith)
paired_first c p n (b ∷ bs) (s ∷ ss) bs' ss' b₀ s₀ d v some f x y e g h =
    let w = paired_front c p n b bs s ss some f (pair_lots n b s) refl in
    let k : v ≡ pair c p n b s = e ∙ rw (x, y) in
    rw (g, h, k) w

pub has_front : (xs : List Order) (x d : Order) (m : ℕ) → 0 < length xs → x ≡ slice_index_or xs 0 d → m ≤ x.lots.0 → Has xs m
has_front [] x d m l e u = absurd (omega arith)
has_front (y ∷ ys) x d m l e u = let k : x.lots.0 ≡ y.lots.0 = ap (λ o. o.lots.0) e in omega arith

pairs_none : (c : CommandNumber) (p : Price) (k : ℕ) (bs ss : List Order) → pairs c p k 0 bs ss ≡ []
pairs_none c p zero bs ss = refl
pairs_none c p (suc k) [] ss = refl
pairs_none c p (suc k) (b ∷ bs) [] = refl
pairs_none c p (suc k) (b ∷ bs) (s ∷ ss) = refl

pub taken_none : (xs : List Order) → taken 0 xs ≡ xs
taken_none [] = refl
taken_none (x ∷ xs) = refl

pub pairs_few : (c : CommandNumber) (p : Price) (k n : ℕ) (bs ss : List Order) → length (pairs c p k n bs ss) ≤ k
pairs_few c p zero n bs ss = omega arith
pairs_few c p (suc k) n [] ss = omega arith
pairs_few c p (suc k) n (b ∷ bs) [] = omega arith
pairs_few c p (suc k) n (b ∷ bs) (s ∷ ss) = way (n == 0) (pairs_few c p k (n - pair_lots n b s) (reduced (b ∷ bs) (pair_lots n b s)) (reduced (s ∷ ss) (pair_lots n b s))) where
  way : (t : Bool) → length (pairs c p k (n - pair_lots n b s) (reduced (b ∷ bs) (pair_lots n b s)) (reduced (s ∷ ss) (pair_lots n b s))) ≤ k →
      length (cond t [] (pair c p n b s ∷ pairs c p k (n - pair_lots n b s) (reduced (b ∷ bs) (pair_lots n b s)) (reduced (s ∷ ss) (pair_lots n b s)))) ≤ suc k
  way true h = omega arith
  way false h = omega arith

-- the loop of a cross of n lots, over the list xs
module _ (c : CommandNumber) (p : Price) (n : ℕ) (bs ss : List Order) (xs : List Notice) where
  pub record Sofar (left : ℕ) (us ws : List Order) (ys : List Notice) (m : ℕ) : Type 0 where
    pub fillable : Fillable p.0 left us ws
    pub buys : taken left us ≡ taken n bs
    pub sells : taken left ws ≡ taken n ss
    pub fills : take m ys ++ pairs c p (length bs + length ss - m) left us ws ≡ pairs c p (length bs + length ss) n bs ss
    pub enough : 0 < left → length us + length ws + m ≤ length bs + length ss
    pub rest : drop m ys ≡ drop m xs
    pub long : length ys ≡ length xs
    pub room : length bs + length ss ≤ length xs
    pub inside : m ≤ length xs

  module _ {left m : ℕ} {us ws us' ws' : List Order} {ys : List Notice} {v : Notice} (some : 0 < left) (f : Sofar left us ws ys m) (g : Paired c p left us ws us' ws' v) where
    spare : m < length bs + length ss
    spare = omega (arith, f.enough some, some_order Buy p.0 left us some f.fillable.bought)

    whole : take m ys ++ v ∷ pairs c p (length bs + length ss - (m + 1)) (left - v.lots.0) us' ws' ≡ pairs c p (length bs + length ss) n bs ss
    whole =
        let l = spare in
        let e : length bs + length ss - m ≡ suc (length bs + length ss - (m + 1)) = omega arith in
        ap (λ z. take m ys ++ z) (sym (g.rest (length bs + length ss - (m + 1)))) ∙ ap (λ k. take m ys ++ pairs c p k left us ws) (sym e) ∙ f.fills

    pub sofar_room : m < length ys
    sofar_room = omega (arith, spare, f.long, f.room)

    pub sofar_more : Sofar (left - v.lots.0) us' ws' (slice_set ys m v) (m + 1)
    sofar_more =
        let lt = sofar_room in
        record {
          fillable = g.fillable;
          buys = sym g.buys ∙ f.buys;
          sells = sym g.sells ∙ f.sells;
          fills = rw (take_more_set, append_assoc) whole;
          enough = λ h. omega (arith, g.ends h, f.enough some);
          rest = drop-set-lt (m + 1) ys m v (omega arith) ∙ sym (drop-drop 1 m ys) ∙ ap (drop 1) f.rest ∙ drop-drop 1 m xs;
          long = simp length-set f.long;
          room = f.room;
          inside = omega arith;
        }

  pub sofar_all : {us ws : List Order} {ys : List Notice} {m : ℕ} {left : ℕ} → left ≡ 0 → Sofar left us ws ys m → PairedAll c p n bs ss xs us ws ys m
  sofar_all {us} {ws} {ys} {m} {left} z f =
      let le : m ≤ length ys = omega arith in
      let fills = pairs c p (length bs + length ss) n bs ss in
      let none : pairs c p (length bs + length ss - m) left us ws ≡ [] = ap (λ l. pairs c p (length bs + length ss - m) l us ws) z ∙ pairs_none c p (length bs + length ss - m) us ws in
      let all_of : take m ys ≡ fills = sym (append-nil (take m ys)) ∙ ap (λ w. take m ys ++ w) (sym none) ∙ f.fills in
      let number : m ≡ length fills = sym (length-take-le m ys le) ∙ ap length all_of in
      record {
        buys = sym (taken_none us) ∙ ap (λ l. taken l us) (sym z) ∙ f.buys;
        sells = sym (taken_none ws) ∙ ap (λ l. taken l ws) (sym z) ∙ f.sells;
        number = number;
        list = sym (take-append-drop m ys) ∙ ap (λ w. w ++ drop m ys) all_of ∙ ap (λ w. fills ++ w) f.rest ∙ ap (λ k. fills ++ drop k xs) number;
      }

  pub sofar_none : Fillable p.0 n bs ss → length bs + length ss ≤ length xs → Sofar n bs ss xs 0
  sofar_none f l = record { fillable = f; buys = refl; sells = refl; fills = ap (λ k. pairs c p k n bs ss) (let e : length bs + length ss - 0 ≡ length bs + length ss = omega arith in e); enough = λ h. omega arith; rest = refl; long = refl; room = l; inside = omega arith }
