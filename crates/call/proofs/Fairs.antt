-- A cross is fair.
use Rattle.std.proofs.Common.{◌≡◌, ℕ, zero, suc, ◌+◌, ◌-◌, ◌<◌, ◌≤◌, Bool, true, false, cond, eqb, ltb, ◌⊎◌, List, [], ◌∷◌, length, take, sym, refl, ap, ◌∙◌, subst, inl, inr, ⊎_elim, arith, rules, ltb-true, eqb-true, leb-true}
use borrow.Author.Tests.{eqb-false}
use Rattle.std.proofs.lemmas.Bool.{and_parts, and_from}
use Rattle.records.specs.Commands.{good}
use Rattle.records.specs.declared.numbers.CommandNumber.{CommandNumber}
use Rattle.records.specs.declared.numbers.Price.{Price}
use Rattle.records.specs.declared.commands.Side.TheVariants.{Buy, Sell}
use Rattle.records.specs.declared.commands.Command.{Command}
use Rattle.records.specs.declared.commands.Command.TheVariants.{Enter, Cancel, Cross}
use Rattle.records.specs.declared.notices.Notice.{Notice}
use Rattle.market.specs.declared.orders.Order.{Order}
use Rattle.market.specs.Lists.{all, In}
use Rattle.market.specs.Orders.{accepts, kept, less, reduced, fill, total, lots_in}
use Rattle.market.specs.Resting.{Resting, next}
use Rattle.market.specs.Steps.{Taken}
use Rattle.market.proofs.ListLaws.{all_weaken}
use Rattle.market.proofs.Sounds.{sound_fact}
use Rattle.market.proofs.StepLaws.{stepped_acts, taken_tells}
use Rattle.call.specs.Clearing.{at_price, clearing}
use Rattle.call.specs.Crossing.{taken, pair_lots, pair, pairs, Fillable}
use Rattle.call.specs.Fairness.{Rests, matched_at, Idle, FairPair, FilledInRank, Crossing, Fair}
use Rattle.call.specs.Steps.{Valid, crossed, acted, call_step}
use Rattle.call.specs.Clearings.{offered_within, no_more, lower_fewer, clearing_best, clearing_from, clearing_matched}
use Rattle.call.specs.Pairings.{some_order, buyer_accepts, seller_accepts, core, ended}
use Rattle.call.specs.Sounds.{taken_ind, taken_lots, fillable}
use Rattle.call.specs.Laws.{crossed_few}

-- what holds of the fills of every cross that can be filled, by the ways that it goes
module _ (c : CommandNumber) (p : Price) (P : ℕ → List Order → List Order → List Notice → Type 0)
    (done : (bs ss : List Order) → P 0 bs ss [])
    (more : (n : ℕ) (b : Order) (bs : List Order) (s : Order) (ss : List Order) (m : ℕ) (ns : List Notice) → 0 < n → m ≡ pair_lots n b s → accepts Buy b.price.0 p.0 ≡ true → accepts Sell s.price.0 p.0 ≡ true →
    P (n - m) (reduced (b ∷ bs) m) (reduced (s ∷ ss) m) ns → P n (b ∷ bs) (s ∷ ss) (fill c b s p m ∷ ns)) where
  nothing_left : (n : ℕ) (bs ss : List Order) → n ≡ 0 → P n bs ss []
  nothing_left n bs ss e = subst (λ k. P k bs ss []) (sym e) (done bs ss)

  pub pairs_ind : (k n : ℕ) (bs ss : List Order) → Fillable p.0 n bs ss → (0 < n → length bs + length ss ≤ k) → P n bs ss (pairs c p k n bs ss)
  pairs_ind zero n bs ss f l = way (ltb 0 n) refl where
    way : (t : Bool) → ltb 0 n ≡ t → P n bs ss []
    way true e = let g = ltb-true 0 n e in absurd (omega (arith, l g, some_order Buy p.0 n bs g f.bought))
    way false e = nothing_left n bs ss (search rules)
  pairs_ind (suc k) n [] ss f l = nothing_left n [] ss (omega (arith, f.bought))
  pairs_ind (suc k) n (b ∷ bs) [] f l = nothing_left n (b ∷ bs) [] (omega (arith, f.sold))
  pairs_ind (suc k) n (b ∷ bs) (s ∷ ss) f l = way (eqb n 0) refl (λ some.
      pairs_ind k (n - pair_lots n b s) (reduced (b ∷ bs) (pair_lots n b s)) (reduced (s ∷ ss) (pair_lots n b s)) (core c p n b bs s ss some f (pair_lots n b s) refl)
      (λ h. omega (arith, ended c p n b bs s ss some f (pair_lots n b s) refl h, l some))) where
        way : (t : Bool) → eqb n 0 ≡ t →
            (0 < n → P (n - pair_lots n b s) (reduced (b ∷ bs) (pair_lots n b s)) (reduced (s ∷ ss) (pair_lots n b s)) (pairs c p k (n - pair_lots n b s) (reduced (b ∷ bs) (pair_lots n b s)) (reduced (s ∷ ss) (pair_lots n b s)))) →
            P n (b ∷ bs) (s ∷ ss) (cond t [] (pair c p n b s ∷ pairs c p k (n - pair_lots n b s) (reduced (b ∷ bs) (pair_lots n b s)) (reduced (s ∷ ss) (pair_lots n b s))))
        way true e h = nothing_left n (b ∷ bs) (s ∷ ss) (eqb-true n 0 e)
        way false e h =
            let ne = eqb-false n 0 e in
            let some : 0 < n = omega arith in
            more n b bs s ss (pair_lots n b s) _ some refl (buyer_accepts c p n b bs s ss some f) (seller_accepts c p n b bs s ss some f) (h some)

-- all lots are filled
pairs_total : (c : CommandNumber) (p : Price) (k n : ℕ) (bs ss : List Order) → Fillable p.0 n bs ss → (0 < n → length bs + length ss ≤ k) → total (pairs c p k n bs ss) ≡ n
pairs_total c p = pairs_ind c p (λ n bs ss ns. total ns ≡ n) (λ bs ss. refl) (λ n b bs s ss m ns some e x y h. omega arith)

some_lots : Order → Bool
some_lots r = ltb 0 r.lots.0

kept_some : (n : ℕ) (r : Order) → kept n r ≡ true → some_lots r ≡ true
unfolding some_lots
kept_some n r h = search rules

reduced_some : (x : Order) (xs : List Order) (m : ℕ) → m ≤ x.lots.0 → all some_lots (x ∷ xs) ≡ true → all some_lots (reduced (x ∷ xs) m) ≡ true
unfolding some_lots
reduced_some x xs m l h = way (eqb m x.lots.0) refl where
  way : (t : Bool) → eqb m x.lots.0 ≡ t → all some_lots (cond t xs (less x m ∷ xs)) ≡ true
  way true e = (and_parts (some_lots x) (all some_lots xs) h).1
  way false e =
      let ne = eqb-false m x.lots.0 e in
      let k : ltb 0 (x.lots.0 - m) ≡ true = search rules in
      and_from (some_lots (less x m)) (all some_lots xs) k (and_parts (some_lots x) (all some_lots xs) h).1

-- an order that is left rested before, or is what is left of the first
in_reduced : (x : Order) (xs : List Order) (m : ℕ) (q : Order) → In q (reduced (x ∷ xs) m) → In q xs ⊎ (q ≡ less x m)
in_reduced x xs m q = way (eqb m x.lots.0) where
  way : (t : Bool) → In q (cond t xs (less x m ∷ xs)) → In q xs ⊎ (q ≡ less x m)
  way true i = inl i
  way false i = ⊎_elim (λ e. inr e) (λ j. inl j) i

-- a fill of what is left of the orders is a fill of the orders
fair_before : (c : CommandNumber) (p : Price) (b : Order) (bs : List Order) (s : Order) (ss : List Order) (m : ℕ) (v : Notice) →
    FairPair c p (reduced (b ∷ bs) m) (reduced (s ∷ ss) m) v → FairPair c p (b ∷ bs) (s ∷ ss) v
fair_before c p b bs s ss m v f = sell_before (buy_before f) where
  buy_before : FairPair c p (reduced (b ∷ bs) m) (reduced (s ∷ ss) m) v → FairPair c p (b ∷ bs) (reduced (s ∷ ss) m) v
  buy_before f = ⊎_elim
      (λ i. record { buy = f.buy; sell = f.sell; bought = inr i; sold = f.sold; told = f.told; buyer = f.buyer; seller = f.seller; some = f.some; of_buy = f.of_buy; of_sell = f.of_sell })
      (λ e. record {
        buy = b;
        sell = f.sell;
        bought = inl refl;
        sold = f.sold;
        told = f.told ∙ ap (λ q. fill c q f.sell p v.lots.0) e;
        buyer = subst (λ q. p.0 ≤ q.price.0) e f.buyer;
        seller = f.seller;
        some = f.some;
        of_buy = let k = subst (λ q. v.lots.0 ≤ q.lots.0) e f.of_buy in omega arith;
        of_sell = f.of_sell;
      })
      (in_reduced b bs m f.buy f.bought)

  sell_before : FairPair c p (b ∷ bs) (reduced (s ∷ ss) m) v → FairPair c p (b ∷ bs) (s ∷ ss) v
  sell_before f = ⊎_elim
      (λ i. record { buy = f.buy; sell = f.sell; bought = f.bought; sold = inr i; told = f.told; buyer = f.buyer; seller = f.seller; some = f.some; of_buy = f.of_buy; of_sell = f.of_sell })
      (λ e. record {
        buy = f.buy;
        sell = s;
        bought = f.bought;
        sold = inl refl;
        told = f.told ∙ ap (λ q. fill c f.buy q p v.lots.0) e;
        buyer = f.buyer;
        seller = subst (λ q. q.price.0 ≤ p.0) e f.seller;
        some = f.some;
        of_buy = f.of_buy;
        of_sell = let k = subst (λ q. v.lots.0 ≤ q.lots.0) e f.of_sell in omega arith;
      })
      (in_reduced s ss m f.sell f.sold)

fair_front : (c : CommandNumber) (p : Price) (n : ℕ) (b : Order) (bs : List Order) (s : Order) (ss : List Order) (m : ℕ) → 0 < n → m ≡ pair_lots n b s → accepts Buy b.price.0 p.0 ≡ true → accepts Sell s.price.0 p.0 ≡ true →
    0 < b.lots.0 → 0 < s.lots.0 → FairPair c p (b ∷ bs) (s ∷ ss) (fill c b s p m)
fair_front c p n b bs s ss m some e x y i j = record {
  buy = b;
  sell = s;
  bought = inl refl;
  sold = inl refl;
  told = refl;
  buyer = leb-true p.0 b.price.0 x;
  seller = leb-true s.price.0 p.0 y;
  some = omega arith;
  of_buy = omega arith;
  of_sell = omega arith;
}

pairs_fair : (c : CommandNumber) (p : Price) (k n : ℕ) (bs ss : List Order) → Fillable p.0 n bs ss → (0 < n → length bs + length ss ≤ k) → all some_lots bs ≡ true → all some_lots ss ≡ true →
    (v : Notice) → In v (pairs c p k n bs ss) → FairPair c p bs ss v
unfolding some_lots
pairs_fair c p = pairs_ind c p (λ n bs ss ns. all some_lots bs ≡ true → all some_lots ss ≡ true → (v : Notice) → In v ns → FairPair c p bs ss v)
    (λ bs ss x y v i. absurd i)
    (λ n b bs s ss m ns some e ab sb h x y v i.
    let i₁ = and_parts (some_lots b) (all some_lots bs) x in
    let i₂ = and_parts (some_lots s) (all some_lots ss) y in
    let lb : m ≤ b.lots.0 = omega arith in
    let ls : m ≤ s.lots.0 = omega arith in
    ⊎_elim
    (λ k. subst (FairPair c p (b ∷ bs) (s ∷ ss)) (sym k) (fair_front c p n b bs s ss m some e ab sb (ltb-true 0 b.lots.0 i₁.0) (ltb-true 0 s.lots.0 i₂.0)))
    (λ j. fair_before c p b bs s ss m v (h (reduced_some b bs m lb x) (reduced_some s ss m ls y) v j)) i)

-- lots are taken in rank order
taken_in_rank : (n : ℕ) (xs : List Order) → n ≤ lots_in xs → FilledInRank n xs (taken n xs)
taken_in_rank = taken_ind (λ n xs ys. n ≤ lots_in xs → FilledInRank n xs ys)
    (λ n q. record { whole = []; others = []; part = 0; split = refl; adds = omega arith; left = inl (refl, refl) })
    (λ xs q. record { whole = []; others = xs; part = 0; split = refl; adds = omega arith; left = inl (refl, refl) })
    (λ n x xs l q. record { whole = []; others = x ∷ xs; part = n; split = refl; adds = omega arith; left = inr (l, refl) })
    (λ n x xs ys l k q.
    let f = k (omega arith) in
    record { whole = x ∷ f.whole; others = f.others; part = f.part; split = ap (λ zs. x ∷ zs) f.split; adds = omega (arith, f.adds); left = f.left })

-- a cross
module _ (h : Resting) (v : Valid h) where
  crossed_fair : Idle h (crossed h).0 (crossed h).1 ⊎ Crossing h (crossed h).0 (crossed h).1
  crossed_fair = way (eqb (clearing h.buys h.sells).lots.0 0) refl where
    most : (o : Order) → Rests h o → matched_at h o.price.0 ≤ (clearing h.buys h.sells).lots.0
    most o i = no_more (at_price h.buys h.sells o.price) _ (clearing_best h.buys h.sells o i)

    way : (t : Bool) → eqb (clearing h.buys h.sells).lots.0 0 ≡ t → Idle h (crossed h).0 (crossed h).1 ⊎ Crossing h (crossed h).0 (crossed h).1
    way true e =
        let z = eqb-true (clearing h.buys h.sells).lots.0 0 e in
        inl (record { none = λ o i. omega (arith, most o i); stays = simp e; silent = simp e })
    way false e =
        let ne = eqb-false (clearing h.buys h.sells).lots.0 0 e in
        let n = (clearing h.buys h.sells).lots.0 in
        let p = (clearing h.buys h.sells).price in
        let f = sound_fact h v in
        let g = fillable h v in
        let from = clearing_from h.buys h.sells (omega arith) in
        let few = crossed_few h (clearing h.buys h.sells) v in
        inr (record {
          price = p;
          lots = n;
          resting = (from.0, from.1, ap (λ c. c.price) (sym from.2));
          matching = clearing_matched h.buys h.sells (omega arith);
          some = omega arith;
          most = most;
          lowest = λ o i l. lower_fewer (at_price h.buys h.sells o.price) _ (clearing_best h.buys h.sells o i) l;
          filled = simp e (pairs_total (next h) p _ n h.buys h.sells g (λ l. omega arith));
          bought = simp e (taken_lots n h.buys (omega (arith, g.bought, offered_within Buy p.0 h.buys)));
          sold = simp e (taken_lots n h.sells (omega (arith, g.sold, offered_within Sell p.0 h.sells)));
          buys_in_rank = simp e (taken_in_rank n h.buys (omega (arith, g.bought, offered_within Buy p.0 h.buys)));
          sells_in_rank = simp e (taken_in_rank n h.sells (omega (arith, g.sold, offered_within Sell p.0 h.sells)));
          told = simp e (pairs_fair (next h) p _ n h.buys h.sells g (λ l. omega arith) (all_weaken (kept h.last) some_lots h.buys (kept_some h.last) f.buys.ranged) (all_weaken (kept h.last) some_lots h.sells (kept_some h.last) f.sells.ranged));
          few = few;
        })

pub fair : (h : Resting) (c : Command) → Valid h → Fair h c (call_step h c).0 (call_step h c).1
fair h (Enter m s p q) v = tt
fair h (Cancel m n) v = tt
fair h Cross v = λ l. let e : ltb h.last 1_000_000_000_000 ≡ true = search rules in simp e (crossed_fair h v)

-- and so is what is done at a good command, as it is left in the lent list
pub acted_fair : (h : Resting) (c : Command) {xs : List Notice} {t : Resting} {ys : List Notice} {n : ℕ} → Valid h → h.last < 1_000_000_000_000 → good c ≡ true → Taken (acted h c) xs t ys n → Fair h c t (take n ys)
acted_fair h c v l g a = taken_tells (Fair h c) (subst (λ t. Fair h c t.0 t.1) (stepped_acts acted h c l g) (fair h c v)) a
