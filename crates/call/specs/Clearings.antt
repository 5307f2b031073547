-- The sum of a side's lots, and the best of the resting prices, one order after another.
use Rattle.std.specs.Prelude.{◌≡◌, ℕ, ◌+◌, ◌<◌, ◌≤◌, Bool, true, false, cond, ◌⊎◌, List, [], ◌∷◌, length, drop, slice_index_or, refl, sum_by}
use Rattle.std.proofs.Common.{sym, ap, subst, ◌∙◌, inl, inr, ⊎_elim, arith, rules}
use Rattle.std.proofs.lemmas.List.{drop_more, drop_all}
use Rattle.std.proofs.lemmas.List.Sums.{sum_by-cons}
use Rattle.records.specs.declared.commands.Side.{Side}
use Rattle.market.specs.declared.orders.Order.{Order}
use Rattle.market.specs.Lists.{In}
use Rattle.market.specs.Orders.{accepts, lots_in}
use Rattle.call.specs.declared.clearing.Clearing.{Clearing}
use Rattle.call.specs.Clearing.{offered, at_price, matched, preferred, best, no_clearing, clearing, lots_at, FewLots}

pub offered_within : (s : Side) (p : ℕ) (xs : List Order) → offered s p xs ≤ lots_in xs
offered_within s p [] = omega arith
offered_within s p (x ∷ xs) = way (accepts s x.price.0 p) (offered_within s p xs) where
  way : (t : Bool) → offered s p xs ≤ lots_in xs → cond t x.lots.0 0 + offered s p xs ≤ x.lots.0 + lots_in xs
  way true h = omega arith
  way false h = omega arith

-- the lots t of the first i orders, and those to come
pub record Summed (s : Side) (p : ℕ) (xs : List Order) (i t : ℕ) : Type 0 where
  pub so : t + offered s p (drop i xs) ≡ offered s p xs

-- as a sum
pub offered_sum : (s : Side) (p : ℕ) (xs : List Order) → sum_by (lots_at s p) xs ≡ offered s p xs
offered_sum s p [] = refl
offered_sum s p (x ∷ xs) = sum_by-cons (lots_at s p) x xs ∙ ap (λ n. lots_at s p x + n) (offered_sum s p xs)

module _ {s : Side} {p : ℕ} {xs : List Order} {i t : ℕ} (f : Summed s p xs i t) (d : Order) (l : i < length xs) where
  pub summed_yes : accepts s (slice_index_or xs i d).price.0 p ≡ true → Summed s p xs (i + 1) (t + (slice_index_or xs i d).lots.0)
  summed_yes e =
      let k : t + ((slice_index_or xs i d).lots.0 + offered s p (drop (i + 1) xs)) ≡ offered s p xs = rw (drop_more xs i d l, e) at f.so in
      record { so = omega arith }

  pub summed_no : accepts s (slice_index_or xs i d).price.0 p ≡ false → Summed s p xs (i + 1) t
  summed_no e =
      let k : t + (0 + offered s p (drop (i + 1) xs)) ≡ offered s p xs = rw (drop_more xs i d l, e) at f.so in
      record { so = omega arith }

  pub summed_fits : accepts s (slice_index_or xs i d).price.0 p ≡ true → lots_in xs < 4_294_967_296 → t + (slice_index_or xs i d).lots.0 < 4_294_967_296
  summed_fits e few = omega (arith, (summed_yes e).so, offered_within s p xs)

pub summed_all : {s : Side} {p : ℕ} {xs : List Order} {i t : ℕ} → Summed s p xs i t → length xs ≤ i → t ≡ offered s p xs
summed_all {s} {p} {xs} {i} {t} f l =
    let k : t + 0 ≡ offered s p xs = rw (drop_all i xs l) at f.so in
    omega arith

-- the best of the first i orders' prices
pub record Bested (buys sells : List Order) (c : Clearing) (xs : List Order) (i : ℕ) (b : Clearing) : Type 0 where
  pub so : best buys sells b (drop i xs) ≡ best buys sells c xs

module _ {buys sells : List Order} {c : Clearing} {xs : List Order} {i : ℕ} {b : Clearing} (f : Bested buys sells c xs i b) (d : Order) (l : i < length xs) where
  step : (t : Bool) → preferred (at_price buys sells (slice_index_or xs i d).price) b ≡ t → best buys sells (cond t (at_price buys sells (slice_index_or xs i d).price) b) (drop (i + 1) xs) ≡ best buys sells c xs
  step t e = subst (λ t. best buys sells (cond t (at_price buys sells (slice_index_or xs i d).price) b) (drop (i + 1) xs) ≡ best buys sells c xs) e (ap (best buys sells b) (sym (drop_more xs i d l)) ∙ f.so)

  pub bested_yes : {x y : Clearing} → y ≡ x → x ≡ at_price buys sells (slice_index_or xs i d).price → preferred x b ≡ true → Bested buys sells c xs (i + 1) y
  bested_yes {x} {y} k h e = subst (Bested buys sells c xs (i + 1)) (sym (k ∙ h)) (record { so = step true (subst (λ z. preferred z b ≡ true) h e) })

  pub bested_no : {x y : Clearing} → y ≡ b → x ≡ at_price buys sells (slice_index_or xs i d).price → preferred x b ≡ false → Bested buys sells c xs (i + 1) y
  bested_no {x} {y} k h e = subst (Bested buys sells c xs (i + 1)) (sym k) (record { so = step false (subst (λ z. preferred z b ≡ false) h e) })

pub bested_all : {buys sells : List Order} {c : Clearing} {xs : List Order} {i : ℕ} {b : Clearing} → Bested buys sells c xs i b → length xs ≤ i → b ≡ best buys sells c xs
bested_all {buys} {sells} {c} {xs} {i} {b} f l = rw (drop_all i xs l) at f.so

pub offered_fits : (s : Side) (p : ℕ) (xs : List Order) → FewLots xs → sum_by (lots_at s p) xs < 4_294_967_296
offered_fits s p xs f = omega (arith, offered_sum s p xs, offered_within s p xs)

-- what is taken is the best of all that came by
over_taken : (d c b : Clearing) → preferred d c ≡ true → preferred d b ≡ false → preferred c b ≡ false
over_taken d c b h k = search rules

over_kept : (d c b : Clearing) → preferred d c ≡ false → preferred c b ≡ false → preferred d b ≡ false
over_kept d c b h k = search rules

not_itself : (c : Clearing) → preferred c c ≡ false
not_itself c = search rules

pub record Best (buys sells : List Order) (c : Clearing) (xs : List Order) (b : Clearing) : Type 0 where
  pub over : preferred c b ≡ false
  pub over_all : (x : Order) → In x xs → preferred (at_price buys sells x.price) b ≡ false
  pub from : (b ≡ c) ⊎ ((x : Order) × In x xs × (b ≡ at_price buys sells x.price))

pub best_is : (buys sells : List Order) (c : Clearing) (xs : List Order) → Best buys sells c xs (best buys sells c xs)
best_is buys sells c [] = record { over = not_itself c; over_all = λ x i. absurd i; from = inl refl }
best_is buys sells c (x ∷ xs) = way (preferred (at_price buys sells x.price) c) refl (best_is buys sells (at_price buys sells x.price) xs) (best_is buys sells c xs) where
  way : (t : Bool) → preferred (at_price buys sells x.price) c ≡ t →
      Best buys sells (at_price buys sells x.price) xs (best buys sells (at_price buys sells x.price) xs) → Best buys sells c xs (best buys sells c xs) →
      Best buys sells c (x ∷ xs) (best buys sells (cond t (at_price buys sells x.price) c) xs)
  way true e f g = record {
    over = over_taken (at_price buys sells x.price) c _ e f.over;
    over_all = λ y i. ⊎_elim (λ k. subst (λ z. preferred (at_price buys sells z.price) (best buys sells (at_price buys sells x.price) xs) ≡ false) (sym k) f.over) (λ j. f.over_all y j) i;
    from = ⊎_elim (λ k. inr (x, inl refl, k)) (λ k. inr (k.0, inr k.1, k.2)) f.from;
  }
  way false e f g = record {
    over = g.over;
    over_all = λ y i. ⊎_elim (λ k. subst (λ z. preferred (at_price buys sells z.price) (best buys sells c xs) ≡ false) (sym k) (over_kept (at_price buys sells x.price) c _ e g.over)) (λ j. g.over_all y j) i;
    from = ⊎_elim (λ k. inl k) (λ k. inr (k.0, inr k.1, k.2)) g.from;
  }

-- of two candidates the one that is not preferred matches no more, and fewer where its price is lower
pub no_more : (c d : Clearing) → preferred c d ≡ false → c.lots.0 ≤ d.lots.0
no_more c d h = search rules

pub lower_fewer : (c d : Clearing) → preferred c d ≡ false → c.price.0 < d.price.0 → c.lots.0 < d.lots.0
lower_fewer c d h l = search rules

-- the clearing price is preferred over every resting price, and is one where it matches any lots
module _ (buys sells : List Order) where
  pub clearing_best : (x : Order) → In x buys ⊎ In x sells → preferred (at_price buys sells x.price) (clearing buys sells) ≡ false
  clearing_best x i =
      let f = best_is buys sells no_clearing buys in
      let g = best_is buys sells (best buys sells no_clearing buys) sells in
      ⊎_elim (λ j. over_kept (at_price buys sells x.price) _ _ (f.over_all x j) g.over) (λ j. g.over_all x j) i

  pub clearing_from : 0 < (clearing buys sells).lots.0 → (x : Order) × (In x buys ⊎ In x sells) × (clearing buys sells ≡ at_price buys sells x.price)
  clearing_from l =
      let f = best_is buys sells no_clearing buys in
      let g = best_is buys sells (best buys sells no_clearing buys) sells in
      ⊎_elim
      (λ e. ⊎_elim (λ k. absurd (none (e ∙ k) l)) (λ k. (k.0, inl k.1, e ∙ k.2)) f.from)
      (λ k. (k.0, inr k.1, k.2)) g.from where
        none : clearing buys sells ≡ no_clearing → 0 < (clearing buys sells).lots.0 → ⊥
        none e l = let z : (clearing buys sells).lots.0 ≡ 0 = ap (λ c. c.lots.0) e in omega arith

  pub clearing_matched : 0 < (clearing buys sells).lots.0 → (clearing buys sells).lots.0 ≡ matched buys sells (clearing buys sells).price.0
  clearing_matched l =
      let k = (clearing_from l).2 in
      ap (λ c. c.lots.0) k ∙ ap (λ c. matched buys sells c.price.0) (sym k)
