-- Commands keep the call auction sound.
use Rattle.std.specs.Prelude.{◌≡◌, ℕ, ◌+◌, ◌-◌, ◌*◌, ◌<◌, ◌≤◌, Bool, true, false, cond, List, [], ◌∷◌, length, ◌==◌, ◌≢◌, nat_lt, refl}
use Rattle.std.proofs.Common.{sym, ap, subst, ◌∙◌, arith, rules, ltb-true, ltb-false, eqb-true, eq-eqb, ne_eqb}
use Rattle.std.proofs.lemmas.Bool.{and_parts, and_from}
use Rattle.records.specs.declared.numbers.CommandNumber.{CommandNumber}
use Rattle.records.specs.declared.numbers.Member.{Member}
use Rattle.records.specs.declared.numbers.Price.{Price}
use Rattle.records.specs.declared.commands.Side.{Side}
use Rattle.records.specs.declared.commands.Side.TheVariants.{Buy, Sell}
use Rattle.records.specs.declared.notices.Notice.{Notice}
use Rattle.market.specs.declared.orders.Order.{Order}
use Rattle.market.specs.Lists.{all, across, placed}
use Rattle.market.specs.Orders.{before, differ, kept, less, rested, lots_in}
use Rattle.market.specs.Resting.{Resting, next, passed, withdrawn}
use Rattle.market.specs.Steps.{Taken}
use Rattle.market.proofs.ListLaws.{all_weaken, all_placed, across_swap}
use Rattle.market.proofs.Sounds.{SideSound, sound_fact, sound_test, side_up, side_tail, side_less, side_placed, all_new, differ_swap, passed_sound, withdrawn_sound}
use Rattle.call.specs.declared.clearing.Clearing.{Clearing}
use Rattle.call.specs.Clearing.{offered, clearing, FewLots, Summable}
use Rattle.call.specs.Crossing.{taken, Fillable, PairedAll}
use Rattle.call.specs.Steps.{Valid, entered, crossed_at, crossed}
use Rattle.call.specs.Clearings.{clearing_matched}

-- what holds of lots taken from orders, by the ways that it goes
module _ (P : ℕ → List Order → List Order → Type 0)
    (none : (n : ℕ) → P n [] [])
    (stop : (xs : List Order) → P 0 xs xs)
    (part : (n : ℕ) (x : Order) (xs : List Order) → n < x.lots.0 → P n (x ∷ xs) (less x n ∷ xs))
    (more : (n : ℕ) (x : Order) (xs ys : List Order) → x.lots.0 ≤ n → P (n - x.lots.0) xs ys → P n (x ∷ xs) ys) where
  pub taken_ind : (n : ℕ) (xs : List Order) → P n xs (taken n xs)
  taken_ind n [] = none n
  taken_ind n (x ∷ xs) = way (n == 0) (nat_lt n x.lots.0) refl refl (taken_ind (n - x.lots.0) xs) where
    way : (a b : Bool) → (n == 0) ≡ a → nat_lt n x.lots.0 ≡ b → P (n - x.lots.0) xs (taken (n - x.lots.0) xs) →
        P n (x ∷ xs) (cond a (x ∷ xs) (cond b (less x n ∷ xs) (taken (n - x.lots.0) xs)))
    way true b e f h = subst (λ k. P k (x ∷ xs) (x ∷ xs)) (sym (eqb-true n 0 e)) (stop (x ∷ xs))
    way false true e f h = part n x xs (ltb-true n x.lots.0 f)
    way false false e f h = more n x xs _ (ltb-false n x.lots.0 f) h

taken_sound : (s : Side) (j n : ℕ) (xs : List Order) → SideSound s j xs → SideSound s j (taken n xs)
taken_sound s j = taken_ind (λ n xs ys. SideSound s j xs → SideSound s j ys) (λ n q. q) (λ xs q. q) (λ n x xs l q. side_less n l q) (λ n x xs ys l k q. k (side_tail q))

taken_all : (p : Order → Bool) → ((x : Order) (n : ℕ) → p x ≡ true → p (less x n) ≡ true) → (n : ℕ) (xs : List Order) → all p xs ≡ true → all p (taken n xs) ≡ true
taken_all p f = taken_ind (λ n xs ys. all p xs ≡ true → all p ys ≡ true) (λ n q. q) (λ xs q. q)
    (λ n x xs l q. let a = and_parts (p x) (all p xs) q in and_from (p (less x n)) (all p xs) (f x n a.0) a.1)
    (λ n x xs ys l k q. k (and_parts (p x) (all p xs) q).1)

pub taken_lots : (n : ℕ) (xs : List Order) → n ≤ lots_in xs → lots_in xs ≡ n + lots_in (taken n xs)
taken_lots = taken_ind (λ n xs ys. n ≤ lots_in xs → lots_in xs ≡ n + lots_in ys) (λ n q. omega arith) (λ xs q. omega arith)
    (λ n x xs l q. omega arith) (λ n x xs ys l k q. let i = k (omega arith) in omega arith)

taken_separate : (n m : ℕ) (xs ys : List Order) → across differ xs ys ≡ true → across differ (taken n xs) (taken m ys) ≡ true
taken_separate n m xs ys h =
    taken_all (λ x. all (differ x) (taken m ys)) (λ x k e. e) n xs
    (all_weaken (λ x. all (differ x) ys) (λ x. all (differ x) (taken m ys)) xs (λ x e. taken_all (differ x) (λ y k i. i) m ys e) h)

-- sums of lots
kept_lots : (n : ℕ) (x : Order) → kept n x ≡ true → x.lots.0 ≤ 1_000_000
kept_lots n x h = search rules

bounded_lots : (n : ℕ) (xs : List Order) → all (kept n) xs ≡ true → lots_in xs ≤ 1_000_000 * length xs
bounded_lots n [] h = omega arith
bounded_lots n (x ∷ xs) h =
    let a = and_parts (kept n x) (all (kept n) xs) h in
    omega (arith, kept_lots n x a.0, bounded_lots n xs a.1)

pub summable : (h : Resting) → Valid h → Summable h.buys h.sells
summable h v =
    let f = sound_fact h v in
    (omega (arith, bounded_lots h.last h.buys f.buys.ranged, f.buys.few), omega (arith, bounded_lots h.last h.sells f.sells.ranged, f.sells.few))

-- an order comes to rest
module _ (s : Side) (o : Order) (n : ℕ) (xs : List Order) (new : o.number.0 ≡ n + 1) (k : kept (n + 1) o ≡ true) (f : SideSound s n xs) where
  rested_ind : (P : List Order → Type 0) → P xs → (length xs < 32 → P (placed (before s) o xs)) → P (rested s o xs).0
  rested_ind P h g = way (nat_lt (length xs) 32) refl where
    way : (t : Bool) → nat_lt (length xs) 32 ≡ t → P (rested s o xs).0
    way true e = simp e (g (ltb-true (length xs) 32 e))
    way false e = simp e h

  rested_sound : SideSound s (n + 1) (rested s o xs).0
  rested_sound = rested_ind (SideSound s (n + 1)) (side_up (n + 1) (omega arith) f) (λ l. side_placed (n + 1) o (omega arith) (omega arith) k l f)

  rested_separate : (ys : List Order) → all (kept n) ys ≡ true → across differ xs ys ≡ true → across differ (rested s o xs).0 ys ≡ true
  rested_separate ys g h = rested_ind (λ zs. across differ zs ys ≡ true) h (λ l. all_placed (before s) o (λ x. all (differ x) ys) xs (all_new n o (omega arith) ys g) h)

pub entered_valid : (h : Resting) (s : Side) (o : Order) → o.number.0 ≡ h.last + 1 → kept (h.last + 1) o ≡ true → h.last < 1_000_000_000_000 → Valid h → Valid (entered h s o).0
entered_valid h Buy o new k l v =
    let f = sound_fact h v in
    sound_test (entered h Buy o).0 (record {
      bounded = omega arith;
      buys = rested_sound Buy o h.last h.buys new k f.buys;
      sells = side_up (h.last + 1) (omega arith) f.sells;
      separate = rested_separate Buy o h.last h.buys new k f.buys h.sells f.sells.ranged f.separate;
    })
entered_valid h Sell o new k l v =
    let f = sound_fact h v in
    sound_test (entered h Sell o).0 (record {
      bounded = omega arith;
      buys = side_up (h.last + 1) (omega arith) f.buys;
      sells = rested_sound Sell o h.last h.sells new k f.sells;
      separate = across_swap differ differ differ_swap (rested Sell o h.sells).0 h.buys
          (rested_separate Sell o h.last h.sells new k f.sells h.buys f.buys.ranged (across_swap differ differ differ_swap h.buys h.sells f.separate));
    })

-- the sides cross
pub taken_valid : (h : Resting) (n : ℕ) → h.last < 1_000_000_000_000 → Valid h → Valid (record { last = h.last + 1; buys = taken n h.buys; sells = taken n h.sells })
taken_valid h n l v =
    let f = sound_fact h v in
    sound_test (record { last = h.last + 1; buys = taken n h.buys; sells = taken n h.sells }) (record {
      bounded = omega arith;
      buys = side_up (h.last + 1) (omega arith) (taken_sound Buy h.last n h.buys f.buys);
      sells = side_up (h.last + 1) (omega arith) (taken_sound Sell h.last n h.sells f.sells);
      separate = taken_separate n n h.buys h.sells f.separate;
    })

pub fillable : (h : Resting) → Valid h → Fillable (clearing h.buys h.sells).price.0 (clearing h.buys h.sells).lots.0 h.buys h.sells
fillable h v =
    let f = sound_fact h v in
    record {
      buys_ranked = f.buys.ranked;
      sells_ranked = f.sells.ranked;
      bought = within Buy h.buys (λ l. omega (arith, clearing_matched h.buys h.sells l));
      sold = within Sell h.sells (λ l. omega (arith, clearing_matched h.buys h.sells l));
    } where
      within : (s : Side) (xs : List Order) → (0 < (clearing h.buys h.sells).lots.0 → (clearing h.buys h.sells).lots.0 ≤ offered s (clearing h.buys h.sells).price.0 xs) →
          (clearing h.buys h.sells).lots.0 ≤ offered s (clearing h.buys h.sells).price.0 xs
      within s xs k = way (nat_lt 0 (clearing h.buys h.sells).lots.0) refl where
        way : (t : Bool) → nat_lt 0 (clearing h.buys h.sells).lots.0 ≡ t → (clearing h.buys h.sells).lots.0 ≤ offered s (clearing h.buys h.sells).price.0 xs
        way true e = k (ltb-true 0 (clearing h.buys h.sells).lots.0 e)
        way false e = omega (arith, ltb-false 0 (clearing h.buys h.sells).lots.0 e)

pub passed_valid : (h : Resting) → h.last < 1_000_000_000_000 → Valid h → Valid (passed h)
passed_valid h l v = sound_test (passed h) (passed_sound h l (sound_fact h v))

pub withdrawn_valid : (h : Resting) (m : Member) (n : CommandNumber) → h.last < 1_000_000_000_000 → Valid h → Valid (withdrawn h m n).0
withdrawn_valid h m n l v = sound_test (withdrawn h m n).0 (withdrawn_sound h m n l (sound_fact h v))

pub crossed_valid : (h : Resting) → h.last < 1_000_000_000_000 → Valid h → Valid (crossed h).0
crossed_valid h l v = way ((clearing h.buys h.sells).lots.0 == 0) refl where
  way : (t : Bool) → ((clearing h.buys h.sells).lots.0 == 0) ≡ t → Valid (crossed h).0
  way true e = simp e (passed_valid h l v)
  way false e = simp e (taken_valid h (clearing h.buys h.sells).lots.0 l v)

-- what the code leaves of the two sides is the state after the command
module _ (h : Resting) (l : h.last < 1_000_000_000_000) (v : Valid h) where
  pub settled_buy : (o : Order) {rs : List Order} → o.number.0 ≡ h.last + 1 → kept (h.last + 1) o ≡ true → rs ≡ (rested Buy o h.buys).0 → Valid (record { last = h.last + 1; buys = rs; sells = h.sells })
  settled_buy o new k e = rw e (entered_valid h Buy o new k l v)

  pub settled_sell : (o : Order) {rs : List Order} → o.number.0 ≡ h.last + 1 → kept (h.last + 1) o ≡ true → rs ≡ (rested Sell o h.sells).0 → Valid (record { last = h.last + 1; buys = h.buys; sells = rs })
  settled_sell o new k e = rw e (entered_valid h Sell o new k l v)

  module _ {c : CommandNumber} {p : Price} {n m : ℕ} {xs ys : List Notice} {bs ss : List Order} (f : PairedAll c p n h.buys h.sells xs bs ss ys m) where
    pub paired_valid : Valid (record { last = h.last + 1; buys = bs; sells = ss })
    paired_valid = rw (f.buys, f.sells) (taken_valid h n l v)

-- the code's cross is the cross
module _ (h : Resting) {k : Clearing} (is : k ≡ clearing h.buys h.sells) where
  pub fillable_at : Valid h → Fillable k.price.0 k.lots.0 h.buys h.sells
  fillable_at v = rw is (fillable h v)

  pub crossed_none : (xs : List Notice) → k.lots.0 ≡ 0 → Taken (crossed h) xs (passed h) xs 0
  crossed_none xs z = subst (λ d. Taken (crossed_at h d) xs (passed h) xs 0) is (let e = eq-eqb k.lots.0 0 z in record { state = simp e; number = simp e; list = simp e })

  pub crossed_all : {xs ys : List Notice} {bs ss : List Order} {m : ℕ} → (k.lots.0 ≢ 0) → PairedAll (next h) k.price k.lots.0 h.buys h.sells xs bs ss ys m →
      Taken (crossed h) xs (record { last = h.last + 1; buys = bs; sells = ss }) ys m
  crossed_all {xs} {ys} {bs} {ss} {m} z f =
      subst (λ d. Taken (crossed_at h d) xs (record { last = h.last + 1; buys = bs; sells = ss }) ys m) is
      (let e = ne_eqb k.lots.0 0 z in record { state = simp (e, f.buys, f.sells); number = simp e f.number; list = simp e f.list })

-- the code's two slices are the sides
module _ {us ws bs ss : List Order} (e : us ≡ bs) (f : ws ≡ ss) where
  pub same_clearing : {k : Clearing} → k ≡ clearing us ws → k ≡ clearing bs ss
  same_clearing g = g ∙ ap (λ xs. clearing xs ws) e ∙ ap (clearing bs) f

  pub same_summable : Summable bs ss → Summable us ws
  same_summable g = (subst FewLots (sym e) g.0, subst FewLots (sym f) g.1)
