-- What keeps a state sound.
use Rattle.std.proofs.Common.{◌≡◌, ℕ, ◌+◌, ◌<◌, ◌≤◌, Bool, true, false, leb, List, ◌∷◌, length, arith, rules, le-leb, leb-true}
use Rattle.std.proofs.lemmas.Bool.{and_parts, and_from}
use Rattle.records.specs.Commands.{within, in_range}
use Rattle.records.specs.declared.numbers.CommandNumber.{CommandNumber}
use Rattle.records.specs.declared.numbers.Member.{Member}
use Rattle.records.specs.declared.numbers.Price.{Price}
use Rattle.records.specs.declared.numbers.Lots.{Lots}
use Rattle.records.specs.declared.commands.Side.{Side}
use Rattle.records.specs.declared.commands.Side.TheVariants.{Buy, Sell}
use Rattle.market.specs.declared.orders.Order.{Order}
use Rattle.market.specs.Lists.{all, pairwise, across, without, placed}
use Rattle.market.specs.Orders.{before, differ, kept, less, is_of}
use Rattle.market.specs.Resting.{Resting, side_sound, sound, arriving, passed, withdrawn}
use Rattle.market.proofs.ListLaws.{all_weaken, all_without, pairwise_without, length_without, across_without, all_placed, length_placed, pairwise_placed}

pub record SideSound (s : Side) (n : ℕ) (xs : List Order) : Type 0 where
  pub few : length xs ≤ 32
  pub ranked : pairwise (before s) xs ≡ true
  pub distinct : pairwise differ xs ≡ true
  pub ranged : all (kept n) xs ≡ true

pub record Sound (h : Resting) : Type 0 where
  pub bounded : h.last ≤ 1_000_000_000_000
  pub buys : SideSound Buy h.last h.buys
  pub sells : SideSound Sell h.last h.sells
  pub separate : across differ h.buys h.sells ≡ true

side_fact : (s : Side) (n : ℕ) (xs : List Order) → side_sound s n xs ≡ true → SideSound s n xs
side_fact s n xs e =
    let a = and_parts (leb (length xs) 32) _ e in
    let b = and_parts (pairwise (before s) xs) _ a.1 in
    let c = and_parts (pairwise differ xs) _ b.1 in
    record { few = leb-true (length xs) 32 a.0; ranked = b.0; distinct = c.0; ranged = c.1 }

side_test : (s : Side) (n : ℕ) (xs : List Order) → SideSound s n xs → side_sound s n xs ≡ true
side_test s n xs f =
    and_from (leb (length xs) 32) _ (le-leb (length xs) 32 f.few)
    (and_from (pairwise (before s) xs) _ f.ranked (and_from (pairwise differ xs) (all (kept n) xs) f.distinct f.ranged))

pub sound_fact : (h : Resting) → sound h ≡ true → Sound h
sound_fact h e =
    let a = and_parts (leb h.last 1_000_000_000_000) _ e in
    let b = and_parts (side_sound Buy h.last h.buys) _ a.1 in
    let c = and_parts (side_sound Sell h.last h.sells) (across differ h.buys h.sells) b.1 in
    record { bounded = leb-true h.last 1_000_000_000_000 a.0; buys = side_fact Buy h.last h.buys b.0; sells = side_fact Sell h.last h.sells c.0; separate = c.1 }

pub sound_test : (h : Resting) → Sound h → sound h ≡ true
sound_test h f =
    and_from (leb h.last 1_000_000_000_000) _ (le-leb h.last 1_000_000_000_000 f.bounded)
    (and_from (side_sound Buy h.last h.buys) _ (side_test Buy h.last h.buys f.buys)
    (and_from (side_sound Sell h.last h.sells) (across differ h.buys h.sells) (side_test Sell h.last h.sells f.sells) f.separate))

-- more numbers are out
kept_up : (n m : ℕ) → n ≤ m → (o : Order) → kept n o ≡ true → kept m o ≡ true
kept_up n m l o h =
    let a = and_parts (in_range o.member o.price o.lots) (within 1 n o.number.0) h in
    let b = and_parts (leb 1 o.number.0) (leb o.number.0 n) a.1 in
    let k = leb-true o.number.0 n b.1 in
    and_from (in_range o.member o.price o.lots) (within 1 m o.number.0) a.0
    (and_from (leb 1 o.number.0) (leb o.number.0 m) b.0 (le-leb o.number.0 m (omega arith)))

pub side_up : {s : Side} {n : ℕ} {xs : List Order} (m : ℕ) → n ≤ m → SideSound s n xs → SideSound s m xs
side_up {s} {n} {xs} m l f = record { few = f.few; ranked = f.ranked; distinct = f.distinct; ranged = all_weaken (kept n) (kept m) xs (kept_up n m l) f.ranged }

-- an order leaves
pub side_without : {s : Side} {n : ℕ} {xs : List Order} (p : Order → Bool) → SideSound s n xs → SideSound s n (without p xs)
side_without {s} {n} {xs} p f = record {
  few = omega (arith, length_without p xs, f.few);
  ranked = pairwise_without p (before s) xs f.ranked;
  distinct = pairwise_without p differ xs f.distinct;
  ranged = all_without p (kept n) xs f.ranged;
}

pub side_tail : {s : Side} {n : ℕ} {r : Order} {rs : List Order} → SideSound s n (r ∷ rs) → SideSound s n rs
side_tail {s} {n} {r} {rs} f = record {
  few = omega (arith, f.few);
  ranked = (and_parts (all (before s r) rs) (pairwise (before s) rs) f.ranked).1;
  distinct = (and_parts (all (differ r) rs) (pairwise differ rs) f.distinct).1;
  ranged = (and_parts (kept n r) (all (kept n) rs) f.ranged).1;
}

-- the first order has less
kept_less : (n m : ℕ) (r : Order) → m < r.lots.0 → kept n r ≡ true → kept n (less r m) ≡ true
kept_less n m r l h = search rules

rank_less : (s : Side) (r : Order) (m : ℕ) (rs : List Order) → pairwise (before s) (r ∷ rs) ≡ true → pairwise (before s) (less r m ∷ rs) ≡ true
rank_less Buy r m rs h = h
rank_less Sell r m rs h = h

pub side_less : {s : Side} {n : ℕ} {r : Order} {rs : List Order} (m : ℕ) → m < r.lots.0 → SideSound s n (r ∷ rs) → SideSound s n (less r m ∷ rs)
side_less {s} {n} {r} {rs} m l f =
    let a = and_parts (kept n r) (all (kept n) rs) f.ranged in
    record {
      few = f.few;
      ranked = rank_less s r m rs f.ranked;
      distinct = f.distinct;
      ranged = and_from (kept n (less r m)) (all (kept n) rs) (kept_less n m r l a.0) a.1;
    }

-- a new order comes
pub chains : (s : Side) (x y z : Order) → before s x y ≡ true → before s y z ≡ true → before s x z ≡ true
chains Buy x y z h k = search rules
chains Sell x y z h k = search rules

-- of two orders the older stands first where the newer does not
older : (s : Side) (o r : Order) → before s o r ≡ false → r.number.0 < o.number.0 → before s r o ≡ true
older Buy o r h k = search rules
older Sell o r h k = search rules

numbered : (n : ℕ) (x : Order) → kept n x ≡ true → x.number.0 ≤ n
numbered n x h = search rules

new_differs : (n : ℕ) (o : Order) → n < o.number.0 → (x : Order) → kept n x ≡ true → differ o x ≡ true
new_differs n o l x h = let k = numbered n x h in search rules

pub differ_swap : (x y : Order) → differ x y ≡ true → differ y x ≡ true
differ_swap x y h = search rules

pub all_new : (n : ℕ) (o : Order) → n < o.number.0 → (xs : List Order) → all (kept n) xs ≡ true → all (differ o) xs ≡ true
all_new n o l xs h = all_weaken (kept n) (differ o) xs (new_differs n o l) h

pub side_placed : {s : Side} {n : ℕ} {xs : List Order} (m : ℕ) (o : Order) → n ≤ m → n < o.number.0 → kept m o ≡ true → length xs < 32 → SideSound s n xs → SideSound s m (placed (before s) o xs)
side_placed {s} {n} {xs} m o up new k l f = record {
  few = omega (arith, length_placed (before s) o xs);
  ranked = pairwise_placed (before s) (before s) (kept n) o
      (λ x ys e h u. and_from (before s o x) (all (before s o) ys) e (all_weaken (before s x) (before s o) ys (λ y j. chains s o x y e j) h))
      (λ x e u. older s o x e (omega (arith, numbered n x u))) xs f.ranged f.ranked;
  distinct = pairwise_placed (before s) differ (kept n) o
      (λ x ys e h u. all_new n o new (x ∷ ys) u)
      (λ x e u. differ_swap o x (new_differs n o new x u)) xs f.ranged f.distinct;
  ranged = all_placed (before s) o (kept m) xs k (all_weaken (kept n) (kept m) xs (kept_up n m up) f.ranged);
}

-- an order that arrives keeps its ranges, under its own number
pub arriving_kept : (h : Resting) (m : Member) (p : Price) (l : Lots) → in_range m p l ≡ true → kept (h.last + 1) (arriving h m p l) ≡ true
arriving_kept h m p l g = and_from (in_range m p l) _ g (search rules)

-- the steps that all markets share
pub passed_sound : (h : Resting) → h.last < 1_000_000_000_000 → Sound h → Sound (passed h)
passed_sound h l f = record { bounded = omega arith; buys = side_up (h.last + 1) (omega arith) f.buys; sells = side_up (h.last + 1) (omega arith) f.sells; separate = f.separate }

pub withdrawn_sound : (h : Resting) (m : Member) (n : CommandNumber) → h.last < 1_000_000_000_000 → Sound h → Sound (withdrawn h m n).0
withdrawn_sound h m n l f =
    let p = is_of m n in
    record {
      bounded = omega arith;
      buys = side_up (h.last + 1) (omega arith) (side_without p f.buys);
      sells = side_up (h.last + 1) (omega arith) (side_without p f.sells);
      separate = across_without p p differ h.buys h.sells f.separate;
    }
