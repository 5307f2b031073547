-- What is written is read back.
use Rattle.std.proofs.Common.{◌≡◌, ℕ, ◌+◌, ◌*◌, ◌^◌, ◌<◌, ◌≤◌, true, List, [], ◌∷◌, ◌++◌, length, take, drop, refl, ap, ◌∙◌, arith, length-append, rules}
use Rattle.std.proofs.lemmas.List.{append_assoc, take_at, drop_at}
use Rattle.std.proofs.lemmas.Bool.{and_parts}
use Rattle.records.specs.LittleEndian.{le, number, field}
use Rattle.records.proofs.LittleEndianLaws.{length_le, number_le}
use Rattle.market.specs.declared.orders.Order.{Order}
use Rattle.market.specs.Lists.{all}
use Rattle.market.specs.Orders.{kept}
use Rattle.market.specs.Resting.{Resting}
use Rattle.body.specs.Layout.{order_bytes, orders_bytes, order_at, orders_at, content}
use Rattle.body.proofs.Puts.{length_order, length_orders}

-- what fits its le
pub record OrderFits (o : Order) : Type 0 where
  pub number : o.number.0 < 256 ^ 8
  pub member : o.member.0 < 256 ^ 4
  pub price : o.price.0 < 256 ^ 4
  pub lots : o.lots.0 < 256 ^ 4

kept_fits : (n : ℕ) (o : Order) → n ≤ 1_000_000_000_000 → kept n o ≡ true → OrderFits o
kept_fits n o l h =
    let a : o.number.0 ≤ n = search rules in
    let b : o.member.0 ≤ 999_999 = search rules in
    let c : o.price.0 ≤ 1_000_000 = search rules in
    let d : o.lots.0 ≤ 1_000_000 = search rules in
    record { number = omega arith; member = omega arith; price = omega arith; lots = omega arith }

-- a number read where it was written
field_back : (k n : ℕ) (b pre post : List ℕ) (i : ℕ) → b ≡ pre ++ (le k n ++ post) → length pre ≡ i → n < 256 ^ k → field i k b ≡ n
unfolding field
field_back k n b pre post i e l h =
    let d : drop i b ≡ le k n ++ post = ap (drop i) e ∙ drop_at pre (le k n ++ post) i l in
    let t : take k (drop i b) ≡ le k n = ap (take k) d ∙ take_at (le k n) post k (length_le k n) in
    ap number t ∙ number_le k n h

pub order_back : (o : Order) (b pre post : List ℕ) (i : ℕ) → b ≡ pre ++ (order_bytes o ++ post) → length pre ≡ i → OrderFits o → order_at b i ≡ o
unfolding order_bytes
order_back o b pre post i e l f =
    let n8 = le 8 o.number.0 in
    let m4 = le 4 o.member.0 in
    let p4 = le 4 o.price.0 in
    let l4 = le 4 o.lots.0 in
    let a = length_le 8 o.number.0 in
    let c = length_le 4 o.member.0 in
    let d = length_le 4 o.price.0 in
    let f1 = field_back 8 o.number.0 b pre (m4 ++ (p4 ++ (l4 ++ post))) i (e ∙ simp append_assoc) l f.number in
    let f2 = field_back 4 o.member.0 b (pre ++ n8) (p4 ++ (l4 ++ post)) (i + 8) (e ∙ simp append_assoc) (simp (length-append, a) (omega arith)) f.member in
    let f3 = field_back 4 o.price.0 b (pre ++ n8 ++ m4) (l4 ++ post) (i + 12) (e ∙ simp append_assoc) (simp (length-append, a, c) (omega arith)) f.price in
    let f4 = field_back 4 o.lots.0 b (pre ++ n8 ++ m4 ++ p4) post (i + 16) (e ∙ simp append_assoc) (simp (length-append, a, c, d) (omega arith)) f.lots in
    simp (f1, f2, f3, f4)

pub orders_back : (os : List Order) (b pre post : List ℕ) (i n : ℕ) → n ≤ 1_000_000_000_000 → b ≡ pre ++ (orders_bytes os ++ post) → length pre ≡ i → all (kept n) os ≡ true → orders_at b i (length os) ≡ os
orders_back [] b pre post i n u e l f = refl
orders_back (o ∷ os) b pre post i n u e l f =
    let k = and_parts (kept n o) (all (kept n) os) f in
    let r = length_order o in
    let h = order_back o b pre (orders_bytes os ++ post) i (e ∙ simp append_assoc) l (kept_fits n o u k.0) in
    let t = orders_back os b (pre ++ order_bytes o) post (i + 20) n u (e ∙ simp append_assoc) (simp (length-append, r) (omega arith)) k.1 in
    rw (h, t)

-- the three numbers and the orders of a body
module _ (h : Resting) (rest b : List ℕ) (all_of : b ≡ content h ++ rest) (small : h.last ≤ 1_000_000_000_000) where
  pub last_back : field 0 8 b ≡ h.last
  last_back = field_back 8 h.last b [] (le 2 (length h.buys) ++ (le 2 (length h.sells) ++ (orders_bytes h.buys ++ (orders_bytes h.sells ++ rest)))) 0 (all_of ∙ simp append_assoc) refl (omega arith)

  pub buys_back : all (kept h.last) h.buys ≡ true → orders_at b 12 (length h.buys) ≡ h.buys
  buys_back fit =
      let a = length_le 8 h.last in
      let c = length_le 2 (length h.buys) in
      let d = length_le 2 (length h.sells) in
      orders_back h.buys b (le 8 h.last ++ le 2 (length h.buys) ++ le 2 (length h.sells)) (orders_bytes h.sells ++ rest) 12 h.last small (all_of ∙ simp append_assoc) (simp (length-append, a, c, d)) fit

  pub sells_back : all (kept h.last) h.sells ≡ true → orders_at b (12 + 20 * length h.buys) (length h.sells) ≡ h.sells
  sells_back fit =
      let a = length_le 8 h.last in
      let c = length_le 2 (length h.buys) in
      let d = length_le 2 (length h.sells) in
      let r = length_orders h.buys in
      orders_back h.sells b (le 8 h.last ++ le 2 (length h.buys) ++ le 2 (length h.sells) ++ orders_bytes h.buys) rest (12 + 20 * length h.buys) h.last small (all_of ∙ simp append_assoc) (simp (length-append, a, c, d, r) (omega arith)) fit

  pub bought_back : length h.buys ≤ 32 → field 8 2 b ≡ length h.buys
  bought_back few =
      let a = length_le 8 h.last in
      field_back 2 (length h.buys) b (le 8 h.last) (le 2 (length h.sells) ++ (orders_bytes h.buys ++ (orders_bytes h.sells ++ rest))) 8 (all_of ∙ simp append_assoc) a (omega arith)

  pub sold_back : length h.sells ≤ 32 → field 10 2 b ≡ length h.sells
  sold_back few =
      let a = length_le 8 h.last in
      let c = length_le 2 (length h.buys) in
      field_back 2 (length h.sells) b (le 8 h.last ++ le 2 (length h.buys)) (orders_bytes h.buys ++ (orders_bytes h.sells ++ rest)) 10 (all_of ∙ simp append_assoc) (simp (length-append, a, c)) (omega arith)
