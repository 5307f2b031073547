-- The state that a body is of.
use Rattle.std.proofs.Common.{◌≡◌, ℕ, zero, suc, ◌+◌, ◌-◌, ◌*◌, Bool, true, false, cond, ◌&&◌, eqb, leb, List, [], ◌∷◌, ◌++◌, length, replicate, Some, None, Option, sym, refl, ap, ◌∙◌, arith, length-append, rules, eq-eqb, eqb-true, le-leb}
use Rattle.std.proofs.lemmas.List.{length-replicate}
use Rattle.records.specs.LittleEndian.{le, field, Bytes}
use Rattle.records.proofs.LittleEndianLaws.{length_le, bytes_le}
use Rattle.market.specs.declared.orders.Order.{Order}
use Rattle.market.specs.Resting.{Resting, sound}
use Rattle.market.proofs.Sounds.{Sound, sound_fact}
use Rattle.body.specs.Layout.{order_bytes, orders_bytes, orders_at, content, body, equal}
use Rattle.body.specs.Loads.{spelt, reads, if_passes, loads}
use Rattle.body.proofs.Puts.{length_orders}
use Rattle.body.proofs.Trips.{last_back, bought_back, sold_back, buys_back, sells_back}

equal_self : (xs : List ℕ) → equal xs xs ≡ true
equal_self [] = refl
equal_self (x ∷ xs) = let e = eq-eqb x x refl in let h = equal_self xs in rw (e, h)

equal_same : (xs ys : List ℕ) → equal xs ys ≡ true → xs ≡ ys
equal_same [] [] h = refl
equal_same [] (y ∷ ys) h = absurd (search rules)
equal_same (x ∷ xs) [] h = absurd (search rules)
equal_same (x ∷ xs) (y ∷ ys) h = way (eqb x y) refl h (equal_same xs ys) where
  way : (t : Bool) → eqb x y ≡ t → (t && equal xs ys) ≡ true → (equal xs ys ≡ true → xs ≡ ys) → x ∷ xs ≡ y ∷ ys
  way true e k ih = let p = eqb-true x y e in let q = ih k in rw (p, q)
  way false e k ih = absurd (search rules)

-- a sound state's body reads as the state
reads_body : (h : Resting) → Sound h → reads (body h) ≡ Some h
reads_body h f =
    let b = body h in
    let rest : List ℕ = replicate (1536 - length (content h)) 0 in
    let l = last_back h rest b refl f.bounded in
    let nb = bought_back h rest b refl f.bounded f.buys.few in
    let ns = sold_back h rest b refl f.bounded f.sells.few in
    let bs = buys_back h rest b refl f.bounded f.buys.ranged in
    let ss = sells_back h rest b refl f.bounded f.sells.ranged in
    let r : spelt b ≡ h =
    ap (λ k. record { last = k; buys = orders_at b 12 (field 8 2 b); sells = orders_at b (12 + 20 * field 8 2 b) (field 10 2 b) }) l
    ∙ ap (λ k. record { last = h.last; buys = orders_at b 12 k; sells = orders_at b (12 + 20 * k) (field 10 2 b) }) nb
    ∙ ap (λ k. record { last = h.last; buys = orders_at b 12 (length h.buys); sells = orders_at b (12 + 20 * length h.buys) k }) ns
    ∙ ap (λ k. record { last = h.last; buys = k; sells = orders_at b (12 + 20 * length h.buys) (length h.sells) }) bs
    ∙ ap (λ k. record { last = h.last; buys = h.buys; sells = k }) ss in
    let l1 : leb (field 8 2 b) 32 ≡ true = le-leb _ 32 (omega (arith, nb, f.buys.few)) in
    let l2 : leb (field 10 2 b) 32 ≡ true = le-leb _ 32 (omega (arith, ns, f.sells.few)) in
    let q : equal (body (spelt b)) b ≡ true = ap (λ k. equal (body k) b) r ∙ equal_self b in
    simp (l1, l2, q) (ap Some r)

reads_only : (b : List ℕ) (h : Resting) → reads b ≡ Some h → body h ≡ b
reads_only b h e = way (leb (field 8 2 b) 32 && leb (field 10 2 b) 32) (equal (body (spelt b)) b) refl e where
  way : (t u : Bool) → equal (body (spelt b)) b ≡ u → cond t (cond u (Some (spelt b)) None) None ≡ Some h → body h ≡ b
  way true true k e = let r : spelt b ≡ h = cc in ap body (sym r) ∙ equal_same (body (spelt b)) b k
  way true false k e = absurd (search rules)
  way false u k e = absurd (search rules)

-- the laws of a market's bodies, over the test of its states
module _ (v : Resting → Bool) (up : (h : Resting) → v h ≡ true → sound h ≡ true) where
  pub loads_back : (h : Resting) → v h ≡ true → loads v (body h) ≡ Some h
  loads_back h t = ap (if_passes v) (reads_body h (sound_fact h (up h t))) ∙ simp t

  pub loads_only : (b : List ℕ) (h : Resting) → loads v b ≡ Some h → (v h ≡ true) × (body h ≡ b)
  loads_only b h e = way (reads b) refl e where
    way : (r : Option Resting) → reads b ≡ r → if_passes v r ≡ Some h → (v h ≡ true) × (body h ≡ b)
    way None k e = absurd (search rules)
    way (Some g) k e = pick (v g) refl e where
      pick : (t : Bool) → v g ≡ t → cond t (Some g) None ≡ Some h → (v h ≡ true) × (body h ≡ b)
      pick true w e = let r : g ≡ h = cc in (ap v (sym r) ∙ w, reads_only b h (k ∙ ap Some r))
      pick false w e = absurd (search rules)

pub body_length : (h : Resting) → Sound h → length (body h) ≡ 1536
body_length h f =
    let a = length_le 8 h.last in
    let c = length_le 2 (length h.buys) in
    let d = length_le 2 (length h.sells) in
    let bs = length_orders h.buys in
    let ss = length_orders h.sells in
    let k : length (content h) ≡ 12 + 20 * length h.buys + 20 * length h.sells = simp (length-append, a, c, d, bs, ss) (omega arith) in
    simp (length-append, length-replicate) (omega (arith, k, f.buys.few, f.sells.few))

pub sized : (h : Resting) → sound h ≡ true → length (body h) ≡ 1536
sized h v = body_length h (sound_fact h v)

-- a body is bytes
bytes_append : (xs ys : List ℕ) → Bytes xs → Bytes ys → Bytes (xs ++ ys)
unfolding Bytes
bytes_append [] ys h k = k
bytes_append (x ∷ xs) ys h k = (h.0, bytes_append xs ys h.1 k)

bytes_zeros : (n : ℕ) → Bytes (replicate n 0)
unfolding Bytes
bytes_zeros zero = tt
bytes_zeros (suc n) = (omega arith, bytes_zeros n)

bytes_order : (o : Order) → Bytes (order_bytes o)
unfolding order_bytes
bytes_order o =
    bytes_append (le 8 o.number.0 ++ le 4 o.member.0 ++ le 4 o.price.0) _
    (bytes_append (le 8 o.number.0 ++ le 4 o.member.0) _ (bytes_append (le 8 o.number.0) _ (bytes_le 8 o.number.0) (bytes_le 4 o.member.0)) (bytes_le 4 o.price.0)) (bytes_le 4 o.lots.0)

bytes_orders : (os : List Order) → Bytes (orders_bytes os)
unfolding Bytes
bytes_orders [] = tt
bytes_orders (o ∷ os) = bytes_append (order_bytes o) (orders_bytes os) (bytes_order o) (bytes_orders os)

pub body_bytes : (h : Resting) → Bytes (body h)
body_bytes h =
    let a = bytes_append (le 8 h.last) _ (bytes_le 8 h.last) (bytes_le 2 (length h.buys)) in
    let b = bytes_append (le 8 h.last ++ le 2 (length h.buys)) _ a (bytes_le 2 (length h.sells)) in
    let c = bytes_append (le 8 h.last ++ le 2 (length h.buys) ++ le 2 (length h.sells)) _ b (bytes_orders h.buys) in
    let d = bytes_append (le 8 h.last ++ le 2 (length h.buys) ++ le 2 (length h.sells) ++ orders_bytes h.buys) _ c (bytes_orders h.sells) in
    bytes_append (content h) _ d (bytes_zeros (1536 - length (content h)))
