-- Orders that are read one after another.
use Rattle.std.proofs.Common.{◌≡◌, ℕ, zero, suc, ◌+◌, ◌*◌, List, [], ◌∷◌, ◌++◌, sym, ap, ◌∙◌, arith}
use native.Mathlib.Numerals.{unary_clauses}
use Rattle.market.specs.declared.orders.Order.{Order}
use Rattle.body.specs.Layout.{order_at, orders_at}

orders_push : (b : List ℕ) (at n : ℕ) → orders_at b at (n + 1) ≡ orders_at b at n ++ order_at b (at + 20 * n) ∷ []
orders_push b at zero = simp unary_clauses
orders_push b at (suc n) =
    let h = orders_push b (at + 20) n in
    let e : suc n + 1 ≡ suc (n + 1) = omega arith in
    let f : at + 20 + 20 * n ≡ at + 20 * suc n = omega arith in
    ap (orders_at b at) e ∙ ap (λ z. order_at b at ∷ z) (h ∙ ap (λ k. orders_at b (at + 20) n ++ order_at b k ∷ []) f)

-- one more order is read
pub orders_more : (b : List ℕ) (at i : ℕ) {us vs : List Order} {v : Order} → vs ≡ us ++ v ∷ [] → us ≡ orders_at b at i → v ≡ order_at b (at + 20 * i) → vs ≡ orders_at b at (i + 1)
orders_more b at i {us} {vs} {v} h e f = rw (h, e, f) (sym (orders_push b at i))
