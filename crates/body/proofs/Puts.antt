-- Orders that are written one after another.
use Rattle.std.proofs.Common.{◌≡◌, ℕ, ◌+◌, ◌*◌, ◌<◌, List, [], ◌∷◌, ◌++◌, length, get_or, take, sym, refl, ap, ◌∙◌, arith, length-append}
use Rattle.std.proofs.lemmas.List.{append_assoc, append-nil, take_more}
use Rattle.records.proofs.LittleEndianLaws.{length_le}
use Rattle.market.specs.declared.orders.Order.{Order}
use Rattle.body.specs.Layout.{order_bytes, orders_bytes}

pub length_order : (o : Order) → length (order_bytes o) ≡ 20
unfolding order_bytes
length_order o = simp (length-append, length_le)

pub length_orders : (os : List Order) → length (orders_bytes os) ≡ 20 * length os
length_orders [] = refl
length_orders (o ∷ os) = let h = length_orders os in rw (length-append, length_order) (omega arith)

orders_push : (os : List Order) (o : Order) → orders_bytes (os ++ o ∷ []) ≡ orders_bytes os ++ order_bytes o
orders_push [] o = append-nil (order_bytes o)
orders_push (x ∷ os) o = let h = orders_push os o in rw (h, append_assoc)

-- one order more
pub orders_next : (out : List ℕ) (os : List Order) (i : ℕ) (d : Order) → i < length os →
    (out ++ orders_bytes (take i os)) ++ order_bytes (get_or os i d) ≡ out ++ orders_bytes (take (i + 1) os)
orders_next out os i d h =
    append_assoc out (orders_bytes (take i os)) (order_bytes (get_or os i d))
    ∙ ap (λ z. out ++ z) (sym (ap orders_bytes (take_more os i d h) ∙ orders_push (take i os) (get_or os i d)))
