-- The receipts that deliver kept.
use Rattle.std.proofs.Common.{ℕ, ◌≤◌, ◌⊎◌, List, [], ◌∷◌, Ok, Err, refl, ap, subst, inl, inr}
use mathlib.Core.List.{Memᴰ}
use Rattle.protocol.specs.declared.tokens.ReceiptNumbers.{ReceiptNumbers}
use Rattle.protocol.specs.Steps.{Event, Stage, Write, Sync, Deliver, Shelve, Snapshot, Restart, Open, Replay}
use Rattle.protocol.specs.Promises.{History, highest_delivered, DeliveredIn}
use Rattle.audit.specs.Delivered.{with_delivered, delivered_in, CoveredTo}
use Rattle.audit.proofs.Membership.{member, contained, in_front, behind, either_part}

listed : (h : History) (r : ReceiptNumbers) → Memᴰ (Deliver r (Ok tt)) h → Memᴰ r (delivered_in h)
listed [] r m = elim m [ ]
listed (e ∷ h) r (Memᴰ.head q) = subst (λ z. Memᴰ r (with_delivered z (delivered_in h))) q (behind (delivered_in h) (r ∷ []) r (Memᴰ.head refl))
listed (e ∷ h) r (Memᴰ.tail m) = keeps e (delivered_in h) (listed h r m)
  where
    keeps : (e : Event) (rs : List ReceiptNumbers) → Memᴰ r rs → Memᴰ r (with_delivered e rs)
    keeps (Stage bs a) rs k = k
    keeps (Write a) rs k = k
    keeps (Sync t room a) rs k = k
    keeps (Deliver q (Ok u)) rs k = in_front rs (q ∷ []) r k
    keeps (Deliver q (Err f)) rs k = k
    keeps (Shelve q) rs k = k
    keeps (Snapshot a) rs k = k
    keeps Restart rs k = k
    keeps (Open a) rs k = k
    keeps (Replay room a) rs k = k

kept : (h : History) (r : ReceiptNumbers) → Memᴰ r (delivered_in h) → Memᴰ (Deliver r (Ok tt)) h
kept [] r m = elim m [ ]
kept (Stage bs a ∷ h) r m = Memᴰ.tail (kept h r m)
kept (Write a ∷ h) r m = Memᴰ.tail (kept h r m)
kept (Sync t room a ∷ h) r m = Memᴰ.tail (kept h r m)
kept (Deliver q (Ok u) ∷ h) r m = new_or_old (kept h r) (either_part (delivered_in h) (q ∷ []) r m)
  where
    new_or_old : (Memᴰ r (delivered_in h) → Memᴰ (Deliver r (Ok tt)) h) → Memᴰ r (delivered_in h) ⊎ Memᴰ r (q ∷ []) → Memᴰ (Deliver r (Ok tt)) (Deliver q (Ok u) ∷ h)
    new_or_old old (inl k) = Memᴰ.tail (old k)
    new_or_old old (inr (Memᴰ.head e)) = Memᴰ.head (ap (λ z. Deliver z (Ok tt)) e)
    new_or_old old (inr (Memᴰ.tail k)) = elim k [ ]
kept (Deliver q (Err f) ∷ h) r m = Memᴰ.tail (kept h r m)
kept (Shelve q ∷ h) r m = Memᴰ.tail (kept h r m)
kept (Snapshot a ∷ h) r m = Memᴰ.tail (kept h r m)
kept (Restart ∷ h) r m = Memᴰ.tail (kept h r m)
kept (Open a ∷ h) r m = Memᴰ.tail (kept h r m)
kept (Replay room a ∷ h) r m = Memᴰ.tail (kept h r m)

-- no gap, by the receipts
abbrev pub NoGap : History → Type 0
NoGap h = (n : ℕ) → 1 ≤ n → n ≤ highest_delivered h → DeliveredIn n h

pub covered_no_gap : (h : History) → CoveredTo (delivered_in h) (highest_delivered h) → NoGap h
covered_no_gap h c n l u = let (r, m, (a, b)) = c n l u in record { receipt = r; kept = kept h r (member (delivered_in h) r m); first = a; last = b }

pub no_gap_covered : (h : History) → NoGap h → CoveredTo (delivered_in h) (highest_delivered h)
no_gap_covered h c n l u = let k = c n l u in (k.receipt, contained (delivered_in h) k.receipt (listed h k.receipt k.kept), (k.first, k.last))
