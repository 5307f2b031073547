-- Which notices were delivered.
use Rattle.std.specs.Prelude.{ℕ, ◌≤◌, List, [], ◌∷◌, ◌++◌, Ok, Err}
use Rattle.std.specs.List.{Contains}
use Rattle.protocol.specs.declared.tokens.ReceiptNumbers.{ReceiptNumbers}
use Rattle.protocol.specs.Steps.{Event, Stage, Write, Sync, Deliver, Shelve, Snapshot, Restart, Open, Replay, last_notice}
use Rattle.protocol.specs.Promises.{History}

-- the receipts that deliver kept
abbrev pub with_delivered : Event → List ReceiptNumbers → List ReceiptNumbers
with_delivered (Stage bs a) rs = rs
with_delivered (Write a) rs = rs
with_delivered (Sync t room a) rs = rs
with_delivered (Deliver r (Ok u)) rs = rs ++ (r ∷ [])
with_delivered (Deliver r (Err f)) rs = rs
with_delivered (Shelve r) rs = rs
with_delivered (Snapshot a) rs = rs
with_delivered Restart rs = rs
with_delivered (Open a) rs = rs
with_delivered (Replay room a) rs = rs

abbrev pub delivered_in : History → List ReceiptNumbers
delivered_in [] = []
delivered_in (e ∷ h) = with_delivered e (delivered_in h)

-- the notice number n lies in the receipt
abbrev pub Covers : ℕ → ReceiptNumbers → Type 0
Covers n r = (r.notice.0 ≤ n) × (n ≤ last_notice r)

-- every notice number up to this one lies in one of the receipts
abbrev pub CoveredTo : List ReceiptNumbers → ℕ → Type 0
CoveredTo rs top = (n : ℕ) → 1 ≤ n → n ≤ top → (r : ReceiptNumbers) × Contains rs r × Covers n r
