-- Every event adds at most the sent page, whole.
use Rattle.std.proofs.Common.{◌≡◌, ℕ, Bool, true, false, cond, ◌&&◌, ◌⊎◌, ◌==◌, nat_lt, [], ◌∷◌, ◌++◌, length, Some, None, Ok, Err, Option, refl, inl, inr}
use Rattle.protocol.specs.Steps.{Event, Stage, Write, Sync, Deliver, Shelve, Snapshot, Restart, Open, Replay}
use Rattle.protocol.specs.Promises.{Pages, Sent, Ledger, added, sends, empties, is_cut, note, Grew}

abbrev Grows : Ledger → Pages → Type 0
Grows l kept = (kept ≡ l.kept) ⊎ ((s : Sent) × (l.sent ≡ Some s) × (kept ≡ l.kept ++ (s.page ∷ [])))

added_grows : (l : Ledger) (n : ℕ) (sent : Option Sent) → l.sent ≡ sent → Grows l (added n sent l.kept)
added_grows l n None e = inl refl
added_grows l n (Some s) e = go ((n == s.number) && nat_lt (length l.kept) s.number)
  where
    go : (b : Bool) → Grows l (cond b (l.kept ++ (s.page ∷ [])) l.kept)
    go true = inr (s, e, refl)
    go false = inl refl

stays : (b : Bool) (k l : Ledger) → k.kept ≡ l.kept → Grows l (cond b k l).kept
stays true k l e = inl e
stays false k l e = inl refl

pub grows : (e : Event) (l : Ledger) → Grew l (note e l)
grows (Stage bs (Ok n)) l = inl refl
grows (Stage bs (Err f)) l = stays (is_cut f) (empties l) l refl
grows (Write (Ok t)) l = inl refl
grows (Write (Err f)) l = stays (is_cut f) (sends l) l refl
grows (Sync t room (Ok h)) l = added_grows l h.receipt.page.0 l.sent refl
grows (Sync t room (Err f)) l = stays (is_cut f) (empties l) l refl
grows (Deliver r (Ok u)) l = inl refl
grows (Deliver r (Err f)) l = stays (is_cut f) (empties l) l refl
grows (Shelve r) l = inl refl
grows (Snapshot (Ok u)) l = inl refl
grows (Snapshot (Err f)) l = stays (is_cut f) (empties l) l refl
grows Restart l = inl refl
grows (Open (Ok p)) l = inl refl
grows (Open (Err f)) l = stays (is_cut f) (empties l) l refl
grows (Replay room (Ok (Some h))) l = added_grows l h.receipt.page.0 l.sent refl
grows (Replay room (Ok None)) l = inl refl
grows (Replay room (Err f)) l = stays (is_cut f) (empties l) l refl
