-- The openings under way are a history's splits at an open that answered a page, with nothing but calm events since.
use Rattle.std.proofs.Common.{◌≡◌, ℕ, ◌<◌, Bool, true, false, true≢false, cond, ◌⊎◌, List, [], ◌∷◌, ◌++◌, length, drop, Some, None, Ok, Err, Result, sym, refl, ap, ◌∙◌, subst, inl, inr, append_assoc, eq-eqb, ne_eqb}
use mathlib.Core.List.{Memᴰ, head-eq_of_cons-eq, tail-eq_of_cons-eq, nil≢cons}
use Rattle.records.specs.declared.notices.Notice.{Notice}
use Rattle.records.specs.declared.numbers.PageNumber.{PageNumber}
use Rattle.protocol.specs.declared.faults.ExchangeFault.{ExchangeFault}
use Rattle.protocol.specs.Faults.{reason_of}
use Rattle.protocol.specs.Worlds.{World}
use Rattle.protocol.specs.Steps.{Event, Stage, Write, Sync, Deliver, Shelve, Snapshot, Restart, Open, Replay}
use Rattle.protocol.specs.Promises.{History, is_cut, recorded, highest_delivered, Uncut, CalmEvent, Calm, handed_by, handed_out, record_notices}
use Rattle.audit.specs.declared.checks.Opening.{Opening}
use Rattle.audit.specs.UnderWay.{if_uncut, if_calm, goes_on, under_way, AllServed, ServesAt, Serves}
use Rattle.audit.proofs.Membership.{in_front, behind, either_part}

-- where the last open of a history left it
abbrev at_open : History → Opening
at_open h = record { above = highest_delivered h; from = length (handed_out h) }

uncut_stays : (f : ExchangeFault) (os : List Opening) (o : Opening) → Uncut {X = Unit {0}} (Err f) → Memᴰ o os → Memᴰ o (if_uncut f os)
uncut_stays f os o c m = subst (λ t. Memᴰ o (cond t [] os)) (sym (ne_eqb (reason_of f) 15 c)) m

calm_stays : {X : Type 0} (a : Result X ExchangeFault) (os : List Opening) (o : Opening) → Uncut a → Memᴰ o os → Memᴰ o (if_calm a os)
calm_stays (Ok x) os o c m = m
calm_stays (Err f) os o c m = uncut_stays f os o c m

stays : (e : Event) (new : Opening) (os : List Opening) (o : Opening) → CalmEvent e → Memᴰ o os → Memᴰ o (goes_on e new os)
stays (Stage bs a) new os o c m = calm_stays a os o c m
stays (Write a) new os o c m = calm_stays a os o c m
stays (Sync t room a) new os o c m = calm_stays a os o c m
stays (Deliver r a) new os o c m = calm_stays a os o c m
stays (Shelve r) new os o c m = m
stays (Snapshot a) new os o c m = calm_stays a os o c m
stays Restart new os o c m = absurd c
stays (Open (Ok p)) new os o c m = in_front os (new ∷ []) o m
stays (Open (Err f)) new os o c m = uncut_stays f os o c m
stays (Replay room a) new os o c m = calm_stays a os o c m

pub begun : (since before : History) (p : PageNumber) → Calm since → Memᴰ (at_open before) (under_way (since ++ (Open (Ok p) ∷ before)))
begun [] before p c = behind (under_way before) (at_open before ∷ []) (at_open before) (Memᴰ.head refl)
begun (e ∷ since) before p (c, cs) = stays e (at_open (since ++ (Open (Ok p) ∷ before))) (under_way (since ++ (Open (Ok p) ∷ before))) (at_open before) c (begun since before p cs)

-- an opening under way, taken apart
pub record Since (h : History) (o : Opening) : Type 0 where
  pub since : History
  pub before : History
  pub page : PageNumber
  pub split : h ≡ since ++ (Open (Ok page) ∷ before)
  pub calm : Calm since
  pub is : o ≡ at_open before

later : (e : Event) (h : History) (o : Opening) → CalmEvent e → Since h o → Since (e ∷ h) o
later e h o c s = record { since = e ∷ s.since; before = s.before; page = s.page; split = ap (λ z. e ∷ z) s.split; calm = (c, s.calm); is = s.is }

-- what is left after an answer was there before it, and the answer was no 15
record Left {X : Type 0} (a : Result X ExchangeFault) (os : List Opening) (o : Opening) : Type 0 where
  calm : Uncut a
  old : Memᴰ o os

uncut_left : {X : Type 0} (f : ExchangeFault) (os : List Opening) (o : Opening) → Memᴰ o (if_uncut f os) → Left {X = X} (Err f) os o
uncut_left {X = X} f os o m = go (is_cut f) refl m
  where
    go : (t : Bool) → is_cut f ≡ t → Memᴰ o (cond t [] os) → Left {X = X} (Err f) os o
    go true e k = elim k [ ]
    go false e k = record { calm = λ z. true≢false (sym (eq-eqb (reason_of f) 15 z) ∙ e); old = k }

calm_left : {X : Type 0} (a : Result X ExchangeFault) (os : List Opening) (o : Opening) → Memᴰ o (if_calm a os) → Left a os o
calm_left (Ok x) os o m = record { calm = tt; old = m }
calm_left (Err f) os o m = uncut_left f os o m

pub under_way_since : (h : History) (o : Opening) → Memᴰ o (under_way h) → Since h o
under_way_since [] o m = elim m [ ]
under_way_since (Stage bs a ∷ h) o m = let l = calm_left a (under_way h) o m in later (Stage bs a) h o l.calm (under_way_since h o l.old)
under_way_since (Write a ∷ h) o m = let l = calm_left a (under_way h) o m in later (Write a) h o l.calm (under_way_since h o l.old)
under_way_since (Sync t room a ∷ h) o m = let l = calm_left a (under_way h) o m in later (Sync t room a) h o l.calm (under_way_since h o l.old)
under_way_since (Deliver r a ∷ h) o m = let l = calm_left a (under_way h) o m in later (Deliver r a) h o l.calm (under_way_since h o l.old)
under_way_since (Shelve r ∷ h) o m = later (Shelve r) h o tt (under_way_since h o m)
under_way_since (Snapshot a ∷ h) o m = let l = calm_left a (under_way h) o m in later (Snapshot a) h o l.calm (under_way_since h o l.old)
under_way_since (Restart ∷ h) o m = elim m [ ]
under_way_since (Open (Ok p) ∷ h) o m = new_or_old (under_way_since h o) (either_part (under_way h) (at_open h ∷ []) o m)
  where
    new_or_old : (Memᴰ o (under_way h) → Since h o) → Memᴰ o (under_way h) ⊎ Memᴰ o (at_open h ∷ []) → Since (Open (Ok p) ∷ h) o
    new_or_old old (inl k) = later (Open (Ok p)) h o tt (old k)
    new_or_old old (inr (Memᴰ.head e)) = record { since = []; before = h; page = p; split = refl; calm = tt; is = e }
    new_or_old old (inr (Memᴰ.tail k)) = elim k [ ]
under_way_since (Open (Err f) ∷ h) o m = let l = uncut_left {X = PageNumber} f (under_way h) o m in later (Open (Err f)) h o l.calm (under_way_since h o l.old)
under_way_since (Replay room a ∷ h) o m = let l = calm_left a (under_way h) o m in later (Replay room a) h o l.calm (under_way_since h o l.old)

-- what was handed out since an open stands behind what was handed out before it
drop_front : {X : Type 0} (xs ys : List X) → drop (length xs) (xs ++ ys) ≡ ys
drop_front [] ys = refl
drop_front (x ∷ xs) ys = drop_front xs ys

handed_split : (since before : History) (p : PageNumber) → handed_out (since ++ (Open (Ok p) ∷ before)) ≡ handed_out before ++ handed_out since
handed_split [] before p = refl
handed_split (e ∷ since) before p = ap (λ z. z ++ handed_by e) (handed_split since before p) ∙ append_assoc (handed_out before) (handed_out since) (handed_by e)

pub handed_since : (since before : History) (p : PageNumber) → drop (length (handed_out before)) (handed_out (since ++ (Open (Ok p) ∷ before))) ≡ handed_out since
handed_since since before p = ap (drop (length (handed_out before))) (handed_split since before p) ∙ drop_front (handed_out before) (handed_out since)

module _ {S : Type 0} (w : World S) where
  -- the promise of openings, in its own words
  abbrev pub OpeningsKept : History → Type 0
  OpeningsKept h = (later since before : History) (room : ℕ) (p : PageNumber) → h ≡ later ++ (Replay room (Ok None) ∷ (since ++ (Open (Ok p) ∷ before))) → Calm since →
      (n : Notice) → Memᴰ n (record_notices w (recorded (since ++ (Open (Ok p) ∷ before)))) → highest_delivered before < n.number.0 → Memᴰ n (handed_out since)

  kept_before : (e : Event) (h : History) → OpeningsKept (e ∷ h) → OpeningsKept h
  kept_before e h k later since before room p s = k (e ∷ later) since before room p (ap (λ z. e ∷ z) s)

  kept_at : (e : Event) (h : History) → OpeningsKept (e ∷ h) → ServesAt w e h
  kept_at (Stage bs a) h k = tt
  kept_at (Write a) h k = tt
  kept_at (Sync t room a) h k = tt
  kept_at (Deliver r a) h k = tt
  kept_at (Shelve r) h k = tt
  kept_at (Snapshot a) h k = tt
  kept_at Restart h k = tt
  kept_at (Open a) h k = tt
  kept_at (Replay room (Ok (Some x))) h k = tt
  kept_at (Replay room (Ok None)) h k = λ o m n a l.
      let s = under_way_since h o m in
      let split = ap (λ z. Replay room (Ok None) ∷ z) s.split in
      let among = subst (λ z. Memᴰ n (record_notices w (recorded z))) s.split a in
      let above = subst (λ (z : Opening). z.above < n.number.0) s.is l in
      let handed = k [] s.since s.before room s.page split s.calm n among above in
      subst (Memᴰ n) (sym (ap (λ (z : Opening). drop z.from (handed_out h)) s.is ∙ ap (λ z. drop (length (handed_out s.before)) (handed_out z)) s.split ∙ handed_since s.since s.before s.page)) handed
  kept_at (Replay room (Err f)) h k = tt

  pub serves_kept : (h : History) → OpeningsKept h → Serves w h
  serves_kept [] k = tt
  serves_kept (e ∷ h) k = (serves_kept h (kept_before e h k), kept_at e h k)

  pub kept_serves : (h : History) → Serves w h → OpeningsKept h
  kept_serves [] s [] since before room p e = absurd (nil≢cons e)
  kept_serves [] s (x ∷ after) since before room p e = absurd (nil≢cons e)
  kept_serves (e ∷ h) (s, t) (x ∷ after) since before room p q = kept_serves h s after since before room p (tail-eq_of_cons-eq q)
  kept_serves (e ∷ h) (s, t) [] since before room p q = λ c n a l.
      let now : ServesAt w (Replay room (Ok None)) h = subst (λ z. ServesAt w z h) (head-eq_of_cons-eq q) t in
      let all : AllServed w (recorded (since ++ (Open (Ok p) ∷ before))) (handed_out (since ++ (Open (Ok p) ∷ before))) (under_way (since ++ (Open (Ok p) ∷ before))) = subst (λ z. AllServed w (recorded z) (handed_out z) (under_way z)) (tail-eq_of_cons-eq q) now in
      subst (Memᴰ n) (handed_since since before p) (all (at_open before) (begun since before p c) n a l)
