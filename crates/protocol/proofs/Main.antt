-- Every run keeps the promises.
use Rattle.std.proofs.Common.{◌≡◌, ℕ, ◌<◌, ◌≤◌, Bool, true, false, cond, ◌≢◌, List, [], ◌∷◌, ◌++◌, Some, None, Ok, Err, Option, sym, refl, ap, ◌∙◌, subst, inl, inr, append_assoc, append-nil, arith, eq-eqb, ne_eqb}
use Rattle.std.proofs.lemmas.Option.{same_Some}
use mathlib.Core.List.{Memᴰ}
use native.Mathlib.Decide.{dec_le}
use Rattle.records.specs.declared.notices.Notice.{Notice}
use Rattle.records.specs.declared.numbers.HouseNumber.{HouseNumber}
use Rattle.records.specs.declared.numbers.PageNumber.{PageNumber}
use Rattle.device.specs.Meaning.{Meaning, Lawful}
use Rattle.protocol.specs.declared.phases.Phase.{Phase}
use Rattle.protocol.specs.declared.phases.Phase.TheVariants.{Live, Written, Dark, Replaying}
use Rattle.protocol.specs.declared.faults.ExchangeFault.{ExchangeFault}
use Rattle.device.specs.declared.run.Operation.TheVariants as op
use Rattle.protocol.specs.Faults.{reason_of, cut_at}
use Rattle.protocol.specs.Worlds.{Rules, World, Fits}
use Rattle.protocol.specs.Steps.{Handed, Event, Stage, Write, Sync, Deliver, Shelve, Snapshot, Restart, Open, Replay, State, phase_number, reset, next_sector, set_up_ops, wake_ops, header_reads, body_reads, OpenCut, early, in_body, open_reasons, stage_reasons, write_reasons, sync_reasons, deliver_reasons, snapshot_reasons, replay_reasons, refused, broke, Step, SetUp, world_of, SetsUp}
use Rattle.protocol.specs.Promises.{History, Pages, Ledger, sends, empties, is_cut, note, ledger, recorded, highest_delivered, CalmEvent, Calm, handed_by, handed_out, DeliveredIn, Recovers, record_notices, OfRecord, Kept, EachKept, RunsOver, Promises, Run, PromisesHold, Grew}
use Rattle.protocol.specs.Witness.{MarketLaws}
use Rattle.protocol.proofs.Devices.{one_cut, ran_size, only_cut, then_cut}
use Rattle.protocol.proofs.Codecs.{Laws, laws_of}
use Rattle.protocol.proofs.Growth.{grows}
use Rattle.protocol.proofs.Reasons.{writes, may_deliver, snapshots, may_open, may_replay, Ordinary, ordinary}
use Rattle.protocol.proofs.Safe.{cut_whole}
use Rattle.protocol.proofs.Watches.{Opening, Watch, more, watch_sends, watch_broken, watch_note, watch, same_kept, same_highest}
use Rattle.protocol.proofs.Inv.{Inv, at_phase}
use Rattle.protocol.proofs.Calls.{cut_still, staged_keeps, wrote_keeps, write_cut_keeps, synced_keeps, synced_of_record, delivered_keeps, restarted_keeps, still_cut_keeps, stills_cut, whole_of}
use Rattle.protocol.proofs.Openings.{opened_keeps, never_17, never_18, never_19, replays, caught_up_keeps, caught_up_handed}
use Rattle.protocol.proofs.Snapshots.{snapshot_cut, snapshot_keeps}
use Rattle.protocol.proofs.Setting.{set_up_inv}

-- a cut is told as 15
cut_15 : (f : ExchangeFault) (s : ℕ) → f ≡ cut_at s → reason_of f ≡ 15
cut_15 f s e = ap reason_of e

not_dark : (p q : Phase) → p ≡ q → phase_number q ≢ 2 → p ≢ Dark
not_dark p q e n d = n (ap phase_number (sym e ∙ d))

module _ {S : Type 0} (w : World S) where
  -- a run within one world
  abbrev pub Walk : History → State S → Type 0
  Walk [] x = (earlier : Meaning) × SetUp w earlier x
  Walk (e ∷ h) x' = (x : State S) × Walk h x × Step w x e x'

module _ {S : Type 0} (w : World S) (laws : Laws w) where
  of_grows : {kept : Pages} {h : Handed} (more : Pages) → OfRecord w kept h → OfRecord w (kept ++ more) h
  of_grows more o = record {
    earlier = o.earlier;
    page = o.page;
    later = o.later ++ more;
    split = ap (λ z. z ++ more) o.split ∙ append_assoc o.earlier (o.page ∷ o.later) more;
    receipt = o.receipt;
    notices = o.notices;
  }

  kept_grows : (kept more : Pages) (e : Event) → Kept w kept e → Kept w (kept ++ more) e
  kept_grows kept more (Stage c a) k = k
  kept_grows kept more (Write a) k = k
  kept_grows kept more (Sync t room (Ok h)) k = of_grows more k
  kept_grows kept more (Sync t room (Err n)) k = k
  kept_grows kept more (Deliver r a) k = k
  kept_grows kept more (Shelve r) k = k
  kept_grows kept more (Snapshot a) k = k
  kept_grows kept more Restart k = k
  kept_grows kept more (Open (Ok p)) k = k
  kept_grows kept more (Open (Err n)) k = k
  kept_grows kept more (Replay room (Ok (Some h))) k = of_grows more k
  kept_grows kept more (Replay room (Ok None)) k = k
  kept_grows kept more (Replay room (Err n)) k = k

  each_grows : (kept more : Pages) (h : History) → EachKept w kept h → EachKept w (kept ++ more) h
  each_grows kept more [] k = k
  each_grows kept more (e ∷ h) (k, ks) = (kept_grows kept more e k, each_grows kept more h ks)

  each_after : (l l' : Ledger) (h : History) → Grew l l' → EachKept w l.kept h → EachKept w l'.kept h
  each_after l l' h (inl e) k = subst (λ z. EachKept w z h) (sym e) k
  each_after l l' h (inr (s, i, e)) k = subst (λ z. EachKept w z h) (sym e) (each_grows _ (s.page ∷ []) h k)

  -- a fault that leaves all as it was, and one that resets
  same : {l : Watch} {x x' : State S} (f : ExchangeFault) (b : Watch) → Ordinary f → x' ≡ x → Inv w laws l x → Inv w laws (cond (is_cut f) b l) x'
  same {l} f b p e i = rw (ne_eqb (reason_of f) 15 p.0) (subst (Inv w laws l) (sym e) i)

  falls : {x' : State S} (l : Watch) (f : ExchangeFault) (s : ℕ) (b : Watch) (m : Meaning) → f ≡ cut_at s → x' ≡ reset w m → Inv w laws b (reset w m) → Inv w laws (cond (is_cut f) b l) x'
  falls l f s b m p e i = rw (eq-eqb (reason_of f) 15 (cut_15 f s p)) (subst (Inv w laws b) (sym e) i)

  -- an opening that is cut has written nothing
  open_cut_keeps : {l : Watch} {x : State S} → Inv w laws l x → (m : Meaning) (s : ℕ) → Lawful m → OpenCut w x.device s m → Inv w laws (watch_broken l) (reset w m)
  open_cut_keeps {l} {x} i m s h (early c) =
      let k = stills_cut w laws x.device m (wake_ops ++ header_reads) (tt, (tt, (tt, (tt, tt)))) (whole_of w laws i) (one_cut x.device m (wake_ops ++ header_reads) s (tt, (tt, (tt, (tt, tt)))) h c) in
      still_cut_keeps w laws m k.0 k.1 i
  open_cut_keeps {l} {x} i m s h (in_body n r g e c) =
      let ops = wake_ops ++ body_reads g.slot in
      let k = stills_cut w laws x.device m ops (tt, (tt, (tt, (tt, (tt, tt))))) (whole_of w laws i) (one_cut x.device m ops s (tt, (tt, (tt, (tt, (tt, tt))))) h (then_cut x.device n m wake_ops (body_reads g.slot) s r c)) in
      still_cut_keeps w laws m k.0 k.1 i

  -- one event more
  keeps : {l : Watch} {x x' : State S} (e : Event) → Inv w laws l x → Step w x e x' → Inv w laws (watch_note e l) x'
  keeps (Stage bs (Ok n)) i s = staged_keeps w laws bs n i s
  keeps {l} {x} (Stage bs (Err f)) i (refused r a q e) = same f (watch_broken l) (ordinary (stage_reasons w x bs) (omega arith) f r a q) e i
  keeps (Stage bs (Err f)) i (broke a m h y e) = absurd y
  keeps (Write (Ok t)) i s = wrote_keeps w laws t i s
  keeps {l} {x} (Write (Err f)) i (refused r a q e) = same f (watch_broken (watch_sends l)) (ordinary (write_reasons w x) (omega arith) f r a q) e i
  keeps {l} {x} (Write (Err f)) i (broke a m h (s, q, c) e) = falls l f s (watch_broken (watch_sends l)) m q e (write_cut_keeps w laws i (writes w laws x a) m (only_cut x.device m _ s h c))
  keeps (Sync t room (Ok h)) i s = synced_keeps w laws t room h i s
  keeps {l} {x} (Sync t room (Err f)) i (refused r a q e) = same f (watch_broken l) (ordinary (sync_reasons w x t room) (omega arith) f r a q) e i
  keeps {l} {x} (Sync t room (Err f)) i (broke a m h (s, q, c) e) =
      let v = whole_of w laws i in
      let k = only_cut x.device m op.Sync s h c in
      falls l f s (watch_broken l) m q e (still_cut_keeps w laws m (cut_whole w laws v k) (cut_still w laws tt v k) i)
  keeps (Deliver r (Ok u)) i s = delivered_keeps w laws r i s
  keeps {l} {x} (Deliver d (Err f)) i (refused r a q e) = same f (watch_broken l) (ordinary (deliver_reasons w x d) (omega arith) f r a q) e i
  keeps (Deliver d (Err f)) i (broke a m h y e) = absurd y
  keeps {l} (Shelve r) i s = subst (Inv w laws l) (sym s) i
  keeps (Snapshot (Ok u)) i s = snapshot_keeps w laws i s
  keeps {l} {x} (Snapshot (Err f)) i (refused r a q e) = same f (watch_broken l) (ordinary (snapshot_reasons w x) (omega arith) f r a q) e i
  keeps {l} {x} (Snapshot (Err f)) i (broke a m h (s, q, c) e) = falls l f s (watch_broken l) m q e (snapshot_cut w laws i (snapshots w laws x a) m s h c)
  keeps Restart i s = restarted_keeps w laws i s
  keeps (Open (Ok p)) i s = opened_keeps w laws p i s
  keeps {l} {x} (Open (Err f)) i (refused r a q e) = same f (watch_broken l) (ordinary (open_reasons w x) (omega arith) f r a q) e i
  keeps {l} {x} (Open (Err f)) i (broke a m h (inl (s, q, c)) e) = falls l f s (watch_broken l) m q e (open_cut_keeps i m s h c)
  keeps {l} {x} (Open (Err f)) i (broke a m h (inr (inl y)) e) = absurd (never_17 w laws f m (at_phase w laws Dark (may_open w laws x a) i) y)
  keeps {l} {x} (Open (Err f)) i (broke a m h (inr (inr y)) e) = absurd (never_18 w laws f m (at_phase w laws Dark (may_open w laws x a) i) y)
  keeps {l} {x} (Replay room (Ok (Some h))) i s = (replays w laws room h i (at_phase w laws Replaying (may_replay w laws x room s.allowed) i) s).keeps
  keeps {l} {x} (Replay room (Ok None)) i s = caught_up_keeps w laws room i (at_phase w laws Replaying (may_replay w laws x room s.allowed) i) s
  keeps {l} {x} (Replay room (Err f)) i (refused r a q e) = same f (watch_broken l) (ordinary (replay_reasons w x room) (omega arith) f r a q) e i
  keeps {l} {x} (Replay room (Err f)) i (broke a m h (inl (s, q, c)) e) =
      let v = whole_of w laws i in
      let k = only_cut x.device m (op.Read (next_sector w x)) s h c in
      falls l f s (watch_broken l) m q e (still_cut_keeps w laws m (cut_whole w laws v k) (cut_still w laws tt v k) i)
  keeps {l} {x} (Replay room (Err f)) i (broke a m h (inr y) e) = absurd (never_19 w laws f m (at_phase w laws Replaying (may_replay w laws x room a) i) y)

  recovers_15 : (f : ExchangeFault) (s : ℕ) → f ≡ cut_at s → Recovers f
  recovers_15 f s e = let k = cut_15 f s e in (omega arith, omega arith, omega arith)

  kept : {l : Watch} {x : State S} (x' : State S) (e : Event) → Inv w laws l x → Step w x e x' → Kept w (watch_note e l).kept e
  kept x' (Stage bs a) i s = tt
  kept x' (Write a) i s = tt
  kept x' (Sync t room (Ok h)) i s = synced_of_record w laws t room h i s
  kept x' (Sync t room (Err f)) i s = tt
  kept x' (Deliver r a) i s = tt
  kept x' (Shelve r) i s = tt
  kept x' (Snapshot a) i s = tt
  kept x' Restart i s = tt
  kept x' (Open (Ok p)) i s = tt
  kept {l} {x} x' (Open (Err f)) i (refused r a q e) = let p = ordinary (open_reasons w x) (omega arith) f r a q in (p.1, p.2, p.3)
  kept x' (Open (Err f)) i (broke a m h (inl (s, q, c)) e) = recovers_15 f s q
  kept {l} {x} x' (Open (Err f)) i (broke a m h (inr (inl y)) e) = absurd (never_17 w laws f m (at_phase w laws Dark (may_open w laws x a) i) y)
  kept {l} {x} x' (Open (Err f)) i (broke a m h (inr (inr y)) e) = absurd (never_18 w laws f m (at_phase w laws Dark (may_open w laws x a) i) y)
  kept {l} {x} x' (Replay room (Ok (Some h))) i s = (replays w laws room h i (at_phase w laws Replaying (may_replay w laws x room s.allowed) i) s).true_receipt
  kept x' (Replay room (Ok None)) i s = tt
  kept {l} {x} x' (Replay room (Err f)) i (refused r a q e) = let p = ordinary (replay_reasons w x room) (omega arith) f r a q in (p.1, p.2, p.3)
  kept x' (Replay room (Err f)) i (broke a m h (inl (s, q, c)) e) = recovers_15 f s q
  kept {l} {x} x' (Replay room (Err f)) i (broke a m h (inr y) e) = absurd (never_19 w laws f m (at_phase w laws Replaying (may_replay w laws x room a) i) y)

  walk_inv : (h : History) (x : State S) → Walk w h x → Inv w laws (watch h) x × EachKept w (recorded h) h
  walk_inv [] x (earlier, s) = (set_up_inv w laws earlier s, tt)
  walk_inv (e ∷ h) x' (x, r, s) =
      let (i, k) = walk_inv h x r in
      (keeps e i s, (subst (λ z. Kept w z e) (same_kept (e ∷ h)) (kept x' e i s), each_after (ledger h) (note e (ledger h)) h (grows e (ledger h)) k))

  -- an opening that goes on: the exchange is not dark, and every receipt's notices are handed out in it
  quiet : (o : Option Opening) (a : ℕ) (ns : List Notice) → o ≡ Some (record { above = a; handed = ns }) → o ≡ Some (record { above = a; handed = ns ++ [] })
  quiet o a ns e = e ∙ (λ i. Some (record { above = a; handed = sym (append-nil ns) i }))

  calm : (f : ExchangeFault) (b l : Watch) (a : ℕ) (ns : List Notice) → reason_of f ≢ 15 → l.opening ≡ Some (record { above = a; handed = ns }) → (cond (is_cut f) b l).opening ≡ Some (record { above = a; handed = ns ++ [] })
  calm f b l a ns n e = rw (ne_eqb (reason_of f) 15 n) (quiet l.opening a ns e)

  abbrev GoesOn : Watch → State S → ℕ → List Notice → Type 0
  GoesOn l x a ns = (x.phase ≢ Dark) × (l.opening ≡ Some (record { above = a; handed = ns }))

  stays_lit : (x x' : State S) → x.phase ≢ Dark → x'.phase ≡ x.phase → x'.phase ≢ Dark
  stays_lit x x' n e d = n (sym e ∙ d)

  phase_of : (x x' : State S) → x' ≡ x → x'.phase ≡ x.phase
  phase_of x x' e = ap (λ (z : State S). z.phase) e

  goes_on : (l : Watch) (a : ℕ) (ns : List Notice) (x x' : State S) (e : Event) → Inv w laws l x → CalmEvent e → Step w x e x' → GoesOn l x a ns → GoesOn (watch_note e l) x' a (ns ++ handed_by e)
  goes_on l a ns x x' (Stage bs (Ok n)) i c s (d, o) = (stays_lit x x' d (phase_of _ x' s.result), quiet l.opening a ns o)
  goes_on l a ns x x' (Stage bs (Err f)) i c (refused r b q e) (d, o) = (stays_lit x x' d (phase_of x x' e), calm f (watch_broken l) l a ns c o)
  goes_on l a ns x x' (Stage bs (Err f)) i c (broke b m h y e) (d, o) = absurd y
  goes_on l a ns x x' (Write (Ok t)) i c s (d, o) = (not_dark _ Written (phase_of _ x' s.result) (omega arith), quiet l.opening a ns o)
  goes_on l a ns x x' (Write (Err f)) i c (refused r b q e) (d, o) = (stays_lit x x' d (phase_of x x' e), calm f (watch_broken (watch_sends l)) l a ns c o)
  goes_on l a ns x x' (Write (Err f)) i c (broke b m h (s, q, k) e) (d, o) = absurd (c (cut_15 f s q))
  goes_on l a ns x x' (Sync t room (Ok g)) i c s (d, o) = (not_dark _ Live (phase_of _ x' s.result) (omega arith), ap (more g.notices) o)
  goes_on l a ns x x' (Sync t room (Err f)) i c (refused r b q e) (d, o) = (stays_lit x x' d (phase_of x x' e), calm f (watch_broken l) l a ns c o)
  goes_on l a ns x x' (Sync t room (Err f)) i c (broke b m h (s, q, k) e) (d, o) = absurd (c (cut_15 f s q))
  goes_on l a ns x x' (Deliver r (Ok u)) i c s (d, o) = (stays_lit x x' d (phase_of _ x' s.result), quiet l.opening a ns o)
  goes_on l a ns x x' (Deliver g (Err f)) i c (refused r b q e) (d, o) = (stays_lit x x' d (phase_of x x' e), calm f (watch_broken l) l a ns c o)
  goes_on l a ns x x' (Deliver g (Err f)) i c (broke b m h y e) (d, o) = absurd y
  goes_on l a ns x x' (Shelve r) i c s (d, o) = (stays_lit x x' d (phase_of x x' s), quiet l.opening a ns o)
  goes_on l a ns x x' (Snapshot (Ok u)) i c s (d, o) = (stays_lit x x' d (phase_of _ x' s.result), quiet l.opening a ns o)
  goes_on l a ns x x' (Snapshot (Err f)) i c (refused r b q e) (d, o) = (stays_lit x x' d (phase_of x x' e), calm f (watch_broken l) l a ns c o)
  goes_on l a ns x x' (Snapshot (Err f)) i c (broke b m h (s, q, k) e) (d, o) = absurd (c (cut_15 f s q))
  goes_on l a ns x x' Restart i c s (d, o) = absurd c
  goes_on l a ns x x' (Open (Ok p)) i c s (d, o) = absurd (d (may_open w laws x s.allowed))
  goes_on l a ns x x' (Open (Err f)) i c (refused r b q e) (d, o) = (stays_lit x x' d (phase_of x x' e), calm f (watch_broken l) l a ns c o)
  goes_on l a ns x x' (Open (Err f)) i c (broke b m h y e) (d, o) = absurd (d (may_open w laws x b))
  goes_on l a ns x x' (Replay room (Ok (Some g))) i c s (d, o) = (not_dark _ Replaying (phase_of _ x' s.result) (omega arith), ap (more g.notices) o)
  goes_on l a ns x x' (Replay room (Ok None)) i c s (d, o) = (not_dark _ Live (phase_of _ x' s.result) (omega arith), quiet l.opening a ns o)
  goes_on l a ns x x' (Replay room (Err f)) i c (refused r b q e) (d, o) = (stays_lit x x' d (phase_of x x' e), calm f (watch_broken l) l a ns c o)
  goes_on l a ns x x' (Replay room (Err f)) i c (broke b m h (inl (s, q, k)) e) (d, o) = absurd (c (cut_15 f s q))
  goes_on l a ns x x' (Replay room (Err f)) i c (broke b m h (inr y) e) (d, o) = absurd (never_19 w laws f m (at_phase w laws Replaying (may_replay w laws x room b) i) y)

  since_open : (since before : History) (p : PageNumber) (x : State S) → Walk w (since ++ (Open (Ok p) ∷ before)) x → Calm since → GoesOn (watch (since ++ (Open (Ok p) ∷ before))) x (watch before).highest (handed_out since)
  since_open [] before p x' (x, r, s) c = (not_dark _ Replaying (phase_of _ x' s.result) (omega arith), refl)
  since_open (e ∷ since) before p x' (x, r, s) (c, cs) =
      let h = since ++ (Open (Ok p) ∷ before) in
      goes_on (watch h) (watch before).highest (handed_out since) x x' e (walk_inv h x r).0 c s (since_open since before p x r cs)

  walk_openings : (later since before : History) (room : ℕ) (p : PageNumber) (x : State S) → Walk w (later ++ (Replay room (Ok None) ∷ (since ++ (Open (Ok p) ∷ before)))) x → Calm since →
      (n : Notice) → Memᴰ n (record_notices w (recorded (since ++ (Open (Ok p) ∷ before)))) → highest_delivered before < n.number.0 → Memᴰ n (handed_out since)
  walk_openings (e ∷ later) since before room p x' (x, r, s) c n m a = walk_openings later since before room p x r c n m a
  walk_openings [] since before room p x' (x, r, s) c n m a =
      let g = since ++ (Open (Ok p) ∷ before) in
      let i = (walk_inv g x r).0 in
      let all = caught_up_handed w laws room i (at_phase w laws Replaying (may_replay w laws x room s.allowed) i) s in
      let o = (since_open since before p x r c).1 in
      let is : all.opening ≡ record { above = (watch before).highest; handed = handed_out since } = same_Some _ _ (sym all.is ∙ o) in
      let low : all.opening.above < n.number.0 = (let e1 = ap (λ (z : Opening). z.above) is in let e2 = same_highest before in omega arith) in
      subst (λ (z : Opening). Memᴰ n z.handed) is (all.each n (subst (λ z. Memᴰ n (record_notices w z)) (sym (same_kept g)) m) low)

  -- what was delivered
  later_too : {n : ℕ} {h : History} (e : Event) → DeliveredIn n h → DeliveredIn n (e ∷ h)
  later_too e d = record { receipt = d.receipt; kept = Memᴰ.tail d.kept; first = d.first; last = d.last }

  abbrev NoGap : History → ℕ → Type 0
  NoGap h top = (n : ℕ) → 1 ≤ n → n ≤ top → DeliveredIn n h

  unbroken : (h : History) (e : Event) (f : ExchangeFault) (b : Ledger) → b.highest ≡ highest_delivered h → NoGap h (highest_delivered h) → NoGap (e ∷ h) (cond (is_cut f) b (ledger h)).highest
  unbroken h e f b s g = go (is_cut f)
    where
      go : (t : Bool) → NoGap (e ∷ h) (cond t b (ledger h)).highest
      go true n l u = later_too e (g n l (let z = s in omega arith))
      go false n l u = later_too e (g n l u)

  gapless : (h : History) (e : Event) (x x' : State S) → x.mark ≤ highest_delivered h → Step w x e x' → NoGap h (highest_delivered h) → NoGap (e ∷ h) (highest_delivered (e ∷ h))
  gapless h (Stage bs (Ok k)) x x' i s g n l u = later_too _ (g n l u)
  gapless h (Stage bs (Err f)) x x' i s g n l u = unbroken h _ f (empties (ledger h)) refl g n l u
  gapless h (Write (Ok t)) x x' i s g n l u = later_too _ (g n l u)
  gapless h (Write (Err f)) x x' i s g n l u = unbroken h _ f (sends (ledger h)) refl g n l u
  gapless h (Sync t room (Ok a)) x x' i s g n l u = later_too _ (g n l u)
  gapless h (Sync t room (Err f)) x x' i s g n l u = unbroken h _ f (empties (ledger h)) refl g n l u
  gapless h (Deliver r (Ok a)) x x' i s g n l u = go (dec_le n (highest_delivered h))
    where
      go : Dec (n ≤ highest_delivered h) → DeliveredIn n (Deliver r (Ok a) ∷ h)
      go (yes k) = later_too _ (g n l k)
      go (no k) = record { receipt = r; kept = Memᴰ.head refl; first = (let f = may_deliver w laws x r s.allowed in omega arith); last = omega arith }
  gapless h (Deliver r (Err f)) x x' i s g n l u = unbroken h _ f (empties (ledger h)) refl g n l u
  gapless h (Shelve r) x x' i s g n l u = later_too _ (g n l u)
  gapless h (Snapshot (Ok a)) x x' i s g n l u = later_too _ (g n l u)
  gapless h (Snapshot (Err f)) x x' i s g n l u = unbroken h _ f (empties (ledger h)) refl g n l u
  gapless h Restart x x' i s g n l u = later_too _ (g n l u)
  gapless h (Open (Ok p)) x x' i s g n l u = later_too _ (g n l u)
  gapless h (Open (Err f)) x x' i s g n l u = unbroken h _ f (empties (ledger h)) refl g n l u
  gapless h (Replay room (Ok (Some a))) x x' i s g n l u = later_too _ (g n l u)
  gapless h (Replay room (Ok None)) x x' i s g n l u = later_too _ (g n l u)
  gapless h (Replay room (Err f)) x x' i s g n l u = unbroken h _ f (empties (ledger h)) refl g n l u

  walk_gapless : (h : History) (x : State S) → Walk w h x → NoGap h (highest_delivered h)
  walk_gapless [] x r n l u = absurd (omega arith)
  walk_gapless (e ∷ h) x' (x, r, s) n l u = gapless h e x x' (let m = (walk_inv h x r).0.mark in let k = same_highest h in omega arith) s (walk_gapless h x r) n l u

  walk_promises : (h : History) (x : State S) → Walk w h x → Promises w h x
  walk_promises h x r =
      let (i, k) = walk_inv h x r in
      record {
        lasting = k;
        live = λ e. subst (λ z. RunsOver w z x) (same_kept h) (at_phase w laws Live e i).over;
        growth = λ later before e p. grows e (ledger before);
        openings = λ later since before room p e. walk_openings later since before room p x (subst (λ z. Walk w z x) e r);
        no_gap = walk_gapless h x r;
      }

module _ {S : Type 0} (r : Rules S) (valid : S → Type 0) (m : MarketLaws r valid) where
  abbrev world : HouseNumber → ℕ → World S
  world house size = record { house = house; size = size; rules = r }

  -- house number and size never change: a run stays in the world that it was set up in
  record Walked (h : History) (x : State S) : Type 0 where
    house : HouseNumber
    size : ℕ
    fits : Fits (world house size)
    in_world : world_of r x ≡ world house size
    walk : Walk (world house size) h x

  walked : (h : History) (x : State S) → Run r h x → Walked h x
  walked [] x (earlier, s) = record { house = x.house; size = x.device.size; fits = s.fits; in_world = refl; walk = (earlier, s) }
  walked (e ∷ h) x' (x, run, s) =
      let k = walked h x run in
      let w = world k.house k.size in
      let laws = laws_of w k.fits valid m in
      let walk : Walk w (e ∷ h) x' = (x, k.walk, subst (λ z. Step z x e x') k.in_world s) in
      let i = (walk_inv w laws (e ∷ h) x' walk).0 in
      record { house = k.house; size = k.size; fits = k.fits; in_world = (λ j. record { house = i.house j; size = (whole_of w laws i).size j; rules = r }); walk = walk }

  pub promises_hold : PromisesHold r
  promises_hold h x run =
      let k = walked h x run in
      let w = world k.house k.size in
      subst (λ z. Promises z h x) (sym k.in_world) (walk_promises w (laws_of w k.fits valid m) h x k.walk)

-- a set-up exchange has an empty history
pub begins : {S : Type 0} (r : Rules S) (x x' : State S) (u : Unit {0}) → SetsUp r x (Ok u) x' → Run r [] x'
begins {S} r x x' u (a, s) = (x.device, subst (λ z. SetUp z x.device x') (sym in_world) s)
  where
    in_world : world_of r x' ≡ world_of r x
    in_world = λ i. record { house = ap (λ (z : State S). z.house) s.result i; size = (ap (λ (z : State S). z.device.size) s.result ∙ ran_size x.device s.device (set_up_ops (world_of r x)) s.did) i; rules = r }
