-- A snapshot keeps the invariant, wherever it is cut.
use Rattle.std.proofs.Common.{◌≡◌, ℕ, zero, suc, ◌<◌, ◌≤◌, ◌≢◌, ◌⊎◌, List, [], ◌++◌, length, Ok, Option, sym, ap, ◌∙◌, subst, inl, inr, append-nil, arith, length-append}
use Rattle.records.specs.LittleEndian.{le}
use Rattle.records.specs.Headers.{header_sector_bytes}
use Rattle.records.specs.declared.headers.Header.{Header}
use Rattle.records.proofs.SectorLaws.{none_some}
use Rattle.device.specs.Meaning.{Meaning, Lawful, Reading, bytes, torn}
use Rattle.device.specs.declared.run.Operation.{Operation}
use Rattle.journal.specs.Slots.{other, header_place}
use Rattle.journal.specs.declared.slots.Slot.{Slot}
use Rattle.journal.specs.declared.slots.Slot.TheVariants.{Zero, One}
use Rattle.protocol.specs.declared.phases.Phase.TheVariants.{Live}
use Rattle.device.specs.declared.run.Operation.TheVariants as op
use Rattle.device.specs.Runs as runs
use Rattle.protocol.specs.Worlds.{World, part, body_at}
use Rattle.protocol.specs.Steps.{Snapshot, State, reset, covering, body_ops, seal_ops, snapshot_ops, shown, Snapshotted}
use Rattle.protocol.specs.Promises.{Pages, flat, Sent, market_after, notices_count}
use Rattle.protocol.proofs.Devices.{Did, Cut, Ran, CutWithin, AllInside, all_did, one_cut}
use Rattle.protocol.proofs.Codecs.{Laws}
use Rattle.protocol.proofs.Sectors.{below_journal, body_below}
use Rattle.protocol.proofs.Reasons.{Snapshots, snapshots}
use Rattle.protocol.proofs.Safe.{May, Whole, Shrinks, Gains, did_gains, cut_gains, did_whole, cut_whole, elsewhere, synced_only, synced_reads, synced_single, wrote_reads, head_within, body_within, head_of, Saved, Clean, Safe, Behind, Rising, rising_shrinks, safe_shrinks, safe_aside, Rested, risen}
use Rattle.protocol.proofs.Watches.{Watch, watch_broken, watch_note}
use Rattle.protocol.proofs.Inv.{AtLive, Inv, at_phase, inv_at, Covers, covers_shrinks, resets}
use Rattle.protocol.proofs.Calls.{did_still, cut_still}

head_body : (t : Slot) (i : ℕ) → i < 3 → header_place t ≢ body_at (other t) i
head_body Zero i l e = omega arith
head_body One i l e = omega arith

bodies_apart : (t : Slot) (i j : ℕ) → i < 3 → j < 3 → body_at t i ≢ body_at (other t) j
bodies_apart Zero i j l k e = omega arith
bodies_apart One i j l k e = omega arith

own_head : (t : Slot) (i : ℕ) → header_place t ≢ body_at t i
own_head t i e = omega arith

heads_apart : (t : Slot) → header_place t ≢ header_place (other t)
heads_apart Zero e = omega arith
heads_apart One e = omega arith

body_head : (t : Slot) (i : ℕ) → i < 3 → body_at t i ≢ header_place (other t)
body_head Zero i l e = omega arith
body_head One i l e = omega arith

module _ {S : Type 0} (w : World S) (laws : Laws w) where
  -- the body is written to the slot that does not cover
  module _ {kept : Pages} {sent : Option Sent} {highest : ℕ} {m m' : Meaning} {t : Slot} {f : Pages} where
    rested_shrinks : Whole w laws m' → Shrinks w laws m m' → Rested w laws kept sent highest m t f → Rested w laws kept sent highest m' t f
    rested_shrinks wh le v = record { safe = safe_shrinks w laws wh le v.safe; settled = λ r h. v.settled r (le _ r h) }

    rested_body : (i : ℕ) → i < 3 → (b : List ℕ) → Whole w laws m' → Gains w laws m (op.Write (body_at (other t) i) b) m' → Rested w laws kept sent highest m t f → Rested w laws kept sent highest m' t f
    rested_body i l b wh n v = record {
      safe = safe_aside w laws (body_at (other t) i) b wh n (body_below (other t) i l) (head_body t i l) (λ j k. bodies_apart t j i k l) v.safe;
      settled = λ r h. v.settled r (elsewhere w laws m m' _ b n _ (own_head (other t) i) r h);
    }

  -- then its header, over a body that nothing can change any more
  module _ {kept : Pages} {sent : Option Sent} {highest : ℕ} {m m' : Meaning} {t : Slot} {f : Pages} (v : Rested w laws kept sent highest m t f) (b : Saved w laws m (other t) kept)
      (longer : length f < length kept) (bound : notices_count w kept ≤ highest) (wh : Whole w laws m') (n : Gains w laws m (op.Write (header_place (other t)) (header_sector_bytes (head_of w laws kept))) m') where
    header_safe : Safe w laws kept sent highest m' t f
    header_safe = safe_aside w laws _ _ wh n (below_journal (other t)) (heads_apart t) (λ i l. body_head t i l) v.safe

    header_rises : Rising w laws kept highest m' t f kept
    header_rises = record {
      rest = [];
      front = sym (append-nil kept);
      longer = longer;
      body = λ i l r h. b i l r (elsewhere w laws m m' _ _ n _ (λ e. own_head (other t) i (sym e)) r h);
      bound = bound;
      head = λ r h. go r (n _ r h);
    }
      where
        go : (r : Reading) → May w laws m (header_place (other t)) r ⊎ ((header_place (other t) ≡ header_place (other t)) × ((r ≡ bytes (header_sector_bytes (head_of w laws kept))) ⊎ (r ≡ torn))) → Behind w laws f r ⊎ (r ≡ bytes (header_sector_bytes (head_of w laws kept)))
        go r (inl h) = inl (v.settled r h)
        go r (inr (e, inl k)) = inr k
        go r (inr (e, inr k)) = inl (λ h g. absurd (none_some _ (sym (ap (shown w) k) ∙ g)))

  abbrev ops : Slot → S → ℕ → ℕ → ℕ → List Operation
  ops t s p c n = body_ops w (other t) s ++ seal_ops w (other t) p c n

  bodies_differ : (t : Slot) (i j : ℕ) → i ≢ j → body_at t i ≢ body_at t j
  bodies_differ t i j n e = n (omega arith)

  module _ {l : Watch} {x : State S} (i : Inv w laws l x) (a : Snapshots w laws x) where
    is_live : AtLive w laws l x
    is_live = at_phase w laws Live a.phase i

    abbrev t : Slot
    t = x.slot

    abbrev new : Header
    new = head_of w laws l.kept

    abbrev saved : S
    saved = market_after w l.kept

    abbrev saving : List Operation
    saving = ops t saved (length l.kept) (length (flat l.kept)) (notices_count w l.kept)

    abbrev Good : Meaning → Type 0
    Good m = Rested w laws l.kept l.sent l.highest m t is_live.front

    same_ops : snapshot_ops w x ≡ saving
    same_ops =
        let o = is_live.over in
        (λ j. ops t (o.market j) (o.pages j) (o.commands j) (o.notices j))

    longer : length is_live.front < length l.kept
    longer =
        let v = is_live in
        let n = a.newer in
        let c = v.covered in
        let p = v.over.pages in
        let e = ap length v.rested.safe.front ∙ length-append v.front v.rested.safe.rest in
        omega arith

    bound : notices_count w l.kept ≤ l.highest
    bound = let n = is_live.over.notices in let d = a.delivered in let k = i.mark in omega arith

    did_body : {m m' : Meaning} {b : List ℕ} (j : ℕ) → j < 3 → Did m (op.Write (body_at (other t) j) b) m' → Good m → Good m'
    did_body {m} {m'} {b} j k d g = rested_body {m = m} {m' = m'} j k b (did_whole w laws g.safe.whole d) (did_gains w laws g.safe.whole d) g

    cut_body : {m m' : Meaning} {b : List ℕ} (j : ℕ) → j < 3 → Cut m (op.Write (body_at (other t) j) b) m' → Good m → Good m'
    cut_body {m} {m'} {b} j k d g = rested_body {m = m} {m' = m'} j k b (cut_whole w laws g.safe.whole d) (cut_gains w laws g.safe.whole d) g

    -- the three writes
    module _ {k₁ k₂ k₃ : Meaning} (d₁ : Did x.device (op.Write (body_at (other t) 0) (part w saved 0)) k₁) (d₂ : Did k₁ (op.Write (body_at (other t) 1) (part w saved 1)) k₂)
        (d₃ : Did k₂ (op.Write (body_at (other t) 2) (part w saved 2)) k₃) where
      good₃ : Good k₃
      good₃ = did_body 2 (omega arith) d₃ (did_body 1 (omega arith) d₂ (did_body 0 (omega arith) d₁ is_live.rested))

      abbrev whole₁ : Whole w laws k₁
      whole₁ = did_whole w laws is_live.rested.safe.whole d₁

      abbrev whole₂ : Whole w laws k₂
      whole₂ = did_whole w laws whole₁ d₂

      shows : (j : ℕ) → j < 3 → k₃.reads (body_at (other t) j) ≡ bytes (part w saved j)
      shows zero k = wrote_reads w laws whole₂ d₃ _ (body_within w laws (other t) 0 k) (bodies_differ (other t) 0 2 (omega arith)) ∙ wrote_reads w laws whole₁ d₂ _ (body_within w laws (other t) 0 k) (bodies_differ (other t) 0 1 (omega arith)) ∙ d₁.contents.0
      shows (suc zero) k = wrote_reads w laws whole₂ d₃ _ (body_within w laws (other t) 1 k) (bodies_differ (other t) 1 2 (omega arith)) ∙ d₂.contents.0
      shows (suc (suc zero)) k = d₃.contents.0
      shows (suc (suc (suc j))) k = absurd (omega arith)

      -- and the sync
      module _ {k₄ : Meaning} (d₄ : Did k₃ op.Sync k₄) where
        good₄ : Good k₄
        good₄ = rested_shrinks {m = k₃} {m' = k₄} (did_whole w laws good₃.safe.whole d₄) (did_still w laws tt good₃.safe.whole d₄) good₃

        saved₄ : Saved w laws k₄ (other t) l.kept
        saved₄ j k r h = synced_only w laws good₃.safe.whole d₄ _ r h ∙ shows j k

        -- the header, written or cut
        risen₅ : (k₅ : Meaning) → Whole w laws k₅ → Gains w laws k₄ (op.Write (header_place (other t)) (header_sector_bytes new)) k₅ → Safe w laws l.kept l.sent l.highest k₅ t is_live.front × Rising w laws l.kept l.highest k₅ t is_live.front l.kept
        risen₅ k₅ wh n = (header_safe {m = k₄} {m' = k₅} good₄ saved₄ longer bound wh n, header_rises {m = k₄} {m' = k₅} good₄ saved₄ longer bound wh n)

    covered_by : {m : Meaning} → Good m → Covers w laws l m
    covered_by g = record { slot = t; front = is_live.front; safe = g.safe; newer = inl g.settled }

    rising_by : {m : Meaning} → Safe w laws l.kept l.sent l.highest m t is_live.front × Rising w laws l.kept l.highest m t is_live.front l.kept → Covers w laws l m
    rising_by g = record { slot = t; front = is_live.front; safe = g.0; newer = inr (l.kept, g.1) }

    cut_anywhere : (m : Meaning) → CutWithin x.device (saving) m → Covers w laws l m
    cut_anywhere m (inl c) = covered_by (cut_body 0 (omega arith) c is_live.rested)
    cut_anywhere m (inr (k₁, d₁, inl c)) = covered_by (cut_body 1 (omega arith) c (did_body 0 (omega arith) d₁ is_live.rested))
    cut_anywhere m (inr (k₁, d₁, inr (k₂, d₂, inl c))) = covered_by (cut_body 2 (omega arith) c (did_body 1 (omega arith) d₂ (did_body 0 (omega arith) d₁ is_live.rested)))
    cut_anywhere m (inr (k₁, d₁, inr (k₂, d₂, inr (k₃, d₃, inl c)))) = (let g = good₃ d₁ d₂ d₃ in covered_by (rested_shrinks {m = k₃} {m' = m} (cut_whole w laws g.safe.whole c) (cut_still w laws tt g.safe.whole c) g))
    cut_anywhere m (inr (k₁, d₁, inr (k₂, d₂, inr (k₃, d₃, inr (k₄, d₄, inl c))))) = (let h = (good₄ d₁ d₂ d₃ d₄).safe.whole in rising_by (risen₅ d₁ d₂ d₃ d₄ m (cut_whole w laws h c) (cut_gains w laws h c)))
    cut_anywhere m (inr (k₁, d₁, inr (k₂, d₂, inr (k₃, d₃, inr (k₄, d₄, inr (k₅, d₅, inl c)))))) =
        let h = (good₄ d₁ d₂ d₃ d₄).safe.whole in
        let h₅ = did_whole w laws h d₅ in
        covers_shrinks w laws {l = l} {m = k₅} {m' = m} (cut_whole w laws h₅ c) (cut_still w laws tt h₅ c) (rising_by (risen₅ d₁ d₂ d₃ d₄ k₅ h₅ (did_gains w laws h d₅)))
    cut_anywhere m (inr (k₁, d₁, inr (k₂, d₂, inr (k₃, d₃, inr (k₄, d₄, inr (k₅, d₅, inr (k₆, d₆, c))))))) = absurd c

    inside : AllInside x.device.size (snapshot_ops w x)
    inside =
        let e = is_live.rested.safe.whole.size in
        let b : (j : ℕ) → j < 3 → body_at (other t) j < x.device.size = (λ j k. let r = body_within w laws (other t) j k in omega arith) in
        (b 0 (omega arith), (b 1 (omega arith), (b 2 (omega arith), (tt, ((let r = head_within w laws (other t) in omega arith), (tt, tt))))))

    pub snapshot_cut : (m : Meaning) (s : ℕ) → Lawful m → runs.CutIn x.device (snapshot_ops w x) s m → Inv w laws (watch_broken l) (reset w m)
    snapshot_cut m s h c = resets w laws (cut_anywhere m (subst (λ o. CutWithin x.device o m) same_ops (one_cut x.device m (snapshot_ops w x) s inside h c)))

    -- all six done
    record Done (m : Meaning) : Type 0 where
      rested : Rested w laws l.kept l.sent l.highest m (other t) l.kept
      clean : Clean w laws l.kept m

    far : {k k' : Meaning} {s : ℕ} {b : List ℕ} → s < 8 → Whole w laws k → Did k (op.Write s b) k' → Clean w laws l.kept k → Clean w laws l.kept k'
    far {k} {k'} {s} {b} lt h d c a le u z m = c a le u z (elsewhere w laws k k' s b (did_gains w laws h d) a (λ e. omega arith) _ m)

    near : {k k' : Meaning} → Whole w laws k → Did k op.Sync k' → Clean w laws l.kept k → Clean w laws l.kept k'
    near h d c a le u z m = c a le u z (did_still w laws tt h d _ _ m)

    all_done : (m : Meaning) → Ran x.device (saving) m → Done m
    all_done m (k₁, d₁, (k₂, d₂, (k₃, d₃, (k₄, d₄, (k₅, d₅, (k₆, d₆, e)))))) =
        let h = is_live.rested.safe.whole in
        let h₁ = did_whole w laws h d₁ in
        let h₂ = did_whole w laws h₁ d₂ in
        let h₃ = did_whole w laws h₂ d₃ in
        let h₄ = did_whole w laws h₃ d₄ in
        let h₅ = did_whole w laws h₄ d₅ in
        let r = risen₅ d₁ d₂ d₃ d₄ k₅ h₅ (did_gains w laws h₄ d₅) in
        let le = did_still w laws tt h₅ d₆ in
        subst Done (sym e) (record {
          rested = risen w laws (safe_shrinks w laws {m = k₅} {m' = k₆} (did_whole w laws h₅ d₆) le r.0) (rising_shrinks w laws {m = k₅} {m' = k₆} le r.1) (synced_single w laws h₅ d₆) (synced_reads w laws h₅ d₆ _ (head_within w laws (other t)) ∙ d₅.contents.0);
          clean = near h₅ d₆ (far (below_journal (other t)) h₄ d₅ (near h₃ d₄ (far (body_below (other t) 2 (omega arith)) h₂ d₃ (far (body_below (other t) 1 (omega arith)) h₁ d₂ (far (body_below (other t) 0 (omega arith)) h d₁ is_live.clean)))));
        })

  pub snapshot_keeps : {l : Watch} {x x' : State S} → Inv w laws l x → Snapshotted w x x' → Inv w laws (watch_note (Snapshot (Ok tt)) l) x'
  snapshot_keeps {l} {x} i s =
      let a = snapshots w laws x s.allowed in
      let v = at_phase w laws Live a.phase i in
      let d = all_done i a s.device (subst (λ o. Ran x.device o s.device) (same_ops i a) (all_did x.device s.device (snapshot_ops w x) (inside i a) s.did)) in
      subst (Inv w laws _) (sym s.result) (inv_at w laws l (covering w s.device x) Live a.phase i.house i.mark (record {
        front = l.kept;
        rested = d.rested;
        covered = v.over.pages;
        over = record { pages = v.over.pages; commands = v.over.commands; notices = v.over.notices; market = v.over.market };
        staged = v.staged;
        clean = d.clean;
        few = v.few;
        each = v.each;
        limit = v.limit;
      }))
