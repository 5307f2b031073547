-- An exchange just set up keeps the invariant.
use Rattle.std.proofs.Common.{◌≡◌, ℕ, zero, suc, ◌+◌, ◌<◌, ◌≤◌, true, ◌≢◌, List, [], ◌∷◌, ◌++◌, sym, refl, ap, ◌∙◌, subst, true≢false, arith}
use native.Mathlib.Decide.{dec_le}
use Rattle.records.proofs.SectorLaws.{none_some}
use Rattle.device.specs.Meaning.{Meaning, bytes}
use Rattle.device.specs.declared.run.Operation.{Operation}
use Rattle.journal.specs.Places.{journal}
use Rattle.journal.specs.declared.slots.Slot.TheVariants.{Zero}
use Rattle.device.specs.declared.run.Operation.TheVariants as op
use Rattle.protocol.specs.Worlds.{World, blank, looks, header_image, part, body_at}
use Rattle.protocol.specs.Steps.{State, blanks, body_ops, seal_ops, set_up_ops, shown, SetUp}
use Rattle.protocol.proofs.Devices.{Did, Ran, AllInside, inside_append, all_did}
use Rattle.protocol.proofs.Codecs.{Laws}
use Rattle.protocol.proofs.Lists.{none_left}
use Rattle.protocol.proofs.Safe.{bytes_inj, May, Whole, Single, did_whole, synced_reads, synced_single, wrote_reads}
use Rattle.protocol.proofs.Watches.{watch}
use Rattle.protocol.proofs.Inv.{Inv}

ran_append : (m m' : Meaning) (xs ys : List Operation) → Ran m (xs ++ ys) m' → (k : Meaning) × Ran m xs k × Ran k ys m'
ran_append m m' [] ys r = (m, refl, r)
ran_append m m' (o ∷ xs) ys (k, d, r) = let (q, a, b) = ran_append k m' xs ys r in (q, (k, d, a), b)

module _ {S : Type 0} (w : World S) (laws : Laws w) where
  pub record Blanked (m m' : Meaning) (a n : ℕ) : Type 0 where
    whole : Whole w laws m'
    below : (s : ℕ) → s < a → m'.reads s ≡ m.reads s
    blank : (s : ℕ) → a ≤ s → s < a + n → m'.reads s ≡ bytes (blank)

  blanked : (m m' : Meaning) (a n : ℕ) → Whole w laws m → a + n ≤ w.size → Ran m (blanks a n) m' → Blanked m m' a n
  blanked m m' a zero h u e = record { whole = subst (Whole w laws) (sym e) h; below = λ s l. ap (λ (z : Meaning). z.reads s) e; blank = λ s l u. absurd (omega arith) }
  blanked m m' a (suc n) h u (k, d, r) =
      let i = blanked k m' (suc a) n (did_whole w laws h d) (omega arith) r in
      record {
        whole = i.whole;
        below = λ s l. i.below s (omega arith) ∙ wrote_reads w laws h d s (omega arith) (λ e. omega arith);
        blank = λ s l v. pick i s l v (dec_le (suc a) s);
      }
    where
      pick : Blanked k m' (suc a) n → (s : ℕ) → a ≤ s → s < a + suc n → Dec (suc a ≤ s) → m'.reads s ≡ bytes (blank)
      pick i s l v (yes g) = i.blank s g (omega arith)
      pick i s l v (no g) = let e : s ≡ a = omega arith in i.below s (omega arith) ∙ ap k.reads e ∙ d.contents.0

  -- what is read after set up, and that nothing else is possible
  pub record Ready (m : Meaning) : Type 0 where
    whole : Whole w laws m
    single : Single w laws m
    head : m.reads 0 ≡ bytes (header_image w 0 0 0)
    body : (i : ℕ) → i < 3 → m.reads (body_at Zero i) ≡ bytes (part w w.rules.start i)
    other_head : m.reads 4 ≡ bytes (blank)
    blank : (s : ℕ) → 8 ≤ s → s < w.size → m.reads s ≡ bytes (blank)

  ready : (m m' : Meaning) → m.size ≡ w.size → Ran m (set_up_ops w) m' → Ready m'
  ready m m' size (k₁, d₁, (k₂, d₂, (k₃, d₃, r))) =
      let (k₄, b, (k₅, d₅, (k₆, d₆, (k₇, d₇, (k₈, d₈, (k₉, d₉, (k, d, e))))))) = ran_append k₃ m' (blanks 8 (journal w.size)) _ r in
      subst Ready (sym e) (go k₄ k₅ k₆ k₇ k₈ k₉ k (blanked k₃ k₄ 8 (journal w.size) whole₃ (let h = laws.roomy in omega arith) b) d₅ d₆ d₇ d₈ d₉ d)
    where
      whole₃ : Whole w laws k₃
      whole₃ = record { size = d₃.size ∙ d₂.size ∙ d₁.size ∙ size; lawful = d₃.lawful }

      z : List ℕ
      z = header_image w 0 0 0

      go : (k₄ k₅ k₆ k₇ k₈ k₉ k : Meaning) → Blanked k₃ k₄ 8 (journal w.size) → Did k₄ (op.Write 1 (part w w.rules.start 0)) k₅ → Did k₅ (op.Write 2 (part w w.rules.start 1)) k₆ → Did k₆ (op.Write 3 (part w w.rules.start 2)) k₇
          → Did k₇ op.Sync k₈ → Did k₈ (op.Write 0 z) k₉ → Did k₉ op.Sync k → Ready k
      go k₄ k₅ k₆ k₇ k₈ k₉ k b d₅ d₆ d₇ d₈ d₉ d = record {
        whole = did_whole w laws h₉ d;
        single = synced_single w laws h₉ d;
        head = synced_reads w laws h₉ d 0 (low 0 (omega arith)) ∙ d₉.contents.0;
        body = bodies;
        other_head = late 4 (low 4 (omega arith)) (omega arith) ∙ early 4 (low 4 (omega arith)) (omega arith) (omega arith) (omega arith) ∙ b.below 4 (omega arith) ∙ d₃.contents.0;
        blank = λ s l u. late s u (omega arith) ∙ early s u (omega arith) (omega arith) (omega arith) ∙ b.blank s l (let h = laws.roomy in omega arith);
      }
        where
          low : (s : ℕ) → s < 8 → s < w.size
          low s l = let h = laws.roomy in omega arith

          h₅ : Whole w laws k₅
          h₅ = did_whole w laws b.whole d₅

          h₆ : Whole w laws k₆
          h₆ = did_whole w laws h₅ d₆

          h₇ : Whole w laws k₇
          h₇ = did_whole w laws h₆ d₇

          h₈ : Whole w laws k₈
          h₈ = did_whole w laws h₇ d₈

          h₉ : Whole w laws k₉
          h₉ = did_whole w laws h₈ d₉

          late : (s : ℕ) → s < w.size → s ≢ 0 → k.reads s ≡ k₇.reads s
          late s l n = synced_reads w laws h₉ d s l ∙ wrote_reads w laws h₈ d₉ s l n ∙ synced_reads w laws h₇ d₈ s l

          early : (s : ℕ) → s < w.size → s ≢ 1 → s ≢ 2 → s ≢ 3 → k₇.reads s ≡ k₄.reads s
          early s l n₁ n₂ n₃ = wrote_reads w laws h₆ d₇ s l n₃ ∙ wrote_reads w laws h₅ d₆ s l n₂ ∙ wrote_reads w laws b.whole d₅ s l n₁

          bodies : (i : ℕ) → i < 3 → k.reads (body_at Zero i) ≡ bytes (part w w.rules.start i)
          bodies zero l = late 1 (low 1 (omega arith)) (omega arith) ∙ wrote_reads w laws h₆ d₇ 1 (low 1 (omega arith)) (omega arith) ∙ wrote_reads w laws h₅ d₆ 1 (low 1 (omega arith)) (omega arith) ∙ d₅.contents.0
          bodies (suc zero) l = late 2 (low 2 (omega arith)) (omega arith) ∙ wrote_reads w laws h₆ d₇ 2 (low 2 (omega arith)) (omega arith) ∙ d₆.contents.0
          bodies (suc (suc zero)) l = late 3 (low 3 (omega arith)) (omega arith) ∙ d₇.contents.0
          bodies (suc (suc (suc i))) l = absurd (omega arith)

  blanks_inside : (a n : ℕ) → a + n ≤ w.size → AllInside w.size (blanks a n)
  blanks_inside a zero l = tt
  blanks_inside a (suc n) l = (omega arith, blanks_inside (suc a) n (omega arith))

  inside : AllInside w.size (set_up_ops w)
  inside =
      let r = laws.roomy in
      (tt, (omega arith, (omega arith, inside_append w.size (blanks 8 (journal w.size)) (body_ops w Zero w.rules.start ++ seal_ops w Zero 0 0 0) (blanks_inside 8 (journal w.size) (omega arith)) (omega arith, (omega arith, (omega arith, (tt, (omega arith, (tt, tt)))))))))

  pub set_up_inv : {x : State S} (earlier : Meaning) → SetUp w earlier x → Inv w laws (watch []) x
  set_up_inv earlier s =
      let r = ready earlier s.device s.size (all_did earlier s.device (set_up_ops w) (subst (λ z. AllInside z (set_up_ops w)) (sym s.size) inside) s.did) in
      subst (Inv w laws _) (sym s.result) (record {
        house = refl;
        mark = omega arith;
        at = record {
          front = [];
          rested = record {
            safe = record {
              whole = r.whole;
              full = tt;
              total = omega arith;
              rest = [];
              front = refl;
              head = λ q h. r.single _ q h ∙ r.head;
              body = λ i l q h. r.single _ q h ∙ r.body i l;
              bound = omega arith;
              pages = λ es p ls e. absurd (none_left es p ls e);
              strays = λ a l u b h q k. absurd (no_page r a l u b h q k);
            };
            settled = λ q h g e. absurd (none_some _ (sym (ap (shown w) (r.single _ q h ∙ r.other_head) ∙ laws.zeros_no_header) ∙ e));
          };
          covered = refl;
          over = record { pages = refl; commands = refl; notices = refl; market = refl };
          staged = refl;
          clean = λ a l u b h q k. absurd (no_page r a l u b h q k);
          few = omega arith;
          each = refl;
          limit = omega arith;
        };
      })
    where
      no_page : {m : Meaning} → Ready m → (a : ℕ) → 8 ≤ a → a < w.size → (b : List ℕ) → May w laws m a (bytes b) → (q : ℕ) → looks w b q ≡ true → ⊥
      no_page r a l u b h q k =
          let e = bytes_inj (bytes b) b (blank) refl (r.single a _ h ∙ r.blank a l u) in
          true≢false (sym k ∙ ap (λ z. looks w z q) e ∙ laws.zeros_look q)
