-- Sectors made equal in both halves.
use Rattle.std.proofs.Common.{◌≡◌, ℕ, ◌+◌, ◌<◌, min, true, false, ◌&&◌, ◌⊎◌, List, Ok, Err, sym, refl, ap, ◌∙◌, subst, inl, inr, ⊎_elim, arith}
use Rattle.std.proofs.lemmas.Bool.{or_left, or_right, or_cases, and_from, and_parts, cases_eq, and_left, and_right}
use Rattle.device.specs.Meaning.{Meaning, Reading, bytes, torn, Contents, ◌∈◌, Lawful}
use Rattle.device.specs.declared.fault.DeviceFault.{DeviceFault}
use Rattle.device.specs.declared.fault.DeviceFault.TheVariants.{OutOfRange, Cut, Torn}
use Rattle.device.specs.Shift.{told_below}
use Rattle.device.specs.Calls.{Answer, DidSync, Moved, WasCut, Written, Synced, Kept, Joined}
use Rattle.mirror.specs.Halves.{either, both, mirrored, either_in, Level}
use Rattle.mirror.specs.Mends.{SyncsBoth, MendedOne, CutOne, Tight, Mended, MendsOne, MendsAll}
use Rattle.mirror.proofs.Moves.{from_same, from_synced, after_moved, pair_kept, half_dark, either_torn, either_bytes}

never_torn : (xs : List ℕ) → bytes xs ≡ torn → ⊥
never_torn xs e = let z : ◌≡◌ {A = ℕ} 0 1 = cc in omega arith

either_same : (x y z : Reading) → x ≡ z → y ≡ z → either x y ≡ z
unfolding either
either_same (bytes xs) y z e f = e
either_same torn y z e f = f

from_a : (S T : Contents) (u v : Reading) → u ∈ S → v ∈ T → (xs : List ℕ) → (bytes xs ≡ u) ⊎ ((bytes xs ≡ either u v) ⊎ (bytes xs ≡ torn)) → bytes xs ∈ both S T
unfolding both
from_a S T u v h k xs (inl e) = or_left _ _ (subst (λ (z : Reading). S z ≡ true) (sym e) h)
from_a S T u v h k xs (inr (inl e)) = subst (λ (z : Reading). both S T z ≡ true) (sym e) (either_in S T u v h k)
from_a S T u v h k xs (inr (inr e)) = absurd (never_torn xs e)

from_b : (S T : Contents) (u v : Reading) → u ∈ S → v ∈ T → (xs : List ℕ) → (bytes xs ≡ v) ⊎ ((bytes xs ≡ either u v) ⊎ (bytes xs ≡ torn)) → bytes xs ∈ both S T
unfolding both
from_b S T u v h k xs (inl e) = or_right _ _ (subst (λ (z : Reading). T z ≡ true) (sym e) k)
from_b S T u v h k xs (inr (inl e)) = subst (λ (z : Reading). both S T z ≡ true) (sym e) (either_in S T u v h k)
from_b S T u v h k xs (inr (inr e)) = absurd (never_torn xs e)

from_torn : (S T : Contents) (u v : Reading) → u ∈ S → v ∈ T → either u v ≡ torn → torn ∈ both S T
from_torn S T u v h k e = subst (λ (z : Reading). both S T z ≡ true) e (either_in S T u v h k)

-- what stands in the halves, and what may, is what the mirror might hold
point_left : (S T : Contents) (u v : Reading) → u ∈ S → v ∈ T → (x y : Reading) → (x ≡ u) ⊎ ((x ≡ either u v) ⊎ (x ≡ torn)) → (y ≡ v) ⊎ ((y ≡ either u v) ⊎ (y ≡ torn)) → (x ≡ torn → y ≡ torn → either u v ≡ torn) → either x y ∈ both S T
unfolding either
point_left S T u v h k (bytes xs) y p q t = from_a S T u v h k xs p
point_left S T u v h k torn (bytes ys) p q t = from_b S T u v h k ys q
point_left S T u v h k torn torn p q t = from_torn S T u v h k (t refl refl)

point_gain : (S T S' T' : Contents) (u v : Reading) → u ∈ S → v ∈ T → ((x : Reading) → x ∈ S' → (x ≡ u) ⊎ ((x ≡ either u v) ⊎ (x ≡ torn))) → ((x : Reading) → x ∈ T' → (x ≡ v) ⊎ ((x ≡ either u v) ⊎ (x ≡ torn))) → (torn ∈ S' → torn ∈ T' → either u v ≡ torn) → (x : Reading) → x ∈ both S' T' → x ∈ both S T
unfolding both
point_gain S T S' T' u v h k p q t (bytes xs) i = ⊎_elim (λ e. from_a S T u v h k xs (p (bytes xs) e)) (λ e. from_b S T u v h k xs (q (bytes xs) e)) (or_cases _ _ i)
point_gain S T S' T' u v h k p q t torn i = let e = and_parts _ _ i in from_torn S T u v h k (t e.0 e.1)

pub mend_start : (a b : Meaning) → Tight a → Tight b → Mended a b 0 a b
mend_start a b ta tb = record {
  size_a = refl;
  size_b = refl;
  near_a = λ s h k x i. inl (ta s h x i);
  near_b = λ s h k x i. inl (tb s k x i);
  never = λ s h k i j. either_torn _ _ _ (sym (ta s h torn i)) (sym (tb s k torn j));
  done = λ s h k l. absurd (omega arith);
  rest = λ s h k l. (refl, refl, ta s h, tb s k);
  beyond_a = λ s h k. refl;
  beyond_b = λ s h k. refl;
}

joined_else : (m : Meaning) (at s : ℕ) (w : List ℕ) (x : Reading) → (s ≡ at → ⊥) → Joined m at w s x → x ∈ m.may s
joined_else m at s w x n (inl h) = h
joined_else m at s w x n (inr h) = absurd (n h.0)

-- half B is written
step_b : (a b m n n' : Meaning) (k : ℕ) (w : List ℕ) → Mended a b k m n → k < a.size → k < b.size → m.reads k ≡ bytes w → Written n k w n' → Mended a b (k + 1) m n'
step_b a b m n n' k w d ka kb e wr =
    let f = d.size_b in
    let r = d.rest k ka kb (omega arith) in
    let ak : a.reads k ≡ bytes w = sym r.0 ∙ e in
    let rk : (s : ℕ) → s ≡ k → either (a.reads s) (b.reads s) ≡ bytes w = λ s q. either_bytes _ _ w (ap (λ (z : ℕ). a.reads z) q ∙ ak) in
    record {
      size_a = d.size_a;
      size_b = wr.size ∙ f;
      near_a = d.near_a;
      near_b = λ s h l x i. elim (wr.gains s (omega arith) x i) [
        | inl j ↦ d.near_b s h l x j
        | inr j ↦ ⊎_elim (λ q. inr (inl (q ∙ sym (rk s j.0)))) (λ q. inr (inr q)) j.1
      ];
      never = λ s h l i j. elim (cases_eq s k) [
        | inl q ↦ absurd (never_torn w (sym (r.2 torn (subst (λ (z : ℕ). torn ∈ m.may z) q i) ∙ ak)))
        | inr q ↦ d.never s h l i (joined_else n k s w torn q (wr.gains s (omega arith) torn j))
      ];
      done = λ s h l q. elim (cases_eq s k) [
        | inl o ↦ (ap (λ (z : ℕ). m.reads z) o ∙ e ∙ sym (rk s o), ap (λ (z : ℕ). n'.reads z) o ∙ wr.here ∙ sym (rk s o))
        | inr o ↦ let p = d.done s h l (omega arith) in (p.0, wr.others s (omega arith) o ∙ p.1)
      ];
      rest = λ s h l q. let p = d.rest s h l (omega arith) in (p.0, wr.others s (omega arith) (λ o. omega arith) ∙ p.1, p.2, λ x i. p.3 x (joined_else n k s w x (λ o. omega arith) (wr.gains s (omega arith) x i)));
      beyond_a = d.beyond_a;
      beyond_b = λ s h l. wr.others s (omega arith) (λ o. omega arith) ∙ d.beyond_b s h l;
    }

-- half A is written
step_a : (a b m n m' : Meaning) (k : ℕ) (w : List ℕ) → Mended a b k m n → k < a.size → k < b.size → m.reads k ≡ torn → n.reads k ≡ bytes w → Written m k w m' → Mended a b (k + 1) m' n
step_a a b m n m' k w d ka kb t e wr =
    let f = d.size_a in
    let r = d.rest k ka kb (omega arith) in
    let ak : a.reads k ≡ torn = sym r.0 ∙ t in
    let bk : b.reads k ≡ bytes w = sym r.1 ∙ e in
    let rk : (s : ℕ) → s ≡ k → either (a.reads s) (b.reads s) ≡ bytes w = λ s q. either_torn _ _ _ (ap (λ (z : ℕ). a.reads z) q ∙ ak) (ap (λ (z : ℕ). b.reads z) q ∙ bk) in
    record {
      size_a = wr.size ∙ f;
      size_b = d.size_b;
      near_a = λ s h l x i. elim (wr.gains s (omega arith) x i) [
        | inl j ↦ d.near_a s h l x j
        | inr j ↦ ⊎_elim (λ q. inr (inl (q ∙ sym (rk s j.0)))) (λ q. inr (inr q)) j.1
      ];
      near_b = d.near_b;
      never = λ s h l i j. elim (cases_eq s k) [
        | inl q ↦ absurd (never_torn w (sym (r.3 torn (subst (λ (z : ℕ). torn ∈ n.may z) q j) ∙ bk)))
        | inr q ↦ d.never s h l (joined_else m k s w torn q (wr.gains s (omega arith) torn i)) j
      ];
      done = λ s h l q. elim (cases_eq s k) [
        | inl o ↦ (ap (λ (z : ℕ). m'.reads z) o ∙ wr.here ∙ sym (rk s o), ap (λ (z : ℕ). n.reads z) o ∙ e ∙ sym (rk s o))
        | inr o ↦ let p = d.done s h l (omega arith) in (wr.others s (omega arith) o ∙ p.0, p.1)
      ];
      rest = λ s h l q. let p = d.rest s h l (omega arith) in (wr.others s (omega arith) (λ o. omega arith) ∙ p.0, p.1, λ x i. p.2 x (joined_else m k s w x (λ o. omega arith) (wr.gains s (omega arith) x i)), p.3);
      beyond_a = λ s h l. wr.others s (omega arith) (λ o. omega arith) ∙ d.beyond_a s h l;
      beyond_b = d.beyond_b;
    }

-- both read alike, and nothing is written
step_same : (a b m n : Meaning) (k : ℕ) → Mended a b k m n → k < a.size → k < b.size → m.reads k ≡ n.reads k → Mended a b (k + 1) m n
step_same a b m n k d ka kb t =
    let r = d.rest k ka kb (omega arith) in
    let rk : either (a.reads k) (b.reads k) ≡ n.reads k = either_same _ _ _ (sym r.0 ∙ t) (sym r.1) in
    record {
      size_a = d.size_a;
      size_b = d.size_b;
      near_a = d.near_a;
      near_b = d.near_b;
      never = d.never;
      done = λ s h l q. elim (cases_eq s k) [
        | inl o ↦ let P : ℕ → Type 0 = λ z. (m.reads z ≡ either (a.reads z) (b.reads z)) × (n.reads z ≡ either (a.reads z) (b.reads z)) in subst P (sym o) (t ∙ sym rk, sym rk)
        | inr o ↦ d.done s h l (omega arith)
      ];
      rest = λ s h l q. d.rest s h l (omega arith);
      beyond_a = d.beyond_a;
      beyond_b = d.beyond_b;
    }

pub mend_step : (a b m n m' n' : Meaning) (k : ℕ) → Mended a b k m n → k < a.size → k < b.size → MendedOne m n k m' n' → Mended a b (k + 1) m' n'
mend_step a b m n m' n' k d ka kb (inl o) = subst (λ (z : Meaning). Mended a b (k + 1) z n') (sym o.1) (subst (λ (z : Meaning). Mended a b (k + 1) m z) (sym o.2) (step_same a b m n k d ka kb o.0))
mend_step a b m n m' n' k d ka kb (inr (inl o)) = subst (λ (z : Meaning). Mended a b (k + 1) z n') (sym o.3) (step_b a b m n n' k o.0 d ka kb o.1 o.4)
mend_step a b m n m' n' k d ka kb (inr (inr o)) = subst (λ (z : Meaning). Mended a b (k + 1) m' z) (sym o.3) (step_a a b m n m' k o.0 d ka kb o.1 o.2 o.4)

-- halves that moved within what is near
pair_near : (a b m n m' n' : Meaning) (P Q : ℕ → Reading → Type 0) → Lawful a → Lawful b → m.size ≡ a.size → n.size ≡ b.size → Moved m P m' → Moved n Q n'
    → ((s : ℕ) → s < a.size → s < b.size → (x : Reading) → P s x → (x ≡ a.reads s) ⊎ ((x ≡ either (a.reads s) (b.reads s)) ⊎ (x ≡ torn)))
    → ((s : ℕ) → s < a.size → s < b.size → (x : Reading) → Q s x → (x ≡ b.reads s) ⊎ ((x ≡ either (a.reads s) (b.reads s)) ⊎ (x ≡ torn)))
    → ((s : ℕ) → s < a.size → s < b.size → P s torn → Q s torn → either (a.reads s) (b.reads s) ≡ torn)
    → Moved (mirrored a b) (Kept (mirrored a b)) (mirrored m' n')
pair_near a b m n m' n' P Q la lb e f p q np nq nt =
    let e' = p.size in
    let f' = q.size in
    record {
      size = omega arith;
      left = λ s h. point_left (a.may s) (b.may s) (a.reads s) (b.reads s) (la.among s (omega arith)) (lb.among s (omega arith)) (m'.reads s) (n'.reads s) (np s (omega arith) (omega arith) _ (p.left s (omega arith))) (nq s (omega arith) (omega arith) _ (q.left s (omega arith)))
          (λ i j. nt s (omega arith) (omega arith) (subst (P s) i (p.left s (omega arith))) (subst (Q s) j (q.left s (omega arith))));
      gains = λ s h. point_gain (a.may s) (b.may s) (m'.may s) (n'.may s) (a.reads s) (b.reads s) (la.among s (omega arith)) (lb.among s (omega arith)) (λ x i. np s (omega arith) (omega arith) x (p.gains s (omega arith) x i)) (λ x i. nq s (omega arith) (omega arith) x (q.gains s (omega arith) x i))
          (λ i j. nt s (omega arith) (omega arith) (p.gains s (omega arith) torn i) (q.gains s (omega arith) torn j));
    }

near_kept : (a b m n m' n' : Meaning) (k : ℕ) → Lawful a → Lawful b → Mended a b k m n → Moved m (Kept m) m' → Moved n (Kept n) n' → Moved (mirrored a b) (Kept (mirrored a b)) (mirrored m' n')
near_kept a b m n m' n' k la lb d p q = pair_near a b m n m' n' (Kept m) (Kept n) la lb d.size_a d.size_b p q d.near_a d.near_b d.never

mend_cut : (a b m n m' n' : Meaning) (k : ℕ) → Lawful a → Lawful b → Lawful m → Lawful n → Mended a b k m n → k < a.size → k < b.size → CutOne m n k m' n' → WasCut (mirrored a b) (Kept (mirrored a b)) (mirrored m' n')
mend_cut a b m n m' n' k la lb lm ln d ka kb (inl o) = record { dark = and_left _ _ o.0.dark; moved = near_kept a b m n m' n' k la lb d o.0.moved (from_same n n' ln o.1) }
mend_cut a b m n m' n' k la lb lm ln d ka kb (inr (inl o)) = record { dark = and_right _ _ o.1.dark; moved = near_kept a b m n m' n' k la lb d (from_same m m' lm o.0) o.1.moved }
mend_cut a b m n m' n' k la lb lm ln d ka kb (inr (inr (inl o))) =
    let w = o.0 in
    let r = d.rest k ka kb (omega arith) in
    let ak : a.reads k ≡ bytes w = sym r.0 ∙ o.1 in
    let rk : (s : ℕ) → s ≡ k → either (a.reads s) (b.reads s) ≡ bytes w = λ s q. either_bytes _ _ w (ap (λ (z : ℕ). a.reads z) q ∙ ak) in
    record {
      moved = pair_near a b m n m' n' (Kept m) (Joined n k w) la lb d.size_a d.size_b (from_same m m' lm o.2) o.3.moved d.near_a
          (λ s h l x i. ⊎_elim (λ j. d.near_b s h l x j) (λ j. ⊎_elim (λ q. inr (inl (q ∙ sym (rk s j.0)))) (λ q. inr (inr q)) j.1) i)
          (λ s h l i j. elim (cases_eq s k) [
            | inl q ↦ absurd (never_torn w (sym (r.2 torn (subst (λ (z : ℕ). torn ∈ m.may z) q i) ∙ ak)))
            | inr q ↦ d.never s h l i (joined_else n k s w torn q j)
          ]);
      dark = and_right _ _ o.3.dark;
    }
mend_cut a b m n m' n' k la lb lm ln d ka kb (inr (inr (inr o))) =
    let w = o.0 in
    let r = d.rest k ka kb (omega arith) in
    let ak : a.reads k ≡ torn = sym r.0 ∙ o.1 in
    let bk : b.reads k ≡ bytes w = sym r.1 ∙ o.2 in
    let rk : (s : ℕ) → s ≡ k → either (a.reads s) (b.reads s) ≡ bytes w = λ s q. either_torn _ _ _ (ap (λ (z : ℕ). a.reads z) q ∙ ak) (ap (λ (z : ℕ). b.reads z) q ∙ bk) in
    record {
      moved = pair_near a b m n m' n' (Joined m k w) (Kept n) la lb d.size_a d.size_b o.4.moved (from_same n n' ln o.3)
          (λ s h l x i. ⊎_elim (λ j. d.near_a s h l x j) (λ j. ⊎_elim (λ q. inr (inl (q ∙ sym (rk s j.0)))) (λ q. inr (inr q)) j.1) i)
          d.near_b
          (λ s h l i j. elim (cases_eq s k) [
            | inl q ↦ absurd (never_torn w (sym (r.3 torn (subst (λ (z : ℕ). torn ∈ n.may z) q j) ∙ bk)))
            | inr q ↦ d.never s h l (joined_else m k s w torn q i) j
          ]);
      dark = and_left _ _ o.4.dark;
    }

-- the halves keep their sizes in a cut
cut_sizes : (m n m' n' : Meaning) (k : ℕ) → CutOne m n k m' n' → (m'.size ≡ m.size) × (n'.size ≡ n.size)
cut_sizes m n m' n' k (inl o) = (o.0.moved.size, ap (λ (z : Meaning). z.size) o.1)
cut_sizes m n m' n' k (inr (inl o)) = (ap (λ (z : Meaning). z.size) o.0, o.1.moved.size)
cut_sizes m n m' n' k (inr (inr (inl o))) = (ap (λ (z : Meaning). z.size) o.2, o.3.moved.size)
cut_sizes m n m' n' k (inr (inr (inr o))) = (o.4.moved.size, ap (λ (z : Meaning). z.size) o.3)

pub mends_err : (a b m n m' n' : Meaning) (k : ℕ) (f : DeviceFault) → Lawful a → Lawful b → Lawful m → Lawful n → Mended a b k m n → k < a.size → k < b.size → MendsOne m n k (Err f) m' n' → MendsAll a b (Err f) m' n'
mends_err a b m n m' n' k (OutOfRange t) la lb lm ln d ka kb o = o
mends_err a b m n m' n' k (Cut t) la lb lm ln d ka kb o = let e = cut_sizes m n m' n' k o in (mend_cut a b m n m' n' k la lb lm ln d ka kb o, e.0 ∙ d.size_a, e.1 ∙ d.size_b)
mends_err a b m n m' n' k (Torn t) la lb lm ln d ka kb o = o

pub synced_tight : (m n : Meaning) → Synced m n → Tight n
synced_tight m n y = λ s h x i. let e = y.size in y.only s (omega arith) x i ∙ sym (y.reads s (omega arith))

both_only : (S T : Contents) (z : Reading) → ((x : Reading) → x ∈ S → x ≡ z) → ((x : Reading) → x ∈ T → x ≡ z) → (x : Reading) → x ∈ both S T → x ≡ z
unfolding both
both_only S T z f g (bytes xs) i = ⊎_elim (f (bytes xs)) (g (bytes xs)) (or_cases _ _ i)
both_only S T z f g torn i = f torn (and_parts _ _ i).0

-- What a sync did to the mirror. Its steps: `a0` and `b0` synced are `a` and `b`, mended `m` and `n`, and synced again `m'`
-- and `n'`.
pub sync_dark : (a b : Meaning) → Lawful a → Lawful b → (a.lit && b.lit) ≡ false → DidSync (mirrored a b) (Err (Cut 0)) (mirrored a b)
sync_dark a b la lb e = (refl, half_dark a b la lb e)

pub sync_first : (a b m n : Meaning) (f : DeviceFault) → Lawful a → Lawful b → SyncsBoth a b (Err f) m n → DidSync (mirrored a b) (Err f) (mirrored m n)
sync_first a b m n (OutOfRange s) la lb d = absurd d
sync_first a b m n (Cut s) la lb (e, inl (c, q)) = (e, record { dark = and_left _ _ c.dark; moved = pair_kept a b m n c.moved (from_same b n lb q) })
sync_first a b m n (Cut s) la lb (e, inr (y, c)) = (e, record { dark = and_right _ _ c.dark; moved = pair_kept a b m n (from_synced a m la y) c.moved })
sync_first a b m n (Torn s) la lb d = absurd d

first_moved : (a0 b0 a b : Meaning) → Lawful a0 → Lawful b0 → Synced a0 a → Synced b0 b → Moved (mirrored a0 b0) (Kept (mirrored a0 b0)) (mirrored a b)
first_moved a0 b0 a b la lb y z = pair_kept a0 b0 a b (from_synced a0 a la y) (from_synced b0 b lb z)

-- what came of the mending, by the answer that is told of the sector 0
pub sync_mend : (a0 b0 a b m n : Meaning) (r : Answer) (f : DeviceFault) → Lawful a0 → Lawful b0 → Synced a0 a × Synced b0 b → MendsAll a b r m n → told_below 0 r ≡ Err f → DidSync (mirrored a0 b0) (Err f) (mirrored m n)
sync_mend a0 b0 a b m n (Ok u) f la lb y d e = cc
sync_mend a0 b0 a b m n (Err (OutOfRange s)) f la lb y d e = absurd d
sync_mend a0 b0 a b m n (Err (Cut s)) f la lb y d e =
    subst (λ (r : Answer). DidSync (mirrored a0 b0) r (mirrored m n)) e (refl, record { dark = d.0.dark; moved = after_moved _ (mirrored a b) _ (first_moved a0 b0 a b la lb y.0 y.1) d.0.moved })
sync_mend a0 b0 a b m n (Err (Torn s)) f la lb y d e = absurd d

pub mended : (a b m n : Meaning) (r : Answer) (u : Unit {0}) → MendsAll a b r m n → told_below 0 r ≡ Ok u → Mended a b (min a.size b.size) m n
mended a b m n (Ok v) u d e = d
mended a b m n (Err f) u d e = cc

level : (a0 b0 a b m n m' n' : Meaning) → Synced a0 a → Synced b0 b → Mended a b (min a.size b.size) m n → Synced m m' → Synced n n' → Level a0 b0 m' n'
level a0 b0 a b m n m' n' ya yb d y z =
    let e1 = ya.size in let e2 = yb.size in let e3 = d.size_a in let e4 = d.size_b in let e5 = y.size in let e6 = z.size in
    let R : (s : ℕ) → s < a0.size → s < b0.size → either (a.reads s) (b.reads s) ≡ either (a0.reads s) (b0.reads s) = λ s h k. let i = ya.reads s h in let j = yb.reads s k in cc in
    record {
      size_a = omega arith;
      size_b = omega arith;
      lit_a = y.lit;
      lit_b = z.lit;
      level = λ s h k. let p = d.done s (omega arith) (omega arith) (omega arith) in (y.reads s (omega arith) ∙ p.0 ∙ R s h k, z.reads s (omega arith) ∙ p.1 ∙ R s h k);
      beyond_a = λ s h k. y.reads s (omega arith) ∙ d.beyond_a s (omega arith) (omega arith) ∙ ya.reads s h;
      beyond_b = λ s h k. z.reads s (omega arith) ∙ d.beyond_b s (omega arith) (omega arith) ∙ yb.reads s h;
      only_a = λ s h x i. synced_tight m m' y s (omega arith) x i;
      only_b = λ s h x i. synced_tight n n' z s (omega arith) x i;
    }

leveled : (a b m n : Meaning) → Lawful a → Lawful b → a.lit ≡ true → b.lit ≡ true → Level a b m n → Synced (mirrored a b) (mirrored m n)
leveled a b m n la lb e f v =
    let g = v.size_a in let h = v.size_b in
    let one : (s : ℕ) → s < min a.size b.size → (x : Reading) → x ∈ both (m.may s) (n.may s) → x ≡ either (a.reads s) (b.reads s) = λ s k x i.
    let p = v.level s (omega arith) (omega arith) in both_only (m.may s) (n.may s) _ (λ w j. v.only_a s (omega arith) w j ∙ p.0) (λ w j. v.only_b s (omega arith) w j ∙ p.1) x i in
    record {
      was_lit = and_from _ _ e f;
      size = omega arith;
      lit = and_from _ _ v.lit_a v.lit_b;
      reads = λ s k. let p = v.level s (omega arith) (omega arith) in either_same _ _ _ p.0 p.1;
      gains = λ s k x i. subst (λ (z : Reading). z ∈ both (a.may s) (b.may s)) (sym (one s k x i)) (either_in (a.may s) (b.may s) (a.reads s) (b.reads s) (la.among s (omega arith)) (lb.among s (omega arith)));
      only = one;
    }

pub sync_last : (a0 b0 a b m n m' n' : Meaning) (r : Answer) → Lawful a0 → Lawful b0 → Lawful a → Lawful b → Lawful m → Lawful n → Synced a0 a × Synced b0 b → Mended a b (min a.size b.size) m n → SyncsBoth m n r m' n' → DidSync (mirrored a0 b0) r (mirrored m' n')
sync_last a0 b0 a b m n m' n' (Ok u) la0 lb0 la lb lm ln y d w = leveled a0 b0 m' n' la0 lb0 y.0.was_lit y.1.was_lit (level a0 b0 a b m n m' n' y.0 y.1 d w.0 w.1)
sync_last a0 b0 a b m n m' n' (Err (OutOfRange s)) la0 lb0 la lb lm ln y d w = absurd w
sync_last a0 b0 a b m n m' n' (Err (Cut s)) la0 lb0 la lb lm ln y d (e, inl (c, q)) =
    (e, record { dark = and_left _ _ c.dark; moved = after_moved _ (mirrored a b) _ (first_moved a0 b0 a b la0 lb0 y.0 y.1) (near_kept a b m n m' n' _ la lb d c.moved (from_same n n' ln q)) })
sync_last a0 b0 a b m n m' n' (Err (Cut s)) la0 lb0 la lb lm ln y d (e, inr (w, c)) =
    (e, record { dark = and_right _ _ c.dark; moved = after_moved _ (mirrored a b) _ (first_moved a0 b0 a b la0 lb0 y.0 y.1) (near_kept a b m n m' n' _ la lb d (from_synced m m' lm w) c.moved) })
sync_last a0 b0 a b m n m' n' (Err (Torn s)) la0 lb0 la lb lm ln y d w = absurd w
