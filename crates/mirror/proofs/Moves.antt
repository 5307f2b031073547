-- Two halves that each moved within what they may hold, taken together.
use Rattle.std.proofs.Common.{◌≡◌, ℕ, ◌<◌, min, true, false, ◌&&◌, ◌⊎◌, List, Ok, Err, sym, refl, ap, ◌∙◌, subst, inl, inr, ⊎_elim, arith}
use Rattle.std.proofs.lemmas.Bool.{or_left, or_right, or_cases, and_from, and_parts, and_right, cases_eq, and_left}
use Rattle.device.specs.Meaning.{Meaning, Reading, bytes, torn, Contents, ◌∈◌, Lawful}
use Rattle.device.specs.declared.fault.DeviceFault.{DeviceFault}
use Rattle.device.specs.declared.fault.DeviceFault.TheVariants.{OutOfRange, Cut, Torn}
use Rattle.device.specs.Calls.{Answer, DidRead, DidReadWhole, DidWrite, Filled, FoundTorn, Moved, WasCut, Written, Synced, Woken, Kept, Joined}
use Rattle.mirror.specs.Halves.{Gate, either, both, mirrored, either_in}

pub still : (m : Meaning) → Lawful m → Moved m (Kept m) m
still m l = record { size = refl; left = l.among; gains = λ s h x i. i }

pub from_same : (m n : Meaning) → Lawful m → n ≡ m → Moved m (Kept m) n
from_same m n l e = subst (λ (k : Meaning). Moved m (Kept m) k) (sym e) (still m l)

pub from_synced : (m n : Meaning) → Lawful m → Synced m n → Moved m (Kept m) n
from_synced m n l y = record { size = y.size; left = λ s h. subst (λ (x : Reading). x ∈ m.may s) (sym (y.reads s h)) (l.among s h); gains = y.gains }

pub after_moved : (m n o : Meaning) → Moved m (Kept m) n → Moved n (Kept n) o → Moved m (Kept m) o
after_moved m n o p q = let e = p.size in record { size = q.size ∙ e; left = λ s h. p.gains s h _ (q.left s (omega arith)); gains = λ s h x i. p.gains s h x (q.gains s (omega arith) x i) }

pub joins : (m n : Meaning) (at : ℕ) (new : List ℕ) → Moved m (Kept m) n → Moved m (Joined m at new) n
joins m n at new c = record { size = c.size; left = λ s h. inl (c.left s h); gains = λ s h x i. inl (c.gains s h x i) }

pub from_written : (m n : Meaning) (at : ℕ) (new : List ℕ) → Lawful m → Written m at new n → Moved m (Joined m at new) n
from_written m n at new l w = record {
  size = w.size;
  left = λ s h. elim (cases_eq s at) [ inl e ↦ inr (e, inl (ap (λ (k : ℕ). n.reads k) e ∙ w.here)) | inr k ↦ inl (subst (λ (x : Reading). x ∈ m.may s) (sym (w.others s h k)) (l.among s h)) ];
  gains = w.gains;
}

-- the sets of the halves, taken together, gain what the halves gain
gains_kept : (S T S' T' : Contents) → ((x : Reading) → x ∈ S' → x ∈ S) → ((x : Reading) → x ∈ T' → x ∈ T) → (x : Reading) → x ∈ both S' T' → x ∈ both S T
unfolding both
gains_kept S T S' T' f g (bytes xs) h = ⊎_elim (λ k. or_left _ _ (f (bytes xs) k)) (λ k. or_right _ _ (g (bytes xs) k)) (or_cases _ _ h)
gains_kept S T S' T' f g torn h = let p = and_parts _ _ h in and_from _ _ (f torn p.0) (g torn p.1)

both_torn : (S T : Contents) (J : Reading → Type 0) → (torn ∈ S) ⊎ J torn → (torn ∈ T) ⊎ J torn → (torn ∈ both S T) ⊎ J torn
unfolding both
both_torn S T J (inl h) (inl k) = inl (and_from _ _ h k)
both_torn S T J (inl h) (inr k) = inr k
both_torn S T J (inr h) k = inr h

gains_joined : (S T S' T' : Contents) (J : Reading → Type 0) → ((x : Reading) → x ∈ S' → (x ∈ S) ⊎ J x) → ((x : Reading) → x ∈ T' → (x ∈ T) ⊎ J x) → (x : Reading) → x ∈ both S' T' → (x ∈ both S T) ⊎ J x
unfolding both
gains_joined S T S' T' J f g (bytes xs) h =
    ⊎_elim (λ k. ⊎_elim (λ i. inl (or_left _ _ i)) inr (f (bytes xs) k)) (λ k. ⊎_elim (λ i. inl (or_right _ _ i)) inr (g (bytes xs) k)) (or_cases _ _ h)
gains_joined S T S' T' J f g torn h = let p = and_parts _ _ h in both_torn S T J (f torn p.0) (g torn p.1)

either_joined : (S T : Contents) (J : Reading → Type 0) (x y : Reading) → (x ∈ S) ⊎ J x → (y ∈ T) ⊎ J y → (either x y ∈ both S T) ⊎ J (either x y)
unfolding both either
either_joined S T J (bytes xs) y h k = ⊎_elim (λ i. inl (or_left _ _ i)) inr h
either_joined S T J torn (bytes ys) h k = ⊎_elim (λ i. inl (or_right _ _ i)) inr k
either_joined S T J torn torn h k = both_torn S T J h k

-- each half holds what it may
pub pair_kept : (a b m n : Meaning) → Moved a (Kept a) m → Moved b (Kept b) n → Moved (mirrored a b) (Kept (mirrored a b)) (mirrored m n)
pair_kept a b m n p q =
    let e = p.size in
    let f = q.size in
    record {
      size = omega arith;
      left = λ s h. either_in (a.may s) (b.may s) (m.reads s) (n.reads s) (p.left s (omega arith)) (q.left s (omega arith));
      gains = λ s h. gains_kept (a.may s) (b.may s) (m.may s) (n.may s) (p.gains s (omega arith)) (q.gains s (omega arith));
    }

pub pair_joined : (a b m n : Meaning) (at : ℕ) (new : List ℕ) → Moved a (Joined a at new) m → Moved b (Joined b at new) n → Moved (mirrored a b) (Joined (mirrored a b) at new) (mirrored m n)
pair_joined a b m n at new p q =
    let e = p.size in
    let f = q.size in
    record {
      size = omega arith;
      left = λ s h. either_joined (a.may s) (b.may s) (λ (x : Reading). (s ≡ at) × ((x ≡ bytes new) ⊎ (x ≡ torn))) (m.reads s) (n.reads s) (p.left s (omega arith)) (q.left s (omega arith));
      gains = λ s h. gains_joined (a.may s) (b.may s) (m.may s) (n.may s) (λ (x : Reading). (s ≡ at) × ((x ≡ bytes new) ⊎ (x ≡ torn))) (p.gains s (omega arith)) (q.gains s (omega arith));
    }

pub either_torn : (x y z : Reading) → x ≡ torn → y ≡ z → either x y ≡ z
unfolding either
either_torn x y z e f = rw e f

pub either_bytes : (x y : Reading) (xs : List ℕ) → x ≡ bytes xs → either x y ≡ bytes xs
unfolding either
either_bytes x y xs e = rw e

-- one half has no power
pub half_dark : (a b : Meaning) → Lawful a → Lawful b → (a.lit && b.lit) ≡ false → WasCut (mirrored a b) (Kept (mirrored a b)) (mirrored a b)
half_dark a b l k e = record { dark = e; moved = pair_kept a b a b (still a l) (still b k) }

half_dark_joined : (a b : Meaning) (at : ℕ) (new : List ℕ) → Lawful a → Lawful b → (a.lit && b.lit) ≡ false → WasCut (mirrored a b) (Joined (mirrored a b) at new) (mirrored a b)
half_dark_joined a b at new l k e = record { dark = e; moved = joins (mirrored a b) (mirrored a b) at new (pair_kept a b a b (still a l) (still b k)) }

cut_a : (a b m : Meaning) → Lawful b → WasCut a (Kept a) m → WasCut (mirrored a b) (Kept (mirrored a b)) (mirrored m b)
cut_a a b m k c = record { dark = and_left _ _ c.dark; moved = pair_kept a b m b c.moved (still b k) }

cut_b : (a b m n : Meaning) → Moved a (Kept a) m → WasCut b (Kept b) n → WasCut (mirrored a b) (Kept (mirrored a b)) (mirrored m n)
cut_b a b m n p c = record { dark = and_right _ _ c.dark; moved = pair_kept a b m n p c.moved }

-- a fault of another kind is not that the sector is torn
pub past_not_torn : (f : DeviceFault) (x : ℕ) → f ≡ OutOfRange x → (s : ℕ) → ◌≡◌ {A = Answer} (Err f) (Err (Torn s)) → ⊥
past_not_torn f x k s e = let z : ◌≡◌ {A = ℕ} 0 1 = cc in omega arith

pub cut_not_torn : (f : DeviceFault) (x : ℕ) → f ≡ Cut x → (s : ℕ) → ◌≡◌ {A = Answer} (Err f) (Err (Torn s)) → ⊥
cut_not_torn f x k s e = let z : ◌≡◌ {A = ℕ} 0 1 = cc in omega arith

-- a read that was stopped, the answer of half A, and the answer of half B, where A is torn
pub read_stopped : (a b : Meaning) (at : ℕ) (old : List ℕ) (f : DeviceFault) → Lawful a → Lawful b → Gate a b at (Err f) → DidRead (mirrored a b) at old (Err f) old (mirrored a b)
read_stopped a b at old (OutOfRange s) l k h = (h.0, h.1, refl, refl)
read_stopped a b at old (Cut s) l k h = (h.0, h.1, half_dark a b l k h.2, refl)
read_stopped a b at old (Torn s) l k h = absurd h

pub read_first : (a b m : Meaning) (at : ℕ) (new : List ℕ) → at < min a.size b.size → b.lit ≡ true → Filled a at new m → Filled (mirrored a b) at new (mirrored m b)
read_first a b m at new h e d = record { within = h; was_lit = and_from _ _ d.was_lit e; here = either_bytes _ _ new d.here; same = ap (λ (z : Meaning). mirrored z b) d.same }

pub read_refused : (a b m : Meaning) (at : ℕ) (old : List ℕ) (f : DeviceFault) → Lawful b → at < min a.size b.size → DidReadWhole a at (Err f) m → DidRead (mirrored a b) at old (Err f) old (mirrored m b)
read_refused a b m at old (OutOfRange s) k h d = let z = d.1 in absurd (omega arith)
read_refused a b m at old (Cut s) k h d = (d.0, h, cut_a a b m k d.2, refl)
read_refused a b m at old (Torn s) k h d = absurd d

pub read_second : (a b m n : Meaning) (at : ℕ) (old : List ℕ) (r : Answer) (new : List ℕ) → Lawful a → at < min a.size b.size → FoundTorn a at m → DidRead b at old r new n → DidRead (mirrored a b) at old r new (mirrored m n)
read_second a b m n at old (Ok u) new l h f d =
    record { within = h; was_lit = and_from _ _ f.was_lit d.was_lit; here = either_torn _ _ _ f.here d.here; same = ap (λ (z : Meaning). mirrored z n) f.same ∙ ap (mirrored a) d.same }
read_second a b m n at old (Err (OutOfRange s)) new l h f d = let z = d.1 in absurd (omega arith)
read_second a b m n at old (Err (Cut s)) new l h f d = (d.0, h, cut_b a b m n (from_same a m l f.same) d.2, d.3)
read_second a b m n at old (Err (Torn s)) new l h f d =
    (d.0, record { within = h; was_lit = and_from _ _ f.was_lit d.1.was_lit; here = either_torn _ _ _ f.here d.1.here; same = ap (λ (z : Meaning). mirrored z n) f.same ∙ ap (mirrored a) d.1.same }, d.2)

-- a write that was stopped, one that A refused, and one that A took
pub write_stopped : (a b : Meaning) (at : ℕ) (new : List ℕ) (f : DeviceFault) → Lawful a → Lawful b → Gate a b at (Err f) → DidWrite (mirrored a b) at new (Err f) (mirrored a b)
write_stopped a b at new (OutOfRange s) l k h = (h.0, h.1, refl)
write_stopped a b at new (Cut s) l k h = (h.0, h.1, half_dark_joined a b at new l k h.2)
write_stopped a b at new (Torn s) l k h = absurd h

pub write_first : (a b m : Meaning) (at : ℕ) (new : List ℕ) (f : DeviceFault) → Lawful b → at < min a.size b.size → DidWrite a at new (Err f) m → DidWrite (mirrored a b) at new (Err f) (mirrored m b)
write_first a b m at new (OutOfRange s) k h d = let z = d.1 in absurd (omega arith)
write_first a b m at new (Cut s) k h d = (d.0, h, record { dark = and_left _ _ d.2.dark; moved = pair_joined a b m b at new d.2.moved (joins b b at new (still b k)) })
write_first a b m at new (Torn s) k h d = absurd d

pub write_second : (a b m n : Meaning) (at : ℕ) (new : List ℕ) (r : Answer) → Lawful a → Lawful b → at < min a.size b.size → Written a at new m → DidWrite b at new r n → DidWrite (mirrored a b) at new r (mirrored m n)
write_second a b m n at new (Ok u) l k h w d =
    let p = pair_joined a b m n at new (from_written a m at new l w) (from_written b n at new k d) in
    record {
      within = h;
      was_lit = and_from _ _ w.was_lit d.was_lit;
      size = p.size;
      lit = and_from _ _ w.lit d.lit;
      here = either_bytes _ _ new w.here;
      others = λ s i x. let e = w.others s (omega arith) x in let f = d.others s (omega arith) x in cc;
      gains = p.gains;
    }
write_second a b m n at new (Err (OutOfRange s)) l k h w d = let z = d.1 in absurd (omega arith)
write_second a b m n at new (Err (Cut s)) l k h w d = (d.0, h, record { dark = and_right _ _ d.2.dark; moved = pair_joined a b m n at new (from_written a m at new l w) d.2.moved })
write_second a b m n at new (Err (Torn s)) l k h w d = absurd d

pub woken_both : (a b m n : Meaning) → Woken a m → Woken b n → Woken (mirrored a b) (mirrored m n)
woken_both a b m n w v = record { lit = and_from _ _ w.lit v.lit; moved = pair_kept a b m n w.moved v.moved }
