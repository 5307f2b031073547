-- Rows of device calls: joined, and with their faults wrapped.
use Rattle.std.proofs.Common.{◌≡◌, ℕ, zero, suc, ◌+◌, ◌<◌, List, [], ◌∷◌, ◌++◌, IsErrAnd, Ok, Err, Result, sym, refl, ◌∙◌, subst, inl, inr, arith}
use Rattle.device.specs.Meaning.{Meaning, Lawful}
use Rattle.device.specs.Runs.{Performed, CutBy, Ran, CutIn, DidPerform}
use Rattle.device.specs.declared.fault.DeviceFault.{DeviceFault}
use Rattle.device.specs.declared.fault.DeviceFault.TheVariants.{OutOfRange, Cut, Torn}
use Rattle.device.specs.declared.run.Operation.{Operation}
use Rattle.device.specs.declared.run.Operation.TheVariants as op
use Rattle.protocol.specs.declared.faults.JournalFault.{JournalFault}
use Rattle.protocol.specs.declared.faults.JournalFault.TheVariants as fault
use Rattle.protocol.specs.Faults.{from_device}
use Rattle.protocol.specs.Worlds.{blank}
use Rattle.protocol.specs.Steps.{blanks}
use Rattle.protocol.proofs.Devices.{then_cut}
use Rattle.journal_io.specs.Running.{Running}

pub cut_append : (m n : Meaning) (xs ys : List Operation) (s : ℕ) → CutIn m xs s n → CutIn m (xs ++ ys) s n
cut_append m n [] ys s c = absurd c
cut_append m n (o ∷ xs) ys s (inl c) = inl c
cut_append m n (o ∷ xs) ys s (inr (k, l, p, c)) = inr (k, l, p, cut_append k n xs ys s c)

pub ran_append : (m k n : Meaning) (xs ys : List Operation) → Ran m xs k → Ran k ys n → Ran m (xs ++ ys) n
ran_append m k n [] ys e h = subst (λ z. Ran z ys n) e h
ran_append m k n (o ∷ xs) ys (q, l, p, r) h = (q, l, p, ran_append q k n xs ys r h)

-- two rows: the first all made, then the second; or the first cut
pub running_append : (m k n : Meaning) (xs ys : List Operation) (r : Result (Unit {0}) JournalFault) → Ran m xs k → Running k ys r n → Running m (xs ++ ys) r n
running_append m k n xs ys (Ok x) a h = ran_append m k n xs ys a h
running_append m k n xs ys (Err (fault.Device (Cut s))) a h = then_cut m k n xs ys s a h
running_append m k n xs ys (Err (fault.Device (OutOfRange s))) a h = h
running_append m k n xs ys (Err (fault.Device (Torn s))) a h = h
running_append m k n xs ys (Err fault.NoHeader) a h = h
running_append m k n xs ys (Err (fault.Refused s)) a h = h
running_append m k n xs ys (Err (fault.OtherLast s)) a h = h
running_append m k n xs ys (Err (fault.BadPage s)) a h = h

pub cut_before : (m n : Meaning) (xs ys : List Operation) (f : JournalFault) → Running m xs (Err f) n → Running m (xs ++ ys) (Err f) n
cut_before m n xs ys (fault.Device (Cut s)) h = cut_append m n xs ys s h
cut_before m n xs ys (fault.Device (OutOfRange s)) h = h
cut_before m n xs ys (fault.Device (Torn s)) h = h
cut_before m n xs ys fault.NoHeader h = h
cut_before m n xs ys (fault.Refused s) h = h
cut_before m n xs ys (fault.OtherLast s) h = h
cut_before m n xs ys (fault.BadPage s) h = h

-- one more sector of zeros, and a cut at it
blanks_step : (a i : ℕ) (m k n : Meaning) → Ran m (blanks a i) k → Lawful n → Performed k (op.Write (a + i) blank) n → Ran m (blanks a (suc i)) n
blanks_step a zero m k n e l d = let z : a + 0 ≡ a = omega arith in (n, l, subst (λ q. Performed q (op.Write a blank) n) e (subst (λ q. Performed k (op.Write q blank) n) z d), refl)
blanks_step a (suc i) m k n (q, b, c, r) l d = let z : a + suc i ≡ suc a + i = omega arith in (q, b, c, blanks_step (suc a) i q k n r l (subst (λ t. Performed k (op.Write t blank) n) z d))

pub blanks_more : (a i : ℕ) (m k n : Meaning) → Ran m (blanks a i) k → Lawful n → Performed k (op.Write (a + i) blank) n → Ran m (blanks a (i + 1)) n
blanks_more a i m k n r l d = let e : suc i ≡ i + 1 = omega arith in subst (λ z. Ran m (blanks a z) n) e (blanks_step a i m k n r l d)

pub blanks_cut : (a i j s : ℕ) (m k n : Meaning) → i < j → Ran m (blanks a i) k → s ≡ a + i → CutBy k (op.Write (a + i) blank) n → CutIn m (blanks a j) s n
blanks_cut a i zero s m k n l r e c = absurd (omega arith)
blanks_cut a zero (suc j) s m k n l r e c = let z : a + 0 ≡ a = omega arith in inl (e ∙ z, subst (λ q. CutBy q (op.Write a blank) n) r (subst (λ q. CutBy k (op.Write q blank) n) z c))
blanks_cut a (suc i) (suc j) s m k n l (q, b, p, r) e c = let z : a + suc i ≡ suc a + i = omega arith in inr (q, b, p, blanks_cut (suc a) i j s q k n (omega arith) r (e ∙ z) (subst (λ t. CutBy k (op.Write t blank) n) z c))

pub blanks_cut_by : (a i j : ℕ) (m k n : Meaning) (f : DeviceFault) (r : Result (Unit {0}) JournalFault) → i < j → Ran m (blanks a i) k → DidPerform k (op.Write (a + i) blank) (Err f) n → IsErrAnd r (λ y. y ≡ from_device f) → Running m (blanks a j) r n
blanks_cut_by a i j m k n f (Ok x) l h d e = absurd e
blanks_cut_by a i j m k n (OutOfRange s) (Err y) l h d e = absurd d
blanks_cut_by a i j m k n (Cut s) (Err y) l h d e = subst (λ z. Running m (blanks a j) (Err z) n) (sym e) (blanks_cut a i j s m k n l h d.0 d.1)
blanks_cut_by a i j m k n (Torn s) (Err y) l h d e = absurd d

-- a row that is cut before another, through the exit of a `?`
pub cut_first : (m n : Meaning) (xs ys : List Operation) (f : JournalFault) (r : Result (Unit {0}) JournalFault) → Running m xs (Err f) n → IsErrAnd r (λ y. y ≡ f) → Running m (xs ++ ys) r n
cut_first m n xs ys f (Ok x) h e = absurd e
cut_first m n xs ys f (Err y) h e = subst (λ z. Running m (xs ++ ys) (Err z) n) (sym e) (cut_before m n xs ys f h)
