-- Sectors read one after another, up to a fault.
use Rattle.std.proofs.Common.{◌≡◌, ℕ, ◌+◌, ◌<◌, ◌≤◌, Bool, true, false, cond, ◌&&◌, ◌⊎◌, List, [], ◌∷◌, ◌++◌, drop, IsErrAnd, Some, None, Ok, Err, Option, Result, sym, refl, ap, ◌∙◌, subst, append_assoc, inl, inr, arith, Bor}
use Rattle.std.specs.Option.{ok_or, option_map, unwrap_or}
use Rattle.records.specs.Headers.{counts_good, decoded_header, header_in_bytes, header_laid_out}
use Rattle.records.specs.declared.headers.Header.{Header}
use Rattle.records.specs.declared.numbers.HouseNumber.{HouseNumber}
use Rattle.records.specs.Sectors.{zeros}
use Rattle.records.proofs.HeaderLaws.{zeros_no_header}
use Rattle.rank.specs.Ranked.{high_first}
use Rattle.device.specs.Meaning.{Meaning, Lawful, bytes, torn}
use Rattle.device.specs.Calls.{DidRead, Filled}
use Rattle.device.specs.Runs.{CutIn}
use Rattle.device.specs.declared.fault.DeviceFault.{DeviceFault}
use Rattle.device.specs.declared.fault.DeviceFault.TheVariants.{OutOfRange, Cut, Torn}
use Rattle.device.specs.declared.run.Operation.{Operation}
use Rattle.device.specs.declared.run.Operation.TheVariants as op
use Rattle.journal.specs.Slots.{header_place, body_place}
use Rattle.journal.specs.Choices.{own_header_in, own, is_own, first_of, in_slot, header_key, chosen}
use Rattle.journal.specs.declared.slots.Slot.{Slot}
use Rattle.journal.specs.declared.slots.Slot.TheVariants.{Zero, One}
use Rattle.journal.specs.declared.choosing.SlotHeader.{SlotHeader}
use Rattle.journal.specs.declared.choosing.Chosen.{Chosen}
use Rattle.protocol.specs.declared.faults.JournalFault.{JournalFault}
use Rattle.protocol.specs.declared.faults.JournalFault.TheVariants.{NoHeader}
use Rattle.protocol.specs.Faults.{from_device}
use Rattle.protocol.specs.Worlds.{World, blank, body_at}
use Rattle.protocol.specs.Steps.{body_reads, shown, first_header}
use Rattle.journal_io.specs.Readings.{Fetched, BodyRead, FirstTorn, at_first, at_second, at_third, HeaderRead, Chose}

pub body_within : (t : Slot) (size : ℕ) → 9 ≤ size → body_place t + 2 < size
body_within Zero size h = omega arith
body_within One size h = omega arith

-- a read that was performed, and the rest of a row cut
pub later_cut : (m n : Meaning) (at s : ℕ) (os : List Operation) → Lawful m → m.lit ≡ true → CutIn m os s n → CutIn m (op.Read at ∷ os) s n
later_cut m n at s os l on c = inr (m, l, (λ _. on, refl), c)

-- the first i sectors of a body were read, and are these bytes
pub data ReadTo (m : Meaning) (t : Slot) (i : ℕ) (xs : List ℕ) : Type 0 where
  no_part : i ≡ 0 → xs ≡ [] → ReadTo m t i xs
  one_part : (a : List ℕ) → i ≡ 1 → m.lit ≡ true → m.reads (body_at t 0) ≡ bytes a → xs ≡ a → ReadTo m t i xs
  two_parts : (a b : List ℕ) → i ≡ 2 → m.lit ≡ true → m.reads (body_at t 0) ≡ bytes a → m.reads (body_at t 1) ≡ bytes b → xs ≡ a ++ b → ReadTo m t i xs
  all_parts : (a b c : List ℕ) → i ≡ 3 → m.reads (body_at t 0) ≡ bytes a → m.reads (body_at t 1) ≡ bytes b → m.reads (body_at t 2) ≡ bytes c → xs ≡ a ++ (b ++ c) → ReadTo m t i xs

-- one more sector
pub one_more : (m n : Meaning) (t : Slot) (i : ℕ) (xs ys new : List ℕ) → i < 3 → ReadTo m t i xs → Filled m (body_at t i) new n → ys ≡ xs ++ new → ReadTo m t (i + 1) ys
one_more m n t i xs ys new l (no_part e x) f y = one_part new (omega arith) f.was_lit (subst (λ k. m.reads (body_at t k) ≡ bytes new) e f.here) (y ∙ ap (λ z. z ++ new) x)
one_more m n t i xs ys new l (one_part a e on p x) f y = two_parts a new (omega arith) on p (subst (λ k. m.reads (body_at t k) ≡ bytes new) e f.here) (y ∙ ap (λ z. z ++ new) x)
one_more m n t i xs ys new l (two_parts a b e on p q x) f y = all_parts a b new (omega arith) p q (subst (λ k. m.reads (body_at t k) ≡ bytes new) e f.here) (y ∙ ap (λ z. z ++ new) x ∙ append_assoc a b new)
one_more m n t i xs ys new l (all_parts a b c e p q r x) f y = absurd (omega arith)

-- a read of the next sector was cut, or met a torn one
module _ (m n : Meaning) (t : Slot) (lawful : Lawful m) (old new : List ℕ) where
  cut_there : (s i : ℕ) (xs : List ℕ) → i < 3 → ReadTo m t i xs → DidRead m (body_at t i) old (Err (Cut s)) new n → CutIn m (body_reads t) s n
  cut_there s i xs l (no_part e x) d = let d = subst (λ k. DidRead m (body_at t k) old (Err (Cut s)) new n) e d in inl (d.0, (d.1, d.2))
  cut_there s i xs l (one_part a e on p x) d =
      let d = subst (λ k. DidRead m (body_at t k) old (Err (Cut s)) new n) e d in
      later_cut m n (body_at t 0) s (op.Read (body_at t 1) ∷ op.Read (body_at t 2) ∷ []) lawful on (inl (d.0, (d.1, d.2)))
  cut_there s i xs l (two_parts a b e on p q x) d =
      let d = subst (λ k. DidRead m (body_at t k) old (Err (Cut s)) new n) e d in
      later_cut m n (body_at t 0) s (op.Read (body_at t 1) ∷ op.Read (body_at t 2) ∷ []) lawful on (later_cut m n (body_at t 1) s (op.Read (body_at t 2) ∷ []) lawful on (inl (d.0, (d.1, d.2))))
  cut_there s i xs l (all_parts a b c e p q r x) d = absurd (omega arith)

  torn_there : (s i : ℕ) (xs : List ℕ) → i < 3 → ReadTo m t i xs → m.reads (body_at t i) ≡ torn → s ≡ body_at t i → FirstTorn m t s
  torn_there s i xs l (no_part e x) h z = at_first (subst (λ k. m.reads (body_at t k) ≡ torn) e h) (z ∙ ap (body_at t) e)
  torn_there s i xs l (one_part a e on p x) h z = at_second a p (subst (λ k. m.reads (body_at t k) ≡ torn) e h) (z ∙ ap (body_at t) e)
  torn_there s i xs l (two_parts a b e on p q x) h z = at_third a b p q (subst (λ k. m.reads (body_at t k) ≡ torn) e h) (z ∙ ap (body_at t) e)
  torn_there s i xs l (all_parts a b c e p q r x) h z = absurd (omega arith)

  pub breaks : (i : ℕ) (xs : List ℕ) (f : DeviceFault) (r : Result (List ℕ) JournalFault) → 9 ≤ m.size → i < 3 → ReadTo m t i xs → DidRead m (body_at t i) old (Err f) new n → IsErrAnd r (λ y. y ≡ from_device f) → BodyRead m t r n
  breaks i xs f (Ok x) big l k d e = absurd e
  breaks i xs (OutOfRange s) (Err y) big l k d e = absurd (let g = d.1 in let w = body_within t m.size big in omega arith)
  breaks i xs (Cut s) (Err y) big l k d e = subst (λ z. BodyRead m t (Err z) n) (sym e) (cut_there s i xs l k d)
  breaks i xs (Torn s) (Err y) big l k d e = subst (λ z. BodyRead m t (Err z) n) (sym e) (d.1.same, torn_there s i xs l k d.1.here d.0)

pub all_read : (m n : Meaning) (t : Slot) (i : ℕ) (xs : List ℕ) → 3 ≤ i → n ≡ m → ReadTo m t i xs → BodyRead m t (Ok xs) n
all_read m n t i xs l same (all_parts a b c e p q r x) = (same, record { first = a; second = b; third = c; first_read = p; second_read = q; third_read = r; joined = x })
all_read m n t i xs l same (no_part e x) = absurd (omega arith)
all_read m n t i xs l same (one_part a e on p x) = absurd (omega arith)
all_read m n t i xs l same (two_parts a b e on p q x) = absurd (omega arith)

-- the bytes of a header's sector, or zeros where it is torn
pub header_bytes : (m n : Meaning) (at : ℕ) (o : Option (List ℕ)) (b : List ℕ) → Fetched m at (Ok o) n → b ≡ unwrap_or o blank → HeaderRead m at (Ok b) n
header_bytes m n at (Some x) b f e = (f.0, f.1, inl (f.2 ∙ ap bytes (sym e)))
header_bytes m n at None b f e = (f.0, f.1, inr (f.2, e))

-- what a header's sector shows, from the bytes that were taken for it
module _ {S : Type 0} (w : World S) where
  pub shows : (m : Meaning) (at : ℕ) (b : List ℕ) → (m.reads at ≡ bytes b) ⊎ ((m.reads at ≡ torn) × (b ≡ blank)) → shown w (m.reads at) ≡ own_header_in w.house w.rules.code b
  unfolding blank
  shows m at b (inl e) = ap (shown w) e
  shows m at b (inr (e, z)) = ap (shown w) e ∙ sym (ap (own_header_in w.house w.rules.code) z ∙ ap (own w.house w.rules.code) zeros_no_header)

-- a header that is taken has counts that go together
own_counts : (house : HouseNumber) (code : ℕ) (b : List ℕ) (h : Header) → own_header_in house code b ≡ Some h → counts_good h ≡ true
unfolding decoded_header
own_counts house code b h e = go (header_laid_out b && zeros (drop 36 b)) (counts_good (header_in_bytes b)) refl e
  where
    go : (x y : Bool) → counts_good (header_in_bytes b) ≡ y → own house code (cond x (cond y (Some (header_in_bytes b)) None) None) ≡ Some h → counts_good h ≡ true
    go false y c e = absurd (let z : ◌≡◌ {A = ℕ} 0 1 = cc in omega arith)
    go true false c e = absurd (let z : ◌≡◌ {A = ℕ} 0 1 = cc in omega arith)
    go true true c e = take (is_own house code (header_in_bytes b)) e
      where
        take : (o : Bool) → cond o (Some (header_in_bytes b)) None ≡ Some h → counts_good h ≡ true
        take true e = let same : header_in_bytes b ≡ h = cc in subst (λ z. counts_good z ≡ true) same c
        take false e = absurd (let z : ◌≡◌ {A = ℕ} 0 1 = cc in omega arith)

-- the first of two is one of them
pub first_counts : (house : HouseNumber) (code : ℕ) (a b : List ℕ) (h : SlotHeader) → first_of (own_header_in house code a) (own_header_in house code b) ≡ Some h → counts_good h.header ≡ true
first_counts house code a b h e = go (own_header_in house code a) (own_header_in house code b) refl refl e
  where
    as_good : (x : Header) (c : List ℕ) (s : Slot) → own_header_in house code c ≡ Some x → ◌≡◌ {A = Option SlotHeader} (Some (in_slot s x)) (Some h) → counts_good h.header ≡ true
    as_good x c s o e = let same : in_slot s x ≡ h = cc in subst (λ (z : SlotHeader). counts_good z.header ≡ true) same (own_counts house code c x o)

    go : (x y : Option Header) → own_header_in house code a ≡ x → own_header_in house code b ≡ y → first_of x y ≡ Some h → counts_good h.header ≡ true
    go None None p q e = absurd (let z : ◌≡◌ {A = ℕ} 0 1 = cc in omega arith)
    go (Some x) None p q e = as_good x a Zero p e
    go None (Some y) p q e = as_good y b One q e
    go (Some x) (Some y) p q e = pick (high_first (header_key (in_slot One y)) (header_key (in_slot Zero x))) e
      where
        pick : (t : Bool) → ◌≡◌ {A = Option SlotHeader} (Some (cond t (in_slot One y) (in_slot Zero x))) (Some h) → counts_good h.header ≡ true
        pick true e = as_good y b One q e
        pick false e = as_good x a Zero p e

chosen_is : (a b : Bor (List ℕ)) (o : Option SlotHeader) → option_map (λ (c : Chosen). c.first) (chosen a b o) ≡ o
chosen_is a b (Some x) = refl
chosen_is a b None = refl

-- both headers were read
module _ {S : Type 0} (w : World S) (m k n : Meaning) (zero one : List ℕ) (d : HeaderRead m (header_place Zero) (Ok zero) k) (e : HeaderRead k (header_place One) (Ok one) n) where
  both_shown : first_header w m ≡ first_of (own_header_in w.house w.rules.code zero) (own_header_in w.house w.rules.code one)
  both_shown =
      let s₀ = shows w m (header_place Zero) zero d.2 in
      let s₁ : shown w (m.reads (header_place One)) ≡ own_header_in w.house w.rules.code one = subst (λ z. shown w (z.reads (header_place One)) ≡ own_header_in w.house w.rules.code one) d.0 (shows w k (header_place One) one e.2) in
      (λ i. first_of (s₀ i) (s₁ i))

  chose : (h : SlotHeader) → first_of (own_header_in w.house w.rules.code zero) (own_header_in w.house w.rules.code one) ≡ Some h → Chose w m (Ok h) n
  chose h f = (e.0 ∙ d.0, both_shown ∙ f, first_counts w.house w.rules.code zero one h f)

  answered : (o : Option SlotHeader) (r : Result SlotHeader JournalFault) → o ≡ first_of (own_header_in w.house w.rules.code zero) (own_header_in w.house w.rules.code one) → r ≡ ok_or o NoHeader → Chose w m r n
  answered (Some h) r f a = subst (λ z. Chose w m z n) (sym a) (chose h (sym f))
  answered None r f a = subst (λ z. Chose w m z n) (sym a) (e.0 ∙ d.0, both_shown ∙ sym f)

  pub chose_by : (a b : Bor (List ℕ)) (x : Option Chosen) (o : Option SlotHeader) (r : Result SlotHeader JournalFault) → x ≡ chosen a b (first_of (own_header_in w.house w.rules.code zero) (own_header_in w.house w.rules.code one)) → o ≡ option_map (λ (c : Chosen). c.first) x → r ≡ ok_or o NoHeader → Chose w m r n
  chose_by a b x o r p q = answered o r (q ∙ ap (option_map (λ (c : Chosen). c.first)) p ∙ chosen_is a b _)
