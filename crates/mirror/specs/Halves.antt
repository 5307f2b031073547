-- What two devices mean together, and what a mirror's calls do to each of them. Assumes nothing.
use Rattle.std.specs.Prelude.{◌≡◌, ℕ, ◌<◌, ◌≤◌, min, true, false, ◌&&◌, ◌||◌, ◌⊎◌, List, Ok, Err}
use Rattle.std.proofs.Common.{inl, inr, arith}
use Rattle.std.proofs.lemmas.Bool.{or_left, or_right, or_cases, and_from}
use Rattle.device.specs.declared.fault.DeviceFault.TheVariants.{OutOfRange, Cut, Torn}
use Rattle.device.specs.Calls.{Answer, WasCut, Written, Kept, Joined}
use Rattle.device.specs.Meaning.{Meaning, Reading, bytes, torn, Contents, ◌∈◌, Lawful}

-- half A, or B where A is torn
unfoldable pub either : Reading → Reading → Reading
either (bytes xs) y = bytes xs
either torn y = y

-- the readable contents of either set, and torn if both have it
unfoldable pub both : Contents → Contents → Contents
both S T (bytes xs) = S (bytes xs) || T (bytes xs)
both S T torn = S torn && T torn

-- the smaller size; lit where both are
abbrev pub mirrored : Meaning → Meaning → Meaning
mirrored a b = record { size = min a.size b.size; lit = a.lit && b.lit; reads = λ s. either (a.reads s) (b.reads s); may = λ s. both (a.may s) (b.may s) }

pub either_in : (S T : Contents) (x y : Reading) → x ∈ S → y ∈ T → either x y ∈ both S T
unfolding either both
either_in S T (bytes xs) y h k = or_left _ _ h
either_in S T torn (bytes ys) h k = or_right _ _ k
either_in S T torn torn h k = and_from _ _ h k

pub both_bytes : (S T : Contents) (b : List ℕ) → bytes b ∈ both S T → (bytes b ∈ S) ⊎ (bytes b ∈ T)
unfolding both
both_bytes S T b i = or_cases _ _ i

pub mirrored_lawful : (a b : Meaning) → Lawful a → Lawful b → Lawful (mirrored a b)
mirrored_lawful a b l m =
    record {
      among = λ s h. either_in (a.may s) (b.may s) (a.reads s) (b.reads s) (l.among s (omega arith)) (m.among s (omega arith));
      whole = λ s h c i. elim (both_bytes (a.may s) (b.may s) c i) [ inl j ↦ l.whole s (omega arith) c j | inr j ↦ m.whole s (omega arith) c j ];
      small = let k = l.small in omega arith;
    }

-- the memory that both stand on
abbrev pub lenders : {X Y : Type 0} → X → Y → X × Y
lenders x y = (x, y)

-- The calls, by what becomes of the halves: `a` and `b` before, `m` and `n` after.

-- a half was dark already
abbrev pub Unlit : Meaning → Meaning → Meaning → Meaning → Type 0
Unlit a b m n = ((a.lit && b.lit) ≡ false) × (m ≡ a) × (n ≡ b)

-- the answer of a gate before a read or a write: it is stopped past the size, and in the dark
abbrev pub Gate : (a b : Meaning) → ℕ → Answer → Type 0
Gate a b at (Ok _) = (at < min a.size b.size) × ((a.lit && b.lit) ≡ true)
Gate a b at (Err (OutOfRange s)) = (s ≡ at) × (min a.size b.size ≤ at)
Gate a b at (Err (Cut s)) = (s ≡ at) × (at < min a.size b.size) × ((a.lit && b.lit) ≡ false)
Gate a b at (Err (Torn s)) = ⊥

-- a read asks A, and B only where A is torn
abbrev pub ReadHalves : (a b : Meaning) → ℕ → Answer → List ℕ → (m n : Meaning) → Type 0
ReadHalves a b at (Ok _) new m n = ((a.reads at ≡ bytes new) ⊎ ((a.reads at ≡ torn) × (b.reads at ≡ bytes new))) × (m ≡ a) × (n ≡ b)
ReadHalves a b at (Err (OutOfRange s)) new m n = (m ≡ a) × (n ≡ b)
ReadHalves a b at (Err (Cut s)) new m n = Unlit a b m n ⊎ ((WasCut a (Kept a) m × (n ≡ b)) ⊎ ((a.reads at ≡ torn) × (m ≡ a) × WasCut b (Kept b) n))
ReadHalves a b at (Err (Torn s)) new m n = (m ≡ a) × (n ≡ b)

-- a write goes to A and then to B
abbrev pub WroteHalves : (a b : Meaning) → ℕ → List ℕ → Answer → (m n : Meaning) → Type 0
WroteHalves a b at new (Ok _) m n = Written a at new m × Written b at new n
WroteHalves a b at new (Err (OutOfRange s)) m n = (m ≡ a) × (n ≡ b)
WroteHalves a b at new (Err (Cut s)) m n = Unlit a b m n ⊎ ((WasCut a (Joined a at new) m × (n ≡ b)) ⊎ (Written a at new m × WasCut b (Joined b at new) n))
WroteHalves a b at new (Err (Torn s)) m n = ⊥

-- after a sync both halves hold, for good, what the mirror reads; past the smaller size they hold what they held
pub record Level (a b m n : Meaning) : Type 0 where
  pub size_a : m.size ≡ a.size
  pub size_b : n.size ≡ b.size
  pub lit_a : m.lit ≡ true
  pub lit_b : n.lit ≡ true
  pub level : (s : ℕ) → s < a.size → s < b.size → (m.reads s ≡ either (a.reads s) (b.reads s)) × (n.reads s ≡ either (a.reads s) (b.reads s))
  pub beyond_a : (s : ℕ) → s < a.size → b.size ≤ s → m.reads s ≡ a.reads s
  pub beyond_b : (s : ℕ) → s < b.size → a.size ≤ s → n.reads s ≡ b.reads s
  pub only_a : (s : ℕ) → s < a.size → (x : Reading) → x ∈ m.may s → x ≡ m.reads s
  pub only_b : (s : ℕ) → s < b.size → (x : Reading) → x ∈ n.may s → x ≡ n.reads s

abbrev pub SyncedHalves : (a b : Meaning) → Answer → (m n : Meaning) → Type 0
SyncedHalves a b (Ok _) m n = Level a b m n
SyncedHalves a b (Err (OutOfRange s)) m n = ⊥
SyncedHalves a b (Err (Cut s)) m n = (m.size ≡ a.size) × (n.size ≡ b.size)
SyncedHalves a b (Err (Torn s)) m n = ⊥
