-- The steps of a mirror's sync. Assumes nothing.
use Rattle.std.specs.Prelude.{◌≡◌, ℕ, ◌<◌, ◌≤◌, min, Bool, true, false, ◌⊎◌, List, Some, None, Option, Ok, Err, Result, ◌≢◌}
use Rattle.device.specs.declared.fault.DeviceFault.{DeviceFault}
use Rattle.device.specs.declared.fault.DeviceFault.TheVariants.{OutOfRange, Cut, Torn}
use Rattle.device.specs.Calls.{Answer, WasCut, Written, Synced, Kept, Joined}
use Rattle.device.specs.Meaning.{Meaning, Reading, bytes, torn, ◌∈◌}
use Rattle.mirror.specs.Halves.{either, mirrored}

-- what a read into a lent buffer brings, told by whether the sector has bytes: those that then stand in the buffer, or none
abbrev pub brought : Result Bool DeviceFault → List ℕ → Result (Option (List ℕ)) DeviceFault
brought (Ok true) new = Ok (Some new)
brought (Ok false) new = Ok None
brought (Err f) new = Err f

-- both halves synced, A first
abbrev pub SyncsBoth : (a b : Meaning) → Answer → (m n : Meaning) → Type 0
SyncsBoth a b (Ok _) m n = Synced a m × Synced b n
SyncsBoth a b (Err (OutOfRange s)) m n = ⊥
SyncsBoth a b (Err (Cut s)) m n = (s ≡ 0) × ((WasCut a (Kept a) m × (n ≡ b)) ⊎ (Synced a m × WasCut b (Kept b) n))
SyncsBoth a b (Err (Torn s)) m n = ⊥

-- the sector `s` made equal: where the halves differ, the one that differs from what the mirror reads is written
abbrev pub MendedOne : (a b : Meaning) → ℕ → (m n : Meaning) → Type 0
MendedOne a b s m n =
    ((a.reads s ≡ b.reads s) × (m ≡ a) × (n ≡ b))
    ⊎ (((x : List ℕ) × (a.reads s ≡ bytes x) × (b.reads s ≢ bytes x) × (m ≡ a) × Written b s x n)
    ⊎ ((y : List ℕ) × (a.reads s ≡ torn) × (b.reads s ≡ bytes y) × (n ≡ b) × Written a s y m))

-- a half was cut, in a read or in the write of what the mirror reads
abbrev pub CutOne : (a b : Meaning) → ℕ → (m n : Meaning) → Type 0
CutOne a b s m n =
    (WasCut a (Kept a) m × (n ≡ b))
    ⊎ (((m ≡ a) × WasCut b (Kept b) n)
    ⊎ (((x : List ℕ) × (a.reads s ≡ bytes x) × (m ≡ a) × WasCut b (Joined b s x) n)
    ⊎ ((y : List ℕ) × (a.reads s ≡ torn) × (b.reads s ≡ bytes y) × (n ≡ b) × WasCut a (Joined a s y) m)))

abbrev pub MendsOne : (a b : Meaning) → ℕ → Answer → (m n : Meaning) → Type 0
MendsOne a b s (Ok u) m n = MendedOne a b s m n
MendsOne a b s (Err (OutOfRange t)) m n = ⊥
MendsOne a b s (Err (Cut t)) m n = CutOne a b s m n
MendsOne a b s (Err (Torn t)) m n = ⊥

-- nothing but what a sector reads as
abbrev pub Tight : Meaning → Type 0
Tight m = (s : ℕ) → s < m.size → (x : Reading) → x ∈ m.may s → x ≡ m.reads s

-- each sector below `k` was made equal, and the others are as they were
pub record Mended (a b : Meaning) (k : ℕ) (m n : Meaning) : Type 0 where
  pub size_a : m.size ≡ a.size
  pub size_b : n.size ≡ b.size
  pub near_a : (s : ℕ) → s < a.size → s < b.size → (x : Reading) → x ∈ m.may s → (x ≡ a.reads s) ⊎ ((x ≡ either (a.reads s) (b.reads s)) ⊎ (x ≡ torn))
  pub near_b : (s : ℕ) → s < a.size → s < b.size → (x : Reading) → x ∈ n.may s → (x ≡ b.reads s) ⊎ ((x ≡ either (a.reads s) (b.reads s)) ⊎ (x ≡ torn))
  pub never : (s : ℕ) → s < a.size → s < b.size → torn ∈ m.may s → torn ∈ n.may s → either (a.reads s) (b.reads s) ≡ torn
  pub done : (s : ℕ) → s < a.size → s < b.size → s < k → (m.reads s ≡ either (a.reads s) (b.reads s)) × (n.reads s ≡ either (a.reads s) (b.reads s))
  pub rest : (s : ℕ) → s < a.size → s < b.size → k ≤ s → (m.reads s ≡ a.reads s) × (n.reads s ≡ b.reads s) × ((x : Reading) → x ∈ m.may s → x ≡ a.reads s) × ((x : Reading) → x ∈ n.may s → x ≡ b.reads s)
  pub beyond_a : (s : ℕ) → s < a.size → b.size ≤ s → m.reads s ≡ a.reads s
  pub beyond_b : (s : ℕ) → s < b.size → a.size ≤ s → n.reads s ≡ b.reads s

abbrev pub MendsAll : (a b : Meaning) → Answer → (m n : Meaning) → Type 0
MendsAll a b (Ok u) m n = Mended a b (min a.size b.size) m n
MendsAll a b (Err (OutOfRange t)) m n = ⊥
MendsAll a b (Err (Cut t)) m n = WasCut (mirrored a b) (Kept (mirrored a b)) (mirrored m n) × (m.size ≡ a.size) × (n.size ≡ b.size)
MendsAll a b (Err (Torn t)) m n = ⊥
