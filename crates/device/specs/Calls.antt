-- What each call of a device may do to its meaning: a relation of the meaning before, the arguments, the answer and the
-- meaning after, with a clause for each answer (⊥ where an answer never comes). Assumes nothing.
use Rattle.std.specs.Prelude.{◌≡◌, ℕ, ◌<◌, ◌≤◌, true, false, ◌⊎◌, List, Some, None, Ok, Err, Option, Result, ◌≢◌}
use Rattle.device.specs.Meaning.{Meaning, Reading, bytes, torn, ◌∈◌}
use Rattle.device.specs.declared.fault.DeviceFault.{DeviceFault}
use Rattle.device.specs.declared.fault.DeviceFault.TheVariants.{OutOfRange, Cut, Torn}

abbrev pub Answer : Type 0
Answer = Result (Unit {0}) DeviceFault

-- Three things are left free, and no others: what a cut leaves, what a wake leaves, and how much a write adds to its
-- sector's set. `Kept`, `Joined` and `Moved` bound them.

-- the contents that a sector's own set allows
abbrev pub Kept : Meaning → ℕ → Reading → Type 0
Kept before s x = x ∈ before.may s

-- the same, where the bytes of a write to the sector `at`, and torn, may have joined that sector's set
abbrev pub Joined : Meaning → ℕ → List ℕ → ℕ → Reading → Type 0
Joined before at new s x = (x ∈ before.may s) ⊎ ((s ≡ at) × ((x ≡ bytes new) ⊎ (x ≡ torn)))

-- each sector, on its own, reads as one of the contents allowed to it, and no set has more than these
pub record Moved (before : Meaning) (allowed : ℕ → Reading → Type 0) (after : Meaning) : Type 0 where
  pub size : after.size ≡ before.size
  pub left : (s : ℕ) → s < before.size → allowed s (after.reads s)
  pub gains : (s : ℕ) → s < before.size → (x : Reading) → x ∈ after.may s → allowed s x

-- a cut: the device is then dark
pub record WasCut (before : Meaning) (allowed : ℕ → Reading → Type 0) (after : Meaning) : Type 0 where
  pub dark : after.lit ≡ false
  pub moved : Moved before allowed after

-- a read of the sector `at` that gave the bytes `new`
pub record Filled (before : Meaning) (at : ℕ) (new : List ℕ) (after : Meaning) : Type 0 where
  pub within : at < before.size
  pub was_lit : before.lit ≡ true
  pub here : before.reads at ≡ bytes new
  pub same : after ≡ before

-- a read that met a torn sector
pub record FoundTorn (before : Meaning) (at : ℕ) (after : Meaning) : Type 0 where
  pub within : at < before.size
  pub was_lit : before.lit ≡ true
  pub here : before.reads at ≡ torn
  pub same : after ≡ before

-- a read of the sector `at` into a buffer that held `old` and then holds `new`: a refused read keeps the buffer
abbrev pub DidRead : (before : Meaning) (at : ℕ) (old : List ℕ) → Answer → (new : List ℕ) (after : Meaning) → Type 0
DidRead before at old (Ok _) new after = Filled before at new after
DidRead before at old (Err (OutOfRange s)) new after = (s ≡ at) × (before.size ≤ at) × (after ≡ before) × (new ≡ old)
DidRead before at old (Err (Cut s)) new after = (s ≡ at) × (at < before.size) × WasCut before (Kept before) after × (new ≡ old)
DidRead before at old (Err (Torn s)) new after = (s ≡ at) × FoundTorn before at after × (new ≡ old)

-- a read that asks for the whole sector: its bytes, or none where it is torn, and any other fault as the read tells it
abbrev pub DidReadWhole : (before : Meaning) (at : ℕ) → Result (Option (List ℕ)) DeviceFault → (after : Meaning) → Type 0
DidReadWhole before at (Ok (Some b)) after = Filled before at b after
DidReadWhole before at (Ok None) after = FoundTorn before at after
DidReadWhole before at (Err (OutOfRange s)) after = (s ≡ at) × (before.size ≤ at) × (after ≡ before)
DidReadWhole before at (Err (Cut s)) after = (s ≡ at) × (at < before.size) × WasCut before (Kept before) after
DidReadWhole before at (Err (Torn s)) after = ⊥

-- a write of `new` to the sector `at`: it reads as that, its set gains at most that and torn, and no other changes or gains
pub record Written (before : Meaning) (at : ℕ) (new : List ℕ) (after : Meaning) : Type 0 where
  pub within : at < before.size
  pub was_lit : before.lit ≡ true
  pub size : after.size ≡ before.size
  pub lit : after.lit ≡ true
  pub here : after.reads at ≡ bytes new
  pub others : (s : ℕ) → s < before.size → (s ≢ at) → after.reads s ≡ before.reads s
  pub gains : (s : ℕ) → s < before.size → (x : Reading) → x ∈ after.may s → Joined before at new s x

abbrev pub DidWrite : (before : Meaning) (at : ℕ) (new : List ℕ) → Answer → (after : Meaning) → Type 0
DidWrite before at new (Ok _) after = Written before at new after
DidWrite before at new (Err (OutOfRange s)) after = (s ≡ at) × (before.size ≤ at) × (after ≡ before)
DidWrite before at new (Err (Cut s)) after = (s ≡ at) × (at < before.size) × WasCut before (Joined before at new) after
DidWrite before at new (Err (Torn s)) after = ⊥

-- a sync changes no reading, and each set shrinks, to what its sector reads as
pub record Synced (before after : Meaning) : Type 0 where
  pub was_lit : before.lit ≡ true
  pub size : after.size ≡ before.size
  pub lit : after.lit ≡ true
  pub reads : (s : ℕ) → s < before.size → after.reads s ≡ before.reads s
  pub gains : (s : ℕ) → s < before.size → (x : Reading) → x ∈ after.may s → Kept before s x
  pub only : (s : ℕ) → s < before.size → (x : Reading) → x ∈ after.may s → x ≡ before.reads s

abbrev pub DidSync : (before : Meaning) → Answer → (after : Meaning) → Type 0
DidSync before (Ok _) after = Synced before after
DidSync before (Err (OutOfRange s)) after = ⊥
DidSync before (Err (Cut s)) after = (s ≡ 0) × WasCut before (Kept before) after
DidSync before (Err (Torn s)) after = ⊥

-- a wake always ends lit
pub record Woken (before after : Meaning) : Type 0 where
  pub lit : after.lit ≡ true
  pub moved : Moved before (Kept before) after
