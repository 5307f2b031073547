-- Lists of operations, run in order until one is cut. Assumes nothing.
use Rattle.std.specs.Prelude.{◌≡◌, ℕ, ◌<◌, ◌≤◌, true, ◌⊎◌, List, [], ◌∷◌, Ok, Err}
use Rattle.device.specs.Meaning.{Meaning, Lawful, Reading, bytes, torn, ◌∈◌}
use Rattle.device.specs.Calls.{Answer, Kept, Joined, WasCut, Written, Synced, Woken}
use Rattle.device.specs.declared.fault.DeviceFault.TheVariants.{OutOfRange, Cut, Torn}
use Rattle.device.specs.declared.run.Operation.{Operation}
use Rattle.device.specs.declared.run.Operation.TheVariants.{Read, Write, Sync, Wake}

-- an operation that was not cut: it was done, or refused with nothing changed (at or past the size, or a torn sector)
abbrev pub Performed : Meaning → Operation → Meaning → Type 0
Performed m (Read at) n = (at < m.size → m.lit ≡ true) × (n ≡ m)
Performed m (Write at new) n = Written m at new n ⊎ ((m.size ≤ at) × (n ≡ m))
Performed m Sync n = Synced m n
Performed m Wake n = Woken m n

-- an operation that was cut; a wake never is
abbrev pub CutBy : Meaning → Operation → Meaning → Type 0
CutBy m (Read at) n = (at < m.size) × WasCut m (Kept m) n
CutBy m (Write at new) n = (at < m.size) × WasCut m (Joined m at new) n
CutBy m Sync n = WasCut m (Kept m) n
CutBy m Wake n = ⊥

-- the sector that an operation asks, 0 for a sync
abbrev pub asks : Operation → ℕ
asks (Read at) = at
asks (Write at new) = at
asks Sync = 0
asks Wake = 0

-- one operation, by its answer: only a cut is passed on
abbrev pub DidPerform : Meaning → Operation → Answer → Meaning → Type 0
DidPerform m o (Ok _) n = Performed m o n
DidPerform m o (Err (OutOfRange s)) n = ⊥
DidPerform m o (Err (Cut s)) n = (s ≡ asks o) × CutBy m o n
DidPerform m o (Err (Torn s)) n = ⊥

-- a cut is passed on; any other fault is a refusal that changed nothing
abbrev pub answer_unless_cut : Answer → Answer
answer_unless_cut (Ok u) = Ok u
answer_unless_cut (Err (OutOfRange s)) = Ok tt
answer_unless_cut (Err (Cut s)) = Err (Cut s)
answer_unless_cut (Err (Torn s)) = Ok tt

-- every operation of the list was performed, in order; what the device means in between is lawful
abbrev pub Ran : Meaning → List Operation → Meaning → Type 0
Ran m [] n = n ≡ m
Ran m (o ∷ os) n = (k : Meaning) × Lawful k × Performed m o k × Ran k os n

-- the operations were performed in order until one, which asks the sector `s`, was cut; none after it was tried
abbrev pub CutIn : Meaning → List Operation → ℕ → Meaning → Type 0
CutIn m [] s n = ⊥
CutIn m (o ∷ os) s n = ((s ≡ asks o) × CutBy m o n) ⊎ ((k : Meaning) × Lawful k × Performed m o k × CutIn k os s n)

abbrev pub DidRun : Meaning → List Operation → Answer → Meaning → Type 0
DidRun m os (Ok _) n = Ran m os n
DidRun m os (Err (OutOfRange s)) n = ⊥
DidRun m os (Err (Cut s)) n = CutIn m os s n
DidRun m os (Err (Torn s)) n = ⊥

-- what an operation may add to the set of the sector `s`: a write to it adds its bytes and torn
abbrev pub Adds : Operation → ℕ → Reading → Type 0
Adds (Read at) s x = ⊥
Adds (Write at new) s x = (s ≡ at) × ((x ≡ bytes new) ⊎ (x ≡ torn))
Adds Sync s x = ⊥
Adds Wake s x = ⊥

abbrev pub SomeAdds : List Operation → ℕ → Reading → Type 0
SomeAdds [] s x = ⊥
SomeAdds (o ∷ os) s x = Adds o s x ⊎ SomeAdds os s x

-- the size stays, and no set gains but by the writes of the list to its own sector
pub record Grown (m : Meaning) (os : List Operation) (n : Meaning) : Type 0 where
  pub size : n.size ≡ m.size
  pub gains : (s : ℕ) → s < m.size → (x : Reading) → x ∈ n.may s → (x ∈ m.may s) ⊎ SomeAdds os s x
