-- What the users of a device lean on. Assumes nothing.
use Rattle.std.specs.Prelude.{◌≡◌, ℕ, ◌<◌, ◌⊎◌, List, ◌++◌}
use Rattle.device.specs.Meaning.{Meaning, Reading, ◌∈◌, Lawful}
use Rattle.device.specs.Calls.{Synced}
use Rattle.device.specs.Runs.{Performed, CutBy, Ran, CutIn, Adds, SomeAdds, Grown}
use Rattle.device.specs.declared.run.Operation.{Operation}

-- a set never gains but by a write to its own sector, whether the operation is performed or cut
abbrev pub OnlyWritesAdd : Type 0
OnlyWritesAdd =
    (o : Operation) (m n : Meaning) → Performed m o n ⊎ CutBy m o n →
    (n.size ≡ m.size) × ((s : ℕ) → s < m.size → (x : Reading) → x ∈ n.may s → (x ∈ m.may s) ⊎ Adds o s x)

-- after a sync every set is one content
abbrev pub OneContentEach : Type 0
OneContentEach = (m n : Meaning) → Synced m n → (s : ℕ) → s < n.size → (x : Reading) → x ∈ n.may s → x ≡ n.reads s

-- a list that is run to its end or until a cut: its sets gain only by its own writes
abbrev pub RunsGrow : Type 0
RunsGrow = (os : List Operation) (m n : Meaning) → Ran m os n ⊎ ((t : ℕ) × CutIn m os t n) → Grown m os n

-- the sector `s` can hold nothing but `a`
abbrev pub Settled : Meaning → ℕ → Reading → Type 0
Settled m s a = (s < m.size) × ((x : Reading) → x ∈ m.may s → x ≡ a)

-- what is settled lasts, through any run and any cut, until its sector is written, and it is what the sector reads as
abbrev pub SettledLasts : Type 0
SettledLasts =
    (os : List Operation) (m n : Meaning) (s : ℕ) (a : Reading) → Ran m os n ⊎ ((t : ℕ) × CutIn m os t n) →
    ((x : Reading) → SomeAdds os s x → ⊥) → Lawful n → Settled m s a → Settled n s a × (n.reads s ≡ a)

-- lists join: one run after another is a run of both, and a cut in either is a cut in both
abbrev pub RunsJoin : Type 0
RunsJoin =
    (os ps : List Operation) (m k n : Meaning) (t : ℕ) →
    (Ran m os k → Ran k ps n → Ran m (os ++ ps) n)
    × (Ran m os k → CutIn k ps t n → CutIn m (os ++ ps) t n)
    × (CutIn m os t n → CutIn m (os ++ ps) t n)
