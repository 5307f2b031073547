-- What is read from a device through the journal.
use Rattle.std.specs.Prelude.{◌≡◌, ℕ, true, ◌⊎◌, List, [], ◌∷◌, ◌++◌, Some, None, Ok, Err, Option, Result, ◌≢◌}
use Rattle.records.specs.Headers.{counts_good}
use Rattle.device.specs.Meaning.{Meaning, bytes, torn}
use Rattle.device.specs.Runs.{CutIn}
use Rattle.device.specs.declared.fault.DeviceFault.TheVariants.{OutOfRange, Cut, Torn}
use Rattle.device.specs.declared.run.Operation.TheVariants as op
use Rattle.journal.specs.declared.slots.Slot.{Slot}
use Rattle.journal.specs.declared.choosing.SlotHeader.{SlotHeader}
use Rattle.protocol.specs.declared.faults.JournalFault.{JournalFault}
use Rattle.protocol.specs.declared.faults.JournalFault.TheVariants as fault
use Rattle.protocol.specs.Faults.{of_journal}
use Rattle.protocol.specs.Worlds.{Rules, World, blank, body_at}
use Rattle.protocol.specs.Steps.{header_reads, body_reads, first_header, loaded}

-- a sector's bytes, or none where it is torn; a cut is told, and no other fault comes
abbrev pub Fetched : Meaning → ℕ → Result (Option (List ℕ)) JournalFault → Meaning → Type 0
Fetched m at (Ok (Some b)) n = (n ≡ m) × (m.lit ≡ true) × (m.reads at ≡ bytes b)
Fetched m at (Ok None) n = (n ≡ m) × (m.lit ≡ true) × (m.reads at ≡ torn)
Fetched m at (Err (fault.Device (Cut s))) n = CutIn m (op.Read at ∷ []) s n
Fetched m at (Err (fault.Device (OutOfRange s))) n = ⊥
Fetched m at (Err (fault.Device (Torn s))) n = ⊥
Fetched m at (Err fault.NoHeader) n = ⊥
Fetched m at (Err (fault.Refused s)) n = ⊥
Fetched m at (Err (fault.OtherLast s)) n = ⊥
Fetched m at (Err (fault.BadPage s)) n = ⊥

-- the first in rank of the good headers, whose counts go together; or none
abbrev pub Chose : {S : Type 0} → World S → Meaning → Result SlotHeader JournalFault → Meaning → Type 0
Chose w m (Ok h) n = (n ≡ m) × (first_header w m ≡ Some h) × (counts_good h.header ≡ true)
Chose w m (Err (fault.Device (Cut s))) n = CutIn m header_reads s n
Chose w m (Err (fault.Device (OutOfRange s))) n = ⊥
Chose w m (Err (fault.Device (Torn s))) n = ⊥
Chose w m (Err fault.NoHeader) n = (n ≡ m) × (first_header w m ≡ None)
Chose w m (Err (fault.Refused s)) n = ⊥
Chose w m (Err (fault.OtherLast s)) n = ⊥
Chose w m (Err (fault.BadPage s)) n = ⊥

-- the body of the chosen header is loaded, and the market is then in its state; or what is wrong with it
abbrev pub Took : {S : Type 0} → World S → Meaning → SlotHeader → Result (Unit {0}) JournalFault → Meaning → S → Type 0
Took w m h (Ok _) n s = (n ≡ m) × (loaded w m h ≡ Ok s)
Took w m h (Err (fault.Device (Cut t))) n s = CutIn m (body_reads h.slot) t n
Took w m h (Err (fault.Device (OutOfRange t))) n s = ⊥
Took w m h (Err (fault.Device (Torn t))) n s = (n ≡ m) × (loaded w m h ≡ Err (of_journal (fault.Device (Torn t))))
Took w m h (Err fault.NoHeader) n s = ⊥
Took w m h (Err (fault.Refused t)) n s = (n ≡ m) × (loaded w m h ≡ Err (of_journal (fault.Refused t)))
Took w m h (Err (fault.OtherLast t)) n s = (n ≡ m) × (loaded w m h ≡ Err (of_journal (fault.OtherLast t)))
Took w m h (Err (fault.BadPage t)) n s = ⊥

-- the three sectors of a slot's body, read one after another
pub record BodyIs (m : Meaning) (t : Slot) (b : List ℕ) : Type 0 where
  pub first : List ℕ
  pub second : List ℕ
  pub third : List ℕ
  pub first_read : m.reads (body_at t 0) ≡ bytes first
  pub second_read : m.reads (body_at t 1) ≡ bytes second
  pub third_read : m.reads (body_at t 2) ≡ bytes third
  pub joined : b ≡ first ++ (second ++ third)

-- the first torn one of them
pub data FirstTorn (m : Meaning) (t : Slot) (s : ℕ) : Type 0 where
  at_first : m.reads (body_at t 0) ≡ torn → s ≡ body_at t 0 → FirstTorn m t s
  at_second : (a : List ℕ) → m.reads (body_at t 0) ≡ bytes a → m.reads (body_at t 1) ≡ torn → s ≡ body_at t 1 → FirstTorn m t s
  at_third : (a b : List ℕ) → m.reads (body_at t 0) ≡ bytes a → m.reads (body_at t 1) ≡ bytes b → m.reads (body_at t 2) ≡ torn → s ≡ body_at t 2 → FirstTorn m t s

abbrev pub BodyRead : Meaning → Slot → Result (List ℕ) JournalFault → Meaning → Type 0
BodyRead m t (Ok b) n = (n ≡ m) × BodyIs m t b
BodyRead m t (Err (fault.Device (Cut s))) n = CutIn m (body_reads t) s n
BodyRead m t (Err (fault.Device (OutOfRange s))) n = ⊥
BodyRead m t (Err (fault.Device (Torn s))) n = (n ≡ m) × FirstTorn m t s
BodyRead m t (Err fault.NoHeader) n = ⊥
BodyRead m t (Err (fault.Refused s)) n = ⊥
BodyRead m t (Err (fault.OtherLast s)) n = ⊥
BodyRead m t (Err (fault.BadPage s)) n = ⊥

-- a header's sector; a torn one is taken for a sector of zeros, which is no header
abbrev pub HeaderRead : Meaning → ℕ → Result (List ℕ) JournalFault → Meaning → Type 0
HeaderRead m at (Ok b) n = (n ≡ m) × (m.lit ≡ true) × ((m.reads at ≡ bytes b) ⊎ ((m.reads at ≡ torn) × (b ≡ blank)))
HeaderRead m at (Err (fault.Device (Cut s))) n = CutIn m (op.Read at ∷ []) s n
HeaderRead m at (Err (fault.Device (OutOfRange s))) n = ⊥
HeaderRead m at (Err (fault.Device (Torn s))) n = ⊥
HeaderRead m at (Err fault.NoHeader) n = ⊥
HeaderRead m at (Err (fault.Refused s)) n = ⊥
HeaderRead m at (Err (fault.OtherLast s)) n = ⊥
HeaderRead m at (Err (fault.BadPage s)) n = ⊥

-- the market takes a body of so many commands that began at this sector, and is then in its state; or what is wrong with it
abbrev pub TakenBy : {S : Type 0} → Rules S → ℕ → ℕ → List ℕ → Result (Unit {0}) JournalFault → S → Type 0
TakenBy r at commands b (Ok _) s = (r.loads b ≡ Some s) × (r.count s ≡ commands)
TakenBy r at commands b (Err (fault.Device f)) s = ⊥
TakenBy r at commands b (Err fault.NoHeader) s = ⊥
TakenBy r at commands b (Err (fault.Refused t)) s = (t ≡ at) × (r.loads b ≡ None)
TakenBy r at commands b (Err (fault.OtherLast t)) s = (t ≡ at) × (r.loads b ≡ Some s) × (r.count s ≢ commands)
TakenBy r at commands b (Err (fault.BadPage t)) s = ⊥
