-- A snapshot opened: the device is woken and synced, and what is then read decides.
use Rattle.std.specs.Prelude.{◌≡◌, true, ◌⊎◌, Some, None, Ok, Err, Result}
use Rattle.records.specs.Headers.{counts_good}
use Rattle.device.specs.Meaning.{Meaning}
use Rattle.device.specs.Runs.{Ran, CutIn}
use Rattle.device.specs.declared.fault.DeviceFault.TheVariants.{OutOfRange, Cut, Torn}
use Rattle.journal.specs.declared.choosing.SlotHeader.{SlotHeader}
use Rattle.protocol.specs.declared.faults.JournalFault.{JournalFault}
use Rattle.protocol.specs.declared.faults.JournalFault.TheVariants as fault
use Rattle.protocol.specs.Faults.{of_journal}
use Rattle.protocol.specs.Worlds.{World}
use Rattle.protocol.specs.Steps.{wake_ops, header_reads, body_reads, first_header, loaded, OpenCut}

module _ {S : Type 0} (w : World S) where
  -- the chosen header, and the state that its body is of
  pub record TakenUp (m : Meaning) (h : SlotHeader) (n : Meaning) (s : S) : Type 0 where
    pub did : Ran m wake_ops n
    pub chosen : first_header w n ≡ Some h
    pub counts : counts_good h.header ≡ true
    pub load : loaded w n h ≡ Ok s

  -- a body that is not taken
  pub record NotTaken (m : Meaning) (f : JournalFault) (n : Meaning) : Type 0 where
    pub did : Ran m wake_ops n
    pub head : SlotHeader
    pub chosen : first_header w n ≡ Some head
    pub load : loaded w n head ≡ Err (of_journal f)

  -- the same on a device that is awake and synced: nothing is changed any more
  pub record TakenFirst (m : Meaning) (h : SlotHeader) (n : Meaning) (s : S) : Type 0 where
    pub same : n ≡ m
    pub chosen : first_header w m ≡ Some h
    pub counts : counts_good h.header ≡ true
    pub load : loaded w m h ≡ Ok s

  pub record NotLoaded (m : Meaning) (f : JournalFault) (n : Meaning) : Type 0 where
    pub same : n ≡ m
    pub head : SlotHeader
    pub chosen : first_header w m ≡ Some head
    pub load : loaded w m head ≡ Err (of_journal f)

  abbrev pub Takes : Meaning → Result SlotHeader JournalFault → Meaning → S → Type 0
  Takes m (Ok h) n s = TakenFirst m h n s
  Takes m (Err (fault.Device (Cut t))) n s = CutIn m header_reads t n ⊎ ((h : SlotHeader) × (first_header w m ≡ Some h) × CutIn m (body_reads h.slot) t n)
  Takes m (Err (fault.Device (OutOfRange t))) n s = ⊥
  Takes m (Err (fault.Device (Torn t))) n s = NotLoaded m (fault.Device (Torn t)) n
  Takes m (Err fault.NoHeader) n s = (n ≡ m) × (first_header w m ≡ None)
  Takes m (Err (fault.Refused t)) n s = NotLoaded m (fault.Refused t) n
  Takes m (Err (fault.OtherLast t)) n s = NotLoaded m (fault.OtherLast t) n
  Takes m (Err (fault.BadPage t)) n s = ⊥

  abbrev pub Opens : Meaning → Result SlotHeader JournalFault → Meaning → S → Type 0
  Opens m (Ok h) n s = TakenUp m h n s
  Opens m (Err (fault.Device (Cut t))) n s = OpenCut w m t n
  Opens m (Err (fault.Device (OutOfRange t))) n s = ⊥
  Opens m (Err (fault.Device (Torn t))) n s = NotTaken m (fault.Device (Torn t)) n
  Opens m (Err fault.NoHeader) n s = Ran m wake_ops n × (first_header w n ≡ None)
  Opens m (Err (fault.Refused t)) n s = NotTaken m (fault.Refused t) n
  Opens m (Err (fault.OtherLast t)) n s = NotTaken m (fault.OtherLast t) n
  Opens m (Err (fault.BadPage t)) n s = ⊥
