-- A snapshot opened: from what is read after the wake and the sync.
use Rattle.std.proofs.Common.{◌≡◌, ℕ, IsErrAnd, Some, None, Ok, Err, Result, sym, ◌∙◌, subst, inl, inr}
use Rattle.records.specs.declared.numbers.HouseNumber.{HouseNumber}
use Rattle.device.specs.Meaning.{Meaning}
use Rattle.device.specs.Runs.{Ran, CutIn}
use Rattle.device.specs.declared.fault.DeviceFault.TheVariants.{OutOfRange, Cut, Torn}
use Rattle.journal.specs.declared.choosing.SlotHeader.{SlotHeader}
use Rattle.protocol.specs.declared.faults.JournalFault.{JournalFault}
use Rattle.protocol.specs.declared.faults.JournalFault.TheVariants as fault
use Rattle.protocol.specs.declared.faults.ExchangeFault.{ExchangeFault}
use Rattle.protocol.specs.Worlds.{Rules, World}
use Rattle.protocol.specs.Steps.{wake_ops, header_reads, body_reads, first_header, loaded, early, in_body}
use Rattle.journal_io.specs.Readings.{Took, Chose}
use Rattle.protocol.specs.Faults.{of_journal}
use Rattle.journal_io.specs.Opening.{Takes, NotLoaded, NotTaken, Opens}
use Rattle.protocol.proofs.Devices.{then_cut}

module _ {S : Type 0} (house : HouseNumber) (rules : Rules S) where
  abbrev sized : ℕ → World S
  sized size = record { house = house; size = size; rules = rules }

  module _ (m k n : Meaning) (s : S) (ran : Ran m wake_ops k) where
    not_taken : (f : JournalFault) → NotLoaded (sized k.size) k f n → NotTaken (sized m.size) m f n
    not_taken f t = record {
      did = subst (Ran m wake_ops) (sym t.same) ran;
      head = t.head;
      chosen = subst (λ z. first_header (sized m.size) z ≡ Some t.head) (sym t.same) t.chosen;
      load = subst (λ z. loaded (sized m.size) z t.head ≡ Err (of_journal f)) (sym t.same) t.load;
    }

    pub opens : (r : Result SlotHeader JournalFault) → Takes (sized k.size) k r n s → Opens (sized m.size) m r n s
    opens (Ok h) t = record {
      did = subst (Ran m wake_ops) (sym t.same) ran;
      chosen = subst (λ z. first_header (sized m.size) z ≡ Some h) (sym t.same) t.chosen;
      counts = t.counts;
      load = subst (λ z. loaded (sized m.size) z h ≡ Ok s) (sym t.same) t.load;
    }
    opens (Err (fault.Device (Cut a))) (inl c) = early (then_cut m k n wake_ops header_reads a ran c)
    opens (Err (fault.Device (Cut a))) (inr (h, e, c)) = in_body k ran h e c
    opens (Err (fault.Device (OutOfRange a))) t = t
    opens (Err (fault.Device (Torn a))) t = not_taken (fault.Device (Torn a)) t
    opens (Err fault.NoHeader) t = (subst (Ran m wake_ops) (sym t.0) ran, subst (λ z. first_header (sized m.size) z ≡ None) (sym t.0) t.1)
    opens (Err (fault.Refused a)) t = not_taken (fault.Refused a) t
    opens (Err (fault.OtherLast a)) t = not_taken (fault.OtherLast a) t
    opens (Err (fault.BadPage a)) t = t

  -- a header was chosen, and then its body is loaded, or not
  module _ (m k n : Meaning) (s : S) (h : SlotHeader) (chose : Chose (sized m.size) m (Ok h) k) where
    pub takes : Took (sized k.size) k h (Ok tt) n s → Takes (sized m.size) m (Ok h) n s
    takes t = record { same = t.0 ∙ chose.0; chosen = chose.1; counts = chose.2; load = subst (λ z. loaded (sized m.size) z h ≡ Ok s) chose.0 t.1 }

    pub takes_not : (f : JournalFault) (r : Result SlotHeader JournalFault) → Took (sized k.size) k h (Err f) n s → IsErrAnd r (λ y. y ≡ f) → Takes (sized m.size) m r n s
    takes_not f (Ok x) t e = absurd e
    takes_not f (Err y) t e = subst (λ z. Takes (sized m.size) m (Err z) n s) (sym e) (go f t)
      where
        unloaded : (f : JournalFault) (g : ExchangeFault) → (n ≡ k) × (loaded (sized k.size) k h ≡ Err g) → (n ≡ m) × (loaded (sized m.size) m h ≡ Err g)
        unloaded f g t = (t.0 ∙ chose.0, subst (λ z. loaded (sized m.size) z h ≡ Err g) chose.0 t.1)

        go : (f : JournalFault) → Took (sized k.size) k h (Err f) n s → Takes (sized m.size) m (Err f) n s
        go (fault.Device (Cut a)) t = inr (h, chose.1, subst (λ z. CutIn z (body_reads h.slot) a n) chose.0 t)
        go (fault.Device (OutOfRange a)) t = t
        go (fault.Device (Torn a)) t = let q = unloaded (fault.Device (Torn a)) _ t in record { same = q.0; head = h; chosen = chose.1; load = q.1 }
        go fault.NoHeader t = absurd t
        go (fault.Refused a) t = let q = unloaded (fault.Refused a) _ t in record { same = q.0; head = h; chosen = chose.1; load = q.1 }
        go (fault.OtherLast a) t = let q = unloaded (fault.OtherLast a) _ t in record { same = q.0; head = h; chosen = chose.1; load = q.1 }
        go (fault.BadPage a) t = t
