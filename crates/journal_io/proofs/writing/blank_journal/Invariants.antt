use Rattle.std.proofs.Common.{◌≡◌}
use Rattle.device.specs.Runs.{Ran}
use Rattle.protocol.specs.Steps.{blanks}
use Rattle.journal_io.proofs.writing.blank_journal.Given as goal

abbrev pub invariant-loop-i : goal.invariant-loop-i
invariant-loop-i g l = Ran (g.D.Device.meaning l.initial.device) (blanks 8 l.i) (g.D.Device.meaning l.device) × (g.D.Device.lender l.device ≡ g.D.Device.lender l.initial.device)
