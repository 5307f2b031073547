use Rattle.std.proofs.Common.{◌≡◌}
use Rattle.mirror.specs.Halves.{lenders}
use Rattle.mirror.specs.Mends.{Mended}
use Rattle.mirror.proofs.Mirror.mend_all.Given as goal

abbrev pub invariant-loop-sector : goal.invariant-loop-sector
invariant-loop-sector g l = record {
  mended : Mended (g.A.Device.meaning l.initial.self.a) (g.B.Device.meaning l.initial.self.b) l.sector (g.A.Device.meaning l.self.a) (g.B.Device.meaning l.self.b);
  kept : lenders (g.A.Device.lender l.self.a) (g.B.Device.lender l.self.b) ≡ lenders (g.A.Device.lender l.initial.self.a) (g.B.Device.lender l.initial.self.b);
}
