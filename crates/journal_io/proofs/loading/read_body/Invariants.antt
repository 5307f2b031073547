use Rattle.std.proofs.Common.{◌≡◌, ◌*◌, length, take}
use Rattle.journal_io.proofs.Fetches.{ReadTo}
use Rattle.journal_io.proofs.loading.read_body.Given as goal

abbrev pub invariant-loop-i : goal.invariant-loop-i
invariant-loop-i g l = record {
  same : g.D.Device.meaning l.device ≡ g.D.Device.meaning l.initial.device;
  kept : g.D.Device.lender l.device ≡ g.D.Device.lender l.initial.device;
  long : length l.body ≡ 1536;
  read : ReadTo (g.D.Device.meaning l.initial.device) l.fn.slot l.i (take (512 * l.i) l.body);
}
