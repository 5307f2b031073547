use Rattle.std.proofs.Common.{arith}
use Rattle.std.proofs.lemmas.Grind.{common_steps}
use Rattle.drives.specs.Drives.{state}
use Rattle.drives.proofs.Exact.{read_did}
use Rattle.drives.proofs.powered.DriveDevice.read.Goals as goal

pub returns-in_err-pass-clause-did : goal.returns-in_err-pass-clause-did
returns-in_err-pass-clause-did g c =
    read_did (state g.S.Store.image g.S.Store.waiting c.args.self.now) (state g.S.Store.image g.S.Store.waiting c.pass.new.self) c.args.sector c.args.buffer.now c.args.buffer.now c.from_residual.result (grind (arith, common_steps))

pub returns-in_err-buffer-clause-did : goal.returns-in_err-buffer-clause-did
returns-in_err-buffer-clause-did g c =
    read_did (state g.S.Store.image g.S.Store.waiting c.args.self.now) (state g.S.Store.image g.S.Store.waiting c.pass.new.self) c.args.sector c.args.buffer.now c.args.buffer.now c.from_residual-in_err-buffer.result (grind (arith, common_steps))
