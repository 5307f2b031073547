use Rattle.std.proofs.Common.{Ok, arith}
use Rattle.std.proofs.lemmas.Grind.{common_steps}
use Rattle.drives.specs.Drives.{state}
use Rattle.drives.proofs.Exact.{sync_did}
use Rattle.drives.proofs.powered.DriveDevice.sync.Goals as goal

pub returns-in_err-pass-clause-did : goal.returns-in_err-pass-clause-did
returns-in_err-pass-clause-did g c = sync_did (state g.S.Store.image g.S.Store.waiting c.args.self.now) (state g.S.Store.image g.S.Store.waiting c.pass.new.self) c.from_residual.result (grind (arith, common_steps))

pub returns-clause-did : goal.returns-clause-did
returns-clause-did g c =
    sync_did (state g.S.Store.image g.S.Store.waiting c.args.self.now) (state g.S.Store.image g.S.Store.waiting (record { store = c.flush.new.self; lit = c.pass.new.self.lit; fuse = c.pass.new.self.fuse })) (Ok tt) (grind (arith, common_steps))
