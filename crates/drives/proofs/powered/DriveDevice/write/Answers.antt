use Rattle.std.proofs.Common.{Ok, arith, rules}
use Rattle.std.proofs.lemmas.Grind.{common_steps}
use Rattle.drives.specs.Drives.{state}
use Rattle.drives.proofs.Exact.{write_did}
use Rattle.drives.proofs.powered.DriveDevice.write.Goals as goal

pub returns-in_err-pass-clause-did : goal.returns-in_err-pass-clause-did
returns-in_err-pass-clause-did g c =
    write_did g.S.Store.room (state g.S.Store.image g.S.Store.waiting c.args.self.now) (state g.S.Store.image g.S.Store.waiting c.pass.new.self) c.args.sector c.args.bytes.now c.from_residual.result (search rules) (grind (arith, common_steps))

pub returns-clause-did : goal.returns-clause-did
returns-clause-did g c =
    write_did g.S.Store.room (state g.S.Store.image g.S.Store.waiting c.args.self.now) (state g.S.Store.image g.S.Store.waiting (record { store = c.put.new.self; lit = c.pass.new.self.lit; fuse = c.pass.new.self.fuse })) c.args.sector c.args.bytes.now (Ok tt) (search rules) (grind (arith, common_steps))
