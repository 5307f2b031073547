use Rattle.std.proofs.Common.{true, None, arith}
use Rattle.std.proofs.lemmas.Grind.{common_steps}
use Rattle.drives.specs.Drives.{state}
use Rattle.drives.proofs.Exact.{wake_did}
use Rattle.drives.proofs.powered.DriveDevice.wake.Goals as goal

pub returns-then-not-self-clause-did : goal.returns-then-not-self-clause-did
returns-then-not-self-clause-did g c = wake_did (state g.S.Store.image g.S.Store.waiting c.args.self.now) (state g.S.Store.image g.S.Store.waiting (record { store = c.args.self.now.store; lit = true; fuse = None })) (grind (arith, common_steps))

pub returns-else-not-self-clause-did : goal.returns-else-not-self-clause-did
returns-else-not-self-clause-did g c = wake_did (state g.S.Store.image g.S.Store.waiting c.args.self.now) (state g.S.Store.image g.S.Store.waiting c.args.self.now) (grind (arith, common_steps))
