use Rattle.std.proofs.lemmas.Bool.{and_parts}
use Rattle.std.proofs.lemmas.Result.{err_from_is_err_and}
use Rattle.mirror.proofs.Moves.{read_first, read_refused, read_second, read_stopped}
use Rattle.mirror.proofs.MirrorDevice.read.Goals as goal

pub returns-in_err-pass-clause-did : goal.returns-in_err-pass-clause-did
returns-in_err-pass-clause-did g c =
    let p = err_from_is_err_and c.from_residual.result c.from_residual.ensures.1 in
    rw (p.1, p.2) (read_stopped (g.A.Device.meaning c.args.self.now.a) (g.B.Device.meaning c.args.self.now.b) c.args.sector c.args.buffer.now c.in_err-pass.field-0.0 (g.A.Device.lawful c.args.self.now.a) (g.B.Device.lawful c.args.self.now.b) c.in_err-pass.ensures)

pub returns-in_err-look-clause-did : goal.returns-in_err-look-clause-did
returns-in_err-look-clause-did g c =
    let p = err_from_is_err_and c.from_residual-in_err-look.result c.from_residual-in_err-look.ensures.1 in
    rw (p.1, p.2, c.in_err-look.ensures.left) (read_refused (g.A.Device.meaning c.args.self.now.a) (g.B.Device.meaning c.args.self.now.b) (g.A.Device.meaning c.look.new.device) c.args.sector c.args.buffer.now c.in_err-look.field-0.0 (g.B.Device.lawful c.args.self.now.b) c.in_ok-pass.ensures.0 c.in_err-look.ensures.did)

pub returns-then-branch-clause-did : goal.returns-then-branch-clause-did
returns-then-branch-clause-did g c =
    (read_first (g.A.Device.meaning c.args.self.now.a) (g.B.Device.meaning c.args.self.now.b) (g.A.Device.meaning c.look.new.device) c.args.sector c.look.new.buffer c.in_ok-pass.ensures.0 (and_parts _ _ c.in_ok-pass.ensures.1).1 (rw c.if-branch.true at c.in_ok-look.ensures.did))

pub returns-clause-did : goal.returns-clause-did
returns-clause-did g c =
    (read_second (g.A.Device.meaning c.args.self.now.a) (g.B.Device.meaning c.args.self.now.b) (g.A.Device.meaning c.look.new.device) (g.B.Device.meaning c.read.new.self) c.args.sector c.args.buffer.now c.read.result c.read.new.buffer
    (g.A.Device.lawful c.args.self.now.a) c.in_ok-pass.ensures.0 (rw c.if-branch.false at c.in_ok-look.ensures.did) (rw (c.in_ok-look.ensures.left c.if-branch.false) at c.read.ensures.did))
