use Rattle.std.proofs.lemmas.Result.{err_from_is_err_and}
use Rattle.mirror.proofs.Moves.{write_first, write_second, write_stopped}
use Rattle.mirror.proofs.MirrorDevice.write.Goals as goal

pub returns-in_err-pass-clause-did : goal.returns-in_err-pass-clause-did
returns-in_err-pass-clause-did g c =
    let p = err_from_is_err_and c.from_residual.result c.from_residual.ensures.1 in
    rw (p.1, p.2) (write_stopped (g.A.Device.meaning c.args.self.now.a) (g.B.Device.meaning c.args.self.now.b) c.args.sector c.args.bytes.now c.in_err-pass.field-0.0 (g.A.Device.lawful c.args.self.now.a) (g.B.Device.lawful c.args.self.now.b) c.in_err-pass.ensures)

pub returns-in_err-write-clause-did : goal.returns-in_err-write-clause-did
returns-in_err-write-clause-did g c =
    let p = err_from_is_err_and c.from_residual-in_err-write.result c.from_residual-in_err-write.ensures.1 in
    rw (p.1, p.2) (write_first (g.A.Device.meaning c.args.self.now.a) (g.B.Device.meaning c.args.self.now.b) (g.A.Device.meaning c.write.new.self) c.args.sector c.args.bytes.now c.in_err-write.field-0.0 (g.B.Device.lawful c.args.self.now.b) c.in_ok-pass.ensures.0 c.in_err-write.ensures.did)

pub returns-clause-did : goal.returns-clause-did
returns-clause-did g c =
    (write_second (g.A.Device.meaning c.args.self.now.a) (g.B.Device.meaning c.args.self.now.b) (g.A.Device.meaning c.write.new.self) (g.B.Device.meaning c.write-2.new.self) c.args.sector c.args.bytes.now c.write-2.result
    (g.A.Device.lawful c.args.self.now.a) (g.B.Device.lawful c.args.self.now.b) c.in_ok-pass.ensures.0 c.in_ok-write.ensures.did c.write-2.ensures.did)
