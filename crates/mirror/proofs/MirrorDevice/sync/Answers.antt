use Rattle.std.proofs.Common.{◌≡◌, sym, ◌∙◌, arith, rules}
use Rattle.std.proofs.lemmas.Grind.{common_steps}
use Rattle.std.proofs.lemmas.Result.{err_from_is_err_and}
use Rattle.device.specs.Shift.{told_below}
use Rattle.mirror.proofs.Mending.{sync_dark, sync_first, sync_mend, mended, sync_last}
use Rattle.mirror.proofs.MirrorDevice.sync.Goals as goal

pub returns-then-not-lit-clause-did : goal.returns-then-not-lit-clause-did
returns-then-not-lit-clause-did g c = (sync_dark (g.A.Device.meaning c.args.self.now.a) (g.B.Device.meaning c.args.self.now.b) (g.A.Device.lawful c.args.self.now.a) (g.B.Device.lawful c.args.self.now.b) (search rules))

pub returns-in_err-sync_both-clause-did : goal.returns-in_err-sync_both-clause-did
returns-in_err-sync_both-clause-did g c =
    let p = err_from_is_err_and c.from_residual.result c.from_residual.ensures.1 in
    rw (p.1, p.2) (sync_first (g.A.Device.meaning c.args.self.now.a) (g.B.Device.meaning c.args.self.now.b) (g.A.Device.meaning c.sync_both.new.self.a) (g.B.Device.meaning c.sync_both.new.self.b) c.in_err-sync_both.field-0.0 (g.A.Device.lawful c.args.self.now.a) (g.B.Device.lawful c.args.self.now.b) c.in_err-sync_both.ensures.did)

pub returns-in_err-map_err-clause-did : goal.returns-in_err-map_err-clause-did
returns-in_err-map_err-clause-did g c =
    let p = err_from_is_err_and c.from_residual-in_err-map_err.result c.from_residual-in_err-map_err.ensures.1 in
    let e : c.map_err.result ≡ told_below 0 c.mend_all.result = grind (arith, common_steps) in
    rw (p.1, p.2) (sync_mend (g.A.Device.meaning c.args.self.now.a) (g.B.Device.meaning c.args.self.now.b) (g.A.Device.meaning c.sync_both.new.self.a) (g.B.Device.meaning c.sync_both.new.self.b) (g.A.Device.meaning c.mend_all.new.self.a) (g.B.Device.meaning c.mend_all.new.self.b) c.mend_all.result c.in_err-map_err.field-0.0
    (g.A.Device.lawful c.args.self.now.a) (g.B.Device.lawful c.args.self.now.b) c.in_ok-sync_both.ensures.did c.mend_all.ensures.did (sym e ∙ c.in_err-map_err.was))

pub returns-clause-did : goal.returns-clause-did
returns-clause-did g c =
    let e : c.map_err.result ≡ told_below 0 c.mend_all.result = grind (arith, common_steps) in
    let d = mended (g.A.Device.meaning c.sync_both.new.self.a) (g.B.Device.meaning c.sync_both.new.self.b) (g.A.Device.meaning c.mend_all.new.self.a) (g.B.Device.meaning c.mend_all.new.self.b) c.mend_all.result c.in_ok-map_err.field-0 c.mend_all.ensures.did (sym e ∙ c.in_ok-map_err.was) in
    (sync_last (g.A.Device.meaning c.args.self.now.a) (g.B.Device.meaning c.args.self.now.b) (g.A.Device.meaning c.sync_both.new.self.a) (g.B.Device.meaning c.sync_both.new.self.b) (g.A.Device.meaning c.mend_all.new.self.a) (g.B.Device.meaning c.mend_all.new.self.b)
    (g.A.Device.meaning c.sync_both-2.new.self.a) (g.B.Device.meaning c.sync_both-2.new.self.b) c.sync_both-2.result
    (g.A.Device.lawful c.args.self.now.a) (g.B.Device.lawful c.args.self.now.b) (g.A.Device.lawful c.sync_both.new.self.a) (g.B.Device.lawful c.sync_both.new.self.b) (g.A.Device.lawful c.mend_all.new.self.a) (g.B.Device.lawful c.mend_all.new.self.b)
    c.in_ok-sync_both.ensures.did d c.sync_both-2.ensures.did)
