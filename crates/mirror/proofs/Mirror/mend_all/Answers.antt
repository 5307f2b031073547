use Rattle.std.proofs.Common.{refl, ◌∙◌, arith}
use Rattle.std.proofs.lemmas.Result.{err_from_is_err_and}
use Rattle.mirror.proofs.Mending.{mend_start, mend_step, mends_err}
use Rattle.mirror.proofs.Mirror.mend_all.Goals as goal

pub loop-sector-init : goal.loop-sector-init
loop-sector-init g c = record { mended = mend_start _ _ c.requires.tight_a c.requires.tight_b; kept = refl }

pub loop-sector-preserved : goal.loop-sector-preserved
loop-sector-preserved g c = record {
  mended = mend_step _ _ _ _ _ _ _ c.loop-sector.invariant.mended (omega arith) (omega arith) c.in_ok-mend.ensures.did;
  kept = c.in_ok-mend.ensures.kept ∙ c.loop-sector.invariant.kept;
}

pub returns-in_err-mend-clause-did : goal.returns-in_err-mend-clause-did
returns-in_err-mend-clause-did g c =
    let p = err_from_is_err_and c.from_residual.result c.from_residual.ensures.1 in
    rw (p.1, p.2) (mends_err _ _ _ _ _ _ c.loop-sector.sector c.in_err-mend.field-0.0
    (g.A.Device.lawful c.args.self.now.a) (g.B.Device.lawful c.args.self.now.b) (g.A.Device.lawful c.loop-sector.self.a) (g.B.Device.lawful c.loop-sector.self.b)
    c.loop-sector.invariant.mended (omega arith) (omega arith) c.in_err-mend.ensures.did)
