use Rattle.std.proofs.Common.{arith, rules}
use Rattle.std.proofs.lemmas.Grind.{common_steps}
use Rattle.std.proofs.lemmas.Result.{err_from_is_err_and}
use Rattle.device.specs.declared.run.Operation.TheVariants.{Read}
use Rattle.device.proofs.Running.{ran_more, ran_grows, stopped}
use Rattle.device.proofs.run.run.Goals as goal

pub loop-operation-preserved : goal.loop-operation-preserved
loop-operation-preserved g c = (
  ran_more c.args.script.now c.loop-operation.operation-index (Read 0) _ (g.D.Device.meaning c.loop-operation.device) _
      (omega arith) c.loop-operation.invariant.0 (g.D.Device.lawful c.perform.new.device) c.in_ok-perform.ensures.did,
  search rules,
)

pub returns-in_err-perform : goal.returns-in_err-perform
returns-in_err-perform g c =
    let p = err_from_is_err_and c.from_residual.result c.from_residual.ensures.1 in
    let q = stopped c.args.script.now c.loop-operation.operation-index (Read 0) (g.D.Device.meaning c.args.device.now) (g.D.Device.meaning c.loop-operation.device) (g.D.Device.meaning c.perform.new.device) _
    (omega arith) c.loop-operation.invariant.0 c.in_err-perform.ensures.did in
    record { did = rw (p.1, p.2) q.0; grown = q.1; kept = search rules }

pub returns-clause-grown : goal.returns-clause-grown
returns-clause-grown g c = ran_grows c.args.script.now (g.D.Device.meaning c.args.device.now) (g.D.Device.meaning c.loop-operation.device) (grind (arith, common_steps))
