use Rattle.std.proofs.Common.{refl}
use Rattle.protocol.specs.Worlds.{rules_of}
use Rattle.protocol.specs.Steps.{world_of}
use Rattle.exchange.specs.Views.{view}
use Rattle.exchange.proofs.Refusing.{stage_refused}
use Rattle.exchange.proofs.state.Exchange.stage.Goals as goal

pub returns-in_err-command : goal.returns-in_err-command
returns-in_err-command g c =
    let x = view g.M.Market g.D.Device c.args.self.now in
    record {
      did = stage_refused (world_of (rules_of g.M.Market) x) x _ c.args.bytes.now c.from_residual.result c.in_err-command.ensures.judged c.from_residual.ensures.1;
      kept = refl;
    }
