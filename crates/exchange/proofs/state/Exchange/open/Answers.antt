use Rattle.std.proofs.Common.{refl, ap, ◌∙◌}
use Rattle.protocol.specs.Worlds.{rules_of}
use Rattle.protocol.specs.Steps.{world_of}
use Rattle.exchange.specs.Views.{view}
use Rattle.exchange.proofs.Opening.{open_fails}
use Rattle.exchange.proofs.Refusing.{open_refused}
use Rattle.exchange.proofs.state.Exchange.open.Goals as goal

pub returns-in_err-way : goal.returns-in_err-way
returns-in_err-way g c =
    let x = view g.M.Market g.D.Device c.args.self.now in
    record {
      did = open_refused (world_of (rules_of g.M.Market) x) x _ c.from_residual.result c.in_err-way.ensures.judged c.from_residual.ensures.1;
      kept = refl;
    }

pub returns-in-Err : goal.returns-in-Err
returns-in-Err g c =
    let x = view g.M.Market g.D.Device c.args.self.now in
    let w = world_of (rules_of g.M.Market) x in
    let e = c.in-Err.ensures in
    record {
      did = open_fails w x (view g.M.Market g.D.Device c.reset_by.new.self) (g.D.Device.meaning c.open_snapshot.new.device) (g.M.Market.means c.open_snapshot.new.market) c.in-Err.fault c.reset_by.result c.in_ok-way.ensures.judged (g.D.Device.lawful c.open_snapshot.new.device) e.did c.reset_by.ensures.fault c.reset_by.ensures.reset;
      kept = ap g.D.Device.lender c.reset_by.ensures.kept ∙ e.kept;
    }
