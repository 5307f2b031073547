use Rattle.std.proofs.Common.{Err, refl, ap, ◌∙◌, rules}
use Rattle.protocol.specs.Worlds.{rules_of}
use Rattle.protocol.specs.Steps.{world_of, write_reasons, write_ops}
use Rattle.journal_io.specs.Running.{Running}
use Rattle.exchange.specs.Views.{view}
use Rattle.exchange.proofs.Cutting.{cut_off}
use Rattle.exchange.proofs.Refusing.{write_refused}
use Rattle.exchange.proofs.state.Exchange.write.Goals as goal

pub returns-in_err-way : goal.returns-in_err-way
returns-in_err-way g c =
    let x = view g.M.Market g.D.Device c.args.self.now in
    record {
      did = write_refused (world_of (rules_of g.M.Market) x) x _ c.from_residual.result c.in_err-way.ensures.judged c.from_residual.ensures.1;
      kept = refl;
    }

pub returns-in-Err : goal.returns-in-Err
returns-in-Err g c =
    let x = view g.M.Market g.D.Device c.args.self.now in
    let w = world_of (rules_of g.M.Market) x in
    let m = g.D.Device.meaning in
    let d = c.args.self.now.device in
    let n = m c.put_page.new.device in
    let e = c.in-Err.ensures in
    let ran : Running (m d) (write_ops w x) (Err c.in-Err.fault) n = search rules in
    record {
      did = cut_off w (write_reasons w x) x (view g.M.Market g.D.Device c.reset_by.new.self) (m d) n (write_ops w x) c.in-Err.fault c.reset_by.result c.in_ok-way.ensures.judged (g.D.Device.lawful c.put_page.new.device) ran c.reset_by.ensures.fault c.reset_by.ensures.reset;
      kept = ap g.D.Device.lender c.reset_by.ensures.kept ∙ e.kept;
    }
