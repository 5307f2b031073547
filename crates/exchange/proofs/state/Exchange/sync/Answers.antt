use Rattle.std.proofs.Common.{◌≡◌, length, refl, ap, ◌∙◌}
use Rattle.protocol.specs.Worlds.{rules_of, given}
use Rattle.protocol.specs.declared.tokens.ReceiptNumbers.{ReceiptNumbers}
use Rattle.protocol.specs.Faults.{plain}
use Rattle.protocol.specs.Steps.{world_of, applied, sync_reasons, sync_ops, refused}
use Rattle.exchange.specs.Views.{view}
use Rattle.exchange.proofs.Cutting.{cut_off, cut_spends, phase_spends, ticket_comes_back, front_taken, front_over}
use Rattle.exchange.proofs.state.Exchange.sync.Goals as goal

pub returns-in-Ok-perform_all : goal.returns-in-Ok-perform_all
returns-in-Ok-perform_all g c =
    let x = view g.M.Market g.D.Device c.args.self.now in
    let w = world_of (rules_of g.M.Market) x in
    let a = c.apply_staged.ensures.applied in
    let vs = given w x.market x.staged in
    let n : c.apply_staged.result.numbers.notices ≡ length vs = ap (λ (z : ReceiptNumbers). z.notices) a.receipt in
    record {
      did = record {
        allowed = c.in-Ok.ensures.judged;
        device = g.D.Device.meaning c.perform_all.new.device;
        did = c.in-Ok-perform_all.ensures.did;
        answer = a.receipt;
        notices = front_taken c.args.list.now c.apply_staged.new.list vs x.notices _ n a.list;
        result = a.result ∙ ap (λ p. applied w p x.staged (g.D.Device.meaning c.perform_all.new.device) x) c.in-Ok.ensures.allowed.0;
      };
      back = tt;
      list = front_over c.args.list.now c.apply_staged.new.list vs x.notices _ n a.list;
      kept = ap g.D.Device.lender c.apply_staged.ensures.kept ∙ c.in-Ok-perform_all.ensures.kept;
    }

pub returns-in-Err-perform_all : goal.returns-in-Err-perform_all
returns-in-Err-perform_all g c =
    let x = view g.M.Market g.D.Device c.args.self.now in
    let w = world_of (rules_of g.M.Market) x in
    let m = g.D.Device.meaning in
    let n = m c.perform_all.new.device in
    let e = c.in-Err-perform_all.ensures in
    record {
      did = cut_off w (sync_reasons w x c.args.ticket.numbers (length c.args.list.now)) x (view g.M.Market g.D.Device c.reset_by.new.self) x.device n sync_ops c.in-Err-perform_all.fault c.reset_by.result c.in-Ok.ensures.judged (g.D.Device.lawful c.perform_all.new.device) e.did c.reset_by.ensures.fault c.reset_by.ensures.reset;
      back = cut_spends x.device n sync_ops c.in-Err-perform_all.fault c.reset_by.result e.did c.reset_by.ensures.fault;
      list = refl;
      kept = ap g.D.Device.lender c.reset_by.ensures.kept ∙ e.kept;
    }

pub returns-in-WrongPhase : goal.returns-in-WrongPhase
returns-in-WrongPhase g c = record {
  did = refused c.in-Err.reason c.in-Err.ensures.judged c.into.ensures refl;
  back = phase_spends c.into.result (c.into.ensures ∙ ap plain c.in-WrongPhase.is);
  list = refl;
  kept = refl;
}

pub returns-in_default : goal.returns-in_default
returns-in_default g c = record {
  did = refused c.in-Err.reason c.in-Err.ensures.judged c.into-in_default.ensures refl;
  back = (refl, ticket_comes_back c.in-Err.reason c.into-in_default.result c.in_default.not-WrongPhase c.in-Err.ensures.allowed c.into-in_default.ensures);
  list = refl;
  kept = refl;
}
