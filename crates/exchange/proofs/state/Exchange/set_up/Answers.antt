use Rattle.std.proofs.Common.{◌≡◌, Err, refl, ap, ◌∙◌, subst₂}
use Rattle.device.specs.Runs.{Ran}
use Rattle.protocol.specs.Worlds.{rules_of, header_for}
use Rattle.protocol.specs.Steps.{State, world_of, open_reasons, set_up_ops, reset}
use Rattle.journal.specs.Places.{journal}
use Rattle.journal_io.specs.Running.{Running}
use Rattle.exchange.specs.Views.{view}
use Rattle.exchange.proofs.Cutting.{cut_off, first_are, world_fits}
use Rattle.exchange.proofs.Refusing.{set_up_refused}
use Rattle.exchange.proofs.state.Exchange.set_up.Goals as goal

pub returns-in_err-way : goal.returns-in_err-way
returns-in_err-way g c = record {
  did = set_up_refused (rules_of g.M.Market) (view g.M.Market g.D.Device c.args.self.now) _ c.from_residual.result c.in_err-way.ensures.judged c.from_residual.ensures.1;
  kept = refl;
}

pub returns-in-Ok : goal.returns-in-Ok
returns-in-Ok g c =
    let rules = rules_of g.M.Market in
    let x = view g.M.Market g.D.Device c.args.self.now in
    let w = world_of rules x in
    let n = g.D.Device.meaning c.put_first.new.device in
    let a = c.in_ok-way.ensures.allowed in
    let r = c.restart.ensures.did in
    let header : c.header-header.result ≡ header_for w 0 0 0 = c.header-header.ensures.value ∙ ap (λ (z : State g.M.Market.State). header_for (world_of rules z) z.pages z.commands z.notices) r in
    let ops = first_are w c.journal.result (g.M.Market.means c.restart.new.self.market) c.save.new.out c.header-header.result (c.journal.ensures ∙ ap journal a.1) (ap (λ (z : State g.M.Market.State). z.market) r) c.save.ensures header in
    let from = ap g.D.Device.meaning c.restart.ensures.kept in
    record {
      did = (
        c.in_ok-way.ensures.judged,
        record {
          fits = world_fits w c.header-header.result header c.header-header.ensures.fits a.3;
          size = refl;
          device = n;
          did = subst₂ (λ m o. Ran m o n) from ops c.in-Ok.ensures.did;
          result = (λ i. let z = r i in record { house = z.house; phase = a.0 i; staged = z.staged; pages = z.pages; commands = z.commands; notices = z.notices; mark = z.mark; covered = z.covered; slot = z.slot; market = z.market; device = n });
        },
      );
      kept = c.in-Ok.ensures.kept ∙ ap g.D.Device.lender c.restart.ensures.kept;
    }

pub returns-in-Err : goal.returns-in-Err
returns-in-Err g c =
    let rules = rules_of g.M.Market in
    let x = view g.M.Market g.D.Device c.args.self.now in
    let w = world_of rules x in
    let n = g.D.Device.meaning c.put_first.new.device in
    let a = c.in_ok-way.ensures.allowed in
    let r = c.restart.ensures.did in
    let e = c.in-Err.ensures in
    let header : c.header-header.result ≡ header_for w 0 0 0 = c.header-header.ensures.value ∙ ap (λ (z : State g.M.Market.State). header_for (world_of rules z) z.pages z.commands z.notices) r in
    let ops = first_are w c.journal.result (g.M.Market.means c.restart.new.self.market) c.save.new.out c.header-header.result (c.journal.ensures ∙ ap journal a.1) (ap (λ (z : State g.M.Market.State). z.market) r) c.save.ensures header in
    let from = ap g.D.Device.meaning c.restart.ensures.kept in
    let again : view g.M.Market g.D.Device c.reset_by.new.self ≡ reset w n = c.reset_by.ensures.reset ∙ ap (λ (z : State g.M.Market.State). reset (world_of rules z) n) r in
    record {
      did = cut_off w (open_reasons w x) x (view g.M.Market g.D.Device c.reset_by.new.self) x.device n (set_up_ops w) c.in-Err.fault c.reset_by.result c.in_ok-way.ensures.judged (g.D.Device.lawful c.put_first.new.device) (subst₂ (λ m o. Running m o (Err c.in-Err.fault) n) from ops e.did) c.reset_by.ensures.fault again;
      kept = ap g.D.Device.lender c.reset_by.ensures.kept ∙ e.kept ∙ ap g.D.Device.lender c.restart.ensures.kept;
    }
