use Rattle.std.proofs.Common.{Err, sym, refl, ap, ◌∙◌, subst}
use Rattle.protocol.specs.Worlds.{rules_of}
use Rattle.protocol.specs.Steps.{world_of, snapshot_reasons, snapshot_ops}
use Rattle.journal.specs.Slots.{other}
use Rattle.device.specs.Runs.{Ran}
use Rattle.journal_io.specs.Running.{Running}
use Rattle.exchange.specs.Views.{view}
use Rattle.exchange.proofs.Cutting.{cut_off, writes_are}
use Rattle.exchange.proofs.Refusing.{snapshot_refused}
use Rattle.exchange.proofs.state.Exchange.snapshot.Goals as goal

pub returns-in_err-self : goal.returns-in_err-self
returns-in_err-self g c =
    let x = view g.M.Market g.D.Device c.args.self.now in
    record {
      did = snapshot_refused (world_of (rules_of g.M.Market) x) x _ c.from_residual.result c.in_err-self.ensures.judged c.from_residual.ensures.1;
      kept = refl;
    }

pub returns-in-Ok : goal.returns-in-Ok
returns-in-Ok g c =
    let m = g.D.Device.meaning in
    let x = view g.M.Market g.D.Device c.args.self.now in
    let w = world_of (rules_of g.M.Market) x in
    let ops = writes_are w c.other-slot.result (other x.slot) x.market x.pages x.commands x.notices c.save.new.out c.header-header.result c.other-slot.ensures c.save.ensures c.header-header.ensures.value in
    let a = c.in_ok-self.ensures.allowed in
    let n = m c.put_snapshot.new.device in
    record {
      did = record {
        allowed = c.in_ok-self.ensures.judged;
        device = n;
        did = subst (λ o. Ran x.device o n) ops c.in-Ok.ensures.did;
        result = (λ i. record { house = x.house; phase = (a.0 ∙ sym a.1) i; staged = x.staged; pages = x.pages; commands = x.commands; notices = x.notices; mark = x.mark; covered = x.pages; slot = c.other-slot.ensures i; market = x.market; device = n });
      };
      kept = c.in-Ok.ensures.kept;
    }

pub returns-in-Err : goal.returns-in-Err
returns-in-Err g c =
    let m = g.D.Device.meaning in
    let x = view g.M.Market g.D.Device c.args.self.now in
    let w = world_of (rules_of g.M.Market) x in
    let ops = writes_are w c.other-slot.result (other x.slot) x.market x.pages x.commands x.notices c.save.new.out c.header-header.result c.other-slot.ensures c.save.ensures c.header-header.ensures.value in
    let e = c.in-Err.ensures in
    let n = m c.put_snapshot.new.device in
    record {
      did = cut_off w (snapshot_reasons w x) x (view g.M.Market g.D.Device c.reset_by.new.self) x.device n (snapshot_ops w x) c.in-Err.fault c.reset_by.result c.in_ok-self.ensures.judged (g.D.Device.lawful c.put_snapshot.new.device) (subst (λ o. Running x.device o (Err c.in-Err.fault) n) ops e.did) c.reset_by.ensures.fault c.reset_by.ensures.reset;
      kept = ap g.D.Device.lender c.reset_by.ensures.kept ∙ e.kept;
    }
