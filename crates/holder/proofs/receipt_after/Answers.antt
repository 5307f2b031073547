use Rattle.std.proofs.Common.{length, Ok, sym, ap, ◌∙◌, subst}
use Rattle.protocol.specs.Steps.{Open, Replay}
use Rattle.exchange.specs.Answers.{handed_with, replay_said}
use Rattle.exchange.specs.Views.{view, Called}
use Rattle.holder.proofs.Twins.{was_ok}
use Rattle.holder.proofs.receipt_after.Goals as goal

pub returns : goal.returns
returns g c h r =
    let v = view g.M.Market g.D.Device in
    let room = length c.args.list.now in
    let opened = subst (λ q. Called g.M.Market g.D.Device c.restart.new.self (Open q) c.open.new.self) (was_ok c.open.result _ (sym c.ok.ensures.value ∙ c.in_ok-ok.was)) c.open.ensures.did in
    let answer = was_ok c.replay.result _ (sym c.ok-2.ensures.value ∙ c.in_ok-ok-2.was) ∙ ap Ok c.in_ok-receipt.was in
    let found = subst (λ q. Called g.M.Market g.D.Device c.open.new.self (Replay room (replay_said q c.replay.new.list)) c.replay.new.self) answer c.replay.ensures.did in
    record {
      page = c.in_ok-ok.field-0;
      room = room;
      answer = handed_with c.in_ok-receipt.receipt c.replay.new.list;
      is = sym c.note.ensures.numbers;
      run = (v c.replay.new.self, (v c.open.new.self, (v c.restart.new.self, (v c.args.exchange.now, r, c.restart.ensures.did), opened), found), c.note.ensures.same);
    }
