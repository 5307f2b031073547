use Rattle.std.proofs.Common.{length, sym}
use Rattle.exchange.specs.Answers.{handed_with}
use Rattle.exchange.specs.Views.{view}
use Rattle.holder.proofs.sync_page.Goals as goal

pub returns-in-Ok : goal.returns-in-Ok
returns-in-Ok g c h r =
    let v = view g.M.Market g.D.Device in
    record {
      room = length c.args.list.now;
      answer = handed_with c.in-Ok.receipt c.sync.new.list;
      is = sym c.note.ensures.numbers;
      run = (v c.sync.new.self, (v c.args.exchange.now, r, c.in-Ok.ensures.did), c.note.ensures.same);
    }
