use Rattle.std.proofs.Common.{◌++◌, refl}
use mathlib.Core.List.Memᴰ
use Rattle.protocol.specs.Worlds.{rules_of}
use Rattle.protocol.specs.Steps.{world_of}
use Rattle.protocol.specs.Promises.{recorded}
use Rattle.exchange.specs.Views.{view}
use Rattle.holder.specs.Holding.{by_sync, by_replay, synced, sent, asked_again}
use Rattle.holder.proofs.Twins.{one_receipt}
use Rattle.holder.proofs.ask_again.Goals as goal

pub returns : goal.returns
returns g c =
    let held = c.in_ok-held.ensures in
    let before = synced held.ticket held.room held.answer ++ sent c.args.bytes.now held.number held.ticket in
    let on = c.in_ok-again.ensures before held.run in
    let h = asked_again on.page on.room on.answer ++ before in
    let x = view g.M.Market g.D.Device c.receipt_after.new.exchange in
    let again = by_replay on.room on.answer on.is (Memᴰ.tail (Memᴰ.head refl)) in
    let first = by_sync held.ticket held.room held.answer held.is (Memᴰ.tail (Memᴰ.tail (Memᴰ.tail (Memᴰ.tail (Memᴰ.tail (Memᴰ.head refl)))))) in
    record {
      calls = record { number = held.number; ticket = held.ticket; room = held.room; first = held.answer; is_held = held.is; on = on };
      same = λ e. one_receipt (world_of (rules_of g.M.Market) x) (recorded h) h c.in_ok-again.again c.in_ok-held.held (c.promises_stand.ensures h x on.run).lasting again first e;
    }
