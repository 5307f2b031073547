use Rattle.std.proofs.Common.{◌≡◌, ◌∙◌, List, vec_items, Option}
use Rattle.exchange.specs.declared.tokens.Ticket.{Ticket}
use Rattle.runner.specs.Tokens.{Tokens}
use Rattle.runner.specs.Hands.{tokens_of}
use Rattle.runner.specs.Playing.{after_entry}
use Rattle.runner.proofs.Tokening.{replay_answers, write_answers, at_tokens, err_then}
use Rattle.runner.proofs.acts.act.Goals as goal

pub returns-in-Write : goal.returns-in-Write
returns-in-Write g c =
    let e = c.act_write.ensures in
    record {
      told = e.told;
      answers = write_answers (tokens_of c.args.hand.now) (record { tickets = vec_items c.reserve.new.self; receipts = vec_items c.reserve-2.new.self }) _ c.args.call.now c.act_write.result c.in-Write.is (λ i. record { tickets = c.reserve.ensures.items i; receipts = c.reserve-2.ensures.items i }) e.made (e.tokens (vec_items c.reserve-2.new.self));
      left = tt;
    }

pub returns-in-Replay : goal.returns-in-Replay
returns-in-Replay g c =
    let e = c.act_replay.ensures in
    let mid : Tokens = record { tickets = vec_items c.reserve.new.self; receipts = vec_items c.reserve-2.new.self } in
    let after : List (Option Ticket) → Tokens = (λ ts. record { tickets = ts; receipts = vec_items c.act_replay.new.receipts }) in
    record {
      told = e.told;
      answers = replay_answers (tokens_of c.args.hand.now) mid _ c.args.call.now _ c.act_replay.result c.in-Replay.is (λ i. record { tickets = c.reserve.ensures.items i; receipts = c.reserve-2.ensures.items i }) e.made (at_tokens c.act_replay.result (λ z ts. after ts ≡ after_entry (record { tickets = ts; receipts = vec_items c.reserve-2.new.self }) 0 z) (vec_items c.reserve.new.self) e.tokens);
      left = err_then c.act_replay.result (λ r i. record { tickets = c.reserve.ensures.items i; receipts = (r ∙ c.reserve-2.ensures.items) i }) e.left;
    }
