use Rattle.std.proofs.Common.{rules, ◌≡◌, ◌+◌, ◌≤◌, [], ◌∷◌, ◌++◌, vec_items, vec_len, vec_capacity, ap, ◌∙◌, subst, arith}
use Rattle.runner.specs.Hands.{tokens_of}
use Rattle.runner.specs.Tokens.{most_closing}
use Rattle.runner.specs.Playing.{most_brought, Answers}
use Rattle.runner.proofs.Logs.{played_next}
use Rattle.runner.proofs.Tokening.{answers_grow}
use Rattle.runner.proofs.running.play.Goals as goal

pub loop-call-preserved : goal.loop-call-preserved
loop-call-preserved g c =
    let e = c.in_ok-entry.ensures in
    let before = tokens_of c.loop-call.hand in
    let after = tokens_of c.act.new.hand in
    let items : vec_items c.push_reserved.new.self ≡ vec_items c.loop-call.log ++ c.in_ok-entry.entry ∷ [] = c.push_reserved.ensures.items ∙ ap (λ l. l ++ c.in_ok-entry.entry ∷ []) c.make_room.ensures.items in
    let answers = subst (λ q. Answers before q c.in_ok-entry.entry after) c.call-item.is e.answers in
    let grown : most_closing after ≤ most_closing before + most_brought c.call-item.result = answers_grow before after c.call-item.result c.in_ok-entry.entry e.answers in
    let room : vec_len c.loop-call.log + most_closing before + most_brought c.call-item.result + 1 ≤ vec_capacity c.make_room.new.log = c.in_ok-make_room.ensures.room in
    let len : vec_len c.make_room.new.log ≡ vec_len c.loop-call.log = search rules in (
      played_next g.M.Market g.D.Device c.args.exchange.now c.loop-call.exchange c.act.new.exchange c.args.hand.now c.loop-call.hand c.act.new.hand (vec_items c.args.log.now) (vec_items c.loop-call.log) (vec_items c.push_reserved.new.self) c.args.script.now c.loop-call.call-index c.call-item.result c.in_ok-entry.entry
          c.loop-call-test.true c.loop-call.invariant.0 items e.told answers,
      omega (arith, grown, room, c.push_reserved.ensures.len, c.push_reserved.ensures.capacity, len),
    )
