use Rattle.std.proofs.Common.{◌≡◌, vec_items, vec_len, sym, ap, ◌∙◌, subst₂, rules}
use Rattle.protocol.specs.Steps.{Sync}
use Rattle.exchange.specs.Views.{Called}
use Rattle.runner.specs.Events.{sync_answer}
use Rattle.runner.specs.Playing.{syncs, with_ticket}
use Rattle.runner.proofs.Tokening.{back_or_gone}
use Rattle.runner.proofs.acts.act_sync.Goals as goal

pub returns : goal.returns
returns g c =
    let xs = vec_items c.args.hand.now.tickets in
    let e = c.in-Some.ensures in
    let s = c.sync_with-answer.ensures in
    let number : c.numbers-numbers.result ≡ c.in-Some.ticket.numbers = c.numbers-numbers.ensures in
    let room : vec_len c.in_ok-list.list ≡ c.args.room = search rules in
    let tickets = c.put_back.ensures ∙ back_or_gone xs (vec_items c.take_token.new.tokens) c.args.number c.in-Some.ticket _ _ (sym e.taken) e.rest s.back in
    record {
      told = subst₂ (λ t n. Called g.M.Market g.D.Device c.args.exchange.now (Sync t n (sync_answer c.sync_with-answer.result.answer)) c.sync_with-answer.new.exchange) (sym number) room s.told;
      made = (
        ap (λ t. syncs t c.args.room) number ∙ ap (λ o. with_ticket o c.args.room) e.taken,
        (λ i. record { tickets = tickets i; receipts = s.receipts i }),
      );
      left = tt;
    }
