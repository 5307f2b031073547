use Rattle.std.proofs.Common.{◌≡◌, vec_items, sym, ap, ◌∙◌, subst}
use Rattle.protocol.specs.Steps.{Deliver}
use Rattle.exchange.specs.Views.{Called}
use Rattle.runner.specs.Playing.{delivers, with_receipt}
use Rattle.runner.proofs.Tokening.{back_or_gone}
use Rattle.runner.proofs.acts.act_deliver.Goals as goal

pub returns : goal.returns
returns g c =
    let xs = vec_items c.args.receipts.now in
    let e = c.in-Some.ensures in
    let s = c.deliver_with-answer.ensures in
    let number : c.numbers-numbers.result ≡ c.in-Some.receipt.numbers = c.numbers-numbers.ensures in
    let receipts = c.put_back.ensures ∙ back_or_gone xs (vec_items c.take_token.new.tokens) c.args.number c.in-Some.receipt _ _ (sym e.taken) e.rest s.back in
    record {
      told = subst (λ t. Called g.M.Market g.D.Device c.args.exchange.now (Deliver t c.deliver_with-answer.result.answer) c.deliver_with-answer.new.exchange) (sym number) s.told;
      made = ap delivers number ∙ ap (with_receipt delivers) e.taken;
      tokens = λ ts. (λ i. record { tickets = ts; receipts = receipts i });
    }
