use Rattle.std.proofs.Common.{sym, ◌∙◌, subst}
use Rattle.protocol.specs.Worlds.{rules_of}
use Rattle.protocol.specs.Steps.{SetsUp, Stage, Write}
use Rattle.protocol.proofs.Main.{begins}
use Rattle.exchange.specs.Answers.{ticket_said}
use Rattle.exchange.specs.Views.{view, Called}
use Rattle.holder.specs.Holding.{Syncs, OnePage, RunTo, sent}
use Rattle.holder.proofs.Twins.{if_some, was_ok}
use Rattle.holder.proofs.first_receipt.Goals as goal

pub returns : goal.returns
returns g c =
    let v = view g.M.Market g.D.Device in
    let bytes = c.args.bytes.now in
    let ticket = c.in_ok-ticket.ticket in
    let up = subst (λ r. SetsUp (rules_of g.M.Market) (v c.args.exchange.now) r (v c.set_up.new.self)) (was_ok c.set_up.result _ (sym c.ok.ensures.value ∙ c.in_ok-ok.was)) c.set_up.ensures.did in
    let staged = subst (λ r. Called g.M.Market g.D.Device c.set_up.new.self (Stage bytes r) c.stage.new.self) (was_ok c.stage.result _ (sym c.ok-2.ensures.value ∙ c.in_ok-ok-2.was)) c.stage.ensures.did in
    let wrote = subst (λ r. Called g.M.Market g.D.Device c.stage.new.self (Write (ticket_said r)) c.write.new.self) (was_ok c.write.result _ (sym c.ok-3.ensures.value ∙ c.in_ok-ticket.was)) c.write.ensures.did in
    let number = c.in_ok-ok-2.field-0 in
    let run : RunTo g.M.Market g.D.Device (sent bytes number ticket.numbers) c.write.new.self = (v c.stage.new.self, (v c.set_up.new.self, begins (rules_of g.M.Market) (v c.args.exchange.now) (v c.set_up.new.self) tt up, staged), wrote) in
    if_some (λ n. Syncs g.M.Market g.D.Device c.write.new.self ticket.numbers n c.sync_page.new.exchange) (λ n. OnePage g.M.Market g.D.Device bytes n c.sync_page.new.exchange) c.sync_page.result c.sync_page.ensures
    (λ n s. let on = s (sent bytes number ticket.numbers) run in
    record { number = number; ticket = ticket.numbers; room = on.room; answer = on.answer; is = on.is; run = on.run })
