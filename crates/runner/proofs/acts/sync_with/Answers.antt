use Rattle.std.proofs.Common.{Err, vec_items, vec_len, subst}
use Rattle.protocol.specs.Steps.{Sync}
use Rattle.exchange.specs.Answers.{sync_said}
use Rattle.exchange.specs.Views.{Called}
use Rattle.runner.proofs.acts.sync_with.Goals as goal

pub returns-in-Err-Back-clause-told : goal.returns-in-Err-Back-clause-told
returns-in-Err-Back-clause-told g c = subst (λ r. Called g.M.Market g.D.Device c.args.exchange.now (Sync c.args.ticket.numbers (vec_len c.args.list) (sync_said (Err r) (vec_items c.sync_into.new.list))) c.sync_into.new.exchange) c.in-Err-Back.field-0-is c.in-Err-Back.ensures.did

pub returns-clause-told : goal.returns-clause-told
returns-clause-told g c = subst (λ r. Called g.M.Market g.D.Device c.args.exchange.now (Sync c.args.ticket.numbers (vec_len c.args.list) (sync_said (Err r) (vec_items c.sync_into.new.list))) c.sync_into.new.exchange) c.in-Err-Spent.field-0-is c.in-Err-Spent.ensures.did
