use Rattle.std.proofs.Common.{Err, sym, subst₂}
use Rattle.protocol.specs.Steps.{Sync}
use Rattle.protocol.specs.declared.tokens.TicketNumbers.{TicketNumbers}
use Rattle.exchange.specs.declared.tokens.SyncRefusal.{SyncRefusal}
use Rattle.exchange.specs.Answers.{sync_said}
use Rattle.exchange.specs.Views.{Called}
use Rattle.runner.proofs.running.spend.Goals as goal

pub returns-clause-told : goal.returns-clause-told
returns-clause-told g c = subst₂ (λ (t : TicketNumbers) (r : SyncRefusal). Called g.M.Market g.D.Device c.args.exchange.now (Sync t 0 (sync_said (Err r) c.sync.new.list)) c.sync.new.self) (sym c.numbers-numbers.ensures) c.in-Err-Spent.field-0-is c.in-Err-Spent.ensures.did
