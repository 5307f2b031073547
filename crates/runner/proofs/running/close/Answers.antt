use Rattle.std.proofs.Common.{vec_items}
use Rattle.runner.specs.Playing.{spends_ticket, spends_receipt, from_last}
use Rattle.runner.proofs.Logs.{closed_then}
use Rattle.runner.proofs.running.close.Goals as goal

pub returns : goal.returns
returns g c = closed_then g.M.Market g.D.Device c.args.exchange.now c.close_tickets.new.exchange c.close_receipts.new.exchange (vec_items c.args.log.now) (vec_items c.close_tickets.new.log) (vec_items c.close_receipts.new.log) (from_last spends_ticket (vec_items c.args.hand.tickets)) (from_last spends_receipt (vec_items c.args.hand.receipts)) c.close_tickets.ensures.closed c.close_receipts.ensures.closed
