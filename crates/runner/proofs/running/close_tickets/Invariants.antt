use Rattle.std.proofs.Common.{◌≡◌, ◌+◌, ◌*◌, ◌≤◌, vec_items, vec_len, vec_capacity}
use Rattle.runner.specs.Playing.{spends_ticket, from_last}
use Rattle.runner.specs.Running.{Closed}
use Rattle.runner.proofs.running.close_tickets.Given as goal

abbrev pub invariant-loop-held : goal.invariant-loop-held
invariant-loop-held g l = Closed g.M.Market g.D.Device l.initial.exchange (vec_items l.initial.log) l.exchange (vec_items l.log) (from_last spends_ticket (vec_items l.initial.tickets)) (from_last spends_ticket (vec_items l.tickets)) × (vec_len l.log + 2 * vec_len l.tickets ≤ vec_len l.initial.log + 2 * vec_len l.initial.tickets) × (vec_capacity l.log ≡ vec_capacity l.initial.log)

abbrev pub decreases-loop-held : goal.decreases-loop-held
decreases-loop-held g l = vec_len l.tickets
