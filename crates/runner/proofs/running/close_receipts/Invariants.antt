use Rattle.std.proofs.Common.{◌≡◌, ◌+◌, ◌≤◌, vec_items, vec_len, vec_capacity}
use Rattle.runner.specs.Playing.{spends_receipt, from_last}
use Rattle.runner.specs.Running.{Closed}
use Rattle.runner.proofs.running.close_receipts.Given as goal

abbrev pub invariant-loop-held : goal.invariant-loop-held
invariant-loop-held g l = Closed g.M.Market g.D.Device l.initial.exchange (vec_items l.initial.log) l.exchange (vec_items l.log) (from_last spends_receipt (vec_items l.initial.receipts)) (from_last spends_receipt (vec_items l.receipts)) × (vec_len l.log + vec_len l.receipts ≤ vec_len l.initial.log + vec_len l.initial.receipts) × (vec_capacity l.log ≡ vec_capacity l.initial.log)

abbrev pub decreases-loop-held : goal.decreases-loop-held
decreases-loop-held g l = vec_len l.receipts
