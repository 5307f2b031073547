use Rattle.std.proofs.Common.{◌-◌}
use Rattle.runs.specs.Pages.{NothingWaits}
use Rattle.runs.proofs.floor.Floor.replay_all.Given as goal

abbrev pub invariant-loop-receipt : goal.invariant-loop-receipt
invariant-loop-receipt g l = NothingWaits l.initial.self.exchange → NothingWaits l.self.exchange

abbrev pub decreases-loop-receipt : goal.decreases-loop-receipt
decreases-loop-receipt g l = 1000000000000 - l.self.exchange.pages.0
