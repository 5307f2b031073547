use Rattle.std.proofs.Common.{◌+◌, ◌≤◌, take, vec_items, vec_len, vec_capacity}
use Rattle.runner.specs.Hands.{tokens_of}
use Rattle.runner.specs.Tokens.{most_closing}
use Rattle.runner.specs.Running.{PlayedOn}
use Rattle.runner.proofs.running.play.Given as goal

abbrev pub invariant-loop-call : goal.invariant-loop-call
invariant-loop-call g l = PlayedOn g.M.Market g.D.Device l.initial.exchange l.initial.hand (vec_items l.initial.log) (take l.call-index l.script) l.exchange l.hand (vec_items l.log) × (vec_len l.log + most_closing (tokens_of l.hand) ≤ vec_capacity l.log)
