use Rattle.batches.proofs.Fronts.{Stands}
use Rattle.batches.proofs.apply_all.Given as goal

abbrev pub invariant-loop-command : goal.invariant-loop-command
invariant-loop-command g l = Stands g.M.Market.step (g.M.Market.means l.initial.market) l.commands l.initial.list l.command-index l.at l.list (g.M.Market.means l.market)
