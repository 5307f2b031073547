use Rattle.records.proofs.Countings.{Counting}
use Rattle.records.proofs.counting.count_notices.Given as goal

abbrev pub invariant-loop-i : goal.invariant-loop-i
invariant-loop-i l = Counting l.before.0 l.initial.notices l.notices l.i
