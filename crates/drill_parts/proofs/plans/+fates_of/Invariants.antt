use Rattle.drill_parts.proofs.plans.+fates_of.Given as goal

abbrev pub decreases-fates_of : goal.decreases-fates_of
decreases-fates_of l = l.writes
