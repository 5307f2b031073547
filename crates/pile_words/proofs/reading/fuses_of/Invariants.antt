use Rattle.std.proofs.Common.{vec_items}
use Rattle.pile_words.proofs.Fronts.{EachSpells}
use Rattle.pile_words.proofs.reading.fuses_of.Given as goal

abbrev pub invariant-loop-part : goal.invariant-loop-part
invariant-loop-part l = EachSpells l.yielded (vec_items l.fuses)
