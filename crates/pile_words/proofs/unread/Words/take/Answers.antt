use Rattle.std.proofs.Common.{◌≤◌, true, length, refl, rules}
use Rattle.std.proofs.lemmas.Bool.Decides.{Decides-eqb}
use Rattle.std.proofs.lemmas.Slice.Eq.{slice_eq-Decides}
use Rattle.pile_words.proofs.Fronts.{front}
use Rattle.pile_words.proofs.unread.Words.take.Goals as goal

pub returns-then-eq : goal.returns-then-eq
returns-then-eq c =
    let h : 1 ≤ length c.args.self.now.left.now = search rules in
    front _ c.args.self.now.left.now c.args.word.now h ((slice_eq-Decides Decides-eqb _ _ true c.if-eq.ensures).0 refl)
