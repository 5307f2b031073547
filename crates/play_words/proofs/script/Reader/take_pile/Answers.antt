use Rattle.std.proofs.Common.{◌≡◌, None, refl, rules}
use Rattle.play_words.proofs.script.Reader.take_pile.Goals as goal

pub returns : goal.returns
returns c =
    let e : c.in-Setup.pile ≡ None = search rules in
    rw c.in-Setup.is (_, c.in_ok-pile_of.ensures, e, refl)
