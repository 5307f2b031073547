use Rattle.std.proofs.Common.{rules}
use Rattle.std.proofs.lemmas.Slice.Eq.{slice_eq-Decides}
use Rattle.audit.proofs.handing.are_notices_same.Goals as goal

pub returns : goal.returns
returns c = slice_eq-Decides (λ a b. search rules) _ _ _ c.eq.ensures
