use Rattle.std.proofs.Common.{MatchBool, vec_items, subst}
use Rattle.std.specs.List.{All, Contains}
use Rattle.runner.specs.declared.log.HandedOut.{HandedOut}
use Rattle.audit.specs.Books.{world}
use Rattle.audit.specs.Checks.{Same}
use Rattle.audit.proofs.Verdicts.{has_decides}
use Rattle.audit.proofs.books.Book.has.Goals as goal

pub returns : goal.returns
returns g c house size kept i =
    let tells = subst (λ l. MatchBool c.has_answer.result ((p : HandedOut) × Contains l p × Same p c.args.handed.now) (All (λ p. Same p c.args.handed.now → ⊥) l)) c.deref.ensures.value c.has_answer.ensures in
    has_decides (world g.M.Market house size) kept c.has_answer.result (vec_items c.args.self.now.pages) c.args.handed.now i.answers tells
