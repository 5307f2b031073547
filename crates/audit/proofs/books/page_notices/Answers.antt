use Rattle.std.proofs.Common.{◌∙◌}
use Rattle.exchange.proofs.Cutting.{front_taken}
use Rattle.audit.proofs.books.page_notices.Goals as goal

pub returns-clause-notices : goal.returns-clause-notices
returns-clause-notices g c =
    c.truncate.ensures.items ∙ front_taken _ _ _ c.args.before c.apply_into-n.result c.apply_into-n.ensures.number c.apply_into-n.ensures.list
