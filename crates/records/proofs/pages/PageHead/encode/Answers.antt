use Rattle.records.proofs.PageTheorems.{page_kept}
use Rattle.records.proofs.pages.PageHead.encode.Goals as goal

pub returns-clause-kept : goal.returns-clause-kept
returns-clause-kept c = page_kept _
