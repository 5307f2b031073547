use Rattle.journal.proofs.Sectors.{apart}
use Rattle.journal.proofs.layouts.Layout.page_sector.Goals as goal

pub returns-clause-apart : goal.returns-clause-apart
returns-clause-apart c = apart c.args.self.now.size
