use Rattle.std.proofs.Common.{rules}
use Rattle.records.specs.Pages.{head_bytes}
use Rattle.records.proofs.Pieces.{then}
use Rattle.records.proofs.pages.PageHead.put.Goals as goal

pub returns : goal.returns
unfolding head_bytes
returns c = record { bytes = rw (← c.total_size.ensures.value) (search (rules, then) depth 9); len = search rules }
