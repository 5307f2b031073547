use Rattle.std.proofs.Common.{rules}
use Rattle.std.proofs.lemmas.List.{take_all}
use Rattle.records.specs.Pages.{page_sector_bytes}
use Rattle.records.proofs.pages.PageHead.sector.Goals as goal

pub returns : goal.returns
unfolding page_sector_bytes
returns c = let t = take_all c.loop-command.command-index c.args.commands.now c.loop-command-test.false in search rules
