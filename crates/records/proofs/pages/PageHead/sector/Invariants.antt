use Rattle.std.proofs.Common.{◌≡◌, ◌+◌, ◌*◌, ◌≤◌, ◌++◌, length, take}
use Rattle.std.specs.List.{flat_map}
use Rattle.records.specs.Commands.{encoded}
use Rattle.records.specs.Pages.{head_bytes}
use Rattle.records.proofs.pages.PageHead.sector.Given as goal

abbrev pub invariant-loop-command : goal.invariant-loop-command
invariant-loop-command l = (l.out ≡ head_bytes l.self l.commands ++ flat_map encoded (take l.command-index l.commands)) × (length l.out ≤ 28 + 18 * l.command-index)
