use Rattle.std.proofs.Common.{rules}
use Rattle.records.proofs.CommandLaws.{comes_back}
use Rattle.records.proofs.commands.Command.encode.Goals as goal

pub returns : goal.returns
returns c = record { bytes = search rules; back = comes_back c.args.self.now }
