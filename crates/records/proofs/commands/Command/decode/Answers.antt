use Rattle.records.proofs.CommandLaws.{answers}
use Rattle.records.proofs.LittleEndianLaws.{bytes_typed}
use Rattle.records.proofs.commands.Command.decode.Goals as goal

pub returns : goal.returns
returns c = let bs = c.args.bytes.now in rw c.ok_or.ensures.value (answers bs c.command_in.result (bytes_typed bs c.type_inv.bytes) c.command_in.ensures)
