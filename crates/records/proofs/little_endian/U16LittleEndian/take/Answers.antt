use Rattle.std.proofs.Common.{sym, ◌∙◌}
use Rattle.records.proofs.LittleEndianLaws.{field_2}
use Rattle.records.proofs.little_endian.U16LittleEndian.take.Goals as goal

pub returns : goal.returns
returns c = c.from_le_bytes.ensures ∙ sym (field_2 c.args.at c.args.bytes.now)
