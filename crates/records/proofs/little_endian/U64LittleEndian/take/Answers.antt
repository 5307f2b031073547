use Rattle.std.proofs.Common.{sym, ◌∙◌}
use Rattle.records.proofs.LittleEndianLaws.{field_8}
use Rattle.records.proofs.little_endian.U64LittleEndian.take.Goals as goal

pub returns : goal.returns
returns c = c.from_le_bytes.ensures ∙ sym (field_8 c.args.at c.args.bytes.now)
