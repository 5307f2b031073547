use Rattle.std.proofs.Common.{sym, ◌∙◌}
use Rattle.records.proofs.LittleEndianLaws.{field_4}
use Rattle.records.proofs.little_endian.U32LittleEndian.take.Goals as goal

pub returns : goal.returns
returns c = c.from_le_bytes.ensures ∙ sym (field_4 c.args.at c.args.bytes.now)
