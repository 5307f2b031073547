use Rattle.std.proofs.Common.{rules}
use Rattle.records.proofs.LittleEndianLaws.{le_4}
use Rattle.records.proofs.little_endian.U32LittleEndian.bytes.Goals as goal

pub returns : goal.returns
returns c = let e = le_4 c.args.self in search rules
