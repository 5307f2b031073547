use Rattle.std.proofs.Common.{rules}
use Rattle.records.proofs.LittleEndianLaws.{le_8}
use Rattle.records.proofs.little_endian.U64LittleEndian.bytes.Goals as goal

pub returns : goal.returns
returns c = let e = le_8 c.args.self in search rules
