use Rattle.std.proofs.Common.{rules}
use Rattle.records.proofs.LittleEndianLaws.{le_2}
use Rattle.records.proofs.little_endian.U16LittleEndian.bytes.Goals as goal

pub returns : goal.returns
returns c = let e = le_2 c.args.self in search rules
