use Rattle.std.proofs.Common.{rules}
use Rattle.records.proofs.LittleEndianLaws.{length_le}
use Rattle.records.proofs.buffers.RecordBuffer.put.Goals as goal

pub returns : goal.returns
returns g c = let l = length_le g.T.LittleEndian.width (g.T.LittleEndian.number c.args.number) in record { bytes = search rules; len = search rules }
