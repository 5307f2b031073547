use Rattle.std.proofs.Common.{refl}
use Rattle.records.specs.LittleEndian.{le, number, field}
use Rattle.records.specs.Commands.{decoded}
use Rattle.figures.proofs.figures_stand.Goals as goal

pub returns : goal.returns
unfolding le number field decoded
returns c = record { figures = record { cross = refl; cross_back = refl; place = refl; too_few = refl; enough = refl; eight = λ r m. refl; nine = λ r m. refl; second = λ r m. refl; covered = λ r m. refl; highest = refl; free = refl; above = refl; staged = λ r m. refl; free_refused = λ r m. refl; above_refused = λ r m. refl; fills = refl; rests = refl; not_his = refl; clears = refl; waits = refl }; cross = c.encode.ensures.bytes }
