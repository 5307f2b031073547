use Rattle.std.proofs.Common.{rules}
use Rattle.records.specs.LittleEndian.{le}
use Rattle.records.proofs.pages.writes.record_size.Goals as goal

pub returns-in-Enter : goal.returns-in-Enter
unfolding le
returns-in-Enter c = search rules

pub returns-in-Cancel : goal.returns-in-Cancel
unfolding le
returns-in-Cancel c = search rules

pub returns-in-Cross : goal.returns-in-Cross
unfolding le
returns-in-Cross c = search rules
