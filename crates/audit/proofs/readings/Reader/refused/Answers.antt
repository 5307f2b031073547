use Rattle.std.proofs.Common.{rules}
use Rattle.audit.proofs.Reading.{refused_breaks}
use Rattle.audit.proofs.readings.Reader.refused.Goals as goal

pub returns-then-was_cut : goal.returns-then-was_cut
returns-then-was_cut g c e r = c.breaks.ensures e (refused_breaks e c.args.fault.now r (search rules))
