use Rattle.mirror.proofs.Moves.{woken_both}
use Rattle.mirror.proofs.MirrorDevice.wake.Goals as goal

pub returns-clause-did : goal.returns-clause-did
returns-clause-did g c = woken_both _ _ _ _ c.wake.ensures.did c.wake-2.ensures.did
