-- the sectors so far stand at the front
use Rattle.std.proofs.Common.{◌≡◌, ◌*◌, length, take, Some}
use Rattle.journal.specs.Slots.{body_place}
use Rattle.halls.specs.Bodies.{row_of_sectors}
use Rattle.halls.proofs.slots.read_body.Given as goal

abbrev pub invariant-loop-i : goal.invariant-loop-i
invariant-loop-i l = (length l.body ≡ 1536) × (Some (take (512 * l.i) l.body) ≡ row_of_sectors l.image (body_place l.fn.slot) l.i)
