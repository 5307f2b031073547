use Rattle.std.proofs.Common.{◌≡◌, ◌*◌, ◌+◌, ◌++◌, length, take, ap, ◌∙◌, refl, arith, rules}
use Rattle.std.proofs.lemmas.Slice.{take-put_mid}
use Rattle.std.proofs.lemmas.Grind.{common_steps}
use Rattle.journal.specs.Slots.{body_place}
use Rattle.halls.proofs.Rows.{one_more_sector, all_three}
use Rattle.halls.proofs.slots.read_body.Goals as goal

pub loop-i-init : goal.loop-i-init
loop-i-init c = (refl, refl)

pub loop-i-preserved : goal.loop-i-preserved
loop-i-preserved c =
    let i = c.loop-i.i in
    let now = c.copy_from_slice.ensures.after in
    let long = c.loop-i.invariant.0 in
    let size : length c.copy_from_slice.new.self ≡ 512 = search rules in (
      grind (arith, common_steps),
      one_more_sector c.args.image.now (body_place c.args.slot) i (take (512 * i) c.loop-i.body) c.in_ok-part.part _ c.loop-i.invariant.1 (search rules)
          (take-put_mid (512 * i) _ c.loop-i.body c.copy_from_slice.new.self (512 * (i + 1)) (omega arith) (omega arith) ∙ ap (λ z. take (512 * i) c.loop-i.body ++ z) now),
    )

pub returns : goal.returns
returns c = all_three c.args.image.now (body_place c.args.slot) c.loop-i.i c.loop-i.body (omega (arith, c.loop-i-test.false, c.loop-i.auto.i-end)) c.loop-i.invariant.0 c.loop-i.invariant.1
