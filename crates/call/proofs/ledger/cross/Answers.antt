use Rattle.std.proofs.Common.{sym, ap, subst}
use Rattle.market.specs.Means.{state_of}
use Rattle.call.specs.Clearing.{FewLots}
use Rattle.call.specs.Sounds.{summable, fillable_at}
use Rattle.call.proofs.ledger.cross.Goals as goal

pub invariant_of-sides : goal.invariant_of-sides
invariant_of-sides c =
    let k = summable (state_of c.args.resting.now) c.requires.valid in
    record { few = (subst FewLots (sym c.as_slice.ensures) k.0, subst FewLots (sym c.as_slice-2.ensures) k.1) }

pub pair_all-requires-clause-fillable : goal.pair_all-requires-clause-fillable
pair_all-requires-clause-fillable c =
    let k = simp (c.as_slice.ensures, c.as_slice-2.ensures) at c.clearing-clearing.ensures in
    rw (ap (λ h. h.buys) c.pass.ensures.state, ap (λ h. h.sells) c.pass.ensures.state) (fillable_at (state_of c.args.resting.now) k c.requires.valid)
