use Rattle.std.proofs.Common.{None, Some, sym, ap, ◌∙◌, refl}
use Rattle.market.specs.Orders.{is_of}
use Rattle.market.specs.Means.{rows}
use Rattle.market.proofs.Rows.{found_at}
use Rattle.market.proofs.tables.OrderTable.withdraw.Goals as goal

pub returns-in_err-i : goal.returns-in_err-i
returns-in_err-i c =
    let k = found_at (is_of c.args.member c.args.order) (rows c.args.self.now) None (sym c.in_err-i.was ∙ c.place_found.ensures) in
    record { value = c.from_residual.ensures ∙ sym k.0; rows = sym k.1; capacity = refl }

pub returns : goal.returns
returns c =
    let k = found_at (is_of c.args.member c.args.order) (rows c.args.self.now) (Some c.in_ok-i.i) (sym c.in_ok-i.was ∙ c.place_found.ensures) in
    record { value = ap Some c.remove.ensures.value ∙ sym (k.2 c.remove.result); rows = c.remove.ensures.items ∙ sym k.1; capacity = c.remove.ensures.capacity }
