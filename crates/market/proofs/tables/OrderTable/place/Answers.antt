use Rattle.std.proofs.Common.{◌≡◌, length, sym, ◌∙◌, rules}
use Rattle.std.specs.List.{insert}
use Rattle.market.specs.Orders.{before}
use Rattle.market.specs.Means.{rows}
use Rattle.market.proofs.Ranks.{place_found}
use Rattle.market.proofs.tables.OrderTable.place.Goals as goal

pub returns-clause-rows : goal.returns-clause-rows
returns-clause-rows c =
    let xs = rows c.args.self.now in
    let n : c.len.result ≡ length xs = search rules in
    let k = place_found (before c.args.side) c.args.order xs c.first_behind.result c.unwrap_or-i.result c.len.result (simp c.as_slice.ensures at c.first_behind.ensures) n c.unwrap_or-i.ensures in
    let e : rows (record { rows = c.insert.new.self }) ≡ insert xs c.unwrap_or-i.result c.args.order = search rules in
    e ∙ sym k.1
