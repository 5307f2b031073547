use Rattle.journal.proofs.Owns.{own_test, own_none}
use Rattle.journal.proofs.choosing.headers.own_header.Goals as goal

pub returns-else-is_of-clause-exact : goal.returns-else-is_of-clause-exact
returns-else-is_of-clause-exact g c =
    let bs = c.args.sector.now in
    let h = c.in_ok-header.header in
    let d = c.in_ok-header.ensures.value in
    let e = own_test c.args.house c.CODE.result g.M.Market.CODE h _ c.CODE.ensures c.if-is_of.ensures in
    own_none c.args.house g.M.Market.CODE bs h d.0 e
