use Rattle.std.proofs.Common.{◌∙◌}
use Rattle.records.specs.declared.commands.Side.TheVariants.{Buy, Sell}
use Rattle.call.specs.Clearings.{offered_sum, offered_fits}
use Rattle.call.proofs.clearing.Sides.at_price.Goals as goal

pub lots_offered-bought-requires : goal.lots_offered-bought-requires
lots_offered-bought-requires c = offered_fits Buy c.args.price.0 _ c.args.self.now.few.0

pub lots_offered-sold-requires : goal.lots_offered-sold-requires
lots_offered-sold-requires c = offered_fits Sell c.args.price.0 _ c.args.self.now.few.1

pub returns : goal.returns
returns c =
    let s = c.args.self.now in
    let b = c.lots_offered-bought.ensures ∙ offered_sum Buy c.args.price.0 s.buys.now in
    let t = c.lots_offered-sold.ensures ∙ offered_sum Sell c.args.price.0 s.sells.now in
    rw (c.min.ensures, b, t)
