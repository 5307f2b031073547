use Rattle.std.proofs.Common.{sym, arith}
use Rattle.ruled_market.specs.Means.{market_state}
use Rattle.ruled_market.proofs.ledger.RestingMarketMarket.apply.Goals as goal

pub returns-then-not-is_good-clause-fair : goal.returns-then-not-is_good-clause-fair
returns-then-not-is_good-clause-fair g c =
    let m = c.args.self.now in
    rw c.pass.ensures.state (g.met.R.Rules.passes_fair (market_state m) c.args.command.now m.ok (omega (arith, c.if-self-ge-LAST_NUMBER.false)) (sym c.if-not-is_good.ensures))
