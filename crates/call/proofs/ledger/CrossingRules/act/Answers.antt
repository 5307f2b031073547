use Rattle.std.proofs.Common.{rules}
use Rattle.market.specs.Means.{state_of}
use Rattle.call.proofs.Fairs.{acted_fair}
use Rattle.call.proofs.ledger.CrossingRules.act.Goals as goal

pub returns-in-Cross-clause-fair : goal.returns-in-Cross-clause-fair
returns-in-Cross-clause-fair c = acted_fair (state_of c.args.resting.now) c.args.command.now {xs = c.args.list.now} c.requires.sound c.requires.more c.requires.good (search rules)
