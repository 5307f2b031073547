use Rattle.std.proofs.Common.{rules}
use Rattle.market.specs.Means.{state_of}
use Rattle.book.proofs.Fairs.{acted_fair}
use Rattle.book.proofs.ledger.ContinuousRules.act.Goals as goal

pub returns-in-Enter-clause-fair : goal.returns-in-Enter-clause-fair
returns-in-Enter-clause-fair c = acted_fair (state_of c.args.resting.now) c.args.command.now {xs = c.args.list.now} c.requires.sound c.requires.more c.requires.good (search rules)

pub returns-in-Cancel-clause-fair : goal.returns-in-Cancel-clause-fair
returns-in-Cancel-clause-fair c = acted_fair (state_of c.args.resting.now) c.args.command.now {xs = c.args.list.now} c.requires.sound c.requires.more c.requires.good (search rules)

pub returns-in-Cross-clause-fair : goal.returns-in-Cross-clause-fair
returns-in-Cross-clause-fair c = acted_fair (state_of c.args.resting.now) c.args.command.now {xs = c.args.list.now} {ys = c.args.list.now} {n = 0} c.requires.sound c.requires.more c.requires.good (search rules)
