use Rattle.std.proofs.Common.{◌∙◌}
use Rattle.records.specs.declared.refusals.Refusal.TheVariants.{NotACommand, NumbersSpent}
use Rattle.runs.proofs.Coming.{refused_for}
use Rattle.runs.proofs.floor.Floor.stage.Goals as goal

pub returns-in-NotACommand : goal.returns-in-NotACommand
returns-in-NotACommand g c = record { staged = refused_for g.M.Market g.D.Device c.args.self.now.exchange c.stage.new.self c.as_bytes.result.now c.args.command.now c.in-Err.fault NotACommand (c.as_bytes.ensures ∙ c.encode.ensures.bytes) c.in-NotACommand.is c.in-Err.ensures.did }

pub returns-in-NumbersSpent : goal.returns-in-NumbersSpent
returns-in-NumbersSpent g c = record { staged = refused_for g.M.Market g.D.Device c.args.self.now.exchange c.stage.new.self c.as_bytes.result.now c.args.command.now c.in-Err.fault NumbersSpent (c.as_bytes.ensures ∙ c.encode.ensures.bytes) c.in-NumbersSpent.is c.in-Err.ensures.did }
