use Rattle.protocol.specs.Worlds.{rules_of}
use Rattle.protocol.proofs.Main.{begins}
use Rattle.exchange.specs.Views.{view}
use Rattle.runner.proofs.Logs.{outcome}
use Rattle.runner.proofs.running.run_script.Goals as goal

pub returns : goal.returns
returns g c =
    let v = view g.M.Market g.D.Device in
    outcome g.M.Market g.D.Device c.args.exchange.now c.set_up.new.self c.run_on.new.exchange c.args.script.now c.run_on.result c.run_on.ensures (begins (rules_of g.M.Market) (v c.args.exchange.now) (v c.set_up.new.self) tt c.in_ok-set_up.ensures.did)
