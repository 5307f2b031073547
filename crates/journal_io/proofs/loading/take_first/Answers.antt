use Rattle.protocol.specs.Worlds.{rules_of}
use Rattle.journal_io.proofs.Openings.{takes, takes_not}
use Rattle.journal_io.proofs.loading.take_first.Goals as goal

pub returns-in_err-load_body-clause-did : goal.returns-in_err-load_body-clause-did
returns-in_err-load_body-clause-did g c =
    let m = g.D.Device.meaning in
    let d = c.in_ok-first.ensures in
    let e = c.in_err-load_body.ensures in
    takes_not c.args.house (rules_of g.M.Market) (m c.args.device.now) (m c.choose_header.new.device) (m c.load_body.new.device) (g.M.Market.means c.load_body.new.market) c.in_ok-first.first d.did _ c.from_residual-in_err-load_body.result (e.did c.args.house) c.from_residual-in_err-load_body.ensures.1

pub returns-clause-did : goal.returns-clause-did
returns-clause-did g c =
    let m = g.D.Device.meaning in
    let d = c.in_ok-first.ensures in
    let e = c.in_ok-load_body.ensures in
    takes c.args.house (rules_of g.M.Market) (m c.args.device.now) (m c.choose_header.new.device) (m c.load_body.new.device) (g.M.Market.means c.load_body.new.market) c.in_ok-first.first d.did (e.did c.args.house)
