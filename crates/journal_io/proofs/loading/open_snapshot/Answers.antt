use Rattle.protocol.specs.Worlds.{rules_of}
use Rattle.journal_io.proofs.Openings.{opens}
use Rattle.journal_io.proofs.loading.open_snapshot.Goals as goal

pub returns-clause-did : goal.returns-clause-did
returns-clause-did g c =
    let m = g.D.Device.meaning in
    let d = c.in_ok-wake_up.ensures in
    let e = c.take_first.ensures in
    opens c.args.house (rules_of g.M.Market) (m c.args.device.now) (m c.wake_up.new.device) (m c.take_first.new.device) (g.M.Market.means c.take_first.new.market) d.did c.take_first.result e.did
