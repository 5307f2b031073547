use Rattle.std.proofs.Common.{◌≡◌, arith}
use Rattle.std.proofs.lemmas.Grind.{common_steps}
use Rattle.std.specs.Option.{option_map}
use Rattle.journal_io.proofs.Fetches.{chose_by}
use Rattle.protocol.specs.Worlds.{rules_of}
use Rattle.journal_io.proofs.reading.choose_header.Goals as goal

pub returns-clause-did : goal.returns-clause-did
returns-clause-did g c =
    let m = g.D.Device.meaning in
    let d = c.in_ok-zero.ensures in
    let e = c.in_ok-one.ensures in
    let o : c.map.result ≡ option_map (λ x. x.first) c.first_header.result = grind (arith, common_steps) in
    chose_by (record { house = c.args.house; size = (m c.args.device.now).size; rules = rules_of g.M.Market }) (m c.args.device.now) (m c.read_header.new.device) (m c.read_header-2.new.device) c.in_ok-zero.zero c.in_ok-one.one d.did e.did _ _ c.first_header.result c.map.result c.ok_or.result c.first_header.ensures.place o c.ok_or.ensures.value
