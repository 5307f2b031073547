use Rattle.std.proofs.Common.{Ok, subst}
use Rattle.journal_io.specs.Readings.{Fetched}
use Rattle.protocol.specs.Worlds.{blank}
use Rattle.journal_io.proofs.Fetches.{header_bytes}
use Rattle.journal_io.proofs.reading.read_header.Goals as goal

pub returns-clause-did : goal.returns-clause-did
unfolding blank
returns-clause-did g c =
    let m = g.D.Device.meaning in
    let e = c.in_ok-read_sector.ensures in
    header_bytes (m c.args.device.now) (m c.read_sector.new.device) _ c.in_ok-read_sector.field-0 c.unwrap_or.result (subst (λ s. Fetched (m c.args.device.now) s (Ok c.in_ok-read_sector.field-0) (m c.read_sector.new.device)) c.header_sector.ensures e.did) c.unwrap_or.ensures
