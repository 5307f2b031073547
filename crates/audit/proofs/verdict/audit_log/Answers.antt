use Rattle.std.proofs.Common.{rules, ◌≡◌, Decides, subst}
use Rattle.protocol.specs.Promises.{recorded}
use Rattle.runner.specs.Events.{history}
use Rattle.audit.specs.Delivered.{CoveredTo}
use Rattle.audit.specs.Readings.{Reads}
use Rattle.audit.proofs.Promising.{promised}
use Rattle.audit.proofs.verdict.audit_log.Goals as goal

pub returns : goal.returns
returns g c =
    let m = g.M.Market in
    let x = c.args.exchange.now in
    let h = history c.args.log.now in
    let r = c.read.new.self in
    let size = (g.D.Device.meaning x.device).size in
    let its : c.status.result.house ≡ x.house = search rules in
    let read : Reads m x.house size h r = subst (λ z. Reads m z size h r) its (c.in_ok-read.ensures c.status.result.house size (c.in_ok-reader.ensures size)) in
    let covered = subst (λ l. Decides c.is_covered-kept.result (CoveredTo l r.highest)) c.deref.ensures.value c.is_covered-kept.ensures in
    promised m g.D.Device x h r c.is_covered-kept.result c.keeps_all-kept.result c.is_carried_by-kept.result read covered
    (c.keeps_all-kept.ensures x.house size (recorded h) read.book) (c.is_carried_by-kept.ensures x.house size (recorded h) read.book)
