use Rattle.std.proofs.Common.{take, subst, sym, arith}
use Rattle.std.proofs.lemmas.List.{take_all}
use Rattle.runner.specs.Events.{event_of, noted, history}
use Rattle.audit.specs.Readings.{Reads}
use Rattle.audit.proofs.Verdicts.{history_taken}
use Rattle.audit.proofs.readings.Reader.read.Goals as goal

pub loop-entry-init : goal.loop-entry-init
loop-entry-init g c house size i = i

pub loop-entry-preserved : goal.loop-entry-preserved
loop-entry-preserved g c house size i =
    let so_far = history (take c.loop-entry.entry-index c.args.log.now) in
    let read = c.in_ok-note.ensures house size so_far (c.loop-entry.invariant house size i) in
    subst (λ h. Reads g.M.Market house size h c.note.new.self) (sym (history_taken c.args.log.now c.loop-entry.entry-index c.entry-item.result c.loop-entry-test.true))
    (subst (λ e. Reads g.M.Market house size (noted (event_of e) so_far) c.note.new.self) c.entry-item.is read)

pub returns : goal.returns
returns g c house size i = subst (λ l. Reads g.M.Market house size (history l) c.loop-entry.self) (take_all c.loop-entry.entry-index c.args.log.now (omega (arith, c.loop-entry-test.false))) (c.loop-entry.invariant house size i)
