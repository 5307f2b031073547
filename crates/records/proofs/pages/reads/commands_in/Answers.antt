use Rattle.std.proofs.Common.{sym, ap, ◌∙◌, rules}
use Rattle.std.proofs.lemmas.List.{take_rest}
use Rattle.records.specs.Pages.{held, held_in}
use Rattle.records.proofs.PageLaws.{found_turn, found_none, found_end}
use Rattle.records.proofs.pages.reads.commands_in.Goals as goal

pub returns-in_err-command : goal.returns-in_err-command
returns-in_err-command c =
    let f = sym c.first_in.ensures.value ∙ c.in_err-command.was in
    sym c.loop.invariant.0
    ∙ found_none c.args.count c.loop.counter (held c.loop.commands) c.loop.rest.now c.loop-test.true f
    ∙ ap held_in (sym c.from_residual.ensures)

pub loop-preserved : goal.loop-preserved
loop-preserved c =
    let f = sym c.first_in.ensures.value ∙ c.in_ok-command.was in
    let e = found_turn c.args.count c.loop.counter (held c.loop.commands) c.in_ok-command.command c.loop.rest.now c.loop-test.true f in
    let t = take_rest c.loop.rest.now c.record_size-n.result in
    (cc, search rules)

pub returns : goal.returns
returns c = let e = found_end c.args.count c.loop.counter (held c.loop.commands) c.loop.rest.now (search rules) in search rules
