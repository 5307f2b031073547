use Rattle.std.proofs.Common.{◌≡◌, [], ◌∷◌, ◌++◌, Some, None, vec_items, ap, sym, ◌∙◌, rules}
use Rattle.std.specs.Option.{option_to_list}
use Rattle.runner.specs.declared.log.Entry.TheVariants as entry
use Rattle.runner.specs.Playing.{made, spends_ticket, from_last}
use Rattle.runner.proofs.Logs.{closed_next, closed_left, last_first}
use Rattle.runner.proofs.running.close_tickets.Goals as goal

pub loop-held-preserved-in-Some-held : goal.loop-held-preserved-in-Some-held
loop-held-preserved-in-Some-held g c =
    let m = g.M.Market in
    let d = g.D.Device in
    let x = c.args.exchange.now in
    let es = vec_items c.args.log.now in
    let all = from_last spends_ticket (vec_items c.args.tickets.now) in
    let rest = from_last spends_ticket (vec_items c.pop.new.self) in
    let was : c.pop.result ≡ Some (Some c.in-Some-held.ticket) = search rules in
    let items : vec_items c.loop-held.tickets ≡ vec_items c.pop.new.self ++ (Some c.in-Some-held.ticket ∷ []) = c.pop.ensures.items ∙ ap (λ o. vec_items c.pop.new.self ++ option_to_list o) was in
    let due = ap (from_last spends_ticket) items ∙ last_first spends_ticket (vec_items c.pop.new.self) (Some c.in-Some-held.ticket) ∙ ap (λ a. made entry.Restart ∷ a ∷ rest) (sym c.spend-entry.ensures.made) in
    let before = closed_left m d x c.loop-held.exchange es (vec_items c.loop-held.log) all _ _ due c.loop-held.invariant.0 in
    let first = closed_next m d x c.loop-held.exchange c.restart.new.self es (vec_items c.loop-held.log) (vec_items c.push_reserved.new.self) all (made c.spend-entry.result ∷ rest) entry.Restart before c.push_reserved.ensures.items c.restart.ensures.did in (
      closed_next m d x c.restart.new.self c.spend-entry.new.exchange es (vec_items c.push_reserved.new.self) (vec_items c.push_reserved-in-Some-held.new.self) all rest c.spend-entry.result first c.push_reserved-in-Some-held.ensures.items c.spend-entry.ensures.told,
      search rules,
      search rules,
    )

pub loop-held-preserved : goal.loop-held-preserved
loop-held-preserved g c =
    let was : c.pop.result ≡ Some None = search rules in
    let items : vec_items c.loop-held.tickets ≡ vec_items c.pop.new.self ++ (None ∷ []) = c.pop.ensures.items ∙ ap (λ o. vec_items c.pop.new.self ++ option_to_list o) was in
    let due = ap (from_last spends_ticket) items ∙ last_first spends_ticket (vec_items c.pop.new.self) None in (
      closed_left g.M.Market g.D.Device c.args.exchange.now c.loop-held.exchange (vec_items c.args.log.now) (vec_items c.loop-held.log) (from_last spends_ticket (vec_items c.args.tickets.now)) _ _ due c.loop-held.invariant.0,
      search rules,
      search rules,
    )
