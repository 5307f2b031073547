use Rattle.std.proofs.Common.{◌≡◌, [], ◌∷◌, ◌++◌, Some, None, vec_items, ap, sym, ◌∙◌, subst, rules}
use Rattle.protocol.specs.Steps.{Shelve}
use Rattle.exchange.specs.Views.{Called}
use Rattle.std.specs.Option.{option_to_list}
use Rattle.runner.specs.declared.log.Entry.TheVariants as entry
use Rattle.runner.specs.Playing.{shelves, spends_receipt, from_last}
use Rattle.runner.proofs.Logs.{closed_next, closed_left, last_first}
use Rattle.runner.proofs.running.close_receipts.Goals as goal

pub loop-held-preserved-in-Some-held : goal.loop-held-preserved-in-Some-held
loop-held-preserved-in-Some-held g c =
    let m = g.M.Market in
    let d = g.D.Device in
    let x = c.args.exchange.now in
    let es = vec_items c.args.log.now in
    let all = from_last spends_receipt (vec_items c.args.receipts.now) in
    let rest = from_last spends_receipt (vec_items c.pop.new.self) in
    let was : c.pop.result ≡ Some (Some c.in-Some-held.receipt) = search rules in
    let items : vec_items c.loop-held.receipts ≡ vec_items c.pop.new.self ++ (Some c.in-Some-held.receipt ∷ []) = c.pop.ensures.items ∙ ap (λ o. vec_items c.pop.new.self ++ option_to_list o) was in
    let due = ap (from_last spends_receipt) items ∙ last_first spends_receipt (vec_items c.pop.new.self) (Some c.in-Some-held.receipt) ∙ ap (λ n. shelves n ∷ rest) (sym c.numbers-numbers.ensures) in
    let before = closed_left m d x c.loop-held.exchange es (vec_items c.loop-held.log) all _ _ due c.loop-held.invariant.0 in (
      closed_next m d x c.loop-held.exchange c.shelve.new.self es (vec_items c.loop-held.log) (vec_items c.push_reserved.new.self) all rest (entry.Shelve c.numbers-numbers.result) before c.push_reserved.ensures.items
          (subst (λ r. Called m d c.loop-held.exchange (Shelve r) c.shelve.new.self) (sym c.numbers-numbers.ensures) c.shelve.ensures.did),
      search rules,
      search rules,
    )

pub loop-held-preserved : goal.loop-held-preserved
loop-held-preserved g c =
    let was : c.pop.result ≡ Some None = search rules in
    let items : vec_items c.loop-held.receipts ≡ vec_items c.pop.new.self ++ (None ∷ []) = c.pop.ensures.items ∙ ap (λ o. vec_items c.pop.new.self ++ option_to_list o) was in
    let due = ap (from_last spends_receipt) items ∙ last_first spends_receipt (vec_items c.pop.new.self) None in (
      closed_left g.M.Market g.D.Device c.args.exchange.now c.loop-held.exchange (vec_items c.args.log.now) (vec_items c.loop-held.log) (from_last spends_receipt (vec_items c.args.receipts.now)) _ _ due c.loop-held.invariant.0,
      search rules,
      search rules,
    )
