use Rattle.std.proofs.Common.{◌≡◌, ◌<◌, [], ◌∷◌, ◌++◌, map, length, vec_items, sym, ap, ◌∙◌, subst, lit<, rules}
use Rattle.std.specs.List.{join_with_byte}
use Rattle.std.proofs.iter.SoFar.{exit_by}
use Rattle.pile_words.specs.Spellings.{SpellsFuses}
use Rattle.pile_words.proofs.Fronts.{EachSpells, each_more, joined}
use Rattle.pile_words.proofs.reading.fuses_of.Goals as goal

pub loop-part-preserved : goal.loop-part-preserved
loop-part-preserved c =
    let grown : vec_items c.push.new.self ≡ vec_items c.loop-part.fuses ++ (c.in_ok-fuse_of.field-0 ∷ []) = search rules in
    subst (EachSpells (c.loop-part.yielded ++ (c.in-Some.part ∷ []))) (sym grown) (each_more c.loop-part.yielded (vec_items c.loop-part.fuses) c.in-Some.part c.in_ok-fuse_of.field-0 c.loop-part.invariant c.in_ok-fuse_of.ensures)

pub returns : goal.returns
returns c =
    let run = exit_by _ (c.loop-part.yielded, c.loop-part.yielded_by) c.next.new.self c.in-None.ensures.steps in
    let split = c.split-part-items.ensures.runs run.0 run.0.seen (run.1 ∙ c.into_iter-part-iterator.ensures.into_iter_gives) in
    let some : 0 < length c.loop-part.yielded = subst (λ n. 0 < n) run.3.1 (split.0 run.2) in
    let text = (split.2 (lit< tt) (λ q k. k, λ w o f. f)).0.2 run.2 ∙ ap (λ l. join_with_byte 44 (map (λ x. x.now) l)) run.3.0 in
    subst (λ t. SpellsFuses t (vec_items c.loop-part.fuses)) (sym text) (joined c.loop-part.yielded (vec_items c.loop-part.fuses) some c.loop-part.invariant)
