use Rattle.std.proofs.Common.{◌≡◌, eqb, List, [], ◌∷◌, reverse, ap, ◌∙◌, subst, rules, tests}
use Rattle.std.specs.Iterator.Adapters.{rev_source, rev_steps}
use Rattle.std.specs.VecDeque.Iter.{deque_iter_rest, deque_iter_steps_back}
use Rattle.std.proofs.lemmas.Iterator.{YieldsList}
use Rattle.std.proofs.lemmas.Iterator.Consumers.{YieldsList-from_shown}
use Rattle.std.proofs.lemmas.Iterator.Search.{find_from_yields_List}
use Rattle.std.proofs.lemmas.List.{length-reverse, reverse-append}
use Rattle.image.specs.declared.pending.Pending.{Pending}
use Rattle.image.proofs.queue.Queue.lend_newest.Goals as goal

-- a queue from behind
rev_deque : {A : Type 0} {s : _} (xs : List A) → deque_iter_rest (rev_source s) ≡ xs → YieldsList (rev_steps (deque_iter_steps_back {X = A})) (λ y. y.now) s (reverse xs)
rev_deque {A} {s} xs e = subst (λ k. YieldsList (rev_steps (deque_iter_steps_back {X = A})) (λ y. y.now) s (reverse k)) e
    (YieldsList-from_shown (rev_steps (deque_iter_steps_back {X = A})) (λ y. y.now) (λ u. reverse (deque_iter_rest (rev_source u))) (λ u t p. length-reverse _ ∙ p.0)
    (λ u x t p. ap reverse p ∙ reverse-append (deque_iter_rest (rev_source t)) (x.now ∷ [])) s)

pub returns : goal.returns
returns c = find_from_yields_List (λ (p : Pending). eqb p.sector c.args.sector) _ _ c.find.result c.find.ensures.ran (rev_deque c.args.self.now.items.items (cc)) (λ x b q k. search (rules, tests))
