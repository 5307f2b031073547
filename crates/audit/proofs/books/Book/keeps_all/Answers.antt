use Rattle.std.proofs.Common.{true≢false, refl, sym, subst, ◌∙◌, arith}
use Rattle.std.proofs.lemmas.List.{take_all}
use Rattle.protocol.specs.Promises.{EachKept}
use Rattle.runner.specs.Events.{history}
use Rattle.audit.specs.Books.{world}
use Rattle.audit.specs.Keeping.{KeptEntry}
use Rattle.audit.proofs.Verdicts.{kept_at_place, kept_taken}
use Rattle.audit.proofs.books.Book.keeps_all.Goals as goal

pub loop-entry-init : goal.loop-entry-init
loop-entry-init g c house size kept i = tt

-- an entry that does not
pub returns-then-not-keeps : goal.returns-then-not-keeps
returns-then-not-keeps g c house size kept i =
    let w = world g.M.Market house size in (
      λ t. absurd (true≢false (sym t)),
      λ k. absurd (true≢false (sym ((c.keeps.ensures house size kept i).1 (subst (KeptEntry w kept) (sym c.entry-item.is) (kept_at_place w kept c.args.log.now c.loop-entry.entry-index c.entry-item.result c.loop-entry-test.true k))) ∙ c.if-not-keeps.true)),
    )

pub loop-entry-preserved : goal.loop-entry-preserved
loop-entry-preserved g c house size kept i =
    let w = world g.M.Market house size in
    kept_taken w kept c.args.log.now c.loop-entry.entry-index c.entry-item.result c.loop-entry-test.true (c.loop-entry.invariant house size kept i)
    (subst (KeptEntry w kept) c.entry-item.is ((c.keeps.ensures house size kept i).0 c.if-not-keeps.false))

pub returns : goal.returns
returns g c house size kept i =
    let w = world g.M.Market house size in
    (λ t. subst (λ l. EachKept w kept (history l)) (take_all c.loop-entry.entry-index c.args.log.now (omega (arith, c.loop-entry-test.false))) (c.loop-entry.invariant house size kept i), λ k. refl)
