use Rattle.std.proofs.Common.{rules, ◌≡◌, length, vec_items, true≢false, sym, ◌∙◌, Decides}
use Rattle.protocol.specs.declared.phases.Phase.TheVariants.{Live}
use Rattle.audit.proofs.Verdicts.{counts_from, carried_by}
use Rattle.audit.proofs.books.Book.is_carried_by.Goals as goal

pub returns-then-has_counts : goal.returns-then-has_counts
returns-then-has_counts g c house size kept i =
    let b = c.args.self.now in
    let x = c.args.exchange.now in
    let live : x.phase ≡ Live = search rules in
    let counts : (x.pages.0 ≡ length (vec_items b.pages)) × (x.commands.0 ≡ b.commands) × (x.notices.0 ≡ b.notices) = search rules in
    let same : Decides c.is_market_same.result (g.M.Market.means b.market ≡ g.M.Market.means x.market) = search rules in
    carried_by g.M.Market g.D.Device house size kept b x i c.is_market_same.result live counts same

pub returns-else-has_counts : goal.returns-else-has_counts
returns-else-has_counts g c house size kept i =
    let b = c.args.self.now in
    let x = c.args.exchange.now in
    let live : x.phase ≡ Live = search rules in (
      λ t. absurd (true≢false (sym t ∙ c.if-has_counts.false)),
      λ f. let counts = counts_from g.M.Market g.D.Device house size kept b x i live f in search (rules, counts),
    )
