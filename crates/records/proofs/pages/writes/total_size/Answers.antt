use Rattle.std.proofs.Common.{rules, ◌≡◌, length, sym, ◌∙◌}
use Rattle.std.specs.List.{sum_by}
use Rattle.std.proofs.lemmas.List.Concat.{length-flat_map}
use Rattle.records.specs.Commands.{encoded}
use Rattle.records.proofs.PageTheorems.{joined_le}
use Rattle.records.proofs.pages.writes.total_size.Goals as goal

pub returns-clause-value : goal.returns-clause-value
returns-clause-value c =
    let s : c.sum.result ≡ sum_by (λ x. length (encoded x)) c.args.commands.now = search rules in
    s ∙ sym (length-flat_map encoded c.args.commands.now)

pub returns-clause-bound : goal.returns-clause-bound
returns-clause-bound c = rw (returns-clause-value c) (joined_le c.args.commands.now)
