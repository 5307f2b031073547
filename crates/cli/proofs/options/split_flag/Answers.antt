use Rattle.std.proofs.Common.{length, not, ap, arith}
use Rattle.std.specs.Str.{bytes_eq}
use Rattle.std.proofs.lemmas.List.Filters.{length-filter_both}
use Rattle.std.proofs.Common.{refl}
use Rattle.cli.proofs.options.split_flag.Goals as goal

pub returns-in-0 : goal.returns-in-0
returns-in-0 c =
    let same = c.in_ok-rest.ensures in
    let both = length-filter_both (λ w. bytes_eq w.now c.args.flag.now) (λ w. not (bytes_eq w.now c.args.flag.now)) (λ w. refl) c.args.words.now in
    (same, omega (arith, both, ap length same, c.saturating_sub.ensures, c.in-0.is, c.len.ensures))
