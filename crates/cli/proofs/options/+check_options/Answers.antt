use Rattle.std.proofs.Common.{rules}
use Rattle.cli.proofs.Pairs.{one_more_pair}
use Rattle.cli.proofs.options.+check_options.Goals as goal

pub returns : goal.returns
returns t c =
    one_more_pair c.args.names.now c.args.words.now c.in-Some-split_first.rest.now c.in-Some.name.now c.in-Some-split_first._value.now c.check_options.result (search rules) (search rules) (search rules) c.check_options.ensures
