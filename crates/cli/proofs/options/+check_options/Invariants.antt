use Rattle.std.proofs.Common.{length}
use Rattle.cli.proofs.options.+check_options.Given as goal

abbrev pub decreases-check_options : goal.decreases-check_options
decreases-check_options l = length l.words.now
