use Rattle.std.proofs.Common.{rules}
use Rattle.records.specs.Headers.{decoded_header}
use Rattle.records.proofs.headers.Header.header_in.Goals as goal

pub returns-then-not-is_laid_out : goal.returns-then-not-is_laid_out
unfolding decoded_header
returns-then-not-is_laid_out c = search rules

pub returns-then-not-all_zero_from : goal.returns-then-not-all_zero_from
unfolding decoded_header
returns-then-not-all_zero_from c = search rules

pub returns : goal.returns
unfolding decoded_header
returns c = search rules
