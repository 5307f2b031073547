use Rattle.std.proofs.Common.{rules}
use Rattle.records.specs.Pages.{decoded_page}
use Rattle.records.proofs.pages.reads.page_in.Goals as goal

pub returns-then-not-is_laid_out : goal.returns-then-not-is_laid_out
unfolding decoded_page
returns-then-not-is_laid_out c = search rules

pub returns-then-not-has_good_numbers : goal.returns-then-not-has_good_numbers
unfolding decoded_page
returns-then-not-has_good_numbers c = search rules

pub returns-then-not-all_zero_from : goal.returns-then-not-all_zero_from
unfolding decoded_page
returns-then-not-all_zero_from c = search rules

pub returns-in_err-commands : goal.returns-in_err-commands
unfolding decoded_page
returns-in_err-commands c = search rules

pub returns : goal.returns
unfolding decoded_page
returns c = search rules
