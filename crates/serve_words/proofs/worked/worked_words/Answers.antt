use Rattle.std.proofs.Common.{refl}
use Rattle.text_fields.specs.Numbers.{number_in}
use Rattle.serve_words.specs.Forms.{form_of}
use Rattle.serve_words.specs.Options.{options_in}
use Rattle.serve_words.proofs.worked.worked_words.Goals as goal

pub returns-clause-node : goal.returns-clause-node
unfolding number_in form_of options_in
returns-clause-node c = refl

pub returns-clause-both_spellings : goal.returns-clause-both_spellings
unfolding number_in form_of options_in
returns-clause-both_spellings c = refl

pub returns-clause-a_hyphen : goal.returns-clause-a_hyphen
unfolding number_in form_of options_in
returns-clause-a_hyphen c = refl

pub returns-clause-check : goal.returns-clause-check
unfolding number_in form_of options_in
returns-clause-check c = refl

pub returns-clause-ask : goal.returns-clause-ask
unfolding number_in form_of options_in
returns-clause-ask c = refl

pub returns-clause-again : goal.returns-clause-again
unfolding number_in form_of options_in
returns-clause-again c = refl

pub returns-clause-help : goal.returns-clause-help
unfolding number_in form_of options_in
returns-clause-help c = refl

pub returns-clause-version : goal.returns-clause-version
unfolding number_in form_of options_in
returns-clause-version c = refl

pub returns-clause-no_words : goal.returns-clause-no_words
unfolding number_in form_of options_in
returns-clause-no_words c = refl

pub returns-clause-help_of_more : goal.returns-clause-help_of_more
unfolding number_in form_of options_in
returns-clause-help_of_more c = refl

pub returns-clause-no_file : goal.returns-clause-no_file
unfolding number_in form_of options_in
returns-clause-no_file c = refl

pub returns-clause-no_line : goal.returns-clause-no_line
unfolding number_in form_of options_in
returns-clause-no_line c = refl

pub returns-clause-no_folder : goal.returns-clause-no_folder
unfolding number_in form_of options_in
returns-clause-no_folder c = refl

pub returns-clause-a_folder_is_an_option : goal.returns-clause-a_folder_is_an_option
unfolding number_in form_of options_in
returns-clause-a_folder_is_an_option c = refl

pub returns-clause-a_file_is_an_option : goal.returns-clause-a_file_is_an_option
unfolding number_in form_of options_in
returns-clause-a_file_is_an_option c = refl

pub returns-clause-two_lines : goal.returns-clause-two_lines
unfolding number_in form_of options_in
returns-clause-two_lines c = refl

pub returns-clause-node_1000 : goal.returns-clause-node_1000
unfolding number_in form_of options_in
returns-clause-node_1000 c = refl

pub returns-clause-leading_zero : goal.returns-clause-leading_zero
unfolding number_in form_of options_in
returns-clause-leading_zero c = refl

pub returns-clause-arbiter_10 : goal.returns-clause-arbiter_10
unfolding number_in form_of options_in
returns-clause-arbiter_10 c = refl

pub returns-clause-before_file : goal.returns-clause-before_file
unfolding number_in form_of options_in
returns-clause-before_file c = refl

pub returns-clause-twice : goal.returns-clause-twice
unfolding number_in form_of options_in
returns-clause-twice c = refl

pub returns-clause-parent_twice : goal.returns-clause-parent_twice
unfolding number_in form_of options_in
returns-clause-parent_twice c = refl

pub returns-clause-no_value : goal.returns-clause-no_value
unfolding number_in form_of options_in
returns-clause-no_value c = refl

pub returns-clause-last_value : goal.returns-clause-last_value
unfolding number_in form_of options_in
returns-clause-last_value c = refl

pub returns-clause-a_flag_has_none : goal.returns-clause-a_flag_has_none
unfolding number_in form_of options_in
returns-clause-a_flag_has_none c = refl

pub returns-clause-hold_alone : goal.returns-clause-hold_alone
unfolding number_in form_of options_in
returns-clause-hold_alone c = refl

pub returns-clause-hold_0 : goal.returns-clause-hold_0
unfolding number_in form_of options_in
returns-clause-hold_0 c = refl

pub returns-clause-a_parent_of_an_arbitrator : goal.returns-clause-a_parent_of_an_arbitrator
unfolding number_in form_of options_in
returns-clause-a_parent_of_an_arbitrator c = refl

pub returns-clause-an_unknown_option : goal.returns-clause-an_unknown_option
unfolding number_in form_of options_in
returns-clause-an_unknown_option c = refl

pub returns-clause-a_further_word : goal.returns-clause-a_further_word
unfolding number_in form_of options_in
returns-clause-a_further_word c = refl
