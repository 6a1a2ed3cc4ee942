use Rattle.std.proofs.Common.{refl}
use Rattle.text_fields.specs.Numbers.{number_in}
use Rattle.fabric_top.specs.Forms.{form_of}
use Rattle.fabric_top.proofs.worked.worked_words.Goals as goal

pub returns-clause-replay : goal.returns-clause-replay
unfolding number_in form_of
returns-clause-replay c = refl

pub returns-clause-node : goal.returns-clause-node
unfolding number_in form_of
returns-clause-node c = refl

pub returns-clause-arbiter : goal.returns-clause-arbiter
unfolding number_in form_of
returns-clause-arbiter c = refl

pub returns-clause-cluster : goal.returns-clause-cluster
unfolding number_in form_of
returns-clause-cluster c = refl

pub returns-clause-generate : goal.returns-clause-generate
unfolding number_in form_of
returns-clause-generate c = refl

pub returns-clause-no_words : goal.returns-clause-no_words
unfolding number_in form_of
returns-clause-no_words c = refl

pub returns-clause-replay_of_more : goal.returns-clause-replay_of_more
unfolding number_in form_of
returns-clause-replay_of_more c = refl

pub returns-clause-node_0 : goal.returns-clause-node_0
unfolding number_in form_of
returns-clause-node_0 c = refl

pub returns-clause-node_1000 : goal.returns-clause-node_1000
unfolding number_in form_of
returns-clause-node_1000 c = refl

pub returns-clause-leading_zero : goal.returns-clause-leading_zero
unfolding number_in form_of
returns-clause-leading_zero c = refl

pub returns-clause-signed : goal.returns-clause-signed
unfolding number_in form_of
returns-clause-signed c = refl

pub returns-clause-no_turns : goal.returns-clause-no_turns
unfolding number_in form_of
returns-clause-no_turns c = refl

pub returns-clause-arbiter_10 : goal.returns-clause-arbiter_10
unfolding number_in form_of
returns-clause-arbiter_10 c = refl

pub returns-clause-seed_too_large : goal.returns-clause-seed_too_large
unfolding number_in form_of
returns-clause-seed_too_large c = refl

pub returns-clause-help : goal.returns-clause-help
unfolding number_in form_of
returns-clause-help c = refl
