use Rattle.text_fields.proofs.NumberLaws.{number_is, optional_is}
use Rattle.text_fields.proofs.number.numbers_have_one_text.Goals as goal

pub returns-clause-number : goal.returns-clause-number
returns-clause-number c = number_is

pub returns-clause-optional : goal.returns-clause-optional
returns-clause-optional c = optional_is
