use Rattle.text_fields.proofs.IntervalLaws.{ranges_is, span_is}
use Rattle.text_fields.proofs.interval.ranges_have_one_text.Goals as goal

pub returns-clause-ranges : goal.returns-clause-ranges
returns-clause-ranges c = ranges_is

pub returns-clause-span : goal.returns-clause-span
returns-clause-span c = span_is
