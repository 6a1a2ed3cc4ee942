-- Which answers end, and which stay.
use Rattle.std.proofs.Common.{◌≡◌, ◌+◌, cond, List, [], ◌∷◌, ◌++◌, length, Option, Some, None, arith, refl}
use Rattle.std.specs.Prelude.{is_none}
use Rattle.open_answers.specs.declared.question.Ending.{Ending}
use Rattle.open_answers.specs.declared.open_answers.OpenAnswer.{OpenAnswer}
use Rattle.open_answers.specs.declared.ended.EndedAnswer.{EndedAnswer}
use Rattle.open_answers.specs.Answers.{by_end, ended_by, ended_one, open_after, EndsOrStays}

-- where each one ends, none stays
pub none_stays : (os : List OpenAnswer) → open_after by_end os ≡ []
none_stays [] = refl
none_stays (o ∷ os) = none_stays os

-- one more answer ends or stays
one_more : (ended : List EndedAnswer) (os rest : List OpenAnswer) (o : OpenAnswer) (e : Option Ending) → length ended + length rest ≡ length os
    → length (ended_one o.asker e ++ ended) + length (cond (is_none e) (o ∷ rest) rest) ≡ length (o ∷ os)
one_more ended os rest o None left = omega arith
one_more ended os rest o (Some ending) left = omega arith

-- each answer ends or stays, and none does both
pub ends_or_stays : EndsOrStays
ends_or_stays ends [] = refl
ends_or_stays ends (o ∷ os) = one_more (ended_by ends os) os (open_after ends os) o (ends o) (ends_or_stays ends os)
