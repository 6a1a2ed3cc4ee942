-- Line 1 of a plan, and the lines behind it.
use Rattle.std.proofs.Common.{◌≡◌, ℕ, ◌≤◌, true, false, List, [], ◌∷◌, ◌++◌, length, Option, Some, None, Result, Ok, Err, refl, ap, sym, ◌∙◌, arith, nat_lt}
use Rattle.std.specs.Prelude.{All}
use Rattle.std.proofs.lemmas.Bool.Decides.{nat_tests}
use Rattle.std.proofs.lemmas.List.Elements.{All-head, All-nil, All-tail}
use Rattle.fabric_config.specs.declared.error.ConfigError.TheVariants.{NotJson}
use Rattle.fabric_status.specs.declared.status.Refusal.{Refusal}
use Rattle.fabric_status.specs.declared.status.Refusal.TheVariants.{BadConfig, TooLarge}
use Rattle.fabric_terms.specs.declared.config.FabricConfig.{FabricConfig}
use Rattle.line_format.specs.Lines.{lines_of}
use Rattle.source_lines.specs.Feeds.{HasNoFeed}
use Rattle.source_lines.specs.Lines.{most_first_line}
use Rattle.source_lines.specs.Reading.{BeginsLonger, Reading, TakesOf}
use Rattle.source_lines.specs.declared.next_line.NextLine.TheVariants.{Line, TooLong, End}
use Rattle.source_lines.proofs.Feeds.{line_and_feed}
use Rattle.turn_rules.specs.Plans.{Plan}
use Rattle.turn_plans.specs.Plans.{Judges, config_for, judge_first, judge_lines, judge_plan, judge_rest, plan_of}
use Rattle.turn_plans.specs.Reading.{AreJudged, Defines, IsAtEnd, Reads}
use Rattle.turn_plans.specs.declared.crew.Crew.{Crew}
use Rattle.turn_plans.specs.declared.error.PlanError.{PlanError}
use Rattle.turn_plans.specs.declared.error.PlanError.TheVariants as error
use Rattle.turn_plans.proofs.Along.{long_one, none_right}

-- the bytes of lines, each with a line feed
abbrev bytes_of : List (List ℕ) → List ℕ
bytes_of [] = []
bytes_of (l ∷ ls) = l ++ (10 ∷ bytes_of ls)

lines_again : (ls : List (List ℕ)) → All HasNoFeed ls → lines_of (bytes_of ls) ≡ ls
lines_again [] plain = refl
lines_again (l ∷ ls) plain =
    line_and_feed l (bytes_of ls) (All-head HasNoFeed l ls plain) ∙ ap (λ k. l ∷ k) (lines_again ls (All-tail HasNoFeed l ls plain))

-- some bytes define this, and where the source tells, all of its bytes do
defined : (crew : Crew) (turns : ℕ) (left : Option (List ℕ)) (judged : Result Plan Refusal) (some : List ℕ) → judge_plan crew turns some ≡ judged →
    ((bytes : List ℕ) → left ≡ Some bytes → judge_plan crew turns bytes ≡ judged) → Defines crew turns left judged
defined crew turns None judged some is all = record { bytes = some; all = λ bytes e. cc; is = is }
defined crew turns (Some bytes) judged some is all = record { bytes = bytes; all = λ others e. cc; is = all bytes refl }

none_judged : (crew : Crew) (turns : ℕ) → judge_plan crew turns [] ≡ Err (BadConfig NotJson)
unfolding judge_plan
none_judged crew turns = refl

long_judged : (crew : Crew) (turns : ℕ) (bytes : List ℕ) → BeginsLonger most_first_line bytes → judge_plan crew turns bytes ≡ Err (TooLarge 1)
unfolding judge_plan
long_judged crew turns bytes begins =
    let long : nat_lt most_first_line (length begins.line) ≡ true = let l = begins.longer in grind (arith, nat_tests) in
    ap (judge_lines crew turns) begins.cut ∙ ap (judge_first crew turns begins.line begins.others) long

first_judged : (crew : Crew) (turns : ℕ) (bytes line : List ℕ) (ls : List (List ℕ)) → lines_of bytes ≡ line ∷ ls → length line ≤ most_first_line → judge_plan crew turns bytes ≡ judge_rest crew turns ls (config_for crew line)
unfolding judge_plan
first_judged crew turns bytes line ls cut short =
    let fits : nat_lt most_first_line (length line) ≡ false = grind (arith, nat_tests) in
    ap (judge_lines crew turns) cut ∙ ap (judge_first crew turns line ls) fits

module _ (crew : Crew) (turns : ℕ) (old new : Reading) (left after : Option (List ℕ)) (nothing : old.waiting ≡ []) where
  bytes_left : (bytes : List ℕ) → old.waiting ++ bytes ≡ bytes
  bytes_left bytes = ap (λ w. w ++ bytes) nothing

  pub first_none : TakesOf (Ok End) most_first_line old left new after → Defines crew turns left (Err (BadConfig NotJson))
  first_none takes =
      defined crew turns left (Err (BadConfig NotJson)) [] (none_judged crew turns)
      (λ bytes e. ap (judge_plan crew turns) (none_right old.waiting bytes (takes bytes e).2.0) ∙ none_judged crew turns)

  pub first_long : TakesOf (Ok TooLong) most_first_line old left new after → Defines crew turns left (Err (TooLarge 1))
  first_long takes =
      let long = long_one most_first_line in
      defined crew turns left (Err (TooLarge 1)) (long.0 ++ (10 ∷ []))
      (long_judged crew turns (long.0 ++ (10 ∷ [])) (record { line = long.0; others = []; cut = line_and_feed long.0 [] long.1; longer = long.2 }))
      (λ bytes e. ap (judge_plan crew turns) (sym (bytes_left bytes)) ∙ long_judged crew turns (old.waiting ++ bytes) (takes bytes e).2.0)

  module _ (takes : TakesOf (Ok Line) most_first_line old left new after) (plain : HasNoFeed new.line) (short : length new.line ≤ most_first_line) where
    -- line 1, and lines behind it
    begun : (judged : Result Plan Refusal) (ls : List (List ℕ)) → All HasNoFeed ls → judge_rest crew turns ls (config_for crew new.line) ≡ judged →
        ((bytes : List ℕ) → after ≡ Some bytes → judge_rest crew turns (lines_of (new.waiting ++ bytes)) (config_for crew new.line) ≡ judged) → Defines crew turns left judged
    begun judged ls each some all =
        defined crew turns left judged (bytes_of (new.line ∷ ls))
        (first_judged crew turns (bytes_of (new.line ∷ ls)) new.line ls (line_and_feed new.line (bytes_of ls) plain ∙ ap (λ k. new.line ∷ k) (lines_again ls each)) short ∙ some)
        (λ bytes e.
        let read = takes bytes e in
        ap (judge_plan crew turns) (sym (bytes_left bytes)) ∙ (first_judged crew turns (old.waiting ++ bytes) new.line (lines_of (new.waiting ++ read.0)) read.2.0 short ∙ all read.0 read.1))

    pub first_refused : (refusal : Refusal) → config_for crew new.line ≡ Err refusal → Defines crew turns left (Err refusal)
    first_refused refusal bad =
        begun (Err refusal) [] (All-nil HasNoFeed) (ap (judge_rest crew turns []) bad) (λ bytes e. ap (judge_rest crew turns (lines_of (new.waiting ++ bytes))) bad)

    pub first_good : (config : FabricConfig) (judged : Result Plan Refusal) → config_for crew new.line ≡ Ok config → AreJudged (plan_of crew turns config) new.waiting after judged → Defines crew turns left judged
    first_good config judged good rest =
        begun judged rest.lines rest.plain (ap (judge_rest crew turns rest.lines) good ∙ rest.some)
        (λ bytes e. ap (judge_rest crew turns (lines_of (new.waiting ++ bytes))) good ∙ rest.all bytes e)

    pub first_end : (last : Option (List ℕ)) → IsAtEnd after last → IsAtEnd left last
    first_end last end = λ bytes e. let read = takes bytes e in end read.0 read.1

    -- a line 1 that is refused, or want of memory
    pub first_error : (now : Option (List ℕ)) (e : PlanError) → Judges {B = FabricConfig} (λ c. c) (config_for crew new.line) (Err e) → Reads {A = Plan} {B = Plan} (λ p. p) (Defines crew turns left) left (Err e) now
    first_error now (error.Refused refusal) bad = first_refused refusal bad
    first_error now error.SourceFailed bad = tt
    first_error now error.OutOfMemory bad = tt

    -- what the lines behind say
    pub first_read : (now : Option (List ℕ)) (config : FabricConfig) (r : Result Plan PlanError) → config_for crew new.line ≡ Ok config →
        Reads {A = Plan} {B = Plan} (λ p. p) (AreJudged (plan_of crew turns config) new.waiting after) after r now → Reads {A = Plan} {B = Plan} (λ p. p) (Defines crew turns left) left r now
    first_read now config (Ok plan) good read = (first_good config (Ok plan) good read.0, first_end now read.1)
    first_read now config (Err (error.Refused refusal)) good read = first_good config (Err refusal) good read
    first_read now config (Err error.SourceFailed) good read = tt
    first_read now config (Err error.OutOfMemory) good read = tt
