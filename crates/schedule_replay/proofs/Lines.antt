-- One line of a schedule, and what it leads to.
use Rattle.std.proofs.Common.{◌≡◌, ℕ, ◌+◌, ◌<◌, true, List, [], ◌∷◌, ◌++◌, length, Some, None, refl, ap, sym, ◌∙◌, arith, nat_lt, append_assoc}
use Rattle.std.proofs.lemmas.Bool.Decides.{nat_tests}
use Rattle.std.proofs.lemmas.List.{append-nil}
use Rattle.fabric_terms.specs.declared.config.FabricConfig.{FabricConfig}
use Rattle.fabric_status.specs.declared.status.Refusal.{Refusal}
use Rattle.fabric_status.specs.declared.status.Refusal.TheVariants.{TooLarge}
use Rattle.unit_rules.specs.Ruled.{ruled}
use Rattle.ring_world.specs.declared.world.World.{World}
use Rattle.line_format.specs.Lines.{lines_of}
use Rattle.source_lines.specs.Lines.{most_line}
use Rattle.source_lines.specs.Reading.{BeginsLonger}
use Rattle.world_rules.specs.Runs.{History}
use Rattle.world_rules.specs.Worlds.{World as RuledWorld}
use Rattle.unit_rules.specs.Fabric.{fabric}
use Rattle.schedule_replay.specs.Follows.{Known, At, Follows}
use Rattle.schedule_rules.specs.Schedule.{LineVerdict, Ignored, Accepted, Refused, judge_from, judged_at, line_verdict}
use Rattle.schedule_rules.specs.Telling.{Telling, lines_told, lines_judged}
use Rattle.schedule_rules.proofs.Judging.{judge_on, judge_line}

-- a line that is not refused
pub record Took (t : Telling) (c : FabricConfig) (h : History) (n : ℕ) (line : List ℕ) (a : World) (knows : Known) (old new : List ℕ) : Type 0 where
  pub history : History
  pub at : At a knows c history
  pub more : List ℕ
  pub text : new ≡ old ++ more
  pub lines : lines_told t c history ≡ lines_told t c h ++ more
  pub judged : (ls : List (List ℕ)) → judge_from c history (n + 1) ls ≡ judge_from c h n (line ∷ ls)

not_none : (refusal : Refusal) → None ≡ Some refusal → ⊥
not_none refusal e = cc

took_by : (t : Telling) (c : FabricConfig) (h : History) (n : ℕ) (line : List ℕ) (a : World) (knows : Known) (old new : List ℕ) (v : LineVerdict) → Follows t c h n v None a knows old new → ((ls : List (List ℕ)) → judge_from c h n (line ∷ ls) ≡ judge_on c h n ls v) → Took t c h n line a knows old new
took_by t c h n line a knows old new Ignored f j = record { history = h; at = f.1; more = []; text = f.2 ∙ sym (append-nil old); lines = sym (append-nil (lines_told t c h)); judged = λ ls. sym (j ls) }
took_by t c h n line a knows old new (Accepted e) f j = record { history = (n, e) ∷ h; at = f.1; more = t.told c ((n, e) ∷ h); text = f.2; lines = refl; judged = λ ls. sym (j ls) }
took_by t c h n line a knows old new (Refused refusal) f j = absurd (not_none refusal f.0)

pub took : (t : Telling) (c : FabricConfig) (h : History) (n : ℕ) (line : List ℕ) (a : World) (knows : Known) (old new : List ℕ) → Follows t c h n (line_verdict c (ruled c h) (length h) n line) None a knows old new → Took t c h n line a knows old new
took t c h n line a knows old new follows = took_by t c h n line a knows old new (line_verdict c (ruled c h) (length h) n line) follows (judge_line c h n line)

-- a line that is refused
pub refused : (t : Telling) (c : FabricConfig) (h : History) (n : ℕ) (line : List ℕ) (refusal : Refusal) (a : World) (knows : Known) (old new : List ℕ) → Follows t c h n (line_verdict c (ruled c h) (length h) n line) (Some refusal) a knows old new → (new ≡ old) × ((ls : List (List ℕ)) → judge_from c h n (line ∷ ls) ≡ judged_at c h (Some refusal))
refused t c h n line refusal a knows old new follows = by_verdict (line_verdict c (ruled c h) (length h) n line) follows (judge_line c h n line)
  where
    by_verdict : (v : LineVerdict) → Follows t c h n v (Some refusal) a knows old new → ((ls : List (List ℕ)) → judge_from c h n (line ∷ ls) ≡ judge_on c h n ls v) → (new ≡ old) × ((ls : List (List ℕ)) → judge_from c h n (line ∷ ls) ≡ judged_at c h (Some refusal))
    by_verdict Ignored f j = let z : Some refusal ≡ None = f.0 in cc
    by_verdict (Accepted e) f j = let z : Some refusal ≡ None = f.0 in cc
    by_verdict (Refused other) f j = let same : other ≡ refusal = cc in (f.2, λ ls. j ls ∙ ap (λ r. judged_at c h (Some r)) same)

long_line : (c : FabricConfig) (w : RuledWorld fabric) (events n : ℕ) (line : List ℕ) → most_line < length line → line_verdict c w events n line ≡ Refused (TooLarge n)
unfolding line_verdict
long_line c w events n line long =
    let t : nat_lt most_line (length line) ≡ true = grind (arith, nat_tests) in
    rw t refl

-- a line that is too long is refused
pub long_refused : (c : FabricConfig) (h : History) (n : ℕ) (bytes : List ℕ) → BeginsLonger 4096 bytes → judge_from c h n (lines_of bytes) ≡ judged_at c h (Some (TooLarge n))
long_refused c h n bytes begins =
    ap (judge_from c h n) begins.cut
    ∙ (judge_line c h n begins.line begins.others
    ∙ ap (judge_on c h n begins.others) (long_line c (ruled c h) (length h) n begins.line begins.longer))

-- what is told of a history is a front of what is told of all that is accepted
reach_on : (t : Telling) (c : FabricConfig) (h : History) (n : ℕ) (ls : List (List ℕ)) (v : LineVerdict) → ((k : History) → (more : List ℕ) × (lines_told t c k ++ more ≡ lines_judged t (judge_from c k (n + 1) ls).config (judge_from c k (n + 1) ls).history)) → (more : List ℕ) × (lines_told t c h ++ more ≡ lines_judged t (judge_on c h n ls v).config (judge_on c h n ls v).history)
reach_on t c h n ls Ignored rest = rest h
reach_on t c h n ls (Accepted e) rest =
    let on = rest ((n, e) ∷ h) in
    (t.told c ((n, e) ∷ h) ++ on.0, sym (append_assoc (lines_told t c h) (t.told c ((n, e) ∷ h)) on.0) ∙ on.1)
reach_on t c h n ls (Refused refusal) rest = ([], append-nil (lines_told t c h))

pub reaches : (t : Telling) (c : FabricConfig) (h : History) (n : ℕ) (ls : List (List ℕ)) → (more : List ℕ) × (lines_told t c h ++ more ≡ lines_judged t (judge_from c h n ls).config (judge_from c h n ls).history)
reaches t c h n [] = ([], append-nil (lines_told t c h))
reaches t c h n (l ∷ ls) =
    let on = reach_on t c h n ls (line_verdict c (ruled c h) (length h) n l) (λ k. reaches t c k (n + 1) ls) in
    (on.0, on.1 ∙ ap (λ j. lines_judged t j.config j.history) (sym (judge_line c h n l ls)))

pub none_right : (xs ys : List ℕ) → xs ++ ys ≡ [] → ys ≡ []
none_right [] ys e = e
none_right (x ∷ xs) ys e = cc
