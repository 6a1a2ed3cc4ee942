-- What an accepted line tells of its event, and that what is accepted of a schedule is a valid history of a sound configuration.
use Rattle.std.proofs.Common.{◌≡◌, ℕ, ◌+◌, ◌≤◌, Bool, true, false, List, [], ◌∷◌, length, Option, Some, None, Result, Ok, Err, arith, refl, sym, subst, ◌∙◌, nat_lt, ◌||◌}
use Rattle.std.proofs.lemmas.Bool.{ltb-false, or_parts}
use Rattle.std.proofs.lemmas.List.Elements.{All-cons}
use Rattle.fabric_config.specs.Config.{config_of_line}
use Rattle.fabric_config.specs.declared.error.ConfigError.{ConfigError}
use Rattle.fabric_config.proofs.Soundness.{line_sound}
use Rattle.fabric_terms.specs.declared.config.FabricConfig.{FabricConfig}
use Rattle.fabric_terms.specs.declared.event.Event.{Event}
use Rattle.fabric_terms.specs.Sound.{IsSound}
use Rattle.frame_format.specs.Kinds.{is_frame}
use Rattle.unit_rules.specs.Ruled.{ruled}
use Rattle.world_rules.specs.EventLimits.{has_room}
use Rattle.fabric_terms.specs.Ranges.{Fits}
use Rattle.line_format.specs.Lines.{event_of, lines_of}
use Rattle.line_format.proofs.LineLaws.{read_is_spelled}
use Rattle.unit_rules.specs.Fabric.{fabric}
use Rattle.world_rules.specs.Runs.{History}
use Rattle.world_rules.specs.Schedules.{MayCome, is_there, keeps_bound}
use Rattle.world_rules.specs.Worlds.{World}
use Rattle.schedule_rules.specs.Laws.{IsValidHistory, AcceptedIsValid}
use Rattle.source_lines.specs.Lines.{is_ignored, most_line, most_lines, most_first_line}
use Rattle.schedule_rules.specs.Schedule.{LineVerdict, Ignored, Accepted, Refused, Judged, unless_room, unless_within, unless_there, run_verdict, event_verdict, unless_ignored, unless_large, line_verdict, judge_from, judge_rest, judge_first, judge_lines, judge}
use Rattle.schedule_rules.proofs.Judging.{judge_on, judge_line}

room_accepted : (n : ℕ) (e d : Event) (room : Bool) → unless_room n e room ≡ Accepted d → (e ≡ d) × (room ≡ true)
room_accepted n e d true q = (cc, refl)
room_accepted n e d false q = cc

within_accepted : (n : ℕ) (e d : Event) (within room : Bool) → unless_within n e within room ≡ Accepted d → (e ≡ d) × (within ≡ true) × (room ≡ true)
within_accepted n e d true room q = let r = room_accepted n e d room q in (r.0, refl, r.1)
within_accepted n e d false room q = cc

there_accepted : (n : ℕ) (e d : Event) (there within room : Bool) → unless_there n e there within room ≡ Accepted d → (e ≡ d) × (there ≡ true) × (within ≡ true) × (room ≡ true)
there_accepted n e d true within room q = let w = within_accepted n e d within room q in (w.0, refl, w.1, w.2)
there_accepted n e d false within room q = cc

-- the event is in the ranges of schedules, and may come next, and there is room for it after so many events
pub record Comes (c : FabricConfig) (w : World fabric) (events : ℕ) (e : Event) : Type 0 where
  pub fits : Fits e
  pub may_come : MayCome is_frame c w e
  pub room : has_room w events e ≡ true

run_accepted : (c : FabricConfig) (w : World fabric) (events n : ℕ) (e d : Event) → Fits e → run_verdict c w events n e ≡ Accepted d → Comes c w events d
run_accepted c w events n e d fits q =
    let t = there_accepted n e d (is_there is_frame c w e) (keeps_bound c w e) (has_room w events e) q in
    subst (λ k. Comes c w events k) t.0 (record { fits = fits; may_come = record { there = t.1; bound = t.2 }; room = t.3 })

event_accepted : (c : FabricConfig) (w : World fabric) (events n : ℕ) (line : List ℕ) (read : Option Event) (d : Event) → event_of line ≡ read → event_verdict c w events n read ≡ Accepted d → Comes c w events d
event_accepted c w events n line None d is q = cc
event_accepted c w events n line (Some e) d is q = run_accepted c w events n e d (read_is_spelled line e is).0 q

ignored_accepted : (c : FabricConfig) (w : World fabric) (events n : ℕ) (line : List ℕ) (d : Event) (ignored : Bool) → unless_ignored c w events n line ignored ≡ Accepted d → Comes c w events d
ignored_accepted c w events n line d true q = cc
ignored_accepted c w events n line d false q = event_accepted c w events n line (event_of line) d refl q

large_accepted : (c : FabricConfig) (w : World fabric) (events n : ℕ) (line : List ℕ) (d : Event) (large : Bool) → unless_large c w events n line large ≡ Accepted d → (large ≡ false) × Comes c w events d
large_accepted c w events n line d true q = cc
large_accepted c w events n line d false q = (refl, ignored_accepted c w events n line d (is_ignored line) q)

line_accepted : (c : FabricConfig) (w : World fabric) (events n : ℕ) (line : List ℕ) (d : Event) → line_verdict c w events n line ≡ Accepted d → (n ≤ most_lines) × Comes c w events d
unfolding line_verdict
line_accepted c w events n line d q =
    let taken = large_accepted c w events n line d (nat_lt most_line (length line) || nat_lt most_lines n) q in
    (ltb-false most_lines n (or_parts (nat_lt most_line (length line)) (nat_lt most_lines n) taken.0).1, taken.1)

-- What is so before the first event, and stays so with each line that is passed and each event that comes, is so of all that
-- is accepted. Before says it of the history that is accepted before a line, and Whole of one without its line.
module _ (Before : FabricConfig → ℕ → History → Type 0) (Whole : FabricConfig → History → Type 0)
    (first : (c : FabricConfig) → IsSound c → Before c 2 [])
    (passed : (c : FabricConfig) (n : ℕ) (h : History) → Before c n h → Before c (n + 1) h)
    (taken : (c : FabricConfig) (n : ℕ) (h : History) (e : Event) → Before c n h → n ≤ most_lines → Comes c (ruled c h) (length h) e → Before c (n + 1) ((n, e) ∷ h))
    (whole : (c : FabricConfig) (n : ℕ) (h : History) → Before c n h → Whole c h) where
  -- the configuration is this one, and it is so of the history
  abbrev IsSo : FabricConfig → Judged → Type 0
  IsSo c j = (j.config ≡ Some c) × Whole c j.history

  so_on : (c : FabricConfig) (h : History) (n : ℕ) (l : List ℕ) (ls : List (List ℕ)) (v : LineVerdict) → Before c n h → ((k : History) → Before c (n + 1) k → IsSo c (judge_from c k (n + 1) ls)) → line_verdict c (ruled c h) (length h) n l ≡ v → IsSo c (judge_on c h n ls v)
  so_on c h n l ls Ignored before rest is = rest h (passed c n h before)
  so_on c h n l ls (Accepted e) before rest is =
      let line = line_accepted c (ruled c h) (length h) n l e is in
      rest ((n, e) ∷ h) (taken c n h e before line.0 line.1)
  so_on c h n l ls (Refused refusal) before rest is = (refl, whole c n h before)

  so_from : (c : FabricConfig) (h : History) (n : ℕ) (ls : List (List ℕ)) → Before c n h → IsSo c (judge_from c h n ls)
  so_from c h n [] before = (refl, whole c n h before)
  so_from c h n (l ∷ ls) before =
      subst (λ j. IsSo c j) (sym (judge_line c h n l ls))
      (so_on c h n l ls (line_verdict c (ruled c h) (length h) n l) before (λ k more. so_from c k (n + 1) ls more) refl)

  -- what is said of a judged schedule
  abbrev IsAll : Judged → Type 0
  IsAll j = (c : FabricConfig) → j.config ≡ Some c → Whole c j.history

  so_all : (c : FabricConfig) (j : Judged) → IsSo c j → IsAll j
  so_all c j so d is =
      let same : c ≡ d = let e : Some c ≡ Some d = sym so.0 ∙ is in cc in
      subst (λ k. Whole k j.history) same so.1

  all_rest : (l : List ℕ) (ls : List (List ℕ)) (read : Result FabricConfig ConfigError) → config_of_line l ≡ read → IsAll (judge_rest ls read)
  all_rest l ls (Ok c) is = so_all c (judge_from c [] 2 ls) (so_from c [] 2 ls (first c (line_sound l c is)))
  all_rest l ls (Err e) is = λ c f. cc

  all_first : (l : List ℕ) (ls : List (List ℕ)) (large : Bool) → IsAll (judge_first l ls large)
  all_first l ls true = λ c f. cc
  all_first l ls false = all_rest l ls (config_of_line l) refl

  all_lines : (ls : List (List ℕ)) → IsAll (judge_lines ls)
  all_lines [] = λ c f. cc
  all_lines (l ∷ ls) = all_first l ls (nat_lt most_first_line (length l))

  pub all_accepted : (bytes : List ℕ) (c : FabricConfig) → (judge bytes).config ≡ Some c → Whole c (judge bytes).history
  unfolding judge
  all_accepted bytes = all_lines (lines_of bytes)

valid_first : (c : FabricConfig) → IsSound c → IsValidHistory c []
valid_first c sound = record { sound = sound; fits = λ k d lt. absurd (omega arith); valid = tt }

valid_taken : (c : FabricConfig) (n : ℕ) (h : History) (e : Event) → IsValidHistory c h → n ≤ most_lines → Comes c (ruled c h) (length h) e → IsValidHistory c ((n, e) ∷ h)
valid_taken c n h e before line comes = record {
  sound = before.sound;
  fits = All-cons (λ x. Fits x.1) (n, e) h comes.fits before.fits;
  valid = (before.valid, comes.may_come);
}

pub accepted_valid : AcceptedIsValid
accepted_valid = all_accepted (λ c n h. IsValidHistory c h) IsValidHistory valid_first (λ c n h before. before) valid_taken (λ c n h before. before)
