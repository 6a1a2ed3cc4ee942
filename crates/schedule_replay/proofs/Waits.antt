-- What waits where memory is short: it follows what is written, and both are a front of the lines of what is accepted.
use Rattle.std.proofs.Common.{◌≡◌, ℕ, true, false, Bool, List, [], ◌∷◌, ◌++◌, length, take, drop, Option, Some, Result, Ok, Err, nat_lt, ap, sym, subst, ◌∙◌, append_assoc, ⊎_elim}
use Rattle.std.proofs.lemmas.List.{append-nil, take-append-drop}
use Rattle.std.proofs.Math.Seq.{take-append_seam}
use Rattle.edge_io.specs.Edge.{GrewByFront}
use Rattle.fabric_config.specs.Config.{config_of_line}
use Rattle.fabric_config.specs.declared.error.ConfigError.{ConfigError}
use Rattle.fabric_terms.specs.declared.config.FabricConfig.{FabricConfig}
use Rattle.fabric_status.specs.declared.status.Status.{Status}
use Rattle.fabric_status.specs.declared.status.Status.TheVariants as status
use Rattle.fabric_status.specs.Writes.{Wrote as Written}
use Rattle.line_format.specs.Lines.{lines_of}
use Rattle.ring_world.specs.declared.world.World.{World}
use Rattle.source_lines.specs.Lines.{most_first_line}
use Rattle.schedule_rules.specs.Endings.{EndsSo, accepted}
use Rattle.schedule_replay.specs.Follows.{Known}
use Rattle.schedule_rules.specs.Schedule.{Judged, judge, judge_lines, judge_first, judge_rest}
use Rattle.schedule_rules.specs.Telling.{Telling, IsTold, lines_told, lines_judged}
use Rattle.schedule_replay.proofs.Along.{Along, all_of}
use Rattle.schedule_rules.proofs.Fronts.{grew_none, front_of, front_behind}
use Rattle.schedule_replay.proofs.Lines.{reaches}
use Rattle.schedule_replay.specs.Waits.{FrontOf}

-- between two lines
pub waits_along : (t : Telling) (c : FabricConfig) (a : World) (knows : Known) (n : ℕ) (first : List ℕ) (before : Option (List ℕ)) (waits : List ℕ) (after old new : Option (List ℕ)) (text : List ℕ) → Along t c a knows n first before waits after old new text → (bytes : List ℕ) → before ≡ Some bytes → FrontOf t (all_of c (first ++ bytes)) old new text
waits_along t c a knows n first before waits after old new text along bytes e =
    let led = along.leads bytes e in
    let on = reaches t c along.history n (lines_of (waits ++ led.0)) in
    let told = lines_told t c along.history in (
      length told,
      (
        along.wrote.0,
        along.wrote.1,
        along.wrote.2
            ∙ (sym (take-append_seam told on.0) ∙ ap (take (length told)) (on.1 ∙ ap (λ j. lines_judged t j.config j.history) led.2)),
      ),
    )

-- behind a front nothing waits
pub none_waits : (t : Telling) (j : Judged) (old new : Option (List ℕ)) (text : List ℕ) → text ≡ [] → GrewByFront old new (lines_judged t j.config j.history) → FrontOf t j old new text
none_waits t j old new text none grew =
    let sent = take grew.0 (lines_judged t j.config j.history) in
    (grew.0, (sent, grew.1, ap (λ w. sent ++ w) none ∙ append-nil sent))

-- The heading is a front of all that is told.
module _ (t : Telling) where
  abbrev Headed : Judged → Type 0
  Headed j = (more : List ℕ) × (t.heading ++ more ≡ lines_judged t j.config j.history)

  headed_rest : (ls : List (List ℕ)) (read : Result FabricConfig ConfigError) → Headed (judge_rest ls read)
  headed_rest ls (Ok c) = reaches t c [] 2 ls
  headed_rest ls (Err e) = ([], append-nil t.heading)

  headed_first : (l : List ℕ) (ls : List (List ℕ)) (long : Bool) → Headed (judge_first l ls long)
  headed_first l ls true = ([], append-nil t.heading)
  headed_first l ls false = headed_rest ls (config_of_line l)

  headed_lines : (ls : List (List ℕ)) → Headed (judge_lines ls)
  headed_lines [] = ([], append-nil t.heading)
  headed_lines (l ∷ ls) = headed_first l ls (nat_lt most_first_line (length l))

  headed : (bytes : List ℕ) → Headed (judge bytes)
  unfolding judge
  headed bytes = headed_lines (lines_of bytes)

-- before line 2 the heading waits
pub heading_waits : (t : Telling) (bytes : List ℕ) (held : Option (List ℕ)) (text : List ℕ) → text ≡ t.heading → FrontOf t (judge bytes) held held text
heading_waits t bytes held text is =
    let on = headed t bytes in
    (length t.heading, ([], grew_none held, is ∙ (sym (take-append_seam t.heading on.0) ∙ ap (take (length t.heading)) on.1)))

-- what waits is written last
pub ends_short : (t : Telling) (j : Judged) (left : Option (List ℕ)) (failed : Type 0) (old mid new : Option (List ℕ)) (text : List ℕ) (ended : Status) (before now : ℕ) → FrontOf t j old mid text → Written status.OutOfMemory text ended mid new before now → EndsSo (IsTold t) (lines_judged t) ended j left failed old new
ends_short t j left failed old mid new text ended before now waits written =
    let lines = lines_judged t j.config j.history in
    let goes : waits.1.0 ++ (text ++ drop waits.0 lines) ≡ lines =
    sym (append_assoc waits.1.0 text (drop waits.0 lines)) ∙ (ap (λ w. w ++ drop waits.0 lines) waits.1.2 ∙ take-append-drop waits.0 lines) in
    let front : GrewByFront mid new text → GrewByFront old new lines = front_behind old mid new waits.1.0 text (drop waits.0 lines) lines goes waits.1.1 in
    ⊎_elim
    (λ all. subst (λ s. EndsSo (IsTold t) (lines_judged t) s j left failed old new) (sym all.0) (accepted (front (front_of mid new text [] text (append-nil text) all.1))))
    (λ short. ⊎_elim
    (λ memory. subst (λ s. EndsSo (IsTold t) (lines_judged t) s j left failed old new) (sym memory.0) (accepted (front memory.1)))
    (λ sink. subst (λ s. EndsSo (IsTold t) (lines_judged t) s j left failed old new) (sym sink.0) (accepted (front sink.1)))
    short)
    written
