-- Who counts the span by a clock within the bound acts before what was promised.
use Rattle.std.specs.Prelude.{drop}
use Rattle.std.proofs.Common.{ℕ, ◌+◌, ◌<◌, ◌≤◌, Bool, List, Option, sym, subst, arith}
use Rattle.cold_start.proofs.OneLife.{run_one, valid_one}
use Rattle.cold_start.specs.Lives.{Lives, ValidLives, lives_run, lives_world, one_life}
use Rattle.drift_clock.specs.Within.{Pair, Within}
use Rattle.fabric_terms.specs.declared.config.FabricConfig.{FabricConfig}
use Rattle.fabric_terms.specs.Runs.{IsBelow}
use Rattle.fabric_terms.specs.Sound.{IsSound}
use Rattle.hold_span.proofs.Spans.{spans_end}
use Rattle.hold_span.specs.Span.{span}
use Rattle.ring_points.specs.declared.who.Who.{Who}
use Rattle.world_rules.specs.Above.{StaysAbove}
use Rattle.world_rules.specs.Uppers.{Upper}
use Rattle.span_safety.specs.Held.{Owns, promised, time_of}
use Rattle.span_safety.specs.Laws.{HeldWhileCounted, LiveWhileCounted, LivesHoldWhileCounted, LivesStayWhileCounted, RunsHoldWhileCounted, RunsStayWhileCounted}
use Rattle.span_safety.specs.Lengths.{OneLength}
use Rattle.span_safety.specs.Ends.{SparedWhileCounted}
use Rattle.span_safety.proofs.Held.{alone, clock_kept, not_fallen, stays_live}
use Rattle.span_safety.proofs.Standing.{Stands, running, standing}
use Rattle.span_safety.proofs.Ending.{g, goes, not_left, spared, time_there}

module _ (a : Upper) (stays : StaysAbove a) where
  -- the clock has not reached it
  module _ (is_frame : List ℕ → Bool) (c : FabricConfig) (l : Lives) (sound : IsSound c) (valid : ValidLives a is_frame c l) (ago : ℕ) (x : Who) (p before now : ℕ)
      (fence later : Option ℕ) (asked acting : Pair) (one : OneLength a c x.actor l) (then : Owns (drop ago (lives_run a c l)) x p before fence)
      (k : Stands c (lives_world a c l) x now later) (parent : Within c.bound asked acting) (asks : asked.0 ≤ time_of (drop ago (lives_run a c l)))
      (acts : time_of (lives_run a c l) ≤ acting.0) (counts : acting.1 < asked.1 + span c.bound (promised c before fence) before) where
    under : IsBelow now later
    under =
        not_fallen a stays is_frame c sound l valid ago x p before now fence later one then k
        (spans_end c.bound (promised c before fence) asked acting (time_of (drop ago (lives_run a c l)), before) (time_of (lives_run a c l), now)
        (let d = sound.drift.to_high in omega arith) parent counts
        (clock_kept a stays is_frame c sound l valid ago x p before now fence later one then k) asks acts)

  pub lives_hold_counted : LivesHoldWhileCounted a
  lives_hold_counted is_frame c l sound valid ago x p before now fence later asked acting one then o parent asks acts counts =
      alone a stays is_frame c sound l valid x p now later o
      (under is_frame c l sound valid ago x p before now fence later asked acting one then (standing a stays is_frame c sound l valid x p now later o) parent asks acts counts)

  pub lives_stay_counted : LivesStayWhileCounted a
  lives_stay_counted is_frame c l sound valid ago x p before now fence asked acting one then runs left parent asks acts counts =
      let k = running a stays c l x now runs left in
      stays_live a stays is_frame c sound l valid x now k.0 k.1 runs left
      (under is_frame c l sound valid ago x p before now fence k.0 asked acting one then k.1 parent asks acts counts)

  -- of one life

  pub runs_hold_counted : RunsHoldWhileCounted a
  runs_hold_counted is_frame c h sound valid =
      subst (λ r. HeldWhileCounted c r (λ x. OneLength a c x.actor (one_life h))) (run_one a c h)
      (lives_hold_counted is_frame c (one_life h) sound (valid_one a c is_frame h valid))

  pub runs_stay_counted : RunsStayWhileCounted a
  runs_stay_counted is_frame c h sound valid =
      subst (λ r. LiveWhileCounted c r (λ x. OneLength a c x.actor (one_life h))) (run_one a c h)
      (lives_stay_counted is_frame c (one_life h) sound (valid_one a c is_frame h valid))

  -- the instance goes on in another run, and is live there

  pub spared_counted : SparedWhileCounted a
  spared_counted is_frame c later earlier end x sound valid ends none even ago p before now fence asked acting then runs stood parent asks acts counts =
      let that = g a stays is_frame c sound later earlier end x now valid ends none even runs stood in
      let moment = that.before ago in
      spared a stays is_frame c sound later earlier end x now valid ends none even runs stood
      (runs_stay_counted is_frame c that.history sound that.valid moment.0 x p before that.beside.ghost.reading fence asked acting that.one
      (subst (λ r. Owns r x p before fence) (sym moment.1) then)
      (goes a stays is_frame c sound later earlier end x now valid ends none even runs stood)
      (not_left a stays is_frame c sound later earlier end x now valid ends none even runs stood) parent
      (subst (λ r. asked.0 ≤ time_of r) (sym moment.1) asks)
      (subst (λ n. n ≤ acting.0) (sym (time_there a stays is_frame c sound later earlier end x now valid ends none even runs stood)) acts) counts)
