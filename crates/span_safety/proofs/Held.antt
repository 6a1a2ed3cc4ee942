-- What an instance promised, it holds, and it alone.
use Rattle.std.specs.Prelude.{drop}
use Rattle.std.proofs.Common.{◌≡◌, ℕ, ◌<◌, Bool, true, false, List, [], ◌∷◌, Option, Some, None, refl, sym, ap, ◌∙◌, subst, arith}
use Rattle.cold_start.proofs.Facts.{orderly_lives}
use Rattle.cold_start.proofs.OneLife.{run_before, run_one, valid_one}
use Rattle.cold_start.specs.Lives.{Lives, ValidLives, lives_run, lives_world, one_life}
use Rattle.drift_clock.specs.Within.{Pair, Within}
use Rattle.fabric_terms.specs.declared.config.FabricConfig.{FabricConfig}
use Rattle.fabric_terms.specs.Places.{has_left}
use Rattle.fabric_terms.specs.Reports.{told}
use Rattle.fabric_terms.specs.Runs.{Holds, IsBelow, clocks_of, own_of, reading_of}
use Rattle.fabric_terms.specs.TakeOvers.{was_taken_over}
use Rattle.fabric_terms.specs.Sound.{IsSound}
use Rattle.ring_points.specs.declared.who.Who.{Who}
use Rattle.ring_rules.specs.Slots.{fence_of}
use Rattle.ring_safety.proofs.Followed.{followed}
use Rattle.ring_safety.proofs.Follows.{sound_machine}
use Rattle.ring_safety.proofs.Holders.{Seen, lives}
use Rattle.ring_safety.proofs.Safe.{ring_safe}
use Rattle.ring_safety.proofs.Tales.{tale_of}
use Rattle.run_facts.specs.Held.{owned_by}
use Rattle.world_rules.specs.Above.{StaysAbove}
use Rattle.world_rules.specs.Uppers.{Upper}
use Rattle.span_safety.specs.Fences.{NoSooner}
use Rattle.span_safety.specs.Held.{HoldsAlone, Owns, StaysLive, promised, time_of}
use Rattle.span_safety.specs.Laws.{HeldBeforePromised, LivesHoldBeforePromised, RunsHoldBeforePromised}
use Rattle.span_safety.specs.Lengths.{OneLength}
use Rattle.span_safety.proofs.Clocks.{timed}
use Rattle.span_safety.proofs.Lasting.{fence_lasts}
use Rattle.span_safety.proofs.Lasts.{Keeping, keeps_on}
use Rattle.span_safety.proofs.Standing.{Stands, standing}

-- a reading before a time is below a fence that is no sooner
below : (least reading : ℕ) (fence : Option ℕ) → NoSooner least fence → reading < least → IsBelow reading fence
below least reading None n lt = tt
below least reading (Some fence) n lt = omega arith

module _ (a : Upper) (stays : StaysAbove a) (is_frame : List ℕ → Bool) (c : FabricConfig) (sound : IsSound c) where
  time_is : (l : Lives) → time_of (lives_run a c l) ≡ (lives_world a c l).time
  time_is [] = refl
  time_is (e ∷ l) = refl

  -- an instance that owned the point some moments ago, and has not left
  module _ (l : Lives) (valid : ValidLives a is_frame c l) (ago : ℕ) (x : Who) (p before now : ℕ) (fence later : Option ℕ) (one : OneLength a c x.actor l)
      (then : Owns (drop ago (lives_run a c l)) x p before fence) (k : Stands c (lives_world a c l) x now later) where
    keeping : Keeping a stays is_frame c sound x p before fence (lives_world a c (drop ago l)).time k.state
    keeping =
        keeps_on a stays is_frame c sound x p before fence ago l valid one (subst (λ r. Owns r x p before fence) (run_before a c ago l) then)
        k.state k.here k.name k.stays

    -- its fence has not fallen below what it promised
    pub not_fallen : now < promised c before fence → IsBelow now later
    not_fallen lt =
        below (promised c before fence) now later
        (subst (NoSooner (promised c before fence)) k.fenced (fence_lasts c.lease c.answer (promised c before fence) k.state.node.ring.slots keeping.lasts)) lt

    -- its clock has kept the bound since
    pub clock_kept : Within c.bound (time_of (drop ago (lives_run a c l)), before) (time_of (lives_run a c l), now)
    clock_kept =
        subst (λ (z : Pair × Pair). Within c.bound z.0 z.1) (λ i. ((sym then_time i, before), (sym (time_is l) i, k.reads i)))
        ((timed a stays is_frame c sound l valid x.actor k.state k.here k.stays).within (lives_world a c (drop ago l)).time before keeping.read)
      where
        then_time : time_of (drop ago (lives_run a c l)) ≡ (lives_world a c (drop ago l)).time
        then_time = ap time_of (run_before a c ago l) ∙ time_is (drop ago l)

  -- who owns a point and is below its fence holds it alone
  pub alone : (l : Lives) → ValidLives a is_frame c l → (x : Who) (p now : ℕ) (later : Option ℕ) → Owns (lives_run a c l) x p now later → IsBelow now later →
      HoldsAlone (lives_run a c l) x p
  alone l valid x p now later o lt = record { holds = holds; alone = λ y k. (ring_safe a stays is_frame c sound l valid).one_holder 0 p y x k holds }
    where
      holds : Holds (lives_run a c l) x p
      holds = record { reading = now; owned = record { ranges = o.ranges; fence = later }; runs = o.runs; own = o.own; has = o.has; below = lt }

  -- who is below its fence was not taken over
  pub stays_live : (l : Lives) → ValidLives a is_frame c l → (x : Who) (now : ℕ) (later : Option ℕ) → Stands c (lives_world a c l) x now later →
      reading_of x (clocks_of (lives_run a c l)) ≡ Some now → has_left x (told (lives_run a c l)) ≡ false → IsBelow now later → StaysLive (lives_run a c l) x
  stays_live l valid x now later k runs left lt = record {
    owned = owned_by c k.state.node.ring;
    live = record { reading = now; runs = runs; own = own; stays = left; below = subst (IsBelow now) (sym k.fenced) lt };
    kept = by_test (was_taken_over x (told (lives_run a c l))) refl;
  }
    where
      own : own_of x (lives_run a c l) ≡ Some (owned_by c k.state.node.ring)
      own = subst (λ y. own_of y (lives_run a c l) ≡ Some (owned_by c k.state.node.ring)) k.name ((orderly_lives a stays c l).own x.actor k.state k.here)

      seen : Seen c (lives_world a c l) x (owned_by c k.state.node.ring)
      seen = record {
        number = x.actor;
        state = k.state;
        here = k.here;
        name = k.name;
        owned = refl;
        below = subst (λ n. IsBelow n (fence_of c.answer k.state.node.ring.slots)) (sym k.reads) (subst (IsBelow now) (sym k.fenced) lt);
      }

      by_test : (b : Bool) → was_taken_over x (told (lives_run a c l)) ≡ b → was_taken_over x (told (lives_run a c l)) ≡ false
      by_test false e = e
      by_test true e =
          let m = followed a stays is_frame c (sound_machine c sound) l valid in
          absurd ((m.follows.over x e).not_live (lives c (lives_world a c l) (tale_of a c l) m.world x (owned_by c k.state.node.ring) m.follows seen k.stays).live)

module _ (a : Upper) (stays : StaysAbove a) where
  pub lives_hold_promised : LivesHoldBeforePromised a
  lives_hold_promised is_frame c l sound valid ago x p before now fence later one then o lt =
      alone a stays is_frame c sound l valid x p now later o
      (not_fallen a stays is_frame c sound l valid ago x p before now fence later one then (standing a stays is_frame c sound l valid x p now later o) lt)

  -- of one life

  pub runs_hold_promised : RunsHoldBeforePromised a
  runs_hold_promised is_frame c h sound valid =
      subst (λ r. HeldBeforePromised c r (λ x. OneLength a c x.actor (one_life h))) (run_one a c h)
      (lives_hold_promised is_frame c (one_life h) sound (valid_one a c is_frame h valid))
