-- After every valid row of lives a world of the machine follows the real one.
use Rattle.std.proofs.Common.{◌≡◌, ℕ, Bool, true, List, [], ◌∷◌, Option, Some, None, refl, sym, ap, ◌∙◌, subst}
use Rattle.std.proofs.lemmas.Bool.{cond_both}
use Rattle.fabric_terms.specs.declared.config.FabricConfig.{FabricConfig}
use Rattle.fabric_terms.specs.declared.event.Event.{Event}
use Rattle.fabric_terms.specs.declared.event.Event.TheVariants.{Start}
use Rattle.fabric_terms.specs.Reports.{told, told_in}
use Rattle.fabric_terms.specs.Runs.{Entry}
use Rattle.fabric_terms.specs.declared.report.Report.TheVariants.{Stopped}
use Rattle.fabric_terms.specs.Places.{With}
use Rattle.ring_points.specs.declared.who.Who.{Who}
use Rattle.ring_machine.specs.Points.{is_point}
use Rattle.ring_machine.specs.World as machine
use Rattle.ring_machine.specs.World.{Unborn, Running}
use Rattle.ring_machine.specs.Events as events
use Rattle.ring_machine.specs.Events.{come_back}
use Rattle.ring_machine.proofs.Histories.{EventDone, empty_sound, event_done}
use Rattle.ring_refinement.specs.Images.{machine_of}
use Rattle.ring_refinement.specs.Moves.{place_of}
use Rattle.world_rules.specs.Events.{arbiter_number}
use Rattle.world_rules.specs.Arbiters.{arbiter_begun}
use Rattle.fabric_lemmas.specs.Maps.{at, put, without}
use Rattle.world_rules.specs.Schedules.{is_there, keeps_bound, MayCome}
use Rattle.world_rules.specs.Uppers.{Upper}
use Rattle.world_rules.specs.Worlds as real
use Rattle.world_rules.specs.Worlds.{World, Stepped, arbiter_who, empty_world, kept_of, node_acted}
use Rattle.world_rules.proofs.Rows.{is_there-start, is_there-tick, keeps_bound-tick}
use Rattle.world_rules.specs.Above.{StaysAbove}
use Rattle.cold_start.specs.Lives.{Comes, Again, Lives, MayBeAgain, ValidLives, life_step, lives_run, lives_world, this_life, whole_after}
use Rattle.world_rules.specs.Starts.{first_whole, node_begun_in}
use Rattle.cold_start.proofs.Facts.{orderly_lives, tabled_lives}
use Rattle.cold_start.proofs.Steps.{IsStart, life_cases}
use Rattle.ring_safety.proofs.ActFollows.{Followed, Numbered, acts_follow}
use Rattle.ring_safety.proofs.BeginFollows.{begins_follow, nobody_runs}
use Rattle.ring_safety.proofs.Follows.{Follows}
use Rattle.run_facts.proofs.Happens.{Cases}
use Rattle.ring_safety.proofs.RuleFollows.{rules_follow}
use Rattle.ring_safety.proofs.StopFollows.{arbiters_follow, silent_follows, stops_follow}
use Rattle.run_facts.proofs.Tables.{Tabled}
use Rattle.ring_safety.proofs.Tales.{Tale, tale_in, tale_of}
use Rattle.ring_safety.proofs.TickFollows.{ticks_follow}

module _ (a : Upper) (stays : StaysAbove a) (is_frame : List ℕ → Bool) (c : FabricConfig) (sound : events.IsSound (machine_of c)) where
  abbrev After : Tale → Stepped a → Type 0
  After t st = Followed c st.world (tale_in st.entry t)

  module _ (w : World a) (t : Tale) (m : machine.World) (n : Numbered w) (tables : Tabled w) (f : Follows c w t m) (e : Event) (may : MayCome is_frame c w e) where
    begins : (node reading : ℕ) → e ≡ Start node (Some reading) →
        After t (node_acted a w node reading ((w.time, reading) ∷ []) (node_begun_in a t.whole c node (kept_of w node)))
    begins node reading h =
        begins_follow a c w t m n f node reading
        (nobody_runs c w node reading (sym (is_there-start is_frame c w node (Some reading)) ∙ subst (λ e. is_there is_frame c w e ≡ true) h may.there)) sound

    others : (IsStart e → ⊥) → Cases a c w e (After t)
    others not_start = record {
      still = record { world = m; follows = f };
      begins = λ node reading h. absurd (not_start (node, reading, h));
      stops = λ node s there. stops_follow c w t m n f node s there sound;
      ticks = λ advance readings h.
          ticks_follow a c w t m n f advance readings
          (sym (is_there-tick is_frame c w advance readings) ∙ subst (λ e. is_there is_frame c w e ≡ true) h may.there)
          (sym (keeps_bound-tick c w advance readings) ∙ subst (λ e. keeps_bound c w e ≡ true) h may.bound) sound;
      acts = λ node i s there came. acts_follow a c w t m n f stays sound node i s there came;
      table_begins = λ actor h. record {
        world = m;
        follows = arbiters_follow c w t m (put (arbiter_number actor) (arbiter_begun a c (arbiter_number actor) (kept_of w actor)) w.arbiters) f;
      };
      table_stops = λ arbiter s there. record {
        world = m;
        follows = silent_follows c (record w { arbiters = without arbiter w.arbiters }) t m (arbiter_who arbiter) (Stopped ∷ []) refl
            (arbiters_follow c w t m (without arbiter w.arbiters) f);
      };
      rules = λ arbiter g s there came to. rules_follow a c w t m f arbiter g s came (tables arbiter s there) stays sound;
    }

    event_follows : After t (life_step a t.whole c w e)
    event_follows = life_cases a t.whole c w (After t) e others begins

  -- a new life: nobody runs, so nobody is live
  again_follows : (w : World a) (t : Tale) (m : machine.World) → Follows c w t m → (whole : Who) → MayBeAgain w whole →
      Followed c w (record { whole = whole; life = []; all = t.all })
  again_follows w t m f whole may = record {
    world = back;
    follows = record {
      inv = done.inv;
      time = f.time;
      starts = f.starts;
      whole = refl;
      shows = λ node s there. absurd (nobody node s there);
      clock = λ node s there. absurd (nobody node s there);
      runs = λ x h. let r = f.runs x h in absurd (nobody x.actor r.state r.here);
      tables = f.tables;
      frames = f.frames;
      placed = λ p.
          cond_both (is_point p) (machine.At whole) machine.Outside (λ o. With whole ≡ place_of whole o) (λ h. refl) (λ h. refl);
      moved = tt;
      new = tt;
      below = λ x number h. absurd (cc (h));
      over = λ v h. done.later.dies v (f.over v h);
    };
  }
    where
      nobody : (node : ℕ) (s : real.Running a) → at node w.nodes ≡ Some s → ⊥
      nobody node s there = let none = ap (λ (es : List (ℕ × real.Running a)). at node es) may.over in cc (there, none)

      back : machine.World
      back = come_back m whole

      done : EventDone (machine_of c) m (come_back m whole)
      done = event_done sound f.inv (events.Again whole) (λ y live. let r = f.runs y live.running in nobody y.actor r.state r.here)

  at_first : Follows c (empty_world a) (tale_of a c []) (machine.empty_world (machine_of c))
  at_first = record {
    inv = empty_sound (machine_of c);
    time = refl;
    starts = λ node. refl;
    whole = refl;
    shows = λ node s there. absurd (cc (there));
    clock = λ node s there. absurd (cc (there));
    runs = λ x h. absurd (cc (h));
    tables = record { accusers = λ arbiter victim. refl; claimers = λ arbiter victim round later. refl };
    frames = λ g k. absurd k;
    placed = λ p.
        cond_both (is_point p) (machine.At (first_whole c)) machine.Outside (λ o. With (first_whole c) ≡ place_of (first_whole c) o)
        (λ h. refl) (λ h. refl);
    moved = tt;
    new = tt;
    below = λ x number h. absurd (cc (h));
    over = λ v h. absurd (cc (h));
  }

  numbered : (l : Lives) → Numbered (lives_world a c l)
  numbered l = let o = orderly_lives a stays c l in record { name = o.name; counted = o.counted }

  pub followed : (l : Lives) → ValidLives a is_frame c l → Followed c (lives_world a c l) (tale_of a c l)
  followed [] valid = record { world = machine.empty_world (machine_of c); follows = at_first }
  followed ((line, Comes e) ∷ l) valid =
      let before = followed l valid.0 in
      let now = event_follows (lives_world a c l) (tale_of a c l) before.world (numbered l) (tabled_lives a stays c is_frame l valid.0) before.follows e valid.1 in
      as_told (life_step a (whole_after c l) c (lives_world a c l) e).entry now
    where
      as_told : (o : Option Entry) → Followed c (life_step a (whole_after c l) c (lives_world a c l) e).world (tale_in o (tale_of a c l)) →
          Followed c (life_step a (whole_after c l) c (lives_world a c l) e).world
          (record { whole = whole_after c l; life = told_in o (told (this_life a c l)); all = told_in o (told (lives_run a c l)) })
      as_told None f = f
      as_told (Some z) f = f
  followed ((line, Again whole) ∷ l) valid =
      let before = followed l valid.0 in again_follows (lives_world a c l) (tale_of a c l) before.world before.follows whole valid.1
