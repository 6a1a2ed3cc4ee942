-- A stop of an arbitrator: the world stands for the world after it.
use Rattle.std.proofs.Common.{◌≡◌, ℕ, ◌+◌, ◌<◌, false, [], ◌∷◌, Some, None, refl, sym, ap, subst, ◌∙◌, arith, length}
use Rattle.std.specs.Prelude.{slice_get, slice_set}
use Rattle.fabric_terms.specs.declared.report.Report.TheVariants.{Stopped}
use Rattle.point_places.specs.Spots.{place_at}
use Rattle.ring_points.specs.Whos.{arbiter_actor}
use Rattle.ring_points.specs.declared.who.Who.{Who}
use Rattle.world_rules.specs.Arbiters.{ArbiterState}
use Rattle.world_rules.specs.Events.{arbiter_stops}
use Rattle.unit_rules.specs.Fabric.{fabric}
use Rattle.world_rules.specs.Worlds.{World as RuledWorld, Stepped}
use Rattle.ring_world.specs.Answers.{entry_of}
use Rattle.ring_world.specs.Moves.{Moves}
use Rattle.world_rules.specs.EventLimits.{most_events}
use Rattle.ring_world.specs.ConfiguredArbiters.{IsSeat}
use Rattle.ring_world.specs.Seen.{Seen, seen_of}
use Rattle.ring_world.specs.Stands.{Stands, SeenStands}
use Rattle.ring_world.specs.declared.configured_arbiter.ConfiguredArbiter.{ConfiguredArbiter}
use Rattle.ring_world.specs.declared.world.Acted.{Acted}
use Rattle.ring_world.specs.declared.world.World.{World}
use Rattle.ring_world.proofs.KeptNodes.{kept_follows, same_run}
use Rattle.ring_world.proofs.SeatChanges.{arbiters_set, at_other_without, at_same_without}

module _ (a : World) (w : RuledWorld fabric) (place : ℕ) (q : ConfiguredArbiter) (t : ArbiterState fabric)
    (st : Stands a w) (here : slice_get (seen_of a).seats place ≡ Some q) (within : place < length (seen_of a).seats) (few : a.events < most_events) where
  abbrev pub stopped_seat : ConfiguredArbiter
  stopped_seat = record q { runs = false }

  abbrev pub seen_stopped : Seen
  seen_stopped = record (seen_of a) { events = a.events + 1; seats = slice_set (seen_of a).seats place stopped_seat }

  abbrev after : RuledWorld fabric
  after = (arbiter_stops fabric w (place + 1) (Some t)).world

  is_stopped : IsSeat after (a.events + 1) (place + 1) stopped_seat
  is_stopped =
      let old = st.arbiters.seats place q here in
      record { running = sym (at_same_without (place + 1) w.arbiters); kept = old.kept; few = omega (arith, old.few) }

  stands_stopped : SeenStands seen_stopped after
  stands_stopped = record {
    sound = st.sound;
    time = st.time;
    in_time = st.in_time;
    few_events = omega arith;
    nodes = record { rise = st.nodes.rise; running = st.nodes.running; clocks = st.nodes.clocks; few = omega (arith, st.nodes.few); kept = kept_follows (seen_of a).kept w after st.nodes.kept (same_run w.nodes) (λ node le. refl) };
    arbiters = arbiters_set (seen_of a) seen_stopped w after place stopped_seat st.arbiters within refl refl refl is_stopped (λ k other. at_other_without (place + 1) k w.arbiters other) (λ k other. refl);
    frames = record { frames = st.frames.frames; counted = st.frames.counted; sent = st.frames.sent; few = st.frames.few };
  }

  pub stop_arbiter_moves : (new : World) (x : Stepped fabric) (line : ℕ) (acted : Acted) (who : Who) → x ≡ arbiter_stops fabric w (place + 1) (Some t) → seen_of new ≡ seen_stopped → new.places ≡ a.places
      → who ≡ record { actor = arbiter_actor (place + 1); instance = 0 } → acted ≡ record { line = line; time = a.time; who = who; reading = None; sent = (0, 0); reports = Stopped ∷ [] }
      → Moves a new x line (Some acted)
  stop_arbiter_moves new x line acted who step seen places name is = subst (λ (y : Stepped fabric). Moves a new y line (Some acted)) (sym step) (record {
    config = ap (λ (x : Seen). x.config) seen;
    events = ap (λ (x : Seen). x.events) seen;
    state = subst (λ (x : Seen). SeenStands x after) (sym seen) stands_stopped;
    places = λ p lt. ap (λ x. place_at x p) places;
    entry = ap (λ (x : Acted). entry_of (Some x)) is ∙ ap (λ (k : Who). entry_of (Some (record { line = line; time = a.time; who = k; reading = None; sent = (0, 0); reports = Stopped ∷ [] }))) name;
    seen = (ap (λ (x : Acted). x.line) is, ap (λ (x : Acted). x.time) is ∙ st.time);
  })
