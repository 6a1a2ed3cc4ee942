-- A start of an arbitrator: the world stands for the world after it.
use Rattle.std.proofs.Common.{◌≡◌, ℕ, ◌+◌, ◌<◌, true, [], Some, None, refl, sym, ap, subst, ◌∙◌, arith, length}
use Rattle.std.specs.Prelude.{slice_get, slice_set}
use Rattle.arbiter_core.specs.Arbiters.{Arbiter}
use Rattle.point_places.specs.Spots.{place_at}
use Rattle.ring_points.specs.Whos.{arbiter_actor}
use Rattle.world_rules.specs.Arbiters.{ArbiterState, arbiter_begun}
use Rattle.world_rules.proofs.Rows.{arbiter_begun-is}
use Rattle.world_rules.specs.Events.{starts_with, arbiter_number}
use Rattle.fabric_lemmas.specs.Maps.{at, put}
use Rattle.unit_rules.specs.Fabric.{fabric}
use Rattle.world_rules.specs.Worlds.{World as RuledWorld, Stepped, kept_of}
use Rattle.ring_world.specs.Answers.{entry_of}
use Rattle.ring_world.specs.Moves.{Moves}
use Rattle.world_rules.specs.EventLimits.{most_events}
use Rattle.ring_world.specs.ConfiguredArbiters.{IsSeat, state_of}
use Rattle.ring_world.specs.Seen.{Seen, seen_of}
use Rattle.ring_world.specs.Stands.{Stands, SeenStands}
use Rattle.ring_world.specs.declared.configured_arbiter.ConfiguredArbiter.{ConfiguredArbiter}
use Rattle.ring_world.specs.declared.world.Acted.{Acted}
use Rattle.ring_world.specs.declared.world.World.{World}
use Rattle.ring_world.proofs.KeptNodes.{kept_follows, same_run}
use Rattle.ring_world.proofs.SeatChanges.{arbiters_set, at_other_put, at_same_put}

module _ (a : World) (w : RuledWorld fabric) (place : ℕ) (q : ConfiguredArbiter)
    (st : Stands a w) (here : slice_get (seen_of a).seats place ≡ Some q) (within : place < length (seen_of a).seats) (few : a.events < most_events) where
  abbrev pub started_seat : ConfiguredArbiter
  started_seat = record q { runs = true }

  abbrev pub seen_started : Seen
  seen_started = record (seen_of a) { events = a.events + 1; seats = slice_set (seen_of a).seats place started_seat }

  abbrev begun : RuledWorld fabric
  begun = (starts_with fabric a.config w (arbiter_actor (place + 1)) None (kept_of w (arbiter_actor (place + 1)))).world

  number_is : arbiter_number (arbiter_actor (place + 1)) ≡ place + 1
  number_is = omega arith

  old : IsSeat w a.events (place + 1) q
  old = st.arbiters.seats place q here

  state_is : arbiter_begun fabric a.config (place + 1) (kept_of w (arbiter_actor (place + 1))) ≡ state_of q.arbiter
  state_is =
      arbiter_begun-is fabric a.config (place + 1) (kept_of w (arbiter_actor (place + 1)))
      ∙ ap (λ (x : Arbiter). state_of x) (sym old.kept)

  tables_are : begun.arbiters ≡ put (place + 1) (state_of q.arbiter) w.arbiters
  tables_are =
      ap (λ (k : ℕ). put k (arbiter_begun fabric a.config k (kept_of w (arbiter_actor (place + 1)))) w.arbiters) number_is
      ∙ ap (λ (t : ArbiterState fabric). put (place + 1) t w.arbiters) state_is

  is_started : IsSeat begun (a.events + 1) (place + 1) started_seat
  is_started =
      record {
        running = sym (ap (λ ts. at (place + 1) ts) tables_are ∙ at_same_put (place + 1) (state_of q.arbiter) w.arbiters);
        kept = old.kept;
        few = omega (arith, old.few);
      }

  stands_started : SeenStands seen_started begun
  stands_started = record {
    sound = st.sound;
    time = st.time;
    in_time = st.in_time;
    few_events = omega arith;
    nodes = record { rise = st.nodes.rise; running = st.nodes.running; clocks = st.nodes.clocks; few = omega (arith, st.nodes.few); kept = kept_follows (seen_of a).kept w begun st.nodes.kept (same_run w.nodes) (λ node le. refl) };
    arbiters = arbiters_set (seen_of a) seen_started w begun place started_seat st.arbiters within refl refl refl is_started
        (λ k other. ap (λ ts. at k ts) tables_are ∙ at_other_put (place + 1) k (state_of q.arbiter) w.arbiters other) (λ k other. refl);
    frames = record { frames = st.frames.frames; counted = st.frames.counted; sent = st.frames.sent; few = st.frames.few };
  }

  pub start_arbiter_moves : (new : World) (y : Stepped fabric) (line : ℕ) (acted : Acted) (actor : ℕ) → actor ≡ arbiter_actor (place + 1) → y ≡ starts_with fabric a.config w actor None (kept_of w actor) → seen_of new ≡ seen_started → new.places ≡ a.places
      → acted ≡ record { line = line; time = a.time; who = record { actor = actor; instance = 0 }; reading = None; sent = (0, 0); reports = [] }
      → Moves a new y line (Some acted)
  start_arbiter_moves new y line acted actor name step seen places is =
      subst (λ (z : Stepped fabric). Moves a new z line (Some acted)) (sym (step ∙ ap (λ k. starts_with fabric a.config w k None (kept_of w k)) name)) (record {
        config = ap (λ (x : Seen). x.config) seen;
        events = ap (λ (x : Seen). x.events) seen;
        state = subst (λ (x : Seen). SeenStands x begun) (sym seen) stands_started;
        places = λ p lt. ap (λ x. place_at x p) places;
        entry = ap (λ (x : Acted). entry_of (Some x)) is
            ∙ ap (λ (k : ℕ). entry_of (Some (record { line = line; time = a.time; who = record { actor = k; instance = 0 }; reading = None; sent = (0, 0); reports = [] }))) (name ∙ ap (λ k. arbiter_actor k) (sym number_is));
        seen = (ap (λ (x : Acted). x.line) is, ap (λ (x : Acted). x.time) is ∙ st.time);
      })
