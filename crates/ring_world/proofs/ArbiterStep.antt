-- An arbitrator's step: the world stands for the world after it.
use Rattle.std.proofs.Common.{◌≡◌, ℕ, ◌+◌, ◌≤◌, ◌<◌, Bool, true, false, List, [], ◌∷◌, Option, Some, None, refl, sym, ap, subst, ◌∙◌, arith, length}
use Rattle.std.specs.Prelude.{◌==◌, slice_set, All, IfSome, IsTrue}
use Rattle.std.specs.Option.{option_to_list}
use Rattle.std.proofs.lemmas.Option.{slice_get_within}
use Rattle.arbiter_core.specs.Arbiters.{Arbiter, entries, fresh, restored, with_kept}
use Rattle.fabric_terms.specs.declared.message.Body.{Body}
use Rattle.fabric_terms.specs.declared.message.Message.{Message}
use Rattle.fabric_terms.specs.declared.report.Report.{Report}
use Rattle.point_places.specs.Spots.{place_at}
use Rattle.ring_points.specs.Whos.{arbiter_actor}
use Rattle.ring_points.specs.declared.who.Who.{Who}
use Rattle.fabric_terms.specs.Messages.{is_sound}
use Rattle.world_rules.specs.Arbiters.{ArbiterState, arbiter_step}
use Rattle.fabric_lemmas.specs.Maps.{at}
use Rattle.unit_rules.specs.Fabric.{fabric}
use Rattle.world_rules.specs.Uppers.{Did}
use Rattle.world_rules.specs.Worlds.{World as RuledWorld, arbiter_acted, arbiter_who, kept_of, numbers_of, posted}
use Rattle.ring_world.specs.Answers.{entry_of}
use Rattle.ring_world.specs.Moves.{Moves, placed_by}
use Rattle.world_rules.specs.EventLimits.{most_events, most_frames}
use Rattle.ring_world.specs.Rulings.{HeardAt, Hears, ruled_by}
use Rattle.ring_world.specs.Running.{last_node}
use Rattle.ring_world.specs.ConfiguredArbiters.{IsSeat, state_of, state_where}
use Rattle.ring_world.specs.Seen.{Seen, seen_of}
use Rattle.ring_world.specs.Stands.{SeenStands, Stands}
use Rattle.ring_world.specs.Steps.{IsSoundFrame}
use Rattle.ring_world.specs.declared.world.Acted.{Acted}
use Rattle.ring_world.specs.declared.world.World.{World}
use Rattle.ring_world.proofs.Entries.{few_entries, kept_more, seat_rises}
use Rattle.ring_world.proofs.FramesAfter.{sound_sent}
use Rattle.ring_world.proofs.Maps.{unequal}
use Rattle.arbiter_core.proofs.Steps.{IsRuling, is_ruling, kept_state}
use Rattle.ring_world.proofs.Growth.{kept_here, kept_there, posted-length}
use Rattle.ring_world.proofs.KeptNodes.{kept_follows, same_run}
use Rattle.ring_world.proofs.SeatChanges.{arbiters_set, at_other_put, at_same_put}

few_reply : {X : Type 0} (o : Option X) → length (option_to_list o) ≤ 1
few_reply None = omega arith
few_reply (Some x) = omega arith

-- a reply that leaves sound frames is sound
pub reply_sound : (who : Who) (reply : Option (Who × Body)) (frames : List Message) → All IsSoundFrame (posted who (option_to_list reply) frames)
    → IfSome reply (λ r. IsTrue (is_sound (record { from = who; to = r.0; body = r.1 })))
reply_sound who None frames h = tt
reply_sound who (Some r) frames h =
    let said : Message = record { from = who; to = r.0; body = r.1 } in
    sound_sent IsSoundFrame who (r ∷ []) frames h 0 said (omega arith)

other_node : (place node : ℕ) → node ≤ last_node → (arbiter_actor (place + 1) == node) ≡ false
other_node place node le = unequal (arbiter_actor (place + 1)) node (λ e. absurd (omega arith))

other_arbiter : (place k : ℕ) → (k ≡ place + 1 → ⊥) → (arbiter_actor (place + 1) == arbiter_actor k) ≡ false
other_arbiter place k other = unequal (arbiter_actor (place + 1)) (arbiter_actor k) (λ e. other (omega arith))

module _ (a : World) (w : RuledWorld fabric) (place : ℕ) (s : ArbiterState fabric) (m : Message) (mid : World) (reply : Option (Who × Body))
    (st : Stands a w) (there : at (place + 1) w.arbiters ≡ Some s) (heard : HeardAt a mid place m reply) where
  abbrev pub done : Did (ArbiterState fabric)
  done = arbiter_step fabric a.config (place + 1) m s

  hears : Hears a.config m heard.before heard.after reply
  hears = heard.hears a.config

  old : IsSeat w a.events (place + 1) heard.before
  old = st.arbiters.seats place heard.before heard.here

  -- the arbitrator runs, and in this state
  runs : (heard.before.runs ≡ true) × (state_of heard.before.arbiter ≡ s)
  runs = by_value heard.before.runs (old.running ∙ there)
    where
      by_value : (b : Bool) → state_where b heard.before.arbiter ≡ Some s → (b ≡ true) × (state_of heard.before.arbiter ≡ s)
      by_value true e = (refl, cc)
      by_value false e = absurd (cc)

  number_is : heard.before.arbiter.number ≡ place + 1
  number_is = ap (λ (x : Arbiter). x.number) old.kept

  is_done : ruled_by a.config m heard.before.arbiter ≡ done
  is_done =
      ap (λ (k : ℕ). arbiter_step fabric a.config k m (state_of heard.before.arbiter)) number_is
      ∙ ap (λ (x : ArbiterState fabric). arbiter_step fabric a.config (place + 1) m x) runs.1

  pub sent_is : option_to_list reply ≡ done.sent
  sent_is = hears.sent ∙ ap (λ (d : Did (ArbiterState fabric)). d.sent) is_done

  arbiter_is : heard.after.arbiter ≡ with_kept done.records heard.before.arbiter
  arbiter_is = hears.arbiter ∙ ap (λ (d : Did (ArbiterState fabric)). with_kept d.records heard.before.arbiter) is_done

  facts : IsRuling s done
  facts = is_ruling a.config (place + 1) m s

  abbrev after : RuledWorld fabric
  after = (arbiter_acted fabric w (place + 1) done).world

  -- the arbitrator is the one that its records make, these among them
  restored_is : heard.after.arbiter ≡ restored (place + 1) (kept_of after (arbiter_actor (place + 1)))
  restored_is =
      arbiter_is
      ∙ (ap (λ (x : Arbiter). with_kept done.records x) old.kept
      ∙ (sym (kept_more (fresh (place + 1)) (kept_of w (arbiter_actor (place + 1))) done.records)
      ∙ ap (λ rs. restored (place + 1) rs) (sym (kept_here w (arbiter_actor (place + 1)) done.records))))

  state_is : state_of heard.after.arbiter ≡ done.state
  state_is =
      ap (λ (x : Arbiter). state_of x) arbiter_is
      ∙ (ap (λ (x : ArbiterState fabric). kept_state done.records x) runs.1 ∙ sym facts.state)

  seat_after : IsSeat after (a.events + 1) (place + 1) heard.after
  seat_after =
      let more = few_entries done.records heard.before.arbiter (seat_rises w a.events (place + 1) heard.before old) in
      let size : entries heard.after.arbiter ≡ entries (with_kept done.records heard.before.arbiter) = ap (λ (x : Arbiter). entries x) arbiter_is in
      record {
        running = ap (λ b. state_where b heard.after.arbiter) (hears.runs ∙ runs.0)
            ∙ (ap (λ (x : ArbiterState fabric). Some x) state_is ∙ sym (at_same_put (place + 1) done.state w.arbiters));
        kept = restored_is;
        few = omega (arith, old.few, facts.few, size, more);
      }

  kept_on : (q : ℕ) → (arbiter_actor (place + 1) == q) ≡ false → kept_of after q ≡ kept_of w q
  kept_on q other = kept_there w (arbiter_actor (place + 1)) q done.records other

  abbrev pub seen_ruled : Seen
  seen_ruled = record (seen_of a) {
    events = a.events + 1;
    seats = slice_set (seen_of a).seats place heard.after;
    frames = posted (arbiter_who (place + 1)) (option_to_list reply) a.frames.frames;
    sent = a.sent + length (option_to_list reply);
  }

  stands_ruled : a.events < most_events → a.sent < most_frames → SeenStands seen_ruled after
  stands_ruled few room = record {
    sound = st.sound;
    time = st.time;
    in_time = st.in_time;
    few_events = omega arith;
    nodes = record {
      rise = st.nodes.rise;
      running = st.nodes.running;
      clocks = st.nodes.clocks;
      few = omega (arith, st.nodes.few);
      kept = kept_follows (seen_of a).kept w after st.nodes.kept (same_run w.nodes) (λ node le. kept_on node (other_node place node le));
    };
    arbiters = arbiters_set (seen_of a) seen_ruled w after place heard.after st.arbiters (slice_get_within (seen_of a).seats place heard.before heard.here) refl refl refl seat_after
        (λ k other. at_other_put (place + 1) k done.state w.arbiters other)
        (λ k other. kept_on (arbiter_actor k) (other_arbiter place k other));
    frames = record {
      frames = ap (λ fs. posted (arbiter_who (place + 1)) (option_to_list reply) fs) st.frames.frames ∙ ap (λ (ms : List (Who × Body)). posted (arbiter_who (place + 1)) ms w.frames) sent_is;
      counted = let n = posted-length (arbiter_who (place + 1)) done.sent w.frames in omega (arith, st.frames.counted);
      sent = let n : length (option_to_list reply) ≡ length done.sent = ap (λ (ms : List (Who × Body)). length ms) sent_is in omega (arith, st.frames.sent);
      few = let n : length (option_to_list reply) ≡ length done.sent = ap (λ (ms : List (Who × Body)). length ms) sent_is in let k = few_reply reply in omega (arith, st.frames.sent);
    };
  }

  pub rule_moves : (new : World) (line : ℕ) (acted : Acted) → a.events < most_events → a.sent < most_frames → seen_of new ≡ seen_ruled → new.places ≡ a.places
      → acted ≡ record { line = line; time = a.time; who = arbiter_who (place + 1); reading = None; sent = numbers_of a.sent (option_to_list reply); reports = [] }
      → Moves a new (arbiter_acted fabric w (place + 1) done) line (Some acted)
  rule_moves new line acted few room seen places is = record {
    config = ap (λ (x : Seen). x.config) seen;
    events = ap (λ (x : Seen). x.events) seen;
    state = subst (λ (x : Seen). SeenStands x after) (sym seen) (stands_ruled few room);
    places = λ p lt. ap (λ x. place_at x p) places ∙ ap (λ (rs : List Report). placed_by (arbiter_who (place + 1)) rs p (place_at a.places p)) (sym facts.told);
    entry = ap (λ (x : Acted). entry_of (Some x)) is
        ∙ (ap (λ (k : ℕ × ℕ). entry_of (Some (record { line = line; time = a.time; who = arbiter_who (place + 1); reading = None; sent = k; reports = [] }))) (ap (λ (n : ℕ). numbers_of n (option_to_list reply)) st.frames.sent ∙ ap (λ (ms : List (Who × Body)). numbers_of w.count ms) sent_is)
        ∙ ap (λ (rs : List Report). entry_of (Some (record { line = line; time = a.time; who = arbiter_who (place + 1); reading = None; sent = numbers_of w.count done.sent; reports = rs }))) (sym facts.told));
    seen = (ap (λ (x : Acted). x.line) is, ap (λ (x : Acted). x.time) is ∙ st.time);
  }
