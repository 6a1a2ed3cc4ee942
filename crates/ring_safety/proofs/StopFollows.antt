-- The machine follows the stop of a node, and reports that move nothing.
use Rattle.std.proofs.Common.{◌≡◌, ℕ, Bool, true, false, cond, List, [], ◌∷◌, Some, refl, sym, ap, ◌∙◌, subst, arith}
use Rattle.std.specs.Prelude.{◌==◌}
use Rattle.std.specs.List.{list_any}
use Rattle.std.proofs.lemmas.Bool.{both_ways, eqb-true, eqb-false}
use Rattle.fabric_terms.specs.declared.config.FabricConfig.{FabricConfig}
use Rattle.fabric_terms.specs.declared.report.Report.{Report}
use Rattle.fabric_terms.specs.declared.report.Report.TheVariants.{Stopped}
use Rattle.fabric_terms.specs.Reports.{told_on}
use Rattle.join_phases.specs.Phases.{is_left}
use Rattle.ring_points.specs.declared.who.Who.{Who}
use Rattle.ring_points.specs.Whos.{same_who}
use Rattle.ring_machine.specs.World as machine
use Rattle.ring_machine.specs.World.{Instance, Running, has_clock}
use Rattle.ring_machine.specs.Events as events
use Rattle.ring_machine.specs.Events.{Stops, in_phase}
use Rattle.ring_machine.proofs.Histories.{EventDone, event_done}
use Rattle.ring_points.proofs.Whos.{same_who-true, same_who-false, same_who_from}
use Rattle.ring_machine.proofs.Whos.{test}
use Rattle.ring_refinement.specs.Images.{machine_of}
use Rattle.ring_refinement.specs.Shown.{ShowsAs}
use Rattle.world_rules.specs.Arbiters.{ArbiterState}
use Rattle.world_rules.specs.Events.{node_stops}
use Rattle.fabric_lemmas.specs.Maps.{at, without}
use Rattle.world_rules.specs.Uppers.{Upper}
use Rattle.world_rules.specs.Worlds as real
use Rattle.world_rules.specs.Worlds.{World}
use Rattle.ring_safety.proofs.ActFollows.{Followed, Numbered, named}
use Rattle.ring_safety.proofs.Follows.{Follows, Runs, shows_still, clock_still, places_in, next_of}
use Rattle.run_facts.proofs.Kept.{without_cases, at_without_other}
use Rattle.ring_safety.proofs.Moves.{SoFar, moves, none_moves, none_over, told_so_far, given_elsewhere, over_told, has_given}
use Rattle.ring_safety.proofs.Tales.{Tale, tale_on, tale_in}

-- reports that move nothing are followed by the same world
pub silent_follows : {a : Upper} (c : FabricConfig) (w : World a) (t : Tale) (m : machine.World) (x : Who) (rs : List Report) →
    list_any moves rs ≡ false →
    Follows c w t m → Follows c w (tale_on x rs t) m
silent_follows c w t m x rs quiet f = record {
  inv = f.inv;
  time = f.time;
  starts = f.starts;
  whole = f.whole;
  shows = f.shows;
  clock = f.clock;
  runs = f.runs;
  tables = f.tables;
  frames = f.frames;
  placed = (so_far x).placed;
  moved = (so_far x).moved;
  new = (so_far x).new;
  below = λ y number h. test (same_who x y)
      (λ g. (so_far y).below number (subst (λ z. has_given y number (told_on z rs t.life) ≡ true) (same_who-true x y g) h))
      (λ g. f.below y number (given_elsewhere x y number rs t.life g h));
  over = λ v. over_told (machine_of c) m v x rs t.all (none_over (machine_of c) m rs quiet) (f.over v);
}
  where
    so_far : (y : Who) → SoFar t.whole y (told_on y rs t.life) (next_of m y) (places_in t m)
    so_far y =
        told_so_far t.whole y rs t.life (next_of m y) (next_of m y)
        (places_in t m) (places_in t m)
        (none_moves y rs (next_of m y) (places_in t m) quiet)
        (record { placed = f.placed; moved = f.moved; new = f.new; below = f.below y })

-- arbitrators that start or stop change nothing of it
pub arbiters_follow : {a : Upper} (c : FabricConfig) (w : World a) (t : Tale) (m : machine.World) (arbiters : List (ℕ × ArbiterState a)) →
    Follows c w t m → Follows c (record w { arbiters = arbiters }) t m
arbiters_follow c w t m arbiters f = record {
  inv = f.inv;
  time = f.time;
  starts = f.starts;
  whole = f.whole;
  shows = f.shows;
  clock = f.clock;
  runs = λ x h. let r = f.runs x h in record { state = r.state; here = r.here; name = r.name; stays = r.stays };
  tables = f.tables;
  frames = f.frames;
  placed = f.placed;
  moved = f.moved;
  new = f.new;
  below = f.below;
  over = f.over;
}

module _ {a : Upper} (c : FabricConfig) (w : World a) (t : Tale) (m : machine.World) (n : Numbered w) (f : Follows c w t m) (node : ℕ)
    (s : real.Running a) (there : at node w.nodes ≡ Some s) where
  abbrev me : Who
  me = s.node.ring.me

  abbrev gone : World a
  gone = record w { nodes = without node w.nodes }

  -- another runs on
  runs_on : (x : Who) → Runs w x → (me ≡ x → is_left s.node.ring.phase ≡ false → ⊥) → Runs gone x
  runs_on x r apart = record {
    state = r.state;
    here = at_without_other node w.nodes x.actor (go (node == x.actor) refl) ∙ r.here;
    name = r.name;
    stays = r.stays;
  }
    where
      go : (b : Bool) → (node == x.actor) ≡ b → (node == x.actor) ≡ false
      go false e = e
      go true e =
          let here : at node w.nodes ≡ Some r.state = ap (λ q. at q w.nodes) (eqb-true node x.actor e) ∙ r.here in
          let same : s ≡ r.state = cc (there, here) in
          absurd (apart (ap (λ (z : real.Running a). z.node.ring.me) same ∙ r.name)
          (ap (λ (z : real.Running a). is_left z.node.ring.phase) same ∙ r.stays))

  -- one that has left stops
  left_stops : is_left s.node.ring.phase ≡ true → Follows c gone t m
  left_stops left = record {
    inv = f.inv;
    time = f.time;
    starts = f.starts;
    whole = f.whole;
    shows = λ q r h. f.shows q r (without_cases node w.nodes q r h).1;
    clock = λ q r h. f.clock q r (without_cases node w.nodes q r h).1;
    runs = λ x h. runs_on x (f.runs x h) (λ same stay. both_ways (is_left s.node.ring.phase) stay left);
    tables = f.tables;
    frames = f.frames;
    placed = f.placed;
    moved = f.moved;
    new = f.new;
    below = f.below;
    over = f.over;
  }

  -- one that has not stops on the machine

  abbrev v : machine.World
  v = in_phase m me machine.Stopped

  abbrev stopped : Instance
  stopped = record (m.instance me) { phase = machine.Stopped }

  others : (x : Who) → same_who me x ≡ false → v.instance x ≡ m.instance x
  others x h = ap (λ b. cond b stopped (m.instance x)) h

  other : (q : ℕ) (r : real.Running a) → (node == q) ≡ false → at q w.nodes ≡ Some r → v.instance r.node.ring.me ≡ m.instance r.node.ring.me
  other q r apart h = others r.node.ring.me (same_who_from me r.node.ring.me
      (λ same. eqb-false node q apart (sym (named w n node s there) ∙ (ap (λ (z : Who). z.actor) same ∙ named w n q r h))))

  not_running : (x : Who) → same_who me x ≡ true → (v.instance x).phase ≡ Running → ⊥
  not_running x h g = let phase : (v.instance x).phase ≡ machine.Stopped = ap (λ b. (cond b stopped (m.instance x)).phase) h in cc (phase, g)

  it_stops : events.IsSound (machine_of c) → (m.instance me).phase ≡ Running → Follows c gone t v
  it_stops sound running = record {
    inv = done.inv;
    time = f.time;
    starts = f.starts;
    whole = f.whole;
    shows = λ q r h.
        let g = without_cases node w.nodes q r h in
        shows_still c m v (λ e k. k) r.node.ring.me r.node.ring (other q r g.0 g.1) (f.shows q r g.1);
    clock = λ q r h stay.
        let g = without_cases node w.nodes q r h in
        clock_still (m.instance r.node.ring.me) (v.instance r.node.ring.me) r.reading r.pairs (other q r g.0 g.1) (f.clock q r g.1 stay);
    runs = λ x. test (same_who me x) (λ h g. absurd (not_running x h g))
        (λ h g. runs_on x (f.runs x (sym (ap (λ (i : Instance). i.phase) (others x h)) ∙ g)) (λ same stay. same_who-false me x h same));
    tables = f.tables;
    frames = f.frames;
    placed = f.placed;
    moved = f.moved;
    new = f.new;
    below = λ x number h. let lt = f.below x number h in let le = done.later.next_flights x in omega arith;
    over = λ x h. done.later.dies x (f.over x h);
  }
    where
      done : EventDone (machine_of c) m v
      done = event_done sound f.inv (Stops me) (ap has_clock running)

  pub stops_follow : events.IsSound (machine_of c) →
      Followed c (node_stops a w node (Some s)).world (tale_in (node_stops a w node (Some s)).entry t)
  stops_follow sound = go (is_left s.node.ring.phase) refl (f.shows node s there)
    where
      go : (b : Bool) → is_left s.node.ring.phase ≡ b → ShowsAs c m me s.node.ring b → Followed c gone (tale_on me (Stopped ∷ []) t)
      go true h shows = record { world = m; follows = silent_follows c gone t m me (Stopped ∷ []) refl (left_stops h) }
      go false h shows = record { world = v; follows = silent_follows c gone t v me (Stopped ∷ []) refl (it_stops sound shows.running) }
