-- A step of a node in a turn is a step of the cluster, or nothing.
use Rattle.std.proofs.Common.{arith, ◌≡◌, ◌≤◌, ◌<◌, ◌+◌, ◌-◌, ℕ, Bool, true, false, not, List, [], ◌∷◌, ◌++◌, length, Option, Some, None, refl, ap, sym, subst, ◌∙◌, ⊎_elim}
use Rattle.std.specs.Prelude.{Contains, ◌==◌, ◌&&◌, ◌||◌, slice_get, slice_set, is_some}
use Rattle.std.proofs.lemmas.Bool.{and_parts, eqb-true, eq-eqb}
use Rattle.std.proofs.lemmas.Bool.Decides.{nat_tests}
use Rattle.std.proofs.lemmas.Option.{slice_get-get_or}
use Rattle.ring_safety.proofs.StrangeFrames.{strange_frames}
use Rattle.ring_safety.specs.ClusterEvents.{Bids, Cluster, Comes, Fires, FitsInstance, Hears, MayArrive, comes, frame_of, hears, hears_as, kept_by, node_did, node_does}
use Rattle.ring_safety.specs.ClusterMoments.{entry_for, heard_in, hears_in, node_acts_in, node_entry}
use Rattle.unit_rules.specs.Fabric.{fabric, fabric_stays}
use Rattle.fabric_lemmas.specs.Maps.{at, put}
use Rattle.fabric_terms.specs.declared.command.Command.{Command}
use Rattle.fabric_terms.specs.declared.message.Message.{Message}
use Rattle.join_phases.specs.Phases.{is_left}
use Rattle.ring_points.specs.declared.interval.Interval.{Interval}
use Rattle.ring_points.specs.declared.who.Who.{Who}
use Rattle.ring_rules.specs.Frames.{is_for, may_send, passes, is_between_nodes, is_arbiters_answer}
use Rattle.ring_rules.specs.Owns.{is_same_own, own_after, own_unless, same_fence, same_ranges}
use Rattle.ring_rules.specs.Rings.{Ring, Settings, settings_of}
use Rattle.ring_rules.specs.Slots.{fence_of}
use Rattle.ring_rules.specs.Starts.{begun}
use Rattle.ring_rules.specs.declared.input.Input.{Input}
use Rattle.ring_rules.specs.declared.input.Input.TheVariants as input
use Rattle.ring_route.specs.Routes.{is_among}
use Rattle.run_facts.proofs.Kept.{at_put_other}
use Rattle.run_facts.proofs.Steps.{node_acted-told}
use Rattle.turn_rules.specs.Plans.{Setting}
use Rattle.turn_rules.specs.Steps.{Member, Node, Step, node_stepped, present}
use Rattle.world_rules.specs.Events.{is_arbiter_actor}
use Rattle.world_rules.specs.Nodes.{NodeState, both_did, node_step}
use Rattle.world_rules.specs.Schedules.{command_names}
use Rattle.world_rules.specs.Uppers.{Did, idle}
use Rattle.world_rules.specs.Worlds.{numbers_of, posted}
use Rattle.cluster_safety.specs.Moments.{frames_of}
use Rattle.cluster_safety.specs.Plans.{Rise}
use Rattle.cluster_safety.proofs.Echoes.{put_more}
use Rattle.cluster_safety.proofs.Joined.{Joined, cluster, joined_more, joined_silent, posted_length, running_still}
use Rattle.cluster_safety.proofs.Members.{AllBelow, arbiters_still, below_set, match_set, names_still, node_here, node_set, set_same}

-- a frame that was sent has a number
pub record HasNumber (frames : List Message) (f : Message) : Type 0 where
  pub number : ℕ
  pub low : 1 ≤ number
  pub high : number ≤ length frames
  pub there : slice_get frames (length frames - number) ≡ Some f

pub number_of : (frames : List Message) (f : Message) → Contains frames f → HasNumber frames f
number_of frames f has =
    let within = has.1 in
    let back : length frames - (length frames - has.0) ≡ has.0 = omega arith in
    record {
      number = length frames - has.0;
      low = omega arith;
      high = omega arith;
      there = ap (slice_get frames) back ∙ slice_get-get_or frames has.0 f within ∙ ap (λ (x : Message). Some x) has.2;
    }

-- something comes to the cluster by which the node does this
record NodeComes (s : Setting) (xs : List Comes) (n : ℕ) (d : Did (NodeState fabric)) : Type 0 where
  x : Comes
  may : MayArrive fabric s.plan.config (cluster s xs) x
  does : comes fabric s.plan.config (cluster s xs) x ≡ node_did (cluster s xs) n d
  tells : entry_for fabric s.plan.config (cluster s xs) x ≡ Some (node_entry (cluster s xs) d)

-- a step in a turn is no start
pub later_no_start : (turn : ℕ) (o : Option ℕ) → 1 ≤ turn → (turn == 0 && is_some o) ≡ false
later_no_start turn o le = let no : (turn == 0) ≡ false = grind (arith, nat_tests) in ap (λ (b : Bool). b && is_some o) no

node_joins : (s : Setting) (ms : List Member) (last : Option ℕ) (steps : List Step) (turn place : ℕ) (st : NodeState fabric) (d : Did (NodeState fabric)) →
    Rise 0 s.plan.actors → 1 ≤ turn → (j : Joined s ms last steps) → slice_get ms place ≡ Some (Node st) → is_arbiter_actor st.ring.me.actor ≡ false →
    d.state.ring.me ≡ st.ring.me → NodeComes s j.xs st.ring.me.actor d →
    Joined s (slice_set ms place (Node d.state)) last ((node_stepped turn (present last) d).step ∷ steps)
node_joins s ms last steps turn place st d rise later j here kind name k =
    let step : Step = (node_stepped turn (present last) d).step in
    let q : Cluster fabric = cluster s j.xs in
    let number : d.state.ring.me.actor ≡ st.ring.me.actor = ap (λ (w : Who). w.actor) name in
    joined_more s ms (slice_set ms place (Node d.state)) last last steps step k.x j (record {
      may = k.may;
      after = node_did q st.ring.me.actor d;
      does = k.does;
      tells = k.tells ∙ (λ i. Some (record { who = d.state.ring.me; reading = Some (j.time i); sent = numbers_of (j.count i) d.sent; reports = d.told }));
      places = match_set ms s.plan.actors place (Node st) (Node d.state) j.places here number (ap is_arbiter_actor number ∙ kind);
      nodes = ap (put st.ring.me.actor d.state) j.nodes ∙ sym (node_set 0 ms s.plan.actors place st d.state rise j.places here number);
      arbiters = j.arbiters ∙ sym (arbiters_still ms place st d.state here);
      time = j.time;
      kept = λ k below. kept_none k (below_set k ms place (Node st) (Node d.state) here number below);
      frames = ap (posted d.state.ring.me d.sent) j.frames;
      count = ap (λ (k : ℕ). k + length d.sent) j.count ∙ sym (posted_length d.state.ring.me d.sent (frames_of steps));
      names = running_still step steps (later_no_start turn (Some (present last)) later) ∙ j.names ∙ sym (names_still ms place st d.state here name);
      reading = refl;
      keeps = λ actor. put_more d.state.ring.me.actor actor d.records q.kept;
    })
  where
    kept_none : (k : ℕ) → AllBelow k ms × (st.ring.me.actor < k) →
        at k (put d.state.ring.me.actor (kept_by (cluster s j.xs) d.state.ring.me.actor ++ d.records) (cluster s j.xs).kept) ≡ None
    kept_none k b =
        let number : d.state.ring.me.actor ≡ st.ring.me.actor = ap (λ (w : Who). w.actor) name in
        let less = b.1 in
        let other : (d.state.ring.me.actor == k) ≡ false = grind (arith, nat_tests) in
        at_put_other d.state.ring.me.actor (kept_by (cluster s j.xs) d.state.ring.me.actor ++ d.records) (cluster s j.xs).kept k other ∙ j.kept k b.0

-- An input of the node at a place.

module _ (s : Setting) (ms : List Member) (last : Option ℕ) (steps : List Step) (turn place : ℕ) (st : NodeState fabric) (rise : Rise 0 s.plan.actors) (later : 1 ≤ turn)
    (j : Joined s ms last steps) (here : slice_get ms place ≡ Some (Node st)) (kind : is_arbiter_actor st.ring.me.actor ≡ false) where
  -- what the input does now
  abbrev pub does : Input → Did (NodeState fabric)
  does i = node_step fabric s.plan.config (present last) i st

  -- the process after this
  abbrev pub After : Did (NodeState fabric) → Type 0
  After d = Joined s (slice_set ms place (Node d.state)) last ((node_stepped turn (present last) d).step ∷ steps)

  runs : at st.ring.me.actor (cluster s j.xs).nodes ≡ Some st
  runs = ap (at st.ring.me.actor) j.nodes ∙ node_here 0 ms s.plan.actors place st rise j.places here

  came : (i : Input) → node_does fabric s.plan.config (cluster s j.xs) st.ring.me.actor i (at st.ring.me.actor (cluster s j.xs).nodes) ≡ node_did (cluster s j.xs) st.ring.me.actor (does i)
  came i =
      ap (node_does fabric s.plan.config (cluster s j.xs) st.ring.me.actor i) runs
      ∙ ap (λ (t : ℕ). node_did (cluster s j.xs) st.ring.me.actor (node_step fabric s.plan.config t i st)) j.time

  told : (i : Input) → node_acts_in fabric s.plan.config (cluster s j.xs) i (at st.ring.me.actor (cluster s j.xs).nodes) ≡ Some (node_entry (cluster s j.xs) (does i))
  told i =
      ap (node_acts_in fabric s.plan.config (cluster s j.xs) i) runs
      ∙ ap (λ (t : ℕ). Some (node_entry (cluster s j.xs) (node_step fabric s.plan.config t i st))) j.time

  by : (i : Input) → NodeComes s j.xs st.ring.me.actor (does i) → After (does i)
  by i k = node_joins s ms last steps turn place st (does i) rise later j here kind (node_acted-told fabric fabric_stays s.plan.config (present last) i st).name k

  pub node_fires : After (does input.Fire)
  node_fires = by input.Fire (record { x = Fires st.ring.me.actor; may = (st, runs); does = came input.Fire; tells = told input.Fire })

  pub node_bid : (d : Command) → command_names s.plan.config st.ring.me.actor d ≡ true → After (does (input.Do d))
  node_bid d named = by (input.Do d) (record { x = Bids st.ring.me.actor d; may = (st, (runs, named)); does = came (input.Do d); tells = told (input.Do d) })

  -- a frame that the node takes comes to the actor and the instance that it names
  takes : (f : Message) → HasNumber (frames_of steps) f → passes (settings_of s.plan.config st.ring.me.actor) st.ring f ≡ true → After (does (input.Frame f))
  takes f has pass =
      let c = s.plan.config in
      let q = cluster s j.xs in
      let set : Settings = settings_of c st.ring.me.actor in
      let addressed : Bool = is_for st.ring.me f.to in
      let first = and_parts (addressed && not (is_among f.from st.ring.accused)) (may_send set st.ring f.from.actor (is_between_nodes f.body) (is_arbiters_answer f.body)) pass in
      let second = and_parts addressed (not (is_among f.from st.ring.accused)) first.0 in
      let both = and_parts (f.to.actor == st.ring.me.actor) (f.to.instance == 0 || f.to.instance == st.ring.me.instance) second.0 in
      let actor : f.to.actor ≡ st.ring.me.actor = eqb-true f.to.actor st.ring.me.actor both.0 in
      let node : is_arbiter_actor f.to.actor ≡ false = ap is_arbiter_actor actor ∙ kind in
      let there : frame_of q has.number ≡ Some f =
      ap (λ (fs : List Message). slice_get fs (q.count - has.number)) j.frames ∙ ap (λ (n : ℕ). slice_get (frames_of steps) (n - has.number)) j.count ∙ has.there in
      let high : has.number ≤ q.count = let h = has.high in omega (arith, j.count) in
      by (input.Frame f) (record {
        x = Hears has.number;
        may = (f, (has.low, high, there, subst (FitsInstance {a = fabric} q f) (sym node) (fits actor both.1)));
        does =
            ap (hears fabric c q) there
            ∙ ap (hears_as fabric c q f) node
            ∙ ap (λ (n : ℕ). node_does fabric c q n (input.Frame f) (at n q.nodes)) actor
            ∙ came (input.Frame f);
        tells =
            ap (heard_in fabric c q) there
            ∙ ap (hears_in fabric c q f) node
            ∙ ap (λ (n : ℕ). node_acts_in fabric c q (input.Frame f) (at n q.nodes)) actor
            ∙ told (input.Frame f);
      })
    where
      fits : f.to.actor ≡ st.ring.me.actor → (f.to.instance == 0 || f.to.instance == st.ring.me.instance) ≡ true → FitsInstance {a = fabric} (cluster s j.xs) f false
      fits actor instance t at_t =
          let one : Some t ≡ Some st = sym at_t ∙ ap (λ (n : ℕ). at n (cluster s j.xs).nodes) actor ∙ runs in
          let same : t ≡ st = cc in
          ap (λ (x : NodeState fabric). f.to.instance == 0 || f.to.instance == x.ring.me.instance) same ∙ instance

  -- one that it does not take makes it leave as a firing does, or nothing
  nothing_done : After (both_did fabric s.plan.config st.ring (begun st.ring) (idle st.above))
  nothing_done =
      let d : Did (NodeState fabric) = both_did fabric s.plan.config st.ring (begun st.ring) (idle st.above) in
      subst (λ (ns : List Member). Joined s ns last ((node_stepped turn (present last) d).step ∷ steps)) (sym (set_same ms place (Node st) here))
      (joined_silent s ms last steps (node_stepped turn (present last) d).step j (later_no_start turn (Some (present last)) later) refl
      (own_same (settings_of s.plan.config st.ring.me.actor) st.ring) refl refl)
    where
      ranges_same : (is : List Interval) → same_ranges is is ≡ true
      ranges_same [] = refl
      ranges_same (i ∷ is) = rw (eq-eqb i.lo i.lo refl, eq-eqb i.hi i.hi refl) (ranges_same is)

      fence_same : (o : Option ℕ) → same_fence o o ≡ true
      fence_same None = refl
      fence_same (Some n) = eq-eqb n n refl

      left_same : (b : Bool) → (b || not b) ≡ true
      left_same true = refl
      left_same false = refl

      own_same : (c : Settings) (r : Ring) → own_after c r r ≡ []
      own_same c r =
          let same : is_same_own c r r ≡ true = λ i. ranges_same r.token.ranges i && fence_same (fence_of c.answer r.slots) i && left_same (is_left r.phase) i in
          ap (own_unless c r) same

  pub node_hears : (f : Message) → HasNumber (frames_of steps) f → After (does (input.Frame f))
  node_hears f has = by_test (passes (settings_of s.plan.config st.ring.me.actor) st.ring f) refl
    where
      by_test : (b : Bool) → passes (settings_of s.plan.config st.ring.me.actor) st.ring f ≡ b → After (does (input.Frame f))
      by_test true e = takes f has e
      by_test false e = ⊎_elim
          (λ (same : does (input.Frame f) ≡ does input.Fire). subst After (sym same) node_fires)
          (λ (same : does (input.Frame f) ≡ both_did fabric s.plan.config st.ring (begun st.ring) (idle st.above)). subst After (sym same) nothing_done)
          (strange_frames fabric s.plan.config (present last) f st e)
