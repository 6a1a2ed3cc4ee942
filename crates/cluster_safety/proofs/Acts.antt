-- What an input does to a process, it does to the cluster.
use Rattle.std.proofs.Common.{arith, ◌≡◌, ◌≤◌, ◌<◌, ℕ, zero, suc, Bool, true, false, not, List, [], ◌∷◌, length, Option, Some, None, refl, ap, sym, ◌∙◌}
use Rattle.std.specs.Prelude.{Contains, slice_get}
use Rattle.std.proofs.lemmas.Option.{slice_get_within}
use Rattle.edge_io.specs.declared.endpoint.Endpoint.{Endpoint}
use Rattle.unit_rules.specs.Fabric.{fabric}
use Rattle.ring_rules.specs.declared.input.Input.{Input}
use Rattle.ring_rules.specs.declared.input.Input.TheVariants as input
use Rattle.turn_rules.specs.Plans.{Setting, is_node_at, is_of_node}
use Rattle.turn_rules.specs.Process.{Process, acts, acts_as, acts_at, acts_with, rests_at, unless_full}
use Rattle.turn_rules.specs.Steps.{Arbiter, Member, Node, arbiter_stepped, exceeds, present, rested, stepped}
use Rattle.world_rules.specs.Arbiters.{ArbiterState, arbiter_step}
use Rattle.world_rules.specs.Events.{is_arbiter_actor}
use Rattle.world_rules.specs.Nodes.{NodeState}
use Rattle.world_rules.specs.Schedules.{command_names}
use Rattle.world_rules.specs.Uppers.{Did, idle}
use Rattle.cluster_safety.specs.Moments.{frames_of, last_reading}
use Rattle.cluster_safety.specs.Plans.{Rise}
use Rattle.cluster_safety.proofs.ArbiterSteps.{arbiter_hears, arbiter_idle}
use Rattle.cluster_safety.proofs.Joined.{Joined, joined_silent}
use Rattle.cluster_safety.proofs.Members.{actor_here, length_still}
use Rattle.cluster_safety.proofs.NodeSteps.{later_no_start, node_bid, node_fires, node_hears, number_of}

-- the process goes with a cluster
abbrev pub JoinedBy : Setting → Process → Type 0
JoinedBy s p = Joined s p.members p.last p.steps

-- a frame was sent before, and a command names what the actor may be told of
abbrev pub FitsInput : Setting → Process → ℕ → Input → Type 0
FitsInput s p place input.Fire = Unit {0}
FitsInput s p place (input.Frame f) = Contains (frames_of p.steps) f
FitsInput s p place (input.Do d) = (e : Endpoint) → slice_get s.plan.actors place ≡ Some e → command_names s.plan.config e.actor d ≡ true

pub record Acts (s : Setting) (p q : Process) : Type 0 where
  pub joined : JoinedBy s q
  pub same_length : length q.members ≡ length p.members
  pub reading : last_reading q.steps ≡ present q.last

pub none_past : {X : Type 0} (xs : List X) (k : ℕ) → slice_get xs k ≡ None → length xs ≤ k
none_past [] k h = omega arith
none_past (x ∷ xs) zero h = cc
none_past (x ∷ xs) (suc k) h = let more = none_past xs k h in omega arith

-- at a place of an arbitrator no node takes turns
no_node_at : (s : Setting) (place : ℕ) (e : Endpoint) → slice_get s.plan.actors place ≡ Some e → is_arbiter_actor e.actor ≡ true → is_node_at s.plan place ≡ false
no_node_at s place e here kind = ap is_of_node here ∙ ap not kind

module _ (s : Setting) (p : Process) (turn place : ℕ) (rise : Rise 0 s.plan.actors) (later : 1 ≤ turn) (j : JoinedBy s p) where
  node_acts : (i : Input) (st : NodeState fabric) → FitsInput s p place i → slice_get p.members place ≡ Some (Node st) →
      Acts s p (acts_as p place (stepped s.plan.config turn p.last i (Node st)))
  unfolding stepped exceeds
  node_acts input.Fire st fits here =
      let e = actor_here p.members s.plan.actors place (Node st) j.places here in
      record { joined = node_fires s p.members p.last p.steps turn place st rise later j here e.1.2; same_length = length_still p.members place _; reading = refl }
  node_acts (input.Frame f) st fits here =
      let e = actor_here p.members s.plan.actors place (Node st) j.places here in
      record {
        joined = node_hears s p.members p.last p.steps turn place st rise later j here e.1.2 f (number_of (frames_of p.steps) f fits);
        same_length = length_still p.members place _;
        reading = refl;
      }
  node_acts (input.Do d) st fits here =
      let e = actor_here p.members s.plan.actors place (Node st) j.places here in
      let named : command_names s.plan.config st.ring.me.actor d ≡ true = ap (λ (k : ℕ). command_names s.plan.config k d) e.1.1 ∙ fits e.0 e.1.0 in
      record { joined = node_bid s p.members p.last p.steps turn place st rise later j here e.1.2 d named; same_length = length_still p.members place _; reading = refl }

  -- an arbitrator's step is done, or what it makes cannot be kept
  arbiter_did : (k : ℕ) (d : Did (ArbiterState fabric)) → last_reading p.steps ≡ present p.last → JoinedBy s (acts_with p place (arbiter_stepped turn k d)) →
      Acts s p (acts_as p place (arbiter_stepped turn k d))
  arbiter_did k d reading done = by_test (exceeds (Arbiter k d.state))
    where
      by_test : (b : Bool) → Acts s p (unless_full p b (acts_with p place (arbiter_stepped turn k d)))
      by_test true = record { joined = j; same_length = refl; reading = reading }
      by_test false = record { joined = done; same_length = length_still p.members place (Arbiter k d.state); reading = reading }

  arbiter_acts : (i : Input) (k : ℕ) (a : ArbiterState fabric) → FitsInput s p place i → last_reading p.steps ≡ present p.last →
      slice_get p.members place ≡ Some (Arbiter k a) → Acts s p (acts_as p place (stepped s.plan.config turn p.last i (Arbiter k a)))
  unfolding stepped
  arbiter_acts input.Fire k a fits reading here =
      let e = actor_here p.members s.plan.actors place (Arbiter k a) j.places here in
      arbiter_did k (idle a) reading (arbiter_idle s p.members p.last p.steps turn place k a rise later j here e.1.2 reading)
  arbiter_acts (input.Frame f) k a fits reading here =
      let e = actor_here p.members s.plan.actors place (Arbiter k a) j.places here in
      arbiter_did k (arbiter_step fabric s.plan.config k f a) reading
      (arbiter_hears s p.members p.last p.steps turn place k a rise later j here e.1.2 reading f (number_of (frames_of p.steps) f fits))
  arbiter_acts (input.Do d) k a fits reading here =
      let e = actor_here p.members s.plan.actors place (Arbiter k a) j.places here in
      arbiter_did k (idle a) reading (arbiter_idle s p.members p.last p.steps turn place k a rise later j here e.1.2 reading)

  -- an actor that has not started, where all have, is none of the plan
  no_node_there : length s.plan.actors ≤ length p.members → slice_get p.members place ≡ None → is_node_at s.plan place ≡ false
  no_node_there all here = by_actor (slice_get s.plan.actors place) refl
    where
      by_actor : (o : Option Endpoint) → slice_get s.plan.actors place ≡ o → is_node_at s.plan place ≡ false
      by_actor None none = ap is_of_node none
      by_actor (Some e) some =
          let past = none_past p.members place here in
          let within = slice_get_within s.plan.actors place e some in
          let no : place < place = omega (arith, all) in
          absurd (omega (arith, no))

  -- a node's turn ends without a firing
  pub rests_joined : length s.plan.actors ≤ length p.members → is_node_at s.plan place ≡ true → Acts s p (rests_at turn p (slice_get p.members place))
  rests_joined all node = by_member (slice_get p.members place) refl
    where
      by_member : (o : Option Member) → slice_get p.members place ≡ o → Acts s p (rests_at turn p o)
      by_member (Some (Node st)) here = record {
        joined =
            joined_silent s p.members p.last p.steps (rested turn p.last (Node st)) j (later_no_start turn (Some (present p.last)) later) refl refl refl refl;
        same_length = refl;
        reading = refl;
      }
      by_member (Some (Arbiter k a)) here =
          let e = actor_here p.members s.plan.actors place (Arbiter k a) j.places here in
          let kind : is_arbiter_actor e.0.actor ≡ true = ap is_arbiter_actor (sym e.1.1) ∙ e.1.2 in
          let no : true ≡ false = sym node ∙ no_node_at s place e.0 e.1.0 kind in
          cc
      by_member None here = let no : true ≡ false = sym node ∙ no_node_there all here in cc

  -- all actors have started, and at an arbitrator's place the clock's last reading is that of the last step of a node
  pub acts_joined : (i : Input) → FitsInput s p place i → length s.plan.actors ≤ length p.members →
      (is_node_at s.plan place ≡ false → last_reading p.steps ≡ present p.last) → Acts s p (acts s turn p place i)
  acts_joined i fits all settled = by_member (slice_get p.members place) refl
    where
      by_member : (o : Option Member) → slice_get p.members place ≡ o → Acts s p (acts_at s turn p place i o)
      by_member (Some (Node st)) here = node_acts i st fits here
      by_member (Some (Arbiter k a)) here =
          let e = actor_here p.members s.plan.actors place (Arbiter k a) j.places here in
          let kind : is_arbiter_actor e.0.actor ≡ true = ap is_arbiter_actor (sym e.1.1) ∙ e.1.2 in
          arbiter_acts i k a fits (settled (no_node_at s place e.0 e.1.0 kind)) here
      by_member None here = record { joined = j; same_length = refl; reading = settled (no_node_there all here) }
