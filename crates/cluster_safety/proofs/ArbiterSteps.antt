-- A step of an arbitrator in a turn is a step of the cluster, or nothing.
use Rattle.std.proofs.Common.{arith, ◌≡◌, ◌≤◌, ◌<◌, ◌+◌, ◌-◌, ℕ, Bool, true, false, not, List, ◌∷◌, ◌++◌, length, Option, Some, None, refl, ap, sym, subst, ◌∙◌}
use Rattle.std.specs.Prelude.{◌==◌, nat_lt, slice_get, slice_set}
use Rattle.std.proofs.lemmas.Bool.{and_parts, eqb-true}
use Rattle.std.proofs.lemmas.Bool.Decides.{nat_tests}
use Rattle.ring_safety.specs.ClusterEvents.{FitsInstance, Hears, arbiter_did, arbiter_does, frame_of, hears, hears_as, kept_by}
use Rattle.ring_safety.specs.ClusterMoments.{arbiter_acts_in, heard_in, hears_in}
use Rattle.unit_rules.specs.Fabric.{fabric}
use Rattle.fabric_lemmas.specs.Maps.{at, put}
use Rattle.fabric_terms.specs.declared.message.Message.{Message}
use Rattle.ring_points.specs.Whos.{arbiter_actor}
use Rattle.ring_rules.specs.Arbiters.{takes_frame}
use Rattle.run_facts.proofs.Kept.{at_put_other}
use Rattle.turn_rules.specs.Plans.{Setting}
use Rattle.turn_rules.specs.Steps.{Member, Arbiter, Step, arbiter_stepped, present}
use Rattle.world_rules.specs.Arbiters.{ArbiterState, arbiter_step, arbiter_takes}
use Rattle.world_rules.specs.Events.{arbiter_number, is_arbiter_actor}
use Rattle.world_rules.specs.Uppers.{Did, idle}
use Rattle.world_rules.specs.Worlds.{arbiter_who, numbers_of, posted}
use Rattle.cluster_safety.specs.Moments.{frames_of, last_reading}
use Rattle.cluster_safety.specs.Plans.{Rise}
use Rattle.cluster_safety.proofs.Echoes.{put_more}
use Rattle.cluster_safety.proofs.Joined.{Joined, cluster, joined_more, joined_silent, posted_length, running_still}
use Rattle.cluster_safety.proofs.Members.{AllBelow, arbiter_here, arbiter_set, below_set, match_set, names_of, nodes_still, set_same}
use Rattle.cluster_safety.proofs.NodeSteps.{HasNumber, later_no_start}

-- a frame that the arbitrator does not take
idle_with : (s : Setting) (k : ℕ) (f : Message) (a : ArbiterState fabric) (takes : Bool) → takes ≡ false → arbiter_takes fabric s.plan.config k f a f.body takes ≡ idle a
idle_with s k f a true e = cc
idle_with s k f a false e = refl

not_taken : (s : Setting) (k : ℕ) (f : Message) (a : ArbiterState fabric) → takes_frame k f ≡ false → arbiter_step fabric s.plan.config k f a ≡ idle a
unfolding arbiter_step
not_taken s k f a e = idle_with s k f a (takes_frame k f) e

module _ (s : Setting) (ms : List Member) (last : Option ℕ) (steps : List Step) (turn place k : ℕ) (a : ArbiterState fabric) (rise : Rise 0 s.plan.actors) (later : 1 ≤ turn)
    (j : Joined s ms last steps) (here : slice_get ms place ≡ Some (Arbiter k a)) (kind : is_arbiter_actor (arbiter_actor k) ≡ true)
    (reading : last_reading steps ≡ present last) where
  abbrev pub After : Did (ArbiterState fabric) → Type 0
  After d = Joined s (slice_set ms place (Arbiter k d.state)) last ((arbiter_stepped turn k d).step ∷ steps)

  runs : at k (cluster s j.xs).arbiters ≡ Some a
  runs = ap (at k) j.arbiters ∙ arbiter_here 0 ms s.plan.actors place k a rise j.places here

  -- nothing is done
  pub arbiter_idle : After (idle a)
  arbiter_idle =
      subst (λ (ns : List Member). Joined s ns last ((arbiter_stepped turn k (idle a)).step ∷ steps)) (sym (set_same ms place (Arbiter k a) here))
      (joined_silent s ms last steps (arbiter_stepped turn k (idle a)).step j (later_no_start turn None later) refl refl refl reading)

  takes : (f : Message) → HasNumber (frames_of steps) f → takes_frame k f ≡ true → After (arbiter_step fabric s.plan.config k f a)
  takes f has take =
      let c = s.plan.config in
      let q = cluster s j.xs in
      let d : Did (ArbiterState fabric) = arbiter_step fabric c k f a in
      let step : Step = (arbiter_stepped turn k d).step in
      let parts = and_parts (f.to.actor == arbiter_actor k) (not (nat_lt (arbiter_actor 0) f.from.actor)) take in
      let actor : f.to.actor ≡ arbiter_actor k = eqb-true f.to.actor (arbiter_actor k) parts.0 in
      let arbiter : is_arbiter_actor f.to.actor ≡ true = ap is_arbiter_actor actor ∙ kind in
      let number : arbiter_number f.to.actor ≡ k = omega (arith, actor) in
      let there : frame_of q has.number ≡ Some f =
      ap (λ (fs : List Message). slice_get fs (q.count - has.number)) j.frames ∙ ap (λ (n : ℕ). slice_get (frames_of steps) (n - has.number)) j.count ∙ has.there in
      let high : has.number ≤ q.count = let h = has.high in omega (arith, j.count) in
      joined_more s ms (slice_set ms place (Arbiter k d.state)) last last steps step (Hears has.number) j (record {
        may = (f, (has.low, high, there, subst (FitsInstance {a = fabric} q f) (sym arbiter) tt));
        after = arbiter_did q k d;
        does =
            ap (hears fabric c q) there
            ∙ ap (hears_as fabric c q f) arbiter
            ∙ ap (λ (n : ℕ). arbiter_does fabric c q n f (at n q.arbiters)) number
            ∙ ap (arbiter_does fabric c q k f) runs;
        tells =
            ap (heard_in fabric c q) there
            ∙ ap (hears_in fabric c q f) arbiter
            ∙ ap (λ (n : ℕ). arbiter_acts_in fabric c q n f (at n q.arbiters)) number
            ∙ ap (arbiter_acts_in fabric c q k f) runs
            ∙ ap (λ (n : ℕ). Some (record { who = arbiter_who k; reading = None; sent = numbers_of n d.sent; reports = d.told })) j.count;
        places = match_set ms s.plan.actors place (Arbiter k a) (Arbiter k d.state) j.places here refl kind;
        nodes = j.nodes ∙ sym (nodes_still ms place k a d.state here);
        arbiters = ap (put k d.state) j.arbiters ∙ sym (arbiter_set 0 ms s.plan.actors place k a d.state rise j.places here);
        time = j.time;
        kept = λ n below. kept_none d n (below_set n ms place (Arbiter k a) (Arbiter k d.state) here refl below);
        frames = ap (posted (arbiter_who k) d.sent) j.frames;
        count = ap (λ (n : ℕ). n + length d.sent) j.count ∙ sym (posted_length (arbiter_who k) d.sent (frames_of steps));
        names = running_still step steps (later_no_start turn None later) ∙ j.names ∙ ap names_of (sym (nodes_still ms place k a d.state here));
        reading = reading;
        keeps = λ actor. put_more (arbiter_who k).actor actor d.records q.kept;
      })
    where
      kept_none : (d : Did (ArbiterState fabric)) (n : ℕ) → AllBelow n ms × (arbiter_actor k < n) →
          at n (put (arbiter_who k).actor (kept_by (cluster s j.xs) (arbiter_who k).actor ++ d.records) (cluster s j.xs).kept) ≡ None
      kept_none d n b =
          let less = b.1 in
          let other : ((arbiter_who k).actor == n) ≡ false = grind (arith, nat_tests) in
          at_put_other (arbiter_who k).actor (kept_by (cluster s j.xs) (arbiter_who k).actor ++ d.records) (cluster s j.xs).kept n other ∙ j.kept n b.0

  pub arbiter_hears : (f : Message) → HasNumber (frames_of steps) f → After (arbiter_step fabric s.plan.config k f a)
  arbiter_hears f has = by_test (takes_frame k f) refl
    where
      by_test : (b : Bool) → takes_frame k f ≡ b → After (arbiter_step fabric s.plan.config k f a)
      by_test true e = takes f has e
      by_test false e = subst After (sym (not_taken s k f a e)) arbiter_idle
