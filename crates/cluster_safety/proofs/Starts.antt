-- A start of an actor is a start of the cluster's.
use Rattle.std.proofs.Common.{arith, ◌≡◌, ◌≤◌, ◌<◌, ◌+◌, ℕ, true, false, List, [], ◌∷◌, ◌++◌, length, Option, Some, None, refl, ap, sym, subst, ◌∙◌}
use Rattle.std.specs.Prelude.{◌==◌, unwrap_or}
use Rattle.std.proofs.lemmas.Bool.Decides.{nat_tests}
use Rattle.std.specs.Prelude.{slice_get}
use Rattle.ring_safety.specs.ClusterEvents.{Begins, Cluster, Stands, kept_by, node_did}
use Rattle.ring_safety.specs.ClusterMoments.{node_entry}
use Rattle.edge_io.specs.declared.endpoint.Endpoint.{Endpoint}
use Rattle.unit_rules.specs.Fabric.{fabric}
use Rattle.fabric_lemmas.specs.Maps.{at, put}
use Rattle.fabric_terms.specs.declared.record.Record.{Record}
use Rattle.ring_points.specs.Whos.{arbiter_actor}
use Rattle.ring_points.specs.declared.who.Who.{Who}
use Rattle.run_facts.proofs.Kept.{at_put_other}
use Rattle.run_facts.proofs.Steps.{node_begun-told}
use Rattle.turn_rules.specs.Plans.{Setting}
use Rattle.turn_rules.specs.Steps.{Arbiter, Member, Node, Step, arbiter_stepped, node_stepped, present}
use Rattle.world_rules.specs.Arbiters.{ArbiterState, arbiter_begun}
use Rattle.world_rules.specs.Events.{arbiter_number, is_arbiter_actor}
use Rattle.world_rules.specs.Nodes.{NodeState, node_begun}
use Rattle.world_rules.specs.Schedules.{is_configured_arbiter}
use Rattle.world_rules.specs.Uppers.{Did, idle}
use Rattle.world_rules.specs.Worlds.{arbiter_who, numbers_of, posted}
use Rattle.cluster_safety.specs.Moments.{frames_of, last_reading}
use Rattle.cluster_safety.specs.Plans.{Rise, is_configured, is_configured_as}
use Rattle.cluster_safety.proofs.Echoes.{nothing_more, put_more}
use Rattle.cluster_safety.proofs.Joined.{Joined, cluster, joined_more, posted_length}
use Rattle.cluster_safety.proofs.Members.{AllBelow, arbiter_more, arbiters_more_still, below_more, below_next, match_more, names_more, names_of, no_arbiter, no_node, node_more, nodes_more_still}

module _ (s : Setting) (ms : List Member) (last : Option ℕ) (steps : List Step) (e : Endpoint) (rise : Rise 0 s.plan.actors) (j : Joined s ms last steps)
    (here : slice_get s.plan.actors (length ms) ≡ Some e) (configured : is_configured s.plan.config e.actor ≡ true) where
  below : AllBelow e.actor ms
  below = below_next 0 ms s.plan.actors e rise j.places here

  -- nothing is kept of it
  none_kept : kept_by (cluster s j.xs) e.actor ≡ []
  none_kept = ap (λ (o : Option (List Record)). unwrap_or o []) (j.kept e.actor below)

  pub node_starts : (reading : ℕ) → present last ≤ reading → is_arbiter_actor e.actor ≡ false →
      let d = node_begun fabric s.plan.config e.actor [] in Joined s (ms ++ Node d.state ∷ []) (Some reading) ((node_stepped 0 reading d).step ∷ steps)
  node_starts reading le kind =
      let c = s.plan.config in
      let q : Cluster fabric = cluster s j.xs in
      let d : Did (NodeState fabric) = node_begun fabric c e.actor [] in
      let step : Step = (node_stepped 0 reading d).step in
      let number : d.state.ring.me.actor ≡ e.actor = ap (λ (w : Who). w.actor) (node_begun-told fabric c e.actor []).name in
      let back : e.actor ≡ d.state.ring.me.actor = sym number in
      let under : AllBelow d.state.ring.me.actor ms = subst (λ (k : ℕ). AllBelow k ms) back below in
      joined_more s ms (ms ++ Node d.state ∷ []) last (Some reading) steps step (Begins e.actor reading) j (record {
        may = (ap (is_configured_as c e.actor) (sym kind) ∙ configured, ap (at e.actor) j.nodes ∙ no_node e.actor ms below, omega (arith, j.time, le));
        after = node_did (record q { time = reading }) e.actor d;
        does = ap (λ (rs : List Record). node_did (record q { time = reading }) e.actor (node_begun fabric c e.actor rs)) none_kept;
        tells =
            ap (λ (rs : List Record). Some (node_entry (record q { time = reading }) (node_begun fabric c e.actor rs))) none_kept
            ∙ ap (λ (n : ℕ). Some (record { who = d.state.ring.me; reading = Some reading; sent = numbers_of n d.sent; reports = d.told })) j.count;
        places = match_more ms s.plan.actors (Node d.state) e j.places here number (ap is_arbiter_actor number ∙ kind);
        nodes = (λ i. put (back i) d.state (j.nodes i)) ∙ sym (node_more ms d.state under);
        arbiters = j.arbiters ∙ sym (arbiters_more_still ms d.state);
        time = refl;
        kept = λ k b. kept_none d k (below_more k ms (Node d.state) b);
        frames = ap (posted d.state.ring.me d.sent) j.frames;
        count = ap (λ (n : ℕ). n + length d.sent) j.count ∙ sym (posted_length d.state.ring.me d.sent (frames_of steps));
        names = ap (λ (ws : List Who). ws ++ d.state.ring.me ∷ []) j.names ∙ sym (names_more ms d.state);
        reading = refl;
        keeps = λ actor. put_more d.state.ring.me.actor actor d.records q.kept;
      })
    where
      kept_none : (d : Did (NodeState fabric)) (k : ℕ) → AllBelow k ms × (d.state.ring.me.actor < k) →
          at k (put d.state.ring.me.actor (kept_by (cluster s j.xs) d.state.ring.me.actor ++ d.records) (cluster s j.xs).kept) ≡ None
      kept_none d k b =
          let less = b.1 in
          let other : (d.state.ring.me.actor == k) ≡ false = grind (arith, nat_tests) in
          at_put_other d.state.ring.me.actor (kept_by (cluster s j.xs) d.state.ring.me.actor ++ d.records) (cluster s j.xs).kept k other ∙ j.kept k b.0

  pub arbiter_starts : last_reading steps ≡ present last → is_arbiter_actor e.actor ≡ true →
      let n = arbiter_number e.actor in
      let a = arbiter_begun fabric s.plan.config n [] in
      Joined s (ms ++ Arbiter n a ∷ []) last ((arbiter_stepped 0 n (idle a)).step ∷ steps)
  arbiter_starts reading kind =
      let c = s.plan.config in
      let q : Cluster fabric = cluster s j.xs in
      let n : ℕ = arbiter_number e.actor in
      let a : ArbiterState fabric = arbiter_begun fabric c n [] in
      let step : Step = (arbiter_stepped 0 n (idle a)).step in
      let number : arbiter_actor n ≡ e.actor = number_back e.actor kind in
      let under : AllBelow (arbiter_actor n) ms = subst (λ (k : ℕ). AllBelow k ms) (sym number) below in
      let kept : kept_by q (arbiter_actor n) ≡ [] = ap (kept_by q) number ∙ none_kept in
      joined_more s ms (ms ++ Arbiter n a ∷ []) last last steps step (Stands n) j (record {
        may = (ap (is_configured_arbiter c) number ∙ ap (is_configured_as c e.actor) (sym kind) ∙ configured, ap (at n) j.arbiters ∙ no_arbiter n ms under);
        after = record q { arbiters = put n a q.arbiters };
        does = ap (λ (rs : List Record). record q { arbiters = put n (arbiter_begun fabric c n rs) q.arbiters }) kept;
        tells = refl;
        places = match_more ms s.plan.actors (Arbiter n a) e j.places here number (ap is_arbiter_actor number ∙ kind);
        nodes = j.nodes ∙ sym (nodes_more_still ms n a);
        arbiters = ap (put n a) j.arbiters ∙ sym (arbiter_more ms n a under);
        time = j.time;
        kept = λ k b. j.kept k (below_more k ms (Arbiter n a) b).0;
        frames = j.frames;
        count = j.count;
        names = j.names ∙ ap names_of (sym (nodes_more_still ms n a));
        reading = reading;
        keeps = λ actor. nothing_more ((arbiter_who n).actor == actor) (kept_by q actor) [] refl;
      })
    where
      number_back : (actor : ℕ) → is_arbiter_actor actor ≡ true → arbiter_actor (arbiter_number actor) ≡ actor
      number_back actor h = let above : 32768 < actor = grind (arith, nat_tests) in omega arith
