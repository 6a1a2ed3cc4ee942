-- The machine follows a step of a node.
use Rattle.std.proofs.Common.{◌≡◌, ℕ, ◌<◌, Bool, true, false, ◌||◌, ◌++◌, Some, refl, sym, ap, ◌∙◌, subst, ⊎_elim, arith, List}
use Rattle.std.specs.List.{list_any}
use Rattle.fabric_terms.specs.declared.config.FabricConfig.{FabricConfig}
use Rattle.fabric_terms.specs.declared.report.Report.{Report}
use Rattle.fabric_terms.specs.Places.{tells_leave}
use Rattle.join_phases.specs.Phases.{is_left}
use Rattle.ring_points.specs.declared.who.Who.{Who}
use Rattle.ring_points.specs.Whos.{node_instance}
use Rattle.ring_machine.proofs.Lists.{IsMember-append_cases}
use Rattle.ring_machine.specs.World as machine
use Rattle.ring_machine.specs.Events as events
use Rattle.ring_refinement.specs.Images.{machine_of}
use Rattle.ring_refinement.proofs.Steps.{step_is_deeds_lem}
use Rattle.ring_refinement.specs.Laws.{Comes}
use Rattle.ring_refinement.specs.Moves.{MovedBy, places_of}
use Rattle.ring_refinement.specs.Refined.{Refined}
use Rattle.ring_rules.specs.declared.input.Input.{Input}
use Rattle.ring_rules.specs.declared.input.Input.TheVariants as input
use Rattle.ring_rules.specs.Owns.{own_after, own_unless, is_same_own}
use Rattle.ring_rules.specs.Rings.{Ring, Settings, Work, settings_of}
use Rattle.ring_rules.specs.Steps.{ring_step}
use Rattle.world_rules.specs.Events.{node_acts}
use Rattle.fabric_lemmas.specs.Maps.{at}
use Rattle.world_rules.specs.Nodes.{NodeState, above_acts, both_did, boots_of}
use Rattle.world_rules.specs.Uppers.{Upper, Did}
use Rattle.world_rules.specs.Worlds as real
use Rattle.world_rules.specs.Worlds.{World, kept_of, node_acted}
use Rattle.world_rules.proofs.Rows.{node_step-is}
use Rattle.world_rules.specs.Above.{KeepsOut, StaysAbove, is_ring_frame}
use Rattle.ring_safety.proofs.Follows.{Follows, known_said, known_other, all_said, none_passes, places_in, next_of}
use Rattle.run_facts.proofs.Happens.{CameTo}
use Rattle.run_facts.proofs.Kept.{boots_still, no_boots, no_entries}
use Rattle.ring_safety.proofs.Moves.{moves, moved_quietly, over_quietly, others_move}
use Rattle.ring_safety.proofs.NodeFollows.{Named, Follow, node_follows}
use Rattle.run_facts.proofs.Steps.{Acted, acted_told, acts_out, ring_stepped}
use Rattle.ring_safety.proofs.Tales.{Tale, tale_in}

-- a world of the machine that follows
pub record Followed {a : Upper} (c : FabricConfig) (w : World a) (t : Tale) : Type 0 where
  pub world : machine.World
  pub follows : Follows c w t world

-- what is owned moves nothing
own_moves : (set : Settings) (old new : Ring) → list_any moves (own_after set old new) ≡ false
own_moves set old new = go (is_same_own set old new)
  where
    go : (b : Bool) → list_any moves (own_unless set new b) ≡ false
    go true = refl
    go false = refl

-- the names of running instances
pub record Numbered {a : Upper} (w : World a) : Type 0 where
  pub name : (node : ℕ) (s : real.Running a) → at node w.nodes ≡ Some s → s.node.ring.me ≡ node_instance node (boots_of (kept_of w node))
  pub counted : (node : ℕ) (s : real.Running a) → at node w.nodes ≡ Some s → 0 < boots_of (kept_of w node)

pub named : {a : Upper} (w : World a) → Numbered w → Named w
named w n node s there = ap (λ (z : Who). z.actor) (n.name node s there)

module _ (a : Upper) (c : FabricConfig) (w : World a) (t : Tale) (m : machine.World) (n : Numbered w) (f : Follows c w t m) where
  -- a frame that comes was sent
  comes : (node : ℕ) (i : Input) → CameTo w node i → Comes c m i
  comes node (input.Frame g) came = (f.frames g came.0).posted
  comes node input.Fire came = tt
  comes node (input.Do command) came = tt

  -- with what the ring and what runs above did
  module _ (node : ℕ) (s : real.Running a) (k : Work) (u : Did a.Above) where
    abbrev x : Who
    x = s.node.ring.me

    abbrev last : List Report
    last = own_after (settings_of c x.actor) s.node.ring k.ring

    acts_with : at node w.nodes ≡ Some s → KeepsOut u → (r : Refined c m x k) → Acted c s.node.ring k.ring u.records (k.told ++ u.told ++ last) →
        Follow c w t m r.after x node s.reading s.pairs (both_did a c s.node.ring k u)
    acts_with there out r acted = record {
      name = acted.name;
      actor = named w n node s there;
      before = λ z h. let same : s ≡ z = cc (there, h) in ap (λ (z : real.Running a). z.node.ring.me) (sym same);
      inv = r.inv;
      time = r.beside.time ∙ f.time;
      whole = r.beside.whole;
      starts = λ q.
          (λ i. r.beside.starts i q)
          ∙ (f.starts q ∙ sym (boots_still w k.ring.me u.records (k.sent ++ u.sent) (no_boots u.records out.records) q));
      shows = r.shows;
      clock = λ stay.
          let stayed = stayed_before (list_any tells_leave (k.told ++ u.told ++ last)) (is_left s.node.ring.phase) (acted.leaves ∙ stay) in
          let old = f.clock node s there stayed in
          record { reads = r.beside.reading ∙ old.reads; read = r.beside.pairs ∙ old.read };
      others = r.beside.others;
      sent = r.beside.sent;
      tables = r.beside.first_accuser;
      claims = r.beside.first_claimer;
      accuses = λ z. no_entries z u.records out.records;
      says = λ z h.
          ⊎_elim (λ g. known_said c.lease r.after.sent x z.0 z.1 one (all_said c.lease r.after.sent x k.sent z r.sent g))
          (λ g. known_other c.lease r.after.sent x z.0 z.1 (none_passes (λ q. is_ring_frame q.1) u.sent z out.sends g))
          (IsMember-append_cases z k.sent u.sent h);
      moved =
          moved_quietly x (k.told ++ u.told) last (next_of m x) (next_of r.after x) (places_in t m) (places_in t r.after) quiet_last
          (moved_quietly x k.told u.told (next_of m x) (next_of r.after x) (places_in t m) (places_in t r.after) (others_move u.told out.tells) moved);
      dies = r.dies;
      over =
          over_quietly (machine_of c) r.after (k.told ++ u.told) last quiet_last
          (over_quietly (machine_of c) r.after k.told u.told (others_move u.told out.tells) r.over);
    }
      where
        moved : MovedBy x k.told (next_of m x) (places_in t m) (next_of r.after x) (places_in t r.after)
        moved =
            subst (λ (z : Who). MovedBy x k.told (next_of m x) (places_of z m) (next_of r.after x) (places_of z r.after)) (r.beside.whole ∙ f.whole) r.moved

        stayed_before : (told old : Bool) → (told || old) ≡ false → old ≡ false
        stayed_before true old h = absurd (cc (h))
        stayed_before false old h = h

        one : x.instance ≡ 0 → ⊥
        one h = let lt = n.counted node s there in let e = ap (λ (z : Who). z.instance) (n.name node s there) in omega arith

        quiet_last : list_any moves last ≡ false
        quiet_last = own_moves (settings_of c x.actor) s.node.ring k.ring

  pub acts_follow : StaysAbove a → events.IsSound (machine_of c) → (node : ℕ) (i : Input) (s : real.Running a) → at node w.nodes ≡ Some s →
      CameTo w node i → Followed c (node_acts a c w node i s).world (tale_in (node_acts a c w node i s).entry t)
  acts_follow stays sound node i s there came =
      let x : Who = s.node.ring.me in
      let set : Settings = settings_of c x.actor in
      let k : Work = ring_step set s.reading i s.node.ring in
      let u : Did a.Above = above_acts a c s.reading i s.node k.ring in
      let out = acts_out a stays c s.reading i s.node k.ring in
      let r : Refined c m x k =
      step_is_deeds_lem c x.actor s.reading m x s.node.ring i sound f.inv (f.shows node s there)
      (λ stay. (f.clock node s there stay).reads) (comes node i came) in
      let acted = acted_told c x.actor s.node.ring k u.told u.records (ring_stepped set s.reading i s.node.ring) out.tells out.records in
      subst
      (λ (d : Did (NodeState a)).
      Followed c (node_acted a w node s.reading s.pairs d).world (tale_in (node_acted a w node s.reading s.pairs d).entry t))
      (sym (node_step-is a c s.reading i s.node))
      (record {
        world = r.after;
        follows =
            node_follows c w t m r.after x node s.reading s.pairs (both_did a c s.node.ring k u) (named w n) f
            (acts_with node s k u there out r acted);
      })
