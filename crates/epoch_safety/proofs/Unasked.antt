-- Nobody answers about names who was not asked.
use Rattle.std.proofs.Common.{◌≡◌, ℕ, ◌==◌, ◌||◌, Bool, true, false, not, ◌&&◌, List, [], ◌∷◌, ◌++◌, Option, None, Some, refl, ap, subst}
use Rattle.std.specs.Prelude.{Contains}
use Rattle.std.specs.List.{list_any}
use Rattle.fabric_lemmas.specs.Maps.{at}
use Rattle.fabric_lemmas.specs.Members.{IsMember}
use Rattle.fabric_terms.specs.declared.config.FabricConfig.{FabricConfig}
use Rattle.fabric_terms.specs.declared.event.Event.{Event}
use Rattle.fabric_terms.specs.declared.event.Event.TheVariants.{Start, Stop, Tick, Fire, Give, Do, Junk}
use Rattle.fabric_terms.specs.declared.message.Message.{Message}
use Rattle.fabric_terms.specs.declared.record.Record.{Record}
use Rattle.fabric_terms.specs.declared.report.Report.{Report}
use Rattle.fabric_terms.specs.declared.report.Report.TheVariants as report
use Rattle.join_phases.specs.Phases.{is_left}
use Rattle.ring_points.specs.declared.who.Who.{Who}
use Rattle.ring_points.specs.Whos.{node_instance}
use Rattle.ring_rules.specs.declared.input.Input.{Input}
use Rattle.ring_rules.specs.declared.input.Input.TheVariants as input
use Rattle.ring_rules.specs.Rings.{Settings, Work, settings_of}
use Rattle.ring_rules.specs.Slots.{fence_of}
use Rattle.ring_rules.specs.Starts.{node_started}
use Rattle.ring_rules.specs.Steps.{ring_step}
use Rattle.unit_rules.specs.Deeds.{Acted}
use Rattle.unit_rules.specs.Loads.{site_of}
use Rattle.unit_rules.specs.Stays.{units_stay}
use Rattle.unit_rules.specs.Steps.{Failover, failover_step}
use Rattle.unit_rules.specs.Units.{units}
use Rattle.world_rules.specs.Arbiters.{ArbiterState}
use Rattle.world_rules.specs.Events.{acts_at, arbiter_number, arbiter_stops, arrives, arrives_at, arrives_at_arbiter, arrives_at_node, arrives_if, is_arbiter_actor, node_acts, node_stops, starts_with, stops, world_step}
use Rattle.world_rules.specs.Nodes.{above_if, comes_above, instance_begun, is_spent}
use Rattle.world_rules.specs.Worlds.{World, Running, frame_in, kept_of}
use Rattle.world_rules.proofs.Rows.{node_begun-is, node_step-is}
use Rattle.run_facts.proofs.ArbiterSteps.{arbiter_stepped}
use Rattle.run_facts.specs.RingApart.{is_unit_report}
use Rattle.run_facts.proofs.ApartSaying.{none_more}
use Rattle.run_facts.proofs.ApartSteps.{starts_apart_lem}
use Rattle.epoch_safety.specs.Answers.{OnlyQuestionsAreAnswered}
use Rattle.run_promises.specs.Questions.{is_question, tells_names}
use Rattle.run_promises.specs.Reports.{IsAmong}
use Rattle.epoch_safety.proofs.Asked.{apart, from_above}
use Rattle.epoch_safety.proofs.Members.{contained}
use Rattle.epoch_safety.proofs.StepCommits.{IsTold, asks_in, reports_told, step_told}

was_asked : (r : Report) → tells_names r ≡ true → (asked : Bool) (old new : Failover) → IsTold asked old new r → asked ≡ true
was_asked (report.Resolved p name value) h asked old new told = told
was_asked (report.Unresolved p name) h asked old new told = told
was_asked (report.NameList p names) h asked old new told = told
was_asked r h asked old new told = absurd (cc (h))

module _ (c : FabricConfig) (w : World units) (x : Who) (r : Report) (names : tells_names r ≡ true) where
  -- of these nothing is told
  pub never : (rs : List Report) → list_any is_unit_report rs ≡ false → Contains rs r → ⊥
  never rs none h = apart r names rs none (contained r rs h)

  -- Steps of nodes.

  pub at_running : (node : ℕ) (i : Input) (s : Running units) → IsAmong (node_acts units c w node i s).entry x r → asks_in i ≡ true
  at_running node i s a =
      go passes
      (from_above r names set s.reading i s.node.ring (above_if units c s.reading new.ring s.node.above i passes).told
      (contained r _ (subst (λ (rs : List Report). Contains rs r) (ap (λ d. d.told) (node_step-is units c s.reading i s.node)) a.1)))
    where
      set : Settings
      set = settings_of c s.node.ring.me.actor

      new : Work
      new = ring_step set s.reading i s.node.ring

      passes : Bool
      passes = not (is_left new.ring.phase) && comes_above set s.node.ring i

      row : Acted Failover
      row = failover_step (site_of c new.ring.me.actor) s.reading new.ring s.node.above i

      go : (b : Bool) → IsMember r (above_if units c s.reading new.ring s.node.above i b).told → asks_in i ≡ true
      go false m = absurd m
      go true m =
          was_asked r names (asks_in i) s.node.above row.state
          (reports_told (asks_in i) s.node.above row.state row.deeds r
          (step_told (asks_in i) s.node.above (site_of c new.ring.me.actor) s.reading new.ring i refl) m)

  at_node : (node : ℕ) (i : Input) (o : Option (Running units)) → IsAmong (acts_at units c w node i o).entry x r → asks_in i ≡ true
  at_node node i None a = absurd a
  at_node node i (Some s) a = at_running node i s a

  -- Frames. An arbitrator tells nothing.

  at_arbiter : (g : Message) (arbiter : ℕ) (o : Option (ArbiterState units)) → IsAmong (arrives_at_arbiter units c w g arbiter o).entry x r → ⊥
  at_arbiter g arbiter None a = a
  at_arbiter g arbiter (Some s) a =
      contained r [] (subst (λ (rs : List Report). Contains rs r) (arbiter_stepped units units_stay c arbiter g s).silent a.1)

  at_instance : (g : Message) (s : Running units) (here : Bool) → IsAmong (arrives_if units c w g s here).entry x r → false ≡ true
  at_instance g s true a = at_running g.to.actor (input.Frame g) s a
  at_instance g s false a = absurd a

  at_addressee : (g : Message) (o : Option (Running units)) → IsAmong (arrives_at_node units c w g o).entry x r → false ≡ true
  at_addressee g None a = absurd a
  at_addressee g (Some s) a = at_instance g s (g.to.instance == 0 || g.to.instance == s.node.ring.me.instance) a

  by_frame : (g : Message) (arbiter : Bool) → IsAmong (arrives_at units c w g arbiter).entry x r → false ≡ true
  by_frame g true a = absurd (at_arbiter g (arbiter_number g.to.actor) (at (arbiter_number g.to.actor) w.arbiters) a)
  by_frame g false a = at_addressee g (at g.to.actor w.nodes) a

  by_number : (o : Option Message) → IsAmong (arrives units c w o).entry x r → false ≡ true
  by_number None a = absurd a
  by_number (Some g) a = by_frame g (is_arbiter_actor g.to.actor) a

  -- Starts and stops.

  pub at_start : (actor : ℕ) (reading : Option ℕ) (records : List Record) → IsAmong (starts_with units c w actor reading records).entry x r → ⊥
  at_start actor None records a = contained r [] a.1
  at_start actor (Some reading) records a =
      never (begun.told ++ report.Own begun.ring.token.ranges (fence_of c.answer begun.ring.slots) ∷ [])
      (none_more is_unit_report begun.told _ (starts_apart_lem c (node_instance actor (instance_begun records)) (is_spent records)).tells refl)
      (subst (λ (rs : List Report). Contains rs r) (ap (λ d. d.told) (node_begun-is units c actor records)) a.1)
    where
      begun : Work
      begun = node_started c (node_instance actor (instance_begun records)) (is_spent records)

  at_node_stop : (actor : ℕ) (o : Option (Running units)) → IsAmong (node_stops units w actor o).entry x r → ⊥
  at_node_stop actor None a = a
  at_node_stop actor (Some s) a = never (report.Stopped ∷ []) refl a.1

  at_arbiter_stop : (arbiter : ℕ) (o : Option (ArbiterState units)) → IsAmong (arbiter_stops units w arbiter o).entry x r → ⊥
  at_arbiter_stop arbiter None a = a
  at_arbiter_stop arbiter (Some s) a = never (report.Stopped ∷ []) refl a.1

  at_stop : (actor : ℕ) (arbiter : Bool) → IsAmong (stops units w actor arbiter).entry x r → ⊥
  at_stop actor true a = at_arbiter_stop (arbiter_number actor) (at (arbiter_number actor) w.arbiters) a
  at_stop actor false a = at_node_stop actor (at actor w.nodes) a

  pub by_event : (e : Event) → IsAmong (world_step units c w e).entry x r → is_question e ≡ true
  unfolding world_step
  by_event (Start actor reading) a = absurd (at_start actor reading (kept_of w actor) a)
  by_event (Stop actor) a = absurd (at_stop actor (is_arbiter_actor actor) a)
  by_event (Tick advance readings) a = absurd a
  by_event (Fire node) a = at_node node input.Fire (at node w.nodes) a
  by_event (Give frame) a = by_number (frame_in w frame) a
  by_event (Do node asked) a = at_node node (input.Do asked) (at node w.nodes) a
  by_event (Junk actor bytes) a = absurd a

pub only_questions_lem : OnlyQuestionsAreAnswered
only_questions_lem c w e x r names a = by_event c w x r names e a
