-- What an actor tells at an event is in the ranges of reports.
use Rattle.std.proofs.Common.{◌≡◌, ℕ, ◌-◌, Bool, true, false, not, ◌||◌, List, [], ◌∷◌, Option, Some, None, IsTrue, refl, subst}
use Rattle.std.specs.Prelude.{◌==◌, All}
use Rattle.std.proofs.lemmas.Bool.{and_parts}
use Rattle.std.proofs.lemmas.List.Elements.{All-cons, All-nil}
use Rattle.fabric_terms.specs.declared.config.FabricConfig.{FabricConfig}
use Rattle.fabric_terms.specs.declared.event.Event.{Event}
use Rattle.fabric_terms.specs.declared.event.Event.TheVariants.{Start, Stop, Tick, Fire, Give, Do, Junk}
use Rattle.fabric_terms.specs.declared.message.Message.{Message}
use Rattle.fabric_terms.specs.declared.report.Report.TheVariants.{Stopped}
use Rattle.fabric_terms.specs.Ranges.{Fits}
use Rattle.fabric_terms.specs.Sound.{IsSound}
use Rattle.fabric_lemmas.specs.Maps.{at}
use Rattle.ring_rules.specs.declared.input.Input.{Input}
use Rattle.ring_rules.specs.declared.input.Input.TheVariants as input
use Rattle.world_rules.specs.Arbiters.{ArbiterState}
use Rattle.world_rules.specs.Events.{acts_at, arbiter_number, arbiter_stops, arrives, arrives_at, arrives_at_arbiter, arrives_at_node, arrives_if, is_arbiter_actor, node_stops, starts, stops, world_step}
use Rattle.world_rules.specs.Schedules.{MayCome, is_configured_node, may_start, node_runs}
use Rattle.world_rules.specs.Uppers.{Upper}
use Rattle.world_rules.specs.Worlds.{Running, World, frame_in, kept_of}
use Rattle.world_rules.proofs.Rows.{is_there-start}
use Rattle.frames_fit.specs.Above.{SendsInFormat}
use Rattle.frames_fit.specs.Formats.{InputInFormat, ReportInRange}
use Rattle.frames_fit.specs.Laws.{EntryFits}
use Rattle.frames_fit.proofs.Arbiters.{ArbiterInRange, arbiter_acts}
use Rattle.frames_fit.proofs.Each.{at_each, got_all}
use Rattle.frames_fit.proofs.Facts.{within_from}
use Rattle.frames_fit.proofs.Nodes.{node_acts, node_begins}
use Rattle.frames_fit.proofs.Posting.{Sound}
use Rattle.frames_fit.proofs.Worlds.{RunningInRange, WorldInRange, kept_in_range}

module _ (a : Upper) (p : SendsInFormat a) (c : FabricConfig) (sound : IsSound c) (w : World a) (h : WorldInRange a p c w) where
  stopped : All ReportInRange (Stopped ∷ [])
  stopped = All-cons ReportInRange Stopped [] tt (All-nil ReportInRange)

  start : (actor : ℕ) (o : Option ℕ) → Fits (Start actor o) → IsTrue (may_start c w actor o) → EntryFits (starts a c w actor o).entry
  start actor (Some reading) f may =
      let listed : is_configured_node c actor ≡ true = (and_parts (is_configured_node c actor) (not (node_runs w actor)) may).0 in
      (node_begins a p c sound actor (kept_of w actor) (within_from 1 999 actor f.0.0 f.0.1) listed (kept_in_range a p c sound w h actor)).acts.told
  start actor None f may = All-nil ReportInRange

  stop : (actor : ℕ) (b : Bool) → EntryFits (stops a w actor b).entry
  stop actor true = table (at (arbiter_number actor) w.arbiters)
    where
      table : (o : Option (ArbiterState a)) → EntryFits (arbiter_stops a w (arbiter_number actor) o).entry
      table None = tt
      table (Some s) = stopped
  stop actor false = node (at actor w.nodes)
    where
      node : (o : Option (Running a)) → EntryFits (node_stops a w actor o).entry
      node None = tt
      node (Some s) = stopped

  act : (node : ℕ) (i : Input) → InputInFormat i → (o : Option (Running a)) → at node w.nodes ≡ o → EntryFits (acts_at a c w node i o).entry
  act node i f None e = tt
  act node i f (Some s) e =
      let r = at_each (RunningInRange a p c) node w.nodes s h.nodes e in
      (node_acts a p c sound s.reading i s.node r.reading f r.node).acts.told

  arrive_if : (f : Message) (s : Running a) (b : Bool) → at f.to.actor w.nodes ≡ Some s → Sound f → EntryFits (arrives_if a c w f s b).entry
  arrive_if f s true e m = act f.to.actor (input.Frame f) m (Some s) e
  arrive_if f s false e m = tt

  arrive_at_node : (f : Message) (o : Option (Running a)) → at f.to.actor w.nodes ≡ o → Sound f → EntryFits (arrives_at_node a c w f o).entry
  arrive_at_node f None e m = tt
  arrive_at_node f (Some s) e m = arrive_if f s (f.to.instance == 0 || f.to.instance == s.node.ring.me.instance) e m

  arrive_at_arbiter : (f : Message) (arbiter : ℕ) (o : Option (ArbiterState a)) → at arbiter w.arbiters ≡ o → Sound f →
      EntryFits (arrives_at_arbiter a c w f arbiter o).entry
  arrive_at_arbiter f arbiter None e m = tt
  arrive_at_arbiter f arbiter (Some s) e m =
      (arbiter_acts a p c sound arbiter f m s (at_each (ArbiterInRange a p c) arbiter w.arbiters s h.arbiters e)).acts.told

  arrive_at : (f : Message) (b : Bool) → Sound f → EntryFits (arrives_at a c w f b).entry
  arrive_at f true m = arrive_at_arbiter f (arbiter_number f.to.actor) (at (arbiter_number f.to.actor) w.arbiters) refl m
  arrive_at f false m = arrive_at_node f (at f.to.actor w.nodes) refl m

  arrive : (number : ℕ) (o : Option Message) → frame_in w number ≡ o → EntryFits (arrives a c w o).entry
  arrive number None e = tt
  arrive number (Some f) e = arrive_at f (is_arbiter_actor f.to.actor) (got_all Sound w.frames (w.count - number) f h.frames e)

  -- an event that may come
  pub entry_in_range : (is_frame : List ℕ → Bool) (e : Event) → Fits e → MayCome is_frame c w e → EntryFits (world_step a c w e).entry
  unfolding world_step
  entry_in_range is_frame (Start actor o) f may = start actor o f (subst IsTrue (is_there-start is_frame c w actor o) may.there)
  entry_in_range is_frame (Stop actor) f may = stop actor (is_arbiter_actor actor)
  entry_in_range is_frame (Tick advance readings) f may = tt
  entry_in_range is_frame (Fire node) f may = act node input.Fire tt (at node w.nodes) refl
  entry_in_range is_frame (Give frame) f may = arrive frame (frame_in w frame) refl
  entry_in_range is_frame (Do node command) f may = act node (input.Do command) f.1 (at node w.nodes) refl
  entry_in_range is_frame (Junk actor bytes) f may = tt
