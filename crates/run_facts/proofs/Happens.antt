-- What an event can do to the world, one thing at a time: a fact of the world after each is a fact after the event.
use Rattle.std.proofs.Common.{◌≡◌, ℕ, zero, suc, ◌+◌, ◌-◌, Bool, true, false, List, [], ◌∷◌, Option, Some, None, refl, sym, inl, inr, arith}
use Rattle.std.specs.Prelude.{slice_get}
use Rattle.std.proofs.lemmas.Bool.{ltb-true}
use Rattle.fabric_terms.specs.declared.config.FabricConfig.{FabricConfig}
use Rattle.fabric_terms.specs.declared.event.Event.{Event}
use Rattle.fabric_terms.specs.declared.event.Event.TheVariants.{Start, Stop, Tick, Fire, Give, Do, Junk}
use Rattle.fabric_terms.specs.declared.message.Message.{Message}
use Rattle.ring_points.specs.Whos.{arbiter_actor}
use Rattle.ring_rules.specs.declared.input.Input.{Input}
use Rattle.ring_rules.specs.declared.input.Input.TheVariants as input
use Rattle.fabric_lemmas.specs.Members.{IsMember}
use Rattle.world_rules.specs.Arbiters.{ArbiterState, arbiter_step}
use Rattle.world_rules.specs.Events.{world_step, starts_with, stops, node_stops, arbiter_stops, ticks, acts_at, node_acts, arrives_if, arrives_at_node, arrives_at_arbiter, arrives_at, arrives, is_arbiter_actor, arbiter_number}
use Rattle.fabric_lemmas.specs.Maps.{at}
use Rattle.world_rules.specs.Nodes.{node_begun}
use Rattle.world_rules.specs.Uppers.{Upper}
use Rattle.world_rules.specs.Worlds.{World, Running, Stepped, quiet, kept_of, frame_in, node_acted, arbiter_acted}

-- a frame that is the input was sent to the node
abbrev pub CameTo : {a : Upper} → World a → ℕ → Input → Type 0
CameTo w node (input.Frame f) = IsMember f w.frames × (f.to.actor ≡ node)
CameTo w node i = Unit {0}

pub record Cases (a : Upper) (c : FabricConfig) (w : World a) (e : Event) (P : Stepped a → Type 0) : Type 0 where
  pub still : P (quiet a w)
  pub begins : (node reading : ℕ) → e ≡ Start node (Some reading) →
      P (node_acted a w node reading ((w.time, reading) ∷ []) (node_begun a c node (kept_of w node)))
  pub stops : (node : ℕ) (s : Running a) → at node w.nodes ≡ Some s → P (node_stops a w node (Some s))
  pub ticks : (advance : ℕ) (readings : List (ℕ × ℕ)) → e ≡ Tick advance readings → P (ticks a w (w.time + advance) readings)
  pub acts : (node : ℕ) (i : Input) (s : Running a) → at node w.nodes ≡ Some s → CameTo w node i → P (node_acts a c w node i s)
  pub table_begins : (actor : ℕ) → e ≡ Start actor None → P (starts_with a c w actor None (kept_of w actor))
  pub table_stops : (arbiter : ℕ) (s : ArbiterState a) → at arbiter w.arbiters ≡ Some s → P (arbiter_stops a w arbiter (Some s))
  pub rules : (arbiter : ℕ) (f : Message) (s : ArbiterState a) → at arbiter w.arbiters ≡ Some s → IsMember f w.frames →
      f.to.actor ≡ arbiter_actor arbiter → P (arbiter_acted a w arbiter (arbiter_step a c arbiter f s))

got_is_member : {X : Type 0} (x : X) (xs : List X) (k : ℕ) → slice_get xs k ≡ Some x → IsMember x xs
got_is_member x [] k h = absurd (cc (h))
got_is_member x (y ∷ ys) zero h = inl (let e : y ≡ x = cc (h) in sym e)
got_is_member x (y ∷ ys) (suc k) h = inr (got_is_member x ys k h)

module _ (a : Upper) (c : FabricConfig) (w : World a) (e : Event) (P : Stepped a → Type 0) (k : Cases a c w e P) where
  stop_node : (node : ℕ) (o : Option (Running a)) → at node w.nodes ≡ o → P (node_stops a w node o)
  stop_node node None h = k.still
  stop_node node (Some s) h = k.stops node s h

  stop_table : (arbiter : ℕ) (o : Option (ArbiterState a)) → at arbiter w.arbiters ≡ o → P (arbiter_stops a w arbiter o)
  stop_table arbiter None h = k.still
  stop_table arbiter (Some s) h = k.table_stops arbiter s h

  stop : (actor : ℕ) (b : Bool) → P (stops a w actor b)
  stop actor true = stop_table (arbiter_number actor) _ refl
  stop actor false = stop_node actor _ refl

  act : (node : ℕ) (i : Input) (o : Option (Running a)) → at node w.nodes ≡ o → CameTo w node i → P (acts_at a c w node i o)
  act node i None h came = k.still
  act node i (Some s) h came = k.acts node i s h came

  arrive_if : (f : Message) (s : Running a) (b : Bool) → at f.to.actor w.nodes ≡ Some s → IsMember f w.frames → P (arrives_if a c w f s b)
  arrive_if f s true h m = k.acts f.to.actor (input.Frame f) s h (m, refl)
  arrive_if f s false h m = k.still

  at_node : (f : Message) (o : Option (Running a)) → at f.to.actor w.nodes ≡ o → IsMember f w.frames → P (arrives_at_node a c w f o)
  at_node f None h m = k.still
  at_node f (Some s) h m = arrive_if f s _ h m

  at_arbiter : (f : Message) (arbiter : ℕ) (o : Option (ArbiterState a)) → at arbiter w.arbiters ≡ o → IsMember f w.frames →
      f.to.actor ≡ arbiter_actor arbiter →
      P (arrives_at_arbiter a c w f arbiter o)
  at_arbiter f arbiter None h m to = k.still
  at_arbiter f arbiter (Some s) h m to = k.rules arbiter f s h m to

  arrive_at : (f : Message) (b : Bool) → is_arbiter_actor f.to.actor ≡ b → IsMember f w.frames → P (arrives_at a c w f b)
  arrive_at f true h m =
      let lt = ltb-true (arbiter_actor 0) f.to.actor h in
      let to : f.to.actor ≡ 32768 + (f.to.actor - 32768) = omega arith in
      at_arbiter f (arbiter_number f.to.actor) _ refl m to
  arrive_at f false h m = at_node f _ refl m

  arrive : (o : Option Message) → ((f : Message) → o ≡ Some f → IsMember f w.frames) → P (arrives a c w o)
  arrive None m = k.still
  arrive (Some f) m = arrive_at f _ refl (m f refl)

  -- after the event
  pub by_cases : (d : Event) → e ≡ d → P (world_step a c w d)
  unfolding world_step
  by_cases (Start actor (Some reading)) h = k.begins actor reading h
  by_cases (Start actor None) h = k.table_begins actor h
  by_cases (Stop actor) h = stop actor _
  by_cases (Tick advance readings) h = k.ticks advance readings h
  by_cases (Fire node) h = act node input.Fire _ refl tt
  by_cases (Give frame) h = arrive (frame_in w frame) (λ f g. got_is_member f w.frames _ g)
  by_cases (Do node command) h = act node (input.Do command) _ refl tt
  by_cases (Junk actor bytes) h = k.still
