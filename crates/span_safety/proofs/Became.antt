-- What an event of a life makes of a running node.
use Rattle.std.proofs.Common.{◌≡◌, ℕ, ◌+◌, Bool, true, false, cond, ◌&&◌, List, [], ◌∷◌, Option, Some, None, refl, sym, ap, ◌∙◌, subst}
use Rattle.std.specs.Prelude.{◌==◌, map, unwrap_or}
use Rattle.std.proofs.lemmas.Bool.{eq-eqb}
use Rattle.fabric_lemmas.specs.Maps.{at}
use Rattle.fabric_terms.specs.declared.config.FabricConfig.{FabricConfig}
use Rattle.fabric_terms.specs.declared.event.Event.{Event}
use Rattle.fabric_terms.specs.declared.event.Event.TheVariants.{Start, Stop, Tick, Fire, Give, Do, Junk}
use Rattle.fabric_terms.specs.declared.message.Message.{Message}
use Rattle.ring_points.specs.declared.who.Who.{Who}
use Rattle.ring_rules.specs.declared.input.Input.{Input}
use Rattle.ring_rules.specs.declared.input.Input.TheVariants as input
use Rattle.run_facts.proofs.Kept.{put_cases, without_cases}
use Rattle.world_rules.specs.Arbiters.{ArbiterState}
use Rattle.world_rules.specs.Events.{acts_at, node_acts, arbiter_stops, arrives, arrives_at, arrives_at_arbiter, arrives_at_node, arrives_if, node_stops, shows, stops, ticked, world_step}
use Rattle.world_rules.specs.Nodes.{node_step}
use Rattle.world_rules.specs.Uppers.{Upper}
use Rattle.world_rules.specs.Worlds.{World, Running, frame_in, kept_of}
use Rattle.cold_start.specs.Lives.{life_step}
use Rattle.world_rules.specs.Starts.{node_begun_in}
use Rattle.span_safety.specs.Lengths.{begins, brings_length, commands_length, frame_brings, gives_length, names_length}

-- the node's state after its step
abbrev pub after_step : (a : Upper) → FabricConfig → Input → Running a → Running a
after_step a c i s = record { node = (node_step a c s.reading i s.node).state; reading = s.reading; pairs = s.pairs }

-- the node's state at its start
abbrev pub at_start : (a : Upper) → (whole : Who) → FabricConfig → World a → (node reading : ℕ) → Running a
at_start a whole c w node reading = record { node = (node_begun_in a whole c node (kept_of w node)).state; reading = reading; pairs = (w.time, reading) ∷ [] }

-- what the node was before, if it did not start: the same, or its clock went on, or it had an input, which names no length
-- unless the event brings one
pub data Became (a : Upper) (whole : Who) (c : FabricConfig) (w : World a) (e : Event) (node : ℕ) (now : Running a) : Type 0 where
  stayed : begins node e ≡ false → at node w.nodes ≡ Some now → Became a whole c w e node now
  showed : (s : Running a) (time reading : ℕ) → begins node e ≡ false → at node w.nodes ≡ Some s → now ≡ shows time reading s → Became a whole c w e node now
  acted : (i : Input) (s : Running a) → begins node e ≡ false → at node w.nodes ≡ Some s → (brings_length w node e ≡ false → gives_length i ≡ false) →
      life_step a whole c w e ≡ node_acts a c w node i s → now ≡ after_step a c i s → Became a whole c w e node now
  began : (reading : ℕ) → begins node e ≡ true → now ≡ at_start a whole c w node reading → Became a whole c w e node now

-- a test at a number that is the node's
calm_at : (n node : ℕ) (b : Bool) → n ≡ node → (n == node && b) ≡ false → b ≡ false
calm_at n node b same h = sym (ap (λ t. t && b) (eq-eqb n node same)) ∙ h

-- what stands at a number after a tick
at_ticked : {a : Upper} (time : ℕ) (readings : List (ℕ × ℕ)) (es : List (ℕ × Running a)) (node : ℕ) (now : Running a) →
    at node (map (ticked {a = a} time readings) es) ≡ Some now → (s : Running a) × (reading : ℕ) × (at node es ≡ Some s) × (now ≡ shows time reading s)
at_ticked time readings [] node now h = absurd (cc (h))
at_ticked {a = a} time readings (e ∷ es) node now h = go (e.0 == node) refl h (at_ticked time readings es node now)
  where
    go : (b : Bool) → (e.0 == node) ≡ b →
        cond b (Some (ticked {a = a} time readings e).1) (at node (map (ticked {a = a} time readings) es)) ≡ Some now →
        (at node (map (ticked {a = a} time readings) es) ≡ Some now → (s : Running a) × (reading : ℕ) × (at node es ≡ Some s) × (now ≡ shows time reading s)) →
        (s : Running a) × (reading : ℕ) × (cond (e.0 == node) (Some e.1) (at node es) ≡ Some s) × (now ≡ shows time reading s)
    go true f g again =
        let same : (ticked {a = a} time readings e).1 ≡ now = cc (g) in
        (e.1, unwrap_or (at e.0 readings) e.1.reading, ap (λ b. cond b (Some e.1) (at node es)) f, sym same)
    go false f g again = let r = again g in (r.0, r.1, ap (λ b. cond b (Some e.1) (at node es)) f ∙ r.2, r.3)

module _ (a : Upper) (whole : Who) (c : FabricConfig) (w : World a) (node : ℕ) where
  -- after an event that is no start of the node
  module _ (e : Event) (other : begins node e ≡ false) where
    stop_node : (now : Running a) (n : ℕ) (o : Option (Running a)) → at node (node_stops a w n o).world.nodes ≡ Some now → Became a whole c w e node now
    stop_node now n None h = stayed other h
    stop_node now n (Some s) h = stayed other (without_cases n w.nodes node now h).1

    stop_table : (now : Running a) (arbiter : ℕ) (o : Option (ArbiterState a)) → at node (arbiter_stops a w arbiter o).world.nodes ≡ Some now →
        Became a whole c w e node now
    stop_table now arbiter None h = stayed other h
    stop_table now arbiter (Some s) h = stayed other h

    stop : (now : Running a) (actor : ℕ) (b : Bool) → at node (stops a w actor b).world.nodes ≡ Some now → Became a whole c w e node now
    stop now actor true h = stop_table now _ _ h
    stop now actor false h = stop_node now actor _ h

    act : (now : Running a) (n : ℕ) (i : Input) (o : Option (Running a)) → at n w.nodes ≡ o →
        (n ≡ node → brings_length w node e ≡ false → gives_length i ≡ false) → life_step a whole c w e ≡ acts_at a c w n i o →
        at node (acts_at a c w n i o).world.nodes ≡ Some now → Became a whole c w e node now
    act now n i None f calm is h = stayed other h
    act now n i (Some s) f calm is h =
        put_cases (λ y. Became a whole c w e node y) n (after_step a c i s) w.nodes node now h
        (λ same. acted i s other (subst (λ q. at q w.nodes ≡ Some s) same f) (calm same) (subst (λ q. life_step a whole c w e ≡ node_acts a c w q i s) same is) refl)
        (λ apart there. stayed other there)

    arrive_if : (now : Running a) (f : Message) (s : Running a) (b : Bool) → at f.to.actor w.nodes ≡ Some s →
        (f.to.actor ≡ node → brings_length w node e ≡ false → names_length f.body ≡ false) → life_step a whole c w e ≡ arrives_if a c w f s b →
        at node (arrives_if a c w f s b).world.nodes ≡ Some now → Became a whole c w e node now
    arrive_if now f s true g calm is h = act now f.to.actor (input.Frame f) (Some s) g calm is h
    arrive_if now f s false g calm is h = stayed other h

    at_node : (now : Running a) (f : Message) (o : Option (Running a)) → at f.to.actor w.nodes ≡ o →
        (f.to.actor ≡ node → brings_length w node e ≡ false → names_length f.body ≡ false) → life_step a whole c w e ≡ arrives_at_node a c w f o →
        at node (arrives_at_node a c w f o).world.nodes ≡ Some now → Became a whole c w e node now
    at_node now f None g calm is h = stayed other h
    at_node now f (Some s) g calm is h = arrive_if now f s _ g calm is h

    at_table : (now : Running a) (f : Message) (arbiter : ℕ) (o : Option (ArbiterState a)) →
        at node (arrives_at_arbiter a c w f arbiter o).world.nodes ≡ Some now → Became a whole c w e node now
    at_table now f arbiter None h = stayed other h
    at_table now f arbiter (Some s) h = stayed other h

    arrive_at : (now : Running a) (f : Message) (b : Bool) → (f.to.actor ≡ node → brings_length w node e ≡ false → names_length f.body ≡ false) →
        life_step a whole c w e ≡ arrives_at a c w f b → at node (arrives_at a c w f b).world.nodes ≡ Some now → Became a whole c w e node now
    arrive_at now f true calm is h = at_table now f _ _ h
    arrive_at now f false calm is h = at_node now f _ refl calm is h

    arrive : (now : Running a) (o : Option Message) → ((f : Message) → o ≡ Some f → f.to.actor ≡ node → brings_length w node e ≡ false → names_length f.body ≡ false) →
        life_step a whole c w e ≡ arrives a c w o → at node (arrives a c w o).world.nodes ≡ Some now → Became a whole c w e node now
    arrive now None calm is h = stayed other h
    arrive now (Some f) calm is h = arrive_at now f _ (calm f refl) is h

  pub became : (e : Event) (now : Running a) → at node (life_step a whole c w e).world.nodes ≡ Some now → Became a whole c w e node now
  unfolding world_step
  became (Start n (Some reading)) now h =
      put_cases (λ y. Became a whole c w (Start n (Some reading)) node y) n (at_start a whole c w n reading) w.nodes node now h
      (λ same. began reading (eq-eqb n node same) (λ i. at_start a whole c w (same i) reading)) (λ apart there. stayed apart there)
  became (Start n None) now h = stayed refl h
  became (Stop actor) now h = stop (Stop actor) refl now actor _ h
  became (Tick advance readings) now h =
      let r = at_ticked {a = a} (w.time + advance) readings w.nodes node now h in showed r.0 (w.time + advance) r.1 refl r.2 r.3
  became (Fire n) now h = act (Fire n) refl now n input.Fire _ refl (λ same quiet. refl) refl h
  became (Give frame) now h =
      arrive (Give frame) refl now (frame_in w frame)
      (λ f g same quiet. calm_at f.to.actor node (names_length f.body) same (sym (ap (frame_brings node) g) ∙ quiet)) refl h
  became (Do n d) now h = act (Do n d) refl now n (input.Do d) _ refl (λ same quiet. calm_at n node (commands_length d) same quiet) refl h
  became (Junk actor bytes) now h = stayed refl h
