-- Each event beside a node that goes on without a step.
use Rattle.std.proofs.Common.{◌≡◌, ℕ, ◌+◌, Bool, true, false, cond, not, ◌&&◌, ◌||◌, List, [], ◌∷◌, ◌++◌, Option, Some, None, refl, sym, ap, ◌∙◌, subst}
use Rattle.std.specs.Prelude.{◌==◌, is_some, map, unwrap_or}
use Rattle.std.specs.Option.{option_map}
use Rattle.std.proofs.lemmas.Bool.{and_from, and_parts, both_ways, eqb-true}
use Rattle.drift_clock.specs.Within.{FitsAll, Pair}
use Rattle.fabric_lemmas.proofs.Maps.{at-put, at-without, rises-put}
use Rattle.fabric_lemmas.proofs.SameMaps.{same_maps}
use Rattle.fabric_lemmas.specs.Maps.{at, put, rises, without}
use Rattle.fabric_terms.specs.declared.config.FabricConfig.{FabricConfig}
use Rattle.fabric_terms.specs.declared.event.Event.{Event}
use Rattle.fabric_terms.specs.declared.event.Event.TheVariants.{Start, Stop, Tick, Fire, Give, Do, Junk}
use Rattle.fabric_terms.specs.declared.message.Body.{Body}
use Rattle.fabric_terms.specs.declared.message.Message.{Message}
use Rattle.fabric_terms.specs.declared.record.Record.{Record}
use Rattle.join_phases.specs.Phases.{is_left}
use Rattle.ring_points.specs.declared.who.Who.{Who}
use Rattle.ring_rules.specs.declared.input.Input.{Input}
use Rattle.ring_rules.specs.declared.input.Input.TheVariants as input
use Rattle.run_facts.proofs.Kept.{at_put_other, at_without_other, kept_after, without_cases}
use Rattle.run_facts.proofs.Steps.{node_acted-told}
use Rattle.world_rules.specs.Above.{StaysAbove}
use Rattle.world_rules.specs.Arbiters.{ArbiterState, arbiter_begun, arbiter_step}
use Rattle.world_rules.specs.Events.{acts_at, arbiter_number, arbiter_seen, arbiter_stops, arrives, arrives_at, arrives_at_arbiter, arrives_at_node, arrives_if, is_arbiter_actor, node_acts, node_stops, shows, stops, ticked, world_step}
use Rattle.world_rules.specs.Nodes.{NodeState, node_begun, node_step}
use Rattle.world_rules.specs.Schedules.{MayCome, are_of, command_names, fits_pairs, is_configured_node, is_there, keeps_bound, node_runs, runs_as}
use Rattle.world_rules.specs.Uppers.{Upper, Did}
use Rattle.world_rules.specs.Worlds.{World, Running, Stepped, arbiter_acted, arbiter_who, frame_in, kept_of, node_acted, quiet, with_outcome}
use Rattle.span_safety.specs.Lengths.{begins, brings_length, commands_length, frame_brings, names_length}
use Rattle.span_safety.proofs.Became.{after_step}
use Rattle.span_safety.proofs.Beside.{Beside, Next, along, does_itself, flipped, lost, nobody_does, silent_beside, silent_same, world_with}
use Rattle.span_safety.proofs.Rates.{fits_tested}
use Rattle.span_safety.proofs.Readings.{are_of-put, at_shown, fit}
use Rattle.span_safety.proofs.Silent.{records_nothing, sends_nothing, stays_left}

module _ (a : Upper) (stays : StaysAbove a) (is_frame : List ℕ → Bool) (c : FabricConfig) (x : Who) (stood : NodeState a) (w : World a)
    (nodes : List (ℕ × Running a)) (kept : List (ℕ × List Record)) (b : Beside x stood w nodes kept) (is_node : is_arbiter_actor x.actor ≡ false) where
  abbrev there : World a
  there = world_with w nodes kept

  abbrev Goes : Stepped a → Type 0
  Goes st = Next a is_frame c x stood w nodes kept st

  -- nothing was done at all
  quietly : Goes (quiet a w)
  quietly = lost b refl (nobody_does x)

  -- the same records were kept, and are still after both have kept more
  kept_alike : (who : Who) (records : List Record) (sent : List (Who × Body)) (q : ℕ) →
      unwrap_or (at q (put who.actor (kept_of (world_with w nodes kept) who.actor ++ records) kept)) [] ≡ kept_of (with_outcome w who records sent) q
  kept_alike who records sent q =
      kept_after (world_with w nodes kept) who records sent q
      ∙ ((λ i. cond (who.actor == q) (b.alike who.actor i ++ records) (b.alike q i)) ∙ sym (kept_after w who records sent q))

  put_beside : (q reading : ℕ) (pairs : List Pair) (d : Did (NodeState a)) → (x.actor == q) ≡ false →
      Beside x stood (node_acted a w q reading pairs d).world (put q (record { node = d.state; reading = reading; pairs = pairs }) nodes)
      (put d.state.ring.me.actor (kept_of (world_with w nodes kept) d.state.ring.me.actor ++ d.records) kept)
  put_beside q reading pairs d h = record {
    gone = λ s g. b.gone s (sym (at_put_other q (record { node = d.state; reading = reading; pairs = pairs }) w.nodes x.actor (flipped x.actor q h)) ∙ g);
    ghost = b.ghost;
    there = at_put_other q (record { node = d.state; reading = reading; pairs = pairs }) nodes x.actor (flipped x.actor q h) ∙ b.there;
    still = b.still;
    others = λ p g.
        at-put q (record { node = d.state; reading = reading; pairs = pairs }) nodes p
        ∙ (ap (λ o. cond (q == p) (Some (record { node = d.state; reading = reading; pairs = pairs })) o) (b.others p g)
        ∙ sym (at-put q (record { node = d.state; reading = reading; pairs = pairs }) w.nodes p));
    alike = kept_alike d.state.ring.me d.records d.sent;
  }

  -- the node has left, and has an input
  left_acts : (i : Input) (s : Running a) → at x.actor w.nodes ≡ Some s → Goes (node_acts a c w x.actor i s)
  left_acts i s h =
      let old = b.gone s h in
      let d : Did (NodeState a) = node_step a c s.reading i s.node in
      let t = node_acted-told a stays c s.reading i s.node in
      let left = stays_left a stays c s.reading i s.node old.1 in
      let keeps = records_nothing a c s.reading i s.node left in
      let sends = sends_nothing a c s.reading i s.node old.1 in
      let named = t.name ∙ old.0 in
      lost (silent_beside x w s.reading s.pairs d named left keeps sends stood nodes kept b.ghost b.there b.still b.others b.alike)
      (silent_same x w s.reading s.pairs d named left keeps sends nodes kept) (does_itself x _ named)

  -- a node has an input
  act : (e : Event) (q : ℕ) (i : Input) (o : Option (Running a)) → at q w.nodes ≡ o → begins x.actor e ≡ false →
      ((x.actor == q) ≡ false → brings_length (world_with w nodes kept) x.actor e ≡ false) →
      ((s : Running a) → at q nodes ≡ Some s → MayCome is_frame c (world_with w nodes kept) e × (world_step a c (world_with w nodes kept) e ≡ acts_at a c (world_with w nodes kept) q i (Some s))) →
      Goes (acts_at a c w q i o)
  act e q i None h starts quiet may = quietly
  act e q i (Some s) h starts quiet may = by_node (x.actor == q) refl
    where
      by_node : (t : Bool) → (x.actor == q) ≡ t → Goes (node_acts a c w q i s)
      by_node true g =
          let same : x.actor ≡ q = eqb-true x.actor q g in
          subst (λ n. Goes (node_acts a c w n i s)) same (left_acts i s (ap (λ n. at n w.nodes) same ∙ h))
      by_node false g =
          let d : Did (NodeState a) = node_step a c s.reading i s.node in
          let k = may s (b.others q g ∙ h) in
          along e (put q (after_step a c i s) nodes) (put d.state.ring.me.actor (kept_of (world_with w nodes kept) d.state.ring.me.actor ++ d.records) kept) starts (quiet g) k.0
          (put_beside q s.reading s.pairs d g) k.1

  -- an arbitrator rules
  table_beside : (arbiter : ℕ) (d : Did (ArbiterState a)) → Beside x stood (arbiter_acted a w arbiter d).world nodes
      (put (arbiter_who arbiter).actor (kept_of (world_with w nodes kept) (arbiter_who arbiter).actor ++ d.records) kept)
  table_beside arbiter d = record {
    gone = b.gone;
    ghost = b.ghost;
    there = b.there;
    still = b.still;
    others = b.others;
    alike = kept_alike (arbiter_who arbiter) d.records d.sent;
  }

  -- a frame arrives

  give_node : (k : ℕ) (m : Message) → frame_in w k ≡ Some m → is_arbiter_actor m.to.actor ≡ false → MayCome is_frame c w (Give k) → (s : Running a) (t : Bool) →
      at m.to.actor w.nodes ≡ Some s → (m.to.instance == 0 || m.to.instance == s.node.ring.me.instance) ≡ t → Goes (arrives_if a c w m s t)
  unfolding world_step is_there keeps_bound
  give_node k m is kind may s false h g = quietly
  give_node k m is kind may s true h g = by_node (x.actor == m.to.actor) refl
    where
      by_node : (t : Bool) → (x.actor == m.to.actor) ≡ t → Goes (node_acts a c w m.to.actor (input.Frame m) s)
      by_node true same =
          let e : x.actor ≡ m.to.actor = eqb-true x.actor m.to.actor same in
          subst (λ n. Goes (node_acts a c w n (input.Frame m) s)) e (left_acts (input.Frame m) s (ap (λ n. at n w.nodes) e ∙ h))
      by_node false other =
          let d : Did (NodeState a) = node_step a c s.reading (input.Frame m) s.node in
          let here : at m.to.actor nodes ≡ Some s = b.others m.to.actor other ∙ h in
          along (Give k) (put m.to.actor (after_step a c (input.Frame m) s) nodes)
          (put d.state.ring.me.actor (kept_of (world_with w nodes kept) d.state.ring.me.actor ++ d.records) kept) refl
          (ap (frame_brings x.actor) is ∙ ap (λ t. t && names_length m.body) (flipped x.actor m.to.actor other))
          (record { there = may.there; bound = refl }) (put_beside m.to.actor s.reading s.pairs d other)
          (ap (arrives a c there) is ∙ (ap (arrives_at a c there m) kind ∙ (ap (arrives_at_node a c there m) here ∙ ap (arrives_if a c there m s) g)))

  give_table : (k : ℕ) (m : Message) → frame_in w k ≡ Some m → is_arbiter_actor m.to.actor ≡ true → MayCome is_frame c w (Give k) → (o : Option (ArbiterState a)) →
      at (arbiter_number m.to.actor) w.arbiters ≡ o → Goes (arrives_at_arbiter a c w m (arbiter_number m.to.actor) o)
  unfolding world_step is_there keeps_bound
  give_table k m is kind may None h = quietly
  give_table k m is kind may (Some s) h =
      let d : Did (ArbiterState a) = arbiter_step a c (arbiter_number m.to.actor) m s in
      along (Give k) nodes (put (arbiter_who (arbiter_number m.to.actor)).actor (kept_of (world_with w nodes kept) (arbiter_who (arbiter_number m.to.actor)).actor ++ d.records) kept) refl
      (ap (frame_brings x.actor) is ∙ ap (λ t. t && names_length m.body) other) (record { there = may.there; bound = refl }) (table_beside (arbiter_number m.to.actor) d)
      (ap (arrives a c there) is ∙ (ap (arrives_at a c there m) kind ∙ ap (arrives_at_arbiter a c there m (arbiter_number m.to.actor)) h))
    where
      other : (m.to.actor == x.actor) ≡ false
      other = go (m.to.actor == x.actor) refl
        where
          go : (t : Bool) → (m.to.actor == x.actor) ≡ t → (m.to.actor == x.actor) ≡ false
          go false g = g
          go true g = absurd (both_ways (is_arbiter_actor x.actor) is_node (sym (ap is_arbiter_actor (eqb-true m.to.actor x.actor g)) ∙ kind))

  give : (k : ℕ) → MayCome is_frame c w (Give k) → (o : Option Message) → frame_in w k ≡ o → Goes (arrives a c w o)
  give k may None is = quietly
  give k may (Some m) is = by_kind (is_arbiter_actor m.to.actor) refl
    where
      by_node : is_arbiter_actor m.to.actor ≡ false → (o : Option (Running a)) → at m.to.actor w.nodes ≡ o → Goes (arrives_at_node a c w m o)
      by_node kind None h = quietly
      by_node kind (Some s) h = give_node k m is kind may s _ h refl

      by_kind : (t : Bool) → is_arbiter_actor m.to.actor ≡ t → Goes (arrives_at a c w m t)
      by_kind true kind = give_table k m is kind may _ refl
      by_kind false kind = by_node kind _ refl

  -- an actor stops

  stop_node : (actor : ℕ) → is_arbiter_actor actor ≡ false → (s : Running a) → at actor w.nodes ≡ Some s → Goes (node_stops a w actor (Some s))
  unfolding world_step is_there keeps_bound
  stop_node actor kind s h = by_node (x.actor == actor) refl
    where
      gone_stops : (s : Running a) → at x.actor w.nodes ≡ Some s → Goes (node_stops a w x.actor (Some s))
      gone_stops s here =
          lost (record {
            gone = λ r g. b.gone r (without_cases x.actor w.nodes x.actor r g).1;
            ghost = b.ghost;
            there = b.there;
            still = b.still;
            others = λ q g. b.others q g ∙ sym (at_without_other x.actor w.nodes q g);
            alike = b.alike;
          }) refl (does_itself x _ (b.gone s here).0)

      by_node : (t : Bool) → (x.actor == actor) ≡ t → Goes (node_stops a w actor (Some s))
      by_node true g = let same : x.actor ≡ actor = eqb-true x.actor actor g in subst (λ n. Goes (node_stops a w n (Some s))) same (gone_stops s (ap (λ n. at n w.nodes) same ∙ h))
      by_node false g =
          let here : at actor nodes ≡ Some s = b.others actor g ∙ h in
          along (Stop actor) (without actor nodes) kept refl refl (record { there = ap (runs_as there actor) kind ∙ ap is_some here; bound = refl })
          (record {
            gone = λ r k. b.gone r (without_cases actor w.nodes x.actor r k).1;
            ghost = b.ghost;
            there = at_without_other actor nodes x.actor (flipped x.actor actor g) ∙ b.there;
            still = b.still;
            others = λ q k. at-without actor nodes q ∙ (ap (λ o. cond (actor == q) None o) (b.others q k) ∙ sym (at-without actor w.nodes q));
            alike = b.alike;
          })
          (ap (stops a there actor) kind ∙ ap (node_stops a there actor) here)

  stop : (actor : ℕ) → MayCome is_frame c w (Stop actor) → (t : Bool) → is_arbiter_actor actor ≡ t → Goes (stops a w actor t)
  unfolding world_step is_there keeps_bound
  stop actor may true kind = table (at (arbiter_number actor) w.arbiters) refl
    where
      table : (o : Option (ArbiterState a)) → at (arbiter_number actor) w.arbiters ≡ o → Goes (arbiter_stops a w (arbiter_number actor) o)
      table None h = quietly
      table (Some s) h =
          along (Stop actor) nodes kept refl refl
          (record { there = ap (runs_as there actor) kind ∙ (sym (ap (runs_as w actor) kind) ∙ may.there); bound = refl })
          (record { gone = b.gone; ghost = b.ghost; there = b.there; still = b.still; others = b.others; alike = b.alike })
          (ap (stops a there actor) kind ∙ ap (arbiter_stops a there (arbiter_number actor)) h)
  stop actor may false kind = one (at actor w.nodes) refl
    where
      one : (o : Option (Running a)) → at actor w.nodes ≡ o → Goes (node_stops a w actor o)
      one None h = quietly
      one (Some s) h = stop_node actor kind s h

  -- time goes on, and the clock of the node as well

  tick_beside : (time : ℕ) (readings : List (ℕ × ℕ)) (reading : ℕ) →
      Beside x stood (record w { time = time; nodes = map (ticked {a = a} time readings) w.nodes }) (map (ticked {a = a} time (put x.actor reading readings)) nodes) kept
  tick_beside time readings reading = record {
    gone = λ s h. was (at x.actor w.nodes) refl s (sym (at_shown time readings w.nodes x.actor) ∙ h);
    ghost = shows time (unwrap_or (at x.actor (put x.actor reading readings)) b.ghost.reading) b.ghost;
    there = at_shown time (put x.actor reading readings) nodes x.actor ∙ ap (option_map (λ (s : Running a). shows {a = a} time (unwrap_or (at x.actor (put x.actor reading readings)) s.reading) s)) b.there;
    still = b.still;
    others = λ q h.
        at_shown time (put x.actor reading readings) nodes q
        ∙ ((λ i. option_map (λ (s : Running a). shows {a = a} time (unwrap_or (at_put_other x.actor reading readings q h i) s.reading) s) (b.others q h i))
        ∙ sym (at_shown time readings w.nodes q));
    alike = b.alike;
  }
    where
      was : (o : Option (Running a)) → at x.actor w.nodes ≡ o → (s : Running a) →
          option_map (λ (s : Running a). shows {a = a} time (unwrap_or (at x.actor readings) s.reading) s) o ≡ Some s → (s.node.ring.me ≡ x) × (is_left s.node.ring.phase ≡ true)
      was None g s h = absurd (cc (h))
      was (Some r) g s h =
          let same : shows {a = a} time (unwrap_or (at x.actor readings) r.reading) r ≡ s = cc (h) in
          subst (λ (z : Running a). (z.node.ring.me ≡ x) × (is_left z.node.ring.phase ≡ true)) same (b.gone r g)

  module _ (up : rises w.nodes ≡ true) (up_there : rises nodes ≡ true)
      (fits : (advance : ℕ) → FitsAll c.bound b.ghost.pairs (w.time + advance, b.ghost.reading + advance)) where
    -- the nodes are those, and this one
    all_nodes : nodes ≡ put x.actor b.ghost w.nodes
    all_nodes = same_maps nodes (put x.actor b.ghost w.nodes) up_there (rises-put x.actor b.ghost w.nodes up) each
      where
        each : (q : ℕ) → at q nodes ≡ at q (put x.actor b.ghost w.nodes)
        each q = go (x.actor == q) refl
          where
            go : (t : Bool) → (x.actor == q) ≡ t → at q nodes ≡ at q (put x.actor b.ghost w.nodes)
            go true g =
                sym (ap (λ n. at n nodes) (eqb-true x.actor q g)) ∙ (b.there ∙ sym (at-put x.actor b.ghost w.nodes q ∙ ap (λ t. cond t (Some b.ghost) (at q w.nodes)) g))
            go false g = b.others q g ∙ sym (at_put_other x.actor b.ghost w.nodes q g)

    tick : (advance : ℕ) (readings : List (ℕ × ℕ)) → MayCome is_frame c w (Tick advance readings) → Goes (world_step a c w (Tick advance readings))
    unfolding world_step is_there keeps_bound
    tick advance readings may =
        let later : List (ℕ × ℕ) = put x.actor (b.ghost.reading + advance) readings in
        along (Tick advance later) (map (ticked {a = a} (w.time + advance) later) nodes) kept refl refl
        (record {
          there = ap (are_of later) all_nodes ∙ are_of-put x.actor (b.ghost.reading + advance) b.ghost readings w.nodes may.there;
          bound = fit c w there x.actor b.others (w.time + advance) 0 (b.ghost.reading + advance) readings w.nodes up may.there
              (ap (fits_pairs c (w.time + advance) (b.ghost.reading + advance)) b.there
              ∙ fits_tested c.bound b.ghost.pairs (w.time + advance, b.ghost.reading + advance) (fits advance)) may.bound;
        })
        (tick_beside (w.time + advance) readings (b.ghost.reading + advance)) refl

    pub next : (e : Event) → MayCome is_frame c w e → begins x.actor e ≡ false → Goes (world_step a c w e)
    unfolding world_step is_there keeps_bound
    next (Start q (Some reading)) may starts =
        let other = flipped q x.actor starts in
        let parts = and_parts (is_configured_node c q) (not (node_runs w q)) may.there in
        let d : Did (NodeState a) = node_begun a c q (kept_of w q) in
        along (Start q (Some reading)) (put q (record { node = d.state; reading = reading; pairs = (w.time, reading) ∷ [] }) nodes)
        (put d.state.ring.me.actor (kept_of (world_with w nodes kept) d.state.ring.me.actor ++ d.records) kept) starts refl
        (record { there = and_from _ _ parts.0 (ap (λ (o : Option (Running a)). not (is_some o)) (b.others q other) ∙ parts.1); bound = refl })
        (put_beside q reading ((w.time, reading) ∷ []) d other)
        (λ i. node_acted a there q reading ((w.time, reading) ∷ []) (node_begun a c q (b.alike q i)))
    next (Start m None) may starts =
        along (Start m None) nodes kept refl refl (record { there = may.there; bound = refl })
        (record { gone = b.gone; ghost = b.ghost; there = b.there; still = b.still; others = b.others; alike = b.alike })
        (λ i. record {
          world = record there { arbiters = put (arbiter_number m) (arbiter_begun a c (arbiter_number m) (b.alike m i)) w.arbiters };
          entry = arbiter_seen (arbiter_number m) [];
        })
    next (Stop actor) may starts = stop actor may _ refl
    next (Tick advance readings) may starts = tick advance readings may
    next (Fire q) may starts =
        act (Fire q) q input.Fire _ refl refl (λ other. refl) (λ s h. (record { there = ap is_some h; bound = refl }, ap (acts_at a c there q input.Fire) h))
    next (Give k) may starts = give k may _ refl
    next (Do q d) may starts =
        act (Do q d) q (input.Do d) _ refl refl (λ other. ap (λ t. t && commands_length d) (flipped x.actor q other))
        (λ s h. (
          record { there = and_from _ _ (ap is_some h) (and_parts (node_runs w q) (command_names c q d) may.there).1; bound = refl },
          ap (acts_at a c there q (input.Do d)) h,
        ))
    next (Junk actor bytes) may starts = quietly
