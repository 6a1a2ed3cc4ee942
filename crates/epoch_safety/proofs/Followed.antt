-- After every valid history the machines follow the world.
use Rattle.std.proofs.Common.{◌≡◌, ℕ, ◌+◌, ◌<◌, Bool, true, false, cond, not, ◌&&◌, ◌==◌, List, [], ◌∷◌, Some, None, length, refl, sym, ap, ◌∙◌, subst, ⊎_elim, arith}
use Rattle.std.specs.Prelude.{All, Contains, map}
use Rattle.std.specs.List.{list_any}
use Rattle.std.proofs.lemmas.Bool.{and_parts, eqb-true, not-true, or_cases}
use Rattle.std.proofs.lemmas.List.Elements.{All-head, All-tail}
use Rattle.fabric_lemmas.specs.Maps.{at}
use Rattle.fabric_terms.specs.declared.config.FabricConfig.{FabricConfig}
use Rattle.fabric_terms.specs.declared.config.NodeEntry.{NodeEntry}
use Rattle.fabric_terms.specs.declared.event.Event.{Event}
use Rattle.fabric_terms.specs.declared.record.Record.{Record}
use Rattle.fabric_terms.specs.declared.report.Report.{Report}
use Rattle.fabric_terms.specs.declared.report.Report.TheVariants.{Committed, Stopped}
use Rattle.fabric_terms.specs.Sound.{IsSound, IsSoundNode}
use Rattle.join_phases.specs.Phases.{is_left}
use Rattle.ring_points.specs.declared.unit.Epoch.{Epoch}
use Rattle.ring_points.specs.declared.who.Who.{Who}
use Rattle.ring_points.specs.Whos.{node_instance}
use Rattle.ring_rules.specs.declared.input.Input.{Input}
use Rattle.ring_rules.specs.Rings.{Work, settings_of}
use Rattle.ring_rules.specs.Steps.{ring_step}
use Rattle.epoch_machine.specs.Epochs.{number_of}
use Rattle.epoch_machine.specs.World.{empty_world}
use Rattle.epoch_machine.proofs.Histories.{empty_sound}
use Rattle.unit_rules.specs.Deeds.{Acted, did, reports_of}
use Rattle.unit_rules.specs.Loads.{site_of}
use Rattle.unit_rules.specs.Stays.{units_stay}
use Rattle.unit_rules.specs.Steps.{Failover, failover_begun, failover_step}
use Rattle.unit_rules.specs.Units.{units}
use Rattle.world_rules.specs.Arbiters.{arbiter_step}
use Rattle.world_rules.specs.Events.{ticked}
use Rattle.world_rules.specs.Nodes.{NodeState, above_if, begun_as, both_did, comes_above, instance_begun, is_spent, node_step}
use Rattle.world_rules.specs.Runs.{History, world_after}
use Rattle.world_rules.specs.Schedules.{is_configured_node, is_there, node_runs, MayCome, Valid}
use Rattle.world_rules.specs.Uppers.{Did, idle}
use Rattle.world_rules.specs.Worlds as real
use Rattle.world_rules.specs.Worlds.{World, Running, Stepped, kept_of, node_acted}
use Rattle.world_rules.proofs.Rows.{is_there-start, node_step-is}
use Rattle.run_facts.proofs.Happens.{CameTo, Cases}
use Rattle.run_facts.proofs.Tables.{actor_of_number}
use Rattle.epoch_refinement.specs.Epochs.{settings_to}
use Rattle.epoch_refinement.specs.Nodes.{Machines}
use Rattle.epoch_refinement.proofs.Beginning.{beginnings_lem}
use Rattle.run_facts.specs.RingApart.{is_unit_report}
use Rattle.run_promises.specs.Reports.{IsAmong, HasReported, log_in}
use Rattle.epoch_safety.proofs.ActCovers.{act_covers}
use Rattle.epoch_safety.proofs.ActFollows.{Numbered, silent_follows, busy_follows, refined, real_reports, commit_above}
use Rattle.epoch_safety.proofs.AsideFollows.{aside_follows, node_stops_follows, arbiter_stops_follows, arbiter_starts_follows}
use Rattle.epoch_safety.proofs.BeginFollows.{restarted, spent_follows, new_follows, start_apart}
use Rattle.epoch_safety.proofs.Entries.{AreReal, AreRealLives, IsRealEntry, no_commit, real_apart, real_deeds}
use Rattle.epoch_safety.proofs.Covering.{Covers}
use Rattle.epoch_safety.proofs.Follows.{Follows}
use Rattle.epoch_safety.proofs.Members.{contained}
use Rattle.epoch_safety.proofs.NodeFollows.{Named, node_follows}
use Rattle.epoch_safety.proofs.RuleFollows.{rule_follows, rules_follow}
use Rattle.epoch_safety.proofs.Telling.{Tellings, tells_after, told_lives, told_of}
use Rattle.cold_start.specs.Lives.{Again, Comes, Lives, ValidLives, life_step, lives_run, lives_world, one_life, whole_after}
use Rattle.world_rules.specs.Starts.{node_begun_in, started_in}
use Rattle.cold_start.proofs.Facts.{orderly_lives}
use Rattle.cold_start.proofs.OneLife.{valid_one, world_one}
use Rattle.world_rules.proofs.Starts.{node_begun_in-is}
use Rattle.cold_start.proofs.Steps.{IsStart, life_cases}
use Rattle.epoch_safety.specs.Lives.{lives_log}
use Rattle.fabric_terms.specs.declared.event.Event.TheVariants.{Start}

-- machines that follow the world after a step, in which this was told before
pub record Followed (k : ℕ) (t : Tellings) (st : Stepped units) : Type 0 where
  pub machines : Machines
  pub follows : Follows k st.world (λ p. tells_after p st (t p)) machines
  pub real : IsRealEntry st.entry
  -- what is reported committed begins with all that was
  pub covers : (x : Who) (p : ℕ) (e : Epoch) (last : ℕ) → IsAmong st.entry x (Committed p e last) →
      Covers (settings_to k) (machines p) (number_of e) last (log_in st.world x.actor p)

-- where no commit is reported
none_among : (rs : List Report) → list_any is_unit_report rs ≡ false → (p : ℕ) (e : Epoch) (last : ℕ) → Contains rs (Committed p e last) → ⊥
none_among rs h p e last a = no_commit rs p e last h (contained (Committed p e last) rs a)

-- machines that follow the world after these lives
pub record FollowedLives (c : FabricConfig) (l : Lives) : Type 0 where
  pub machines : Machines
  pub follows : Follows (length c.arbiters) (lives_world units c l) (told_lives c l) machines
  pub real : AreRealLives c l
  pub covers : (x : Who) (p : ℕ) (e : Epoch) (last : ℕ) → HasReported (lives_run units c l) x (Committed p e last) →
      Covers (settings_to (length c.arbiters)) (machines p) (number_of e) last (lives_log c l x.actor p)

-- and after a schedule
pub record FollowedAfter (c : FabricConfig) (h : History) : Type 0 where
  pub machines : Machines
  pub follows : Follows (length c.arbiters) (world_after units c h) (told_of c h) machines

-- no node has the number of an arbitrator's actor
low_node : (es : List NodeEntry) (node : ℕ) → All IsSoundNode es → list_any (λ e. e.node == node) es ≡ true → node < 32768
low_node [] node sound h = absurd (cc (h))
low_node (e ∷ es) node sound h = ⊎_elim
    (λ same.
    let first = (All-head IsSoundNode e es sound).node in
    let high = first.to_high in let is : e.node ≡ node = eqb-true e.node node same in omega arith)
    (λ rest. low_node es node (All-tail IsSoundNode e es sound) rest) (or_cases (e.node == node) (list_any (λ e. e.node == node) es) h)

-- a clock's reading changes nothing else
at_ticked : (time : ℕ) (readings : List (ℕ × ℕ)) (es : List (ℕ × Running units)) (q : ℕ) (s : Running units) →
    at q (map (ticked {a = units} time readings) es) ≡ Some s → (r : Running units) × (at q es ≡ Some r) × (s.node ≡ r.node)
at_ticked time readings [] q s h = absurd (cc (h))
at_ticked time readings (e ∷ es) q s h = go (e.0 == q) refl h (at_ticked time readings es q s)
  where
    go : (b : Bool) → (e.0 == q) ≡ b → cond b (Some (ticked {a = units} time readings e).1) (at q (map (ticked {a = units} time readings) es)) ≡ Some s →
        (at q (map (ticked {a = units} time readings) es) ≡ Some s → (r : Running units) × (at q es ≡ Some r) × (s.node ≡ r.node)) →
        (r : Running units) × (cond (e.0 == q) (Some e.1) (at q es) ≡ Some r) × (s.node ≡ r.node)
    go true f g again =
        let same : (ticked {a = units} time readings e).1 ≡ s = cc (g) in
        (e.1, ap (λ b. cond b (Some e.1) (at q es)) f, sym (ap (λ (z : Running units). z.node) same))
    go false f g again = let r = again g in (r.0, ap (λ b. cond b (Some e.1) (at q es)) f ∙ r.1, r.2)

module _ (is_frame : List ℕ → Bool) (c : FabricConfig) (sound : IsSound c) where
  abbrev k : ℕ
  k = length c.arbiters

  module _ (w : World units) (t : Tellings) (m : Machines) (n : Numbered w) (f : Follows k w t m) where
    named : Named w
    named node s there = ap (λ (z : Who). z.actor) (n.name node s there)

    module _ (whole : Who) (node reading : ℕ) (low : node < 32768) where
      abbrev records : List Record
      records = kept_of w node

      abbrev begun : Did (NodeState units)
      begun = begun_as units c (node_instance node (instance_begun records)) records (started_in whole c (node_instance node (instance_begun records)) (is_spent records))

      abbrev Begun : Did (NodeState units) → Type 0
      Begun d = Followed k t (node_acted units w node reading ((w.time, reading) ∷ []) d)

      begins : Begun (node_begun_in units whole c node records)
      begins = subst Begun (sym (node_begun_in-is units whole c node records)) (go (is_spent records) refl)
        where
          go : (b : Bool) → is_spent records ≡ b → Begun begun
          go true h = record {
            machines = m;
            follows = node_follows reading ((w.time, reading) ∷ []) begun named f (spent_follows whole c w t m k f node low h);
            real = real_apart begun.told (start_apart whole c w t m k f node low);
            covers = λ y p e last a. absurd (none_among begun.told (start_apart whole c w t m k f node low) p e last a.1);
          }
          go false h = record {
            machines = restarted whole c w t m k f node low;
            follows = node_follows reading ((w.time, reading) ∷ []) begun named f (new_follows whole c w t m k f node low h);
            real = real_apart begun.told (start_apart whole c w t m k f node low);
            covers = λ y p e last a. absurd (none_among begun.told (start_apart whole c w t m k f node low) p e last a.1);
          }

    module _ (node : ℕ) (i : Input) (s : Running units) (there : at node w.nodes ≡ Some s) (came : CameTo w node i) where
      abbrev new : Work
      new = ring_step (settings_of c s.node.ring.me.actor) s.reading i s.node.ring

      abbrev row : Acted Failover
      row = failover_step (site_of c new.ring.me.actor) s.reading new.ring s.node.above i

      abbrev Acts : Did (NodeState units) → Type 0
      Acts d = Followed k t (node_acted units w node s.reading s.pairs d)

      acts : Acts (node_step units c s.reading i s.node)
      acts =
          subst Acts (sym (node_step-is units c s.reading i s.node))
          (go (not (is_left new.ring.phase) && comes_above (settings_of c s.node.ring.me.actor) s.node.ring i) refl)
        where
          go : (b : Bool) → (not (is_left new.ring.phase) && comes_above (settings_of c s.node.ring.me.actor) s.node.ring i) ≡ b →
              Acts (both_did units c s.node.ring new (above_if units c s.reading new.ring s.node.above i b))
          go false h = record {
            machines = m;
            follows = node_follows s.reading s.pairs (both_did units c s.node.ring new (idle s.node.above)) named f (silent_follows c w t m n f node i s there);
            real = real_reports c w t m n f node i s there [] tt;
            covers = λ y p e last a. absurd (commit_above c w t m n f node i s there [] p e last a.1);
          }
          go true h =
              let both = and_parts (not (is_left new.ring.phase)) (comes_above (settings_of c s.node.ring.me.actor) s.node.ring i) h in
              let stay = not-true (is_left new.ring.phase) both.0 in
              let r = refined c w t m n f node i s there stay both.1 came in record {
                machines = r.after;
                follows = node_follows s.reading s.pairs (both_did units c s.node.ring new (did row)) named f (busy_follows c w t m n f node i s there stay both.1 came);
                real = real_reports c w t m n f node i s there (reports_of row.deeds) (real_deeds row.deeds r.real);
                covers = act_covers c w t m n f node i s there stay both.1 came;
              }

    low_start : (e : Event) → MayCome is_frame c w e → (node reading : ℕ) → e ≡ Start node (Some reading) → node < 32768
    low_start e may node reading h =
        let may_begin = sym (is_there-start is_frame c w node (Some reading)) ∙ subst (λ e. is_there is_frame c w e ≡ true) h may.there in
        low_node c.nodes node sound.nodes (and_parts (is_configured_node c node) (not (node_runs w node)) may_begin).0

    other_cases : (e : Event) → MayCome is_frame c w e → (IsStart e → ⊥) → Cases units c w e (Followed k t)
    other_cases e may not_start = record {
      still = record { machines = m; follows = f; real = tt; covers = λ y p e last a. absurd a };
      begins = λ node reading h. absurd (not_start (node, reading, h));
      stops = λ node s there. record {
        machines = m;
        follows = node_stops_follows k w t m f node;
        real = (tt, tt);
        covers = λ y p e last a. absurd (none_among (Stopped ∷ []) refl p e last a.1);
      };
      ticks = λ advance readings h. record {
        machines = m;
        follows = aside_follows k w t m f (w.time + advance) (map (ticked {a = units} (w.time + advance) readings) w.nodes) w.arbiters
            (at_ticked (w.time + advance) readings w.nodes) f.beside;
        real = tt;
        covers = λ y p e last a. absurd a;
      };
      acts = acts;
      table_begins = λ actor h. record {
        machines = m;
        follows = arbiter_starts_follows k w t m f c actor
            (actor_of_number c w actor (sym (is_there-start is_frame c w actor None) ∙ subst (λ e. is_there is_frame c w e ≡ true) h may.there));
        real = tt;
        covers = λ y p e last a. absurd (none_among [] refl p e last a.1);
      };
      table_stops = λ arbiter s there. record {
        machines = m;
        follows = arbiter_stops_follows k w t m f arbiter;
        real = (tt, tt);
        covers = λ y p e last a. absurd (none_among (Stopped ∷ []) refl p e last a.1);
      };
      rules = λ arbiter g s there came to.
          let r = rules_follow c k w t m f arbiter g s there came in record {
            machines = r.machines;
            follows = rule_follows _ f r.rule;
            real = subst AreReal (sym r.rule.silent) tt;
            covers = λ y p e last a.
                absurd
                (none_among (arbiter_step units c arbiter g s).told (subst (λ (rs : List Report). list_any is_unit_report rs ≡ false) (sym r.rule.silent) refl) p e last a.1);
          };
    }

  at_first : Follows k (real.empty_world units) (λ p. []) (λ p. empty_world)
  at_first = record {
    inv = λ p. empty_sound (settings_to k);
    last = λ node. failover_begun [];
    states = λ node p. (beginnings_lem k (node_instance node 0)).0.states p;
    begins = λ node p low. refl;
    low = λ node s there. absurd (cc (there));
    here = λ node s there. absurd (cc (there));
    acts = λ node s there. absurd (cc (there));
    fresh = λ y p lt. (beginnings_lem k y).0.managers p;
    registers = λ arbiter. (beginnings_lem k (real.arbiter_who arbiter)).1;
    beside = λ arbiter s there. absurd (cc (there));
    frames = λ g h. absurd h;
    told = λ p. refl;
  }

  numbered : (l : Lives) → Numbered (lives_world units c l)
  numbered l = let o = orderly_lives units units_stay c l in record { name = o.name; counted = o.counted }

  pub followed_lives : (l : Lives) → ValidLives units is_frame c l → FollowedLives c l
  followed_lives [] valid = record { machines = λ p. empty_world; follows = at_first; real = tt; covers = λ x p e last a. absurd a }
  followed_lives ((line, Comes e) ∷ l) valid =
      let before = followed_lives l valid.0 in
      let w : World units = lives_world units c l in
      let t : Tellings = told_lives c l in
      let now : Followed k (told_lives c l) (life_step units (whole_after c l) c (lives_world units c l) e) =
      life_cases units (whole_after c l) c w (Followed k t) e (other_cases w t before.machines (numbered l) before.follows e valid.1)
      (λ node reading h.
      begins w t before.machines (numbered l) before.follows (whole_after c l) node reading
      (low_start w t before.machines (numbered l) before.follows e valid.1 node reading h)) in
      record { machines = now.machines; follows = now.follows; real = (now.real, before.real); covers = now.covers }
  followed_lives ((line, Again whole) ∷ l) valid =
      let before = followed_lives l valid.0 in
      record { machines = before.machines; follows = before.follows; real = (tt, before.real); covers = λ x p e last a. absurd a }

  pub followed : (h : History) → Valid units is_frame c h → FollowedAfter c h
  followed h valid =
      let f = followed_lives (one_life h) (valid_one units c is_frame h valid) in
      record { machines = f.machines; follows = subst (λ (w : World units). Follows k w (told_of c h) f.machines) (world_one units c h) f.follows }
