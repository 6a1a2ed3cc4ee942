-- Each row of a manager and of replicas keeps what runs above the ring in range.
use Rattle.std.proofs.Common.{◌≡◌, ℕ, ◌&&◌, List, [], ◌∷◌, length, Option, Some, None, IsTrue, refl, arith}
use Rattle.std.specs.Prelude.{All, flat_map, unwrap_or}
use Rattle.std.proofs.lemmas.Bool.{and_parts, le-leb, lt-ltb}
use Rattle.std.proofs.lemmas.List.Elements.{All-append, All-head, All-tail}
use Rattle.fabric_lemmas.specs.Maps.{at}
use Rattle.fabric_terms.specs.declared.command.Command.{Command}
use Rattle.fabric_terms.specs.declared.command.Command.TheVariants as command
use Rattle.fabric_terms.specs.declared.config.FabricConfig.{FabricConfig}
use Rattle.fabric_terms.specs.declared.message.Body.{Body}
use Rattle.fabric_terms.specs.declared.message.Body.TheVariants as body
use Rattle.fabric_terms.specs.declared.report.Report.TheVariants as report
use Rattle.fabric_terms.specs.declared.report.Reason.TheVariants as reason
use Rattle.fabric_terms.specs.declared.report.Verb.TheVariants as verb
use Rattle.fabric_terms.specs.Fields.{is_addressee, is_epoch, is_last, is_node, is_payload, is_sender, is_short, is_unit, is_word}
use Rattle.fabric_terms.specs.Messages.{is_sound_body}
use Rattle.fabric_terms.specs.Ranges.{FitsCommand, IsPartition}
use Rattle.fabric_terms.specs.Sound.{IsSound}
use Rattle.failover_units.specs.Units.{partitions_in}
use Rattle.frames_fit.specs.Formats.{InputInFormat}
use Rattle.frames_fit.proofs.Each.{Each, at_each, put_each}
use Rattle.frames_fit.proofs.Facts.{within_from}
use Rattle.frames_fit.proofs.Frames.{sound_parts}
use Rattle.ring_points.specs.declared.unit.Epoch.{Epoch}
use Rattle.ring_points.specs.declared.who.Who.{Who}
use Rattle.ring_rules.specs.declared.input.Input.{Input}
use Rattle.ring_rules.specs.declared.input.Input.TheVariants as input
use Rattle.ring_rules.specs.Owns.{holds_point}
use Rattle.ring_rules.specs.Rings.{Ring, settings_of}
use Rattle.unit_rules.specs.declared.reconfig.Kind.{Kind}
use Rattle.unit_rules.specs.declared.reconfig.Kind.TheVariants.{Create, Swap, Heal, Lose}
use Rattle.unit_rules.specs.Activations.{activate_received}
use Rattle.unit_rules.specs.Answers.{names_commanded, resolve_commanded}
use Rattle.unit_rules.specs.Copies.{fetch_received, piece_received, sync_received}
use Rattle.unit_rules.specs.Deeds.{Acted, Tell, refuse, still}
use Rattle.unit_rules.specs.Loads.{Site, loads, site_of}
use Rattle.unit_rules.specs.Manager.{Managed, manager_answered, reconfig_commanded}
use Rattle.unit_rules.specs.Promises.{promise_received}
use Rattle.unit_rules.specs.Questions.{reconfig_fired}
use Rattle.unit_rules.specs.Reconfigs.{Reconfig}
use Rattle.unit_rules.specs.ReplicaStates.{ReplicaState, first_state}
use Rattle.unit_rules.specs.Steps.{Failover, answer, at_found, at_state, at_standing, by_manager, by_state, command_row, failover_step, fired, frame_row, manage}
use Rattle.unit_rules.specs.Writes.{append_received, appended_received, state_fired, write_commanded}
use Rattle.fabric_fit.specs.Deeds.{ActedInRange, DeedInRange}
use Rattle.fabric_fit.specs.Failovers.{FailoverInRange}
use Rattle.fabric_fit.specs.Managers.{ManagedInRange, ReconfigInRange, is_kind}
use Rattle.fabric_fit.specs.ReplicaStates.{ReplicaStateInRange}
use Rattle.fabric_fit.proofs.Activations.{activate_received_in_range}
use Rattle.fabric_fit.proofs.Answers.{sender_addressed}
use Rattle.fabric_fit.proofs.Asking.{reconfig_fired_in_range}
use Rattle.fabric_fit.proofs.Copies.{fetch_received_in_range, piece_received_in_range, sync_received_in_range}
use Rattle.fabric_fit.proofs.Deeds.{does_one, no_deeds, stays_in_range}
use Rattle.fabric_fit.proofs.Knowing.{listed_in_range}
use Rattle.fabric_fit.proofs.Managing.{manager_answered_in_range, reconfig_commanded_in_range}
use Rattle.fabric_fit.proofs.Members.{config_parts}
use Rattle.fabric_fit.proofs.Naming.{names_commanded_in_range, resolve_commanded_in_range}
use Rattle.fabric_fit.proofs.Placing.{loads_in_range}
use Rattle.fabric_fit.proofs.Promises.{promise_received_in_range}
use Rattle.fabric_fit.proofs.Starts.{first_state_in_range}
use Rattle.fabric_fit.proofs.Writes.{append_received_in_range, appended_received_in_range, state_fired_in_range, write_commanded_in_range}

abbrev pub Acts : Acted Failover → Type 0
Acts a = ActedInRange FailoverInRange a

module _ (s : Failover) (fine : FailoverInRange s) where
  still_in_range : Acts (still s)
  still_in_range = stays_in_range FailoverInRange s fine

  -- At the manager, and at the replica of a partition.

  by_manager_in_range : (a : Acted Managed) → ActedInRange ManagedInRange a → Acts (by_manager s a)
  by_manager_in_range a h = record { state = record { managed = h.state; states = fine.states }; deeds = h.deeds }

  by_state_in_range : (partition : ℕ) (a : Acted ReplicaState) → ActedInRange ReplicaStateInRange a → Acts (by_state partition s a)
  by_state_in_range partition a h =
      record { state = record { managed = fine.managed; states = put_each ReplicaStateInRange partition a.state s.states h.state fine.states }; deeds = h.deeds }

  at_state_in_range : (partition : ℕ) → IsTrue (is_short partition) → (row : ReplicaState → Acted ReplicaState) → ((t : ReplicaState) → ReplicaStateInRange t → ActedInRange ReplicaStateInRange (row t))
      → Acts (at_state partition row s)
  at_state_in_range partition h row each = found (at partition s.states) refl
    where
      found : (o : Option ReplicaState) → at partition s.states ≡ o → Acts (by_state partition s (row (unwrap_or o (first_state partition))))
      found None e = by_state_in_range partition (row (first_state partition)) (each (first_state partition) (first_state_in_range partition h))
      found (Some t) e = by_state_in_range partition (row t) (each t (at_each ReplicaStateInRange partition s.states t fine.states e))

  at_standing_in_range : (partition : ℕ) (row : ReplicaState → Acted ReplicaState) (none : Acted Failover) → ((t : ReplicaState) → ReplicaStateInRange t → ActedInRange ReplicaStateInRange (row t))
      → Acts none → Acts (at_standing partition row none s)
  at_standing_in_range partition row none each h = found (at partition s.states) refl
    where
      found : (o : Option ReplicaState) → at partition s.states ≡ o → Acts (at_found partition row none s o)
      found None e = h
      found (Some t) e = by_state_in_range partition (row t) (each t (at_each ReplicaStateInRange partition s.states t fine.states e))

  module _ (c : FabricConfig) (sound : IsSound c) (now : ℕ) (r : Ring) where
    abbrev site : Site
    site = site_of c r.me.actor

    -- A frame.

    answer_in_range : (actor partition : ℕ) (epoch : Epoch) (b : Body) → IsTrue (is_sound_body b) → Acts (answer site now r actor partition epoch b s)
    answer_in_range actor partition epoch b h =
        by_manager_in_range (manager_answered (loads site now r s.managed.units) actor partition epoch b s.managed)
        (manager_answered_in_range s.managed fine.managed (loads site now r s.managed.units) (loads_in_range c sound now r s.managed.units) actor epoch b h partition)

    module _ (x : Who) (sends : IsTrue (is_sender x)) where
      addressed : IsTrue (is_addressee x)
      addressed = sender_addressed x sends

      frame_in_range : (b : Body) → IsTrue (is_sound_body b) → Acts (frame_row site now r x b s)
      frame_in_range (body.Prepared partition epoch done) h = answer_in_range x.actor partition epoch (body.Prepared partition epoch done) h
      frame_in_range (body.NoPrepare partition epoch kept) h = answer_in_range x.actor partition epoch (body.NoPrepare partition epoch kept) h
      frame_in_range (body.Voted partition epoch first) h = answer_in_range x.actor partition epoch (body.Voted partition epoch first) h
      frame_in_range (body.NoVote partition epoch kept) h = answer_in_range x.actor partition epoch (body.NoVote partition epoch kept) h
      frame_in_range (body.DoneKept partition epoch) h = answer_in_range x.actor partition epoch (body.DoneKept partition epoch) h
      frame_in_range (body.NoDone partition epoch kept) h = answer_in_range x.actor partition epoch (body.NoDone partition epoch kept) h
      frame_in_range (body.Promised partition epoch at last) h = answer_in_range x.actor partition epoch (body.Promised partition epoch at last) h
      frame_in_range (body.Adopted partition epoch last) h = answer_in_range x.actor partition epoch (body.Adopted partition epoch last) h
      frame_in_range (body.Activated partition epoch) h = answer_in_range x.actor partition epoch (body.Activated partition epoch) h
      frame_in_range (body.Older partition epoch kept) h = answer_in_range x.actor partition epoch (body.Older partition epoch kept) h
      frame_in_range (body.Promise partition epoch) h =
          let unit = and_parts (is_short partition) (is_epoch epoch) h in
          at_state_in_range partition unit.0 (promise_received x epoch) (promise_received_in_range x addressed epoch unit.1)
      frame_in_range (body.Sync partition epoch origin last) h =
          let parts = and_parts (is_unit partition epoch && is_node origin) (is_last last) h in
          let more = and_parts (is_unit partition epoch) (is_node origin) parts.0 in
          let unit = and_parts (is_short partition) (is_epoch epoch) more.0 in
          at_state_in_range partition unit.0 (sync_received r.me.actor (record { epoch = epoch; origin = origin; last = last; asker = x }))
          (sync_received_in_range (record { epoch = epoch; origin = origin; last = last; asker = x })
          (record { epoch = unit.1; origin = more.1; last = parts.1; asker = sends }) r.me.actor)
      frame_in_range (body.Fetch partition epoch lsn) h =
          let unit = and_parts (is_short partition) (is_epoch epoch) (and_parts (is_unit partition epoch) (is_word lsn) h).0 in
          at_standing_in_range partition (fetch_received x epoch lsn) (still s) (λ t k. fetch_received_in_range x addressed epoch unit.1 t k lsn) still_in_range
      frame_in_range (body.Piece partition epoch lsn entry_epoch text) h =
          let parts = and_parts ((is_unit partition epoch && is_word lsn) && is_epoch entry_epoch) (is_payload text) h in
          let of = (and_parts (is_unit partition epoch && is_word lsn) (is_epoch entry_epoch) parts.0).1 in
          at_standing_in_range partition (piece_received epoch (record { epoch = entry_epoch; lsn = lsn; bytes = text })) (still s)
          (piece_received_in_range epoch (record { epoch = entry_epoch; lsn = lsn; bytes = text }) of parts.1) still_in_range
      frame_in_range (body.Activate config) h =
          let unit = and_parts (is_short config.partition) (is_epoch config.epoch) (config_parts config h).unit in
          at_state_in_range config.partition unit.0 (activate_received r.me.actor x config) (activate_received_in_range r.me.actor x addressed config h)
      frame_in_range (body.Append partition epoch lsn text) h =
          let parts = and_parts (is_unit partition epoch && is_word lsn) (is_payload text) h in
          let unit = and_parts (is_short partition) (is_epoch epoch) (and_parts (is_unit partition epoch) (is_word lsn) parts.0).0 in
          at_state_in_range partition unit.0 (append_received x epoch lsn text) (append_received_in_range x addressed epoch unit.1 lsn text parts.1)
      frame_in_range (body.Appended partition epoch last) h =
          let word = (and_parts (is_unit partition epoch) (is_word last) h).1 in
          at_standing_in_range partition (appended_received x.actor epoch last) (still s) (λ t k. appended_received_in_range t k x.actor epoch last word) still_in_range
      frame_in_range b h = still_in_range

    -- A command.

    manage_in_range : (partition : ℕ) (kind : Kind) → IsPartition partition → IsTrue (is_kind kind) → Acts (manage site now r partition kind s)
    manage_in_range partition kind h k =
        by_manager_in_range (reconfig_commanded (holds_point (settings_of c r.me.actor) now 0 r) (length c.arbiters) partition kind s.managed)
        (reconfig_commanded_in_range s.managed fine.managed (holds_point (settings_of c r.me.actor) now 0 r) (length c.arbiters) partition kind
        sound.arbiters_count.to_high (lt-ltb partition 65536 (omega arith)) k)

    command_in_range : (d : Command) → FitsCommand d → Acts (command_row site now r d s)
    command_in_range (command.Create partition count) h = manage_in_range partition (Create count) h.0 (within_from 1 7 count h.1.0 h.1.1)
    command_in_range (command.Swap partition node) h = manage_in_range partition (Swap node) h.0 (within_from 1 999 node h.1.0 h.1.1)
    command_in_range (command.Heal partition count) h = manage_in_range partition (Heal count) h.0 (within_from 1 7 count h.1.0 h.1.1)
    command_in_range (command.Lose partition node) h = manage_in_range partition (Lose node) h.0 (within_from 1 999 node h.1.0 h.1.1)
    command_in_range (command.Write partition text) h =
        at_standing_in_range partition (write_commanded text) (refuse verb.Write reason.NotPrimary s)
        (write_commanded_in_range text (le-leb (length text) 512 h.1.1)) (does_one FailoverInRange s (Tell (report.Refused verb.Write reason.NotPrimary)) fine tt)
    command_in_range (command.Units range) h =
        does_one FailoverInRange s (Tell (report.UnitList (partitions_in range s.managed.units))) fine (listed_in_range range s.managed.units fine.managed.units)
    command_in_range (command.Resolve partition name) h =
        at_standing_in_range partition (resolve_commanded name) (refuse verb.Resolve reason.NotPrimary s)
        (resolve_commanded_in_range name h.1)
        (does_one FailoverInRange s (Tell (report.Refused verb.Resolve reason.NotPrimary)) fine tt)
    command_in_range (command.Names partition range) h =
        at_standing_in_range partition (names_commanded range) (refuse verb.Names reason.NotPrimary s)
        (names_commanded_in_range range)
        (does_one FailoverInRange s (Tell (report.Refused verb.Names reason.NotPrimary)) fine tt)
    command_in_range d h = still_in_range

    -- A firing.

    reconfigs_fired : (es : List (ℕ × Reconfig)) → Each ReconfigInRange es → All DeedInRange (flat_map (λ e. reconfig_fired e.1) es)
    reconfigs_fired [] h = no_deeds
    reconfigs_fired (e ∷ es) h =
        All-append DeedInRange (reconfig_fired e.1) (flat_map (λ e. reconfig_fired e.1) es)
        (reconfig_fired_in_range e.1 (All-head (λ e. ReconfigInRange e.1) e es h)) (reconfigs_fired es (All-tail (λ e. ReconfigInRange e.1) e es h))

    states_fired : (es : List (ℕ × ReplicaState)) → Each ReplicaStateInRange es → All DeedInRange (flat_map (λ e. state_fired e.1) es)
    states_fired [] h = no_deeds
    states_fired (e ∷ es) h =
        All-append DeedInRange (state_fired e.1) (flat_map (λ e. state_fired e.1) es)
        (state_fired_in_range e.1 (All-head (λ e. ReplicaStateInRange e.1) e es h)) (states_fired es (All-tail (λ e. ReplicaStateInRange e.1) e es h))

    fired_in_range : All DeedInRange (fired s)
    fired_in_range =
        All-append DeedInRange (flat_map (λ e. reconfig_fired e.1) s.managed.reconfigs) (flat_map (λ e. state_fired e.1) s.states)
        (reconfigs_fired s.managed.reconfigs fine.managed.reconfigs) (states_fired s.states fine.states)

    pub step_in_range : (i : Input) → InputInFormat i → Acts (failover_step site now r s i)
    unfolding failover_step
    step_in_range input.Fire h = record { state = fine; deeds = fired_in_range }
    step_in_range (input.Frame m) h = let parts = sound_parts m h in frame_in_range m.from parts.from m.body parts.body
    step_in_range (input.Do d) h = command_in_range d h
