-- Each answer about names that a run reports is of the partition that was asked about, by entries that cover what was committed.
use Rattle.std.proofs.Common.{◌≡◌, ℕ, Bool, true, false, List, [], ◌∷◌, Option, None, Some, length, refl, sym, ap, ◌∙◌, subst}
use Rattle.fabric_lemmas.specs.Maps.{at}
use Rattle.fabric_terms.specs.declared.command.Command.{Command}
use Rattle.fabric_terms.specs.declared.command.Command.TheVariants as command
use Rattle.fabric_terms.specs.declared.config.FabricConfig.{FabricConfig}
use Rattle.fabric_terms.specs.declared.event.Event.{Event}
use Rattle.fabric_terms.specs.declared.event.Event.TheVariants.{Start, Stop, Tick, Fire, Give, Do, Junk}
use Rattle.fabric_terms.specs.declared.report.Report.{Report}
use Rattle.fabric_terms.specs.Sound.{IsSound}
use Rattle.join_phases.specs.Phases.{is_left}
use Rattle.name_rules.specs.Names.{NameMap}
use Rattle.replica_records.specs.ReplicaStates.{state_at}
use Rattle.ring_points.specs.declared.who.Who.{Who}
use Rattle.ring_points.specs.Whos.{node_instance}
use Rattle.ring_rules.specs.declared.input.Input.{Input}
use Rattle.ring_rules.specs.declared.input.Input.TheVariants as input
use Rattle.ring_rules.specs.Rings.{settings_of}
use Rattle.run_facts.proofs.Orderly.{orderly}
use Rattle.run_facts.proofs.Steps.{ring_stepped}
use Rattle.run_promises.specs.Answers.{AnsweredBy, AnswersCommand, AnswersEvent}
use Rattle.run_promises.specs.Questions.{asks_names, is_question, tells_names}
use Rattle.run_promises.specs.Reports.{IsAmong}
use Rattle.run_promises.specs.Snapshots.{Snapshots, snapshots_of}
use Rattle.unit_rules.specs.Answers.{listing, resolution}
use Rattle.unit_rules.specs.Stays.{units_stay}
use Rattle.unit_rules.specs.Steps.{Failover}
use Rattle.unit_rules.specs.Units.{units}
use Rattle.world_rules.proofs.Rows.{node_step-is}
use Rattle.world_rules.specs.Events.{acts_at, world_step}
use Rattle.world_rules.specs.Nodes.{boots_of}
use Rattle.world_rules.specs.Runs.{History, world_after}
use Rattle.world_rules.specs.Schedules.{Valid}
use Rattle.world_rules.specs.Worlds.{World, Running, kept_of}
use Rattle.cold_start.specs.Lives.{Again, Comes, Happening, happened, life_step, lives_world, whole_after}
use Rattle.cold_start.proofs.Facts.{orderly_lives}
use Rattle.epoch_refinement.specs.Nodes.{Machines}
use Rattle.epoch_refinement.specs.ReplicaStates.{ShowsReplicaState}
use Rattle.epoch_safety.specs.Answers.{named_at}
use Rattle.epoch_safety.specs.Laws.{AnswersAreOfCommitted}
use Rattle.epoch_safety.specs.Lives.{AnswersCommandIn, AnswersEventIn, AnswersIn, LivesAnswerOfCommitted, NamesCoveredIn, RestsIn, lives_snapshots}
use Rattle.epoch_safety.proofs.Asked.{answers_by_entries_lem}
use Rattle.epoch_safety.proofs.BeginFollows.{begun_in_apart}
use Rattle.epoch_safety.proofs.Followed.{FollowedAfter, FollowedLives, followed, followed_lives}
use Rattle.epoch_safety.proofs.Follows.{Follows}
use Rattle.epoch_safety.proofs.Naming.{lives_cover_names_lem, names_covered_lem}
use Rattle.epoch_safety.proofs.Telling.{Tellings}
use Rattle.epoch_safety.proofs.Unasked.{never, only_questions_lem}

-- in a world that the machines follow, where who runs under a number is of that node
module _ (c : FabricConfig) (w : World units) (past : Snapshots) (t : Tellings) (m : Machines) (f : Follows (length c.arbiters) w t m)
    (named : (node : ℕ) (s : Running units) → at node w.nodes ≡ Some s → s.node.ring.me ≡ node_instance node (boots_of (kept_of w node)))
    (covered : NamesCoveredIn w past) where
  -- a node's replica of a partition names it
  pub partition_here : (node p : ℕ) (s : Running units) → at node w.nodes ≡ Some s → is_left s.node.ring.phase ≡ false →
      (state_at p s.node.above).replica.partition ≡ p
  partition_here node p s there stay =
      let shows : ShowsReplicaState (m p) p node (state_at p s.node.above) =
      subst (λ (u : Failover). ShowsReplicaState (m p) p node (state_at p u)) (f.here node s there stay) (f.states node p) in
      shows.partition

  -- who does something at a node is its instance
  actor_acts : (node : ℕ) (i : Input) (x : Who) (r : Report) (o : Option (Running units)) → at node w.nodes ≡ o →
      IsAmong (acts_at units c w node i o).entry x r → x.actor ≡ node
  actor_acts node i x r None there a = absurd a
  actor_acts node i x r (Some s) there a =
      let stepped = ring_stepped (settings_of c s.node.ring.me.actor) s.reading i s.node.ring in
      let me = ap (λ d. d.state.ring.me) (node_step-is units c s.reading i s.node) ∙ stepped.name in
      ap (λ (z : Who). z.actor) (sym a.0 ∙ (me ∙ named node s there))

  rests : (node p : ℕ) (answer : ℕ → NameMap → Report) (r : Report) → AnsweredBy w node p (answer (named_at p (at node w.nodes))) r →
      RestsIn w past node p (answer p) r
  rests node p answer r k =
      let same : named_at p (at node w.nodes) ≡ p = ap (named_at p) k.there ∙ partition_here node p k.running k.there k.is.stays in
      let by : AnsweredBy w node p (answer p) r = subst (λ (n : ℕ). AnsweredBy w node p (answer n) r) same k in
      record { by = by; covers = covered node p by.is.count by.running by.there by.is.stays by.is.is_ready }

  to_command : (node : ℕ) (x : Who) (r : Report) → tells_names r ≡ true → (asked : Command) → asks_names asked ≡ true →
      IsAmong (world_step units c w (Do node asked)).entry x r → AnswersCommandIn w past node r asked
  to_command node x r names (command.Resolve p name) asks a =
      rests node p (λ q. resolution q name) r ((answers_by_entries_lem c w node p x r names).0 name a)
  to_command node x r names (command.Names p range) asks a =
      rests node p (λ q. listing q range) r ((answers_by_entries_lem c w node p x r names).1 range a)
  to_command node x r names asked asks a = absurd (cc (asks))

  pub to_event : (x : Who) (r : Report) → tells_names r ≡ true → (e : Event) → is_question e ≡ true →
      IsAmong (world_step units c w e).entry x r → AnswersEventIn w past x r e
  unfolding world_step
  to_event x r names (Do node asked) asks a =
      (actor_acts node (input.Do asked) x r (at node w.nodes) refl a, to_command node x r names asked asks a)
  to_event x r names e asks a = absurd (cc (asks))

  -- an event of a schedule, or a start of a life
  pub to_life : (whole : Who) (x : Who) (r : Report) → tells_names r ≡ true → (e : Event) → IsAmong (life_step units whole c w e).entry x r →
      AnswersEventIn w past x r e
  to_life whole x r names (Start node (Some reading)) a =
      absurd (never c w x r names _ (begun_in_apart whole c node (kept_of w node)) a.1)
  to_life whole x r names (Start node None) a =
      to_event x r names (Start node None) (only_questions_lem c w (Start node None) x r names a) a
  to_life whole x r names (Stop actor) a = to_event x r names (Stop actor) (only_questions_lem c w (Stop actor) x r names a) a
  to_life whole x r names (Tick advance readings) a =
      to_event x r names (Tick advance readings) (only_questions_lem c w (Tick advance readings) x r names a) a
  to_life whole x r names (Fire node) a = to_event x r names (Fire node) (only_questions_lem c w (Fire node) x r names a) a
  to_life whole x r names (Give frame) a = to_event x r names (Give frame) (only_questions_lem c w (Give frame) x r names a) a
  to_life whole x r names (Do node asked) a = to_event x r names (Do node asked) (only_questions_lem c w (Do node asked) x r names a) a
  to_life whole x r names (Junk actor bytes) a =
      to_event x r names (Junk actor bytes) (only_questions_lem c w (Junk actor bytes) x r names a) a

  pub to_happening : (whole : Who) (x : Who) (r : Report) → tells_names r ≡ true → (z : Happening) → IsAmong (happened units whole c w z).entry x r →
      AnswersIn w past x r z
  to_happening whole x r names (Comes e) a = to_life whole x r names e a
  to_happening whole x r names (Again next) a = a

pub lives_answer_lem : LivesAnswerOfCommitted
lives_answer_lem is_frame c [] sound valid = tt
lives_answer_lem is_frame c (now ∷ earlier) sound valid = λ x r reported names.
    let f : FollowedLives c earlier = followed_lives is_frame c sound earlier valid.0 in
    to_happening c (lives_world units c earlier) (lives_snapshots c earlier) _ f.machines f.follows (orderly_lives units units_stay c earlier).name
    (lives_cover_names_lem is_frame c earlier sound valid.0) (whole_after c earlier) x r names now.1 reported

-- of a schedule

pub own_partition : (is_frame : List ℕ → Bool) (c : FabricConfig) → IsSound c → (h : History) → Valid units is_frame c h → (node p : ℕ) (s : Running units) →
    at node (world_after units c h).nodes ≡ Some s → is_left s.node.ring.phase ≡ false → (state_at p s.node.above).replica.partition ≡ p
own_partition is_frame c sound h valid node p s there stay =
    let f : FollowedAfter c h = followed is_frame c sound h valid in
    partition_here c (world_after units c h) (snapshots_of c h) _ f.machines f.follows (orderly units c units_stay h).name
    (names_covered_lem is_frame c h sound valid) node p s there stay

of_command : (c : FabricConfig) (h : History) (node : ℕ) (r : Report) (asked : Command) →
    AnswersCommandIn (world_after units c h) (snapshots_of c h) node r asked → AnswersCommand c h node r asked
of_command c h node r (command.Resolve p name) k = record { by = k.by; covers = k.covers }
of_command c h node r (command.Names p range) k = record { by = k.by; covers = k.covers }
of_command c h node r asked k = absurd k

of_event : (c : FabricConfig) (h : History) (x : Who) (r : Report) (e : Event) →
    AnswersEventIn (world_after units c h) (snapshots_of c h) x r e → AnswersEvent c h x r e
of_event c h x r (Do node asked) k = (k.0, of_command c h node r asked k.1)
of_event c h x r e k = absurd k

pub answers_of_committed_lem : AnswersAreOfCommitted
answers_of_committed_lem is_frame c [] sound valid = tt
answers_of_committed_lem is_frame c (now ∷ earlier) sound valid = λ x r reported names.
    let asked : is_question now.1 ≡ true = only_questions_lem c (world_after units c earlier) now.1 x r names reported in
    let f : FollowedAfter c earlier = followed is_frame c sound earlier valid.0 in
    of_event c earlier x r now.1
    (to_event c (world_after units c earlier) (snapshots_of c earlier) _ f.machines f.follows (orderly units c units_stay earlier).name
    (names_covered_lem is_frame c earlier sound valid.0) x r names now.1 asked reported)
