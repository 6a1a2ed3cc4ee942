-- Each answer about names that a cluster reports is of the question that came then.
use Rattle.std.proofs.Common.{arith, ◌≡◌, ℕ, suc, Bool, true, false, List, [], ◌∷◌, length, Option, Some, None, refl, ap, sym, subst, ◌∙◌}
use Rattle.std.specs.Prelude.{Contains, slice_get}
use Rattle.std.proofs.lemmas.List.Elements.{All-contains, All-nil}
use Rattle.world_rules.proofs.Starts.{begun_first}
use Rattle.world_rules.specs.Starts.{first_whole, node_begun_in}
use Rattle.edge_io.specs.Readings.{is_fall}
use Rattle.edge_io.specs.declared.endpoint.Endpoint.{Endpoint}
use Rattle.epoch_safety.proofs.StepCommits.{asks_in}
use Rattle.epoch_safety.proofs.Unasked.{at_start}
use Rattle.unit_rules.specs.Fabric.{fabric, fabric_stays}
use Rattle.fabric_terms.specs.declared.message.Message.{Message}
use Rattle.fabric_terms.specs.declared.record.Record.{Record}
use Rattle.fabric_terms.specs.declared.report.Report.{Report}
use Rattle.fabric_terms.specs.Sound.{IsSound}
use Rattle.frame_format.specs.Kinds.{message_of}
use Rattle.ring_points.specs.declared.who.Who.{Who}
use Rattle.ring_rules.specs.declared.input.Input.{Input}
use Rattle.ring_rules.specs.declared.input.Input.TheVariants as input
use Rattle.run_facts.proofs.ArbiterSteps as arbiters
use Rattle.run_promises.specs.Questions.{tells_names}
use Rattle.turn_rules.specs.Happenings.{Absent, Begins, Bids, Comes, Datagram, Failed, Fires, Hears, History, Rests, Turns}
use Rattle.turn_rules.specs.Order.{IsServedOrder, TurnPosition}
use Rattle.turn_rules.specs.Plans.{Setting}
use Rattle.turn_rules.specs.Process.{End, Process, acts, acts_at, acts_with, after, begins, clamped, hears_frame, joins, joins_at, joins_with, reads_as, rests_at, takes, unless_ended, unless_full}
use Rattle.turn_rules.specs.Steps.{Arbiter, Member, Node, Step, Stepped, begun, begun_as, exceeds, present, rested, stepped}
use Rattle.world_rules.specs.Events.{is_arbiter_actor}
use Rattle.world_rules.specs.Nodes.{NodeState, node_begun, node_step}
use Rattle.world_rules.specs.Uppers.{Did}
use Rattle.world_rules.specs.Worlds.{empty_world}
use Rattle.cluster_safety.specs.Plans.{IsClusterPlan, KeepsNothing, OwnFrames}
use Rattle.cluster_safety.specs.Promises.{MemberAnswers, StepsAnswerOfCommitted}
use Rattle.cluster_safety.proofs.Acts.{JoinedBy}
use Rattle.cluster_safety.proofs.NodeAnswers.{answers, was_asked}
use Rattle.cluster_safety.proofs.Whole.{all_joined}

-- no step was taken
no_longer : (steps : List Step) (step : Step) → steps ≡ step ∷ steps → ⊥
no_longer steps step e = let n : length steps ≡ suc (length steps) = ap (λ (ss : List Step). length ss) e in absurd (omega (arith, n))

newest : (a b : Step) (steps : List Step) → a ∷ steps ≡ b ∷ steps → a ≡ b
newest a b steps e = cc (e)

nothing_in : (r : Report) (rs : List Report) → rs ≡ [] → Contains rs r → ⊥
nothing_in r rs none told = All-contains (λ (q : Report). ⊥) [] r (All-nil (λ (q : Report). ⊥)) (subst (λ (qs : List Report). Contains qs r) none told)

module _ (s : Setting) (r : Report) where
  -- there is a step more, and it tells the report
  pub record TellsMore (now before : List Step) : Type 0 where
    pub step : Step
    pub more : now ≡ step ∷ before
    pub told : Contains step.told r

  none_more : (steps : List Step) → TellsMore steps steps → ⊥
  none_more steps t = no_longer steps t.step t.more

  -- a step that is taken unless an arbitrator is full
  taken_tells : (p q : Process) (full : Bool) (d : Step) → q.steps ≡ d ∷ p.steps → TellsMore (unless_full p full q).steps p.steps → Contains d.told r
  taken_tells p q true d e t = absurd (none_more p.steps t)
  taken_tells p q false d e t = subst (λ (x : Step). Contains x.told r) (sym (newest d t.step p.steps (sym e ∙ t.more))) t.told

  -- An input: a node's step tells it.

  pub record TellsBy (p : Process) (place : ℕ) (i : Input) : Type 0 where
    pub node : NodeState fabric
    pub here : slice_get p.members place ≡ Some (Node node)
    pub told : Contains (node_step fabric s.plan.config (present p.last) i node).told r

  member_tells : (p : Process) (turn place : ℕ) (i : Input) (m : Member) → slice_get p.members place ≡ Some m →
      Contains (stepped s.plan.config turn p.last i m).step.told r → TellsBy p place i
  unfolding stepped
  member_tells p turn place i (Node node) here told = record { node = node; here = here; told = told }
  member_tells p turn place (input.Frame f) (Arbiter k a) here told =
      absurd (nothing_in r _ (arbiters.arbiter_stepped fabric fabric_stays s.plan.config k f a).silent told)
  member_tells p turn place input.Fire (Arbiter k a) here told = absurd (nothing_in r [] refl told)
  member_tells p turn place (input.Do d) (Arbiter k a) here told = absurd (nothing_in r [] refl told)

  acts_tells : (p : Process) (turn place : ℕ) (i : Input) → TellsMore (acts s turn p place i).steps p.steps → TellsBy p place i
  acts_tells p turn place i t = by_member (slice_get p.members place) refl t
    where
      by_member : (o : Option Member) → slice_get p.members place ≡ o → TellsMore (acts_at s turn p place i o).steps p.steps → TellsBy p place i
      by_member None here t = absurd (none_more p.steps t)
      by_member (Some m) here t =
          let d : Stepped = stepped s.plan.config turn p.last i m in
          member_tells p turn place i m here (taken_tells p (acts_with p place d) (exceeds d.member) d.step refl t)

  -- a turn that ends without a firing tells nothing
  rests_silent : (p : Process) (turn : ℕ) (o : Option Member) → TellsMore (rests_at turn p o).steps p.steps → ⊥
  rests_silent p turn None t = none_more p.steps t
  rests_silent p turn (Some (Node n)) t = nothing_in r [] refl (taken_tells p (rests_at turn p (Some (Node n))) false (rested turn p.last (Node n)) refl t)
  rests_silent p turn (Some (Arbiter k a)) t =
      nothing_in r [] refl (taken_tells p (rests_at turn p (Some (Arbiter k a))) false (rested turn p.last (Arbiter k a)) refl t)

  -- A start tells no answer.

  module _ (names : tells_names r ≡ true) (first : s.plan.whole ≡ first_whole s.plan.config) where
    begun_silent : (turn : ℕ) (last : Option ℕ) (actor : ℕ) (kept : List Record) → Contains (begun s.plan.config s.plan.whole turn last actor kept).step.told r → ⊥
    unfolding begun
    begun_silent turn last actor kept told = by_kind (is_arbiter_actor actor) told
      where
        by_kind : (b : Bool) → Contains (begun_as s.plan.config s.plan.whole turn last actor kept b).step.told r → ⊥
        by_kind true told = nothing_in r [] refl told
        by_kind false told =
            let same : node_begun_in fabric s.plan.whole s.plan.config actor kept ≡ node_begun fabric s.plan.config actor kept =
            ap (λ (w : Who). node_begun_in fabric w s.plan.config actor kept) first ∙ begun_first fabric s.plan.config actor kept in
            at_start s.plan.config (empty_world fabric) (node_begun fabric s.plan.config actor kept).state.ring.me r names actor (Some (present last)) kept
            (refl, subst (λ (d : Did (NodeState fabric)). Contains d.told r) same told)

    joins_silent : (p : Process) (turn place : ℕ) → TellsMore (joins s turn place p).steps p.steps → ⊥
    joins_silent p turn place t = by_actor (slice_get s.plan.actors place) (slice_get s.kept place) t
      where
        by_actor : (o : Option Endpoint) (k : Option (List Record)) → TellsMore (joins_at s turn p o k).steps p.steps → ⊥
        by_actor (Some e) (Some kept) t =
            let d : Stepped = begun s.plan.config s.plan.whole turn p.last e.actor kept in
            begun_silent turn p.last e.actor kept (taken_tells p (joins_with p d) (exceeds d.member) d.step refl t)
        by_actor (Some e) None t = none_more p.steps t
        by_actor None (Some kept) t = none_more p.steps t
        by_actor None None t = none_more p.steps t

    begins_silent : (p : Process) (turn place reading : ℕ) → TellsMore (begins s turn place p (Some reading)).steps p.steps → ⊥
    begins_silent p turn place reading t = by_fall (is_fall p.last (clamped reading)) t
      where
        by_end : (q : Process) (o : Option End) → TellsMore (unless_ended q o (joins s turn place q)).steps q.steps → ⊥
        by_end q None t = joins_silent q turn place t
        by_end q (Some end) t = none_more q.steps t

        by_fall : (b : Bool) → let q = reads_as p (clamped reading) b in TellsMore (unless_ended q q.end (joins s turn place q)).steps p.steps → ⊥
        by_fall true t = none_more p.steps t
        by_fall false t = by_end (record p { last = Some (clamped reading) }) p.end t

    reads_silent : (p : Process) (reading : ℕ) (b : Bool) → TellsMore (reads_as p reading b).steps p.steps → ⊥
    reads_silent p reading true t = none_more p.steps t
    reads_silent p reading false t = none_more p.steps t

    -- Whatever comes: a question was asked, and this is its answer.
    module _ (p : Process) (j : JoinedBy s p) (sound : IsSound s.plan.config) (cp : IsClusterPlan s.plan) (turn place : ℕ) where
      unasked : (i : Input) → asks_in i ≡ false → TellsBy p place i → ⊥
      unasked i none t = let asked = was_asked s.plan.config (present p.last) t.node r names i t.told in cc (none, asked)

      hears_silent : (o : Option Message) → TellsMore (hears_frame s turn p place o).steps p.steps → ⊥
      hears_silent None t = none_more p.steps t
      hears_silent (Some m) t = unasked (input.Frame m) refl (acts_tells p turn place (input.Frame m) t)

      pub answers_comes : (x : Comes) → TellsMore (takes s turn p place x).steps p.steps → MemberAnswers p (slice_get p.members place) r x
      answers_comes (Begins None) t = absurd (joins_silent p turn place t)
      answers_comes (Begins (Some reading)) t = absurd (begins_silent p turn place reading t)
      answers_comes (Turns reading) t = absurd (reads_silent p (clamped reading) (is_fall p.last (clamped reading)) t)
      answers_comes (Bids d) t =
          let by : TellsBy p place (input.Do d) = acts_tells p turn place (input.Do d) t in
          let asked : asks_in (input.Do d) ≡ true = was_asked s.plan.config (present p.last) by.node r names (input.Do d) by.told in
          subst (λ (o : Option Member). MemberAnswers p o r (Bids d)) (sym by.here)
          (answers s p j sound cp.rise r names place by.node by.here d asked by.told)
      answers_comes (Hears (Datagram bytes)) t = absurd (hears_silent (message_of bytes) t)
      answers_comes (Hears Absent) t = absurd (none_more p.steps t)
      answers_comes (Hears Failed) t = absurd (none_more p.steps t)
      answers_comes Fires t = absurd (unasked input.Fire refl (acts_tells p turn place input.Fire t))
      answers_comes Rests t = absurd (rests_silent p turn (slice_get p.members place) t)

pub answers_of_committed : (s : Setting) (h : History) (p : TurnPosition) → IsSound s.plan.config → IsClusterPlan s.plan → KeepsNothing s → IsServedOrder s.plan h p → OwnFrames s h →
    StepsAnswerOfCommitted s h
answers_of_committed s [] p sound cp kn order own = tt
answers_of_committed s (now ∷ earlier) p sound cp kn order own = λ step r more told names.
    let q : Process = after s earlier in
    let j : JoinedBy s q = (all_joined s cp kn earlier order.0 order.1.0 own.0).joined in
    by_end q j r names q.end (record { step = step; more = more; told = told })
  where
    by_end : (q : Process) → JoinedBy s q → (r : Report) → tells_names r ≡ true → (o : Option End) →
        TellsMore s r (unless_ended q o (takes s now.turn q now.place now.comes)).steps q.steps → MemberAnswers q (slice_get q.members now.place) r now.comes
    by_end q j r names None t = answers_comes s r names cp.whole q j sound cp now.turn now.place now.comes t
    by_end q j r names (Some end) t = absurd (none_more s r q.steps t)
