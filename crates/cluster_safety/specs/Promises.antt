-- What is promised of the steps of a cluster in one process.
use Rattle.std.specs.Prelude.{◌≡◌, ℕ, true, false, [], ◌∷◌, Option, Some, Ok, Contains, slice_get}
use Rattle.unit_rules.specs.Fabric.{fabric}
use Rattle.fabric_terms.specs.Primaries.{Safe}
use Rattle.fabric_terms.specs.declared.command.Command.{Command}
use Rattle.fabric_terms.specs.declared.command.Command.TheVariants as command
use Rattle.fabric_terms.specs.declared.report.Report.{Report}
use Rattle.join_phases.specs.Phases.{is_left}
use Rattle.name_rules.specs.Names.{NameMap}
use Rattle.replica_records.specs.ReplicaStates.{state_at}
use Rattle.run_promises.specs.Answers.{IsAnswerBy}
use Rattle.run_promises.specs.Covered.{CoverCommittedIn}
use Rattle.run_promises.specs.Questions.{tells_names}
use Rattle.run_promises.specs.Writes.{CommitsAgreeIn, WritesKeptIn}
use Rattle.turn_rules.specs.Happenings.{Bids, Comes, History}
use Rattle.turn_rules.specs.Plans.{Setting}
use Rattle.turn_rules.specs.Process.{Process, after}
use Rattle.turn_rules.specs.Steps.{Member, Node, Step}
use Rattle.unit_rules.specs.Answers.{listing, ready, resolution}
use Rattle.unit_rules.specs.Progress.{progress_of}
use Rattle.world_rules.specs.Nodes.{NodeState}
use Rattle.cluster_safety.specs.Logs.{past_of}
use Rattle.cluster_safety.specs.Moments.{moments_of}

-- Names.

-- Whoever may answer about names answers by so many entries of its log, and they cover what was reported committed.
abbrev pub MembersCoverCommitted : Process → Type 0
MembersCoverCommitted p =
    (place partition count : ℕ) (node : NodeState fabric) →
    slice_get p.members place ≡ Some (Node node) → is_left node.ring.phase ≡ false →
    let state = state_at partition node.above in
    ready (progress_of state) ≡ Ok count → CoverCommittedIn (past_of p.steps) partition count state.replica

-- the report is the node's answer, by entries that cover what was reported committed before
pub record MemberRestsOnCommitted (p : Process) (node : NodeState fabric) (partition : ℕ) (answer : NameMap → Report) (r : Report) : Type 0 where
  pub is : IsAnswerBy node partition answer r
  pub covers : CoverCommittedIn (past_of p.steps) partition is.count (state_at partition node.above).replica

-- it answers what the command asked, of the partition that it asked about
abbrev pub MemberAnswersCommand : Process → NodeState fabric → Report → Command → Type 0
MemberAnswersCommand p node r (command.Resolve partition name) = MemberRestsOnCommitted p node partition (resolution partition name) r
MemberAnswersCommand p node r (command.Names partition range) = MemberRestsOnCommitted p node partition (listing partition range) r
MemberAnswersCommand p node r _ = ⊥

-- this actor was asked by what came, and the report is its answer
abbrev pub MemberAnswers : Process → Option Member → Report → Comes → Type 0
MemberAnswers p (Some (Node node)) r (Bids asked) = MemberAnswersCommand p node r asked
MemberAnswers p _ r _ = ⊥

-- Each answer about names in the newest step answers the question that came then, by entries that begin with all that was
-- reported committed of its partition before, in epochs up to the replica's own of the same data loss number.
abbrev pub StepsAnswerOfCommitted : Setting → History → Type 0
StepsAnswerOfCommitted s [] = Unit {0}
StepsAnswerOfCommitted s (now ∷ earlier) =
    let before = after s earlier in
    (step : Step) (r : Report) → (after s (now ∷ earlier)).steps ≡ step ∷ before.steps → Contains step.told r → tells_names r ≡ true →
    MemberAnswers before (slice_get before.members now.place) r now.comes

-- What has come leads to safe steps.
pub record SafeSteps (s : Setting) (h : History) : Type 0 where
  -- The ring: no two instances hold one point, and who was taken over holds nothing. Partitions: one primary an epoch, and no
  -- write of an older epoch than one that was promised.
  pub run : Safe (moments_of (after s h).steps)
  -- What was committed stands in the log of each later primary of the same data loss number, and all reports of it agree.
  pub writes : WritesKeptIn (past_of (after s h).steps)
  pub agree : CommitsAgreeIn (past_of (after s h).steps)
  -- Whoever may answer about names leaves out nothing that was committed, and each answer that is reported is of such entries.
  pub names : MembersCoverCommitted (after s h)
  pub answers : StepsAnswerOfCommitted s h
