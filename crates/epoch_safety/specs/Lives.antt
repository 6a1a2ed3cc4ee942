-- The laws of primaries, epochs and writes of a cluster that comes back after all its nodes have stopped, over all its lives.
use Rattle.std.specs.Prelude.{◌≡◌, ℕ, ◌≤◌, Bool, false, List, Some, Ok, take, drop, true, [], ◌∷◌}
use Rattle.fabric_lemmas.specs.Maps.{at}
use Rattle.fabric_terms.specs.declared.config.FabricConfig.{FabricConfig}
use Rattle.fabric_terms.specs.declared.report.Report.TheVariants.{Committed}
use Rattle.fabric_terms.specs.Sound.{IsSound}
use Rattle.fabric_terms.specs.Primaries.{OnePrimary, NoOlder}
use Rattle.join_phases.specs.Phases.{is_left}
use Rattle.replica_core.specs.declared.entry.Entry.{Entry}
use Rattle.replica_records.specs.ReplicaStates.{state_at}
use Rattle.ring_points.specs.declared.unit.Epoch.{Epoch}
use Rattle.ring_points.specs.declared.who.Who.{Who}
use Rattle.run_promises.specs.Covered.{CoverCommittedIn}
use Rattle.run_promises.specs.Reports.{HasReported, log_in}
use Rattle.run_promises.specs.Snapshots.{Snapshots}
use Rattle.run_promises.specs.Writes.{WritesKeptIn}
use Rattle.unit_rules.specs.Units.{units}
use Rattle.unit_rules.specs.Progress.{progress_of}
use Rattle.unit_rules.specs.Answers.{ready, listing, resolution}
use Rattle.ring_points.specs.Epochs.{is_older}
use Rattle.world_rules.specs.Worlds.{World, Running}
use Rattle.cold_start.specs.Lives.{Lives, ValidLives, lives_run, lives_world, Again, Comes, Happening}
use Rattle.run_promises.specs.Answers.{AnsweredBy}
use Rattle.run_promises.specs.Questions.{tells_names}
use Rattle.fabric_terms.specs.declared.command.Command.{Command}
use Rattle.fabric_terms.specs.declared.command.Command.TheVariants as command
use Rattle.fabric_terms.specs.declared.report.Report.{Report}
use Rattle.fabric_terms.specs.declared.event.Event.{Event}
use Rattle.fabric_terms.specs.declared.event.Event.TheVariants.{Do}
use Rattle.name_rules.specs.Names.{NameMap}

-- it holds of every valid row of lives of every sound configuration
abbrev pub OverValidLives : (FabricConfig → Lives → Type 0) → Type 0
OverValidLives Holds = (is_frame : List ℕ → Bool) (c : FabricConfig) (l : Lives) → IsSound c → ValidLives units is_frame c l → Holds c l

-- the node's log of the partition after these lives
abbrev pub lives_log : FabricConfig → Lives → (node partition : ℕ) → List Entry
lives_log c l node partition = log_in (lives_world units c l) node partition

-- what is known of a row of lives at each of its moments
abbrev pub lives_snapshots : FabricConfig → Lives → Snapshots
lives_snapshots c l ago = record { run = lives_run units c (drop ago l); log = lives_log c (drop ago l) }

-- a partition has one primary at most in an epoch
abbrev pub LivesHaveOnePrimary : Type 0
LivesHaveOnePrimary = OverValidLives (λ c l. OnePrimary (lives_run units c l))

-- no node accepts a write of an older epoch than one that it promised or accepted before, in this life or an earlier one
abbrev pub LivesHaveNoOlder : Type 0
LivesHaveNoOlder = OverValidLives (λ c l. NoOlder (lives_run units c l))

-- what was reported committed in any life stands in the log of each later primary
abbrev pub LivesKeepWrites : Type 0
LivesKeepWrites = OverValidLives (λ c l. WritesKeptIn (lives_snapshots c l))

-- What a primary reports committed begins with all that was reported committed before, in epochs up to its own of the same
-- data loss number, by whichever node and instance, in whichever life.
abbrev pub AnswersCoveredIn : Snapshots → Type 0
AnswersCoveredIn past =
    (i j partition last committed : ℕ) (e own : Epoch) (x y : Who) → j ≤ i →
    HasReported (past i).run x (Committed partition e last) →
    HasReported (past j).run y (Committed partition own committed) →
    is_older own e ≡ false → e.data_loss ≡ own.data_loss →
    (last ≤ committed) × (take last ((past j).log y.actor partition) ≡ take last ((past i).log x.actor partition))

abbrev pub LivesCoverAnswers : Type 0
LivesCoverAnswers = OverValidLives (λ c l. AnswersCoveredIn (lives_snapshots c l))

-- so do the entries by which a node may answer about names in the world
abbrev pub NamesCoveredIn : World units → Snapshots → Type 0
NamesCoveredIn w past =
    (node partition count : ℕ) (s : Running units) →
    at node w.nodes ≡ Some s → is_left s.node.ring.phase ≡ false →
    let state = state_at partition s.node.above in
    ready (progress_of state) ≡ Ok count → CoverCommittedIn past partition count state.replica

abbrev pub LivesCoverNames : Type 0
LivesCoverNames = OverValidLives (λ c l. NamesCoveredIn (lives_world units c l) (lives_snapshots c l))

-- the node answered so in the world, and the entries cover what was committed at the moments of the past
pub record RestsIn (w : World units) (past : Snapshots) (node partition : ℕ) (answer : NameMap → Report) (r : Report) : Type 0 where
  pub by : AnsweredBy w node partition answer r
  pub covers : CoverCommittedIn past partition by.is.count (state_at partition by.running.node.above).replica

-- the report answers what the command asked, of the partition that it asked about
abbrev pub AnswersCommandIn : World units → Snapshots → (node : ℕ) → Report → Command → Type 0
AnswersCommandIn w past node r (command.Resolve partition name) = RestsIn w past node partition (resolution partition name) r
AnswersCommandIn w past node r (command.Names partition range) = RestsIn w past node partition (listing partition range) r
AnswersCommandIn w past node r _ = ⊥

-- the event asked the node of the instance x, and the report is the answer
abbrev pub AnswersEventIn : World units → Snapshots → Who → Report → Event → Type 0
AnswersEventIn w past x r (Do node asked) = (x.actor ≡ node) × AnswersCommandIn w past node r asked
AnswersEventIn w past x r _ = ⊥

-- a new life asks nothing
abbrev pub AnswersIn : World units → Snapshots → Who → Report → Happening → Type 0
AnswersIn w past x r (Comes e) = AnswersEventIn w past x r e
AnswersIn w past x r (Again whole) = ⊥

-- each answer about names in the last moment answers the question that came then, by entries that cover what was committed
abbrev pub LivesAnswered : FabricConfig → Lives → Type 0
LivesAnswered c [] = Unit {0}
LivesAnswered c (now ∷ earlier) =
    (x : Who) (r : Report) → HasReported (lives_run units c (now ∷ earlier)) x r → tells_names r ≡ true →
    AnswersIn (lives_world units c earlier) (lives_snapshots c earlier) x r now.1

abbrev pub LivesAnswerOfCommitted : Type 0
LivesAnswerOfCommitted = OverValidLives LivesAnswered
