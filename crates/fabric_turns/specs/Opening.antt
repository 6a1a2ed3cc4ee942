-- How the records are read and the endpoints opened.
use Rattle.std.specs.Prelude.{◌≡◌, ◌<◌, ℕ, List, Option, Result, Ok, Err, Vec, length}
use Rattle.std.specs.declared.alloc.Global.{Global}
use Rattle.edge_io.specs.Edge.{HasRisen, Tells}
use Rattle.fabric_terms.specs.declared.record.Record.{Record}
use Rattle.keep_log.specs.Places.{Follows}
use Rattle.keep_log.specs.Amounts.{nothing}
use Rattle.keep_log.specs.declared.kept.Kept.{Kept}
use Rattle.edge_io.specs.Told.{Told}
use Rattle.fabric_turns.specs.Runs.{AreKept}
use Rattle.turn_members.specs.Members.{IsKept}
use Rattle.turn_rules.specs.Plans.{Plan}
use Rattle.turn_rules.specs.Recalled.{Recalled, IsBadFor, IsBadKeep}
use Rattle.turn_rules.specs.Whole.{Untouched, OpenedOnly}
use Rattle.turn_rules.specs.declared.stop_cause.StopCause.{StopCause}
use Rattle.turn_rules.specs.declared.stop_cause.StopCause.TheVariants as stop

-- what bytes are read as, for an actor
abbrev pub ReadsFor : ℕ → List (List ℕ) → Result Kept StopCause → Type 0
ReadsFor actor lists (Ok kept) = (records : List Record) × (Follows nothing lists records × IsKept actor records kept)
ReadsFor actor lists (Err stop.OutOfMemory) = Unit {0}
ReadsFor actor lists (Err (stop.BadKeep i)) = IsBadFor actor lists i
ReadsFor actor lists _ = ⊥

-- nothing was done but to read records
pub record OnlyRecalled (a b : Told) : Type 0 where
  pub untouched : Untouched a b
  pub opened : b.opened ≡ a.opened

-- what was read of an actor's records
abbrev pub RecallsOne : ℕ → Told → Result Kept StopCause → Told → Type 0
RecallsOne actor a (Ok kept) b = (lists : List (List ℕ)) × (Tells (a.kept actor) lists × ReadsFor actor lists (Ok kept) × OnlyRecalled a b)
RecallsOne actor a (Err stop.OutOfMemory) b = OnlyRecalled a b
RecallsOne actor a (Err stop.KeepFault) b = OnlyRecalled a b × HasRisen a.keep_faults b.keep_faults
RecallsOne actor a (Err (stop.BadKeep i)) b = (lists : List (List ℕ)) × (Tells (a.kept actor) lists × IsBadFor actor lists i × OnlyRecalled a b)
RecallsOne actor a _ b = ⊥

pub record RecalledAll (plan : Plan) (a : Told) (list : List (List Record)) (kept : List (Option Kept)) (b : Told) : Type 0 where
  pub recalled : Recalled plan.actors a list
  pub are_kept : AreKept plan 0 list kept
  pub only : OnlyRecalled a b

abbrev pub RecallsAll : Plan → Told → Result (Vec (Option Kept) Global) StopCause → Told → Type 0
RecallsAll plan a (Ok kept) b = (list : List (List Record)) × RecalledAll plan a list kept.items b
RecallsAll plan a (Err stop.OutOfMemory) b = OnlyRecalled a b
RecallsAll plan a (Err stop.KeepFault) b = OnlyRecalled a b × HasRisen a.keep_faults b.keep_faults
RecallsAll plan a (Err (stop.BadKeep i)) b = IsBadKeep plan a i × OnlyRecalled a b
RecallsAll plan a _ b = ⊥

abbrev pub OpensAll : Plan → Told → Result (Unit {0}) StopCause → Told → Type 0
OpensAll plan a (Ok done) b = OpenedOnly plan (length plan.actors) a b
OpensAll plan a (Err stop.OutOfMemory) b = (n : ℕ) × OpenedOnly plan n a b
OpensAll plan a (Err stop.LinkFault) b = (n : ℕ) × ((n < length plan.actors) × OpenedOnly plan n a b × HasRisen a.link_faults b.link_faults)
OpensAll plan a _ b = ⊥
