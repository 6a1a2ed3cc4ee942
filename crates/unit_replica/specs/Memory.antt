-- Which rows want memory: those that store an entry or make a replica, and questions about names that are answered.
use Rattle.std.specs.Prelude.{ℕ, Bool, true, false, ◌||◌, List, [], ◌∷◌, Option, Some, None, length, is_ok, nat_lt}
use Rattle.fabric_lemmas.specs.Maps.{at}
use Rattle.fabric_terms.specs.declared.record.Record.{Record}
use Rattle.fabric_terms.specs.declared.record.Record.TheVariants as kept
use Rattle.unit_rules.specs.Answers.{ready}
use Rattle.unit_rules.specs.Deeds.{Deed, Keep, Send, Tell, Acted}
use Rattle.unit_rules.specs.Progress.{progress_of}
use Rattle.unit_rules.specs.ReplicaStates.{ReplicaState}
use Rattle.unit_replica.specs.Tables.{ReplicaStates}

-- the record of an entry: a new one, or one that is collected
abbrev pub is_entry : Record → Bool
is_entry (kept.Wrote partition epoch lsn text) = true
is_entry (kept.Incoming partition epoch lsn entry_epoch text) = true
is_entry _ = false

-- an entry is recorded
abbrev pub keeps_entry : List Deed → Bool
keeps_entry [] = false
keeps_entry (Keep r ∷ ds) = is_entry r || keeps_entry ds
keeps_entry (Send to b ∷ ds) = keeps_entry ds
keeps_entry (Tell r ∷ ds) = keeps_entry ds

-- the row stores an entry
abbrev pub stores : {S : Type 0} → Acted S → Bool
stores a = keeps_entry a.deeds

-- the row stores an entry, or makes a replica
abbrev pub grows : ReplicaStates → Acted ReplicaStates → Bool
grows states a = stores a || nat_lt (length states) (length a.state)

-- a replica answers questions about names
abbrev pub is_ready : ReplicaState → Bool
is_ready s = is_ok (ready (progress_of s))

abbrev pub is_ready_state : Option ReplicaState → Bool
is_ready_state None = false
is_ready_state (Some s) = is_ready s

-- the partition's replica answers questions about names
abbrev pub is_ready_at : ℕ → ReplicaStates → Bool
is_ready_at partition states = is_ready_state (at partition states)
