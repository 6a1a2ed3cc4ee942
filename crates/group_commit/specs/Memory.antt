-- What contracts see of the keeper in memory.
use Rattle.std.specs.Prelude.{ℕ, ◌==◌, List, [], map, filter, Vec}
use Rattle.std.specs.declared.alloc.Global.{Global}

-- a record, with its actor
abbrev pub Entry : Type 0
Entry = ℕ × List ℕ

-- all records that were appended, oldest first, how many of them are kept for good, and how often it has failed
pub record ToldGroup : Type 0 where
  pub entries : List Entry
  pub synced : ℕ
  pub faults : ℕ

abbrev pub fresh_group : ToldGroup
fresh_group = record { entries = []; synced = 0; faults = 0 }

-- an entry, as it is held
abbrev pub told_entry : (ℕ × Vec ℕ Global) → Entry
told_entry entry = (entry.0, entry.1.items)

-- the records of the actor
abbrev pub of_actor : ℕ → List Entry → List (List ℕ)
of_actor actor entries = map (λ e. e.1) (filter (λ e. e.0 == actor) entries)
