-- The tables of what was prepared, voted and done as the registers of partitions, and how many entries those have.
use Rattle.std.specs.Prelude.{ℕ, ◌+◌, Bool, true, not, ◌&&◌, List, [], ◌∷◌, ◌++◌, Option, Some, None, is_some, length, sum_by}
use Rattle.ring_points.specs.declared.unit.Config.{Config}
use Rattle.fabric_terms.specs.declared.record.Record.{Record}
use Rattle.fabric_terms.specs.declared.record.Record.TheVariants.{PreparedBy, VotedFor, DoneFor}
use Rattle.unit_rules.specs.declared.register.Preparation.{Preparation}
use Rattle.unit_rules.specs.Registers.{Register, Registers, register_of, register_after, changed, is_above, is_newer, vote_in}

abbrev pub with_prepared : Preparation → Register → Register
with_prepared p r = record r { prepared = Some p }

abbrev pub with_vote : Config → Register → Register
with_vote vote r = record r { votes = r.votes ++ vote ∷ [] }

abbrev pub with_done : Config → Register → Register
with_done done r = record r { done = Some done }

-- each of these values set in the register of its partition
abbrev pub put_all : {X : Type 0} → (X → Register → Register) → List (ℕ × X) → Registers → Registers
put_all set [] rs = rs
put_all set (e ∷ es) rs = changed e.0 (set e.1) (put_all set es rs)

-- each of these votes in the register of its partition, in their order
abbrev pub voted_all : List Config → Registers → Registers
voted_all [] rs = rs
voted_all (vote ∷ votes) rs = voted_all votes (changed vote.partition (with_vote vote) rs)

-- the registers of these tables
abbrev pub registers_of : List (ℕ × Preparation) → List Config → List (ℕ × Config) → Registers
registers_of prepared votes done = voted_all votes (put_all with_done done (put_all with_prepared prepared []))

abbrev pub one_of : {X : Type 0} → Option X → ℕ
one_of None = 0
one_of (Some x) = 1

-- an entry is a prepared epoch, a vote, or a done configuration
abbrev pub entries_in : Register → ℕ
entries_in r = one_of r.prepared + length r.votes + one_of r.done

abbrev pub registered : Registers → ℕ
registered rs = sum_by (λ e. entries_in e.1) rs

-- Records in their places.

-- the record can be the next: a prepared epoch and a done one above the former of the partition, and a vote the first
-- of its epoch
abbrev pub is_placed : Registers → Record → Bool
is_placed rs (PreparedBy partition epoch preparer) = is_above (register_of partition rs).prepared epoch
is_placed rs (VotedFor config) = not (is_some (vote_in config.epoch (register_of config.partition rs).votes))
is_placed rs (DoneFor config) = is_newer config.epoch (register_of config.partition rs).done
is_placed rs _ = true

-- each of them, after those before it
abbrev pub are_placed : Registers → List Record → Bool
are_placed rs [] = true
are_placed rs (r ∷ more) = is_placed rs r && are_placed (register_after rs r) more
