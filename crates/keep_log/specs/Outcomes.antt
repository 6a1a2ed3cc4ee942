-- What is read of a list of records.
use Rattle.std.specs.Prelude.{◌≡◌, ℕ, ◌+◌, List, take, Result, Ok, Err}
use Rattle.fabric_terms.specs.declared.record.Record.{Record}
use Rattle.keep_log.specs.declared.kept.Kept.{Kept}
use Rattle.keep_log.specs.declared.kept_error.KeptError.{KeptError}
use Rattle.keep_log.specs.declared.kept_error.KeptError.TheVariants.{BadRecord, OutOfMemory}
use Rattle.keep_log.specs.Amounts.{Holds, nothing}
use Rattle.keep_log.specs.Places.{Follows, IsBadAfter}

-- the bytes are records, each in its place, and this is what they amount to
abbrev pub AmountsTo : List (List ℕ) → Kept → Type 0
AmountsTo lists kept = (records : List Record) × (Follows nothing lists records × Holds records kept)

-- some first records, at least one of them, stand in their places: those up to the one for which memory was short. Of a
-- list of none there is nothing to say
abbrev pub HasFront : List (List ℕ) → Type 0
HasFront lists = (n : ℕ) × ((records : List Record) × Follows nothing (take (n + 1) lists) records)

-- what all records amount to, or the place, from 1, of the first that is bad
abbrev pub Reads : List (List ℕ) → Result Kept KeptError → Type 0
Reads lists (Ok kept) = AmountsTo lists kept
Reads lists (Err (BadRecord place)) = (n : ℕ) × (place ≡ n + 1) × IsBadAfter nothing lists n
Reads lists (Err OutOfMemory) = HasFront lists
