-- Which records stand in their place.
use Rattle.std.specs.Prelude.{◌≡◌, ℕ, zero, suc, ◌+◌, Bool, true, false, not, ◌&&◌, ◌||◌, ◌==◌, nat_lt, List, [], ◌∷◌, length, map, is_some, Ok, IsTrue}
use Rattle.ring_points.specs.declared.unit.Epoch.{Epoch}
use Rattle.ring_points.specs.declared.who.Who.{Who}
use Rattle.ring_points.specs.Epochs.{is_older, same_epoch}
use Rattle.fabric_terms.specs.declared.record.Record.{Record}
use Rattle.fabric_terms.specs.declared.record.Record.TheVariants.{Boot, AccusedBy, PreparedBy, VotedFor, DoneFor, PromisedAt, Wrote, Incoming, AdoptedAt, ClaimedBy}
use Rattle.ring_rules.specs.Arbiters.{Table, no_table, first_accuser, first_claimer, table_with, table_after}
use Rattle.replica_core.specs.declared.refusal.Done.{Done}
use Rattle.replica_core.specs.declared.refusal.Done.TheVariants.{Held}
use Rattle.replica_core.specs.Replicas.{Replica}
use Rattle.replica_core.specs.Calls.{Outcome, promise_call, append_call, adopt_call}
use Rattle.unit_rules.specs.Registers.{registers_after}
use Rattle.unit_rules.specs.Starts.{adopt_kept, past_all, replica_of}
use Rattle.arbiter_tables.specs.Registers.{is_placed}
use Rattle.keep_log.specs.Amounts.{Amount, with_record}
use Rattle.keep_log.specs.Spellings.{is_sound, spelling}

-- The records of an arbitrator.

-- the victim is accused, and nobody has claimed the round
abbrev pub is_free_round : Table → Who → ℕ → Bool
is_free_round table victim round =
    is_some (first_accuser victim table.accusations) && not (is_some (first_claimer victim round table.claims))

-- a first accuser is a victim's first record, and a claimer the first record of a round about an accused victim
abbrev pub is_new : Table → Record → Bool
is_new table (AccusedBy victim first) = not (is_some (first_accuser victim table.accusations))
is_new table (ClaimedBy victim round claimer) = is_free_round table victim round
is_new table _ = true

-- after this table, each victim and each round has one record
abbrev pub is_once : Table → List Record → Bool
is_once table [] = true
is_once table (r ∷ rs) = is_new table r && is_once (table_with table r) rs

-- The records of a replica.

-- a promise is above the former one
abbrev pub is_promise : Epoch → Replica → Bool
is_promise epoch s = is_older s.promised epoch

-- a write is of the epoch of the log, above which nothing is promised, and the next entry
abbrev pub is_write : Epoch → ℕ → Replica → Bool
is_write epoch lsn s = same_epoch s.at epoch && not (is_older epoch s.promised) && lsn == length s.log + 1

-- the epoch is promised, and the log is not yet of it
abbrev pub is_adopting : Epoch → Replica → Bool
is_adopting epoch s = same_epoch s.promised epoch && not (same_epoch s.at epoch)

-- an incoming entry begins a collection, or is the next of it
abbrev pub is_piece : Epoch → ℕ → Replica → Bool
is_piece epoch lsn s = is_adopting epoch s && (lsn == 1 || lsn == length s.collected + 1)

-- the own log to its last entry; or else what is collected to its last entry, or nothing
abbrev pub is_whole : ℕ → (is_own : Bool) → Replica → Bool
is_whole last true s = nat_lt 0 last && last == length s.log
is_whole last false s = last == 0 || last == length s.collected

abbrev pub is_adoption : Epoch → ℕ → (is_own : Bool) → Replica → Bool
is_adoption epoch last is_own s = is_adopting epoch s && is_whole last is_own s

-- the record of a replica can come next
abbrev pub is_row : Record → Replica → Bool
is_row (PromisedAt partition epoch) s = is_promise epoch s
is_row (Wrote partition epoch lsn text) s = is_write epoch lsn s
is_row (Incoming partition epoch lsn entry_epoch text) s = is_piece epoch lsn s
is_row (AdoptedAt partition epoch last is_own) s = is_adoption epoch last is_own s
is_row _ s = false

-- the call that it was kept for
abbrev pub row_call : Record → Replica → Outcome Done
row_call (PromisedAt partition epoch) s = promise_call epoch s
row_call (Wrote partition epoch lsn text) s = append_call epoch lsn text s
row_call (Incoming partition epoch lsn entry_epoch text) s = adopt_call epoch (record { epoch = entry_epoch; lsn = lsn; bytes = text }) past_all s
row_call (AdoptedAt partition epoch last is_own) s = adopt_kept epoch last is_own s
row_call _ s = (Ok Held, s)

-- The records of a list.

abbrev pub is_nil : {X : Type 0} → List X → Bool
is_nil [] = true
is_nil (x ∷ xs) = false

-- no record of an arbitrator stands before
abbrev pub is_node : Amount → Bool
is_node a = is_nil a.arbiter

-- no record of a node stands before
abbrev pub is_arbiter : Amount → Bool
is_arbiter a = a.boots == 0 && is_nil a.replicas

-- the record can come next: boots are counted, the records of a replica and of a register follow those before them, and
-- no actor has records of both groups
abbrev pub is_next : Amount → Record → Bool
is_next a (Boot instance) = is_node a && instance == a.boots + 1
is_next a (PromisedAt partition epoch) = is_node a && is_promise epoch (replica_of partition a.replicas)
is_next a (Wrote partition epoch lsn text) = is_node a && is_write epoch lsn (replica_of partition a.replicas)
is_next a (Incoming partition epoch lsn entry_epoch text) = is_node a && is_piece epoch lsn (replica_of partition a.replicas)
is_next a (AdoptedAt partition epoch last is_own) = is_node a && is_adoption epoch last is_own (replica_of partition a.replicas)
is_next a (AccusedBy victim first) = is_arbiter a && is_new (table_after no_table a.arbiter) (AccusedBy victim first)
is_next a (ClaimedBy victim round claimer) = is_arbiter a && is_new (table_after no_table a.arbiter) (ClaimedBy victim round claimer)
is_next a (PreparedBy partition epoch preparer) = is_arbiter a && is_placed (registers_after [] a.arbiter) (PreparedBy partition epoch preparer)
is_next a (VotedFor config) = is_arbiter a && is_placed (registers_after [] a.arbiter) (VotedFor config)
is_next a (DoneFor config) = is_arbiter a && is_placed (registers_after [] a.arbiter) (DoneFor config)

-- each of these records can come next, after those before it, and what it names is in its range
abbrev pub stand_in_place : Amount → List Record → Bool
stand_in_place a [] = true
stand_in_place a (r ∷ rs) = (is_sound r && is_next a r) && stand_in_place (with_record a r) rs

-- after what was kept before, the bytes are these records, each in its place
pub record Follows (before : Amount) (lists : List (List ℕ)) (records : List Record) : Type 0 where
  pub spelled : lists ≡ map spelling records
  pub in_place : stand_in_place before records ≡ true

-- the bytes are a record that can come next
pub record Stands (before : Amount) (r : Record) (bytes : List ℕ) : Type 0 where
  pub sound : IsTrue (is_sound r)
  pub next : is_next before r ≡ true
  pub spelled : bytes ≡ spelling r

-- n of these are records in their places, and the next is none
abbrev pub IsBadAfter : Amount → List (List ℕ) → ℕ → Type 0
IsBadAfter before [] n = ⊥
IsBadAfter before (bytes ∷ rest) zero = (r : Record) → Stands before r bytes → ⊥
IsBadAfter before (bytes ∷ rest) (suc n) = (r : Record) × (Stands before r bytes × IsBadAfter (with_record before r) rest n)
