-- Whether there is a place for what is recorded.
use Rattle.std.proofs.Common.{◌≡◌, ℕ, ◌+◌, ◌≤◌, Bool, true, false, [], ◌∷◌, Some, None, refl, ap, arith, length-append}
use Rattle.std.specs.Prelude.{nat_lt, nat_le}
use Rattle.std.proofs.lemmas.Bool.Decides.{nat_tests}
use Rattle.ring_points.specs.declared.unit.Config.{Config}
use Rattle.ring_points.specs.declared.unit.Epoch.{Epoch}
use Rattle.ring_points.specs.declared.who.Who.{Who}
use Rattle.fabric_terms.specs.declared.record.Record.TheVariants.{AccusedBy, ClaimedBy, PreparedBy, VotedFor, DoneFor}
use Rattle.fabric_lemmas.specs.Maps.{rises}
use Rattle.unit_rules.specs.declared.register.Preparation.{Preparation}
use Rattle.unit_rules.specs.Registers.{register_of}
use Rattle.arbiter_tables.specs.Registers.{one_of}
use Rattle.arbiter_tables.proofs.Counts.{prepared_counted, vote_counted, done_counted}
use Rattle.arbiter_core.specs.Arbiters.{Arbiter, entries, most_entries, is_full_for}

-- one more than these is too many where these are the most
one_more : (n m : ℕ) → m ≡ n + 1 → nat_lt most_entries m ≡ nat_le most_entries n
one_more n m e = by (nat_le most_entries n) refl
  where
    by : (b : Bool) → nat_le most_entries n ≡ b → nat_lt most_entries m ≡ b
    by true h = grind (arith, nat_tests, h, e)
    by false h = grind (arith, nat_tests, h, e)

pub full_of_accuser : (a : Arbiter) (victim first : Who) → is_full_for (AccusedBy victim first ∷ []) a ≡ nat_le most_entries (entries a)
full_of_accuser a victim first =
    one_more (entries a) _ (omega (arith, length-append a.table.accusations ((victim, first) ∷ [])))

pub full_of_claimer : (a : Arbiter) (victim : Who) (round : ℕ) (claimer : Who)
    → is_full_for (ClaimedBy victim round claimer ∷ []) a ≡ nat_le most_entries (entries a)
full_of_claimer a victim round claimer =
    one_more (entries a) _ (omega (arith, length-append a.table.claims ((victim, round, claimer) ∷ [])))

pub full_of_vote : (a : Arbiter) (config : Config) → rises a.registers ≡ true → is_full_for (VotedFor config ∷ []) a ≡ nat_le most_entries (entries a)
full_of_vote a config up = one_more (entries a) _ (omega (arith, vote_counted config a.registers up))

-- the first epoch that is prepared of a partition, and one in place of another

pub full_of_first : (a : Arbiter) (partition : ℕ) (epoch : Epoch) (preparer : Who) → rises a.registers ≡ true
    → (register_of partition a.registers).prepared ≡ None → is_full_for (PreparedBy partition epoch preparer ∷ []) a ≡ nat_le most_entries (entries a)
full_of_first a partition epoch preparer up none =
    one_more (entries a) _
    (omega (arith, prepared_counted partition (record { epoch = epoch; preparer = preparer }) a.registers up, ap one_of none))

pub full_of_next : (a : Arbiter) (partition : ℕ) (epoch : Epoch) (preparer : Who) (former : Preparation) → rises a.registers ≡ true → entries a ≤ most_entries
    → (register_of partition a.registers).prepared ≡ Some former → is_full_for (PreparedBy partition epoch preparer ∷ []) a ≡ false
full_of_next a partition epoch preparer former up few some =
    grind (arith, nat_tests, prepared_counted partition (record { epoch = epoch; preparer = preparer }) a.registers up, ap one_of some, few)

-- the same of what is done

pub full_of_first_done : (a : Arbiter) (config : Config) → rises a.registers ≡ true
    → (register_of config.partition a.registers).done ≡ None → is_full_for (DoneFor config ∷ []) a ≡ nat_le most_entries (entries a)
full_of_first_done a config up none =
    one_more (entries a) _ (omega (arith, done_counted config.partition config a.registers up, ap one_of none))

pub full_of_next_done : (a : Arbiter) (config former : Config) → rises a.registers ≡ true → entries a ≤ most_entries
    → (register_of config.partition a.registers).done ≡ Some former → is_full_for (DoneFor config ∷ []) a ≡ false
full_of_next_done a config former up few some =
    grind (arith, nat_tests, done_counted config.partition config a.registers up, ap one_of some, few)

pub ruleset as_full = (full_of_accuser, full_of_claimer, full_of_vote, full_of_first, full_of_next, full_of_first_done, full_of_next_done)
