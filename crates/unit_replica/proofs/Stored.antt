-- Where a replica stores an entry, the row records it; where a state is made, the map is longer.
use Rattle.std.proofs.Common.{◌≡◌, ℕ, ◌<◌, Bool, true, false, List, length, Option, Some, None, Ok, Err, refl, sym, ap, subst, ◌∙◌, arith}
use Rattle.std.proofs.lemmas.Bool.Decides.{nat_tests}
use Rattle.std.specs.Prelude.{◌||◌, is_some, nat_lt, unwrap_or}
use Rattle.fabric_lemmas.specs.Maps.{at}
use Rattle.fabric_terms.specs.declared.report.Reason.TheVariants as reason
use Rattle.fabric_terms.specs.declared.report.Verb.TheVariants as verb
use Rattle.ring_points.specs.declared.unit.Epoch.{Epoch}
use Rattle.ring_points.specs.declared.who.Who.{Who}
use Rattle.replica_core.specs.declared.entry.Entry.{Entry}
use Rattle.replica_core.specs.declared.refusal.Done.TheVariants.{New, Held}
use Rattle.replica_core.specs.Calls.{Outcome, append_call}
use Rattle.replica_core.specs.declared.refusal.Done.{Done}
use Rattle.unit_rules.specs.declared.progress.CatchUp.{CatchUp}
use Rattle.unit_rules.specs.Copies.{piece_collected}
use Rattle.unit_rules.specs.Deeds.{Acted, refuse}
use Rattle.unit_rules.specs.ReplicaStates.{ReplicaState, first_state}
use Rattle.unit_rules.specs.Writes.{append_answered, append_received, write_commanded}
use Rattle.unit_desk.proofs.Puts.{one_more}
use Rattle.unit_replica.specs.Memory.{grows, is_ready, is_ready_at, is_ready_state, stores}
use Rattle.unit_replica.specs.PrimaryCommands.{wants_memory, wants_memory_at}
use Rattle.unit_replica.specs.declared.primary_command.PrimaryCommand.{PrimaryCommand}
use Rattle.unit_replica.specs.declared.primary_command.PrimaryCommand.TheVariants.{Write, Resolve, Names}
use Rattle.unit_replica.specs.Tables.{ReplicaStates, at_found, at_state, at_standing, by_state}
use Rattle.unit_replica.proofs.Places.{Written, stands}

pub stores-collected : (t : CatchUp) (entry : Entry) (s : ReplicaState) (o : Outcome Done) → o.0 ≡ Ok New → stores (piece_collected t entry s o) ≡ true
stores-collected t entry s (Ok done, r) new = refl
stores-collected t entry s (Err why, r) new = absurd (cc)

stores-answered : (asker : Who) (epoch : Epoch) (lsn : ℕ) (text : List ℕ) (s : ReplicaState) (o : Outcome Done) → o.0 ≡ Ok New
    → stores (append_answered asker epoch lsn text s o) ≡ true
stores-answered asker epoch lsn text s (Ok New, r) new = refl
stores-answered asker epoch lsn text s (Ok Held, r) new = absurd (cc)
stores-answered asker epoch lsn text s (Err why, r) new = absurd (cc)

pub stores-appended : (asker : Who) (epoch : Epoch) (lsn : ℕ) (text : List ℕ) (s : ReplicaState) → (append_call epoch lsn text s.replica).0 ≡ Ok New
    → stores (append_received asker epoch lsn text s) ≡ true
unfolding append_received
stores-appended asker epoch lsn text s new = stores-answered asker epoch lsn text s (append_call epoch lsn text s.replica) new

pub ruleset entry_stored = (stores-collected, stores-appended)

-- At the replica that stands.

module _ {k : ℕ} {es old new : ReplicaStates} {x w : ReplicaState} (it : Written k es old new x w) where
  pub stores_there : (row : ReplicaState → Acted ReplicaState) (none : Acted ReplicaStates) → stores (row x) ≡ true → stores (at_standing k row none old) ≡ true
  stores_there row none h = subst (λ (o : Option ReplicaState). stores (at_found k row none old o) ≡ true) (sym (stands it)) h

  pub ready_there : is_ready x ≡ true → is_ready_at k old ≡ true
  ready_there h = subst (λ (o : Option ReplicaState). is_ready_state o ≡ true) (sym (stands it)) h

  pub wants_there : (command : PrimaryCommand) → wants_memory command x ≡ true → wants_memory_at k command old ≡ true
  wants_there (Write text) h = stores_there (write_commanded text.now) (refuse verb.Write reason.NotPrimary old) h
  wants_there (Resolve name) h = ready_there h
  wants_there (Names range) h = ready_there h

  pub grows_there : (row : ReplicaState → Acted ReplicaState) (none : Acted ReplicaStates) → stores (row x) ≡ true → grows old (at_standing k row none old) ≡ true
  grows_there row none h =
      let a = at_standing k row none old in
      ap (λ (b : Bool). b || nat_lt (length old) (length a.state)) (stores_there row none h)

-- a replica that stands need not be made
pub grows-standing : (k : ℕ) (row : ReplicaState → Acted ReplicaState) (none : Acted ReplicaStates) (old : ReplicaStates) → is_some (at k old) ≡ true
    → grows old (at_standing k row none old) ≡ true → grows old (at_state k row old) ≡ true
grows-standing k row none old some h = by (at k old) some h
  where
    by : (o : Option ReplicaState) → is_some o ≡ true → grows old (at_found k row none old o) ≡ true
        → grows old (by_state k old (row (unwrap_or o (first_state k)))) ≡ true
    by (Some x) some h = h
    by None some h = absurd (cc)

-- At a replica that is made.

either : (b : Bool) → (b || true) ≡ true
either true = refl
either false = refl

pub grows-made : (k : ℕ) (row : ReplicaState → Acted ReplicaState) (old : ReplicaStates) → at k old ≡ None → grows old (at_state k row old) ≡ true
grows-made k row old none =
    let a = at_state k row old in
    let more : length old < length a.state = one_more k (row (unwrap_or (at k old) (first_state k))).state old none in
    let longer : nat_lt (length old) (length a.state) ≡ true = grind (arith, nat_tests, more) in
    ap (λ (b : Bool). stores a || b) longer ∙ either (stores a)

pub ruleset state_made = (grows-made)
