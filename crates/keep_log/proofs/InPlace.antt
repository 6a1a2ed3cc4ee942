-- A record of a replica in its place is one that the replica's call takes.
use Rattle.std.proofs.Common.{◌≡◌, ℕ, ◌+◌, Bool, true, false, cond, ◌&&◌, ◌||◌, List, [], ◌∷◌, length, Ok, refl, sym, ap, ◌∙◌, arith}
use Rattle.std.specs.Prelude.{IsTrue, is_ok, not, ◌==◌, nat_lt}
use Rattle.std.proofs.lemmas.Bool.{and_parts, eqb-true, leb-true}
use Rattle.std.proofs.lemmas.Bool.Decides.{nat_tests}
use Rattle.ring_points.specs.Limits.{most_log_entries}
use Rattle.ring_points.specs.declared.unit.Epoch.{Epoch}
use Rattle.ring_points.specs.Epochs.{is_older, same_epoch}
use Rattle.fabric_terms.specs.declared.record.Record.TheVariants.{Boot, AccusedBy, PreparedBy, VotedFor, DoneFor, PromisedAt, Wrote, Incoming, AdoptedAt, ClaimedBy}
use Rattle.fabric_terms.specs.Fields.{is_last, is_payload, is_unit}
use Rattle.replica_core.specs.declared.entry.Entry.{Entry}
use Rattle.replica_core.specs.declared.refusal.Done.{Done}
use Rattle.replica_core.specs.declared.refusal.ReplicaRefusal.{ReplicaRefusal}
use Rattle.replica_core.specs.declared.refusal.Done.TheVariants.{New}
use Rattle.replica_core.specs.Replicas.{Replica, collecting}
use Rattle.replica_core.specs.Calls.{Outcome, unless, held_if, own_adopted, promise_call, append_call, adopt_own_call, adopt_call, adopt_collected_call, is_ahead, is_gap, is_empty, is_collected, collected_call}
use Rattle.replica_core.proofs.Orders.{not_itself, older_than_older, same_is}
use Rattle.unit_rules.specs.Starts.{adopt_kept, past_all}
use Rattle.keep_log.specs.Laws.{InPlaceIsTaken}
use Rattle.keep_log.specs.Places.{is_adopting, is_adoption, is_piece, is_promise, is_whole, is_write}

past : (b : Bool) (refusal : ReplicaRefusal) (s : Replica) (next : Outcome Done) → b ≡ false → IsTrue (is_ok next.0) → IsTrue (is_ok (unless b refusal s next).0)
past false refusal s next h taken = taken
past true refusal s next h taken = absurd (cc)

held : (b : Bool) (s : Replica) (next : Outcome Done) → IsTrue (is_ok next.0) → IsTrue (is_ok (held_if b s next).0)
held true s next taken = refl
held false s next taken = taken

not_false : (b : Bool) → not b ≡ true → b ≡ false
not_false false h = refl
not_false true h = absurd (cc)

not_both : (a b : Epoch) → is_older a b ≡ true → (t : Bool) → is_older b a ≡ t → is_older b a ≡ false
not_both a b h false e = e
not_both a b h true e = let own = older_than_older a b a h e in let none = not_itself a in absurd (cc)

-- what is the same is not older
not_older : (a b : Epoch) → same_epoch a b ≡ true → is_older b a ≡ false
not_older a b h = ap (λ (e : Epoch). is_older e a) (sym (same_is a b h)) ∙ not_itself a

not_newer : (a b : Epoch) → same_epoch a b ≡ true → is_older a b ≡ false
not_newer a b h = ap (λ (e : Epoch). is_older a e) (sym (same_is a b h)) ∙ not_itself a

promise_taken : (epoch : Epoch) (s : Replica) → is_promise epoch s ≡ true → IsTrue (is_ok (promise_call epoch s).0)
promise_taken epoch s h =
    past (is_older epoch s.promised) _ s _ (not_both s.promised epoch h (is_older epoch s.promised) refl) (held (same_epoch s.promised epoch) s _ refl)

write_taken : (epoch : Epoch) (lsn : ℕ) (text : List ℕ) (s : Replica) → is_last lsn ≡ true → is_write epoch lsn s ≡ true
    → IsTrue (is_ok (append_call epoch lsn text s).0)
write_taken epoch lsn text s low h =
    let p = and_parts (same_epoch s.at epoch && not (is_older epoch s.promised)) (lsn == length s.log + 1) h in
    let q = and_parts (same_epoch s.at epoch) (not (is_older epoch s.promised)) p.0 in
    let next = eqb-true lsn (length s.log + 1) p.1 in
    let few = leb-true lsn most_log_entries low in
    let behind : nat_lt (length s.log + 1) lsn ≡ false = grind (arith, nat_tests, next) in
    let ahead : is_ahead epoch lsn s ≡ false = rw (q.0, behind) refl in
    let room : (length s.log == most_log_entries) ≡ false = grind (arith, nat_tests, next, few) in
    past (is_older epoch s.promised) _ s _ (not_false (is_older epoch s.promised) q.1) (past (is_ahead epoch lsn s) _ s _ ahead
    (held (nat_lt lsn (length s.log + 1)) s _ (past (length s.log == most_log_entries) _ s _ room refl)))

either : (b : Bool) (epoch : Epoch) (entry : Entry) (s : Replica) → IsTrue (is_ok (collected_call b epoch entry s).0)
either true epoch entry s = refl
either false epoch entry s = held (is_collected epoch entry s) s (Ok New, collecting epoch entry s) refl

no_gap : (epoch : Epoch) (lsn : ℕ) (s : Replica) → is_older s.promised epoch ≡ false → (first next : Bool)
    → (lsn == 1) ≡ first → (lsn == length s.collected + 1) ≡ next → (first || next) ≡ true → is_gap epoch lsn s ≡ false
no_gap epoch lsn s same true next f g h = rw f refl
no_gap epoch lsn s same false true f g h = rw (same, f, g) refl
no_gap epoch lsn s same false false f g h = absurd (cc)

piece_taken : (epoch : Epoch) (lsn : ℕ) (entry : Entry) (s : Replica) → entry.lsn ≡ lsn → is_piece epoch lsn s ≡ true
    → IsTrue (is_ok (adopt_call epoch entry past_all s).0)
piece_taken epoch lsn entry s number h =
    let p = and_parts (is_adopting epoch s) (lsn == 1 || lsn == length s.collected + 1) h in
    let q = and_parts (same_epoch s.promised epoch) (not (same_epoch s.at epoch)) p.0 in
    let gap : is_gap epoch lsn s ≡ false =
    no_gap epoch lsn s (not_newer s.promised epoch q.0) (lsn == 1) (lsn == length s.collected + 1) refl refl p.1 in
    past (is_older epoch s.promised) _ s _ (not_older s.promised epoch q.0) (held (same_epoch s.at epoch) s _
    (past (is_gap epoch entry.lsn s) _ s _ (ap (λ n. is_gap epoch n s) number ∙ gap) (either (entry.lsn == past_all) epoch entry s)))

own_taken : (nothing whole : Bool) (epoch : Epoch) (s : Replica) → (nothing || whole) ≡ true → IsTrue (is_ok (own_adopted nothing whole epoch s).0)
own_taken true whole epoch s h = refl
own_taken false true epoch s h = refl
own_taken false false epoch s h = absurd (cc)

own_call_taken : (epoch : Epoch) (last : ℕ) (s : Replica) → is_older epoch s.promised ≡ false → (last == 0 || last == length s.log) ≡ true
    → IsTrue (is_ok (adopt_own_call epoch last s).0)
own_call_taken epoch last s older h =
    past (is_older epoch s.promised) _ s _ older (held (same_epoch s.at epoch) s _ (own_taken (last == 0) (last == length s.log) epoch s h))

not_empty : (xs : List Entry) (n : ℕ) → (n == 0) ≡ false → (n == length xs) ≡ true → is_empty xs ≡ false
not_empty [] n h e = absurd (cc)
not_empty (x ∷ xs) n h e = refl

collected_taken : (epoch : Epoch) (last : ℕ) (s : Replica) → is_older epoch s.promised ≡ false → is_older s.promised epoch ≡ false
    → (last == 0) ≡ false → (last == length s.collected) ≡ true → IsTrue (is_ok (adopt_collected_call epoch s).0)
collected_taken epoch last s older newer some whole =
    let full = not_empty s.collected last some whole in
    past (is_older epoch s.promised) _ s _ older (held (same_epoch s.at epoch) s _
    (past (is_empty (cond (is_older s.promised epoch) [] s.collected)) _ s _ (rw newer full) refl))

adoption_taken : (epoch : Epoch) (last : ℕ) (is_own : Bool) (s : Replica) → is_adoption epoch last is_own s ≡ true
    → IsTrue (is_ok (adopt_kept epoch last is_own s).0)
adoption_taken epoch last is_own s h = by is_own (and_parts (is_adopting epoch s) (is_whole last is_own s) h)
  where
    right : (a b : Bool) → b ≡ true → (a || b) ≡ true
    right true b h = refl
    right false b h = h

    left : (a b : Bool) → a ≡ true → (a || b) ≡ true
    left true b h = refl
    left false b h = absurd (cc)

    by_last : (zero : Bool) → (last == 0) ≡ zero → is_older epoch s.promised ≡ false → is_older s.promised epoch ≡ false → is_whole last false s ≡ true
        → IsTrue (is_ok (cond zero (adopt_own_call epoch last s) (adopt_collected_call epoch s)).0)
    by_last true z older newer whole = own_call_taken epoch last s older (left (last == 0) (last == length s.log) z)
    by_last false z older newer whole = collected_taken epoch last s older newer z (rw z at whole)

    by : (is_own : Bool) → (is_adopting epoch s ≡ true) × (is_whole last is_own s ≡ true) → IsTrue (is_ok (adopt_kept epoch last is_own s).0)
    by true p =
        let q = and_parts (same_epoch s.promised epoch) (not (same_epoch s.at epoch)) p.0 in
        let w = and_parts (nat_lt 0 last) (last == length s.log) p.1 in
        own_call_taken epoch last s (not_older s.promised epoch q.0) (right (last == 0) (last == length s.log) w.1)
    by false p =
        let q = and_parts (same_epoch s.promised epoch) (not (same_epoch s.at epoch)) p.0 in
        by_last (last == 0) refl (not_older s.promised epoch q.0) (not_newer s.promised epoch q.0) p.1

pub in_place_is_taken : InPlaceIsTaken
in_place_is_taken (PromisedAt partition epoch) s r h = promise_taken epoch s h
in_place_is_taken (Wrote partition epoch lsn text) s r h =
    let p = and_parts (is_unit partition epoch && is_last lsn) (is_payload text) r in
    write_taken epoch lsn text s (and_parts (is_unit partition epoch) (is_last lsn) p.0).1 h
in_place_is_taken (Incoming partition epoch lsn entry_epoch text) s r h =
    piece_taken epoch lsn (record { epoch = entry_epoch; lsn = lsn; bytes = text }) s refl h
in_place_is_taken (AdoptedAt partition epoch last is_own) s r h = adoption_taken epoch last is_own s h
in_place_is_taken (Boot instance) s r h = refl
in_place_is_taken (AccusedBy victim first) s r h = refl
in_place_is_taken (PreparedBy partition epoch preparer) s r h = refl
in_place_is_taken (VotedFor config) s r h = refl
in_place_is_taken (DoneFor config) s r h = refl
in_place_is_taken (ClaimedBy victim round claimer) s r h = refl
