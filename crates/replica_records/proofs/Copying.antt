-- The row of Piece: what is collected is recorded entry by entry, and becomes the log with the last one.
use Rattle.std.proofs.Common.{◌≡◌, ℕ, ◌≤◌, Bool, true, false, cond, ◌==◌, ◌&&◌, nat_eq, nat_le, List, [], ◌∷◌, ◌++◌, length, Option, None, Some, Ok, Err, refl, sym, ap, ◌∙◌, arith}
use Rattle.std.proofs.lemmas.Bool.{eqb-true, leb-true, and_parts}
use Rattle.std.specs.Prelude.{not, if◌then◌else◌}
use lib.Pointwise.{pointwise}
use Rattle.ring_points.specs.Limits.{most_log_entries}
use Rattle.ring_points.specs.declared.unit.Epoch.{Epoch}
use Rattle.ring_points.specs.Epochs.{is_older, same_epoch}
use Rattle.fabric_terms.specs.declared.record.Record.TheVariants as kept
use Rattle.replica_core.specs.declared.entry.Entry.{Entry}
use Rattle.replica_core.specs.declared.refusal.Done.{Done}
use Rattle.replica_core.specs.declared.refusal.Done.TheVariants.{New}
use Rattle.replica_core.specs.declared.refusal.ReplicaRefusal.TheVariants.{Older, Gap}
use Rattle.replica_core.specs.Roles.{demoted}
use Rattle.replica_core.specs.Replicas.{Replica, same_entry, raised, settled, collecting, collected_in, collected_with}
use Rattle.replica_core.specs.Calls.{Outcome, unless, unless_older, held_if, is_gap, is_only, is_collected, is_empty, collected_call, adopt_call, adopt_collected_call}
use Rattle.replica_core.proofs.Orders.{same_is}
use Rattle.replica_core.proofs.Orders.{not_itself}
use Rattle.unit_rules.specs.declared.progress.CatchUp.{CatchUp}
use Rattle.unit_rules.specs.Copies.{nothing_adopted, log_adopted, adoption, fetch_next, piece_collected, is_wanted, piece_for, piece_received}
use Rattle.unit_rules.specs.Deeds.{Keep, acted, still}
use Rattle.unit_rules.specs.ReplicaStates.{ReplicaState, replica_put}
use Rattle.unit_rules.specs.Starts.{past_all}
use Rattle.replica_records.specs.Kept.{without_role, IsFit}
use Rattle.replica_records.proofs.Blind.{adopt_blind, collected_blind}
use Rattle.replica_records.proofs.Folding.{apart_test}
use Rattle.replica_records.proofs.Recorded.{Recorded, left, unless_off, held_off, held_on, refused_not, kept_some}

-- the call of an entry that is the last one, or is not
abbrev pub ending : Epoch → Entry → Replica → Bool → Outcome Done
ending e x r last =
    unless_older e r
    (held_if (same_epoch r.at e) r (unless (is_gap e x.lsn r) (Gap (length (collected_in e r))) r (collected_call last e x r)))

ends_with : (e : Epoch) (x : Entry) (last : ℕ) (r : Replica) (b : Bool) → (x.lsn == last) ≡ b → adopt_call e x last r ≡ ending e x r b
ends_with e x last r b h = ap (ending e x r) h

-- An entry that alone is collected already is collected.

same_numbers : (xs ys : List ℕ) → pointwise nat_eq xs ys ≡ true → xs ≡ ys
same_numbers [] [] h = refl
same_numbers [] (y ∷ ys) h = absurd (cc (h))
same_numbers (x ∷ xs) [] h = absurd (cc (h))
same_numbers (x ∷ xs) (y ∷ ys) h =
    let parts = and_parts (nat_eq x y) (pointwise nat_eq xs ys) h in
    let a = eqb-true x y parts.0 in let b = same_numbers xs ys parts.1 in λ i. a i ∷ b i

same_entry-true : (x y : Entry) → same_entry x y ≡ true → y ≡ x
same_entry-true x y h =
    let a = and_parts (same_epoch x.epoch y.epoch && x.lsn == y.lsn) (pointwise nat_eq x.bytes y.bytes) h in
    let b = and_parts (same_epoch x.epoch y.epoch) (x.lsn == y.lsn) a.0 in
    let epoch = same_is x.epoch y.epoch b.0 in let lsn = eqb-true x.lsn y.lsn b.1 in let bytes = same_numbers x.bytes y.bytes a.1 in
    sym (λ i. record { epoch = epoch i; lsn = lsn i; bytes = bytes i })

only_is : (x : Entry) (xs : List Entry) → is_only x xs ≡ true → xs ≡ x ∷ []
only_is x [] h = absurd (cc (h))
only_is x (y ∷ []) h = ap (λ z. z ∷ []) (same_entry-true x y h)
only_is x (y ∷ (z ∷ rest)) h = absurd (cc (h))

collected_again : (e : Epoch) (x : Entry) (r : Replica) → is_collected e x r ≡ true → r ≡ collecting e x r
collected_again e x r h =
    let a = and_parts (same_epoch r.promised e) (x.lsn == 1 && is_only x r.collected) h in
    let b = and_parts (x.lsn == 1) (is_only x r.collected) a.1 in
    let here : r ≡ collecting r.promised x r
    = ap (λ (xs : List Entry). record r { collected = xs }) (only_is x r.collected b.1)
    ∙ sym (ap (λ (t : Bool). record r { role = cond t (demoted r.role) r.role; collected = x ∷ [] }) (not_itself r.promised))
    ∙ sym (ap (λ (t : Bool). record (raised r.promised r) { collected = cond t [] (collected_in r.promised r) ++ x ∷ [] }) b.0) in
    here ∙ ap (λ (d : Epoch). collecting d x r) (same_is r.promised e a.0)

-- What is collected becomes the log.

pushed : (xs : List Entry) (x : Entry) → is_empty (xs ++ x ∷ []) ≡ false
pushed [] x = refl
pushed (y ∷ ys) x = refl

collected_new : (e : Epoch) (x : Entry) (r : Replica) → same_epoch r.at e ≡ false →
    left (adopt_collected_call e (collecting e x r)) ≡ settled e (collecting e x r)
collected_new e x r i =
    ap left
    (unless_off {A = Done} (is_older e e) (Older e) now
    (held_if (same_epoch r.at e) now (unless (is_empty (collected_in e now)) (Gap 0) now (Ok New, settled e (raised e now)))) (not_itself e)
    ∙ held_off (same_epoch r.at e) now (unless (is_empty (collected_in e now)) (Gap 0) now (Ok New, settled e (raised e now))) i
    ∙ unless_off {A = Done} (is_empty (collected_in e now)) (Gap 0) now (Ok New, settled e (raised e now)) some)
    ∙ ap (λ (t : Bool). record now {
      at = e;
      log = cond t [] (collected_with e x r);
      role = cond t (demoted now.role) now.role;
      collected = [];
    }) (not_itself e)
  where
    now : Replica
    now = collecting e x r

    some : is_empty (collected_in e (collecting e x r)) ≡ false
    some =
        ap (λ (t : Bool). is_empty (cond t [] (collected_with e x r))) (not_itself e)
        ∙ pushed (cond (x.lsn == 1) [] (collected_in e r)) x

collected_held : (e : Epoch) (r : Replica) → is_older e r.promised ≡ false → same_epoch r.at e ≡ true → left (adopt_collected_call e r) ≡ r
collected_held e r h i =
    ap left
    (unless_off {A = Done} (is_older e r.promised) (Older r.promised) r
    (held_if (same_epoch r.at e) r (unless (is_empty (collected_in e r)) (Gap 0) r (Ok New, settled e (raised e r)))) h
    ∙ held_on (same_epoch r.at e) r (unless (is_empty (collected_in e r)) (Gap 0) r (Ok New, settled e (raised e r))) i)

-- the last entry that is collected, and then settled, is as the last entry that is taken
settles_last : (e : Epoch) (x : Entry) (r : Replica) (d : Done) (t : Replica) → ending e x r true ≡ (Ok d, t) →
    left (adopt_collected_call e (left (ending e x r false))) ≡ t
settles_last e x r d t = go (is_older e r.promised) refl (same_epoch r.at e) refl (is_gap e x.lsn r) (is_collected e x r) refl
  where
    go : (older : Bool) → is_older e r.promised ≡ older → (at : Bool) → same_epoch r.at e ≡ at → (gap : Bool) → (again : Bool) → is_collected e x r ≡ again →
        ◌≡◌ {A = Outcome Done}
        (unless older (Older r.promised) r
        (held_if at r (unless gap (Gap (length (collected_in e r))) r (Ok New, settled e (collecting e x r))))) (Ok d, t) →
        left (adopt_collected_call e
        (left (unless older (Older r.promised) r
        (held_if at r (unless gap (Gap (length (collected_in e r))) r (held_if again r (Ok New, collecting e x r))))))) ≡ t
    go true h at i gap again j k = absurd (refused_not (Older r.promised) r t d k)
    go false h true i gap again j k = collected_held e r h i ∙ ap left k
    go false h false i true again j k = absurd (refused_not (Gap (length (collected_in e r))) r t d k)
    go false h false i false false j k = collected_new e x r i ∙ ap left k
    go false h false i false true j k =
        ap (λ (z : Replica). left (adopt_collected_call e z)) (collected_again e x r j) ∙ (collected_new e x r i ∙ ap left k)

module _ (p : ℕ) (s : ReplicaState) (fit : IsFit p s) where
  -- an entry within the log of the Sync
  module _ (t : CatchUp) (x : Entry) (some : 1 ≤ x.lsn) (within : x.lsn ≤ t.last) (room : t.last ≤ most_log_entries) where
    past : (x.lsn == past_all) ≡ false
    past = apart_test x.lsn past_all (λ (e : x.lsn ≡ past_all). omega arith)

    collected : (o : Outcome Done) → adopt_call t.epoch x t.last s.replica ≡ o → Recorded p s (piece_collected t x s o)
    collected (Err why, r) i = record { of = tt; folds = refl }
    collected (Ok d, r) i = ends (x.lsn == t.last) refl
      where
        part : r.partition ≡ p
        part = sym (ap (λ (o : Outcome Done). o.1.partition) i) ∙ (adopt_blind t.epoch x t.last s.replica).partition ∙ fit.partition

        open_end : Replica
        open_end = left (ending t.epoch x s.replica false)

        -- what the record of the entry makes
        one : left (adopt_call t.epoch x past_all (without_role s.replica)) ≡ without_role open_end
        one =
            (adopt_blind t.epoch x past_all s.replica).same
            ∙ ap (λ (o : Outcome Done). without_role o.1) (ends_with t.epoch x past_all s.replica false past)

        zeroes : (x.lsn == t.last) ≡ true → (none : Bool) → (t.last == 0) ≡ none →
            Recorded p s
            (acted (replica_put s r)
            (Keep (kept.Incoming r.partition t.epoch x.lsn x.epoch x.bytes)
            ∷ (if none then nothing_adopted r.partition t else log_adopted r.partition t false)))
        zeroes l true z = absurd (let a = eqb-true t.last 0 z in let low = some in let high = within in omega arith)
        zeroes l false z = record {
          of = (part, (part, tt));
          folds =
              ap left (kept_some t.epoch t.last (left (adopt_call t.epoch x past_all (without_role s.replica))) z)
              ∙ (ap (λ (z : Replica). left (adopt_collected_call t.epoch z)) one
              ∙ ((collected_blind t.epoch open_end).same
              ∙ ap without_role (settles_last t.epoch x s.replica d r (sym (ends_with t.epoch x t.last s.replica true l) ∙ i))));
        }

        ends : (last : Bool) → (x.lsn == t.last) ≡ last →
            Recorded p s
            (acted (replica_put s r)
            (Keep (kept.Incoming r.partition t.epoch x.lsn x.epoch x.bytes)
            ∷ (if last then adoption r.partition t false else fetch_next t r ∷ [])))
        ends true l = zeroes l (t.last == 0) refl
        ends false l = record {
          of = (part, tt);
          folds = one ∙ ap (λ (o : Outcome Done). without_role o.1) (sym (ends_with t.epoch x t.last s.replica false l) ∙ i);
        }

  pub piece_recorded : (e : Epoch) (x : Entry) → Recorded p s (piece_received e x s)
  unfolding piece_received
  piece_recorded e x = go s.catch_up refl
    where
      by : (t : CatchUp) → t.last ≤ most_log_entries → (b : Bool) → is_wanted t e x.lsn s.replica ≡ b →
          Recorded p s (if b then piece_collected t x s (adopt_call t.epoch x t.last s.replica) else still s)
      by t room false i = record { of = tt; folds = refl }
      by t room true i =
          let a = and_parts ((same_epoch t.epoch e && not (same_epoch s.replica.at e)) && nat_le 1 x.lsn) (nat_le x.lsn t.last) i in
          let b = and_parts (same_epoch t.epoch e && not (same_epoch s.replica.at e)) (nat_le 1 x.lsn) a.0 in
          collected t x (leb-true 1 x.lsn b.1) (leb-true x.lsn t.last a.1) room (adopt_call t.epoch x t.last s.replica) refl

      go : (o : Option CatchUp) → s.catch_up ≡ o → Recorded p s (piece_for e x s o)
      go None h = record { of = tt; folds = refl }
      go (Some t) h = by t (fit.room t h) (is_wanted t e x.lsn s.replica) refl
