-- Records of one partition, one call after the other, and what they leave of all partitions.
use Rattle.std.proofs.Common.{◌≡◌, ℕ, Bool, true, false, cond, ◌==◌, List, [], ◌∷◌, ◌++◌, Some, refl, sym, ap, ◌∙◌}
use Rattle.std.proofs.lemmas.Bool.{eqb-true, eq-eqb}
use Rattle.std.specs.Prelude.{unwrap_or}
use Rattle.fabric_lemmas.specs.Maps.{at}
use Rattle.fabric_lemmas.proofs.Maps.{at-put}
use Rattle.fabric_terms.specs.declared.record.Record.{Record}
use Rattle.fabric_terms.specs.declared.record.Record.TheVariants.{PromisedAt, Wrote, Incoming, AdoptedAt}
use Rattle.replica_core.specs.declared.refusal.Done.{Done}
use Rattle.replica_core.specs.Replicas.{Replica, first_replica}
use Rattle.replica_core.specs.Calls.{Outcome, promise_call, append_call, adopt_call}
use Rattle.unit_rules.specs.Starts.{Replicas, replica_of, called, past_all, adopt_kept, replicas_after, replicas_after_all}

-- what a record is of one replica
abbrev pub replica_after : Replica → Record → Replica
replica_after r (PromisedAt q epoch) = (promise_call epoch r).1
replica_after r (Wrote q epoch lsn text) = (append_call epoch lsn text r).1
replica_after r (Incoming q epoch lsn entry_epoch text) = (adopt_call epoch (record { epoch = entry_epoch; lsn = lsn; bytes = text }) past_all r).1
replica_after r (AdoptedAt q epoch last is_own) = (adopt_kept epoch last is_own r).1
replica_after r _ = r

abbrev pub replica_after_all : Replica → List Record → Replica
replica_after_all r [] = r
replica_after_all r (x ∷ xs) = replica_after_all (replica_after r x) xs

-- the record is of the partition
abbrev pub IsRecordOf : ℕ → Record → Type 0
IsRecordOf p (PromisedAt q epoch) = q ≡ p
IsRecordOf p (Wrote q epoch lsn text) = q ≡ p
IsRecordOf p (Incoming q epoch lsn entry_epoch text) = q ≡ p
IsRecordOf p (AdoptedAt q epoch last is_own) = q ≡ p
IsRecordOf p _ = ⊥

abbrev pub AllOf : ℕ → List Record → Type 0
AllOf p [] = Unit {0}
AllOf p (x ∷ xs) = IsRecordOf p x × AllOf p xs

pub apart_test : (p q : ℕ) → (p ≡ q → ⊥) → (p == q) ≡ false
apart_test p q d = go (p == q) refl
  where
    go : (b : Bool) → (p == q) ≡ b → b ≡ false
    go true e = absurd (d (eqb-true p q e))
    go false e = refl

module _ (p q : ℕ) (is : q ≡ p) (call : Replica → Outcome Done) (rs : Replicas) where
  called_here : replica_of p (called q call rs) ≡ (call (replica_of p rs)).1
  called_here =
      ap (λ o. unwrap_or o (first_replica p))
      (at-put q (call (replica_of q rs)).1 rs p ∙ ap (λ b. cond b (Some (call (replica_of q rs)).1) (at p rs)) (eq-eqb q p is))
      ∙ ap (λ z. (call (replica_of z rs)).1) is

  called_there : (t : ℕ) → (p ≡ t → ⊥) → at t (called q call rs) ≡ at t rs
  called_there t d =
      at-put q (call (replica_of q rs)).1 rs t
      ∙ ap (λ b. cond b (Some (call (replica_of q rs)).1) (at t rs)) (apart_test q t (λ e. d (sym is ∙ e)))

one_here : (p : ℕ) (x : Record) → IsRecordOf p x → (rs : Replicas) → replica_of p (replicas_after rs x) ≡ replica_after (replica_of p rs) x
one_here p (PromisedAt q epoch) h rs = called_here p q h (promise_call epoch) rs
one_here p (Wrote q epoch lsn text) h rs = called_here p q h (append_call epoch lsn text) rs
one_here p (Incoming q epoch lsn entry_epoch text) h rs = called_here p q h (adopt_call epoch (record { epoch = entry_epoch; lsn = lsn; bytes = text }) past_all) rs
one_here p (AdoptedAt q epoch last is_own) h rs = called_here p q h (adopt_kept epoch last is_own) rs
one_here p _ h rs = absurd h

one_there : (p : ℕ) (x : Record) → IsRecordOf p x → (rs : Replicas) (t : ℕ) → (p ≡ t → ⊥) → at t (replicas_after rs x) ≡ at t rs
one_there p (PromisedAt q epoch) h rs t d = called_there p q h (promise_call epoch) rs t d
one_there p (Wrote q epoch lsn text) h rs t d = called_there p q h (append_call epoch lsn text) rs t d
one_there p (Incoming q epoch lsn entry_epoch text) h rs t d = called_there p q h (adopt_call epoch (record { epoch = entry_epoch; lsn = lsn; bytes = text }) past_all) rs t d
one_there p (AdoptedAt q epoch last is_own) h rs t d = called_there p q h (adopt_kept epoch last is_own) rs t d
one_there p _ h rs t d = absurd h

pub all_here : (p : ℕ) (xs : List Record) → AllOf p xs → (rs : Replicas) → replica_of p (replicas_after_all rs xs) ≡ replica_after_all (replica_of p rs) xs
all_here p [] h rs = refl
all_here p (x ∷ xs) h rs = all_here p xs h.1 (replicas_after rs x) ∙ ap (λ r. replica_after_all r xs) (one_here p x h.0 rs)

pub at_there : (p : ℕ) (xs : List Record) → AllOf p xs → (rs : Replicas) (t : ℕ) → (p ≡ t → ⊥) → at t (replicas_after_all rs xs) ≡ at t rs
at_there p [] h rs t d = refl
at_there p (x ∷ xs) h rs t d = at_there p xs h.1 (replicas_after rs x) t d ∙ one_there p x h.0 rs t d

pub all_there : (p : ℕ) (xs : List Record) → AllOf p xs → (rs : Replicas) (t : ℕ) → (p ≡ t → ⊥) → replica_of t (replicas_after_all rs xs) ≡ replica_of t rs
all_there p xs h rs t d = ap (λ o. unwrap_or o (first_replica t)) (at_there p xs h rs t d)

pub after_join : (rs : Replicas) (xs ys : List Record) → replicas_after_all rs (xs ++ ys) ≡ replicas_after_all (replicas_after_all rs xs) ys
after_join rs [] ys = refl
after_join rs (x ∷ xs) ys = after_join (replicas_after rs x) xs ys
