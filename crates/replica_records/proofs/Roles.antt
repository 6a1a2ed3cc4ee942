-- The replicas that records give have no role.
use Rattle.std.proofs.Common.{◌≡◌, ℕ, Bool, true, false, cond, ◌||◌, ◌==◌, List, [], ◌∷◌, Some, refl, sym, ap, ◌∙◌}
use Rattle.std.specs.Prelude.{unwrap_or, if◌then◌else◌}
use Rattle.fabric_lemmas.specs.Maps.{at}
use Rattle.fabric_lemmas.proofs.Maps.{at-put}
use Rattle.fabric_terms.specs.declared.record.Record.{Record}
use Rattle.fabric_terms.specs.declared.record.Record.TheVariants.{Boot, PromisedAt, Wrote, Incoming, AdoptedAt}
use Rattle.ring_points.specs.declared.unit.Epoch.{Epoch}
use Rattle.replica_core.specs.declared.refusal.Done.{Done}
use Rattle.replica_core.specs.Replicas.{Replica, first_replica, uncollected}
use Rattle.replica_core.specs.Calls.{Outcome, promise_call, append_call, adopt_own_call, adopt_call, adopt_collected_call}
use Rattle.unit_rules.specs.Starts.{Replicas, replica_of, called, without_collected, past_all, adopt_kept, replicas_after, replicas_after_all}
use Rattle.replica_records.specs.Kept.{without_role}
use Rattle.replica_records.proofs.Blind.{Blind, promise_blind, append_blind, own_blind, adopt_blind, collected_blind}
use Rattle.replica_records.proofs.Recorded.{left}

abbrev pub NoRoles : Replicas → Type 0
NoRoles rs = (p : ℕ) → replica_of p rs ≡ without_role (replica_of p rs)

pub uncollected_at : (rs : Replicas) (p : ℕ) → replica_of p (without_collected rs) ≡ uncollected (replica_of p rs)
uncollected_at [] p = refl
uncollected_at (e ∷ es) p = go (e.0 == p) (uncollected_at es p)
  where
    go : (b : Bool) → replica_of p (without_collected es) ≡ uncollected (replica_of p es) →
        unwrap_or (cond b (Some (uncollected e.1)) (at p (without_collected es))) (first_replica p)
        ≡ uncollected (unwrap_or (cond b (Some e.1) (at p es)) (first_replica p))
    go true rest = refl
    go false rest = rest

module _ (q : ℕ) (call : Replica → Outcome Done) (blind : (r : Replica) → Blind r (call r) (call (without_role r))) (rs : Replicas) (none : NoRoles rs) where
  abbrev now : Replica
  now = left (call (replica_of q rs))

  now_none : now ≡ without_role now
  now_none = ap (λ (z : Replica). left (call z)) (none q) ∙ (blind (replica_of q rs)).same

  called_none : NoRoles (called q call rs)
  called_none p = go (q == p) refl
    where
      go : (b : Bool) → (q == p) ≡ b → replica_of p (called q call rs) ≡ without_role (replica_of p (called q call rs))
      go true h =
          let is : replica_of p (called q call rs) ≡ now
          = ap (λ o. unwrap_or o (first_replica p)) (at-put q now rs p ∙ ap (λ t. cond t (Some now) (at p rs)) h) in
          is ∙ (now_none ∙ ap without_role (sym is))
      go false h =
          let is : replica_of p (called q call rs) ≡ replica_of p rs
          = ap (λ o. unwrap_or o (first_replica p)) (at-put q now rs p ∙ ap (λ t. cond t (Some now) (at p rs)) h) in
          is ∙ (none p ∙ ap without_role (sym is))

pub kept_blind : (e : Epoch) (last : ℕ) (is_own : Bool) (r : Replica) → Blind r (adopt_kept e last is_own r) (adopt_kept e last is_own (without_role r))
kept_blind e last is_own r = go (is_own || last == 0)
  where
    go : (b : Bool) →
        Blind r (if b then adopt_own_call e last r else adopt_collected_call e r)
        (if b then adopt_own_call e last (without_role r) else adopt_collected_call e (without_role r))
    go true = own_blind e last r
    go false = collected_blind e r

one_none : (rs : Replicas) (x : Record) → NoRoles rs → NoRoles (replicas_after rs x)
one_none rs (Boot instance) none p =
    uncollected_at rs p ∙ (ap uncollected (none p) ∙ ap without_role (sym (uncollected_at rs p)))
one_none rs (PromisedAt q epoch) none p = called_none q (promise_call epoch) (promise_blind epoch) rs none p
one_none rs (Wrote q epoch lsn text) none p = called_none q (append_call epoch lsn text) (append_blind epoch lsn text) rs none p
one_none rs (Incoming q epoch lsn entry_epoch text) none p =
    called_none q (adopt_call epoch (record { epoch = entry_epoch; lsn = lsn; bytes = text }) past_all)
    (adopt_blind epoch (record { epoch = entry_epoch; lsn = lsn; bytes = text }) past_all) rs none p
one_none rs (AdoptedAt q epoch last is_own) none p = called_none q (adopt_kept epoch last is_own) (kept_blind epoch last is_own) rs none p
one_none rs x none p = none p

pub all_none : (rs : Replicas) (xs : List Record) → NoRoles rs → NoRoles (replicas_after_all rs xs)
all_none rs [] none = none
all_none rs (x ∷ xs) none = all_none (replicas_after rs x) xs (one_none rs x none)
