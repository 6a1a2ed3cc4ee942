-- Each call on a replica keeps it in range, and refuses with an epoch that is.
use Rattle.std.proofs.Common.{◌≡◌, ℕ, ◌+◌, ◌≤◌, Bool, true, false, ◌&&◌, ◌||◌, List, [], ◌∷◌, ◌++◌, length, IsTrue, refl, arith, length-append}
use Rattle.std.specs.Prelude.{◌==◌, Result, Ok, Err, nat_lt, not, if◌then◌else◌}
use Rattle.std.proofs.lemmas.Bool.{cond_both, leb-true}
use Rattle.std.proofs.lemmas.Bool.Decides.{nat_tests}
use Rattle.std.proofs.lemmas.List.Elements.{All-append, All-cons, All-nil}
use Rattle.fabric_terms.specs.Fields.{is_epoch, is_last, is_payload}
use Rattle.ring_points.specs.declared.unit.Config.{Config}
use Rattle.ring_points.specs.declared.unit.Epoch.{Epoch}
use Rattle.ring_points.specs.Epochs.{is_older, same_epoch}
use Rattle.replica_core.specs.declared.entry.Entry.{Entry}
use Rattle.replica_core.specs.declared.refusal.Done.{Done}
use Rattle.replica_core.specs.declared.refusal.Done.TheVariants.{New}
use Rattle.replica_core.specs.declared.refusal.ReplicaRefusal.{ReplicaRefusal}
use Rattle.replica_core.specs.declared.refusal.ReplicaRefusal.TheVariants.{Older, NotMember, Gap, LogFull}
use Rattle.replica_core.specs.declared.role.Role.{Role}
use Rattle.replica_core.specs.declared.role.Role.TheVariants.{IdleSecondary}
use Rattle.replica_core.specs.Calls.{Outcome, activate_call, adopt_call, adopt_collected_call, adopt_own_call, append_call, collected_call, held_if, idle_call, is_ahead, is_collected, is_empty, is_gap, own_adopted, promise_call, unless}
use Rattle.replica_core.specs.Replicas.{Replica, adopted, collected_in, collected_with, collecting, raised, settled, uncollected, written}
use Rattle.replica_core.specs.Roles.{is_idle, is_member, role_of}
use Rattle.fabric_fit.specs.ReplicaStates.{EntryInRange, LogInRange, ReplicaInRange}

-- a refusal names an epoch that fits
abbrev pub RefusalInRange : ReplicaRefusal → Type 0
RefusalInRange (Older promised) = IsTrue (is_epoch promised)
RefusalInRange _ = Unit {0}

abbrev pub AnswerInRange : {A : Type 0} → Result A ReplicaRefusal → Type 0
AnswerInRange (Ok x) = Unit {0}
AnswerInRange (Err refusal) = RefusalInRange refusal

-- what a call answers, and the replica after it
pub record OutcomeInRange {A : Type 0} (o : Outcome A) : Type 0 where
  pub answer : AnswerInRange o.0
  pub replica : ReplicaInRange o.1

-- Logs.

pub empty_log : LogInRange []
empty_log = record { entries = All-nil EntryInRange; room = omega arith }

pub longer_log : (log : List Entry) (entry : Entry) → LogInRange log → EntryInRange entry → length log + 1 ≤ 100000 → LogInRange (log ++ entry ∷ [])
longer_log log entry h k room = record {
  entries = All-append EntryInRange log (entry ∷ []) h.entries (All-cons EntryInRange entry [] k (All-nil EntryInRange));
  room = omega (arith, length-append log (entry ∷ []));
}

-- What changes a replica.

module _ (e : Epoch) (s : Replica) (fits : IsTrue (is_epoch e)) (fine : ReplicaInRange s) where
  pub collected_in_range : LogInRange (collected_in e s)
  collected_in_range = cond_both (is_older s.promised e) [] s.collected LogInRange (λ f. empty_log) (λ f. fine.collected)

  pub raised_in_range : ReplicaInRange (raised e s)
  raised_in_range = record { partition = fine.partition; promised = fits; at = fine.at; log = fine.log; collected = collected_in_range }

  adopted_in_range : (log : List Entry) → LogInRange log → ReplicaInRange (adopted e log s)
  adopted_in_range log h = record { partition = fine.partition; promised = fits; at = fits; log = h; collected = collected_in_range }

  settled_in_range : ReplicaInRange (settled e s)
  settled_in_range = record { partition = fine.partition; promised = fine.promised; at = fits; log = fine.collected; collected = empty_log }

-- Refusals.

module _ {A : Type 0} where
  refused_in_range : (b : Bool) (refusal : ReplicaRefusal) (s : Replica) (next : Outcome A) → RefusalInRange refusal → ReplicaInRange s
      → (b ≡ false → OutcomeInRange next) → OutcomeInRange (unless b refusal s next)
  refused_in_range true refusal s next h k more = record { answer = h; replica = k }
  refused_in_range false refusal s next h k more = more refl

held_in_range : (b : Bool) (s : Replica) (next : Outcome Done) → ReplicaInRange s → (b ≡ false → OutcomeInRange next) → OutcomeInRange (held_if b s next)
held_in_range true s next k more = record { answer = tt; replica = k }
held_in_range false s next k more = more refl

module _ (e : Epoch) (s : Replica) (fits : IsTrue (is_epoch e)) (fine : ReplicaInRange s) where
  unless_older_in_range : {A : Type 0} (next : Outcome A) → OutcomeInRange next → OutcomeInRange (unless (is_older e s.promised) (Older s.promised) s next)
  unless_older_in_range next h = refused_in_range (is_older e s.promised) (Older s.promised) s next fine.promised fine (λ f. h)

  -- The calls.

  pub promise_in_range : OutcomeInRange (promise_call e s)
  promise_in_range =
      unless_older_in_range (held_if (same_epoch s.promised e) s (Ok New, raised e s))
      (held_in_range (same_epoch s.promised e) s (Ok New, raised e s) fine (λ f. record { answer = tt; replica = raised_in_range e s fits fine }))

  pub idle_in_range : OutcomeInRange (idle_call e s)
  idle_in_range =
      let now : Replica = record (raised e s) { role = IdleSecondary } in
      let raised = raised_in_range e s fits fine in
      unless_older_in_range (held_if (same_epoch s.promised e && is_idle s.role) s (Ok New, now))
      (held_in_range (same_epoch s.promised e && is_idle s.role) s (Ok New, now) fine
      (λ f. record {
        answer = tt;
        replica = record { partition = raised.partition; promised = raised.promised; at = raised.at; log = raised.log; collected = raised.collected };
      }))

  pub adopt_own_in_range : (last : ℕ) → OutcomeInRange (adopt_own_call e last s)
  adopt_own_in_range last =
      unless_older_in_range (held_if (same_epoch s.at e) s (own_adopted (last == 0) (last == length s.log) e s))
      (held_in_range (same_epoch s.at e) s (own_adopted (last == 0) (last == length s.log) e s) fine (λ f. own (last == 0) (last == length s.log)))
    where
      own : (none whole : Bool) → OutcomeInRange (own_adopted none whole e s)
      own true whole = record { answer = tt; replica = adopted_in_range e s fits fine [] empty_log }
      own false true = record { answer = tt; replica = adopted_in_range e s fits fine s.log fine.log }
      own false false = record { answer = tt; replica = fine }

  pub adopt_collected_in_range : OutcomeInRange (adopt_collected_call e s)
  adopt_collected_in_range =
      let now : Outcome Done = (Ok New, settled e (raised e s)) in
      let rest : Outcome Done = unless (is_empty (collected_in e s)) (Gap 0) s now in
      unless_older_in_range (held_if (same_epoch s.at e) s rest)
      (held_in_range (same_epoch s.at e) s rest fine
      (λ f. refused_in_range (is_empty (collected_in e s)) (Gap 0) s now tt fine
      (λ g. record { answer = tt; replica = settled_in_range e (raised e s) fits (raised_in_range e s fits fine) })))

  -- an entry that is the next one finds its place
  next_entry : (lsn : ℕ) → is_ahead e lsn s ≡ false → nat_lt lsn (length s.log + 1) ≡ false → lsn ≡ length s.log + 1
  next_entry lsn f g = by (not (same_epoch s.at e)) f
    where
      by : (b : Bool) → (b || nat_lt (length s.log + 1) lsn) ≡ false → lsn ≡ length s.log + 1
      by true f = absurd (cc)
      by false f = grind (arith, nat_tests)

  pub append_in_range : (lsn : ℕ) (bytes : List ℕ) → IsTrue (is_payload bytes) → OutcomeInRange (append_call e lsn bytes s)
  append_in_range lsn bytes text =
      let entry : Entry = record { epoch = e; lsn = lsn; bytes = bytes } in
      let now : Outcome Done = (Ok New, written entry s) in
      let room : Outcome Done = unless (length s.log == 100000) LogFull s now in
      let new : Outcome Done = held_if (nat_lt lsn (length s.log + 1)) s room in
      unless_older_in_range (unless (is_ahead e lsn s) (Gap (length s.log)) s new)
      (refused_in_range (is_ahead e lsn s) (Gap (length s.log)) s new tt fine
      (λ f. held_in_range (nat_lt lsn (length s.log + 1)) s room fine
      (λ g. refused_in_range (length s.log == 100000) LogFull s now tt fine
      (λ h. let few = fine.log.room in
      let is = next_entry lsn f g in
      let more : length s.log + 1 ≤ 100000 = grind (arith, nat_tests) in
      let short : IsTrue (is_last lsn) = grind (arith, nat_tests) in
      record {
        answer = tt;
        replica = record {
          partition = fine.partition;
          promised = fine.promised;
          at = fine.at;
          log = longer_log s.log entry fine.log (record { epoch = fits; lsn = short; bytes = text }) more;
          collected = fine.collected;
        };
      }))))

  -- a new one has a number of a log
  pub new_lsn : (lsn : ℕ) (bytes : List ℕ) → (append_call e lsn bytes s).0 ≡ Ok New → IsTrue (is_last lsn)
  new_lsn lsn bytes = by (is_older e s.promised) (is_ahead e lsn s) refl (nat_lt lsn (length s.log + 1)) refl (length s.log == 100000) refl
    where
      now : Outcome Done
      now = (Ok New, written (record { epoch = e; lsn = lsn; bytes = bytes }) s)

      by : (a b : Bool) → is_ahead e lsn s ≡ b → (c : Bool) → nat_lt lsn (length s.log + 1) ≡ c → (d : Bool) → (length s.log == 100000) ≡ d
          → (unless a (Older s.promised) s (unless b (Gap (length s.log)) s (held_if c s (unless d LogFull s now)))).0 ≡ Ok New → IsTrue (is_last lsn)
      by true b f c g d h new = absurd (cc)
      by false true f c g d h new = absurd (cc)
      by false false f true g d h new = absurd (cc)
      by false false f false g true h new = absurd (cc)
      by false false f false g false h new =
          let few = fine.log.room in
          let is = next_entry lsn f g in
          grind (arith, nat_tests)

  -- Collecting.

  module _ (entry : Entry) (named : EntryInRange entry) where
    with_entry : is_gap e entry.lsn s ≡ false → LogInRange (collected_with e entry s)
    with_entry f = by (entry.lsn == 1) refl f
      where
        by : (b : Bool) → (entry.lsn == 1) ≡ b → (not b && not (entry.lsn == length (collected_in e s) + 1)) ≡ false
            → LogInRange ((let some : List Entry = if b then [] else collected_in e s in some) ++ entry ∷ [])
        by true g gap = longer_log [] entry empty_log named (omega arith)
        by false g gap =
            let short = leb-true entry.lsn 100000 named.lsn in
            let is : entry.lsn ≡ length (collected_in e s) + 1 = grind (arith, nat_tests) in
            longer_log (collected_in e s) entry (collected_in_range e s fits fine) named (omega arith)

    collecting_in_range : is_gap e entry.lsn s ≡ false → ReplicaInRange (collecting e entry s)
    collecting_in_range f =
        let raised = raised_in_range e s fits fine in
        record { partition = raised.partition; promised = raised.promised; at = raised.at; log = raised.log; collected = with_entry f }

    pub adopt_in_range : (last : ℕ) → OutcomeInRange (adopt_call e entry last s)
    adopt_in_range last =
        let now : Outcome Done = collected_call (entry.lsn == last) e entry s in
        let next : Outcome Done = unless (is_gap e entry.lsn s) (Gap (length (collected_in e s))) s now in
        unless_older_in_range (held_if (same_epoch s.at e) s next)
        (held_in_range (same_epoch s.at e) s next fine
        (λ f. refused_in_range (is_gap e entry.lsn s) (Gap (length (collected_in e s))) s now tt fine (λ g. collects g (entry.lsn == last))))
      where
        collects : is_gap e entry.lsn s ≡ false → (whole : Bool) → OutcomeInRange (collected_call whole e entry s)
        collects g true = record { answer = tt; replica = settled_in_range e (collecting e entry s) fits (collecting_in_range g) }
        collects g false =
            held_in_range (is_collected e entry s) s (Ok New, collecting e entry s) fine (λ h. record { answer = tt; replica = collecting_in_range g })

pub uncollected_in_range : (s : Replica) → ReplicaInRange s → ReplicaInRange (uncollected s)
uncollected_in_range s h = record { partition = h.partition; promised = h.promised; at = h.at; log = h.log; collected = empty_log }

pub activate_in_range : (me : ℕ) (config : Config) (s : Replica) → IsTrue (is_epoch config.epoch) → ReplicaInRange s
    → OutcomeInRange (activate_call me config s)
activate_in_range me config s fits fine =
    let e : Epoch = config.epoch in
    let now : Outcome Role = (Ok (role_of me config), record (raised e s) { role = role_of me config }) in
    let whole : Outcome Role = unless (not (same_epoch s.at e)) (Gap (length s.log)) s now in
    let raised = raised_in_range e s fits fine in
    refused_in_range (is_older e s.promised) (Older s.promised) s (unless (not (is_member me config)) NotMember s whole) fine.promised fine
    (λ f. refused_in_range (not (is_member me config)) NotMember s whole tt fine
    (λ g. refused_in_range (not (same_epoch s.at e)) (Gap (length s.log)) s now tt fine
    (λ h. record {
      answer = tt;
      replica = record { partition = raised.partition; promised = raised.promised; at = raised.at; log = raised.log; collected = raised.collected };
    })))
