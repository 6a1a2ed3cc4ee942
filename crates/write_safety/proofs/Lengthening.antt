-- What a commit makes of a book where the list that it names is kept.
use Rattle.std.proofs.Common.{◌≡◌, ℕ, true, false, ◌&&◌, ◌==◌, List, Result, Ok, Err, get_or, set, sym, ap, ◌∙◌, subst}
use Rattle.std.specs.Result.{OnOk, OnErr}
use Rattle.replica_core.specs.declared.entry.Entry.{Entry}
use Rattle.write_safety.specs.Books.{Agree, Commits, KeptLog, entries_of, logs_rise, longer, with_entries}
use Rattle.write_safety.specs.Places.{IsAt}
use Rattle.write_safety.proofs.Committing.{at_commits, at_others, at_rises, kept_here, log_at}

module _ (p d : ℕ) (committed : List Entry) (old : List KeptLog) (place : ℕ) (here : IsAt p d old place) (l m : KeptLog) (is : l ≡ get_or old place l) where
  same : l ≡ here.log
  same = log_at p d committed old place here l is

  pub may_lengthen : Agree committed (entries_of p d old) → Agree committed l.entries
  may_lengthen agree = subst (Agree committed) (kept_here p d committed old place here ∙ ap (λ (k : KeptLog). k.entries) (sym same)) agree

  pub lengthened_commits : {E : Type 0} (r : Result (Unit {0}) E) → OnOk r (m ≡ with_entries (longer committed l.entries) l) →
      OnOk r (Commits p d committed old (set old place m))
  lengthened_commits (Ok x) ok =
      at_commits p d committed old place here m (ok ∙ ap (λ (k : KeptLog). with_entries (longer committed k.entries) k) same)
  lengthened_commits (Err e) ok = ok

  pub lengthened_rises : m.partition ≡ l.partition → m.data_loss ≡ l.data_loss → logs_rise old ≡ true → logs_rise (set old place m) ≡ true
  lengthened_rises same_p same_d rise =
      at_rises p d committed old place here m (same_p ∙ ap (λ (k : KeptLog). k.partition) same) (same_d ∙ ap (λ (k : KeptLog). k.data_loss) same) rise

  pub lengthened_others : m.partition ≡ l.partition → m.data_loss ≡ l.data_loss → (q e : ℕ) → (q == p && e == d) ≡ false → entries_of q e (set old place m) ≡ entries_of q e old
  lengthened_others same_p same_d =
      at_others p d committed old place here m
      (ap (λ n. n == p && m.data_loss == d) (same_p ∙ ap (λ (k : KeptLog). k.partition) same)
      ∙ (ap (λ n. here.log.partition == p && n == d) (same_d ∙ ap (λ (k : KeptLog). k.data_loss) same) ∙ here.is))

-- Where a list is begun or memory is short, the others stay.
pub begun_others : {E : Type 0} (p d : ℕ) (committed : List Entry) (old new : List KeptLog) (r : Result (Unit {0}) E) → OnOk r (Commits p d committed old new) → OnErr r (new ≡ old)
    → (q e : ℕ) → (q == p && e == d) ≡ false → entries_of q e new ≡ entries_of q e old
begun_others p d committed old new (Ok x) ok refused q e other = ok.others q e other
begun_others p d committed old new (Err e) ok refused q f other = ap (entries_of q f) refused
