-- The reports of an actor, fed one after another.
use Rattle.std.proofs.Common.{◌≡◌, ℕ, suc, ◌+◌, ◌<◌, ◌≤◌, List, [], ◌∷◌, length, drop, get_or, refl, sym, ap, subst, add-one, drop-cons}
use Rattle.std.proofs.Math.ListN.{drop_of_length-le}
use Rattle.fabric_terms.specs.declared.report.Report.{Report}
use Rattle.fabric_terms.specs.declared.report.Report.TheVariants.{Committed}
use Rattle.replica_core.specs.declared.entry.Entry.{Entry}
use Rattle.ring_points.specs.declared.unit.Epoch.{Epoch}
use Rattle.write_safety.specs.Books.{KeptLog}
use Rattle.write_safety.specs.Fed.{FedBy, FedByAll, MayFeed}
use Rattle.schedule_writes.specs.Feeding.{MayFeedAll}

-- the rest may be fed, and then all were
pub record Leads (logs : ℕ → List Entry) (all rest : List Report) (first book : List KeptLog) : Type 0 where
  pub may : MayFeedAll logs rest book
  pub fed : (new : List KeptLog) → FedByAll logs rest book new → FedByAll logs all first new

next_rest : (reports : List Report) (i : ℕ) (r : Report) → i < length reports → r ≡ get_or reports i r → drop i reports ≡ r ∷ drop (i + 1) reports
next_rest reports i r inside is = rw (add-one, drop-cons reports i r) (ap (λ s. s ∷ drop (suc i) reports) (sym is))

module _ (logs : ℕ → List Entry) (all : List Report) (first book : List KeptLog) where
  pub leads_all : MayFeedAll logs all book → Leads logs all all book book
  leads_all may = record { may = may; fed = λ new by. by }

  -- the next report
  module _ (i : ℕ) (r : Report) (inside : i < length all) (is : r ≡ get_or all i r) (leads : Leads logs all (drop i all) first book) where
    on : Leads logs all (r ∷ drop (i + 1) all) first book
    on = subst (λ (rs : List Report). Leads logs all rs first book) (next_rest all i r inside is) leads

    pub may_next : MayFeed logs r book
    may_next = on.may.0

    pub leads_next : (new : List KeptLog) → FedBy logs r book new → Leads logs all (drop (i + 1) all) first new
    leads_next new by = record { may = on.may.1 new by; fed = λ last more. on.fed last (new, by, more) }

  pub all_fed : (i : ℕ) → length all ≤ i → Leads logs all (drop i all) first book → FedByAll logs all first book
  all_fed i end leads =
      let none : Leads logs all [] first book = subst (λ (rs : List Report). Leads logs all rs first book) (drop_of_length-le all end) leads in
      none.fed book refl

-- another report changes nothing
pub other_fed : (logs : ℕ → List Entry) (r : Report) (book : List KeptLog) → ((p last : ℕ) (e : Epoch) → r ≡ Committed p e last → ⊥) → FedBy logs r book book
other_fed logs (Committed p e last) book other = absurd (other p last e refl)
other_fed logs r book other = refl
