-- The commits that a run reports, as the machine of their partition has them.
use Rattle.std.proofs.Common.{◌≡◌, ℕ, suc, Bool, true, false, cond, ◌&&◌, ◌==◌, List, [], ◌∷◌, ◌++◌, Option, None, Some, refl, sym, ap, ◌∙◌, subst, inl, inr, ⊎_elim, ◌⊎◌, arith}
use Rattle.std.specs.Prelude.{Contains, drop}
use Rattle.std.proofs.lemmas.Bool.{and_parts, eqb-true}
use Rattle.fabric_lemmas.specs.Members.{IsMember}
use Rattle.fabric_terms.specs.declared.config.FabricConfig.{FabricConfig}
use Rattle.fabric_terms.specs.declared.report.Report.{Report}
use Rattle.fabric_terms.specs.declared.report.Report.TheVariants as report
use Rattle.fabric_terms.specs.Runs as runs
use Rattle.replica_core.specs.declared.entry.Entry.{Entry}
use Rattle.ring_points.specs.declared.unit.Epoch.{Epoch}
use Rattle.ring_points.specs.declared.who.Who.{Who}
use Rattle.unit_rules.specs.Units.{units}
use Rattle.world_rules.specs.Events.{world_step}
use Rattle.world_rules.specs.Runs.{History, run_of, world_after}
use Rattle.world_rules.specs.Worlds.{World, Stepped}
use Rattle.run_promises.specs.Reports.{IsAmong, HasReported, log_after, log_in}
use Rattle.write_safety.specs.Greatest.{Commit}
use Rattle.write_safety.specs.Committed.{commit_of, commits_among, commits_in, commits_of}

-- among reports

pub member_join : {A : Type 0} (xs ys : List A) (x : A) → IsMember x (xs ++ ys) → IsMember x xs ⊎ IsMember x ys
member_join [] ys x m = inr m
member_join (y ∷ xs) ys x (inl e) = inl (inl e)
member_join (y ∷ xs) ys x (inr m) = ⊎_elim (λ a. inl (inr a)) (λ b. inr b) (member_join xs ys x m)

pub contains_first : {A : Type 0} (x : A) (xs : List A) → Contains (x ∷ xs) x
contains_first x xs = (0, omega arith, refl)

contains_later : {A : Type 0} (x y : A) (xs : List A) → Contains xs x → Contains (y ∷ xs) x
contains_later x y xs h = let lt = h.1 in (suc h.0, omega arith, h.2)

-- one of these is a report Committed of the partition and data loss number, and the commit is what it says
record IsAmongReports (p d : ℕ) (log : List Entry) (rs : List Report) (k : Commit) : Type 0 where
  epoch : Epoch
  reported : Contains rs (report.Committed p epoch k.last)
  log_is : k.log ≡ log
  loss : epoch.data_loss ≡ d

commit_is : (p d : ℕ) (log : List Entry) (r : Report) (rs : List Report) (k : Commit) → IsMember k (commit_of p d log r) → IsAmongReports p d log (r ∷ rs) k
commit_is p d log (report.Committed q e last) rs k m = go (q == p && e.data_loss == d) refl m
  where
    here : q ≡ p → e.data_loss ≡ d → k ≡ record { last = last; log = log } → IsAmongReports p d log (report.Committed q e last ∷ rs) k
    here same loss is = record {
      epoch = e;
      reported = subst (λ (r : Report). Contains (report.Committed q e last ∷ rs) r)
          (ap (λ n. report.Committed n e last) same ∙ ap (λ n. report.Committed p e n) (sym (ap (λ (k : Commit). k.last) is)))
          (contains_first (report.Committed q e last) rs);
      log_is = ap (λ (k : Commit). k.log) is;
      loss = loss;
    }

    go : (b : Bool) → (q == p && e.data_loss == d) ≡ b → IsMember k (cond b (record { last = last; log = log } ∷ []) []) →
        IsAmongReports p d log (report.Committed q e last ∷ rs) k
    go true h (inl is) =
        let both = and_parts (q == p) (e.data_loss == d) h in here (eqb-true q p both.0) (eqb-true e.data_loss d both.1) is
    go true h (inr none) = absurd none
    go false h none = absurd none
commit_is p d log r rs k m = absurd m

among_reports : (p d : ℕ) (log : List Entry) (rs : List Report) (k : Commit) → IsMember k (commits_among p d log rs) → IsAmongReports p d log rs k
among_reports p d log [] k m = absurd m
among_reports p d log (r ∷ rs) k m =
    ⊎_elim (λ here. commit_is p d log r rs k here)
    (λ there.
    let h = among_reports p d log rs k there in
    record { epoch = h.epoch; reported = contains_later (report.Committed p h.epoch k.last) r rs h.reported; log_is = h.log_is; loss = h.loss })
    (member_join (commit_of p d log r) (commits_among p d log rs) k m)

-- in a history

-- a node reported it so many events before the end, and the commit is what it said
pub record IsReported (c : FabricConfig) (h : History) (p d : ℕ) (k : Commit) : Type 0 where
  pub since : ℕ
  pub who : Who
  pub epoch : Epoch
  pub reported : HasReported (run_of units c (drop since h)) who (report.Committed p epoch k.last)
  pub log_is : k.log ≡ log_after c (drop since h) who.actor p
  pub loss : epoch.data_loss ≡ d

-- what an actor reported in an event
record IsReportedIn (p d : ℕ) (w : World units) (o : Option runs.Entry) (k : Commit) : Type 0 where
  who : Who
  epoch : Epoch
  reported : IsAmong o who (report.Committed p epoch k.last)
  log_is : k.log ≡ log_in w who.actor p
  loss : epoch.data_loss ≡ d

reported_in : (p d : ℕ) (w : World units) (o : Option runs.Entry) (k : Commit) → IsMember k (commits_in p d w o) → IsReportedIn p d w o k
reported_in p d w None k m = absurd m
reported_in p d w (Some e) k m =
    let h = among_reports p d (log_in w e.who.actor p) e.reports k m in
    record { who = e.who; epoch = h.epoch; reported = (refl, h.reported); log_is = h.log_is; loss = h.loss }

pub is_reported : (c : FabricConfig) (h : History) (p d : ℕ) (k : Commit) → IsMember k (commits_of c h p d) → IsReported c h p d k
is_reported c [] p d k m = absurd m
is_reported c (e ∷ es) p d k m =
    let st : Stepped units = world_step units c (world_after units c es) e.1 in
    ⊎_elim
    (λ before.
    let h = is_reported c es p d k before in
    record { since = suc h.since; who = h.who; epoch = h.epoch; reported = h.reported; log_is = h.log_is; loss = h.loss })
    (λ now.
    let h = reported_in p d st.world st.entry k now in
    record { since = 0; who = h.who; epoch = h.epoch; reported = h.reported; log_is = h.log_is; loss = h.loss })
    (member_join (commits_of c es p d) (commits_in p d st.world st.entry) k m)
