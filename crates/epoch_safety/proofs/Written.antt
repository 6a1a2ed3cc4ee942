-- Writes are kept, of what a run tells.
use Rattle.std.proofs.Common.{◌≡◌, ℕ, zero, suc, Bool, true, false, cond, List, [], ◌∷◌, length, Option, None, Some, refl, sym, ap, ◌∙◌, subst, inl, inr, arith}
use Rattle.std.specs.Prelude.{drop}
use Rattle.std.proofs.lemmas.Bool.{eq-eqb}
use Rattle.fabric_lemmas.specs.Members.{IsMember}
use Rattle.fabric_terms.specs.declared.config.FabricConfig.{FabricConfig}
use Rattle.fabric_terms.specs.declared.report.Report.{Report}
use Rattle.fabric_terms.specs.declared.report.Report.TheVariants as report
use Rattle.fabric_terms.specs.Runs as runs
use Rattle.ring_points.specs.declared.unit.Epoch.{Epoch}
use Rattle.ring_points.specs.declared.who.Who.{Who}
use Rattle.epoch_machine.specs.Epochs.{number_of}
use Rattle.epoch_machine.specs.Logs.{Entry}
use Rattle.epoch_machine.specs.World as machine
use Rattle.epoch_machine.specs.World.{TellsPrimary, TellsCommitted}
use Rattle.epoch_machine.proofs.LawProofs.{writes_kept_told}
use Rattle.epoch_refinement.specs.Epochs.{IsReal, loss_of}
use Rattle.epoch_refinement.specs.Nodes.{is_told_of, IsRealIn}
use Rattle.epoch_refinement.specs.Told.{tells}
use Rattle.epoch_refinement.proofs.Losing.{settings_sound}
use Rattle.epoch_refinement.proofs.Numbers.{number_older_below}
use Rattle.unit_rules.specs.Units.{units}
use Rattle.world_rules.specs.Worlds.{World, Stepped}
use Rattle.epoch_safety.specs.Laws.{WritesAreKept}
use Rattle.run_promises.specs.Reports.{IsAmong, HasReported, log_in}
use Rattle.epoch_safety.proofs.Entries.{AreReal, IsRealEntry, AreRealLives}
use Rattle.epoch_safety.proofs.Followed.{FollowedLives, followed_lives}
use Rattle.epoch_safety.proofs.Primaries.{numbered}
use Rattle.epoch_safety.proofs.Telling.{tells_on, tells_in, told_lives}
use Rattle.epoch_safety.proofs.Members.{contained}
use Rattle.cold_start.specs.Lives.{Lives, lives_run, lives_step, one_life}
use Rattle.epoch_safety.specs.Lives.{LivesKeepWrites, lives_log}
use Rattle.cold_start.proofs.OneLife.{valid_one}
use Rattle.epoch_safety.proofs.OneLife.{snapshots_one}
use Rattle.run_promises.specs.Writes.{WritesKeptIn}

-- What was told stays told.

tells_grow : (p node : ℕ) (log : List Entry) (r : Report) (z : machine.Report) (before : List machine.Report) → IsMember z before →
    IsMember z (cond (is_told_of p r) (tells node log r before) before)
tells_grow p node log r z before m = go (is_told_of p r)
  where
    one : (r : Report) → IsMember z (tells node log r before)
    one (report.Promised q e) = inr m
    one (report.Accepted q e lsn) = inr m
    one (report.IsPrimary q e) = inr m
    one (report.Committed q e lsn) = inr m
    one r = m

    go : (b : Bool) → IsMember z (cond b (tells node log r before) before)
    go true = one r
    go false = m

on_grows : (p node : ℕ) (log : List Entry) (rs : List Report) (z : machine.Report) (before : List machine.Report) → IsMember z before →
    IsMember z (tells_on p node log rs before)
on_grows p node log [] z before m = m
on_grows p node log (r ∷ rs) z before m =
    on_grows p node log rs z (cond (is_told_of p r) (tells node log r before) before) (tells_grow p node log r z before m)

in_grows : (p : ℕ) (w : World units) (o : Option runs.Entry) (z : machine.Report) (before : List machine.Report) → IsMember z before →
    IsMember z (tells_in p w o before)
in_grows p w None z before m = m
in_grows p w (Some e) z before m = on_grows p e.who.actor (log_in w e.who.actor p) e.reports z before m

pub told_grows : (c : FabricConfig) (l : Lives) (p i : ℕ) (z : machine.Report) → IsMember z (told_lives c (drop i l) p) → IsMember z (told_lives c l p)
told_grows c l p zero z m = m
told_grows c [] p (suc i) z m = m
told_grows c (e ∷ l) p (suc i) z m =
    let st : Stepped units = lives_step units c l e.1 in
    in_grows p st.world st.entry z (told_lives c l p) (told_grows c l p i z m)

pub real_drop : (c : FabricConfig) (l : Lives) (i : ℕ) → AreRealLives c l → AreRealLives c (drop i l)
real_drop c l zero real = real
real_drop c [] (suc i) real = real
real_drop c (e ∷ l) (suc i) real = real_drop c l i real.1

-- What is reported is told, with the log that stands then.

-- the report tells this, with this log
abbrev Says : ℕ → ℕ → List Entry → Report → machine.Report → Type 0
Says p node log r z = (before : List machine.Report) → IsMember z (cond (is_told_of p r) (tells node log r before) before)

on_tells : (p node : ℕ) (log : List Entry) (rs : List Report) (r : Report) (z : machine.Report) → Says p node log r z → IsMember r rs →
    (before : List machine.Report) → IsMember z (tells_on p node log rs before)
on_tells p node log [] r z says m before = absurd m
on_tells p node log (s ∷ rs) r z says (inl e) before =
    on_grows p node log rs z (cond (is_told_of p s) (tells node log s before) before) (subst (λ s. IsMember z (cond (is_told_of p s) (tells node log s before) before)) e (says before))
on_tells p node log (s ∷ rs) r z says (inr m) before = on_tells p node log rs r z says m (cond (is_told_of p s) (tells node log s before) before)

real_member : (rs : List Report) (r : Report) → AreReal rs → IsMember r rs → IsRealIn r
real_member [] r real m = absurd m
real_member (s ∷ rs) r real (inl e) = subst IsRealIn (sym e) real.0
real_member (s ∷ rs) r real (inr m) = real_member rs r real.1 m

reported_in : (p : ℕ) (w : World units) (o : Option runs.Entry) (x : Who) (r : Report) (z : machine.Report) → IsAmong o x r → IsRealEntry o →
    Says p x.actor (log_in w x.actor p) r z → (before : List machine.Report) → IsMember z (tells_in p w o before) × IsRealIn r
reported_in p w None x r z a real says before = absurd a
reported_in p w (Some e) x r z a real says before =
    let m = contained r e.reports a.1 in (
      subst (λ (y : Who). IsMember z (tells_on p y.actor (log_in w y.actor p) e.reports before)) (sym a.0)
          (on_tells p x.actor (log_in w x.actor p) e.reports r z says m before),
      real_member e.reports r real m,
    )

pub reported : (c : FabricConfig) (l : Lives) (p : ℕ) (x : Who) (r : Report) (z : machine.Report) → HasReported (lives_run units c l) x r → AreRealLives c l →
    Says p x.actor (lives_log c l x.actor p) r z → IsMember z (told_lives c l p) × IsRealIn r
reported c [] p x r z a real says = absurd a
reported c (e ∷ l) p x r z a real says =
    let st : Stepped units = lives_step units c l e.1 in
    reported_in p st.world st.entry x r z a real.0 says (told_lives c l p)

-- so of a commit and of a primary

pub says_committed : (p node : ℕ) (log : List Entry) (e : Epoch) (last : ℕ) → Says p node log (report.Committed p e last) (TellsCommitted node (number_of e) last log)
says_committed p node log e last before =
    subst (IsMember (TellsCommitted node (number_of e) last log))
    (sym (ap (λ b. cond b (TellsCommitted node (number_of e) last log ∷ before) before) (eq-eqb p p refl))) (inl refl)

says_primary : (p node : ℕ) (log : List Entry) (e : Epoch) → Says p node log (report.IsPrimary p e) (TellsPrimary node (number_of e) log)
says_primary p node log e before =
    subst (IsMember (TellsPrimary node (number_of e) log))
    (sym (ap (λ b. cond b (TellsPrimary node (number_of e) log ∷ before) before) (eq-eqb p p refl))) (inl refl)

-- the data loss number of an epoch
pub loss_is : (e : Epoch) → IsReal e → loss_of (number_of e) ≡ e.data_loss
loss_is e real = let s = real.small in let o = real.some in omega arith

module _ (c : FabricConfig) (l : Lives) (at : FollowedLives c l) where
  pub committed_told : (i p last : ℕ) (e : Epoch) (x : Who) → HasReported (lives_run units c (drop i l)) x (report.Committed p e last) →
      IsMember (TellsCommitted x.actor (number_of e) last (lives_log c (drop i l) x.actor p)) (at.machines p).told × IsReal e
  committed_told i p last e x a =
      let r = reported c (drop i l) p x (report.Committed p e last) _ a (real_drop c l i at.real)
      (says_committed p x.actor (lives_log c (drop i l) x.actor p) e last) in
      (subst (IsMember _) (sym (at.follows.told p)) (told_grows c l p i _ r.0), r.1)

  primary_told : (j p : ℕ) (e : Epoch) (y : Who) → HasReported (lives_run units c (drop j l)) y (report.IsPrimary p e) →
      IsMember (TellsPrimary y.actor (number_of e) (lives_log c (drop j l) y.actor p)) (at.machines p).told × IsReal e
  primary_told j p e y a =
      let r = reported c (drop j l) p y (report.IsPrimary p e) _ a (real_drop c l j at.real) (says_primary p y.actor (lives_log c (drop j l) y.actor p) e) in
      (subst (IsMember _) (sym (at.follows.told p)) (told_grows c l p j _ r.0), r.1)

pub lives_keep_writes_lem : LivesKeepWrites
lives_keep_writes_lem is_frame c l sound valid i j p last e later x y committed primary older loss =
    let at = followed_lives is_frame c sound l valid in
    let a = committed_told c l at i p last e x committed in
    let b = primary_told c l at j p later y primary in
    writes_kept_told (at.follows.inv p) (settings_sound (length c.arbiters)) x.actor y.actor (number_of e) (number_of later) last
    (lives_log c (drop i l) x.actor p) (lives_log c (drop j l) y.actor p) a.0 b.0
    (number_older_below e later (numbered e a.1) (numbered later b.1) older)
    (loss_is e a.1 ∙ (loss ∙ sym (loss_is later b.1)))

pub writes_kept_lem : WritesAreKept
writes_kept_lem is_frame c h sound valid =
    subst WritesKeptIn (snapshots_one c h) (lives_keep_writes_lem is_frame c (one_life h) sound (valid_one units c is_frame h valid))
