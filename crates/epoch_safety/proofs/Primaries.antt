-- One primary an epoch, and no older write, of what a run tells.
use Rattle.std.proofs.Common.{◌≡◌, ℕ, Bool, true, false, cond, ◌==◌, List, [], ◌∷◌, length, None, Some, refl, sym, ap, ◌∙◌, subst, ◌⊎◌, inl, inr, arith}
use Rattle.std.specs.Prelude.{Contains, drop}
use Rattle.std.proofs.lemmas.Bool.{eqb-true, eq-eqb}
use Rattle.fabric_lemmas.specs.Members.{IsMember}
use Rattle.fabric_terms.specs.declared.config.FabricConfig.{FabricConfig}
use Rattle.fabric_terms.specs.declared.report.Report.{Report}
use Rattle.fabric_terms.specs.declared.report.Report.TheVariants as report
use Rattle.fabric_terms.specs.Primaries.{bound_epoch}
use Rattle.fabric_terms.specs.Reports.{Told, told}
use Rattle.ring_points.specs.declared.unit.Epoch.{Epoch}
use Rattle.ring_points.specs.declared.who.Who.{Who}
use Rattle.ring_points.specs.Epochs.{is_older}
use Rattle.epoch_machine.specs.Epochs.{number_of}
use Rattle.epoch_machine.specs.Invariant.{Invariant}
use Rattle.epoch_machine.specs.Logs.{Entry}
use Rattle.epoch_machine.specs.SoundReports.{NoneOlder}
use Rattle.epoch_machine.specs.World as machine
use Rattle.epoch_machine.specs.World.{TellsPromised, TellsAccepted, TellsPrimary}
use Rattle.epoch_machine.proofs.LawProofs.{one_primary_told}
use Rattle.epoch_refinement.specs.Epochs.{IsNumber, IsReal, settings_to}
use Rattle.epoch_refinement.proofs.Numbers.{number_older_below}
use Rattle.unit_rules.specs.Units.{units}
use Rattle.epoch_safety.specs.Laws.{RunsHaveOnePrimary, RunsHaveNoOlder}
use Rattle.epoch_safety.proofs.Followed.{FollowedLives, followed_lives}
use Rattle.epoch_safety.proofs.Members.{contained}
use Rattle.epoch_safety.proofs.Telling.{told_lives}
use Rattle.epoch_safety.proofs.Tracks.{IsEnd, Tracks, end_member, tracks, tracks_drop, tracked}
use Rattle.cold_start.specs.Lives.{Lives, lives_run, one_life}
use Rattle.cold_start.proofs.OneLife.{run_one, valid_one}
use Rattle.epoch_safety.specs.Lives.{LivesHaveNoOlder, LivesHaveOnePrimary}
use Rattle.fabric_terms.specs.Primaries.{OnePrimary, NoOlder}

-- what is told of the partition is told on top
pub on_top : (p q : ℕ) → q ≡ p → (node : ℕ) (before new : List machine.Report) → cond (q == p) new before ≡ new
on_top p q same node before new = ap (λ b. cond b new before) (eq-eqb q p same)

-- a real epoch by its number
pub numbered : (e : Epoch) → IsReal e → IsNumber (number_of e) e
numbered e real = record { small = real.small; is = refl }

module _ (p : ℕ) (t : Told) (l : List machine.Report) (h : Tracks p t l) where
  primary_told : (v : Who) (e : Epoch) → IsMember (v, report.IsPrimary p e) t → (log : List Entry) × IsMember (TellsPrimary v.actor (number_of e) log) l
  primary_told v e m =
      let k = tracked p (v, report.IsPrimary p e) t l h m in
      let top = on_top p p refl v.actor k.1 (TellsPrimary v.actor (number_of e) k.0 ∷ k.1) in
      (k.0, end_member _ _ l (subst (λ ys. IsEnd ys l) top k.2) (inl refl))

  -- what binds a replica
  bound_told : (w : Who) (r : Report) (earlier : Epoch) → bound_epoch p r ≡ Some earlier → IsMember (w, r) t →
      (IsMember (TellsPromised w.actor (number_of earlier)) l ⊎ IsMember (TellsAccepted w.actor (number_of earlier)) l) × IsReal earlier
  bound_told w (report.Promised q e) earlier b m = go (q == p) refl b
    where
      go : (test : Bool) → (q == p) ≡ test → cond test (Some e) None ≡ Some earlier →
          (IsMember (TellsPromised w.actor (number_of earlier)) l ⊎ IsMember (TellsAccepted w.actor (number_of earlier)) l) × IsReal earlier
      go false f g = absurd (cc (g))
      go true f g =
          let same : e ≡ earlier = cc (g) in
          let k = tracked p (w, report.Promised q e) t l h m in
          let top = on_top p q (eqb-true q p f) w.actor k.1 (TellsPromised w.actor (number_of e) ∷ k.1) in (
            inl (subst (λ (z : Epoch). IsMember (TellsPromised w.actor (number_of z)) l) same
                (end_member _ _ l (subst (λ ys. IsEnd ys l) top k.2) (inl refl))),
            subst IsReal same k.3,
          )
  bound_told w (report.Accepted q e lsn) earlier b m = go (q == p) refl b
    where
      go : (test : Bool) → (q == p) ≡ test → cond test (Some e) None ≡ Some earlier →
          (IsMember (TellsPromised w.actor (number_of earlier)) l ⊎ IsMember (TellsAccepted w.actor (number_of earlier)) l) × IsReal earlier
      go false f g = absurd (cc (g))
      go true f g =
          let same : e ≡ earlier = cc (g) in
          let k = tracked p (w, report.Accepted q e lsn) t l h m in
          let top = on_top p q (eqb-true q p f) w.actor k.1 (TellsAccepted w.actor (number_of e) ∷ k.1) in (
            inr (subst (λ (z : Epoch). IsMember (TellsAccepted w.actor (number_of z)) l) same
                (end_member _ _ l (subst (λ ys. IsEnd ys l) top k.2) (inl refl))),
            subst IsReal same k.3,
          )
  bound_told w r earlier b m = absurd (cc (b))

-- so of an end of it
older_end : (ys xs : List machine.Report) → IsEnd ys xs → NoneOlder xs → NoneOlder ys
older_end ys [] e none = subst NoneOlder (sym e) tt
older_end ys (x ∷ xs) (inl e) none = subst NoneOlder (sym e) none
older_end ys (x ∷ xs) (inr e) none = older_end ys xs e none.1

module _ (is_frame : List ℕ → Bool) (c : FabricConfig) (l : Lives) (at : FollowedLives c l) where
  abbrev t : Told
  t = told (lives_run units c l)

  module _ (p : ℕ) where
    tracking : Tracks p t (told_lives c l p)
    tracking = tracks c l p at.real

    abbrev m : machine.World
    m = at.machines p

    inv : Invariant (settings_to (length c.arbiters)) m
    inv = at.follows.inv p

    one : (e : Epoch) (v w : Who) → Contains t (v, report.IsPrimary p e) → Contains t (w, report.IsPrimary p e) → v.actor ≡ w.actor
    one e v w a b =
        let x = primary_told p t (told_lives c l p) tracking v e (contained (v, report.IsPrimary p e) t a) in
        let y = primary_told p t (told_lives c l p) tracking w e (contained (w, report.IsPrimary p e) t b) in
        let same = sym (at.follows.told p) in
        one_primary_told inv v.actor w.actor (number_of e) x.0 y.0
        (subst (IsMember (TellsPrimary v.actor (number_of e) x.0)) same x.1)
        (subst (IsMember (TellsPrimary w.actor (number_of e) y.0)) same y.1)

    older : (newer lsn : ℕ) (epoch earlier : Epoch) (v w : Who) (before : Told) (r : Report) → drop newer t ≡ (v, report.Accepted p epoch lsn) ∷ before →
        Contains before (w, r) → w.actor ≡ v.actor → bound_epoch p r ≡ Some earlier → is_older epoch earlier ≡ true → ⊥
    older newer lsn epoch earlier v w before r split has same bound old =
        let k = tracks_drop p newer t (told_lives c l p) tracking in
        let here : Tracks p ((v, report.Accepted p epoch lsn) ∷ before) k.0 = subst (λ z. Tracks p z k.0) split k.2 in
        let is : k.0 ≡ TellsAccepted v.actor (number_of epoch) ∷ here.1
        = here.2 ∙ on_top p p refl v.actor here.1 (TellsAccepted v.actor (number_of epoch) ∷ here.1) in
        let none : NoneOlder (TellsAccepted v.actor (number_of epoch) ∷ here.1)
        = subst NoneOlder is (older_end k.0 (told_lives c l p) k.1 (subst NoneOlder (at.follows.told p) inv.reports.none_older)) in
        let b = bound_told p before here.1 here.4 w r earlier bound (contained (w, r) before has) in
        let at_node = subst (λ n. IsMember (TellsPromised n (number_of earlier)) here.1 ⊎ IsMember (TellsAccepted n (number_of earlier)) here.1) same b.0 in
        let le = none.0 (number_of earlier) at_node in
        let lt = number_older_below epoch earlier (numbered epoch here.3) (numbered earlier b.1) old in
        omega arith

pub lives_one_primary_lem : LivesHaveOnePrimary
lives_one_primary_lem is_frame c l sound valid =
    record { one = λ p e v w a b. one is_frame c l (followed_lives is_frame c sound l valid) p e v w a b }

pub lives_no_older_lem : LivesHaveNoOlder
lives_no_older_lem is_frame c l sound valid = record {
  not_older = λ newer p lsn epoch earlier v w before r split has same bound old.
      older is_frame c l (followed_lives is_frame c sound l valid) p newer lsn epoch earlier v w before r split has same bound old;
}

-- of one life

pub one_primary_lem : RunsHaveOnePrimary
one_primary_lem is_frame c h sound valid =
    subst OnePrimary (run_one units c h) (lives_one_primary_lem is_frame c (one_life h) sound (valid_one units c is_frame h valid))

pub no_older_lem : RunsHaveNoOlder
no_older_lem is_frame c h sound valid =
    subst NoOlder (run_one units c h) (lives_no_older_lem is_frame c (one_life h) sound (valid_one units c is_frame h valid))
