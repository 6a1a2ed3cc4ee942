-- The end of the phase Prepare.
use Rattle.std.proofs.Common.{◌≡◌, ℕ, ◌<◌, Bool, true, false, List, [], ◌∷◌, Option, None, Some, Ok, Err, refl, sym, ap, ◌∙◌, subst, ◌⊎◌, inl, inr, ⊎_elim, arith}
use Rattle.std.proofs.lemmas.Bool.{both_ways}
use Rattle.std.specs.Prelude.{Result, if◌then◌else◌}
use Rattle.fabric_lemmas.specs.Members.{IsMember}
use Rattle.ring_points.specs.declared.unit.Config.{Config}
use Rattle.ring_points.specs.declared.unit.Epoch.{Epoch}
use Rattle.ring_points.specs.declared.who.Who.{Who}
use Rattle.epoch_machine.specs.Epochs.{number_of}
use Rattle.epoch_machine.specs.Evidence.{NotAbove, AnsweredTo, Carried}
use Rattle.epoch_machine.specs.Majorities.{MajorityOf}
use Rattle.epoch_machine.specs.Messages.{prepared_by}
use Rattle.epoch_machine.specs.Plans.{Plan, Attempt}
use Rattle.epoch_machine.specs.Settings.{Opens}
use Rattle.epoch_machine.specs.World.{World}
use Rattle.epoch_machine.specs.Deeds.{LeavesPrepare, Proposes}
use Rattle.epoch_machine.specs.Guards.{Can}
use Rattle.epoch_machine.specs.Effects.{after}
use Rattle.epoch_machine.specs.Invariant.{Invariant}
use Rattle.epoch_machine.proofs.Leaving.{fresh}
use Rattle.epoch_machine.proofs.Histories.{deed_keeps}
use Rattle.replica_place.specs.declared.load.NodeLoad.{NodeLoad}
use Rattle.replica_place.specs.declared.placement.TooFewDomains.{TooFewDomains}
use Rattle.replica_place.specs.Placement.{placement}
use Rattle.ring_rules.specs.Rising.{rising}
use Rattle.failover_units.specs.declared.refusal.UnitRefusal.{UnitRefusal}
use Rattle.failover_units.specs.declared.refusal.UnitRefusal.TheVariants as refusal
use Rattle.arbiter_quorum.specs.Votes.{no_votes}
use Rattle.unit_rules.specs.declared.reconfig.Kind.{Kind}
use Rattle.unit_rules.specs.declared.reconfig.Kind.TheVariants.{Create, Swap, Heal, Lose}
use Rattle.unit_rules.specs.Choices.{is_among, highest_done}
use Rattle.unit_rules.specs.Phases.{config_of}
use Rattle.unit_rules.specs.Polls.{arbiters_to, answers_in, is_carried}
use Rattle.unit_rules.specs.Reconfigs.{OriginLog, PreparePhase, Reconfig, Prepare, Phase0, Phase1, Decide, task_of}
use Rattle.unit_rules.specs.Transitions.{first_of, create_placed, heal_placed, prepared_as, is_refused, enters, proposes, asks_promises}
use Rattle.epoch_refinement.specs.Epochs.{IsEpoch, settings_to}
use Rattle.epoch_refinement.specs.Reconfigs.{is_create, is_lose, is_preparing, HasLeft, NoneAbove, ShowsPhase, ShowsTask, Went}
use Rattle.epoch_refinement.specs.Shown.{IsPlanOf, IsDone, ShownPrepared}
use Rattle.epoch_refinement.proofs.Asking.{to_reconfig, asks_shown, ShowsActed, still_went, went_map, still_none}
use Rattle.epoch_refinement.proofs.Choosing.{NotOver, IsSmall, highest_over}
use Rattle.epoch_refinement.proofs.Lasting.{deed_later, later_trans}
use Rattle.epoch_refinement.proofs.Polls.{asked_all, none_answered, answers_are, are_answers, carried_by}

not_above : (p : ℕ) (plan prev : Option Plan) (d o : Option Config) → IsDone p plan d → IsDone p prev o → NotOver d o → NotAbove plan prev
not_above p None prev d o a b h = tt
not_above p (Some r) prev None o a b h = absurd a
not_above p (Some r) None (Some d) None a b h = absurd h
not_above p (Some r) None (Some d) (Some q) a b h = absurd b
not_above p (Some r) (Some s) (Some d) None a b h = absurd b
not_above p (Some r) (Some s) (Some d) (Some q) a b h = let x = a.epoch in let y = b.epoch in let i = x.is in let j = y.is in omega arith

-- the plan of a create
abbrev new_plan : ℕ → Config → Plan
new_plan n config = record { epoch = n; primary = config.primary; members = config.members; origin = config.primary; base = [] }

module _ {k : ℕ} {w : World} (inv : Invariant (settings_to k) w) (p : ℕ) (x : Who) (h : Epoch) (n : ℕ) (q : PreparePhase) (t : ShowsTask k p n q.task)
    (shows : ShowsPhase w k p x n (Prepare q)) (me : 0 < x.instance) (carried : is_carried q.poll ≡ true) (below : NoneAbove w x n)
    (before : NoneAbove w x (number_of h)) where
  answer : (a : ℕ) (d : Option Config) → IsMember (a, d) (answers_in q.poll) → ShownPrepared w p a x q.task.epoch d
  answer a d m = shows.2 a d (answers_are q.poll a d m)

  all_small : (a : ℕ) (d : Option Config) → IsMember (a, d) (answers_in q.poll) → IsSmall d
  all_small a d m = let s = answer a d m in go s.plan d s.is
    where
      go : (r : Option Plan) (d : Option Config) → IsDone p r d → IsSmall d
      go r None h = tt
      go None (Some d) h = absurd h
      go (Some r) (Some d) h = let q = h.epoch in q.small

  number_is : (s : ℕ) → IsEpoch s q.task.epoch → s ≡ n
  number_is s e = let i = t.is in e.is ∙ sym i.is

  -- the plan of the highest answer, if there is one
  carried_plan : (o : Option Config) → highest_done (answers_in q.poll) ≡ o → (prev : Option Plan) × IsDone p prev o × Carried w.answers x n prev
  carried_plan None e = (None, tt, tt)
  carried_plan (Some c) e =
      let over = highest_over (answers_in q.poll) all_small in
      let m = over.2 c e in
      let s = answer m.0 (Some c) m.1 in
      go s.plan s.is m.0 (subst (λ k. IsMember (prepared_by m.0 x k s.plan) w.answers) (number_is s.epoch s.epoch_is) s.answered)
    where
      go : (r : Option Plan) → IsDone p r (Some c) → (a : ℕ) → IsMember (prepared_by a x n r) w.answers →
          (prev : Option Plan) × IsDone p prev (Some c) × Carried w.answers x n prev
      go None d a m = absurd d
      go (Some r) d a m = (Some r, d, (a, m))

  can_leave : (o : Option Config) → highest_done (answers_in q.poll) ≡ o → (prev : Option Plan) → IsDone p prev o → Carried w.answers x n prev →
      Can (settings_to k) w (LeavesPrepare (record { who = x; epoch = n; prev = prev }))
  can_leave o e prev d carry =
      let most = subst (λ ns. MajorityOf ns (AnsweredTo w.answers x n prev)) shows.1 (carried_by (AnsweredTo w.answers x n prev) q.poll each carried) in
      (t.some, shows.0, most, carry)
    where
      each : (a : ℕ) (c : Option Config) → IsMember (a, Some c) q.poll → AnsweredTo w.answers x n prev a
      each a c m =
          let s = shows.2 a c m in
          let over = highest_over (answers_in q.poll) all_small in record {
            done = s.plan;
            sent = subst (λ k. IsMember (prepared_by a x k s.plan) w.answers) (number_is s.epoch s.epoch_is) s.answered;
            not_above = not_above p s.plan prev c o s.is d (subst (NotOver c) e (over.1 a c (are_answers q.poll a c m)));
          }

  -- nothing was proposed for this epoch before
  none_before : (prev : Option Plan) → Can (settings_to k) w (LeavesPrepare (record { who = x; epoch = n; prev = prev })) → (r : Plan) → IsMember r w.plans →
      r.epoch ≡ n → ⊥
  none_before prev can r m same =
      let o = inv.plans.plan r m in fresh inv (record { who = x; epoch = n; prev = prev }) can o.attempt o.entered (o.epoch_is ∙ same)

  -- swap, heal and lose: what was done before is the configuration to go on from
  pub leaves : (old : Config) → highest_done (answers_in q.poll) ≡ Some old → Went k w x n (λ v. (plan : Plan) × IsPlanOf p plan old × HasLeft v x n plan)
  leaves old e = go (carried_plan (Some old) e)
    where
      with_plan : (o : Option Plan) → IsDone p o (Some old) → Can (settings_to k) w (LeavesPrepare (record { who = x; epoch = n; prev = o })) →
          Went k w x n (λ v. (plan : Plan) × IsPlanOf p plan old × HasLeft v x n plan)
      with_plan None d can = absurd d
      with_plan (Some r) d can = record {
        after = after w (LeavesPrepare (record { who = x; epoch = n; prev = Some r }));
        inv = deed_keeps inv (LeavesPrepare (record { who = x; epoch = n; prev = Some r })) can;
        later = deed_later w (LeavesPrepare (record { who = x; epoch = n; prev = Some r }));
        attempts = λ t m. ⊎_elim (λ i. inr (ap (λ (a : Attempt). a.who) i, ap (λ (a : Attempt). a.epoch) i)) (λ j. inl j) m;
        plans = λ q m. inl m;
        holds = (r, d, record { entered = inl refl; none = none_before (Some r) can });
        told = refl;
      }

      go : ((o : Option Plan) × IsDone p o (Some old) × Carried w.answers x n o) → Went k w x n (λ v. (plan : Plan) × IsPlanOf p plan old × HasLeft v x n plan)
      go r = with_plan r.0 r.1 (can_leave (Some old) e r.0 r.1 r.2)

  -- create: the configuration is proposed, with the empty log
  module _ (placed : List ℕ) (none : highest_done (answers_in q.poll) ≡ None) where
    abbrev config : Config
    config = config_of q.task (first_of placed) (rising placed)

    abbrev source : OriginLog
    source = record { origin = first_of placed; last = 0 }

    can : Can (settings_to k) w (LeavesPrepare (record { who = x; epoch = n; prev = None }))
    can = can_leave None none None tt tt

    abbrev left : World
    left = after w (LeavesPrepare (record { who = x; epoch = n; prev = None }))

    proposing : Can (settings_to k) left (Proposes (new_plan n config))
    proposing = (none_before None can, (record { who = x; epoch = n; prev = None }, inl refl, refl, refl))

    is_plan_of : IsPlanOf p (new_plan n config) config
    is_plan_of = record { partition = t.partition; epoch = t.is; primary = refl; members = refl }

    went : Went k w x n (λ v. ShowsPhase v k p x n (Decide (record { task = q.task; config = config; source = source; votes = no_votes q.task.arbitrators })))
    went = record {
      after = after left (Proposes (new_plan n config));
      inv = deed_keeps (deed_keeps inv (LeavesPrepare (record { who = x; epoch = n; prev = None })) can) (Proposes (new_plan n config)) proposing;
      later = later_trans (deed_later w (LeavesPrepare (record { who = x; epoch = n; prev = None }))) (deed_later left (Proposes (new_plan n config)));
      attempts = λ t m. ⊎_elim (λ i. inr (ap (λ (a : Attempt). a.who) i, ap (λ (a : Attempt). a.epoch) i)) (λ j. inl j) m;
      plans = λ q m. ⊎_elim (λ i. inr (ap (λ (a : Plan). a.epoch) i, record { prev = None; entered = inl refl })) (λ j. inl j) m;
      holds = (
        (
          new_plan n config,
          inl refl,
          record { is = is_plan_of; epoch_is = refl; origin_is = refl; last_is = refl; room = omega arith; created = λ e. (refl, refl) },
        ),
        t.arbitrators,
        refl,
        λ a v m. absurd m,
      );
      told = refl;
    }

    create_proposes : Went k w x n (ShowsActed k p x h n (proposes q.task config source))
    create_proposes =
        went_map went
        (λ s. (
          to_reconfig (Decide (record { task = q.task; config = config; source = source; votes = no_votes q.task.arbitrators })) t s (still_none went below)
              (λ e. absurd (cc (e))),
          asks_shown _ k p n x (Decide (record { task = q.task; config = config; source = source; votes = no_votes q.task.arbitrators })) me t s
              (arbiters_to q.task.arbitrators),
        ))

  -- it is refused, and nothing was done
  refused : (u : UnitRefusal) → Went k w x n (ShowsActed k p x h n (is_refused u))
  refused u = still_went inv (before, tt)

  -- it goes on in a phase that is entered from what was done
  goes_on : (old : Config) → highest_done (answers_in q.poll) ≡ Some old → (r : Reconfig) → ShowsTask k p n (task_of r) → is_preparing r ≡ false →
      (actors : List ℕ) →
      ((v : World) (plan : Plan) → IsPlanOf p plan old → HasLeft v x n plan → ShowsPhase v k p x n r) → Went k w x n (ShowsActed k p x h n (enters r actors))
  goes_on old e r task later actors phase =
      let g = leaves old e in
      went_map g
      (λ s. (
        to_reconfig r task (phase g.after s.0 s.1 s.2) (still_none g below) (λ b. absurd (both_ways (is_preparing r) later b)),
        asks_shown _ k p n x r me task (phase g.after s.0 s.1 s.2) actors,
      ))

  promises : is_create q.task.kind ≡ false → (members : List ℕ) (first : ℕ) (asked : List ℕ) (v : World) (plan : Plan) → HasLeft v x n plan →
      ((asked ≡ plan.members) ⊎ Opens (settings_to k) n) → ShowsPhase v k p x n (Phase1 (asks_promises q.task asked members first))
  promises kind members first asked v plan left which =
      ((plan, left, ⊎_elim (λ same. inl (asked_all _ asked ∙ same)) (λ opens. inr opens) which), kind, λ m s i. absurd (none_answered asked m s i))

  pub prepared_refines : (nodes : List NodeLoad) (kind : Kind) → q.task.kind ≡ kind → (o : Option Config) → highest_done (answers_in q.poll) ≡ o →
      Went k w x n (ShowsActed k p x h n (prepared_as nodes q.task kind o))
  prepared_refines nodes (Create count) same (Some old) e = refused refusal.Exists
  prepared_refines nodes (Create count) same None e = go (placement nodes count)
    where
      go : (r : Result (List ℕ) TooFewDomains) → Went k w x n (ShowsActed k p x h n (create_placed q.task r))
      go (Err few) = refused (refusal.TooFewDomains few.0)
      go (Ok placed) = create_proposes placed e
  prepared_refines nodes (Swap node) same (Some old) e = go (is_among node old.members)
    where
      go : (b : Bool) → Went k w x n (ShowsActed k p x h n
          (if b then enters (Phase0 (record { task = q.task; old = old; primary = node })) (old.primary ∷ []) else is_refused refusal.NotMember))
      go true = goes_on old e (Phase0 (record { task = q.task; old = old; primary = node })) t refl (old.primary ∷ []) (λ v plan is left. (
        (
          plan,
          is,
          left,
        ),
        ap is_create same,
      ))
      go false = refused refusal.NotMember
  prepared_refines nodes (Heal count) same (Some old) e = go (placement nodes count)
    where
      go : (r : Result (List ℕ) TooFewDomains) → Went k w x n (ShowsActed k p x h n (heal_placed q.task old r))
      go (Err few) = refused (refusal.TooFewDomains few.0)
      go (Ok placed) =
          goes_on old e (Phase1 (asks_promises q.task old.members (rising placed) (first_of placed))) t refl old.members
          (λ v plan is left. promises (ap is_create same) (rising placed) (first_of placed) old.members v plan left (inl (sym is.members)))
  prepared_refines nodes (Lose node) same (Some old) e =
      goes_on old e (Phase1 (asks_promises q.task (node ∷ []) (node ∷ []) node)) t refl (node ∷ [])
      (λ v plan is left. promises (ap is_create same) (node ∷ []) node (node ∷ []) v plan left (inr (t.opens (ap is_lose same))))
  prepared_refines nodes (Swap node) same None e = refused refusal.NoUnit
  prepared_refines nodes (Heal count) same None e = refused refusal.NoUnit
  prepared_refines nodes (Lose node) same None e = refused refusal.NoUnit
