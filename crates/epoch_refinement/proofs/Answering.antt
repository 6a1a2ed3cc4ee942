-- An answer to a reconfiguration, in each of its phases.
use Rattle.std.proofs.Common.{◌≡◌, ℕ, ◌-◌, ◌<◌, ◌≤◌, Bool, true, false, ◌==◌, nat_lt, nat_le, List, Option, Some, Ok, Err, refl, sym, ap, ◌∙◌, subst, inl, inr, ⊎_elim, arith}
use Rattle.std.proofs.lemmas.Bool.{eqb-true, ltb-true, leb-true, and_parts}
use Rattle.std.specs.Prelude.{if◌then◌else◌}
use Rattle.fabric_lemmas.specs.Members.{IsMember}
use Rattle.ring_points.specs.declared.unit.Config.{Config}
use Rattle.ring_points.specs.declared.unit.Epoch.{Epoch}
use Rattle.ring_points.specs.declared.who.Who.{Who}
use Rattle.ring_points.specs.Epochs.{is_older, same_epoch}
use Rattle.ring_points.specs.Whos.{arbiter_actor}
use Rattle.arbiter_quorum.specs.Votes.{vote_noted, vote_verdict_of}
use Rattle.fabric_terms.specs.declared.message.Body.{Body}
use Rattle.fabric_terms.specs.declared.message.Body.TheVariants as body
use Rattle.epoch_machine.specs.Epochs.{number_of}
use Rattle.epoch_machine.specs.Messages.{adopted_by, kept_by}
use Rattle.epoch_machine.specs.World.{World}
use Rattle.epoch_machine.specs.Invariant.{Invariant}
use Rattle.replica_place.specs.declared.load.NodeLoad.{NodeLoad}
use Rattle.unit_rules.specs.declared.reconfig.Standing.{Standing}
use Rattle.unit_rules.specs.Choices.{highest_done}
use Rattle.unit_rules.specs.Phases.{is_arbiter_to, prepare_ends, swap_ends, promise_ends, vote_ends, copy_ends, done_ends, activate_ends, voted_by}
use Rattle.unit_rules.specs.Polls.{poll_of, answered, answers_in, is_carried}
use Rattle.unit_rules.specs.Reconfigs.{PreparePhase, SwapPhase, PromisePhase, VotePhase, CopyPhase, DonePhase, ActivatePhase, Reconfig, Prepare, Phase0, Phase1, Decide, Phase2, Phase3, Phase4, task_of}
use Rattle.unit_rules.specs.Transitions.{stays, enters, asks_promises, after_prepare, after_promise, after_swap, after_vote, after_copy, after_done, after_activate, goes_on, carried, answered_by, answer_received}
use Rattle.unit_rules.specs.Deeds.{still}
use Rattle.unit_rules.specs.Reconfigs.{Superseded}
use Rattle.epoch_refinement.specs.Epochs.{IsEpoch, settings_to}
use Rattle.epoch_refinement.specs.Reconfigs.{is_preparing, NoneAbove, ShowsPhase, ShowsReconfig, ShowsTask, IsAnswerOf, Went}
use Rattle.epoch_refinement.specs.Shown.{Shown, ShownPrepared, ShownPromised, ShownVoted}
use Rattle.epoch_refinement.proofs.Asking.{to_reconfig, task_shown, asks_shown, ShowsActed, still_went}
use Rattle.epoch_refinement.proofs.Preparing.{prepared_refines}
use Rattle.epoch_refinement.proofs.Proposing.{promises_end}
use Rattle.epoch_refinement.proofs.Deciding.{voted_refines, copied_refines, done_refines, activated_refines}
use Rattle.epoch_refinement.proofs.Numbers.{number_older_not, same_epoch-true}
use Rattle.epoch_refinement.proofs.Polls.{asked_all, none_answered, asked_still, answered_in, with_answer_in, still_counted}

-- numbers of one epoch
one_number : {n : ℕ} {e d : Epoch} (m : ℕ) → IsEpoch m d → IsEpoch n e → d ≡ e → m ≡ n
one_number m i j same = i.is ∙ ap number_of same ∙ sym j.is

module _ {k : ℕ} {w : World} (inv : Invariant (settings_to k) w) (p : ℕ) (x : Who) (h : Epoch) (n : ℕ) (me : 0 < x.instance) (below : NoneAbove w x n)
    (nodes : List NodeLoad) (from : Who) where
  stays_went : (r : Reconfig) → ShowsTask k p n (task_of r) → ShowsPhase w k p x n r → (is_preparing r ≡ true → NoneAbove w x (number_of h)) →
      Went k w x n (ShowsActed k p x h n (stays r))
  stays_went r t s before = still_went inv (to_reconfig r t s below before, tt)

  prepare_answered : (q : PreparePhase) → ShowsTask k p n q.task → ShowsPhase w k p x n (Prepare q) → NoneAbove w x (number_of h) → (b : Body) →
      IsAnswerOf q.task.epoch b → Shown w p from x b → Went k w x n (ShowsActed k p x h n (after_prepare nodes q.task (prepare_ends from.actor b q)))
  unfolding prepare_ends
  prepare_answered q t s before (body.Prepared r e old) of shown = go (is_carried (answered from.actor old q.poll)) refl
    where
      next : PreparePhase
      next = record q { poll = answered from.actor old q.poll }

      phase : ShowsPhase w k p x n (Prepare (record q { poll = answered from.actor old q.poll }))
      phase = (
        s.0,
        asked_still from.actor old q.poll ∙ s.1,
        λ a d m. ⊎_elim (s.2 a d)
            (λ i. subst (λ (z : ℕ × Option Config). ShownPrepared w p z.0 x q.task.epoch z.1) (λ l. (sym i.0 l, sym i.1 l))
            (subst (λ z. ShownPrepared w p from.actor x z old) of shown))
            (answered_in from.actor old q.poll a d m),
      )

      go : (b : Bool) → is_carried (answered from.actor old q.poll) ≡ b → Went k w x n (ShowsActed k p x h n (after_prepare nodes q.task
          (if b then Ok (highest_done (answers_in (answered from.actor old q.poll))) else Err (record q { poll = answered from.actor old q.poll }))))
      go true i =
          prepared_refines inv p x h n (record q { poll = answered from.actor old q.poll }) t phase me i below before nodes q.task.kind refl
          (highest_done (answers_in (answered from.actor old q.poll))) refl
      go false i = stays_went (Prepare (record q { poll = answered from.actor old q.poll })) t phase (λ u. before)
  prepare_answered q t s before b of shown = stays_went (Prepare q) t s (λ u. before)

  -- a promise of the task's epoch
  promise_noted : (q : PromisePhase) → ShowsTask k p n q.task → ShowsPhase w k p x n (Phase1 q) → (actor : ℕ) (z : Standing) →
      ShownPromised w actor q.task.epoch z.at z.last → ShowsPhase w k p x n (Phase1 (record q { poll = answered actor z q.poll }))
  promise_noted q t s actor z shown = (
    (s.0.0, s.0.1, ⊎_elim (λ same. inl (asked_still actor z q.poll ∙ same)) (λ opens. inr opens) s.0.2),
    s.1,
    λ a d m. ⊎_elim (s.2 a d)
        (λ i. subst (λ (y : ℕ × Standing). ShownPromised w y.0 q.task.epoch (let g : Standing = y.1 in g.at) (let g : Standing = y.1 in g.last))
        (λ l. (sym i.0 l, sym i.1 l)) shown)
        (answered_in actor z q.poll a d m),
  )

  swap_answered : (q : SwapPhase) → ShowsTask k p n q.task → ShowsPhase w k p x n (Phase0 q) → (b : Body) → IsAnswerOf q.task.epoch b → Shown w p from x b →
      Went k w x n (ShowsActed k p x h n (after_swap q (swap_ends from.actor b q)))
  unfolding swap_ends
  swap_answered q t s (body.Promised r e at last) of shown = go (from.actor == q.old.primary) refl
    where
      asked : PromisePhase
      asked = asks_promises q.task q.old.members q.old.members q.primary

      first : ShowsPhase w k p x n (Phase1 (asks_promises q.task q.old.members q.old.members q.primary))
      first = (
        (s.0.0, s.0.2, inl (asked_all _ q.old.members ∙ (let i = s.0.1 in sym i.members))),
        s.1,
        λ m z i. absurd (none_answered q.old.members m z i),
      )

      go : (b : Bool) → (from.actor == q.old.primary) ≡ b → Went k w x n (ShowsActed k p x h n (after_swap q (if b then Ok (record {
        at = at;
        last = last;
      }) else Err q)))
      go true i =
          let standing : Standing = record { at = at; last = last } in
          let phase = promise_noted (asks_promises q.task q.old.members q.old.members q.primary) t first q.old.primary (record { at = at; last = last })
          (subst (λ (z : ℕ × Epoch). ShownPromised w z.0 z.1 at last) (λ l. (eqb-true from.actor q.old.primary i l, of l)) shown) in
          promises_end inv p x h n
          (record (asks_promises q.task q.old.members q.old.members q.primary) {
            poll = answered q.old.primary (record { at = at; last = last })
                (poll_of q.old.members);
          })
          t phase me below (λ r. enters r q.old.members)
          (still_went inv (
            to_reconfig (Phase1 (record (asks_promises q.task q.old.members q.old.members q.primary) {
              poll = answered q.old.primary (record {
                at = at;
                last = last;
              }) (poll_of q.old.members);
            }))
                t phase below (λ u. absurd (cc (u))),
            asks_shown w k p n x
                (Phase1 (record (asks_promises q.task q.old.members q.old.members q.primary) {
                  poll = answered q.old.primary (record {
                    at = at;
                    last = last;
                  }) (poll_of q.old.members);
                }))
                me t phase q.old.members,
          ))
      go false i = stays_went (Phase0 q) t s (λ u. absurd (cc (u)))
  swap_answered q t s b of shown = stays_went (Phase0 q) t s (λ u. absurd (cc (u)))

  promise_answered : (q : PromisePhase) → ShowsTask k p n q.task → ShowsPhase w k p x n (Phase1 q) → (b : Body) → IsAnswerOf q.task.epoch b →
      Shown w p from x b → Went k w x n (ShowsActed k p x h n (after_promise q.task stays (promise_ends from.actor b q)))
  unfolding promise_ends
  promise_answered q t s (body.Promised r e at last) of shown =
      let phase = promise_noted q t s from.actor (record { at = at; last = last }) (subst (λ z. ShownPromised w from.actor z at last) of shown) in
      promises_end inv p x h n (record q { poll = answered from.actor (record { at = at; last = last }) q.poll }) t phase me below stays
      (stays_went (Phase1 (record q { poll = answered from.actor (record { at = at; last = last }) q.poll })) t phase (λ u. absurd (cc (u))))
  promise_answered q t s b of shown = stays_went (Phase1 q) t s (λ u. absurd (cc (u)))

  vote_answered : (q : VotePhase) → ShowsTask k p n q.task → ShowsPhase w k p x n (Decide q) → (b : Body) → IsAnswerOf q.task.epoch b → Shown w p from x b →
      Went k w x n (ShowsActed k p x h n (after_vote q (vote_ends from.actor b q)))
  unfolding vote_ends
  vote_answered q t s (body.Voted r e first) of shown = go (is_arbiter_to q.votes.arbitrators from.actor) refl
    where
      a : ℕ
      a = from.actor - arbiter_actor 0

      go : (b : Bool) → is_arbiter_to q.votes.arbitrators from.actor ≡ b → Went k w x n (ShowsActed k p x h n (after_vote q
          (if b then voted_by (record q { votes = vote_noted q.votes (from.actor - arbiter_actor 0) first })
          (vote_verdict_of (vote_noted q.votes (from.actor - arbiter_actor 0) first)) else Err q)))
      go true i =
          let parts = and_parts (nat_lt (arbiter_actor 0) from.actor) (nat_le from.actor (arbiter_actor q.votes.arbitrators)) i in
          let lt = ltb-true (arbiter_actor 0) from.actor parts.0 in
          let le = leb-true from.actor (arbiter_actor q.votes.arbitrators) parts.1 in
          let many = s.1 in
          let some : 1 ≤ from.actor - arbiter_actor 0 = omega arith in
          let few : from.actor - arbiter_actor 0 ≤ k = omega arith in
          let number : from.actor ≡ arbiter_actor (from.actor - arbiter_actor 0) = omega arith in
          voted_refines inv p x h n me below q (vote_noted q.votes (from.actor - arbiter_actor 0) first) t (
            s.0,
            s.1,
            still_counted k (from.actor - arbiter_actor 0) first some few q.votes.answers s.2,
            λ b v m. ⊎_elim (s.3 b v)
                (λ j. subst (λ (z : ℕ × Config). ShownVoted w p (arbiter_actor z.0) z.1 × IsEpoch n (let g : Config = z.1 in g.epoch))
                (λ l. (sym j.0 l, sym j.1 l))
                (subst (λ z. ShownVoted w p z first) number shown.0, subst (IsEpoch n) (sym (shown.1 ∙ of)) (let i = t.is in i)))
                (with_answer_in k (from.actor - arbiter_actor 0) first some few q.votes.answers b v m),
          )
      go false i = stays_went (Decide q) t s (λ u. absurd (cc (u)))
  vote_answered q t s b of shown = stays_went (Decide q) t s (λ u. absurd (cc (u)))

  copy_answered : (q : CopyPhase) → ShowsTask k p n q.task → ShowsPhase w k p x n (Phase2 q) → (b : Body) → IsAnswerOf q.task.epoch b → Shown w p from x b →
      Went k w x n (ShowsActed k p x h n (after_copy q (copy_ends from.actor b q)))
  unfolding copy_ends
  copy_answered q t s (body.Adopted r e last) of shown =
      copied_refines inv p x h n me below q (record q { poll = answered from.actor tt q.poll }) t refl refl (
        s.0,
        asked_still from.actor tt q.poll ∙ s.1,
        λ m i. ⊎_elim (s.2 m)
            (λ j. subst (λ (z : ℕ × ℕ). IsMember (adopted_by z.0 z.1) w.adopted) (λ l. (one_number shown.0 shown.1 t.is of l, sym j.0 l)) shown.2)
            (answered_in from.actor tt q.poll m tt i),
      )
  copy_answered q t s b of shown = stays_went (Phase2 q) t s (λ u. absurd (cc (u)))

  done_answered : (q : DonePhase) → ShowsTask k p n q.task → ShowsPhase w k p x n (Phase3 q) → (b : Body) → IsAnswerOf q.task.epoch b → Shown w p from x b →
      Went k w x n (ShowsActed k p x h n (after_done q (done_ends from.actor b q)))
  unfolding done_ends
  done_answered q t s (body.DoneKept r e) of shown =
      done_refines inv p x h n me below q (record q { poll = answered from.actor tt q.poll }) t refl refl (
        s.0,
        s.1,
        asked_still from.actor tt q.poll ∙ s.2,
        λ a i. ⊎_elim (s.3 a)
            (λ j. subst (λ (z : ℕ × ℕ). IsMember (kept_by z.0 z.1) w.kept) (λ l. (one_number shown.0 shown.1 t.is of l, sym j.0 l)) shown.2)
            (answered_in from.actor tt q.poll a tt i),
      )
  done_answered q t s b of shown = stays_went (Phase3 q) t s (λ u. absurd (cc (u)))

  activate_answered : (q : ActivatePhase) → ShowsTask k p n q.task → ShowsPhase w k p x n (Phase4 q) → (b : Body) →
      Went k w x n (ShowsActed k p x h n (after_activate q (activate_ends from.actor b q)))
  unfolding activate_ends
  activate_answered q t s (body.Activated r e) =
      activated_refines inv p x h n me below q (record q { poll = answered from.actor tt q.poll }) t refl s
  activate_answered q t s b = stays_went (Phase4 q) t s (λ u. absurd (cc (u)))

  goes_refines : (r : Reconfig) → ShowsTask k p n (task_of r) → ShowsPhase w k p x n r → (is_preparing r ≡ true → NoneAbove w x (number_of h)) →
      (b : Body) → IsAnswerOf (task_of r).epoch b → Shown w p from x b → Went k w x n (ShowsActed k p x h n (goes_on nodes from.actor b r))
  goes_refines (Prepare q) t s before b of shown = prepare_answered q t s (before refl) b of shown
  goes_refines (Phase0 q) t s before b of shown = swap_answered q t s b of shown
  goes_refines (Phase1 q) t s before b of shown = promise_answered q t s b of shown
  goes_refines (Decide q) t s before b of shown = vote_answered q t s b of shown
  goes_refines (Phase2 q) t s before b of shown = copy_answered q t s b of shown
  goes_refines (Phase3 q) t s before b of shown = done_answered q t s b of shown
  goes_refines (Phase4 q) t s before b of shown = activate_answered q t s b

  -- a kept epoch that is not below the own one supersedes it
  superseded : (r : Reconfig) → ShowsTask k p n (task_of r) → ShowsPhase w k p x n r → (is_preparing r ≡ true → NoneAbove w x (number_of h)) →
      (b : Body) (kept : Epoch) → kept.configuration < 4294967296 → Went k w x n (ShowsActed k p x h n (answered_by nodes from.actor b r (Some kept)))
  superseded r t s before b kept small = go (is_older kept (task_of r).epoch) refl
    where
      go : (o : Bool) → is_older kept (task_of r).epoch ≡ o → Went k w x n (ShowsActed k p x h n (if o then stays r else still (Superseded kept)))
      go true i = stays_went r t s before
      go false i =
          let j = t.is in
          still_went inv ((small, number_older_not kept (task_of r).epoch (record { small = small; is = refl }) j.number i, below), tt)

  by_body : (r : Reconfig) → ShowsTask k p n (task_of r) → ShowsPhase w k p x n r → (is_preparing r ≡ true → NoneAbove w x (number_of h)) →
      (b : Body) → IsAnswerOf (task_of r).epoch b → Shown w p from x b → Went k w x n (ShowsActed k p x h n (answered_by nodes from.actor b r (carried b)))
  by_body r t s before (body.NoPrepare y e kept) of shown = superseded r t s before (body.NoPrepare y e kept) kept shown
  by_body r t s before (body.NoVote y e kept) of shown = superseded r t s before (body.NoVote y e kept) kept shown
  by_body r t s before (body.NoDone y e kept) of shown = superseded r t s before (body.NoDone y e kept) kept shown
  by_body r t s before (body.Older y e kept) of shown = superseded r t s before (body.Older y e kept) kept shown
  by_body r t s before b of shown = goes_refines r t s before b of shown

-- an answer of an epoch to a standing reconfiguration
pub answer_refines : {k : ℕ} {w : World} (inv : Invariant (settings_to k) w) (p : ℕ) (x : Who) (h : Epoch) (nodes : List NodeLoad) (from : Who) (r : Reconfig) →
    0 < x.instance → (s : ShowsReconfig w k p x h r) → (e : Epoch) (b : Body) → IsAnswerOf e b → Shown w p from x b →
    Went k w x s.number (ShowsActed k p x h s.number (answer_received nodes from.actor e b r))
unfolding answer_received
answer_refines {k = k} {w = w} inv p x h nodes from r me s e b of shown = go (same_epoch e (task_of r).epoch) refl
  where
    go : (same : Bool) → same_epoch e (task_of r).epoch ≡ same →
        Went k w x s.number (ShowsActed k p x h s.number (if same then answered_by nodes from.actor b r (carried b) else stays r))
    go true i =
        by_body inv p x h s.number me s.below nodes from r (task_shown s) s.phase s.before b
        (subst (λ z. IsAnswerOf z b) (same_epoch-true e (task_of r).epoch i) of) shown
    go false i = stays_went inv p x h s.number me s.below nodes from r (task_shown s) s.phase s.before
