-- The ends of the phases after the proposal: votes, copies, what is done, and roles.
use Rattle.std.proofs.Common.{◌≡◌, ℕ, ◌<◌, Bool, true, false, ◌&&◌, ◌==◌, List, [], ◌∷◌, Option, None, Some, Ok, Err, refl, sym, ap, ◌∙◌, subst, inl, arith}
use Rattle.std.proofs.lemmas.Bool.{eqb-true, and_parts}
use Rattle.std.specs.Prelude.{if◌then◌else◌, find, option_map, nat_eq}
use lib.Pointwise.{pointwise}
use Rattle.fabric_lemmas.specs.Members.{IsMember}
use Rattle.ring_points.specs.declared.unit.Config.{Config}
use Rattle.ring_points.specs.declared.unit.Epoch.{Epoch}
use Rattle.ring_points.specs.declared.who.Who.{Who}
use Rattle.ring_points.specs.Epochs.{same_epoch}
use Rattle.ring_points.specs.Whos.{arbiter_actor}
use Rattle.arbiter_quorum.specs.Counted.{count_given}
use Rattle.arbiter_quorum.specs.Tallies.{is_majority}
use Rattle.arbiter_quorum.specs.Votes.{VoteTally, same_config, has_majority, decided_of, verdict_by, one_may_win, vote_verdict_of}
use Rattle.epoch_machine.specs.Majorities.{MajorityOf}
use Rattle.epoch_machine.specs.Messages.{ballot_of, kept_by, adopted_by}
use Rattle.epoch_machine.specs.Plans.{Plan}
use Rattle.epoch_machine.specs.World.{World}
use Rattle.epoch_machine.specs.Deeds.{Syncs, AsksDone, Activates}
use Rattle.epoch_machine.specs.Effects.{after}
use Rattle.epoch_machine.specs.Invariant.{Invariant}
use Rattle.epoch_machine.proofs.Majorities.{meet, majority_map}
use Rattle.epoch_machine.proofs.Histories.{deed_keeps}
use Rattle.unit_rules.specs.declared.reconfig.Kind.{Kind}
use Rattle.unit_rules.specs.declared.reconfig.Kind.TheVariants.{Create, Swap, Heal, Lose}
use Rattle.unit_rules.specs.declared.reconfig.Task.{Task}
use Rattle.unit_rules.specs.Phases.{is_taken_up, voted_by, copied_with, done_with, activated_with}
use Rattle.unit_rules.specs.Polls.{poll_of, arbiters_to, is_carried, has_answered}
use Rattle.unit_rules.specs.Reconfigs.{OriginLog, VotePhase, CopyPhase, DonePhase, ActivatePhase, Decide, Phase2, Phase3, Phase4}
use Rattle.unit_rules.specs.Transitions.{source_by, copies, after_vote, stores, after_copy, activates, after_done, after_activate}
use Rattle.epoch_refinement.specs.Epochs.{IsEpoch, settings_to}
use Rattle.epoch_refinement.specs.Reconfigs.{is_create, NoneAbove, ShowsPlan, ShowsPhase, ShowsTask, Went}
use Rattle.epoch_refinement.specs.Shown.{IsPlanOf, ShownVoted}
use Rattle.epoch_refinement.proofs.Asking.{to_reconfig, asks_shown, ShowsActed, still_went, went_map, still_none}
use Rattle.epoch_refinement.proofs.Lasting.{deed_later}
use Rattle.epoch_refinement.proofs.Numbers.{same_epoch-true}
use Rattle.epoch_refinement.proofs.Polls.{asked_all, none_answered, carried_by, given_by}
use Rattle.epoch_refinement.proofs.Registering.{found_in}

same_numbers : (xs ys : List ℕ) → pointwise nat_eq xs ys ≡ true → xs ≡ ys
same_numbers [] [] h = refl
same_numbers [] (y ∷ ys) h = absurd (cc (h))
same_numbers (x ∷ xs) [] h = absurd (cc (h))
same_numbers (x ∷ xs) (y ∷ ys) h =
    let parts = and_parts (nat_eq x y) (pointwise nat_eq xs ys) h in
    let a = eqb-true x y parts.0 in let b = same_numbers xs ys parts.1 in λ i. a i ∷ b i

-- configurations that are the same in every field are one
same_config-true : (c d : Config) → same_config c d ≡ true → c ≡ d
same_config-true c d h =
    let a = and_parts ((c.partition == d.partition && same_epoch c.epoch d.epoch) && c.primary == d.primary) (pointwise nat_eq c.members d.members) h in
    let b = and_parts (c.partition == d.partition && same_epoch c.epoch d.epoch) (c.primary == d.primary) a.0 in
    let e = and_parts (c.partition == d.partition) (same_epoch c.epoch d.epoch) b.0 in
    let f = eqb-true c.partition d.partition e.0 in
    let g = same_epoch-true c.epoch d.epoch e.1 in
    let j = eqb-true c.primary d.primary b.1 in
    let l = same_numbers c.members d.members a.1 in
    λ i. record { partition = f i; epoch = g i; primary = j i; members = l i }

-- what is decided has a majority
decided_by : (t : VoteTally) (c : Config) → decided_of t ≡ Some c → has_majority t c ≡ true
decided_by t c h = go (find (λ answer. has_majority t answer.1) t.answers) refl h
  where
    go : (o : Option (ℕ × Config)) → find (λ answer. has_majority t answer.1) t.answers ≡ o → option_map (λ answer. answer.1) o ≡ Some c →
        has_majority t c ≡ true
    go None e h = absurd (cc (h))
    go (Some a) e h =
        let same : a.1 ≡ c = cc in
        subst (λ z. has_majority t z ≡ true) same (found_in (λ answer. has_majority t answer.1) t.answers a e).1

module _ {k : ℕ} {w : World} (inv : Invariant (settings_to k) w) (p : ℕ) (x : Who) (h : Epoch) (n : ℕ) (me : 0 < x.instance) (below : NoneAbove w x n) where
  -- a majority kept this configuration
  module _ (q : VotePhase) (t : ShowsTask k p n q.task) (shows : ShowsPhase w k p x n (Decide q)) (config : Config)
      (decided : decided_of q.votes ≡ Some config) where
    abbrev plan : Plan
    plan = shows.0.0

    one : (a : ℕ) (v : Config) → IsMember (a, v) q.votes.answers → (s : ShownVoted w p (arbiter_actor a) v) → s.plan ≡ plan
    one a v m s =
        let e1 = s.is.epoch in let e2 = (shows.3 a v m).1 in let f = shows.0.2 in
        inv.plans.once s.plan plan (inv.plans.ballot (ballot_of s.plan (arbiter_actor a)) s.voted) shows.0.1 (e1.is ∙ sym e2.is ∙ sym f.epoch_is)

    record Ballot (actor : ℕ) : Type 0 where
      voted : IsMember (ballot_of plan actor) w.ballots
      is : IsPlanOf p plan config

    ballots : MajorityOf (arbiters_to k) Ballot
    ballots =
        given_by (same_config config) Ballot k q.votes.answers shows.2 each
        (subst (λ z. is_majority z (count_given (same_config config) q.votes.answers) ≡ true) shows.1 (decided_by q.votes config decided))
      where
        each : (a : ℕ) (v : Config) → IsMember (a, v) q.votes.answers → same_config config v ≡ true → Ballot (arbiter_actor a)
        each a v m same =
            let s = (shows.3 a v m).0 in
            let which = one a v m s in record {
              voted = subst (λ q. IsMember (ballot_of q (arbiter_actor a)) w.ballots) which s.voted;
              is = subst (λ (z : Plan × Config). IsPlanOf p z.0 z.1) (λ i. (which i, sym (same_config-true config v same) i)) s.is;
            }

    same_plan : IsPlanOf p plan config
    same_plan = let a = meet (arbiters_to k) ballots ballots in let b = a.1 in b.is

    abbrev source : OriginLog
    source = source_by q.task.kind config q.source

    -- of a create the log is none, and the primary's
    sourced : ShowsPlan p plan n q.task.kind config source
    sourced = go q.task.kind refl
      where
        f : ShowsPlan p plan n q.task.kind q.config q.source
        f = shows.0.2

        as_it_is : ShowsPlan p plan n q.task.kind config q.source
        as_it_is = record { is = same_plan; epoch_is = f.epoch_is; origin_is = f.origin_is; last_is = f.last_is; room = f.room; created = f.created }

        go : (kind : Kind) → q.task.kind ≡ kind → ShowsPlan p plan n q.task.kind config (source_by kind config q.source)
        go (Create count) e =
            let made = f.created (ap is_create e) in
            let s = same_plan in record {
              is = same_plan;
              epoch_is = f.epoch_is;
              origin_is = made.0 ∙ s.primary;
              last_is = made.1;
              room = omega arith;
              created = f.created;
            }
        go (Swap node) e = as_it_is
        go (Heal count) e = as_it_is
        go (Lose node) e = as_it_is

    abbrev next : CopyPhase
    next = record { task = q.task; config = config; source = source; poll = poll_of config.members }

    went : Went k w x n (λ v. ShowsPhase v k p x n (Phase2 next))
    went = record {
      after = after w (Syncs plan);
      inv = deed_keeps inv (Syncs plan) (shows.0.1, majority_map (arbiters_to k) (λ a (b : Ballot a). b.voted) ballots);
      later = deed_later w (Syncs plan);
      attempts = λ t m. inl m;
      plans = λ q m. inl m;
      holds = ((plan, inl refl, sourced), asked_all _ config.members, λ m i. absurd (none_answered config.members m tt i));
      told = refl;
    }

    pub votes_end : Went k w x n (ShowsActed k p x h n (copies q.task config source))
    votes_end =
        went_map went
        (λ s. (to_reconfig (Phase2 next) t s (still_none went below) (λ e. absurd (cc (e))), asks_shown _ k p n x (Phase2 next) me t s config.members))

  -- the votes so far, with this one
  pub voted_refines : (old : VotePhase) (votes : VoteTally) (t : ShowsTask k p n old.task) → ShowsPhase w k p x n (Decide (record old { votes = votes })) →
      Went k w x n (ShowsActed k p x h n (after_vote old (voted_by (record old { votes = votes }) (vote_verdict_of votes))))
  voted_refines old votes t shows = go (decided_of votes) refl (one_may_win votes)
    where
      q : VotePhase
      q = record old { votes = votes }

      go : (o : Option Config) → decided_of votes ≡ o → (b : Bool) →
          Went k w x n (ShowsActed k p x h n (after_vote old (voted_by (record old { votes = votes }) (verdict_by o b))))
      go (Some config) e b = votes_end q t shows config e
      go None e true = still_went inv (to_reconfig (Decide q) t shows below (λ e. absurd (cc (e))), tt)
      go None e false = still_went inv ((let i = t.is in i.small, (let i = t.is in let j = i.is in omega arith), below), tt)

  -- a majority of the members adopted
  pub copied_refines : (old q : CopyPhase) (t : ShowsTask k p n q.task) → old.task ≡ q.task → old.config ≡ q.config → ShowsPhase w k p x n (Phase2 q) →
      Went k w x n (ShowsActed k p x h n (after_copy old (copied_with q)))
  copied_refines old q t same_task same_config shows = go (is_taken_up q.config q.poll) refl
    where
      members : is_carried q.poll ≡ true → MajorityOf shows.0.0.members (λ m. IsMember (adopted_by shows.0.0.epoch m) w.adopted)
      members e =
          let f = shows.0.2 in let g = f.is in
          subst (λ (z : List ℕ × ℕ). MajorityOf z.0 (λ m. IsMember (adopted_by z.1 m) w.adopted)) (λ i. ((shows.1 ∙ sym g.members) i, sym f.epoch_is i))
          (carried_by (λ m. IsMember (adopted_by n m) w.adopted) q.poll (λ m u i. shows.2 m i) e)

      went : is_carried q.poll ≡ true →
          Went k w x n (λ v. ShowsPhase v k p x n (Phase3 (record { task = q.task; config = q.config; poll = poll_of (arbiters_to q.task.arbitrators) })))
      went e = record {
        after = after w (AsksDone shows.0.0);
        inv = deed_keeps inv (AsksDone shows.0.0) (shows.0.1, members e);
        later = deed_later w (AsksDone shows.0.0);
        attempts = λ t m. inl m;
        plans = λ q m. inl m;
        holds = (
          record { plan = shows.0.0; asked = inl refl; is = (let f = shows.0.2 in f.is) },
          (let f = shows.0.2 in let g = f.is in subst (λ k. IsEpoch k q.config.epoch) f.epoch_is g.epoch),
          asked_all _ (arbiters_to q.task.arbitrators) ∙ ap arbiters_to t.arbitrators,
          λ a i. absurd (none_answered (arbiters_to q.task.arbitrators) a tt i),
        );
        told = refl;
      }

      go : (b : Bool) → is_taken_up q.config q.poll ≡ b → Went k w x n (ShowsActed k p x h n (after_copy old (if b then Ok tt else Err q)))
      go true e =
          subst (λ (z : Task × Config). Went k w x n (ShowsActed k p x h n (stores z.0 z.1))) (λ i. (sym same_task i, sym same_config i)) (
          let g = went (and_parts (has_answered q.config.primary q.poll) (is_carried q.poll) e).1 in
          went_map g
          (λ s. (
            to_reconfig (Phase3 (record { task = q.task; config = q.config; poll = poll_of (arbiters_to q.task.arbitrators) })) t s (still_none g below)
                (λ e. absurd (cc (e))),
            asks_shown _ k p n x (Phase3 (record { task = q.task; config = q.config; poll = poll_of (arbiters_to q.task.arbitrators) })) me t s
                (arbiters_to q.task.arbitrators),
          )))
      go false e = still_went inv (to_reconfig (Phase2 q) t shows below (λ e. absurd (cc (e))), tt)

  -- a majority of the arbitrators keeps it as done
  pub done_refines : (old q : DonePhase) (t : ShowsTask k p n q.task) → old.task ≡ q.task → old.config ≡ q.config → ShowsPhase w k p x n (Phase3 q) →
      Went k w x n (ShowsActed k p x h n (after_done old (done_with q)))
  done_refines old q t same_task same_config shows = go (is_carried q.poll) refl
    where
      arbiters : is_carried q.poll ≡ true → MajorityOf (arbiters_to k) (λ a. IsMember (kept_by shows.0.plan.epoch a) w.kept)
      arbiters e =
          let g = shows.0 in let j = g.is.epoch in let i = shows.1 in
          subst (λ (z : List ℕ × ℕ). MajorityOf z.0 (λ a. IsMember (kept_by z.1 a) w.kept)) (λ l. (shows.2 l, (i.is ∙ sym j.is) l))
          (carried_by (λ a. IsMember (kept_by n a) w.kept) q.poll (λ a u m. shows.3 a m) e)

      went : is_carried q.poll ≡ true →
          Went k w x n (λ v. ShowsPhase v k p x n (Phase4 (record { task = q.task; config = q.config; poll = poll_of q.config.members })))
      went e = record {
        after = after w (Activates shows.0.plan);
        inv = deed_keeps inv (Activates shows.0.plan) (shows.0.asked, arbiters e);
        later = deed_later w (Activates shows.0.plan);
        attempts = λ t m. inl m;
        plans = λ q m. inl m;
        holds = (record { plan = shows.0.plan; activated = inl refl; is = shows.0.is }, shows.1);
        told = refl;
      }

      go : (b : Bool) → is_carried q.poll ≡ b → Went k w x n (ShowsActed k p x h n (after_done old (if b then Ok tt else Err q)))
      go true e =
          subst (λ (z : Task × Config). Went k w x n (ShowsActed k p x h n (activates z.0 z.1))) (λ i. (sym same_task i, sym same_config i)) (
          let g = went e in
          went_map g
          (λ s. (
            to_reconfig (Phase4 (record { task = q.task; config = q.config; poll = poll_of q.config.members })) t s (still_none g below) (λ e. absurd (cc (e))),
            asks_shown _ k p n x (Phase4 (record { task = q.task; config = q.config; poll = poll_of q.config.members })) me t s q.config.members,
          )))
      go false e = still_went inv (to_reconfig (Phase3 q) t shows below (λ e. absurd (cc (e))), tt)

  -- a majority of the members has its roles
  pub activated_refines : (old q : ActivatePhase) (t : ShowsTask k p n q.task) → old.config ≡ q.config → ShowsPhase w k p x n (Phase4 q) →
      Went k w x n (ShowsActed k p x h n (after_activate old (activated_with q)))
  activated_refines old q t same_config shows = go (is_taken_up q.config q.poll)
    where
      go : (b : Bool) → Went k w x n (ShowsActed k p x h n (after_activate old (if b then Ok tt else Err q)))
      go true =
          still_went inv (
            subst (λ (c : Config). (c.partition ≡ p) × IsEpoch n c.epoch × NoneAbove w x n) (sym same_config) (
              let i = shows.0.is in i.partition,
              shows.1,
              below,
            ),
            tt,
          )
      go false = still_went inv (to_reconfig (Phase4 q) t shows below (λ e. absurd (cc (e))), tt)
