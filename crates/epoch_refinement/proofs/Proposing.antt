-- The ends of phases 0 and 1.
use Rattle.std.proofs.Common.{◌≡◌, ℕ, ◌<◌, Bool, true, false, length, Option, None, Some, Err, refl, sym, ap, ◌∙◌, subst, inl, inr, ⊎_elim}
use Rattle.std.proofs.lemmas.Bool.{both_ways}
use Rattle.std.specs.Prelude.{if◌then◌else◌}
use Rattle.fabric_lemmas.specs.Members.{IsMember}
use Rattle.ring_points.specs.declared.unit.Config.{Config}
use Rattle.ring_points.specs.declared.unit.Epoch.{Epoch}
use Rattle.ring_points.specs.declared.who.Who.{Who}
use Rattle.arbiter_quorum.specs.Votes.{no_votes}
use Rattle.epoch_machine.specs.Epochs.{number_of}
use Rattle.epoch_machine.specs.Evidence.{NotAhead, PromisedBehind, FromOrigin, Planned}
use Rattle.epoch_machine.specs.Majorities.{MajorityOf}
use Rattle.epoch_machine.specs.Messages.{promised_by}
use Rattle.epoch_machine.specs.Plans.{Plan}
use Rattle.epoch_machine.specs.World.{World}
use Rattle.epoch_machine.specs.Deeds.{Proposes}
use Rattle.epoch_machine.specs.Guards.{Can}
use Rattle.epoch_machine.specs.Effects.{after}
use Rattle.epoch_machine.specs.Invariant.{Invariant}
use Rattle.epoch_machine.proofs.Histories.{deed_keeps}
use Rattle.unit_rules.specs.declared.reconfig.Standing.{Standing}
use Rattle.unit_rules.specs.Choices.{furthest}
use Rattle.unit_rules.specs.Deeds.{Acted}
use Rattle.unit_rules.specs.Phases.{config_of, primary_by, chosen_from, chosen_of}
use Rattle.unit_rules.specs.Polls.{arbiters_to, answers_in, is_carried}
use Rattle.unit_rules.specs.Reconfigs.{OriginLog, PromisePhase, Reconfig, Phase1, Decide, Step}
use Rattle.unit_rules.specs.Transitions.{after_promise, proposes}
use Rattle.epoch_refinement.specs.Epochs.{IsEpoch, settings_to}
use Rattle.epoch_refinement.specs.Reconfigs.{is_create, HasLeft, NoneAbove, ShowsPhase, ShowsTask, Went}
use Rattle.epoch_refinement.specs.Shown.{IsPlanOf, ShownPromised}
use Rattle.epoch_refinement.proofs.Asking.{to_reconfig, asks_shown, ShowsActed, went_map, still_none}
use Rattle.epoch_refinement.proofs.Choosing.{Behind, furthest_over}
use Rattle.epoch_refinement.proofs.Lasting.{deed_later}
use Rattle.epoch_refinement.proofs.Polls.{answers_are, are_answers, carried_by}

module _ {k : ℕ} {w : World} (inv : Invariant (settings_to k) w) (p : ℕ) (x : Who) (h : Epoch) (n : ℕ) (q : PromisePhase) (t : ShowsTask k p n q.task)
    (shows : ShowsPhase w k p x n (Phase1 q)) (me : 0 < x.instance) (below : NoneAbove w x n) where
  abbrev prev : Plan
  prev = shows.0.0

  left : HasLeft w x n prev
  left = shows.0.1

  answer : (o : ℕ × Standing) → IsMember o (answers_in q.poll) → ShownPromised w o.0 q.task.epoch o.1.at o.1.last
  answer o m = shows.2 o.0 o.1 (answers_are q.poll o.0 o.1 m)

  number_is : (s : ℕ) → IsEpoch s q.task.epoch → s ≡ n
  number_is s e = let i = t.is in e.is ∙ sym i.is

  promise_of : (m : ℕ) (s : Standing) → (d : ShownPromised w m q.task.epoch s.at s.last) → IsMember (promised_by m n d.joined d.log) w.promises
  promise_of m s d = subst (λ k. IsMember (promised_by m k d.joined d.log) w.promises) (number_is d.epoch d.epoch_is) d.promised

  module _ (o : ℕ × Standing) (is_best : furthest (answers_in q.poll) ≡ Some o) (carried : is_carried q.poll ≡ true) where
    best : IsMember o (answers_in q.poll) × ((r : ℕ × Standing) → IsMember r (answers_in q.poll) → Behind r o)
    best = furthest_over (answers_in q.poll) (λ r m. let s = answer r m in let j = s.joined_is in j.small) o is_best

    abbrev origin : ShownPromised w o.0 q.task.epoch o.1.at o.1.last
    origin = shows.2 o.0 o.1 (answers_are q.poll o.0 o.1 (furthest_over (answers_in q.poll) (λ r m. let s = answer r m in let j = s.joined_is in
        j.small) o is_best).0)

    abbrev config : Config
    config = config_of q.task (primary_by q.task.kind q) q.members

    abbrev source : OriginLog
    source = record { origin = o.0; last = o.1.last }

    -- the log of the origin is the base
    abbrev proposed : Plan
    proposed = record { epoch = n; primary = primary_by q.task.kind q; members = q.members; origin = o.0; base = origin.log }

    from_origin : FromOrigin w.promises proposed
    from_origin = record { joined = origin.joined; sent = promise_of o.0 o.1 origin }

    behind : (m : ℕ) (s : Standing) → IsMember (m, Some s) q.poll → PromisedBehind w.promises n origin.joined (length origin.log) m
    behind m s i =
        let d = shows.2 m s i in
        let a = d.joined_is in let b = origin.joined_is in record {
          joined = d.joined;
          log = d.log;
          sent = promise_of m s d;
          behind =
              subst (λ (q : ℕ × ℕ). NotAhead q.0 (length d.log) q.1 (length origin.log)) (λ i. (sym a.is i, sym b.is i))
              (subst (λ (q : ℕ × ℕ). NotAhead (number_of s.at) q.0 (number_of o.1.at) q.1) (λ i. (sym d.last_is i, sym origin.last_is i))
              (best.1 (m, s) (are_answers q.poll m s i)));
        }

    planned : Planned (settings_to k) w.promises (Some prev) proposed
    planned = ⊎_elim
        (λ same. inr (record {
          from = record { joined = origin.joined; sent = promise_of o.0 o.1 origin };
          most =
              subst (λ ms. MajorityOf ms (PromisedBehind w.promises n origin.joined (length origin.log))) same
              (carried_by (PromisedBehind w.promises n origin.joined (length origin.log)) q.poll behind carried);
        }))
        (λ opens. inl (from_origin, opens)) shows.0.2

    can : Can (settings_to k) w (Proposes proposed)
    can = (left.none, (record { who = x; epoch = n; prev = Some prev }, left.entered, refl, planned))

    is_plan_of : IsPlanOf p proposed config
    is_plan_of = record { partition = t.partition; epoch = t.is; primary = refl; members = refl }

    went : Went k w x n (λ v. ShowsPhase v k p x n (Decide (record { task = q.task; config = config; source = source; votes = no_votes q.task.arbitrators })))
    went = record {
      after = after w (Proposes proposed);
      inv = deed_keeps inv (Proposes proposed) can;
      later = deed_later w (Proposes proposed);
      attempts = λ t m. inl m;
      plans = λ r m. ⊎_elim (λ i. inr (ap (λ (a : Plan). a.epoch) i, record { prev = Some prev; entered = left.entered })) (λ j. inl j) m;
      holds = (
        (
          proposed,
          inl refl,
          record {
            is = is_plan_of;
            epoch_is = refl;
            origin_is = refl;
            last_is = origin.last_is;
            room = origin.room;
            created = λ e. absurd (both_ways (is_create q.task.kind) shows.1 e);
          },
        ),
        t.arbitrators,
        refl,
        λ a v m. absurd m,
      );
      told = refl;
    }

    chosen_proposes : Went k w x n (ShowsActed k p x h n (proposes q.task config source))
    chosen_proposes =
        went_map went
        (λ s. (
          to_reconfig (Decide (record { task = q.task; config = config; source = source; votes = no_votes q.task.arbitrators })) t s (still_none went below)
              (λ e. absurd (cc (e))),
          asks_shown _ k p n x (Decide (record { task = q.task; config = config; source = source; votes = no_votes q.task.arbitrators })) me t s
              (arbiters_to q.task.arbitrators),
        ))

  -- a majority has promised, or it goes on as it is said
  pub promises_end : (goes_on : Reconfig → Acted Step) → Went k w x n (ShowsActed k p x h n (goes_on (Phase1 q))) →
      Went k w x n (ShowsActed k p x h n (after_promise q.task goes_on (chosen_of q)))
  promises_end goes_on stay = go (is_carried q.poll) refl (furthest (answers_in q.poll)) refl
    where
      go : (b : Bool) → is_carried q.poll ≡ b → (o : Option (ℕ × Standing)) → furthest (answers_in q.poll) ≡ o →
          Went k w x n (ShowsActed k p x h n (after_promise q.task goes_on (if b then chosen_from q o else Err q)))
      go false i o j = stay
      go true i None j = stay
      go true i (Some o) j = chosen_proposes o j i
