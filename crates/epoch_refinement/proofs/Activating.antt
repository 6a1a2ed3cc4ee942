-- The row of Activate.
use Rattle.std.proofs.Common.{◌≡◌, ℕ, ◌+◌, Bool, true, false, cond, ◌==◌, ◌&&◌, List, [], ◌∷◌, length, None, Some, Ok, refl, sym, ap, ◌∙◌, subst, inl, inr, arith}
use Rattle.std.proofs.lemmas.Bool.{eqb-true, both_ways}
use Rattle.std.specs.Prelude.{not, map, filter, if◌then◌else◌}
use Rattle.std.specs.List.{list_any}
use Rattle.fabric_lemmas.specs.Members.{IsMember}
use Rattle.ring_points.specs.declared.unit.Config.{Config}
use Rattle.ring_points.specs.declared.who.Who.{Who}
use Rattle.ring_points.specs.Epochs.{is_older, same_epoch}
use Rattle.replica_core.specs.declared.refusal.ReplicaRefusal.TheVariants.{Older, NotMember, Gap}
use Rattle.replica_core.specs.declared.role.Role.{Role}
use Rattle.replica_core.specs.declared.role.Role.TheVariants.{ActiveSecondary, Primary}
use Rattle.replica_core.specs.Roles.{is_member}
use Rattle.replica_core.specs.Replicas.{Replica, raised}
use Rattle.replica_core.specs.Calls.{unless}
use Rattle.replica_core.proofs.Orders.{not_itself}
use Rattle.epoch_machine.specs.Plans as machine
use Rattle.epoch_machine.specs.Settings.{Settings}
use Rattle.epoch_machine.specs.World.{World, TellsPrimary}
use Rattle.epoch_machine.specs.Deeds.{BecomesPrimary}
use Rattle.epoch_machine.specs.Guards.{Can}
use Rattle.epoch_machine.specs.Effects.{after}
use Rattle.epoch_machine.specs.Invariant.{Invariant}
use Rattle.epoch_machine.proofs.Replaced.{put_at}
use Rattle.epoch_machine.proofs.Kept.{active_sync, sync_plan, positive}
use Rattle.epoch_machine.proofs.Histories.{deed_keeps}
use Rattle.unit_rules.specs.declared.progress.PeerProgress.{PeerProgress}
use Rattle.unit_rules.specs.Activations.{same_role, say_activated, role_begun, activate_answered, activate_received}
use Rattle.unit_rules.specs.Deeds.{acted}
use Rattle.unit_rules.specs.Progress.{first_progress}
use Rattle.unit_rules.specs.ReplicaStates.{ReplicationProgress, ReplicaState}
use Rattle.epoch_refinement.specs.Epochs.{IsEpoch}
use Rattle.epoch_refinement.specs.Refined.{Refined}
use Rattle.epoch_refinement.specs.ReplicaStates.{IsNumbered, ShowsReplicaState, ShowsProgress}
use Rattle.epoch_refinement.specs.Shown.{ShownActivate}
use Rattle.epoch_refinement.proofs.Doing.{nothing_refined}
use Rattle.epoch_refinement.proofs.Numbers.{older_not, same_epoch-true, one_epoch, real}
use Rattle.epoch_refinement.proofs.Lasting.{deed_later, later_refl, sync_later}

-- the peers of a new primary are these nodes, of whom nothing is confirmed
peers_of : (next : ℕ) (ns : List ℕ) → map (λ (q : PeerProgress). q.node) (map (λ n. record { node = n; confirmed = 0; next = next }) ns) ≡ ns
peers_of next [] = refl
peers_of next (n ∷ ns) = ap (λ l. n ∷ l) (peers_of next ns)

none_confirmed : (next : ℕ) (ns : List ℕ) (q : PeerProgress) → IsMember q (map (λ n. record { node = n; confirmed = 0; next = next }) ns) → q.confirmed ≡ 0
none_confirmed next [] q m = absurd m
none_confirmed next (n ∷ ns) q (inl e) = ap (λ (q : PeerProgress). q.confirmed) e
none_confirmed next (n ∷ ns) q (inr m) = none_confirmed next ns q m

-- a lead that is seen is the one that stands there
pub progress_is : (a b : Bool) (l m : ReplicationProgress) → (if a && b then Some l else None) ≡ Some m → l ≡ m
progress_is true true l m h = cc
progress_is true false l m h = absurd (cc (h))
progress_is false b l m h = absurd (cc (h))

module _ {c : Settings} {w : World} (inv : Invariant c w) (p : ℕ) (me : Who) (s : ReplicaState) (shows : ShowsReplicaState w p me.actor s) where
  module _ (from : Who) (config : Config) (activate : ShownActivate w p config) (not_older : is_older config.epoch s.replica.promised ≡ false)
      (at : same_epoch s.replica.at config.epoch ≡ true) where
    joined_is : w.joined me.actor ≡ activate.plan.epoch
    joined_is =
        let j : IsEpoch (w.joined me.actor) config.epoch = subst (IsEpoch (w.joined me.actor)) (same_epoch-true s.replica.at config.epoch at) shows.joined in
        let e = activate.is.epoch in j.is ∙ sym e.is

    promised_is : w.promised me.actor ≡ activate.plan.epoch
    promised_is =
        let a = older_not config.epoch s.replica.promised activate.is.epoch shows.promised not_older in
        let b = inv.logs.below me.actor in
        let j = joined_is in omega arith

    epoch_is : s.replica.promised ≡ config.epoch
    epoch_is =
        let e = activate.is.epoch in
        one_epoch s.replica.promised config.epoch activate.plan.epoch
        (subst (λ n. IsEpoch n s.replica.promised) promised_is shows.promised).number e.number

    not_above : is_older s.replica.promised config.epoch ≡ false
    not_above = subst (λ z. is_older z config.epoch ≡ false) (sym epoch_is) (not_itself config.epoch)

    collected_same : (raised config.epoch s.replica).collected ≡ s.replica.collected
    collected_same = ap (λ b. cond b [] s.replica.collected) not_above

    at_is : s.replica.at ≡ config.epoch
    at_is = same_epoch-true s.replica.at config.epoch at

    -- what a member has is not older than what it promised
    current : is_older s.replica.at config.epoch ≡ false
    current = subst (λ z. is_older z config.epoch ≡ false) (sym at_is) (not_itself config.epoch)

    can_lead : (config.primary == me.actor) ≡ true → Can c w (BecomesPrimary me.actor activate.plan)
    can_lead primary = (activate.activated, activate.is.primary ∙ eqb-true config.primary me.actor primary, joined_is, promised_is)

    abbrev u : World
    u = after w (BecomesPrimary me.actor activate.plan)

    abbrev active : Role → Replica
    active role = record (raised config.epoch s.replica) { role = role }

    becomes : (config.primary == me.actor) ≡ true → is_member me.actor config ≡ true →
        Refined c w p me (role_begun me.actor from config s (active Primary) Primary)
    becomes primary member = record {
      after = u;
      inv = deed_keeps inv (BecomesPrimary me.actor activate.plan) (can_lead primary);
      later = deed_later w (BecomesPrimary me.actor activate.plan);
      shows = record {
        partition = shows.partition;
        promised = subst (IsEpoch (w.promised me.actor)) epoch_is shows.promised;
        joined = shows.joined;
        log = shows.log;
        room = shows.room;
        collected = λ lt. absurd (let a = joined_is in let b = promised_is in omega arith);
        taken = λ t i. sync_later (deed_later w (BecomesPrimary me.actor activate.plan)) (shows.taken t i);
        reached = shows.reached;
        numbered = shows.numbered;
        numbered_collected = subst IsNumbered (sym collected_same) shows.numbered_collected;
        idle = λ h. absurd (both_ways (is_older s.replica.at config.epoch) current h);
        progress = λ m i.
            let same : first_progress me.actor config (length s.replica.log) ≡ m =
            progress_is true (not (is_older s.replica.at config.epoch)) (first_progress me.actor config (length s.replica.log)) m i in
            subst (λ m. (q : machine.Role) × ShowsProgress u me.actor (length s.replica.log) m q) same (
              record { plan = activate.plan; floor = length (w.log me.actor); reported = 0 },
              record {
                role = put_at w.role me.actor _;
                floor = let n = ap length shows.log in omega arith;
                reported = inl refl;
                member = subst (λ ms. list_any (λ m. m == me.actor) ms ≡ true) (sym activate.is.members) member;
                peers =
                    peers_of (length s.replica.log + 1) (filter (λ n. not (n == me.actor)) config.members) ∙
                    ap (λ ms. filter (λ n. not (n == me.actor)) ms) (sym activate.is.members);
                confirmed = λ q m. inl (none_confirmed (length s.replica.log + 1) (filter (λ n. not (n == me.actor)) config.members) q m);
              },
            );
      };
      sent = (
        (
          activate.is.partition,
          real activate.plan.epoch config.epoch activate.is.epoch
              (positive inv activate.plan (sync_plan inv activate.plan (active_sync inv activate.plan activate.activated))),
        ),
        (activate.is.partition, tt, tt),
      );
      told = λ i. TellsPrimary me.actor (let e = activate.is.epoch in e.is i) (shows.log i) ∷ w.told;
    }

    -- a member that is not the primary
    follows : Refined c w p me (role_begun me.actor from config s (active ActiveSecondary) ActiveSecondary)
    follows = record {
      after = w;
      inv = inv;
      later = later_refl w;
      shows = record {
        partition = shows.partition;
        promised = subst (IsEpoch (w.promised me.actor)) epoch_is shows.promised;
        joined = shows.joined;
        log = shows.log;
        room = shows.room;
        collected = λ lt. absurd (let a = joined_is in let b = promised_is in omega arith);
        taken = shows.taken;
        reached = shows.reached;
        numbered = shows.numbered;
        numbered_collected = subst IsNumbered (sym collected_same) shows.numbered_collected;
        idle = λ h. refl;
        progress = λ m i. absurd (cc (i));
      };
      sent = (activate.is.partition, tt, tt);
      told = refl;
    }

    answered : Refined c w p me (acted s (say_activated from config ∷ []))
    answered = record { after = w; inv = inv; later = later_refl w; shows = shows; sent = (activate.is.partition, tt, tt); told = refl }

  pub activate_refines : (from : Who) (config : Config) → ShownActivate w p config → Refined c w p me (activate_received me.actor from config s)
  unfolding activate_received
  activate_refines from config activate =
      go (is_older config.epoch s.replica.promised) refl (is_member me.actor config) refl (same_epoch s.replica.at config.epoch) refl
      (config.primary == me.actor) refl
    where
      -- an instance that has this role already only answers
      by : (role : Role) → (has : Bool) → Refined c w p me (acted s (say_activated from config ∷ [])) →
          Refined c w p me (role_begun me.actor from config s (record (raised config.epoch s.replica) { role = role }) role) →
          Refined c w p me (if has then acted s (say_activated from config ∷ [])
          else role_begun me.actor from config s (record (raised config.epoch s.replica) { role = role }) role)
      by role true a b = a
      by role false a b = b

      go : (older : Bool) → is_older config.epoch s.replica.promised ≡ older → (member : Bool) → is_member me.actor config ≡ member → (at : Bool) →
          same_epoch s.replica.at config.epoch ≡ at → (primary : Bool) → (config.primary == me.actor) ≡ primary →
          Refined c w p me
          (activate_answered me.actor from config s
          (unless older (Older s.replica.promised) s.replica (unless (not member) NotMember s.replica (unless (not at) (Gap (length s.replica.log)) s.replica (
            Ok (if primary then Primary else ActiveSecondary),
            record (raised config.epoch s.replica) {
              role = if primary then Primary
                  else ActiveSecondary;
            },
          )))))
      go true h member k at i primary j = record {
        after = w;
        inv = inv;
        later = later_refl w;
        shows = shows;
        sent = (activate.is.partition, let q = shows.promised in q.small, tt);
        told = refl;
      }
      go false h false k at i primary j = nothing_refined inv shows
      go false h true k false i primary j = nothing_refined inv shows
      go false h true k true i true j =
          by Primary (same_role s.replica.role Primary) (answered from config activate h i) (becomes from config activate h i j k)
      go false h true k true i false j =
          by ActiveSecondary (same_role s.replica.role ActiveSecondary) (answered from config activate h i) (follows from config activate h i)
