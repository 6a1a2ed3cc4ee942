-- What an arbitrator answers, seen in all partitions.
use Rattle.std.proofs.Common.{◌≡◌, ℕ, cond, [], ◌∷◌, ◌++◌, Option, None, Some, refl, sym, ap, ◌∙◌, subst}
use Rattle.std.proofs.lemmas.Bool.{eq-eqb}
use Rattle.std.specs.Prelude.{unwrap_or}
use Rattle.fabric_lemmas.specs.Maps.{at}
use Rattle.fabric_lemmas.proofs.Maps.{at-put}
use Rattle.ring_points.specs.declared.who.Who.{Who}
use Rattle.fabric_terms.specs.declared.message.Body.{Body}
use Rattle.fabric_terms.specs.declared.message.Body.TheVariants as body
use Rattle.fabric_terms.specs.declared.record.Record.{Record}
use Rattle.fabric_terms.specs.declared.record.Record.TheVariants.{PreparedBy, VotedFor, DoneFor}
use Rattle.epoch_machine.specs.World.{World, replaced}
use Rattle.epoch_machine.specs.Invariant.{Invariant}
use Rattle.epoch_machine.proofs.Replaced.{put_at, put_cases}
use Rattle.unit_rules.specs.Deeds.{still}
use Rattle.unit_rules.specs.Registers.{Register, Registers, Reply, empty_register, register_of, register_after, changed, replied, replied_with, prepare_received, vote_received, done_received}
use Rattle.epoch_refinement.specs.Epochs.{settings_to}
use Rattle.epoch_refinement.specs.Laws.{QuestionsAreDeeds}
use Rattle.epoch_refinement.specs.Nodes.{Machines, ShowsArbiter, Beyond, ArbiterRefined}
use Rattle.epoch_refinement.specs.Registers.{ShowsRegister, recorded, IsRecordOf, RefinedReply}
use Rattle.epoch_refinement.specs.Rows.{register_answers}
use Rattle.epoch_refinement.specs.Shown.{partition_of, Shown}
use Rattle.epoch_refinement.proofs.Elsewhere.{manager_elsewhere}
use Rattle.epoch_refinement.proofs.Beside.{apart_test}
use Rattle.epoch_refinement.proofs.Rows.{answers_are_deeds_lem}

-- the registers with what was recorded
abbrev kept_in : Registers → Option Record → Registers
kept_in rs None = rs
kept_in rs (Some r) = register_after rs r

changed_here : (q : ℕ) (f : Register → Register) (rs : Registers) → register_of q (changed q f rs) ≡ f (register_of q rs)
changed_here q f rs =
    ap (λ o. unwrap_or o empty_register)
    (at-put q (f (register_of q rs)) rs q ∙ ap (λ b. cond b (Some (f (register_of q rs))) (at q rs)) (eq-eqb q q refl))

changed_there : (p q : ℕ) (f : Register → Register) (rs : Registers) → (q ≡ p → ⊥) → register_of p (changed q f rs) ≡ register_of p rs
changed_there p q f rs d =
    ap (λ o. unwrap_or o empty_register)
    (at-put q (f (register_of q rs)) rs p ∙ ap (λ b. cond b (Some (f (register_of q rs))) (at p rs)) (apart_test p q d))

here : (q : ℕ) (rs : Registers) (o : Option Record) → IsRecordOf q o → register_of q (kept_in rs o) ≡ recorded (register_of q rs) o
here q rs None h = refl
here q rs (Some (PreparedBy r epoch preparer)) h =
    subst (λ r. register_of q (register_after rs (PreparedBy r epoch preparer)) ≡ recorded (register_of q rs) (Some (PreparedBy r epoch preparer))) (sym h)
    (changed_here q (λ r. record r { prepared = Some (record { epoch = epoch; preparer = preparer }) }) rs)
here q rs (Some (VotedFor config)) h =
    ap (λ z. register_of q (changed z (λ r. record r { votes = r.votes ++ config ∷ [] }) rs)) h ∙
    changed_here q (λ r. record r { votes = r.votes ++ config ∷ [] }) rs
here q rs (Some (DoneFor config)) h =
    ap (λ z. register_of q (changed z (λ r. record r { done = Some config }) rs)) h ∙ changed_here q (λ r. record r { done = Some config }) rs
here q rs (Some r) h = absurd h

there : (p q : ℕ) (rs : Registers) (o : Option Record) → IsRecordOf q o → (q ≡ p → ⊥) → register_of p (kept_in rs o) ≡ register_of p rs
there p q rs None h d = refl
there p q rs (Some (PreparedBy r epoch preparer)) h d = changed_there p r (λ r. record r {
  prepared = Some (record {
    epoch = epoch;
    preparer = preparer;
  });
}) rs (λ e. d (sym h ∙ e))
there p q rs (Some (VotedFor config)) h d = changed_there p config.partition (λ r. record r { votes = r.votes ++ config ∷ [] }) rs (λ e. d (sym h ∙ e))
there p q rs (Some (DoneFor config)) h d = changed_there p config.partition (λ r. record r { done = Some config }) rs (λ e. d (sym h ∙ e))
there p q rs (Some r) h d = absurd h

beyond_none : {k p : ℕ} {w : World} (arbiter : ℕ) → Invariant (settings_to k) w → Beyond k p arbiter w w
beyond_none arbiter inv = record {
  inv = inv;
  keeps = λ f h. h;
  states = λ n. record { promised = refl; joined = refl; log = refl; collected = refl; role = refl };
  registers = λ a d. record { prepared = refl; preparer = refl; done = refl };
  managers = λ y s h. h;
}

module _ {k : ℕ} {m : Machines} (inv : (p : ℕ) → Invariant (settings_to k) (m p)) (me from : Who) (rs : Registers) (shows : ShowsArbiter m me.actor rs) where
  nothing : ArbiterRefined k m me (still rs)
  nothing = record { after = m; beyond = λ p. beyond_none me.actor (inv p); shows = shows; sent = tt; told = λ p. refl }

  -- an answer in partition q
  replies : (q : ℕ) (r : Reply) → RefinedReply (settings_to k) (m q) q me from (register_of q rs) r → ArbiterRefined k m me (replied from rs (Some r))
  replies q r g = go r.kept refl
    where
      beyond : (p : ℕ) → Beyond k p me.actor (m p) (replaced m q g.after p)
      beyond = put_cases (λ p u. Beyond k p me.actor (m p) u) m q g.after
          (record {
            inv = g.inv;
            keeps = g.later.keeps;
            states = λ n. g.later.beside.states n (λ e. cc (e));
            registers = λ a d. g.later.beside.registers a (λ e. d cc);
            managers = λ y s h. manager_elsewhere g.later k q y s (λ e. cc (e)) h;
          })
          (λ p d. beyond_none me.actor (inv p))

      told : (p : ℕ) → (replaced m q g.after p).told ≡ (m p).told
      told = put_cases (λ p u. u.told ≡ (m p).told) m q g.after g.told (λ p d. refl)

      shows_now : ShowsArbiter (replaced m q g.after) me.actor (kept_in rs r.kept)
      shows_now = put_cases (λ p u. ShowsRegister u p me.actor (register_of p (kept_in rs r.kept))) m q g.after
          (subst (ShowsRegister g.after q me.actor) (sym (here q rs r.kept g.kept)) g.shows)
          (λ p d. subst (ShowsRegister (m p) p me.actor) (sym (there p q rs r.kept g.kept d)) (shows p))

      sent : Shown (replaced m q g.after (partition_of r.body)) (partition_of r.body) me from r.body
      sent =
          subst (λ z. Shown (replaced m q g.after z) z me from r.body) (sym g.of)
          (subst (λ u. Shown u q me from r.body) (sym (put_at m q g.after)) g.sent)

      go : (o : Option Record) → r.kept ≡ o → ArbiterRefined k m me (replied_with from rs o r.body)
      go None i =
          record {
            after = replaced m q g.after;
            beyond = beyond;
            shows = subst (λ o. ShowsArbiter (replaced m q g.after) me.actor (kept_in rs o)) i shows_now;
            sent = (sent, tt);
            told = told;
          }
      go (Some z) i =
          record {
            after = replaced m q g.after;
            beyond = beyond;
            shows = subst (λ o. ShowsArbiter (replaced m q g.after) me.actor (kept_in rs o)) i shows_now;
            sent = (sent, tt);
            told = told;
          }

  asked : (to : Who) (b : Body) (r : Reply) → Shown (m (partition_of b)) (partition_of b) from to b →
      register_answers from b (register_of (partition_of b) rs) ≡ Some r →
      ArbiterRefined k m me (replied from rs (Some r))
  asked to b r shown is =
      replies (partition_of b) r
      (answers_are_deeds_lem (settings_to k) (m (partition_of b)) (partition_of b) me from to b (register_of (partition_of b) rs) r (inv (partition_of b))
      (shows (partition_of b)) shown refl is)

pub questions_are_deeds_lem : QuestionsAreDeeds
questions_are_deeds_lem k m me from to (body.Prepare q e) rs inv shows shown =
    asked inv me from rs shows to (body.Prepare q e) (prepare_received q e from (register_of q rs)) shown refl
questions_are_deeds_lem k m me from to (body.Vote config) rs inv shows shown =
    asked inv me from rs shows to (body.Vote config) (vote_received config (register_of config.partition rs)) shown refl
questions_are_deeds_lem k m me from to (body.DoneAsk config) rs inv shows shown =
    asked inv me from rs shows to (body.DoneAsk config) (done_received config (register_of config.partition rs)) shown refl
questions_are_deeds_lem k m me from to b rs inv shows shown = nothing inv me from rs shows
