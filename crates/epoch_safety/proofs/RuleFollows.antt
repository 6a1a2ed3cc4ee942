-- The machines follow what an arbitrator answers.
use Rattle.std.proofs.Common.{◌≡◌, ℕ, ◌<◌, Bool, true, false, ◌==◌, List, [], ◌∷◌, ◌++◌, Option, Some, None, refl, sym, ap, ◌∙◌, subst, ⊎_elim, arith, inl, inr}
use Rattle.std.proofs.lemmas.Bool.{eqb-true, eqb-false}
use Rattle.fabric_lemmas.specs.Maps.{at}
use Rattle.fabric_lemmas.specs.Members.{IsMember}
use Rattle.fabric_terms.specs.declared.config.FabricConfig.{FabricConfig}
use Rattle.fabric_terms.specs.declared.message.Body.{Body}
use Rattle.fabric_terms.specs.declared.message.Body.TheVariants as body
use Rattle.fabric_terms.specs.declared.message.Message.{Message}
use Rattle.fabric_terms.specs.declared.record.Record.{Record}
use Rattle.ring_points.specs.declared.who.Who.{Who}
use Rattle.ring_points.specs.Whos.{arbiter_actor}
use Rattle.ring_rules.specs.Arbiters.{Accusations, Table, accusation_kept, claim_answer, claim_kept, claim_settled, claimer_kept, first_accuser, first_claimer, first_kept, takes_frame}
use Rattle.epoch_machine.specs.Invariant.{Invariant}
use Rattle.unit_rules.specs.Deeds.{Acted, records_of}
use Rattle.unit_rules.specs.Manager.{Managed}
use Rattle.unit_rules.specs.Registers.{Registers, register_after, register_of, registers_after, question_received}
use Rattle.unit_rules.specs.Stays.{units_stay}
use Rattle.unit_rules.specs.Steps.{failover_begun}
use Rattle.unit_rules.specs.Units.{units}
use Rattle.unit_rules.proofs.Registered.{registers_are_recorded}
use Rattle.world_rules.specs.Arbiters.{ArbiterState, arbiter_step, arbiter_takes, beside_did}
use Rattle.world_rules.specs.Nodes.{boots_of}
use Rattle.world_rules.specs.Uppers.{Did}
use Rattle.world_rules.specs.Worlds.{World, arbiter_acted, arbiter_who, kept_of, posted}
use Rattle.world_rules.proofs.Rows.{arbiter_step-is}
use Rattle.run_facts.proofs.ArbiterSteps.{Answered, arbiter_stepped}
use Rattle.run_facts.proofs.Kept.{put_cases, kept_here, kept_there, boots_still}
use Rattle.run_facts.proofs.Tables.{two_arbiters}
use Rattle.replica_records.specs.ReplicaStates.{state_at}
use Rattle.epoch_refinement.specs.Epochs.{settings_to}
use Rattle.epoch_refinement.specs.Facts.{Fact, Has, SameReplicaState, SameRegister}
use Rattle.epoch_refinement.specs.Nodes.{Machines, ShowsArbiter, ArbiterRefined}
use Rattle.epoch_refinement.specs.Reconfigs.{ShowsManager}
use Rattle.epoch_refinement.specs.Registers.{ShowsRegister}
use Rattle.epoch_refinement.specs.Shown.{partition_of, Shown}
use Rattle.epoch_refinement.proofs.Arbitrating.{questions_are_deeds_lem}
use Rattle.replica_records.specs.Kept.{AreKept}
use Rattle.epoch_safety.proofs.Follows.{Follows, no_units, registers_in, posted_cases}
use Rattle.epoch_safety.proofs.Lasting.{shown_lasts, state_lasts, register_lasts}
use Rattle.epoch_safety.proofs.Sending.{frames_shown}
use Rattle.epoch_safety.proofs.Telling.{Tellings, tells_after}

-- what an arbitrator does, in the machines before and after
pub record Rule (k : ℕ) (w : World units) (m v : Machines) (arbiter : ℕ) (d : Did (ArbiterState units)) : Type 0 where
  pub silent : d.told ≡ []
  pub boots : boots_of d.records ≡ 0
  pub inv : (p : ℕ) → Invariant (settings_to k) (v p)
  pub keeps : (p : ℕ) (f : Fact) → Has (m p) f → Has (v p) f
  pub states : (p q : ℕ) → SameReplicaState (m p) (v p) q
  pub others : (p a : ℕ) → (arbiter_actor arbiter ≡ a → ⊥) → SameRegister (m p) (v p) a
  pub managers : (p : ℕ) (y : Who) (s : Managed) → ShowsManager (m p) k p y s → ShowsManager (v p) k p y s
  pub beside : d.state.beside ≡ registers_after [] (kept_of w (arbiter_actor arbiter) ++ d.records)
  pub shows : ShowsArbiter v (arbiter_actor arbiter) d.state.beside
  pub sent : (z : Who × Body) → IsMember z d.sent → Shown (v (partition_of z.1)) (partition_of z.1) (arbiter_who arbiter) z.0 z.1
  pub told : (p : ℕ) → (v p).told ≡ (m p).told

module _ {k : ℕ} {w : World units} {t : Tellings} {m v : Machines} {arbiter : ℕ} (d : Did (ArbiterState units)) (f : Follows k w t m)
    (e : Rule k w m v arbiter d) where
  abbrev after : World units
  after = (arbiter_acted units w arbiter d).world

  abbrev records : List Record
  records = kept_of w (arbiter_actor arbiter) ++ d.records

  kept_now : kept_of after (arbiter_actor arbiter) ≡ records
  kept_now = kept_here w (arbiter_who arbiter) d.records d.sent

  kept_apart : (q : ℕ) → (arbiter_actor arbiter == q) ≡ false → kept_of after q ≡ kept_of w q
  kept_apart q h = kept_there w (arbiter_who arbiter) d.records d.sent q h

  -- a node is no arbitrator
  kept_node : (q : ℕ) → q < 32768 → kept_of after q ≡ kept_of w q
  kept_node q low = kept_apart q (go (arbiter_actor arbiter == q) refl)
    where
      go : (b : Bool) → (arbiter_actor arbiter == q) ≡ b → b ≡ false
      go true h = absurd (let same = eqb-true (arbiter_actor arbiter) q h in omega arith)
      go false h = refl

  registers_apart : (q : ℕ) → (arbiter == q) ≡ false → registers_in after q ≡ registers_in w q
  registers_apart q h = ap (registers_after []) (kept_apart (arbiter_actor q) (two_arbiters arbiter q h))

  registers_now : registers_in after arbiter ≡ d.state.beside
  registers_now = ap (registers_after []) kept_now ∙ sym e.beside

  shows_now : (q p : ℕ) → ShowsRegister (v p) p (arbiter_actor q) (register_of p (registers_in after q))
  shows_now q p = go (arbiter == q) refl
    where
      go : (b : Bool) → (arbiter == q) ≡ b → ShowsRegister (v p) p (arbiter_actor q) (register_of p (registers_in after q))
      go true h =
          subst (λ z. ShowsRegister (v p) p (arbiter_actor z) (register_of p (registers_in after z))) (eqb-true arbiter q h)
          (subst (λ rs. ShowsRegister (v p) p (arbiter_actor arbiter) (register_of p rs)) (sym registers_now) (e.shows p))
      go false h =
          subst (λ rs. ShowsRegister (v p) p (arbiter_actor q) (register_of p rs)) (sym (registers_apart q h))
          (register_lasts (m p) (v p) (e.keeps p) (e.others p (arbiter_actor q) (λ same. eqb-false arbiter q h (omega arith))) (f.registers q p))

  frames_now : (g : Message) → IsMember g (posted (arbiter_who arbiter) d.sent w.frames) →
      Shown (v (partition_of g.body)) (partition_of g.body) g.from g.to g.body
  frames_now g h =
      ⊎_elim (λ old. shown_lasts (m (partition_of g.body)) (v (partition_of g.body)) (e.keeps (partition_of g.body)) (partition_of g.body) g.from g.to g.body (f.frames g old))
      (λ new.
      subst (λ (g : Message). Shown (v (partition_of g.body)) (partition_of g.body) g.from g.to g.body) (sym new.2) (e.sent new.0 new.1))
      (posted_cases (arbiter_who arbiter) d.sent w.frames g h)

  pub rule_follows : Follows k after (λ p. tells_after p (arbiter_acted units w arbiter d) (t p)) v
  rule_follows = record {
    inv = e.inv;
    last = f.last;
    states = λ q p. state_lasts (m p) (v p) (e.keeps p) (e.states p q) (f.states q p);
    begins = λ q p low. ap (λ (r : List Record). state_at p (failover_begun r)) (kept_node q low) ∙ f.begins q p low;
    low = f.low;
    here = f.here;
    acts = λ q s there stay.
        let a = f.acts q s there stay in record {
          managers = λ p. e.managers p s.node.ring.me s.node.above.managed (a.managers p);
          states_rise = a.states_rise;
          reconfigs_rise = a.reconfigs_rise;
          kept = subst (λ (r : List Record). AreKept r s.node.above) (sym (kept_node q (f.low q s there))) a.kept;
        };
    fresh = λ y p lt.
        e.managers p y no_units (f.fresh y p (let same = boots_still w (arbiter_who arbiter) d.records d.sent e.boots y.actor in omega arith));
    registers = shows_now;
    beside = λ q s h.
        put_cases (λ (z : ArbiterState units). z.beside ≡ registers_in after q) arbiter d.state w.arbiters q s h
        (λ same. subst (λ z. d.state.beside ≡ registers_in after z) same (sym registers_now))
        (λ apart there. f.beside q s there ∙ sym (registers_apart q apart));
    frames = frames_now;
    told = λ p.
        e.told p ∙ (f.told p ∙ ap (λ rs. tells_after p (record (arbiter_acted units w arbiter d) {
          entry = Some (record { who = arbiter_who arbiter; reading = None; sent = (0, 0); reports = rs });
        }) (t p)) (sym e.silent));
  }

-- What its table keeps is no affair of a partition.

first_registers : (accuser victim : Who) (about about_victim : Option Who) (rs : Registers) → registers_after rs (first_kept accuser victim about about_victim) ≡ rs
first_registers accuser victim None None rs = refl
first_registers accuser victim None (Some z) rs = refl
first_registers accuser victim (Some z) o rs = refl

accused_registers : (table : Accusations) (accuser victim : Who) (rs : Registers) → registers_after rs (accusation_kept table accuser victim) ≡ rs
unfolding accusation_kept
accused_registers table accuser victim rs = first_registers accuser victim (first_accuser accuser table) (first_accuser victim table) rs

claimer_registers : (claimer victim : Who) (round : ℕ) (about claimed : Option Who) (is_first : Bool) (rs : Registers) →
    registers_after rs (claimer_kept claimer victim round about claimed is_first) ≡ rs
claimer_registers claimer victim round None claimed is_first rs = refl
claimer_registers claimer victim round (Some first) (Some z) is_first rs = refl
claimer_registers claimer victim round (Some first) None true rs = refl
claimer_registers claimer victim round (Some first) None false rs = refl

claim_registers : (table : Table) (claimer victim : Who) (round : ℕ) (rs : Registers) → registers_after rs (claim_kept table claimer victim round) ≡ rs
unfolding claim_kept
claim_registers table claimer victim round rs =
    claimer_registers claimer victim round (first_accuser victim table.accusations) (first_claimer victim round table.claims) (round == 1) rs

pub registers_append : (rs : Registers) (xs ys : List Record) → registers_after rs (xs ++ ys) ≡ registers_after (registers_after rs xs) ys
registers_append rs [] ys = refl
registers_append rs (x ∷ xs) ys = registers_append (register_after rs x) xs ys

-- a claim's answer
answer_shown : (m : Machines) (from claimer victim : Who) (round : ℕ) (kept : Option Who) (z : Who × Body) → IsMember z (claim_answer claimer victim round kept) →
    Shown (m (partition_of z.1)) (partition_of z.1) from z.0 z.1
answer_shown m from claimer victim round None z h = absurd h
answer_shown m from claimer victim round (Some x) z (inl e) =
    subst (λ (z : Who × Body). Shown (m (partition_of z.1)) (partition_of z.1) from z.0 z.1) (sym e) tt
answer_shown m from claimer victim round (Some x) z (inr n) = absurd n

-- Its step.

pub record Ruled (k : ℕ) (w : World units) (m : Machines) (arbiter : ℕ) (d : Did (ArbiterState units)) : Type 0 where
  pub machines : Machines
  pub rule : Rule k w m machines arbiter d

module _ (c : FabricConfig) (k : ℕ) (w : World units) (t : Tellings) (m : Machines) (f : Follows k w t m) (arbiter : ℕ) (g : Message)
    (s : ArbiterState units) (there : at arbiter w.arbiters ≡ Some s) (came : IsMember g w.frames) where
  abbrev IsAnswered : Did (ArbiterState units) → Type 0
  IsAnswered d = Answered s.table d.state.table d.records d.told

  -- the table alone answers
  tabled : (d : Did (ArbiterState units)) → IsAnswered d → d.state.beside ≡ s.beside → ((rs : Registers) → registers_after rs d.records ≡ rs) →
      ((z : Who × Body) → IsMember z d.sent → Shown (m (partition_of z.1)) (partition_of z.1) (arbiter_who arbiter) z.0 z.1) → Ruled k w m arbiter d
  tabled d a same none sent = record {
    machines = m;
    rule = record {
      silent = a.silent;
      boots = a.boots;
      inv = f.inv;
      keeps = λ p g h. h;
      states = λ p q. record { promised = refl; joined = refl; log = refl; collected = refl; role = refl };
      others = λ p b e. record { prepared = refl; preparer = refl; done = refl };
      managers = λ p y u shows. shows;
      beside =
          same
          ∙ (f.beside arbiter s there
          ∙ sym (registers_append [] (kept_of w (arbiter_actor arbiter)) d.records ∙ none (registers_in w arbiter)));
      shows = λ p.
          subst (λ rs. ShowsRegister (m p) p (arbiter_actor arbiter) (register_of p rs)) (sym (same ∙ f.beside arbiter s there))
          (f.registers arbiter p);
      sent = sent;
      told = λ p. refl;
    };
  }

  abbrev asked : Acted Registers
  asked = question_received g.body g.from s.beside

  refined : ArbiterRefined k m (arbiter_who arbiter) asked
  refined =
      questions_are_deeds_lem k m (arbiter_who arbiter) g.from g.to g.body s.beside f.inv
      (λ p.
      subst (λ rs. ShowsRegister (m p) p (arbiter_actor arbiter) (register_of p rs)) (sym (f.beside arbiter s there)) (f.registers arbiter p))
      (f.frames g came)

  -- what runs beside it answers
  aside : IsAnswered (beside_did units s (units.beside_step c arbiter s.beside g)) → Ruled k w m arbiter (beside_did units s (units.beside_step c arbiter s.beside g))
  aside a = record {
    machines = refined.after;
    rule = record {
      silent = refl;
      boots = a.boots;
      inv = λ p. (refined.beyond p).inv;
      keeps = λ p. (refined.beyond p).keeps;
      states = λ p. (refined.beyond p).states;
      others = λ p. (refined.beyond p).registers;
      managers = λ p. (refined.beyond p).managers;
      beside =
          registers_are_recorded g.body g.from s.beside
          ∙ (ap (λ rs. registers_after rs (records_of asked.deeds)) (f.beside arbiter s there)
          ∙ sym (registers_append [] (kept_of w (arbiter_actor arbiter)) (records_of asked.deeds)));
      shows = refined.shows;
      sent = λ z h. frames_shown refined.after (arbiter_who arbiter) asked.deeds z refined.sent h;
      told = refined.told;
    };
  }

  taken : (b : Body) (takes : Bool) → IsAnswered (arbiter_takes units c arbiter g s b takes) → Ruled k w m arbiter (arbiter_takes units c arbiter g s b takes)
  taken b false a = tabled _ a refl (λ rs. refl) (λ z h. absurd h)
  taken (body.Accuse y) true a =
      tabled _ a refl (accused_registers s.table.accusations g.from y)
      (λ z h.
      ⊎_elim (λ e. subst (λ (z : Who × Body). Shown (m (partition_of z.1)) (partition_of z.1) (arbiter_who arbiter) z.0 z.1) (sym e) tt)
      (λ n. absurd n) h)
  taken (body.Claim y round) true a =
      tabled _ a refl (claim_registers s.table g.from y round)
      (answer_shown m (arbiter_who arbiter) g.from y round (claim_settled s.table g.from y round))
  taken b true a = aside a

  pub rules_follow : Ruled k w m arbiter (arbiter_step units c arbiter g s)
  rules_follow =
      subst (λ (d : Did (ArbiterState units)). Ruled k w m arbiter d) (sym (arbiter_step-is units c arbiter g s))
      (taken g.body (takes_frame arbiter g) (subst IsAnswered (arbiter_step-is units c arbiter g s) (arbiter_stepped units units_stay c arbiter g s)))
