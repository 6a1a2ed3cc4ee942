-- What a majority of an epoch has appended stands in the base of each later epoch of the same data loss number.
use Rattle.std.proofs.Common.{◌≡◌, ℕ, zero, suc, ◌<◌, List, length, refl, sym, subst, inl, inr, arith, ◌≤◌, ◌∙◌, Option, None, Some, ⊎_elim}
use Rattle.std.proofs.lemmas.Bool.{cases_lt}
use Rattle.fabric_lemmas.specs.Members.{IsMember}
use Rattle.epoch_machine.specs.Majorities.{MajorityOf}
use Rattle.epoch_machine.specs.Logs.{Prefix, Agree, Entry}
use Rattle.epoch_machine.specs.Settings.{Settings, IsSound}
use Rattle.epoch_machine.specs.Plans.{Plan, Attempt}
use Rattle.epoch_machine.specs.Messages.{prepared_by, ballot_of, kept_by, promised_by, adopted_by, appended_by}
use Rattle.epoch_machine.specs.World.{World, whole}
use Rattle.epoch_machine.specs.Evidence.{AtLeast, NotAbove, NotAhead, HasAppended}
use Rattle.epoch_machine.specs.SoundPlans.{SoundMoved, SoundPlanned}
use Rattle.epoch_machine.specs.SoundLogs.{SoundLog}
use Rattle.epoch_machine.specs.SoundSayings.{Reached}
use Rattle.epoch_machine.specs.Invariant.{Invariant}
use Rattle.epoch_machine.proofs.Majorities.{meet}
use Rattle.epoch_machine.proofs.Prefixes.{agree_prefix, agree_sym, agree_trans}

pub at_least_on : (e : ℕ) (d prev : Option Plan) → AtLeast e d → NotAbove d prev → AtLeast e prev
at_least_on e None prev h n = absurd h
at_least_on e (Some d) None h n = absurd n
at_least_on e (Some d) (Some q) h n = omega arith

-- who is not behind a log that got so far got so far
pub reached_on : (e k a b : ℕ) (l m : List Entry) → Reached e k a l → NotAhead a (length l) b (length m) → Reached e k b m
reached_on e k a b l m (inl lt) (inl h) = inl (omega arith)
reached_on e k a b l m (inl lt) (inr h) = let s = h.0 in inl (omega arith)
reached_on e k a b l m (inr r) (inl h) = let s = r.0 in inl (omega arith)
reached_on e k a b l m (inr r) (inr h) = inr (r.0 ∙ h.0, let s = r.1 in let t = h.1 in omega arith)

-- the plan was activated, and a majority of its members has so many entries of its epoch
pub record Secured (w : World) (p : Plan) (k : ℕ) : Type 0 where
  pub activated : IsMember p w.active
  pub most : MajorityOf p.members (HasAppended w.appended p.epoch k)

-- the plan q came from a configuration of p's epoch, or of a later one below its own
record CameFrom (c : Settings) (w : World) (p q : Plan) : Type 0 where
  prev : Plan
  was_asked : IsMember prev w.asked
  above : p.epoch ≤ prev.epoch
  below : prev.epoch < q.epoch
  planned : SoundPlanned c w.promises (Some prev) q

module _ {c : Settings} {w : World} (inv : Invariant c w) where
  pub active_sync : (p : Plan) → IsMember p w.active → IsMember p w.syncs
  active_sync p m = (inv.stages.of_asked p (inv.stages.of_active p m).0).0

  pub sync_plan : (p : Plan) → IsMember p w.syncs → IsMember p w.plans
  sync_plan p m = (inv.stages.of_sync p m).0

  pub one_sync : (p q : Plan) → IsMember p w.syncs → IsMember q w.syncs → p.epoch ≡ q.epoch → p ≡ q
  one_sync p q a b e = inv.plans.once p q (sync_plan p a) (sync_plan q b) e

  pub positive : (p : Plan) → IsMember p w.plans → 0 < p.epoch
  positive p m =
      let o = inv.plans.plan p m in
      let e = o.epoch_is in
      let h = inv.attempts.positive o.attempt o.entered in omega arith

  -- each later attempt knows of it, whichever was first
  carried_on : (p : Plan) (t : Attempt) → IsMember p w.active → IsMember t w.attempts → p.epoch < t.epoch → AtLeast p.epoch t.prev
  carried_on p t a m lt =
      let s = meet c.arbiters (inv.attempts.majority t m) (inv.stages.of_active p a).1 in
      at_least_on p.epoch s.1.done t.prev
      (inv.registers.carried (prepared_by s.0 t.who t.epoch s.1.done) (kept_by p.epoch s.0) s.1.sent s.2 refl lt) s.1.not_above

  came_from : (p q : Plan) → IsMember p w.active → IsMember q w.syncs → p.epoch < q.epoch → CameFrom c w p q
  came_from p q a m lt =
      let of_sync = inv.stages.of_sync q m in
      let o = inv.plans.plan q of_sync.0 in
      go o.attempt o.entered o.epoch_is of_sync.1 o.attempt.prev refl
      (carried_on p o.attempt a o.entered (let e = o.epoch_is in omega arith)) o.planned
    where
      go : (t : Attempt) → IsMember t w.attempts → t.epoch ≡ q.epoch → MajorityOf c.arbiters (λ a. IsMember (ballot_of q a) w.ballots) →
          (prev : Option Plan) → t.prev ≡ prev → AtLeast p.epoch prev → SoundPlanned c w.promises prev q → CameFrom c w p q
      go t entered e votes None is h planned = absurd h
      go t entered e votes (Some f) is h planned = record {
        prev = f;
        was_asked = inv.all_asked.prev_asked t f entered is;
        above = h;
        below =
            ⊎_elim (λ l. omega arith)
            (λ barred. let s = meet c.arbiters barred votes in absurd (s.1.none (ballot_of q s.0) s.2 refl (sym e)))
            (inv.attempts.prev_below t f entered is);
        planned = planned;
      }

  -- one of those that promised has what was secured, so the origin has
  origin_reached : (p q : Plan) (k : ℕ) → Secured w p k → (f : CameFrom c w p q) → (moved : SoundMoved w.promises f.prev q) →
      Reached p.epoch k moved.from.joined q.base
  origin_reached p q k s f moved = ⊎_elim later same (cases_lt p.epoch f.prev.epoch)
    where
      later : p.epoch < f.prev.epoch → Reached p.epoch k moved.from.joined q.base
      later lt =
          let of_asked = inv.stages.of_asked f.prev f.was_asked in
          let m = meet f.prev.members moved.most of_asked.1 in
          let le = inv.sayings.adopted_before (adopted_by f.prev.epoch m.0) (promised_by m.0 q.epoch m.1.joined m.1.log) m.2 m.1.sent refl f.below in
          reached_on p.epoch k m.1.joined moved.from.joined m.1.log q.base (inl (omega arith)) m.1.behind

      same : f.prev.epoch ≤ p.epoch → Reached p.epoch k moved.from.joined q.base
      same le =
          let a = f.above in
          let one : p ≡ f.prev =
          one_sync p f.prev (active_sync p s.activated) (inv.stages.of_asked f.prev f.was_asked).0 (omega arith) in
          let m = meet f.prev.members moved.most (subst (λ r. MajorityOf r.members (HasAppended w.appended p.epoch k)) one s.most) in
          let r = inv.sayings.appended_before (appended_by m.0 p.epoch m.2.own) (promised_by m.0 q.epoch m.1.joined m.1.log) m.2.sent m.1.sent refl
          (let b = f.below in omega arith) in
          reached_on p.epoch k m.1.joined moved.from.joined m.1.log q.base
          (⊎_elim (λ lt. inl lt) (λ h. inr (h.0, let i = h.1 in let j = m.2.enough in omega arith)) r) m.1.behind

  -- a log that got so far begins with it, if the bases of lower epochs do
  log_begins : (p : Plan) (k joined : ℕ) (log : List Entry) → IsMember p w.syncs → Reached p.epoch k joined log → SoundLog w.syncs w.written joined log →
      ((r : Plan) → IsMember r w.syncs → r.epoch ≡ joined → p.epoch < r.epoch → Agree k (whole w.written p) r.base) → Agree k (whole w.written p) log
  log_begins p k joined log m reached (inl none) lower =
      let z = none.0 in
      let pos = positive p (sync_plan p m) in
      absurd (⊎_elim (λ lt. omega arith) (λ h. let i = h.0 in omega arith) reached)
  log_begins p k joined log m reached (inr l) lower = ⊎_elim later same reached
    where
      later : p.epoch < joined → Agree k (whole w.written p) log
      later lt =
          let e = l.epoch_is in
          let a = lower l.plan l.synced l.epoch_is (omega arith) in
          agree_trans a (agree_prefix k l.begins a.right)

      same : (p.epoch ≡ joined) × (k ≤ length log) → Agree k (whole w.written p) log
      same h =
          let one : l.plan ≡ p = one_sync l.plan p l.synced m (l.epoch_is ∙ sym h.0) in
          agree_sym (agree_prefix k (subst (λ r. Prefix log (whole w.written r)) one l.within) h.1)

  module _ (sound : IsSound c) where
    kept_below : (n : ℕ) (p q : Plan) (k : ℕ) → Secured w p k → IsMember q w.syncs → q.epoch ≤ n → p.epoch < q.epoch →
        c.data_loss p.epoch ≡ c.data_loss q.epoch →
        Agree k (whole w.written p) q.base
    kept_below zero p q k s m le lt loss = absurd (omega arith)
    kept_below (suc n) p q k s m le lt loss =
        go (came_from p q s.activated m lt) (λ r. kept_below n p r k s)
      where
        go : CameFrom c w p q →
            ((r : Plan) → IsMember r w.syncs → r.epoch ≤ n → p.epoch < r.epoch → c.data_loss p.epoch ≡ c.data_loss r.epoch →
            Agree k (whole w.written p) r.base) →
            Agree k (whole w.written p) q.base
        go f lower = ⊎_elim
            (λ lost. absurd (let o = lost.1 p.epoch loss in omega arith))
            (λ moved.
            let o = moved.from in
            log_begins p k o.joined q.base (active_sync p s.activated) (origin_reached p q k s f moved)
            (inv.promises.sound (promised_by q.origin q.epoch o.joined q.base) o.sent)
            (λ r a e b. lower r a
            (let h = o.before in omega arith) b
            (let up = sound.rises p.epoch r.epoch (omega arith) in
            let down = sound.rises r.epoch q.epoch (let h = o.before in omega arith) in omega arith)))
            f.planned

    -- what is secured stands in the base of each later epoch
    pub kept_in_base : (p q : Plan) (k : ℕ) → Secured w p k → IsMember q w.syncs → p.epoch < q.epoch → c.data_loss p.epoch ≡ c.data_loss q.epoch →
        Agree k (whole w.written p) q.base
    kept_in_base p q k s m lt loss = kept_below q.epoch p q k s m (omega arith) lt loss
