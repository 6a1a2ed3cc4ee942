-- What an arbitrator does, and that the machine follows it; what it does beside its table changes nothing.
use Rattle.std.proofs.Common.{◌≡◌, ℕ, ◌<◌, false, [], refl, sym, ap, ◌∙◌, subst, ⊎_elim}
use Rattle.fabric_terms.specs.declared.config.FabricConfig.{FabricConfig}
use Rattle.fabric_terms.specs.declared.message.Body.{Body}
use Rattle.fabric_terms.specs.declared.message.Message.{Message}
use Rattle.ring_points.specs.declared.who.Who.{Who}
use Rattle.ring_points.specs.Whos.{arbiter_actor}
use Rattle.ring_machine.specs.Frames.{Frame}
use Rattle.ring_machine.specs.Invariant.{Invariant}
use Rattle.fabric_lemmas.specs.Members.{IsMember}
use Rattle.ring_machine.specs.World as machine
use Rattle.ring_machine.specs.World.{Instance, Dead}
use Rattle.ring_refinement.specs.Images.{machine_of}
use Rattle.ring_refinement.specs.Moves.{place_of}
use Rattle.ring_rules.specs.Arbiters.{Table, first_accuser, first_claimer, table_after}
use Rattle.world_rules.specs.Arbiters.{ArbiterState, beside_did}
use Rattle.world_rules.specs.Nodes.{boots_of}
use Rattle.world_rules.specs.Uppers.{Upper, Did}
use Rattle.world_rules.specs.Worlds.{World, posted, arbiter_who, arbiter_acted}
use Rattle.world_rules.specs.Above.{StaysAbove, is_ring_frame}
use Rattle.ring_safety.proofs.Follows.{Follows, ShowsTables, Known, shows_still, known_still, known_other, clock_still, none_passes, posted_cases}
use Rattle.run_facts.proofs.Kept.{boots_still, no_boots, no_entries}
use Rattle.run_facts.proofs.Tables.{table_of, table_stays}
use Rattle.ring_safety.proofs.Tales.{Tale, tale_on, tale_in}

-- what an arbitrator does, in the machine's worlds before and after
pub record Rule {a : Upper} (c : FabricConfig) (w : World a) (m v : machine.World) (arbiter : ℕ) (d : Did (ArbiterState a)) : Type 0 where
  pub inv : Invariant (machine_of c) v
  pub time : v.time ≡ m.time
  pub starts : v.starts ≡ m.starts
  pub instances : v.instance ≡ m.instance
  pub whole : v.whole ≡ m.whole
  pub places : v.place ≡ m.place
  pub sent : (f : Frame) → IsMember f m.sent → IsMember f v.sent
  pub tables : ShowsTables v.first_accuser v.first_claimer (λ q. table_of (arbiter_acted a w arbiter d).world (arbiter_actor q))
  pub says : (s : Who × Body) → IsMember s d.sent → Known c.lease v.sent (record { from = arbiter_who arbiter; to = s.0; body = s.1 })
  pub boots : boots_of d.records ≡ 0
  pub silent : d.told ≡ []

pub rule_follows : {a : Upper} (c : FabricConfig) (w : World a) (t : Tale) (m v : machine.World) (arbiter : ℕ) (d : Did (ArbiterState a)) →
    Follows c w t m → Rule c w m v arbiter d →
    Follows c (arbiter_acted a w arbiter d).world (tale_in (arbiter_acted a w arbiter d).entry t) v
rule_follows {a = a} c w t m v arbiter d f e =
    subst (λ rs. Follows c (arbiter_acted a w arbiter d).world (tale_on (arbiter_who arbiter) rs t) v) (sym e.silent) (record {
      inv = e.inv;
      time = e.time ∙ f.time;
      whole = e.whole ∙ f.whole;
      starts = λ q. (λ i. e.starts i q) ∙ (f.starts q ∙ sym (boots_still w (arbiter_who arbiter) d.records d.sent e.boots q));
      shows = λ q s h. let x : Who = s.node.ring.me in shows_still c m v e.sent x s.node.ring (same x) (f.shows q s h);
      clock = λ q s h stay.
          let x : Who = s.node.ring.me in
          clock_still (m.instance x) (v.instance x) s.reading s.pairs (same x) (f.clock q s h stay);
      runs = λ x h.
          let r = f.runs x (sym (ap (λ (i : Instance). i.phase) (same x)) ∙ h) in
          record { state = r.state; here = r.here; name = r.name; stays = r.stays };
      tables = e.tables;
      frames = known_frames;
      placed = λ p. f.placed p ∙ (λ i. place_of t.whole (sym e.places i p));
      moved = f.moved;
      new = f.new;
      below = λ x number h. subst (λ (i : Instance). number < i.token.next_flight) (sym (same x)) (f.below x number h);
      over = λ x h. subst (λ (i : Instance). Dead (machine_of c) i) (sym (same x)) (f.over x h);
    })
  where
    same : (x : Who) → v.instance x ≡ m.instance x
    same x = λ i. e.instances i x

    known_frames : (g : Message) → IsMember g (posted (arbiter_who arbiter) d.sent w.frames) → Known c.lease v.sent g
    known_frames g h =
        ⊎_elim (λ k. known_still c m v e.sent c.lease g (f.frames g k)) (λ k. subst (Known c.lease v.sent) (sym k.2) (e.says k.0 k.1))
        (posted_cases (arbiter_who arbiter) d.sent w.frames g h)

module _ (a : Upper) (c : FabricConfig) (w : World a) (t : Tale) (m : machine.World) (f : Follows c w t m) (arbiter : ℕ) (g : Message)
    (s : ArbiterState a) where
  abbrev me : Who
  me = arbiter_who arbiter

  -- what is neither an accusation nor a claim changes nothing
  pub aside : (d : Did (ArbiterState a)) → d.told ≡ [] → boots_of d.records ≡ 0 → ((z : Table) → table_after z d.records ≡ z) →
      ((q : Who × Body) → IsMember q d.sent → is_ring_frame q.1 ≡ false) → Rule c w m m arbiter d
  aside d silent boots none plain = record {
    inv = f.inv;
    time = refl;
    starts = refl;
    instances = refl;
    whole = refl;
    places = refl;
    sent = λ e k. k;
    tables = record {
      accusers = λ q victim.
          f.tables.accusers q victim ∙ ap (λ (z : Table). first_accuser victim z.accusations) (sym (table_stays w me d.records d.sent none (arbiter_actor q)));
      claimers = λ q victim round later.
          f.tables.claimers q victim round later ∙ ap (λ (z : Table). first_claimer victim round z.claims) (sym (table_stays w me d.records d.sent none (arbiter_actor q)));
    };
    says = λ q k. known_other c.lease m.sent me q.0 q.1 (plain q k);
    boots = boots;
    silent = silent;
  }

  pub beside : StaysAbove a → Rule c w m m arbiter (beside_did a s (a.beside_step c arbiter s.beside g))
  beside stays =
      let out = stays.beside c arbiter s.beside g in
      let u : Did a.Beside = a.beside_step c arbiter s.beside g in
      aside (beside_did a s u) refl (no_boots u.records out.records) (λ z. no_entries z u.records out.records)
      (λ q k. none_passes (λ (p : Who × Body). is_ring_frame p.1) u.sent q out.sends k)
