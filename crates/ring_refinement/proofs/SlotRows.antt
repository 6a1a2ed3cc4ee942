-- Deeds of one slot that leave token and places: its link changes, or goes; and the sessions that a frame can meet.
use Rattle.std.proofs.Common.{◌≡◌, ℕ, ◌+◌, ◌<◌, ◌==◌, ◌&&◌, true, false, List, [], ◌∷◌, ◌++◌, length, Option, Some, None, refl, sym, ap, ◌∙◌, subst, arith}
use Rattle.std.specs.Prelude.{slice_set}
use Rattle.std.proofs.lemmas.Bool.{eqb-true, and_parts, both_ways}
use Rattle.ring_points.specs.declared.who.Who.{Who}
use Rattle.ring_points.specs.Whos.{same_who}
use Rattle.fabric_terms.specs.declared.config.FabricConfig.{FabricConfig}
use Rattle.fabric_terms.specs.declared.message.Body.{Body}
use Rattle.fabric_terms.specs.declared.report.Report.{Report}
use Rattle.fabric_terms.specs.Places.{Place}
use Rattle.join_phases.specs.declared.phases.Phase.{Phase}
use Rattle.join_phases.specs.declared.phases.Phase.TheVariants as phase
use Rattle.join_phases.specs.Phases.{is_left, bound_phase, holding_phase}
use Rattle.token_core.specs.Tokens.{Freeze}
use Rattle.ring_rules.specs.declared.link.Link.{Link}
use Rattle.ring_rules.specs.declared.link.LinkState.{LinkState}
use Rattle.ring_rules.specs.declared.link.LinkState.TheVariants as state
use Rattle.ring_rules.specs.Rings.{Work}
use Rattle.ring_rules.specs.Slots.{slot_at, slot_where, of_session}
use Rattle.ring_rules.specs.Deeds.{SessionRow, in_slot, in_found, in_session}
use Rattle.fabric_lemmas.specs.Members.{IsMember}
use Rattle.ring_machine.specs.Ends.{End, end_of}
use Rattle.ring_machine.specs.Slots.{Slot, is_active}
use Rattle.ring_machine.specs.Frames.{Frame}
use Rattle.ring_machine.specs.World.{World}
use Rattle.ring_machine.specs.Deeds.{SlotDeed}
use Rattle.ring_machine.specs.Guards.{MayInSlot, IsAlone}
use Rattle.ring_machine.specs.Effects.{Outcome, outcome, effect, stepped}
use Rattle.ring_machine.specs.Events.{IsSound}
use Rattle.ring_machine.proofs.DeedSteps.{DeedsDone}
use Rattle.ring_machine.proofs.Lists.{IsMember-append_right}
use Rattle.ring_points.proofs.Whos.{same_who-true}
use Rattle.ring_refinement.specs.Images.{machine_of, state_of, slot_of, token_of, number_of, freeze_of}
use Rattle.ring_refinement.specs.Tables.{is_over, is_wronged, SoundLink}
use Rattle.ring_refinement.specs.Moves.{places_of, MovedBy, AreOver}
use Rattle.ring_refinement.specs.Refined.{Said, AllSaid}
use Rattle.ring_refinement.proofs.Places.{found_at, set_other}
use Rattle.ring_refinement.proofs.Telling.{all_said_both}
use Rattle.ring_refinement.proofs.Changes.{open_shown, StandsAlone, stays, goes, sound_later}
use Rattle.ring_refinement.proofs.Freezes.{freeze_put, frozen_put, not_frozen, freeze_other, frozen_other, freeze_kept}
use Rattle.ring_refinement.proofs.Going.{Going, Makes, slot_deed, deed_going}

pub bound_stays : (p : Phase) → is_left p ≡ false → is_left (bound_phase p) ≡ false
bound_stays (phase.Seeking q) h = refl
bound_stays (phase.Linked q) h = h
bound_stays (phase.Routing q) h = h
bound_stays (phase.Left q) h = h

pub holding_stays : (p : Phase) → is_left p ≡ false → is_left (holding_phase p) ≡ false
holding_stays (phase.Seeking q) h = h
holding_stays (phase.Linked q) h = refl
holding_stays (phase.Routing q) h = h
holding_stays (phase.Left q) h = h

module _ {c : FabricConfig} {m : World} {x : Who} {now : ℕ} {w : Work} (sound : IsSound (machine_of c)) (g : Going c m x now w) where
  abbrev v : World
  v = g.after

  -- the reports so far lead to where the points are
  abbrev pub Led : List Report → ℕ → (ℕ → Place) → Type 0
  Led rs k P = MovedBy x rs k P w.ring.token.next_flight (places_of v.whole v)

  -- what else changes with a slot: the phase, what is sent and what is told, which moves nothing
  pub record Besides (frames : List Frame) (p : Phase) (sent : List (Who × Body)) (told : List Report) : Type 0 where
    pub stays : is_left p ≡ false
    pub sends : AllSaid c.lease (frames ++ v.sent) x w.sent → AllSaid c.lease (frames ++ v.sent) x sent
    pub leads : (k : ℕ) (P : ℕ → Place) → Led w.told k P → Led told k P
    pub over : AreOver (machine_of c) v w.told → AreOver (machine_of c) v told

  pub nothing_besides : (frames : List Frame) → Besides frames w.ring.phase w.sent w.told
  nothing_besides frames = record { stays = g.stays; sends = λ h. h; leads = λ k P h. h; over = λ h. h }

  -- one message more, whose image is sent with the deed
  pub one_said : (frame : Frame) (to : Who) (b : Body) → Said c.lease (frame ∷ v.sent) x to b → (p : Phase) → is_left p ≡ false →
      Besides (frame ∷ []) p (w.sent ++ (to, b) ∷ []) w.told
  one_said frame to b said p on_ring = record {
    stays = on_ring;
    sends = λ h. all_said_both c.lease (frame ∷ v.sent) x w.sent ((to, b) ∷ []) h (said, tt);
    leads = λ k P h. h;
    over = λ h. h;
  }

  -- the work with another link at a place
  abbrev pub with_slot : ℕ → Option Link → Phase → List (Who × Body) → List Report → Work
  with_slot i o p sent told =
      record { ring = record w.ring { slots = slice_set w.ring.slots i o; phase = p }; sent = sent; told = told }

  -- the link k takes the place of l
  pub puts : (i : ℕ) (l : Link) → slot_at i w.ring.slots ≡ Some l → (deed : SlotDeed) →
      MayInSlot (machine_of c) v (end_of x l.mine) now (slot_of l) (token_of w.ring.slots w.ring.token) deed → (k : Link) (frames : List Frame) →
      effect (machine_of c) (end_of x l.mine) now (slot_of l) (token_of w.ring.slots w.ring.token) v.place deed ≡
      outcome (slot_of k) (token_of w.ring.slots w.ring.token) frames v.place → k.mine ≡ l.mine → SoundLink c x v.sent k → StandsAlone w.ring.slots i k →
      (l.state ≡ state.Bound → k.state ≡ state.Bound) → (is_wronged (state_of k.state) ≡ true → IsMember k.peer w.ring.accused) →
      (p : Phase) (sent : List (Who × Body)) (told : List Report) → Besides frames p sent told → Going c m x now (with_slot i (Some k) p sent told)
  puts i l at deed may k frames is mine is_sound alone bound wrongs p sent told b =
      slot_deed sound g i l at deed may (with_slot i (Some k) p sent told)
      (subst (λ (o : Outcome). Makes c x v w i l.mine w.ring.next_session o (with_slot i (Some k) p sent told)) (sym is) (record {
        placed = Some k;
        slots = refl;
        new = stays k refl (record {
          numbered = mine;
          below = g.shows.slots.below i l at;
          shown = refl;
          sound = sound_later c x v.sent (frames ++ v.sent) k (λ f h. IsMember-append_right f frames v.sent h) is_sound;
          alone = alone;
        });
        me = refl;
        counter = refl;
        stays = b.stays;
        token = let e = freeze_put w.ring.slots i l at k mine w.ring.token.freeze in λ j. record (token_of w.ring.slots w.ring.token) { freeze = sym e j };
        rises = g.shows.rises;
        frozen = λ z h. frozen_put w.ring.slots i l at k bound z.slot (g.shows.frozen z h);
        accuses = λ y h. h;
        wrongs = wrongs;
        sent = b.sends;
        moved = b.leads;
        over = b.over;
      }))

  -- the link goes
  pub drops : (i : ℕ) (l : Link) → slot_at i w.ring.slots ≡ Some l → (deed : SlotDeed) →
      MayInSlot (machine_of c) v (end_of x l.mine) now (slot_of l) (token_of w.ring.slots w.ring.token) deed → (t : Slot) (frames : List Frame) →
      effect (machine_of c) (end_of x l.mine) now (slot_of l) (token_of w.ring.slots w.ring.token) v.place deed ≡
      outcome t (token_of w.ring.slots w.ring.token) frames v.place → is_over t.state ≡ true → (l.state ≡ state.Bound → ⊥) →
      (is_wronged t.state ≡ true → IsMember t.far.who w.ring.accused) →
      (p : Phase) (sent : List (Who × Body)) (told : List Report) → Besides frames p sent told → Going c m x now (with_slot i None p sent told)
  drops i l at deed may t frames is gone not_bound wrongs p sent told b =
      slot_deed sound g i l at deed may (with_slot i None p sent told)
      (subst (λ (o : Outcome). Makes c x v w i l.mine w.ring.next_session o (with_slot i None p sent told)) (sym is) (record {
        placed = None;
        slots = refl;
        new = goes refl gone;
        me = refl;
        counter = refl;
        stays = b.stays;
        token = let e = freeze_other w.ring.slots i l at None w.ring.token.freeze (λ z h. not_frozen w.ring.slots i l at not_bound z.slot (g.shows.frozen z h)) in
            λ j. record (token_of w.ring.slots w.ring.token) { freeze = sym e j };
        rises = g.shows.rises;
        frozen = λ z h. frozen_other w.ring.slots i l at None z.slot (not_frozen w.ring.slots i l at not_bound z.slot (g.shows.frozen z h)) (g.shows.frozen z h);
        accuses = λ y h. h;
        wrongs = wrongs;
        sent = b.sends;
        moved = b.leads;
        over = b.over;
      }))

  -- a link that accuses or accused is of one in the list
  pub wronged : (i : ℕ) (l : Link) → slot_at i w.ring.slots ≡ Some l → is_wronged (state_of l.state) ≡ true → IsMember l.peer w.ring.accused
  wronged i l at h =
      let kept : (v.instance x).slots l.mine ≡ slot_of l = g.shows.slots.kept i l at in
      subst (λ (s : Slot). IsMember s.far.who w.ring.accused) kept (g.shows.accused l.mine (subst (λ (s : Slot). is_wronged s.state ≡ true) (sym kept) h))

  -- a link with the next number takes a free place
  pub begins : (i : ℕ) → i < length w.ring.slots → slot_at i w.ring.slots ≡ None → (k : Link) (frames : List Frame) →
      DeedsDone (machine_of c) v x
      (stepped v (end_of x w.ring.next_session) (w.ring.next_session + 1) (outcome (slot_of k) (token_of w.ring.slots w.ring.token) frames v.place)) →
      k.mine ≡ w.ring.next_session → SoundLink c x v.sent k → StandsAlone w.ring.slots i k → is_wronged (state_of k.state) ≡ false →
      (sent : List (Who × Body)) → (AllSaid c.lease (frames ++ v.sent) x w.sent → AllSaid c.lease (frames ++ v.sent) x sent) →
      Going c m x now (record w { ring = record w.ring { slots = slice_set w.ring.slots i (Some k); next_session = w.ring.next_session + 1 }; sent = sent })
  begins i lt free k frames d mine is_sound alone unwronged sent sends =
      deed_going sound g i w.ring.next_session (w.ring.next_session + 1) (outcome (slot_of k) (token_of w.ring.slots w.ring.token) frames v.place)
      (record w { ring = record w.ring { slots = slice_set w.ring.slots i (Some k); next_session = w.ring.next_session + 1 }; sent = sent })
      d lt (omega arith) (λ l at. absurd (cc (free, at)))
      (λ j l at e. absurd (let b = g.shows.slots.below j l at in omega arith)) (record {
        placed = Some k;
        slots = refl;
        new = stays k refl (record {
          numbered = mine;
          below = omega arith;
          shown = refl;
          sound = sound_later c x v.sent (frames ++ v.sent) k (λ f h. IsMember-append_right f frames v.sent h) is_sound;
          alone = alone;
        });
        me = refl;
        counter = refl;
        stays = g.stays;
        token = let e = freeze_elsewhere in λ j. record (token_of w.ring.slots w.ring.token) { freeze = sym e j };
        rises = g.shows.rises;
        frozen = λ z h. let f = g.shows.frozen z h in record {
          link = f.link;
          at = set_other w.ring.slots i (Some k) z.slot (apart z h) ∙ f.at;
          bound = f.bound;
        };
        accuses = λ y h. h;
        wrongs = λ h. absurd (both_ways _ unwronged h);
        sent = sends;
        moved = λ n P h. h;
        over = λ h. h;
      })
    where
      apart : (z : Freeze) → w.ring.token.freeze ≡ Some z → i ≡ z.slot → ⊥
      apart z h e =
          let f = g.shows.frozen z h in
          let there : slot_at i w.ring.slots ≡ Some f.link = subst (λ (j : ℕ). slot_at j w.ring.slots ≡ Some f.link) (sym e) f.at in
          cc (there, free)

      freeze_elsewhere : freeze_of (slice_set w.ring.slots i (Some k)) w.ring.token.freeze ≡
          freeze_of w.ring.slots w.ring.token.freeze
      freeze_elsewhere = freeze_kept w.ring.slots (slice_set w.ring.slots i (Some k)) w.ring.token.freeze
          (λ z h. ap number_of (set_other w.ring.slots i (Some k) z.slot (apart z h)))

  -- no open session is with y, where no link of the table has one
  pub alone_of : (y : Who) → ((i : ℕ) (l : Link) → slot_at i w.ring.slots ≡ Some l → is_active (state_of l.state) ≡ true → l.peer ≡ y → ⊥) →
      IsAlone y (v.instance x).slots
  alone_of y none =
      open_shown g.shows.slots is_active refl (λ s. s.far.who ≡ y → ⊥) (λ i l at active far. none i l at active far)

  -- what a frame does in its session, and where there is none
  pub in_its_session : (from : Who) (theirs own : ℕ) (row : SessionRow) (none : Work → Work) (P : End → End → Type 0) → P (end_of from theirs) (end_of x own) →
      ((i : ℕ) (l : Link) → slot_at i w.ring.slots ≡ Some l → P (end_of l.peer l.yours) (end_of x l.mine) → (st : LinkState) → l.state ≡ st → Going c m x now (row i l st w)) →
      (slot_where (of_session from own theirs) w.ring.slots ≡ None → Going c m x now (none w)) → Going c m x now (in_session from theirs own row none w)
  in_its_session from theirs own row none P came known unknown = go (slot_where (of_session from own theirs) w.ring.slots) refl
    where
      there : (i : ℕ) (o : Option Link) → slot_at i w.ring.slots ≡ o → of_session from own theirs o ≡ true → Going c m x now (in_slot row i o w)
      there i None at t = absurd (cc (t))
      there i (Some l) at t =
          let a = and_parts (same_who l.peer from && l.mine == own) (l.yours == theirs) t in
          let b = and_parts (same_who l.peer from) (l.mine == own) a.0 in
          let p : l.peer ≡ from = same_who-true l.peer from b.0 in
          let n : l.mine ≡ own = eqb-true l.mine own b.1 in
          let y : l.yours ≡ theirs = eqb-true l.yours theirs a.1 in
          known i l at
          (subst (λ (z : Who). P (end_of z l.yours) (end_of x l.mine)) (sym p)
          (subst (λ (z : ℕ). P (end_of from z) (end_of x l.mine)) (sym y) (subst (λ (z : ℕ). P (end_of from theirs) (end_of x z)) (sym n) came)))
          l.state refl

      go : (o : Option ℕ) → slot_where (of_session from own theirs) w.ring.slots ≡ o → Going c m x now (in_found row none o w)
      go None e = unknown e
      go (Some i) e = let f = found_at (of_session from own theirs) w.ring.slots i e in there i (slot_at i w.ring.slots) refl f.passes
