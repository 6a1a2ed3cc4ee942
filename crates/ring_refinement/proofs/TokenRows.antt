-- Deeds of one slot that change the token or move points.
use Rattle.std.proofs.Common.{◌≡◌, ℕ, ◌==◌, Bool, true, false, cond, List, ◌++◌, Option, Some, None, refl, sym, ap, ◌∙◌, subst}
use Rattle.std.specs.Prelude.{slice_set}
use Rattle.ring_points.specs.declared.interval.Interval.{Interval}
use Rattle.ring_points.specs.Ranges.{in_ranges}
use Rattle.ring_points.specs.declared.who.Who.{Who}
use Rattle.fabric_terms.specs.declared.config.FabricConfig.{FabricConfig}
use Rattle.fabric_terms.specs.declared.message.Body.{Body}
use Rattle.fabric_terms.specs.declared.report.Report.{Report}
use Rattle.fabric_terms.specs.Places.{Place, Flying, moved_to}
use Rattle.token_core.specs.Tokens as token
use Rattle.token_core.specs.Tokens.{Freeze}
use Rattle.token_core.specs.Laws.{IsRising}
use Rattle.ring_rules.specs.Deeds as rows
use Rattle.ring_rules.specs.declared.link.Link.{Link}
use Rattle.ring_rules.specs.Rings.{Work}
use Rattle.ring_rules.specs.Slots.{slot_at}
use Rattle.fabric_lemmas.specs.Members.{IsMember}
use Rattle.ring_machine.specs.Ends.{End, end_of}
use Rattle.ring_machine.specs.Slots.{Slot}
use Rattle.ring_machine.specs.Tokens as machine
use Rattle.ring_machine.specs.Frames.{Frame}
use Rattle.ring_machine.specs.World as world
use Rattle.ring_machine.specs.World.{World, slot}
use Rattle.ring_machine.specs.Deeds.{SlotDeed, InSlot}
use Rattle.ring_machine.specs.Guards.{MayInSlot}
use Rattle.ring_machine.specs.Effects.{Outcome, outcome, effect, moved}
use Rattle.ring_machine.specs.Events.{IsSound, Does, after}
use Rattle.ring_machine.specs.Laws.{MovesInSlot, IsFlight}
use Rattle.ring_machine.proofs.LawProofs.{moves_in_slot}
use Rattle.ring_refinement.specs.Images.{machine_of, points_of, freeze_of, slot_of, token_of}
use Rattle.ring_refinement.specs.Tables.{is_wronged}
use Rattle.ring_refinement.specs.Shown.{IsFrozenFor}
use Rattle.ring_refinement.specs.Moves.{place_of, places_of, MovedBy, AreOver}
use Rattle.ring_refinement.specs.Refined.{AllSaid}
use Rattle.ring_refinement.proofs.Changes.{NewAt, only_at}
use Rattle.ring_refinement.proofs.Freezes.{undone_is, undone_frozen}
use Rattle.ring_refinement.proofs.Going.{Going, Makes, slot_deed}

-- points that the machine moves are told to be moved
pub moved_is : (first : Who) (to : world.Place) (ranges : List Interval) (place : ℕ → world.Place) →
    ◌≡◌ {A = ℕ → Place} (λ p. moved_to (place_of first to) (in_ranges p ranges) (place_of first (place p))) (λ p. place_of first (moved (points_of ranges) to place p))
moved_is first to ranges place = λ j p. one (in_ranges p ranges) (place p) j
  where
    one : (b : Bool) (q : world.Place) → moved_to (place_of first to) b (place_of first q) ≡ place_of first (cond b to q)
    one true q = refl
    one false q = refl

-- a whole flight is told to fly, and nothing else of its number
pub flying_is : (first : Who) (w : World) (giver receiver : End) (number : ℕ) (ranges : List Interval) → IsFlight w giver receiver number (points_of ranges) → (p : ℕ) →
    (in_ranges p ranges ≡ true → places_of first w p ≡ Flying giver.who number receiver.who) ×
    (places_of first w p ≡ Flying giver.who number receiver.who → in_ranges p ranges ≡ true)
flying_is first w giver receiver number ranges is p = (λ h. ap (place_of first) (is.flying p h), λ h. back (w.place p) refl h)
  where
    back : (q : world.Place) → w.place p ≡ q → place_of first q ≡ Flying giver.who number receiver.who → in_ranges p ranges ≡ true
    back (world.At who) e h = absurd (cc (h))
    back (world.InFlight g r n) e h =
        let whose : g.who ≡ giver.who = cc (h) in
        let number_is : n ≡ number = cc (h) in
        is.whole g r p whose (e ∙ ap (λ (n : ℕ). world.InFlight g r n) number_is)
    back world.Outside e h = absurd (cc (h))

-- a token without the freeze for a place
pub undone_next : (i : ℕ) (t : token.Token) (o : Option Freeze) → (rows.undone_at i t o).next_flight ≡ t.next_flight
undone_next i t None = refl
undone_next i t (Some z) = one (z.slot == i)
  where
    one : (b : Bool) → (rows.undone_if t b).next_flight ≡ t.next_flight
    one true = refl
    one false = refl

pub undone_rises : (i : ℕ) (t : token.Token) (o : Option Freeze) → IsRising t → IsRising (rows.undone_at i t o)
undone_rises i t None h = h
undone_rises i t (Some z) h = one (z.slot == i)
  where
    one : (b : Bool) → IsRising (rows.undone_if t b)
    one true = record { ranges = h.ranges; part = refl }
    one false = h

module _ {c : FabricConfig} {m : World} {x : Who} {now : ℕ} {w : Work} (sound : IsSound (machine_of c)) (g : Going c m x now w) where
  abbrev v : World
  v = g.after

  abbrev first : Who
  first = v.whole

  -- a deed moves its points from where they are
  pub moves : (i : ℕ) (l : Link) → slot_at i w.ring.slots ≡ Some l → (deed : SlotDeed) →
      MayInSlot (machine_of c) v (end_of x l.mine) now (slot_of l) (token_of w.ring.slots w.ring.token) deed →
      MovesInSlot v (end_of x l.mine) (slot_of l) deed ((after (machine_of c) v (Does x (InSlot l.mine deed))).place ≡ v.place)
  moves i l at deed may =
      subst (λ (s : Slot). MovesInSlot v (end_of x l.mine) s deed ((after (machine_of c) v (Does x (InSlot l.mine deed))).place ≡ v.place)) kept
      (moves_in_slot sound g.inv (end_of x l.mine) g.live deed (subst (λ (T : Type 0). T) may_is may))
    where
      kept : slot v (end_of x l.mine) ≡ slot_of l
      kept = g.shows.slots.kept i l at

      may_is : MayInSlot (machine_of c) v (end_of x l.mine) now (slot_of l) (token_of w.ring.slots w.ring.token) deed ≡
          MayInSlot (machine_of c) v (end_of x l.mine) (v.instance x).reading (slot v (end_of x l.mine)) (v.instance x).token deed
      may_is = let read = sym g.reading in let tok = sym g.shows.token in let s = sym kept in
          λ j. MayInSlot (machine_of c) v (end_of x l.mine) (read j) (s j) (tok j) deed

  -- A deed that undoes a freeze for the slot, after which place i has o. t is the token before that: more may be owned by it.
  pub undoes : (i : ℕ) (l : Link) → slot_at i w.ring.slots ≡ Some l → (deed : SlotDeed) →
      MayInSlot (machine_of c) v (end_of x l.mine) now (slot_of l) (token_of w.ring.slots w.ring.token) deed →
      (t : token.Token) → IsRising t → t.freeze ≡ w.ring.token.freeze → (s : Slot) (o : Option Link) (frames : List Frame) (place : ℕ → world.Place) →
      effect (machine_of c) (end_of x l.mine) now (slot_of l) (token_of w.ring.slots w.ring.token) v.place deed ≡
      outcome s (machine.undone l.mine (token_of w.ring.slots t) (freeze_of w.ring.slots t.freeze)) frames place →
      NewAt c x (frames ++ v.sent) w.ring.slots i l.mine w.ring.next_session s o → (accused : List Who) →
      ((y : Who) → IsMember y w.ring.accused → IsMember y accused) → (is_wronged s.state ≡ true → IsMember s.far.who accused) →
      (sent : List (Who × Body)) → (AllSaid c.lease (frames ++ v.sent) x w.sent → AllSaid c.lease (frames ++ v.sent) x sent) → (told : List Report) →
      ((k : ℕ) (P : ℕ → Place) → MovedBy x w.told k P w.ring.token.next_flight (places_of first v) → MovedBy x told k P t.next_flight (λ p. place_of first (place p))) →
      (AreOver (machine_of c) v w.told → AreOver (machine_of c) v told) →
      Going c m x now
      (record { ring = record w.ring { slots = slice_set w.ring.slots i o; token = rows.undone i t; accused = accused }; sent = sent; told = told })
  undoes i l at deed may t rises freeze s o frames place is new accused accuses wrongs sent sends told leads over =
      slot_deed sound g i l at deed may u
      (subst (λ (q : Outcome). Makes c x v w i l.mine w.ring.next_session q u) (sym is) (record {
        placed = o;
        slots = refl;
        new = new;
        me = refl;
        counter = refl;
        stays = g.stays;
        token = sym (undone_is w.ring.slots i l at (only_at g.shows.slots i l at) o t t.freeze frozen refl);
        rises = undone_rises i t t.freeze rises;
        frozen = undone_frozen w.ring.slots i l at (only_at g.shows.slots i l at) o t t.freeze frozen refl;
        accuses = accuses;
        wrongs = wrongs;
        sent = sends;
        moved = λ k P h. subst (λ (n : ℕ). MovedBy x told k P n (λ p. place_of first (place p))) (sym (undone_next i t t.freeze)) (leads k P h);
        over = over;
      }))
    where
      u : Work
      u = record { ring = record w.ring { slots = slice_set w.ring.slots i o; token = rows.undone i t; accused = accused }; sent = sent; told = told }

      frozen : (z : Freeze) → t.freeze ≡ Some z → IsFrozenFor w.ring.slots z.slot
      frozen z h = g.shows.frozen z (sym freeze ∙ h)
