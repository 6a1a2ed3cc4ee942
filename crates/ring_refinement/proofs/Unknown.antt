-- A frame of a session that the table does not have is answered by Gone.
use Rattle.std.proofs.Common.{◌≡◌, ℕ, ◌==◌, ◌&&◌, true, false, [], ◌∷◌, Some, None, refl, sym, ap, ◌∙◌, subst, inl, inr, ⊎_elim}
use Rattle.std.proofs.lemmas.Bool.{eq-eqb, and_from, both_ways}
use Rattle.ring_points.specs.declared.who.Who.{Who}
use Rattle.ring_points.specs.Whos.{same_who}
use Rattle.fabric_terms.specs.declared.config.FabricConfig.{FabricConfig}
use Rattle.fabric_terms.specs.declared.message.Body.TheVariants as body
use Rattle.ring_rules.specs.declared.link.LinkState.{LinkState}
use Rattle.ring_rules.specs.declared.link.LinkState.TheVariants as state
use Rattle.ring_rules.specs.Rings.{Slots, Work}
use Rattle.ring_rules.specs.declared.link.Link.{Link}
use Rattle.ring_rules.specs.Slots.{is_hello, slot_at, slot_where, of_session}
use Rattle.ring_rules.specs.Deeds.{answer_unknown}
use Rattle.fabric_lemmas.specs.Members.{IsMember}
use Rattle.ring_machine.specs.Ends.{End, end_of, replaced}
use Rattle.ring_machine.specs.Slots.{Slot, State, Unused, Asking, Abandoned, Parted, Ended, is_used, is_settled}
use Rattle.ring_machine.specs.Frames.{Frame, Gone, ends_of}
use Rattle.ring_machine.specs.World.{Instance, World, slot, unborn}
use Rattle.ring_machine.specs.Deeds.{UnknownDenied, InSlot}
use Rattle.ring_machine.specs.Guards.{Came, IsUnknown, other_session, abandoned, parted}
use Rattle.ring_machine.specs.Effects.{outcome, stepped}
use Rattle.ring_machine.specs.Events.{IsSound}
use Rattle.ring_machine.proofs.DeedSteps.{DeedsDone, deed_done}
use Rattle.ring_points.proofs.Whos.{same_who-refl}
use Rattle.ring_machine.proofs.Whos.{replaced_cases}
use Rattle.ring_refinement.specs.Images.{machine_of, state_of, slot_of}
use Rattle.ring_refinement.specs.Tables.{is_over, Has}
use Rattle.ring_refinement.specs.Shown.{ShowsInstance}
use Rattle.ring_refinement.proofs.Places.{none_at}
use Rattle.ring_refinement.proofs.Changes.{kept_at, shows_later}
use Rattle.ring_refinement.proofs.Telling.{over_later, all_said_later, all_said_both}
use Rattle.ring_refinement.proofs.Going.{Going, own_stepped, beside_then, beside_done}

-- a function with the value that it has
replaced_same : (f : ℕ → Slot) (n : ℕ) → replaced f n (f n) ≡ f
replaced_same f n = λ j k. replaced_cases (λ s. s ≡ f k) f n k (f n) (λ e. ap f e) (λ e. refl) j

pub hello_is : (s : LinkState) → is_hello s ≡ true → s ≡ state.Hello
hello_is state.Hello h = refl
hello_is s h = absurd (cc (h))

asking_is : (s : LinkState) → state_of s ≡ Asking → s ≡ state.Hello
asking_is state.Hello h = refl
asking_is state.Offered h = absurd (cc (h))
asking_is state.Bound h = absurd (cc (h))
asking_is state.Parting h = absurd (cc (h))
asking_is state.Accused h = absurd (cc (h))
asking_is state.Discharged h = absurd (cc (h))
asking_is state.Heir h = absurd (cc (h))

-- the table has the link of this number, which greets
pub record Greeting (slots : Slots) (number : ℕ) (s : Slot) : Type 0 where
  pub place : ℕ
  pub link : Link
  pub at : slot_at place slots ≡ Some link
  pub numbered : link.mine ≡ number
  pub greets : link.state ≡ state.Hello
  pub kept : s ≡ slot_of link

-- a slot that asks is in the table
pub asking_held : {c : FabricConfig} {m : World} {x : Who} {now : ℕ} {w : Work} → (g : Going c m x now w) → (number : ℕ) →
    (slot g.after (end_of x number)).state ≡ Asking → Greeting w.ring.slots number (slot g.after (end_of x number))
asking_held {x = x} {w = w} g number a = ⊎_elim (λ h. absurd (let b = a in cc (h, b))) (λ e. there e) (g.shows.slots.over number)
  where
    there : Has w.ring.slots number → Greeting w.ring.slots number (slot g.after (end_of x number))
    there e =
        let kept = kept_at g.shows.slots number e in
        record {
          place = e.place;
          link = e.link;
          at = e.at;
          numbered = e.numbered;
          greets = asking_is e.link.state (sym (ap (λ (s : Slot). s.state) kept) ∙ a);
          kept = kept;
        }

module _ {c : FabricConfig} {m : World} {x : Who} {now : ℕ} {w : Work} (sound : IsSound (machine_of c)) (g : Going c m x now w) where
  abbrev v : World
  v = g.after

  -- a deed that changes nothing of its instance, and sends this
  denied : (from : Who) (theirs own : ℕ) → Came v.sent (end_of from theirs) (end_of x own) → IsUnknown (slot v (end_of x own)) (end_of from theirs) →
      Going c m x now (answer_unknown from theirs own w)
  denied from theirs own came unknown = record {
    after = u;
    inv = d.inv;
    live = d.live;
    beside = beside_then m v u x g.beside (beside_done (machine_of c) v u x d (ap (λ (i : Instance). i.pairs) own_is));
    dies = λ y h. d.later.dies y (g.dies y h);
    reading = d.rest.reading ∙ g.reading;
    stays = g.stays;
    shows = subst (λ (i : Instance). ShowsInstance c x u.sent i w.ring) (sym own_is) (record {
      me = g.shows.me;
      running = g.shows.running;
      token = g.shows.token;
      next = g.shows.next;
      slots = shows_later g.shows.slots u.sent more;
      accused = g.shows.accused;
      rises = g.shows.rises;
      frozen = g.shows.frozen;
    });
    sent = all_said_both c.lease u.sent x w.sent ((from, body.Gone own theirs 0 false) ∷ []) (all_said_later c.lease v.sent u.sent x w.sent more g.sent)
        (record { image = inl refl; rises = refl; no_ruling = refl }, tt);
    moved = g.moved;
    over = over_later (machine_of c) v u w.told (λ y h. d.later.dies y h) g.over;
  }
    where
      frame : Frame
      frame = Gone (end_of x own) (end_of from theirs) 0 false

      u : World
      u = stepped v (end_of x own) (v.instance x).next_session (outcome ((v.instance x).slots own) (v.instance x).token (frame ∷ []) v.place)

      d : DeedsDone (machine_of c) v x u
      d = deed_done sound g.inv x g.live (InSlot own (UnknownDenied (end_of from theirs))) (came, unknown)

      own_is : u.instance x ≡ v.instance x
      own_is = own_stepped v x own (v.instance x).next_session (outcome ((v.instance x).slots own) (v.instance x).token (frame ∷ []) v.place) ∙
          ap (λ (f : ℕ → Slot). record (v.instance x) { slots = f }) (replaced_same (v.instance x).slots own)

      more : (f : Frame) → IsMember f v.sent → IsMember f u.sent
      more f h = inr h

  -- the slot is used, asks no more and is not with the sender, who is not accused
  pub unknown_going : (from : Who) (theirs own : ℕ) → (frame : Frame) → IsMember frame v.sent → ends_of frame ≡ Some (end_of from theirs, end_of x own) →
      is_used (slot v (end_of x own)).state ≡ true → ((slot v (end_of x own)).state ≡ Asking → ⊥) → (IsMember from w.ring.accused → ⊥) →
      slot_where (of_session from own theirs) w.ring.slots ≡ None → Going c m x now (answer_unknown from theirs own w)
  unknown_going from theirs own frame was ends used asks trusted none = denied from theirs own (record { frame = frame; was_sent = was; ends = ends })
      (⊎_elim (λ h. over_is (slot v (end_of x own)).state refl h) (λ e. there e) (g.shows.slots.over own))
    where
      over_is : (s : State) → (slot v (end_of x own)).state ≡ s → is_over s ≡ true → IsUnknown (slot v (end_of x own)) (end_of from theirs)
      over_is Unused e h = absurd (cc (e, used))
      over_is Abandoned e h = abandoned e
      over_is Parted e h = parted e
      over_is Ended e h = other_session (cc (e)) (λ f. trusted (subst (λ (f : End). IsMember f.who w.ring.accused) f (g.shows.accused own (cc (e)))))
      over_is s e h = absurd (cc (h))

      there : Has w.ring.slots own → IsUnknown (slot v (end_of x own)) (end_of from theirs)
      there e = other_session (settled e.link.state refl) (λ f. both_ways _ fails (passes (sym (ap (λ (s : Slot). s.far) kept) ∙ f)))
        where
          kept : slot v (end_of x own) ≡ slot_of e.link
          kept = kept_at g.shows.slots own e

          state_is : (slot v (end_of x own)).state ≡ state_of e.link.state
          state_is = ap (λ (s : Slot). s.state) kept

          settled : (s : LinkState) → e.link.state ≡ s → is_settled (slot v (end_of x own)).state ≡ true
          settled state.Hello h = absurd (asks (state_is ∙ ap state_of h))
          settled state.Offered h = let k = ap state_of h in cc (state_is, k)
          settled state.Bound h = let k = ap state_of h in cc (state_is, k)
          settled state.Parting h = let k = ap state_of h in cc (state_is, k)
          settled state.Accused h = let k = ap state_of h in cc (state_is, k)
          settled state.Discharged h = let k = ap state_of h in cc (state_is, k)
          settled state.Heir h = let k = ap state_of h in cc (state_is, k)

          fails : (same_who e.link.peer from && e.link.mine == own) && e.link.yours == theirs ≡ false
          fails = none_at (of_session from own theirs) w.ring.slots none e.place e.link e.at

          passes : end_of e.link.peer e.link.yours ≡ end_of from theirs → (same_who e.link.peer from && e.link.mine == own) && e.link.yours == theirs ≡ true
          passes f =
              let p : e.link.peer ≡ from = ap (λ (z : End). z.who) f in
              let y : e.link.yours ≡ theirs = ap (λ (z : End). z.number) f in
              and_from _ _ (and_from _ _ (subst (λ (z : Who). same_who z from ≡ true) (sym p) (same_who-refl from)) (eq-eqb e.link.mine own e.numbered))
              (eq-eqb e.link.yours theirs y)

  -- a used slot is of an instance that started
  pub started : (y : Who) (n : ℕ) → is_used (slot v (end_of y n)).state ≡ true → y.instance ≡ 0 → ⊥
  started y n used z =
      let blank : v.instance y ≡ unborn = g.inv.blank y (g.inv.no_zeroth y z) in
      let none : is_used (unborn.slots n).state ≡ true = subst (λ (i : Instance). is_used (i.slots n).state ≡ true) blank used in
      cc (none)
