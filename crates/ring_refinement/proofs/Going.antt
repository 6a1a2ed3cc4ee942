-- A step on its way, as long as its node has not left: the machine's world that shows it, and what a deed makes of both.
use Rattle.std.proofs.Common.{◌≡◌, ℕ, ◌<◌, ◌≤◌, true, false, List, [], ◌∷◌, ◌++◌, length, Option, Some, None, refl, sym, ap, ◌∙◌, subst, arith}
use Rattle.std.specs.Prelude.{slice_set}
use Rattle.std.proofs.lemmas.List.{set-get_or}
use Rattle.ring_points.specs.declared.who.Who.{Who}
use Rattle.fabric_terms.specs.declared.config.FabricConfig.{FabricConfig}
use Rattle.fabric_terms.specs.declared.message.Body.{Body}
use Rattle.fabric_terms.specs.Places.{Place}
use Rattle.join_phases.specs.Phases.{is_left}
use Rattle.token_core.specs.Laws.{IsRising}
use Rattle.token_core.specs.Tokens.{Freeze}
use Rattle.ring_rules.specs.declared.link.Link.{Link}
use Rattle.ring_rules.specs.Rings.{Slots, Work}
use Rattle.ring_rules.specs.Slots.{slot_at}
use Rattle.ring_rules.specs.Deeds.{send}
use Rattle.fabric_lemmas.specs.Members.{IsMember}
use Rattle.ring_machine.specs.Ends.{end_of, replaced}
use Rattle.ring_machine.specs.Slots.{Slot}
use Rattle.ring_machine.specs.Tokens as machine
use Rattle.ring_machine.specs.Frames.{Frame}
use Rattle.ring_machine.specs.World.{Settings, Instance, World, Live, Dead, slot}
use Rattle.ring_machine.specs.Deeds.{SlotDeed, InSlot}
use Rattle.ring_machine.specs.Guards.{MayInSlot}
use Rattle.ring_machine.specs.Effects.{Outcome, outcome, effect, changed, stepped, done}
use Rattle.ring_machine.specs.Events.{IsSound}
use Rattle.ring_machine.specs.Invariant.{Invariant}
use Rattle.ring_machine.proofs.DeedSteps.{DeedsDone, deed_done}
use Rattle.ring_machine.proofs.Lists.{IsMember-append_right}
use Rattle.ring_points.proofs.Whos.{same_who-false}
use Rattle.ring_machine.proofs.Whos.{updated_cases, replaced_cases}
use Rattle.ring_refinement.specs.Images.{machine_of, slot_of, token_of}
use Rattle.ring_refinement.specs.Tables.{is_wronged, ShowsSlots}
use Rattle.ring_refinement.specs.Shown.{IsFrozenFor, ShowsInstance}
use Rattle.ring_refinement.specs.Moves.{place_of, places_of, MovedBy, AreOver}
use Rattle.ring_refinement.specs.Refined.{Said, AllSaid, Beside}
use Rattle.ring_refinement.proofs.Places.{used_within}
use Rattle.ring_refinement.proofs.Changes.{NewAt, stays, slots_changed, shows_later, only_at, same_link, stays_alone}
use Rattle.ring_refinement.proofs.Telling.{over_later, all_said_later, all_said_both}

-- x, at the reading now and below its fence, in a world that shows the work so far; the step began in the world m
pub record Going (c : FabricConfig) (m : World) (x : Who) (now : ℕ) (w : Work) : Type 0 where
  pub after : World
  pub inv : Invariant (machine_of c) after
  pub live : Live (machine_of c) (after.instance x)
  pub beside : Beside m x after
  pub dies : (y : Who) → Dead (machine_of c) (m.instance y) → Dead (machine_of c) (after.instance y)
  pub reading : (after.instance x).reading ≡ now
  pub stays : is_left w.ring.phase ≡ false
  pub shows : ShowsInstance c x after.sent (after.instance x) w.ring
  pub sent : AllSaid c.lease after.sent x w.sent
  pub moved :
      MovedBy x w.told (m.instance x).token.next_flight (places_of after.whole m) w.ring.token.next_flight
      (places_of after.whole after)
  pub over : AreOver (machine_of c) after w.told

-- What a deed of the slot of number n, whose outcome is out in the world v, has to be of the work w, which is u then.
pub record Makes (c : FabricConfig) (x : Who) (v : World) (w : Work) (i n next : ℕ) (out : Outcome) (u : Work) : Type 0 where
  pub placed : Option Link
  pub slots : u.ring.slots ≡ slice_set w.ring.slots i placed
  pub new : NewAt c x (out.sent ++ v.sent) w.ring.slots i n next out.slot placed
  pub me : u.ring.me ≡ w.ring.me
  pub counter : u.ring.next_session ≡ next
  pub stays : is_left u.ring.phase ≡ false
  pub token : out.token ≡ token_of u.ring.slots u.ring.token
  pub rises : IsRising u.ring.token
  pub frozen : (z : Freeze) → u.ring.token.freeze ≡ Some z → IsFrozenFor u.ring.slots z.slot
  pub accuses : (y : Who) → IsMember y w.ring.accused → IsMember y u.ring.accused
  pub wrongs : is_wronged out.slot.state ≡ true → IsMember out.slot.far.who u.ring.accused
  pub sent : AllSaid c.lease (out.sent ++ v.sent) x w.sent → AllSaid c.lease (out.sent ++ v.sent) x u.sent
  pub moved : (k : ℕ) (P : ℕ → Place) → MovedBy x w.told k P w.ring.token.next_flight (places_of v.whole v) →
      MovedBy x u.told k P u.ring.token.next_flight (λ p. place_of v.whole (out.place p))
  pub over : AreOver (machine_of c) v w.told → AreOver (machine_of c) v u.told

-- what deeds of x leave, one after another
pub beside_then : (m v u : World) (x : Who) → Beside m x v → Beside v x u → Beside m x u
beside_then m v u x a b = record {
  time = b.time ∙ a.time;
  starts = b.starts ∙ a.starts;
  whole = b.whole ∙ a.whole;
  first_accuser = b.first_accuser ∙ a.first_accuser;
  first_claimer = b.first_claimer ∙ a.first_claimer;
  reading = b.reading ∙ a.reading;
  pairs = b.pairs ∙ a.pairs;
  others = λ y n. b.others y n ∙ a.others y n;
  sent = λ f h. b.sent f (a.sent f h);
}

-- what one deed leaves
pub beside_done : (k : Settings) (v u : World) (x : Who) → DeedsDone k v x u → (u.instance x).pairs ≡ (v.instance x).pairs → Beside v x u
beside_done k v u x d pairs = record {
  time = d.rest.time;
  starts = d.rest.starts;
  whole = d.rest.whole;
  first_accuser = d.rest.first_accuser;
  first_claimer = d.rest.first_claimer;
  reading = d.rest.reading;
  pairs = pairs;
  others = d.rest.others;
  sent = d.later.sent;
}

-- the instance that acted
pub own_stepped : (v : World) (x : Who) (n next : ℕ) (out : Outcome) →
    (stepped v (end_of x n) next out).instance x ≡ changed (v.instance x) n next out.slot out.token
own_stepped v x n next out =
    updated_cases (λ i. i ≡ changed (v.instance x) n next out.slot out.token) v.instance x x (changed (v.instance x) n next out.slot out.token) (λ e. refl)
    (λ a. absurd (same_who-false x x a refl))

module _ {c : FabricConfig} {m : World} {x : Who} {now : ℕ} {w : Work} (sound : IsSound (machine_of c)) (g : Going c m x now w) where
  abbrev v : World
  v = g.after

  -- a deed of number n, which place i has or gets
  pub deed_going : (i n next : ℕ) (out : Outcome) (u : Work) → DeedsDone (machine_of c) v x (stepped v (end_of x n) next out) → i < length w.ring.slots →
      w.ring.next_session ≤ next → ((l : Link) → slot_at i w.ring.slots ≡ Some l → l.mine ≡ n) →
      ((j : ℕ) (l : Link) → slot_at j w.ring.slots ≡ Some l → l.mine ≡ n → i ≡ j) → Makes c x v w i n next out u → Going c m x now u
  deed_going i n next out u d lt rises old apart made = record {
    after = stepped v (end_of x n) next out;
    inv = d.inv;
    live = d.live;
    beside = beside_then m v (stepped v (end_of x n) next out) x g.beside
        (beside_done (machine_of c) v (stepped v (end_of x n) next out) x d (ap (λ (j : Instance). j.pairs) own));
    dies = λ y h. d.later.dies y (g.dies y h);
    reading = d.rest.reading ∙ g.reading;
    stays = made.stays;
    shows = subst (λ (j : Instance). ShowsInstance c x (out.sent ++ v.sent) j u.ring) (sym own) (record {
      me = made.me ∙ g.shows.me;
      running = g.shows.running;
      token = made.token;
      next = sym made.counter;
      slots = subst (λ (z : Slots). ShowsSlots c x (out.sent ++ v.sent) z u.ring.next_session (replaced (v.instance x).slots n out.slot)) (sym made.slots)
          (subst (λ (z : ℕ). ShowsSlots c x (out.sent ++ v.sent) (slice_set w.ring.slots i made.placed) z (replaced (v.instance x).slots n out.slot))
          (sym made.counter)
          (slots_changed g.shows.slots (out.sent ++ v.sent) more i n next out.slot made.placed lt rises old apart made.new));
      accused = λ number. replaced_cases (λ s. is_wronged s.state ≡ true → IsMember s.far.who u.ring.accused) (v.instance x).slots n number out.slot
          (λ e. made.wrongs) (λ e h. made.accuses _ (g.shows.accused number h));
      rises = made.rises;
      frozen = made.frozen;
    });
    sent = made.sent (all_said_later c.lease v.sent (out.sent ++ v.sent) x w.sent more g.sent);
    moved = made.moved _ _ g.moved;
    over = over_later (machine_of c) v (stepped v (end_of x n) next out) u.told (λ y h. d.later.dies y h) (made.over g.over);
  }
    where
      own : (stepped v (end_of x n) next out).instance x ≡ changed (v.instance x) n next out.slot out.token
      own = own_stepped v x n next out

      more : (f : Frame) → IsMember f v.sent → IsMember f (out.sent ++ v.sent)
      more f h = IsMember-append_right f out.sent v.sent h

  -- the token that the ring shows
  abbrev pub tok : machine.Token
  tok = token_of w.ring.slots w.ring.token

  -- a deed in the slot of the link at place i
  pub slot_deed : (i : ℕ) (l : Link) → slot_at i w.ring.slots ≡ Some l → (deed : SlotDeed) →
      MayInSlot (machine_of c) v (end_of x l.mine) now (slot_of l) tok deed → (u : Work) →
      Makes c x v w i l.mine w.ring.next_session (effect (machine_of c) (end_of x l.mine) now (slot_of l) tok v.place deed) u → Going c m x now u
  slot_deed i l at deed may u made =
      deed_going i l.mine w.ring.next_session (effect (machine_of c) (end_of x l.mine) now (slot_of l) tok v.place deed) u
      (subst (λ (z : World). DeedsDone (machine_of c) v x z) shown (deed_done sound g.inv x g.live (InSlot l.mine deed) (subst (λ (T : Type 0). T) may_is may)))
      (used_within w.ring.slots i l at) (omega arith) (λ k b. ap (λ (z : Link). z.mine) (same_link g.shows.slots i l k at b)) (only_at g.shows.slots i l at) made
    where
      kept : (v.instance x).slots l.mine ≡ slot_of l
      kept = g.shows.slots.kept i l at

      shown : done (machine_of c) v x (InSlot l.mine deed) ≡
          stepped v (end_of x l.mine) w.ring.next_session (effect (machine_of c) (end_of x l.mine) now (slot_of l) tok v.place deed)
      shown = let read = g.reading in let next = g.shows.next in let token = g.shows.token in let s = kept in
          λ j. stepped v (end_of x l.mine) (next j) (effect (machine_of c) (end_of x l.mine) (read j) (s j) (token j) v.place deed)

      may_is : MayInSlot (machine_of c) v (end_of x l.mine) now (slot_of l) tok deed ≡
          MayInSlot (machine_of c) v (end_of x l.mine) (v.instance x).reading (slot v (end_of x l.mine)) (v.instance x).token deed
      may_is = let read = sym g.reading in let token = sym g.shows.token in let s = sym kept in
          λ j. MayInSlot (machine_of c) v (end_of x l.mine) (read j) (s j) (token j) deed

  -- the table with the link that it has
  pub same_slots : (i : ℕ) (l : Link) → slot_at i w.ring.slots ≡ Some l → w.ring.slots ≡ slice_set w.ring.slots i (Some l)
  same_slots i l at = subst (λ (o : Option Link). w.ring.slots ≡ slice_set w.ring.slots i o) at (sym (set-get_or w.ring.slots i None))

  -- the link that place i has, as what it has then
  pub kept_new : (frames : List Frame) (i : ℕ) (l : Link) → slot_at i w.ring.slots ≡ Some l →
      NewAt c x (frames ++ v.sent) w.ring.slots i l.mine w.ring.next_session (slot_of l) (Some l)
  kept_new frames i l at = stays l refl (record {
    numbered = refl;
    below = g.shows.slots.below i l at;
    shown = refl;
    sound = (shows_later g.shows.slots (frames ++ v.sent) (λ f h. IsMember-append_right f frames v.sent h)).sound i l at;
    alone = stays_alone g.shows.slots i l l at refl (λ h. h) (λ h. h);
  })

  -- a deed that only sends: the messages are among what it sends, or were sent before
  pub says : (i : ℕ) (l : Link) → slot_at i w.ring.slots ≡ Some l → (deed : SlotDeed) →
      MayInSlot (machine_of c) v (end_of x l.mine) now (slot_of l) tok deed → (frames : List Frame) →
      effect (machine_of c) (end_of x l.mine) now (slot_of l) tok v.place deed ≡ outcome (slot_of l) tok frames v.place → (ss : List (Who × Body)) →
      AllSaid c.lease (frames ++ v.sent) x ss → Going c m x now (record w { sent = w.sent ++ ss })
  says i l at deed may frames is ss said =
      slot_deed i l at deed may (record w { sent = w.sent ++ ss })
      (subst (λ (o : Outcome). Makes c x v w i l.mine w.ring.next_session o (record w { sent = w.sent ++ ss })) (sym is) (record {
        placed = Some l;
        slots = same_slots i l at;
        new = kept_new frames i l at;
        me = refl;
        counter = refl;
        stays = g.stays;
        token = refl;
        rises = g.shows.rises;
        frozen = g.shows.frozen;
        accuses = λ y h. h;
        wrongs = λ h. subst (λ (s : Slot). IsMember s.far.who w.ring.accused) kept
            (g.shows.accused l.mine (subst (λ (s : Slot). is_wronged s.state ≡ true) (sym kept) h));
        sent = λ h. all_said_both c.lease (frames ++ v.sent) x w.sent ss h said;
        moved = λ k P h. h;
        over = λ h. h;
      }))
    where
      kept : (v.instance x).slots l.mine ≡ slot_of l
      kept = g.shows.slots.kept i l at

  -- what was sent before is sent again
  pub sends : (to : Who) (b : Body) → Said c.lease v.sent x to b → Going c m x now (send to b w)
  sends to b said = record {
    after = v;
    inv = g.inv;
    live = g.live;
    beside = g.beside;
    dies = g.dies;
    reading = g.reading;
    stays = g.stays;
    shows = g.shows;
    sent = all_said_both c.lease v.sent x w.sent ((to, b) ∷ []) g.sent (said, tt);
    moved = g.moved;
    over = g.over;
  }
