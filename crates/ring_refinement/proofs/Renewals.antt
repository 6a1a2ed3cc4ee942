-- How a link lives: a Renew is heard and acknowledged, and what it wants is frozen; a RenewAck is heard.
use Rattle.std.proofs.Common.{◌≡◌, ℕ, ◌+◌, nat_le, nat_lt, not, ◌&&◌, Bool, true, false, cond, List, [], ◌∷◌, Option, Some, None, refl, sym, ap, ◌∙◌, subst, inl}
use Rattle.std.specs.Prelude.{is_some}
use Rattle.std.proofs.lemmas.Bool.{and_parts, not-true, both_ways}
use Rattle.ring_points.specs.declared.interval.Interval.{Interval}
use Rattle.ring_points.specs.declared.who.Flight as points
use Rattle.ring_points.specs.declared.who.Who.{Who}
use Rattle.fabric_terms.specs.declared.config.FabricConfig.{FabricConfig}
use Rattle.fabric_terms.specs.declared.message.Body.TheVariants as body
use Rattle.join_phases.specs.Phases.{bound_phase, is_routing}
use Rattle.token_core.specs.Tokens.{Freeze, frozen}
use Rattle.ring_route.specs.Routes.{point_of}
use Rattle.ring_rules.specs.declared.link.Link.{Link}
use Rattle.ring_rules.specs.declared.link.LinkState.{LinkState}
use Rattle.ring_rules.specs.declared.link.LinkState.TheVariants as state
use Rattle.ring_rules.specs.Links.{acknowledged, confirmed, confirmed_if, recorded_if, renewed, has_flight, flight_part}
use Rattle.ring_rules.specs.Rings.{Work}
use Rattle.ring_rules.specs.Slots.{slot_at, bars_link}
use Rattle.ring_rules.specs.Deeds.{put_slot, set_token, answer_unknown}
use Rattle.ring_rules.specs.Renewals.{near_part, freeze_if, grant_if, grant_wanted, renew_heard, renew_seen, renew_received, ack_seen, ack_received}
use Rattle.ring_rules.proofs.Rows.{renew_received-is, ack_received-is}
use Rattle.fabric_lemmas.specs.Members.{IsMember}
use Rattle.ring_machine.specs.Ends.{end_of}
use Rattle.ring_machine.specs.Points.{meet}
use Rattle.ring_machine.specs.Slots.{is_willing, stands, Bound}
use Rattle.ring_machine.specs.Frames.{Renew, RenewAck}
use Rattle.ring_machine.specs.World.{World}
use Rattle.ring_machine.specs.Deeds.{RenewHeard, AckHeard, PartFrozen}
use Rattle.ring_machine.specs.Effects as effects
use Rattle.ring_machine.specs.Events.{IsSound}
use Rattle.ring_machine.specs.SoundFrames.{SoundRenew}
use Rattle.ring_refinement.specs.Images.{machine_of, state_of, points_of, flight_of, number_of, freeze_of, slot_of, token_of}
use Rattle.ring_refinement.specs.Tables.{is_wronged, SoundLink}
use Rattle.ring_refinement.proofs.Places.{none_is, set_same, used_within}
use Rattle.ring_refinement.proofs.Changes.{stays_alone}
use Rattle.ring_refinement.proofs.Ranges.{Rises, frozen_is, frozen_rises}
use Rattle.ring_points.proofs.NearerPart.{nearer_part_rises}
use Rattle.ring_refinement.proofs.Going.{Going, slot_deed, same_slots, kept_new}
use Rattle.ring_refinement.proofs.SlotRows.{one_said, bound_stays, nothing_besides, puts, wronged, in_its_session}
use Rattle.ring_refinement.proofs.Saying.{tied_used, tied_asks, phase_going, gone_again_going}
use Rattle.ring_refinement.proofs.Unknown.{unknown_going}

-- a flight that stands no more
pub confirmed_is : (o : Option points.Flight) (got : ℕ) → flight_of (confirmed o got) ≡ effects.unconfirmed got (flight_of o)
confirmed_is None got = refl
confirmed_is (Some f) got = one (nat_le f.number got)
  where
    one : (q : Bool) → flight_of (confirmed_if (Some f) q) ≡ cond q None (Some (record { number = f.number; part = points_of f.part }))
    one true = refl
    one false = refl

confirmed_rises : (o : Option points.Flight) (got : ℕ) → Rises (flight_part o) → Rises (flight_part (confirmed o got))
confirmed_rises None got h = h
confirmed_rises (Some f) got h = one (nat_le f.number got)
  where
    one : (q : Bool) → Rises (flight_part (confirmed_if (Some f) q))
    one true = refl
    one false = h

-- the link after a Renew, by whether its version is newer
abbrev renewed_by : Link → ℕ → ℕ → List Interval → Bool → Link
renewed_by l version got ranges q = record (recorded_if l version ranges q) { state = state.Bound; flight = confirmed l.flight got }

module _ {c : FabricConfig} {m : World} {x : Who} {now : ℕ} {w : Work} (sound : IsSound (machine_of c)) (g : Going c m x now w) where
  abbrev v : World
  v = g.after

  -- a part is frozen for a bound link
  pub freeze_going : (i : ℕ) (l : Link) → slot_at i w.ring.slots ≡ Some l → l.state ≡ state.Bound → w.ring.token.freeze ≡ None →
      (part : List Interval) → Rises part → Going c m x now (set_token (frozen w.ring.token part i) w)
  freeze_going i l at is none part rises =
      slot_deed sound g i l at (PartFrozen (points_of part)) (ap state_of is, ap (freeze_of w.ring.slots) none) (set_token (frozen w.ring.token part i) w) (record {
        placed = Some l;
        slots = same_slots sound g i l at;
        new = kept_new sound g [] i l at;
        me = refl;
        counter = refl;
        stays = g.stays;
        token =
            (let number = sym (ap number_of at) in λ j. record (token_of w.ring.slots w.ring.token) {
              version = w.ring.token.version + 1;
              freeze = Some (record { part = meet (points_of w.ring.token.ranges) (points_of part); number = number j; version = w.ring.token.version + 1 });
            }) ∙ sym (frozen_is w.ring.slots w.ring.token g.shows.rises part i);
        rises = frozen_rises w.ring.slots w.ring.token g.shows.rises part i rises;
        frozen = λ z h. record { link = l; at = subst (λ (j : ℕ). slot_at j w.ring.slots ≡ Some l) (slot_is z h) at; bound = is };
        accuses = λ y h. h;
        wrongs = λ h. wronged sound g i l at h;
        sent = λ h. h;
        moved = λ k P h. h;
        over = λ h. h;
      })
    where
      slot_is : (z : Freeze) → (frozen w.ring.token part i).freeze ≡ Some z → i ≡ z.slot
      slot_is z h = ap (λ (o : Option Freeze). slot_of_freeze o) h
        where
          slot_of_freeze : Option Freeze → ℕ
          slot_of_freeze None = 0
          slot_of_freeze (Some z) = z.slot

  -- what the peer wants is frozen, where that is allowed
  pub grant_going : (i : ℕ) (l : Link) (want : Bool) → slot_at i w.ring.slots ≡ Some l → l.state ≡ state.Bound → Going c m x now (grant_wanted i l want w)
  grant_going i l want at is = granted (want && is_routing w.ring.phase && not (is_some w.ring.token.freeze) && not (has_flight l)) refl
    where
      part : List Interval
      part = near_part w.ring l

      freezes : w.ring.token.freeze ≡ None → (q : Bool) → Going c m x now (freeze_if i (near_part w.ring l) w q)
      freezes none false = g
      freezes none true =
          freeze_going i l at is none (near_part w.ring l)
          (nearer_part_rises w.ring.token.ranges (point_of w.ring.me.actor w.ring.routes.points) (point_of l.peer.actor w.ring.routes.points) g.shows.rises.ranges)

      granted : (q : Bool) → (want && is_routing w.ring.phase && not (is_some w.ring.token.freeze) && not (has_flight l)) ≡ q → Going c m x now (grant_if i l w q)
      granted false h = g
      granted true h =
          let a = and_parts (want && is_routing w.ring.phase && not (is_some w.ring.token.freeze)) (not (has_flight l)) h in
          let b = and_parts (want && is_routing w.ring.phase) (not (is_some w.ring.token.freeze)) a.0 in
          freezes (none_is w.ring.token.freeze (not-true (is_some w.ring.token.freeze) b.1)) _

module _ {c : FabricConfig} {m : World} {x : Who} {now : ℕ} {w : Work} (sound : IsSound (machine_of c)) (g : Going c m x now w) where
  renew_of : (i : ℕ) (l : Link) (stamp version got : ℕ) (want : Bool) (ranges : List Interval) → slot_at i w.ring.slots ≡ Some l → is_willing (state_of l.state) ≡ true →
      bars_link l.state ≡ true → Rises ranges → IsMember (Renew (end_of l.peer l.yours) (end_of x l.mine) stamp version got (points_of ranges)) m.sent →
      Going c m x now (renew_heard i (renewed l version got ranges) stamp version want w)
  renew_of i l stamp version got want ranges at willing bars rises came = go (nat_lt l.held_version version) refl
    where
      s : SoundLink c x g.after.sent l
      s = g.shows.slots.sound i l at

      -- the link k, whose slot is that after the Renew, takes the place of l
      heard : (k : Link) → k.peer ≡ l.peer → k.mine ≡ l.mine → k.yours ≡ l.yours → k.state ≡ state.Bound → Rises k.held → Rises (flight_part k.flight) →
          effects.renewed (slot_of l) version got (points_of ranges) (nat_lt l.held_version version) ≡ slot_of k →
          Going c m x now (renew_heard i k stamp version want w)
      heard k peer mine yours is held part shown =
          let put = puts sound g i l at (RenewHeard stamp version got (points_of ranges)) (willing, g.beside.sent _ came) k
          (RenewAck (end_of x l.mine) (end_of l.peer l.yours) stamp version ∷ [])
          (λ j. effects.outcome (shown j) (token_of w.ring.slots w.ring.token) (RenewAck (end_of x l.mine) (end_of l.peer l.yours) stamp version ∷ []) g.after.place)
          mine (record { held = held; part = part; length = λ p. absurd (cc (is, p)); tally = λ h. absurd (cc (is, h)); rounds = λ h. absurd (cc (is, h)) })
          (stays_alone g.shows.slots i l k at (ap (λ (y : Who). y.actor) peer) (λ h. absurd (cc (is, h))) (λ h. bars)) (λ h. is) (λ h. absurd (cc (is, h))) _ _ _
          (one_said sound g (RenewAck (end_of x l.mine) (end_of l.peer l.yours) stamp version) k.peer (body.RenewAck k.mine k.yours stamp version)
          (record { image = inl (λ j. RenewAck (end_of x (mine j)) (end_of (peer j) (yours j)) stamp version); rises = refl; no_ruling = refl }) w.ring.phase g.stays) in
          grant_going sound put i k want (set_same w.ring.slots i (Some k) (used_within w.ring.slots i l at)) is

      flies : effects.unconfirmed got (flight_of l.flight) ≡ flight_of (confirmed l.flight got)
      flies = sym (confirmed_is l.flight got)

      go : (q : Bool) → nat_lt l.held_version version ≡ q → Going c m x now (renew_heard i (renewed_by l version got ranges q) stamp version want w)
      go true e =
          heard (renewed_by l version got ranges true) refl refl refl refl rises (confirmed_rises l.flight got s.part)
          ((λ j. effects.renewed (slot_of l) version got (points_of ranges) (e j)) ∙
          (λ j. record (slot_of l) { state = Bound; held = points_of ranges; held_version = version; flight = flies j }))
      go false e =
          heard (renewed_by l version got ranges false) refl refl refl refl s.held (confirmed_rises l.flight got s.part)
          ((λ j. effects.renewed (slot_of l) version got (points_of ranges) (e j)) ∙ (λ j. record (slot_of l) { state = Bound; flight = flies j }))

module _ {c : FabricConfig} {m : World} {x : Who} {now : ℕ} {w : Work} (sound : IsSound (machine_of c)) (g : Going c m x now w) where
  pub renew_received_going : (from : Who) (theirs own stamp version got : ℕ) (want : Bool) (ranges : List Interval) → (IsMember from w.ring.accused → ⊥) → Rises ranges →
      IsMember (Renew (end_of from theirs) (end_of x own) stamp version got (points_of ranges)) m.sent →
      Going c m x now (renew_received from theirs own stamp version got want ranges w)
  renew_received_going from theirs own stamp version got want ranges trusted rises was =
      subst (λ (u : Work). Going c m x now u) (sym (renew_received-is from theirs own stamp version got want ranges w))
      (in_its_session sound g from theirs own (renew_seen stamp version got want ranges) (answer_unknown from theirs own)
      (λ f e. IsMember (Renew f e stamp version got (points_of ranges)) m.sent) was known
      (λ none. unknown_going sound g from theirs own (Renew (end_of from theirs) (end_of x own) stamp version got (points_of ranges)) came refl
      (tied_used g.after (end_of x own) (end_of from theirs) renew.tied.theirs) (tied_asks g.after (end_of x own) (end_of from theirs) renew.tied.theirs) trusted none))
    where
      came : IsMember (Renew (end_of from theirs) (end_of x own) stamp version got (points_of ranges)) g.after.sent
      came = g.beside.sent _ was

      renew : SoundRenew g.after (end_of from theirs) (end_of x own) stamp version got
      renew = g.inv.frames _ came

      known : (i : ℕ) (l : Link) → slot_at i w.ring.slots ≡ Some l →
          IsMember (Renew (end_of l.peer l.yours) (end_of x l.mine) stamp version got (points_of ranges)) m.sent →
          (s : LinkState) → l.state ≡ s → Going c m x now (renew_seen stamp version got want ranges i l s w)
      known i l at h state.Offered is =
          renew_of sound (phase_going sound g bound_phase (bound_stays w.ring.phase g.stays)) i l stamp version got want ranges at
          (ap (λ s. is_willing (state_of s)) is) (ap bars_link is) rises h
      known i l at h state.Bound is =
          renew_of sound g i l stamp version got want ranges at (ap (λ s. is_willing (state_of s)) is) (ap bars_link is) rises h
      known i l at h state.Parting is = gone_again_going sound g i l at is
      known i l at h s is = g

  pub ack_received_going : (from : Who) (theirs own stamp version : ℕ) → IsMember (RenewAck (end_of from theirs) (end_of x own) stamp version) m.sent →
      Going c m x now (ack_received from theirs own stamp version w)
  ack_received_going from theirs own stamp version was =
      subst (λ (u : Work). Going c m x now u) (sym (ack_received-is from theirs own stamp version w))
      (in_its_session sound g from theirs own (ack_seen stamp version) (λ u. u) (λ f e. IsMember (RenewAck f e stamp version) g.after.sent)
      (g.beside.sent _ was) known (λ none. g))
    where
      acked : (i : ℕ) (l : Link) → slot_at i w.ring.slots ≡ Some l → stands (state_of l.state) ≡ true →
          is_wronged (state_of l.state) ≡ false → IsMember (RenewAck (end_of l.peer l.yours) (end_of x l.mine) stamp version) g.after.sent →
          Going c m x now (put_slot i (acknowledged l stamp version) w)
      acked i l at standing unwronged h =
          let s = g.shows.slots.sound i l at in
          puts sound g i l at (AckHeard stamp version) (standing, h) (acknowledged l stamp version) [] refl refl
          (record { held = s.held; part = s.part; length = s.length; tally = s.tally; rounds = s.rounds })
          (stays_alone g.shows.slots i l (acknowledged l stamp version) at refl (λ h. h) (λ h. h)) (λ h. h) (λ h. absurd (both_ways _ unwronged h)) _ _ _
          (nothing_besides sound g [])

      known : (i : ℕ) (l : Link) → slot_at i w.ring.slots ≡ Some l → IsMember (RenewAck (end_of l.peer l.yours) (end_of x l.mine) stamp version) g.after.sent →
          (s : LinkState) → l.state ≡ s → Going c m x now (ack_seen stamp version i l s w)
      known i l at h state.Bound is = acked i l at (ap (λ s. stands (state_of s)) is) (ap (λ s. is_wronged (state_of s)) is) h
      known i l at h state.Parting is = acked i l at (ap (λ s. stands (state_of s)) is) (ap (λ s. is_wronged (state_of s)) is) h
      known i l at h s is = g
