-- Deeds that begin a session: ask, offer, take the offer, give up.
use Rattle.std.proofs.Common.{◌≡◌, ℕ, ◌+◌, ◌<◌, ◌≤◌, min, Bool, true, false, List, [], ◌∷◌, refl, sym, ap, subst, inl, inr, arith}
use Rattle.ring_points.specs.Whos.{same_who}
use Rattle.fabric_lemmas.specs.Members.{IsMember}
use Rattle.ring_machine.specs.Ends.{End, any_of}
use Rattle.ring_machine.specs.Slots.{Slot, State, Unused, Asking, Offered, Bound, Abandoned, fresh_slot, guards, is_used, is_settled, is_engaged, is_active, is_willing}
use Rattle.ring_machine.specs.Tokens.{Token}
use Rattle.ring_machine.specs.Frames.{Frame, Hello, Offer, Take, Gone, answer_if}
use Rattle.ring_machine.specs.World.{Settings, World, slot}
use Rattle.ring_machine.specs.Guards.{IsAlone}
use Rattle.ring_machine.specs.Effects.{outcome, begun, hello_begun, offer_begun}
use Rattle.ring_machine.specs.Sessions.{Tied, BothTied, over}
use Rattle.ring_machine.specs.SoundSlots.{AsksFor}
use Rattle.ring_machine.specs.SoundFrames.{SoundHello, SoundOffer}
use Rattle.ring_points.proofs.Whos.{same_who-false, same_who_from}
use Rattle.ring_machine.proofs.States.{implied}
use Rattle.ring_machine.proofs.Duty.{Sent, Duty}
use Rattle.ring_machine.proofs.Acting.{Acting, good, is_renewal, NoRenewal, each_of_one, each_of_answer}
use Rattle.ring_machine.proofs.Kept.{kept_duty, lease_same}
use Rattle.ring_machine.proofs.Shrunk.{token_shrunk, place_shrunk, not_less, not_undone}
use Rattle.ring_machine.proofs.SendDuties.{gone_used}
use Rattle.ring_machine.proofs.Fresh.{IsBare, lone_duty, begun_duty}

bare_fresh : (far : End) (state : State) (len now : ℕ) → IsBare (fresh_slot far state len now)
bare_fresh far state len now = record { untouched = record { flight = refl; held_version = refl; got = refl; acked = refl }; empty = λ p h. cc (h) }

-- a number that is not used yet has no slot
unused_state : (s : State) → (is_used s ≡ true → ⊥) → s ≡ Unused
unused_state Unused n = refl
unused_state s n = absurd (n refl)

module _ {c : Settings} {w : World} {e : End} (a : Acting c w e) where
  abbrev s : Slot
  s = slot w e

  abbrev now : ℕ
  now = (w.instance e.who).reading

  abbrev token : Token
  token = (w.instance e.who).token

  -- the next number has no slot
  next_unused : e.number ≡ (w.instance e.who).next_session → s.state ≡ Unused
  next_unused is = unused_state s.state (λ h. let n = (good a).numbered h in omega arith)

  pub hello_begun_duty : e.number ≡ (w.instance e.who).next_session → (node len : ℕ) → Duty c w e (e.number + 1) (hello_begun e now token w.place node len)
  hello_begun_duty is node len =
      let unused = next_unused is in
      lone_duty a (ap is_settled unused) (fresh_slot (any_of node) Asking len now) (e.number + 1) (Hello e node len ∷ []) (omega arith) (omega arith)
      (bare_fresh (any_of node) Asking len now) refl refl (λ h. absurd (cc (h)))
      (each_of_one (λ g. is_renewal g ≡ false) (Hello e node len) refl)
      (each_of_one (Sent c w e s (hello_begun e now token w.place node len)) (Hello e node len) (record {
        own = refl;
        asks_node = λ h. refl;
        asks_length = λ h. refl;
      }))

  -- no longer a lease is offered than was asked for
  pub offer_begun_duty : 0 < c.answer → e.number ≡ (w.instance e.who).next_session → (from : End) (proposed len : ℕ) →
      IsMember (Hello from e.who.actor proposed) w.sent → len ≤ proposed →
      same_who e.who from.who ≡ false → IsAlone from.who (w.instance e.who).slots → Duty c w e (e.number + 1) (offer_begun e now token w.place from len)
  offer_begun_duty pos is from proposed len m shorter apart alone =
      begun_duty a (ap is_settled unused) pos (fresh_slot from Offered len now) from (e.number + 1) (Offer e from len ∷ []) (omega arith) (omega arith)
      (bare_fresh from Offered len now)
      (record { far = refl; state = inl refl; until = refl; used = hello.used; apart = apart; alone = alone; asker = asker; agreed = agreed })
      (each_of_one (λ g. is_renewal g ≡ false) (Offer e from len) refl)
      (each_of_one (Sent c w e s (offer_begun e now token w.place from len)) (Offer e from len) (record {
        own = refl;
        engaged = refl;
        far = refl;
        length = refl;
      }))
    where
      unused : s.state ≡ Unused
      unused = next_unused is

      hello : SoundHello w from e.who.actor proposed
      hello = a.inv.frames (Hello from e.who.actor proposed) m

      asker : (slot w from).state ≡ Asking → AsksFor (slot w from) e.who.actor len
      asker h = record { node_is = hello.asks_node h; no_shorter = let n = hello.asks_length h in omega arith }

      -- nobody had a session with a slot that is new
      agreed : Tied w from e → len ≡ (slot w from).len
      agreed t =
          absurd
          (let used : is_used s.state ≡ true = subst (λ f. is_used (slot w f).state ≡ true) t.far ((a.inv.slots from).far_used t.engaged) in
          cc (used, ap is_used unused))

  -- the asker takes the offer, at the length that is offered
  pub offer_taken_duty : 0 < c.answer → s.state ≡ Asking → (from : End) (len : ℕ) → IsMember (Offer from e len) w.sent →
      IsAlone from.who (w.instance e.who).slots →
      Duty c w e (w.instance e.who).next_session (outcome (begun s from (min s.len len) now) token (Take e from ∷ []) w.place)
  offer_taken_duty pos asking from len m alone =
      begun_duty a (ap is_settled asking) pos t from (w.instance e.who).next_session (Take e from ∷ [])
      ((good a).numbered (ap is_used asking)) (omega arith) bare
      (record { far = refl; state = inr (refl, offer.tied); until = refl; used = used; apart = apart; alone = alone; asker = asker; agreed = λ t. agreed })
      (each_of_one (λ g. is_renewal g ≡ false) (Take e from) refl)
      (each_of_one (Sent c w e s (outcome t token (Take e from ∷ []) w.place)) (Take e from) (record {
        own = refl;
        engaged = refl;
        far = refl;
        back = offer.tied;
      }))
    where
      t : Slot
      t = begun s from (min s.len len) now

      bare : IsBare (begun s from (min s.len len) now)
      bare =
          let k = (good a).plain (ap is_engaged asking) in
          record {
            untouched = record { flight = k.0.flight; held_version = k.0.held_version; got = k.0.got; acked = k.0.acked };
            empty = k.1;
          }

      offer : SoundOffer w from e len
      offer = a.inv.frames (Offer from e len) m

      used : is_used (slot w from).state ≡ true
      used = implied is_engaged is_used refl (slot w from).state offer.tied.engaged

      apart : same_who e.who from.who ≡ false
      apart =
          same_who_from e.who from.who
          (λ h.
          same_who-false from.who e.who
          (subst (λ (f : End). same_who from.who f.who ≡ false) offer.tied.far ((a.inv.slots from).apart offer.tied.engaged))
          (sym h))

      asker : (slot w from).state ≡ Asking → AsksFor (slot w from) e.who.actor (min s.len len)
      asker h = absurd (let en = offer.tied.engaged in cc (en, ap is_engaged h))

      -- the slot asked for no shorter a length
      asked : AsksFor s from.who.actor (slot w from).len
      asked =
          subst (λ f. (slot w f).state ≡ Asking → AsksFor (slot w f) from.who.actor (slot w from).len) offer.tied.far
          ((a.inv.slots from).asker offer.tied.engaged) asking

      agreed : min s.len len ≡ (slot w from).len
      agreed = let n = asked.no_shorter in let k = offer.length in omega arith

  -- the Hello is given up
  given_up_duty : s.state ≡ Asking → (sent : List Frame) → NoRenewal sent →
      ((f : Frame) → IsMember f sent → Sent c w e s (outcome (record s { state = Abandoned }) token sent w.place) f) →
      Duty c w e (w.instance e.who).next_session (outcome (record s { state = Abandoned }) token sent w.place)
  given_up_duty asking sent none sends =
      let k = (good a).plain (ap is_engaged asking) in
      lone_duty a (ap is_settled asking) (record s { state = Abandoned }) (w.instance e.who).next_session sent
      ((good a).numbered (ap is_used asking)) (omega arith)
      (record { untouched = record { flight = k.0.flight; held_version = k.0.held_version; got = k.0.got; acked = k.0.acked }; empty = k.1 })
      refl refl (λ h i. absurd (cc (i))) none sends

  pub hello_dropped_duty : s.state ≡ Asking → Duty c w e (w.instance e.who).next_session (outcome (record s { state = Abandoned }) token [] w.place)
  hello_dropped_duty asking = given_up_duty asking [] (λ g m. absurd m) (λ g m. absurd m)

  pub hello_denied_duty : s.state ≡ Asking → (from : End) (got : ℕ) (bound : Bool) → IsMember (Gone from e got bound) w.sent →
      Duty c w e (w.instance e.who).next_session (outcome (record s { state = Abandoned }) token (answer_if bound (Gone e from 0 false)) w.place)
  hello_denied_duty asking from got bound m =
      let k = (good a).plain (ap is_engaged asking) in
      given_up_duty asking (answer_if bound (Gone e from 0 false)) (each_of_answer (λ g. is_renewal g ≡ false) bound (Gone e from 0 false) (λ h. refl))
      (each_of_answer (Sent c w e s (outcome (record s { state = Abandoned }) token (answer_if bound (Gone e from 0 false)) w.place)) bound (Gone e from 0 false) (λ h. record {
        own = refl;
        closed = over refl (record { deaf = refl; empty = k.1; landed = k.0.flight });
        took = inl (λ i. let n = k.0.got in omega arith);
        used = (gone_used a.inv from e got (a.inv.frames (Gone from e got bound) m)).sender;
      }))

  -- the offer is taken: both sides are bound
  pub take_heard_duty : s.state ≡ Offered → IsMember (Take s.far e) w.sent →
      Duty c w e (w.instance e.who).next_session (outcome (record s { state = Bound }) token [] w.place)
  take_heard_duty offered m =
      let tied : BothTied w s.far e = a.inv.frames (Take s.far e) m in
      kept_duty a (outcome (record s { state = Bound }) token [] w.place)
      (record {
        was_engaged = ap is_engaged offered;
        engaged = refl;
        far = refl;
        len = refl;
        active = λ h. ap is_active offered;
        willing = λ h. ap is_willing offered;
        quiets = λ q. absurd (let n = q.deaf in cc);
        touched = λ h. tied.mine;
        recorded = (good a).recorded;
        claims = λ h. refl;
        in_state = tied.mine;
        guarding = lease_same a (record s { state = Bound }) (ap guards offered) refl refl;
      })
      (λ g m. absurd m)
      (token_shrunk a Bound s.until s.ripe s.held s.flight token [] (not_less s) (not_undone token) (λ g m. absurd m))
      (place_shrunk a Bound s.until s.ripe s.held s.flight token [] (not_less s) (not_undone token) (λ g m. absurd m) (λ h. ap is_willing offered))
