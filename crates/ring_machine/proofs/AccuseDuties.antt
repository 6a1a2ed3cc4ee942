-- Deeds of an accusation: accuse, and what the answer of a majority makes of the slot.
use Rattle.std.proofs.Common.{◌≡◌, ℕ, ◌+◌, true, false, [], ◌∷◌, Option, None, ◌⊎◌, refl, sym, ap, subst, inl, inr}
use Rattle.std.proofs.lemmas.Bool.{both_ways}
use Rattle.drift_clock.specs.Wait.{wait}
use Rattle.ring_machine.specs.Points.{Points, no_points}
use Rattle.ring_machine.specs.Ends.{End}
use Rattle.ring_machine.specs.Slots.{Slot, Flight, State, Accused, Discharged, Heir, Ended, HasClaim, guards, is_engaged, is_active, is_willing, stands, is_tallying, is_decided}
use Rattle.ring_machine.specs.Tokens.{Token, undone}
use Rattle.ring_machine.specs.Frames.{RenewAck, Accuse}
use Rattle.ring_machine.specs.World.{Settings, World, slot}
use Rattle.ring_machine.specs.Arbitration.{HeirBy, AnsweredBy}
use Rattle.ring_machine.specs.Effects.{Outcome, outcome, ended}
use Rattle.ring_machine.specs.SoundSlots.{Freed, by_answers}
use Rattle.ring_machine.specs.SoundFrames.{SoundAck}
use Rattle.ring_machine.proofs.States.{implied}
use Rattle.ring_machine.proofs.Duty.{Sent, Duty}
use Rattle.ring_machine.proofs.Acting.{Acting, good, is_renewal, each_of_one}
use Rattle.ring_machine.proofs.Kept.{InState, Guarding, kept_duty, lease_same}
use Rattle.ring_machine.proofs.Shrunk.{IsLess, none_left, not_less, less_empty, nothing_claimed, touched_before, is_undone, not_undone, token_shrunk, place_shrunk, shrunk}

module _ {c : Settings} {w : World} {e : End} (a : Acting c w e) where
  abbrev s : Slot
  s = slot w e

  abbrev token : Token
  token = (w.instance e.who).token

  pub peer_accused_duty : stands s.state ≡ true →
      Duty c w e (w.instance e.who).next_session
      (outcome (record s { state = Accused }) (undone e.number token token.freeze) (Accuse e.who s.far.who ∷ []) w.place)
  peer_accused_duty st =
      let out : Outcome = outcome (record s { state = Accused }) (undone e.number token token.freeze) (Accuse e.who s.far.who ∷ []) w.place in
      let engaged = implied stands is_engaged refl s.state st in
      let un = is_undone e.number token token.freeze in
      let none = each_of_one (λ g. is_renewal g ≡ false) (Accuse e.who s.far.who) refl in
      kept_duty a out
      (record {
        was_engaged = engaged;
        engaged = refl;
        far = refl;
        len = refl;
        active = λ h. implied stands is_active refl s.state st;
        willing = λ h. absurd (cc (h));
        quiets = λ q. record { deaf = refl; empty = q.empty; landed = q.landed };
        touched = (good a).touched;
        recorded = (good a).recorded;
        claims = λ h. refl;
        in_state = tt;
        guarding = lease_same a (record s { state = Accused }) (implied stands guards refl s.state st) refl refl;
      })
      (each_of_one (Sent c w e s out) (Accuse e.who s.far.who) ((good a).apart engaged))
      (token_shrunk a Accused s.until s.ripe s.held s.flight out.token (Accuse e.who s.far.who ∷ []) (not_less s) un none)
      (place_shrunk a Accused s.until s.ripe s.held s.flight out.token (Accuse e.who s.far.who ∷ []) (not_less s) un none (λ h. absurd (cc (h))))

  -- the slot in another state after an accusation, with the content of before or less, without a word
  decided_duty : (state : State) (ripe : ℕ) (held : Points) (flight : Option Flight) → is_engaged s.state ≡ true →
      is_active s.state ≡ true → IsLess s held flight →
      is_engaged state ≡ true → is_willing state ≡ false → guards state ≡ false → (HasClaim held flight → is_active state ≡ true) →
      InState c w e (shrunk s state s.until ripe held flight) state → Freed c w e s.far →
      Duty c w e (w.instance e.who).next_session (outcome (shrunk s state s.until ripe held flight) token [] w.place)
  decided_duty state ripe held flight was_engaged was_active less engaged deaf free claims in_state freed =
      kept_duty a (outcome (shrunk s state s.until ripe held flight) token [] w.place)
      (record {
        was_engaged = was_engaged;
        engaged = engaged;
        far = refl;
        len = refl;
        active = λ h. was_active;
        willing = λ h. absurd (both_ways _ deaf h);
        quiets = λ q. record { deaf = deaf; empty = λ p h. q.empty p (less.held_before p h); landed = none_left flight q.landed less.flight_before };
        touched = λ h. (good a).touched (touched_before s held flight less h);
        recorded = λ p h. (good a).recorded p (less.held_before p h);
        claims = claims;
        in_state = in_state;
        guarding = subst (Guarding c w e s (shrunk s state s.until ripe held flight)) (sym free) freed;
      })
      (λ g h. absurd h)
      (token_shrunk a state s.until ripe held flight token [] less (not_undone token) (λ g h. absurd h))
      (place_shrunk a state s.until ripe held flight token [] less (not_undone token) (λ g h. absurd h) (λ h. absurd (both_ways _ deaf h)))

  pub majority_answered_duty : is_tallying s.state ≡ true → AnsweredBy c w.sent e.who s.far.who → HasClaim s.held s.flight →
      Duty c w e (w.instance e.who).next_session (outcome (record s { state = Discharged }) token [] w.place)
  majority_answered_duty tallying answered claims =
      decided_duty Discharged s.ripe s.held s.flight (implied is_tallying is_engaged refl s.state tallying)
      (implied is_tallying is_active refl s.state tallying) (not_less s) refl refl refl (λ h. refl) (answered, claims) (by_answers answered)

  -- what the other side's lease rests on now bounds it from now on, since its acknowledgements have ended
  pub majority_kept_duty : is_tallying s.state ≡ true → AnsweredBy c w.sent e.who s.far.who → HeirBy c w.sent e.who s.far.who → HasClaim s.held s.flight →
      Duty c w e (w.instance e.who).next_session
      (outcome (record s { state = Heir; ripe = (w.instance e.who).reading + wait c.bound (s.len + c.answer) }) token [] w.place)
  majority_kept_duty tallying answered keeps claims =
      decided_duty Heir ((w.instance e.who).reading + wait c.bound (s.len + c.answer)) s.held s.flight
      (implied is_tallying is_engaged refl s.state tallying) (implied is_tallying is_active refl s.state tallying) (not_less s) refl refl refl (λ h. refl) (
        record {
          answered = answered;
          keeps = keeps;
          since = w.time;
          begun = (w.instance e.who).reading;
          reading = a.inv.present e.who a.live.running;
          waits = refl;
          lease = (a.inv.slots s.far).leased;
          acks = λ stamp version m. let sound : SoundAck w e s.far stamp version = a.inv.frames (RenewAck e s.far stamp version) m in sound.rests;
        },
        claims,
      )
      (by_answers answered)

  -- a session that is over after an accusation is dropped
  pub session_dropped_duty : (is_decided s.state ≡ true) ⊎ ((s.state ≡ Accused) × AnsweredBy c w.sent e.who s.far.who) →
      Duty c w e (w.instance e.who).next_session (outcome (ended s) token [] w.place)
  session_dropped_duty (inl decided) =
      let engaged = implied is_decided is_engaged refl s.state decided in
      decided_duty Ended s.ripe no_points None engaged (implied is_decided is_active refl s.state decided) (less_empty s) refl refl refl
      (λ h. absurd (nothing_claimed h)) tt ((good a).freed engaged (free s.state decided))
    where
      free : (st : State) → is_decided st ≡ true → guards st ≡ false
      free Discharged h = refl
      free Heir h = refl
      free st h = absurd (cc (h))
  session_dropped_duty (inr (accused, answered)) =
      decided_duty Ended s.ripe no_points None (ap is_engaged accused) (ap is_active accused) (less_empty s) refl refl refl
      (λ h. absurd (nothing_claimed h)) tt (by_answers answered)
