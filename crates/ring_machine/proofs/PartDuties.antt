-- Deeds that end a session without an accusation: part, and hear of the other's Gone where no flight returns.
use Rattle.std.proofs.Common.{◌≡◌, ℕ, Bool, true, false, [], ◌∷◌, None, refl, inl, arith}
use Rattle.std.proofs.lemmas.Bool.{both_ways}
use Rattle.fabric_lemmas.specs.Members.{IsMember}
use Rattle.ring_machine.specs.Points.{no_points}
use Rattle.ring_machine.specs.Ends.{End}
use Rattle.ring_machine.specs.Slots.{Slot, Parting, Parted, guards, is_engaged, is_active, is_willing, stands}
use Rattle.ring_machine.specs.Tokens.{undone}
use Rattle.ring_machine.specs.Frames.{Gone, answer_if}
use Rattle.ring_machine.specs.World.{Settings, World, slot}
use Rattle.ring_machine.specs.Effects.{Outcome, outcome, parted}
use Rattle.ring_machine.specs.Sessions.{over}
use Rattle.ring_machine.specs.SoundSlots.{by_closing}
use Rattle.ring_machine.specs.SoundFrames.{SoundGone}
use Rattle.ring_machine.proofs.States.{implied}
use Rattle.ring_machine.proofs.Duty.{Sent, SentGone, Duty}
use Rattle.ring_machine.proofs.Acting.{Acting, good, is_renewal, NoRenewal, each_of_one, each_of_answer}
use Rattle.ring_machine.proofs.Kept.{KeptLink, kept_duty, lease_same}
use Rattle.ring_machine.proofs.Shrunk.{less_empty, less_record, nothing_claimed, touched_before, is_undone, token_shrunk, place_shrunk}

module _ {c : Settings} {w : World} {e : End} (a : Acting c w e) where
  abbrev s : Slot
  s = slot w e

  pub parting_begun_duty : is_willing s.state ≡ true → s.flight ≡ None →
      Duty c w e (w.instance e.who).next_session
      (outcome (record s { state = Parting; held = no_points })
      (undone e.number (w.instance e.who).token (w.instance e.who).token.freeze) (Gone e s.far s.got true ∷ []) w.place)
  parting_begun_duty willing landed =
      let token = undone e.number (w.instance e.who).token (w.instance e.who).token.freeze in
      let out : Outcome = outcome (record s { state = Parting; held = no_points }) token (Gone e s.far s.got true ∷ []) w.place in
      let engaged = implied is_willing is_engaged refl s.state willing in
      let un = is_undone e.number (w.instance e.who).token (w.instance e.who).token.freeze in
      let none : NoRenewal (Gone e s.far s.got true ∷ []) = each_of_one (λ g. is_renewal g ≡ false) (Gone e s.far s.got true) refl in
      kept_duty a out
      (record {
        was_engaged = engaged;
        engaged = refl;
        far = refl;
        len = refl;
        active = λ h. implied is_willing is_active refl s.state willing;
        willing = λ h. willing;
        quiets = λ q. absurd (both_ways _ q.deaf willing);
        touched = λ h. (good a).touched (touched_before s no_points s.flight (less_record s) h);
        recorded = λ p h. absurd (cc (h));
        claims = λ h. refl;
        in_state = (λ p h. cc (h), landed);
        guarding = lease_same a (record s { state = Parting; held = no_points }) (implied is_willing guards refl s.state willing) refl refl;
      })
      (each_of_one (Sent c w e s out) (Gone e s.far s.got true)
      (record { own = refl; closed = over refl (record { deaf = refl; empty = λ p h. cc (h); landed = landed }); took = inl (λ i. omega arith); used = (good a).far_used engaged }))
      (token_shrunk a Parting s.until s.ripe no_points s.flight token (Gone e s.far s.got true ∷ []) (less_record s) un none)
      (place_shrunk a Parting s.until s.ripe no_points s.flight token (Gone e s.far s.got true ∷ []) (less_record s) un none (λ h. willing))

  -- a parted slot is closed to the other side, which is closed to it
  pub parted_link : stands s.state ≡ true → (got : ℕ) → SoundGone w s.far e got → KeptLink c w e s (parted s)
  parted_link st got gone =
      let engaged = implied stands is_engaged refl s.state st in record {
        was_engaged = engaged;
        engaged = refl;
        far = refl;
        len = refl;
        active = λ h. absurd (cc (h));
        willing = λ h. absurd (cc (h));
        quiets = λ q. record { deaf = refl; empty = λ p h. cc (h); landed = refl };
        touched = λ h. (good a).touched (touched_before s no_points None (less_empty s) h);
        recorded = λ p h. absurd (cc (h));
        claims = λ h. absurd (nothing_claimed h);
        in_state = (λ p h. cc (h), refl, gone.closed);
        guarding = by_closing gone.closed;
      }

  -- its answer to a Gone says what it took
  pub parted_answer : stands s.state ≡ true → SentGone w e (parted s) e s.far s.got
  parted_answer st = record {
    own = refl;
    closed = over refl (record { deaf = refl; empty = λ p h. cc (h); landed = refl });
    took = inl (λ i. omega arith);
    used = (good a).far_used (implied stands is_engaged refl s.state st);
  }

  pub gone_heard_duty : stands s.state ≡ true → (got : ℕ) (bound : Bool) → IsMember (Gone s.far e got bound) w.sent →
      Duty c w e (w.instance e.who).next_session
      (outcome (parted s) (undone e.number (w.instance e.who).token (w.instance e.who).token.freeze) (answer_if bound (Gone e s.far s.got false)) w.place)
  gone_heard_duty st got bound m =
      let token = undone e.number (w.instance e.who).token (w.instance e.who).token.freeze in
      let out : Outcome = outcome (parted s) token (answer_if bound (Gone e s.far s.got false)) w.place in
      let un = is_undone e.number (w.instance e.who).token (w.instance e.who).token.freeze in
      let none : NoRenewal (answer_if bound (Gone e s.far s.got false)) =
      each_of_answer (λ g. is_renewal g ≡ false) bound (Gone e s.far s.got false) (λ h. refl) in
      kept_duty a out
      (parted_link st got (a.inv.frames (Gone s.far e got bound) m))
      (each_of_answer (Sent c w e s out) bound (Gone e s.far s.got false) (λ h. parted_answer st))
      (token_shrunk a Parted s.until s.ripe no_points None token (answer_if bound (Gone e s.far s.got false)) (less_empty s) un none)
      (place_shrunk a Parted s.until s.ripe no_points None token (answer_if bound (Gone e s.far s.got false)) (less_empty s) un none (λ h. absurd (cc (h))))
