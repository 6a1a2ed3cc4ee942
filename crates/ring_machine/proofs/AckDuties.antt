-- An acknowledgement is heard: it prolongs the lease.
use Rattle.std.proofs.Common.{◌≡◌, ℕ, ◌+◌, ◌<◌, ◌≤◌, max, true, [], refl, sym, subst, inl, ⊎_elim, arith}
use Rattle.std.proofs.lemmas.Bool.{both_ways, cases_lt}
use Rattle.fabric_lemmas.specs.Members.{IsMember}
use Rattle.ring_machine.specs.Ends.{End}
use Rattle.ring_machine.specs.Slots.{Slot, guards, is_engaged, stands}
use Rattle.ring_machine.specs.Tokens.{Token}
use Rattle.ring_machine.specs.Frames.{RenewAck}
use Rattle.ring_machine.specs.World.{Settings, World, slot}
use Rattle.ring_machine.specs.Effects.{outcome}
use Rattle.ring_machine.specs.Leases.{Rests, Leased}
use Rattle.ring_machine.specs.SoundFrames.{SoundAck}
use Rattle.ring_machine.proofs.States.{implied}
use Rattle.ring_machine.proofs.Duty.{TokenDuty, Duty}
use Rattle.ring_machine.proofs.Acting.{Acting, good, freeze_mine}
use Rattle.ring_machine.proofs.Kept.{LeaseKept, kept_duty, state_same}
use Rattle.ring_machine.proofs.Shrunk.{not_less, not_undone, token_shrunk, place_shrunk}

module _ {c : Settings} {w : World} {e : End} (a : Acting c w e) where
  abbrev s : Slot
  s = slot w e

  abbrev token : Token
  token = (w.instance e.who).token

  -- an acknowledgement prolongs the lease
  module _ (st : stands s.state ≡ true) (stamp version : ℕ) (m : IsMember (RenewAck s.far e stamp version) w.sent) where
    abbrev prolonged : Slot
    prolonged = record (slot w e) { until = max (slot w e).until (stamp + (slot w e).len); acked = max (slot w e).acked version }

    guarded : guards s.state ≡ true
    guarded = implied stands guards refl s.state st

    ack : SoundAck w s.far e stamp version
    ack = a.inv.frames (RenewAck s.far e stamp version) m

    longer : (moment : ℕ) → Leased (w.instance e.who).pairs moment s.until s.len → Rests (w.instance e.who).pairs moment stamp →
        Leased (w.instance e.who).pairs moment prolonged.until s.len
    longer moment l rests = ⊎_elim
        (λ (lt : l.stamp < stamp). record { stamp = stamp; rests = rests; within = omega (arith, l.within) })
        (λ (le : stamp ≤ l.stamp). record { stamp = l.stamp; rests = l.rests; within = omega (arith, l.within) })
        (cases_lt l.stamp stamp)

    lease : LeaseKept c w e s prolonged
    lease = record {
      leased = longer w.time ((good a).leased guarded) ack.rests;
      since = λ moment was acks. longer moment (was guarded) (acks stamp version m);
      fence = let f = a.live.below e.number guarded in omega arith;
    }

    ack_token : TokenDuty w e s prolonged token []
    ack_token =
        let still = token_shrunk a s.state s.until s.ripe s.held s.flight token [] (not_less s) (not_undone token) (λ g h. absurd h) in record {
          acked = let n = ack.recorded in let k = (good a).acked in omega arith;
          version = still.version;
          got = still.got;
          held_version_rises = still.held_version_rises;
          got_rises = still.got_rises;
          got_still = still.got_still;
          version_rises = still.version_rises;
          next_flight_rises = still.next_flight_rises;
          flight = still.flight;
          sound = still.sound;
          freeze = λ z h. inl h;
          mine = λ en z is k tie. let f = freeze_mine a z is en tie in record {
            renews = f.renews;
            confirms = f.confirms;
            acks = f.acks;
            recorded = f.recorded;
            settled = λ le l pending.
                ⊎_elim (λ (lt : s.acked < version). f.acks stamp version m (omega arith) l pending)
                (λ (le2 : version ≤ s.acked). f.settled (omega arith) l pending) (cases_lt s.acked version);
          };
          theirs = still.theirs;
          newly = λ h. absurd (both_ways _ h (implied stands is_engaged refl s.state st));
        }

    pub ack_heard_duty : Duty c w e (w.instance e.who).next_session (outcome prolonged token [] w.place)
    ack_heard_duty =
        let engaged = implied stands is_engaged refl s.state st in
        let still = place_shrunk a s.state s.until s.ripe s.held s.flight token [] (not_less s) (not_undone token) (λ g h. absurd h) (λ h. h) in
        kept_duty a (outcome prolonged token [] w.place)
        (record {
          was_engaged = engaged;
          engaged = engaged;
          far = refl;
          len = refl;
          active = λ h. h;
          willing = λ h. h;
          quiets = λ q. q;
          touched = λ h. ack.tied.mine;
          recorded = (good a).recorded;
          claims = (good a).claims;
          in_state = state_same a s.state refl;
          guarding = subst (λ b. Rattle.ring_machine.proofs.Kept.Guarding c w e s prolonged b) (sym guarded) lease;
        })
        (λ g h. absurd h)
        ack_token
        (record {
          owned = still.owned;
          exact = still.exact;
          keeps = still.keeps;
          keeps_unborn = still.keeps_unborn;
          gets_none = still.gets_none;
          flies = still.flies;
          flew = still.flew;
          flight = still.flight;
          mine = still.mine;
          theirs = still.theirs;
          stays = still.stays;
        })
