-- What a session says again, and changes of a ring that the machine does not see.
use Rattle.std.proofs.Common.{◌≡◌, ℕ, true, false, [], ◌∷◌, Option, Some, refl, ap, subst, inl}
use Rattle.ring_points.specs.declared.who.Who.{Who}
use Rattle.ring_points.specs.declared.who.Flight as points
use Rattle.fabric_terms.specs.declared.config.FabricConfig.{FabricConfig}
use Rattle.fabric_terms.specs.declared.message.Body.TheVariants as body
use Rattle.join_phases.specs.declared.phases.Phase.{Phase}
use Rattle.join_phases.specs.Phases.{is_left}
use Rattle.ring_rules.specs.declared.link.Link.{Link}
use Rattle.ring_rules.specs.declared.link.LinkState.TheVariants as state
use Rattle.ring_rules.specs.Links.{renew_body, transfer_body, hello_body, flight_part}
use Rattle.ring_rules.specs.Rings.{Work}
use Rattle.ring_rules.specs.Slots.{slot_at}
use Rattle.ring_rules.specs.Deeds.{send, set_phase, say_gone}
use Rattle.ring_machine.specs.Ends.{End, end_of}
use Rattle.ring_machine.specs.Points.{Points}
use Rattle.ring_machine.specs.Slots.{Asking, is_used, is_engaged}
use Rattle.ring_machine.specs.Frames.{Frame, Hello, Take, Renew, Transfer, Gone}
use Rattle.ring_machine.specs.World.{World, slot}
use Rattle.ring_machine.specs.Deeds.{HelloAgain, TakeAgain, RenewSent, FlightAgain, GoneAgain}
use Rattle.ring_machine.specs.Events.{IsSound}
use Rattle.ring_machine.specs.Sessions.{Tied}
use Rattle.ring_machine.proofs.States.{implied}
use Rattle.ring_refinement.specs.Images.{machine_of, state_of, points_of, flight_of, token_of}
use Rattle.ring_refinement.specs.Tables.{is_proposing}
use Rattle.ring_refinement.proofs.Ranges.{announced_is, announced_rises, Rises}
use Rattle.ring_refinement.proofs.Greetings.{hello_said}
use Rattle.ring_refinement.proofs.Going.{Going, says}
use Rattle.ring_machine.specs.Tokens as machine

-- an end that has a session is used, and asks no more
pub tied_used : (v : World) (e f : End) → Tied v e f → is_used (slot v e).state ≡ true
tied_used v e f t = implied is_engaged is_used refl (slot v e).state t.engaged

pub tied_asks : (v : World) (e f : End) → Tied v e f → (slot v e).state ≡ Asking → ⊥
tied_asks v e f t a = let b = t.engaged in cc (a, b)

module _ {c : FabricConfig} {m : World} {x : Who} {now : ℕ} {w : Work} (sound : IsSound (machine_of c)) (g : Going c m x now w) where
  -- only the phase changes
  pub phase_going : (next : Phase → Phase) → is_left (next w.ring.phase) ≡ false → Going c m x now (set_phase next w)
  phase_going next stays = record {
    after = g.after;
    inv = g.inv;
    live = g.live;
    beside = g.beside;
    dies = g.dies;
    reading = g.reading;
    stays = stays;
    shows = let s = g.shows in record {
      me = s.me;
      running = s.running;
      token = s.token;
      next = s.next;
      slots = s.slots;
      accused = s.accused;
      rises = s.rises;
      frozen = s.frozen;
    };
    sent = g.sent;
    moved = g.moved;
    over = g.over;
  }

  pub hello_again_going : (i : ℕ) (l : Link) → slot_at i w.ring.slots ≡ Some l → l.state ≡ state.Hello → Going c m x now (send l.peer (hello_body l) w)
  hello_again_going i l at is =
      says sound g i l at HelloAgain (ap state_of is) (Hello (end_of x l.mine) l.peer.actor l.len ∷ []) refl ((l.peer, hello_body l) ∷ [])
      (hello_said c.lease (Hello (end_of x l.mine) l.peer.actor l.len ∷ g.after.sent) x l _ (λ q. (g.shows.slots.sound i l at).length (ap is_proposing is) q) (inl refl), tt)

  pub take_again_going : (i : ℕ) (l : Link) → slot_at i w.ring.slots ≡ Some l → l.state ≡ state.Bound → Going c m x now (send l.peer (body.Take l.mine l.yours) w)
  take_again_going i l at is =
      says sound g i l at TakeAgain (ap state_of is) (Take (end_of x l.mine) (end_of l.peer l.yours) ∷ []) refl ((l.peer, body.Take l.mine l.yours) ∷ [])
      (record { image = inl refl; rises = refl; no_ruling = refl }, tt)

  pub gone_again_going : (i : ℕ) (l : Link) → slot_at i w.ring.slots ≡ Some l → l.state ≡ state.Parting → Going c m x now (say_gone l w)
  gone_again_going i l at is =
      says sound g i l at GoneAgain (ap state_of is) (Gone (end_of x l.mine) (end_of l.peer l.yours) l.got true ∷ []) refl
      ((l.peer, body.Gone l.mine l.yours l.got true) ∷ []) (record { image = inl refl; rises = refl; no_ruling = refl }, tt)

  pub flight_again_going : (i : ℕ) (l : Link) → slot_at i w.ring.slots ≡ Some l → l.state ≡ state.Bound → (f : points.Flight) → l.flight ≡ Some f →
      Going c m x now (send l.peer (transfer_body l f) w)
  flight_again_going i l at is f flies =
      says sound g i l at (FlightAgain (record { number = f.number; part = points_of f.part })) (ap state_of is, ap flight_of flies)
      (Transfer (end_of x l.mine) (end_of l.peer l.yours) f.number (points_of f.part) ∷ []) refl ((l.peer, transfer_body l f) ∷ []) (
        record {
          image = inl refl;
          rises = subst (λ (o : Option points.Flight). Rises (flight_part o)) flies (g.shows.slots.sound i l at).part;
          no_ruling = refl;
        },
        tt,
      )

  -- what is owned and not frozen is announced
  pub renew_going : (i : ℕ) (l : Link) → slot_at i w.ring.slots ≡ Some l → l.state ≡ state.Bound → Going c m x now (send l.peer (renew_body now l w.ring) w)
  renew_going i l at is =
      says sound g i l at RenewSent (ap state_of is) (frame (machine.announced (token_of w.ring.slots w.ring.token)) ∷ []) refl
      ((l.peer, renew_body now l w.ring) ∷ []) (
        record {
          image = inl (ap frame (announced_is w.ring.slots w.ring.token g.shows.rises));
          rises = announced_rises w.ring.slots w.ring.token g.shows.rises;
          no_ruling = refl;
        },
        tt,
      )
    where
      frame : Points → Frame
      frame points = Renew (end_of x l.mine) (end_of l.peer l.yours) now w.ring.token.version l.got points
