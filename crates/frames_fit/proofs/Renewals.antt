-- Renew and RenewAck keep a ring in range.
use Rattle.std.proofs.Common.{◌≡◌, ℕ, Bool, true, false, not, ◌&&◌, List, Option, Some, None, IsTrue, refl, sym, subst, arith}
use Rattle.std.specs.Prelude.{is_some, nat_le, nat_lt}
use Rattle.std.proofs.lemmas.Bool.{and_parts, not-true}
use Rattle.fabric_terms.specs.declared.config.FabricConfig.{FabricConfig}
use Rattle.fabric_terms.specs.declared.message.Body.TheVariants as body
use Rattle.join_phases.specs.Phases.{bound_phase, is_routing}
use Rattle.ring_points.specs.declared.interval.Interval.{Interval}
use Rattle.ring_points.specs.declared.who.Flight.{Flight}
use Rattle.ring_points.specs.declared.who.Who.{Who}
use Rattle.ring_points.specs.Ranges.{is_proper}
use Rattle.ring_route.specs.Routes.{point_of}
use Rattle.ring_rules.specs.declared.link.Link.{Link}
use Rattle.ring_rules.specs.declared.link.LinkState.{LinkState}
use Rattle.ring_rules.specs.declared.link.LinkState.TheVariants as state
use Rattle.ring_rules.specs.Deeds.{answer_unknown, put_slot, send, set_phase}
use Rattle.ring_rules.specs.Links.{acknowledged, confirmed, confirmed_if, has_flight, recorded_if, renewed}
use Rattle.ring_rules.specs.Renewals as rows
use Rattle.ring_rules.specs.Renewals.{ack_received, grant_wanted, may_freeze, near_part, owns_none, renew_received}
use Rattle.ring_rules.specs.Rings.{Ring, Work}
use Rattle.ring_rules.specs.Slots.{is_bound, is_hello, of_session, slot_at, slot_where}
use Rattle.fabric_terms.specs.Fields.{is_session, is_stamp, is_who, is_word}
use Rattle.frames_fit.specs.InRange.{FlightInRange, IsInRange, LinkInRange, holds_bound}
use Rattle.frames_fit.proofs.Facts.{ends_in_time}
use Rattle.frames_fit.proofs.Going.{Going, freezes, phases, puts, sends}
use Rattle.frames_fit.proofs.Places.{set_at}
use Rattle.frames_fit.proofs.Saying.{ack_said, answers, found, in_session_of, link_in_range, says_gone, still_bound}
use Rattle.frames_fit.proofs.Tokens.{Rises, owned_rises}
use Rattle.ring_points.proofs.NearerPart.{nearer_part_rises}

-- a flight that is confirmed stands no more
confirmed_in_range : (o : Option Flight) (got : ℕ) → FlightInRange o → FlightInRange (confirmed o got)
confirmed_in_range None got h = tt
confirmed_in_range (Some f) got h = by_test (nat_le f.number got)
  where
    by_test : (b : Bool) → FlightInRange (confirmed_if (Some f) b)
    by_test true = tt
    by_test false = h

renewed_in_range : (l : Link) (version got : ℕ) (ranges : List Interval) → LinkInRange l → is_hello l.state ≡ false → IsTrue (is_proper ranges) →
    LinkInRange (renewed l version got ranges)
renewed_in_range l version got ranges h met k = by_test (nat_lt l.held_version version)
  where
    by_test : (b : Bool) → LinkInRange (record (recorded_if l version ranges b) { state = state.Bound; flight = confirmed l.flight got })
    by_test true = record {
      names = (in_session_of l h met).names;
      mine = h.mine;
      length = h.length;
      until = h.until;
      held = k;
      got = h.got;
      flight = confirmed_in_range l.flight got h.flight;
      rounds = h.rounds;
    }
    by_test false = record {
      names = (in_session_of l h met).names;
      mine = h.mine;
      length = h.length;
      until = h.until;
      held = h.held;
      got = h.got;
      flight = confirmed_in_range l.flight got h.flight;
      rounds = h.rounds;
    }

pub near_rises : {c : FabricConfig} (r : Ring) (l : Link) → IsInRange c r → Rises (near_part r l)
near_rises r l h =
    nearer_part_rises r.token.ranges (point_of r.me.actor r.routes.points) (point_of l.peer.actor r.routes.points) (owned_rises r.token h.token)

module _ (c : FabricConfig) (w : Work) (a : Going c w) where
  -- the nearer part is frozen for a link that is bound
  grants : (i : ℕ) (l : Link) (want : Bool) → holds_bound (slot_at i w.ring.slots) ≡ true → Going c (grant_wanted i l want w)
  grants i l want bound = granted (want && is_routing w.ring.phase && not (is_some w.ring.token.freeze) && not (has_flight l))
    where
      frozen : (b : Bool) → (not (owns_none w.ring.token (near_part w.ring l)) && may_freeze w.ring.token (near_part w.ring l)) ≡ b →
          Going c (rows.freeze_if i (near_part w.ring l) w b)
      frozen true e =
          let some = and_parts (not (owns_none w.ring.token (near_part w.ring l))) (may_freeze w.ring.token (near_part w.ring l)) e in
          freezes c w a (near_part w.ring l) i (λ r. near_rises w.ring l r) (not-true (owns_none w.ring.token (near_part w.ring l)) some.0) some.1 bound
      frozen false e = a

      granted : (b : Bool) → Going c (rows.grant_if i l w b)
      granted true = frozen _ refl
      granted false = a

module _ (c : FabricConfig) (w : Work) (a : Going c w) where
  -- a Renew is heard: the link l in place of the one that was met
  heard : (i : ℕ) (before l : Link) (stamp version : ℕ) (want : Bool) → slot_at i w.ring.slots ≡ Some before → (IsInRange c w.ring → LinkInRange l) →
      is_bound l.state ≡ true → is_hello l.state ≡ false → IsTrue (is_stamp stamp) → IsTrue (is_word version) →
      Going c (rows.renew_heard i l stamp version want w)
  heard i before l stamp version want e fine bound met k m =
      let put : Work = put_slot i l w in
      let puts_it : Going c put = puts c w a i l fine (λ r z. bound) in
      let says_it : Going c (send l.peer (body.RenewAck l.mine l.yours stamp version) put) =
      sends c put puts_it l.peer (body.RenewAck l.mine l.yours stamp version)
      (λ r. let h = fine (a r.numbers).ring in ack_said l h (in_session_of l h met) stamp version k m) in
      grants c (send l.peer (body.RenewAck l.mine l.yours stamp version) put) says_it i l want
      (subst (λ (o : Option Link). holds_bound o ≡ true) (sym (set_at w.ring.slots i before (Some l) e)) bound)

module _ (c : FabricConfig) (w : Work) (a : Going c w) where
  pub renew_going : (from : Who) (theirs own stamp version got : ℕ) (want : Bool) (ranges : List Interval) → IsTrue (is_who from) →
      IsTrue (is_session theirs own) → IsTrue (is_stamp stamp) → IsTrue (is_word version) → IsTrue (is_proper ranges) →
      Going c (renew_received from theirs own stamp version got want ranges w)
  unfolding renew_received
  renew_going from theirs own stamp version got want ranges h s k m n =
      found c w a (rows.renew_seen stamp version got want ranges) (answer_unknown from theirs own) (slot_where (of_session from own theirs) w.ring.slots) inside
      (answers c w a from theirs own h s)
    where
      inside : (i : ℕ) (l : Link) (st : LinkState) → slot_at i w.ring.slots ≡ Some l → l.state ≡ st →
          Going c (rows.renew_seen stamp version got want ranges i l st w)
      inside i l state.Offered e f =
          heard c (set_phase bound_phase w) (phases c w a bound_phase) i l (renewed l version got ranges) stamp version want e
          (λ r. renewed_in_range l version got ranges (link_in_range i l e r) (λ j. is_hello (f j)) n) refl refl k m
      inside i l state.Bound e f =
          heard c w a i l (renewed l version got ranges) stamp version want e
          (λ r. renewed_in_range l version got ranges (link_in_range i l e r) (λ j. is_hello (f j)) n) refl refl k m
      inside i l state.Parting e f = says_gone c w a l (λ r. link_in_range i l e r) (λ j. is_hello (f j))
      inside i l st e f = a

  pub ack_going : (from : Who) (theirs own stamp version : ℕ) → IsTrue (is_stamp stamp) → Going c (ack_received from theirs own stamp version w)
  unfolding ack_received
  ack_going from theirs own stamp version k =
      found c w a (rows.ack_seen stamp version) (λ v. v) (slot_where (of_session from own theirs) w.ring.slots) inside a
    where
      later : (i : ℕ) (l : Link) → slot_at i w.ring.slots ≡ Some l → Going c (put_slot i (acknowledged l stamp version) w)
      later i l e = puts c w a i (acknowledged l stamp version)
          (λ r. let m = link_in_range i l e r in
          record {
            names = m.names;
            mine = m.mine;
            length = m.length;
            until = (let before = m.until in let now = ends_in_time stamp l.len k m.length in omega arith);
            held = m.held;
            got = m.got;
            flight = m.flight;
            rounds = m.rounds;
          })
          (λ r. still_bound i l e r)

      inside : (i : ℕ) (l : Link) (st : LinkState) → slot_at i w.ring.slots ≡ Some l → l.state ≡ st → Going c (rows.ack_seen stamp version i l st w)
      inside i l state.Bound e f = later i l e
      inside i l state.Parting e f = later i l e
      inside i l st e f = a
