-- What a link in range says is in the format.
use Rattle.std.proofs.Common.{◌≡◌, ℕ, ◌≤◌, Bool, true, false, ◌&&◌, Option, Some, None, IsTrue, refl, sym, subst}
use Rattle.std.specs.Prelude.{◌==◌}
use Rattle.std.proofs.lemmas.Bool.{and_parts}
use Rattle.arbiter_quorum.specs.Tallies.{Tally}
use Rattle.fabric_terms.specs.declared.config.FabricConfig.{FabricConfig}
use Rattle.fabric_terms.specs.declared.message.Body.TheVariants as body
use Rattle.heir_rounds.specs.Rounds.{no_rounds}
use Rattle.join_phases.specs.Phases.{is_linked}
use Rattle.ring_points.specs.declared.who.Flight.{Flight}
use Rattle.ring_points.specs.declared.who.Who.{Who}
use Rattle.ring_rules.specs.declared.link.Link.{Link}
use Rattle.ring_rules.specs.declared.link.LinkState.{LinkState}
use Rattle.ring_rules.specs.Deeds.{SessionRow, answer_unknown, in_found, in_slot, say_gone}
use Rattle.ring_rules.specs.Links.{hello_body, hello_by, offer_body, offer_by, renew_body, transfer_body}
use Rattle.ring_rules.specs.Rings.{Ring, Settings, Slots, Work}
use Rattle.ring_rules.specs.Slots.{is_bound, is_hello, slot_at}
use Rattle.fabric_terms.specs.Fields.{is_addressee, is_counted, is_lease, is_part, is_round, is_session, is_stamp, is_who, is_word}
use Rattle.token_core.specs.Tokens.{announced}
use Rattle.frames_fit.specs.Formats.{in_format}
use Rattle.frames_fit.specs.InRange.{IsInRange, LinkInRange, RoundsInRange, SlotInRange, holds_bound, names_peer}
use Rattle.frames_fit.proofs.Facts.{ack_format, gone_format, hello_format, hello_for_format, offer_format, offer_for_format, renew_format, session_from, take_format, transfer_format, who_addressed, word_from}
use Rattle.frames_fit.proofs.Going.{Going, numbers_parts, sends}
use Rattle.frames_fit.proofs.Places.{frozen_bound, is_frozen_in, slot_in_range}
use Rattle.frames_fit.proofs.Tokens.{announced_proper}

-- what the settings of a sound configuration are
pub record SettingsInRange (set : Settings) : Type 0 where
  pub lease : IsTrue (is_lease set.lease)
  pub longest : IsTrue (is_lease set.longest)
  pub answer : set.answer ≤ 1000000000
  pub drift : set.bound.d ≤ 100
  pub grain : set.bound.grain ≤ 1000000
  pub arbitrators : set.arbitrators ≤ 9
  pub rounds : IsTrue (is_round set.rounds)

-- no answer yet
pub first_round : (set : Settings) → SettingsInRange set → (me : Who) → RoundsInRange (no_rounds me set.arbitrators set.rounds)
first_round set fine me = record { round = refl; limit = fine.rounds }

-- a link that does not greet is in a session of an instance

pub record InSession (l : Link) : Type 0 where
  pub names : IsTrue (is_who l.peer && is_counted l.yours)
  pub peer : IsTrue (is_who l.peer)
  pub addressed : IsTrue (is_addressee l.peer)
  pub session : IsTrue (is_session l.mine l.yours)

pub in_session_of : (l : Link) → LinkInRange l → is_hello l.state ≡ false → InSession l
in_session_of l h e =
    let names : IsTrue (is_who l.peer && is_counted l.yours) = subst (λ (b : Bool). IsTrue (names_peer b l.peer l.yours)) e h.names in
    let parts = and_parts (is_who l.peer) (is_counted l.yours) names in
    record { names = names; peer = parts.0; addressed = who_addressed l.peer parts.0; session = session_from l.mine l.yours h.mine parts.1 }

-- the same in another state of a session, with other answers to its accusation
pub moved_in_range : (l : Link) → LinkInRange l → is_hello l.state ≡ false → (to : LinkState) → is_hello to ≡ false → (ripe : ℕ) (tally : Tally) →
    LinkInRange (record l { state = to; ripe = ripe; tally = tally })
moved_in_range l h e to f ripe tally = record {
  names = subst (λ (b : Bool). IsTrue (names_peer b l.peer l.yours)) (sym f) (in_session_of l h e).names;
  mine = h.mine;
  length = h.length;
  until = h.until;
  held = h.held;
  got = h.got;
  flight = h.flight;
  rounds = h.rounds;
}

-- the link at a place
pub link_in_range : {c : FabricConfig} {r : Ring} (i : ℕ) (l : Link) → slot_at i r.slots ≡ Some l → IsInRange c r → LinkInRange l
link_in_range {r = r} i l at h = subst SlotInRange at (slot_in_range r.slots i h.slots)

-- nothing is frozen for a place that is not bound
pub not_frozen : {c : FabricConfig} {r : Ring} (i : ℕ) → holds_bound (slot_at i r.slots) ≡ false → IsInRange c r → is_frozen_in i r.token.freeze ≡ false
not_frozen {r = r} i idle h = by_test (is_frozen_in i r.token.freeze) refl
  where
    by_test : (b : Bool) → is_frozen_in i r.token.freeze ≡ b → is_frozen_in i r.token.freeze ≡ false
    by_test false e = e
    by_test true e = let bound : holds_bound (slot_at i r.slots) ≡ true = frozen_bound r.slots i r.token.freeze h.frozen e in absurd (cc (bound, idle))

-- what is frozen for the place of a link is frozen for one that is bound
pub still_bound : {c : FabricConfig} {r : Ring} (i : ℕ) (l : Link) → slot_at i r.slots ≡ Some l → IsInRange c r → is_frozen_in i r.token.freeze ≡ true →
    is_bound l.state ≡ true
still_bound {r = r} i l at h k = subst (λ (o : Option Link). holds_bound o ≡ true) at (frozen_bound r.slots i r.token.freeze h.frozen k)

pub unbound_at : (slots : Slots) (i : ℕ) (l : Link) → slot_at i slots ≡ Some l → is_bound l.state ≡ false → holds_bound (slot_at i slots) ≡ false
unbound_at slots i l at h = subst (λ (o : Option Link). holds_bound o ≡ false) (sym at) h

-- what it says

module _ (l : Link) (h : LinkInRange l) where
  pub hello_said : IsTrue (is_addressee l.peer) → IsTrue (in_format (l.peer, hello_body l))
  hello_said named = by_wire (l.wire == 2)
    where
      by_wire : (b : Bool) → IsTrue (in_format (l.peer, hello_by b l))
      by_wire true = hello_for_format l.peer named l.mine l.len h.mine h.length
      by_wire false = hello_format l.peer named l.mine h.mine

  module _ (s : InSession l) where
    pub offer_said : IsTrue (in_format (l.peer, offer_body l))
    offer_said = by_wire (l.wire == 2)
      where
        by_wire : (b : Bool) → IsTrue (in_format (l.peer, offer_by b l))
        by_wire true = offer_for_format l.peer s.addressed l.mine l.yours s.session l.len h.length
        by_wire false = offer_format l.peer s.addressed l.mine l.yours s.session

    pub take_said : IsTrue (in_format (l.peer, body.Take l.mine l.yours))
    take_said = take_format l.peer s.addressed l.mine l.yours s.session

    pub renew_said : {c : FabricConfig} (now : ℕ) (r : Ring) → IsInRange c r → IsTrue (is_stamp now) → IsTrue (in_format (l.peer, renew_body now l r))
    renew_said now r k reads =
        renew_format l.peer s.addressed l.mine l.yours s.session now r.token.version l.got (is_linked r.phase) (announced r.token) reads
        (word_from r.token.version (numbers_parts r k.numbers).version) h.got (announced_proper r.token k.token)

    pub ack_said : (stamp version : ℕ) → IsTrue (is_stamp stamp) → IsTrue (is_word version) →
        IsTrue (in_format (l.peer, body.RenewAck l.mine l.yours stamp version))
    ack_said stamp version k m = ack_format l.peer s.addressed l.mine l.yours s.session stamp version k m

    pub transfer_said : (f : Flight) → IsTrue (is_counted f.number && is_part f.part) → IsTrue (in_format (l.peer, transfer_body l f))
    transfer_said f k = transfer_format l.peer s.addressed l.mine l.yours s.session f.number f.part k

    pub gone_said : (bound : Bool) → IsTrue (in_format (l.peer, body.Gone l.mine l.yours l.got bound))
    gone_said bound = gone_format l.peer s.addressed l.mine l.yours s.session l.got bound h.got

module _ (c : FabricConfig) (w : Work) (a : Going c w) where
  pub says_gone : (l : Link) → (IsInRange c w.ring → LinkInRange l) → is_hello l.state ≡ false → Going c (say_gone l w)
  says_gone l fine e = sends c w a l.peer (body.Gone l.mine l.yours l.got true) (λ r. gone_said l (fine r) (in_session_of l (fine r) e) true)

  -- the answer in no session
  pub answers : (from : Who) (theirs own : ℕ) → IsTrue (is_who from) → IsTrue (is_session theirs own) → Going c (answer_unknown from theirs own w)
  answers from theirs own h k =
      let parts = and_parts (is_counted theirs) (is_counted own) k in
      sends c w a from (body.Gone own theirs 0 false)
      (λ r. gone_format from (who_addressed from h) own theirs (session_from own theirs parts.1 parts.0) 0 false refl)

  -- the slot that was looked for
  pub found : (row : SessionRow) (none : Work → Work) (o : Option ℕ) →
      ((i : ℕ) (l : Link) (st : LinkState) → slot_at i w.ring.slots ≡ Some l → l.state ≡ st → Going c (row i l st w)) → Going c (none w) →
      Going c (in_found row none o w)
  found row none None inside outside = outside
  found row none (Some i) inside outside = at (slot_at i w.ring.slots) refl
    where
      at : (o : Option Link) → slot_at i w.ring.slots ≡ o → Going c (in_slot row i o w)
      at None e = a
      at (Some l) e = inside i l l.state e refl
