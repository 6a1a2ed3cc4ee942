-- A frame that comes keeps a ring in range.
use Rattle.std.proofs.Common.{◌≡◌, ℕ, Bool, true, false, not, ◌&&◌, ◌==◌, List, IsTrue, refl, subst}
use Rattle.std.specs.Prelude.{min}
use Rattle.std.specs.List.{list_any}
use Rattle.std.proofs.lemmas.Bool.{and_parts}
use Rattle.fabric_terms.specs.declared.config.FabricConfig.{FabricConfig}
use Rattle.fabric_terms.specs.declared.message.Body.{Body}
use Rattle.fabric_terms.specs.declared.message.Body.TheVariants as body
use Rattle.fabric_terms.specs.declared.message.Message.{Message}
use Rattle.fabric_terms.specs.Sound.{IsSound}
use Rattle.ring_points.specs.declared.who.Who.{Who}
use Rattle.ring_points.specs.Ranges.{is_proper}
use Rattle.ring_route.specs.Routes.{heard_in, is_among, point_of}
use Rattle.ring_rules.specs.Frames as rows
use Rattle.ring_rules.specs.Frames.{frame_received, frame_row, is_arbiters_answer, is_between_nodes, is_for, may_send, passes, sender_heard}
use Rattle.ring_rules.specs.Rings.{Ring, Settings, Work}
use Rattle.fabric_terms.specs.Fields.{is_addressee, is_counted, is_hops, is_lease, is_long, is_part, is_sender, is_session, is_stamp, is_who, is_word}
use Rattle.fabric_terms.specs.Messages.{is_sound, is_sound_body}
use Rattle.frames_fit.specs.InRange.{IsInRange}
use Rattle.frames_fit.proofs.Claims.{kept_going}
use Rattle.frames_fit.proofs.Facts.{node_sends}
use Rattle.frames_fit.proofs.Flights.{gone_going, transfer_going}
use Rattle.frames_fit.proofs.Going.{Done, Going, counts, routes}
use Rattle.frames_fit.proofs.Greetings.{hello_going, least_lease, offer_going, take_going}
use Rattle.frames_fit.proofs.Renewals.{ack_going, renew_going}
use Rattle.frames_fit.proofs.Routes.{heard_in_range}
use Rattle.frames_fit.proofs.Rulings.{ruling_going}
use Rattle.frames_fit.proofs.Saying.{SettingsInRange}
use Rattle.frames_fit.proofs.Seeks.{found_going, seek_going}
use Rattle.frames_fit.proofs.Settled.{node_in_range}

-- what a sound message is
pub record SoundParts (m : Message) : Type 0 where
  pub from : IsTrue (is_sender m.from)
  pub to : IsTrue (is_addressee m.to)
  pub body : IsTrue (is_sound_body m.body)

pub sound_parts : (m : Message) → IsTrue (is_sound m) → SoundParts m
sound_parts m h =
    let all = and_parts (is_sender m.from && is_addressee m.to) (is_sound_body m.body) h in
    let names = and_parts (is_sender m.from) (is_addressee m.to) all.0 in
    record { from = names.0; to = names.1; body = all.1 }

-- Who sends.

-- no answer of an arbitrator goes from node to node
not_answer : (b : Body) → is_between_nodes b ≡ true → is_arbiters_answer b ≡ false
not_answer (body.Ruled victim ruling) h = absurd (cc (h))
not_answer (body.Kept victim round claimer) h = absurd (cc (h))
not_answer (body.Prepared partition epoch config) h = absurd (cc (h))
not_answer (body.NoPrepare partition epoch kept) h = absurd (cc (h))
not_answer (body.Voted partition epoch kept) h = absurd (cc (h))
not_answer (body.NoVote partition epoch kept) h = absurd (cc (h))
not_answer (body.DoneKept partition epoch) h = absurd (cc (h))
not_answer (body.NoDone partition epoch kept) h = absurd (cc (h))
not_answer b h = refl

module _ (c : FabricConfig) (sound : IsSound c) where
  -- a configured node that sends is an instance of it
  listed_sends : (r : Ring) (from : Who) → IsInRange c r → IsTrue (is_sender from) → rows.is_node r from.actor ≡ true → IsTrue (is_who from)
  listed_sends r from h k e =
      node_sends from k (node_in_range c sound from.actor (subst (λ (ps : List (ℕ × ℕ)). list_any (λ p. p.0 == from.actor) ps ≡ true) h.points e))

  between_sends : (set : Settings) (r : Ring) (m : Message) → IsInRange c r → IsTrue (is_sender m.from) → passes set r m ≡ true →
      is_between_nodes m.body ≡ true → IsTrue (is_who m.from)
  between_sends set r m h k e b =
      let may = (and_parts (is_for r.me m.to && not (is_among m.from r.accused))
      (may_send set r m.from.actor (is_between_nodes m.body) (is_arbiters_answer m.body)) e).1 in
      let as_node : may_send set r m.from.actor (is_between_nodes m.body) false ≡ true =
      subst (λ (t : Bool). may_send set r m.from.actor (is_between_nodes m.body) t ≡ true) (not_answer m.body b) may in
      listed_sends r m.from h k (and_parts (rows.is_node r m.from.actor) (not (is_between_nodes m.body && m.from.actor == r.me.actor)) as_node).0

  -- the sender is heard
  hears : (now : ℕ) (from : Who) (w : Work) → IsTrue (is_sender from) → Done c w → Done c (sender_heard now from w)
  hears now from w k d = by_test (rows.is_node w.ring from.actor && not (from.actor == w.ring.me.actor)) refl
    where
      by_test : (b : Bool) → (rows.is_node w.ring from.actor && not (from.actor == w.ring.me.actor)) ≡ b → Done c (rows.heard_if now from w b)
      by_test true e =
          let who = listed_sends w.ring from d.ring k (and_parts (rows.is_node w.ring from.actor) (not (from.actor == w.ring.me.actor)) e).0 in
          routes c w (λ n. d) (heard_in from (point_of from.actor w.ring.routes.points) now w.ring.routes.known) w.ring.target
          (λ r. heard_in_range from (point_of from.actor w.ring.routes.points) now w.ring.routes.known who r.known) (λ r. r.target) d.ring.numbers
      by_test false e = d

-- The row of a frame.

module _ (c : FabricConfig) (set : Settings) (fine : SettingsInRange set) (now : ℕ) (reads : IsTrue (is_stamp now)) (from : Who) (w : Work)
    (a : Going c w) where
  row : (b : Body) → (is_between_nodes b ≡ true → IsTrue (is_who from)) → IsTrue (is_sound_body b) → Going c (frame_row set now from b w)
  row (body.Hello mine) who h = hello_going c w a set fine now reads from mine 1 set.lease (who refl) h fine.lease
  row (body.HelloFor mine length) who h =
      let p = and_parts (is_counted mine) (is_lease length) h in
      hello_going c w a set fine now reads from mine 2 (min length set.longest) (who refl) p.0 (least_lease length set.longest p.1 fine.longest)
  row (body.Offer mine yours) who h = offer_going c w a now reads from mine yours set.lease (who refl) h fine.lease
  row (body.OfferFor mine yours length) who h =
      let p = and_parts (is_session mine yours) (is_lease length) h in
      offer_going c w a now reads from mine yours length (who refl) p.0 p.1
  row (body.Take mine yours) who h = take_going c w a now from mine yours reads (who refl) h
  row (body.Renew mine yours stamp version got want ranges) who h =
      let p = and_parts (((is_session mine yours && is_stamp stamp) && is_word version) && is_word got) (is_proper ranges) h in
      let q = and_parts ((is_session mine yours && is_stamp stamp) && is_word version) (is_word got) p.0 in
      let s = and_parts (is_session mine yours && is_stamp stamp) (is_word version) q.0 in
      let t = and_parts (is_session mine yours) (is_stamp stamp) s.0 in
      renew_going c w a from mine yours stamp version got want ranges (who refl) t.0 t.1 s.1 p.1
  row (body.RenewAck mine yours stamp version) who h =
      let p = and_parts (is_session mine yours && is_stamp stamp) (is_word version) h in
      ack_going c w a from mine yours stamp version (and_parts (is_session mine yours) (is_stamp stamp) p.0).1
  row (body.Transfer mine yours flight ranges) who h =
      let p = and_parts (is_session mine yours && is_counted flight) (is_part ranges) h in
      let q = and_parts (is_session mine yours) (is_counted flight) p.0 in
      transfer_going c w a from mine yours flight ranges (who refl) q.0 q.1 p.1
  row (body.Gone mine yours got bound) who h =
      let p = and_parts (is_session mine yours) (is_word got) h in
      gone_going c w a from mine yours got bound (who refl) p.0
  row (body.Seek origin key hops) who h =
      let p = and_parts (is_who origin && is_long key.0) (is_hops hops) h in
      let q = and_parts (is_who origin) (is_long key.0) p.0 in
      seek_going c w a origin key hops q.0 q.1
  row (body.Found key holder) who h =
      let p = and_parts (is_long key.0) (is_who holder) h in
      found_going c w a set fine now reads key holder p.0 p.1
  row (body.Ruled victim ruling) who h = ruling_going c w a set fine now reads from victim ruling
  row (body.Kept victim round claimer) who h = kept_going c w a set fine now reads from victim round claimer
  row b who h = a

pub frame_done : (c : FabricConfig) → IsSound c → (set : Settings) → SettingsInRange set → (now : ℕ) → IsTrue (is_stamp now) → (m : Message) →
    IsTrue (is_sound m) → (w : Work) → Done c w → passes set w.ring m ≡ true → Done c (frame_received set now m.from m.body (sender_heard now m.from w))
unfolding frame_received
frame_done c sound set fine now reads m h w d e =
    let parts = sound_parts m h in
    let v : Work = sender_heard now m.from w in
    let g : Done c v = hears c sound now m.from w parts.from d in
    counts c v (frame_row set now m.from m.body v) g
    (row c set fine now reads m.from v (λ n. g) m.body (λ b. between_sends c sound set w.ring m d.ring parts.from e b) parts.body)
