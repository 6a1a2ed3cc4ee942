-- Numbers and names that a frame can carry, and the messages that are made of them.
use Rattle.std.proofs.Common.{◌≡◌, ℕ, ◌+◌, ◌≤◌, Bool, true, false, ◌&&◌, ◌||◌, List, IsTrue, refl, arith}
use Rattle.std.specs.Prelude.{◌==◌, nat_le}
use Rattle.std.proofs.lemmas.Bool.{and_parts, and_from, or_left, or_right, leb-true, le-leb, lt-ltb}
use Rattle.fabric_terms.specs.declared.message.Body.TheVariants as body
use Rattle.ring_points.specs.declared.interval.Interval.{Interval}
use Rattle.ring_points.specs.declared.point.Point.{Point}
use Rattle.ring_points.specs.declared.who.Ruling.{Ruling}
use Rattle.ring_points.specs.declared.who.Who.{Who}
use Rattle.ring_points.specs.Ranges.{is_proper}
use Rattle.ring_points.specs.Whos.{arbiter_actor, node_instance}
use Rattle.fabric_terms.specs.Fields.{is_addressee, is_arbiter, is_counted, is_hops, is_lease, is_long, is_node, is_part, is_round, is_sender, is_session, is_stamp, is_who, is_within, is_word}
use Rattle.frames_fit.specs.Formats.{in_format}
use Rattle.frames_fit.specs.InRange.{latest_end}

-- Numbers.

pub within_from : (low high n : ℕ) → low ≤ n → n ≤ high → IsTrue (is_within low high n)
within_from low high n h k = and_from (nat_le low n) (nat_le n high) (le-leb low n h) (le-leb n high k)

pub within_parts : (low high n : ℕ) → IsTrue (is_within low high n) → (low ≤ n) × (n ≤ high)
within_parts low high n h =
    let parts = and_parts (nat_le low n) (nat_le n high) h in
    (leb-true low n parts.0, leb-true n high parts.1)

pub word_from : (n : ℕ) → n ≤ 4294967295 → IsTrue (is_word n)
word_from n h = lt-ltb n 4294967296 (omega arith)

pub counted_from : (n : ℕ) → 1 ≤ n → n ≤ 4294967295 → IsTrue (is_counted n)
counted_from n h k = and_from (nat_le 1 n) (is_word n) (le-leb 1 n h) (word_from n k)

pub counted_word : (n : ℕ) → IsTrue (is_counted n) → IsTrue (is_word n)
counted_word n h = (and_parts (nat_le 1 n) (is_word n) h).1

-- a lease that begins at a reading
pub ends_in_time : (now len : ℕ) → IsTrue (is_stamp now) → IsTrue (is_lease len) → now + len ≤ latest_end
ends_in_time now len h k =
    let last = leb-true now 1000000000000000 h in
    let long = (within_parts 10 1000000000 len k).1 in
    omega arith

-- Names.

pub record WhoParts (w : Who) : Type 0 where
  pub node : IsTrue (is_node w.actor)
  pub counted : IsTrue (is_counted w.instance)

pub who_parts : (w : Who) → IsTrue (is_who w) → WhoParts w
who_parts w h = let parts = and_parts (is_node w.actor) (is_counted w.instance) h in record { node = parts.0; counted = parts.1 }

pub node_addressed : (w : Who) → IsTrue (is_node w.actor) → IsTrue (is_word w.instance) → IsTrue (is_addressee w)
node_addressed w h k = or_left (is_node w.actor && is_word w.instance) (is_arbiter w) (and_from (is_node w.actor) (is_word w.instance) h k)

pub who_addressed : (w : Who) → IsTrue (is_who w) → IsTrue (is_addressee w)
who_addressed w h = let parts = who_parts w h in node_addressed w parts.node (counted_word w.instance parts.counted)

pub who_sends : (w : Who) → IsTrue (is_who w) → IsTrue (is_sender w)
who_sends w h = or_left (is_who w) (is_arbiter w) h

-- one of the first nine arbitrators
pub arbiter_addressed : (a : ℕ) → 1 ≤ a → a ≤ 9 → IsTrue (is_addressee (node_instance (arbiter_actor a) 0))
arbiter_addressed a h k =
    or_right (is_node (arbiter_actor a) && is_word 0) (is_arbiter (node_instance (arbiter_actor a) 0))
    (and_from (is_within 32769 32777 (arbiter_actor a)) true (within_from 32769 32777 (32768 + a) (omega arith) (omega arith)) refl)

-- a sender that is no arbitrator is an instance of a node
pub low_sends : (w : Who) → IsTrue (is_sender w) → w.actor ≤ 32768 → IsTrue (is_who w)
low_sends w h k = by_kind (is_who w) refl h
  where
    by_kind : (b : Bool) → is_who w ≡ b → IsTrue (b || is_arbiter w) → IsTrue (is_who w)
    by_kind true e g = e
    by_kind false e g =
        let low : 32769 ≤ w.actor = (within_parts 32769 32777 w.actor (and_parts (is_within 32769 32777 w.actor) (w.instance == 0) g).0).0 in
        absurd (omega arith)

pub node_sends : (w : Who) → IsTrue (is_sender w) → IsTrue (is_node w.actor) → IsTrue (is_who w)
node_sends w h k = let high : w.actor ≤ 999 = (within_parts 1 999 w.actor k).1 in low_sends w h (omega arith)

-- an addressee above all nodes is an arbitrator
pub high_addressed : (w : Who) (a : ℕ) → IsTrue (is_addressee w) → w.actor ≡ arbiter_actor a → IsTrue (is_sender (node_instance (arbiter_actor a) 0))
high_addressed w a h e = by_kind (is_node w.actor && is_word w.instance) refl h
  where
    by_kind : (b : Bool) → (is_node w.actor && is_word w.instance) ≡ b → IsTrue (b || is_arbiter w) → IsTrue (is_sender (node_instance (arbiter_actor a) 0))
    by_kind true f g =
        let high : w.actor ≤ 999 = (within_parts 1 999 w.actor (and_parts (is_node w.actor) (is_word w.instance) f).0).1 in
        absurd (omega arith)
    by_kind false f g =
        let here = within_parts 32769 32777 w.actor (and_parts (is_within 32769 32777 w.actor) (w.instance == 0) g).0 in
        let low : 32769 ≤ w.actor = here.0 in
        let high : w.actor ≤ 32777 = here.1 in
        or_right (is_who (node_instance (arbiter_actor a) 0)) (is_arbiter (node_instance (arbiter_actor a) 0))
        (and_from (is_within 32769 32777 (arbiter_actor a)) true (within_from 32769 32777 (32768 + a) (omega arith) (omega arith)) refl)

-- Messages of a session.

pub session_from : (mine yours : ℕ) → IsTrue (is_counted mine) → IsTrue (is_counted yours) → IsTrue (is_session mine yours)
session_from mine yours h k = and_from (is_counted mine) (is_counted yours) h k

module _ (to : Who) (named : IsTrue (is_addressee to)) where
  pub hello_format : (mine : ℕ) → IsTrue (is_counted mine) → IsTrue (in_format (to, body.Hello mine))
  hello_format mine h = and_from (is_addressee to) (is_counted mine) named h

  pub hello_for_format : (mine length : ℕ) → IsTrue (is_counted mine) → IsTrue (is_lease length) → IsTrue (in_format (to, body.HelloFor mine length))
  hello_for_format mine length h k = and_from (is_addressee to) (is_counted mine && is_lease length) named (and_from (is_counted mine) (is_lease length) h k)

  pub seek_format : (origin : Who) (key : Point) (hops : ℕ) → IsTrue (is_who origin) → IsTrue (is_long key.0) → IsTrue (is_hops hops) →
      IsTrue (in_format (to, body.Seek origin key hops))
  seek_format origin key hops h k l =
      and_from (is_addressee to) ((is_who origin && is_long key.0) && is_hops hops) named
      (and_from (is_who origin && is_long key.0) (is_hops hops) (and_from (is_who origin) (is_long key.0) h k) l)

  pub found_format : (key : Point) (holder : Who) → IsTrue (is_long key.0) → IsTrue (is_who holder) → IsTrue (in_format (to, body.Found key holder))
  found_format key holder h k = and_from (is_addressee to) (is_long key.0 && is_who holder) named (and_from (is_long key.0) (is_who holder) h k)

  pub accuse_format : (victim : Who) → IsTrue (is_who victim) → IsTrue (in_format (to, body.Accuse victim))
  accuse_format victim h = and_from (is_addressee to) (is_who victim) named h

  pub ruled_format : (victim : Who) (ruling : Ruling) → IsTrue (is_who victim) → IsTrue (in_format (to, body.Ruled victim ruling))
  ruled_format victim ruling h = and_from (is_addressee to) (is_who victim) named h

  pub claim_format : (victim : Who) (round : ℕ) → IsTrue (is_who victim) → IsTrue (is_round round) → IsTrue (in_format (to, body.Claim victim round))
  claim_format victim round h k = and_from (is_addressee to) (is_who victim && is_round round) named (and_from (is_who victim) (is_round round) h k)

  pub kept_format : (victim : Who) (round : ℕ) (claimer : Who) → IsTrue (is_who victim) → IsTrue (is_round round) → IsTrue (is_who claimer) →
      IsTrue (in_format (to, body.Kept victim round claimer))
  kept_format victim round claimer h k l =
      and_from (is_addressee to) ((is_who victim && is_round round) && is_who claimer) named
      (and_from (is_who victim && is_round round) (is_who claimer) (and_from (is_who victim) (is_round round) h k) l)

  -- in a session
  module _ (mine yours : ℕ) (h : IsTrue (is_session mine yours)) where
    pub offer_format : IsTrue (in_format (to, body.Offer mine yours))
    offer_format = and_from (is_addressee to) (is_session mine yours) named h

    pub offer_for_format : (length : ℕ) → IsTrue (is_lease length) → IsTrue (in_format (to, body.OfferFor mine yours length))
    offer_for_format length k =
        and_from (is_addressee to) (is_session mine yours && is_lease length) named (and_from (is_session mine yours) (is_lease length) h k)

    pub take_format : IsTrue (in_format (to, body.Take mine yours))
    take_format = and_from (is_addressee to) (is_session mine yours) named h

    pub renew_format : (stamp version got : ℕ) (want : Bool) (ranges : List Interval) → IsTrue (is_stamp stamp) → IsTrue (is_word version) →
        IsTrue (is_word got) → IsTrue (is_proper ranges) → IsTrue (in_format (to, body.Renew mine yours stamp version got want ranges))
    renew_format stamp version got want ranges k l m n =
        and_from (is_addressee to) ((((is_session mine yours && is_stamp stamp) && is_word version) && is_word got) && is_proper ranges) named
        (and_from (((is_session mine yours && is_stamp stamp) && is_word version) && is_word got) (is_proper ranges)
        (and_from ((is_session mine yours && is_stamp stamp) && is_word version) (is_word got)
        (and_from (is_session mine yours && is_stamp stamp) (is_word version) (and_from (is_session mine yours) (is_stamp stamp) h k) l) m) n)

    pub ack_format : (stamp version : ℕ) → IsTrue (is_stamp stamp) → IsTrue (is_word version) → IsTrue (in_format (to, body.RenewAck mine yours stamp version))
    ack_format stamp version k l =
        and_from (is_addressee to) ((is_session mine yours && is_stamp stamp) && is_word version) named
        (and_from (is_session mine yours && is_stamp stamp) (is_word version) (and_from (is_session mine yours) (is_stamp stamp) h k) l)

    pub transfer_format : (flight : ℕ) (ranges : List Interval) → IsTrue (is_counted flight && is_part ranges) →
        IsTrue (in_format (to, body.Transfer mine yours flight ranges))
    transfer_format flight ranges k =
        let parts = and_parts (is_counted flight) (is_part ranges) k in
        and_from (is_addressee to) ((is_session mine yours && is_counted flight) && is_part ranges) named
        (and_from (is_session mine yours && is_counted flight) (is_part ranges) (and_from (is_session mine yours) (is_counted flight) h parts.0) parts.1)

    pub gone_format : (got : ℕ) (bound : Bool) → IsTrue (is_word got) → IsTrue (in_format (to, body.Gone mine yours got bound))
    gone_format got bound k = and_from (is_addressee to) (is_session mine yours && is_word got) named (and_from (is_session mine yours) (is_word got) h k)
