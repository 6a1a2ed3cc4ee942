-- Greetings, Hello, Offer and Take keep a ring in range.
use Rattle.std.proofs.Common.{◌≡◌, ℕ, Bool, true, false, ◌==◌, Option, Some, None, IsTrue, refl, arith}
use Rattle.std.specs.Prelude.{min}
use Rattle.std.proofs.lemmas.Bool.{and_parts, and_from}
use Rattle.fabric_terms.specs.declared.config.FabricConfig.{FabricConfig}
use Rattle.fabric_terms.specs.declared.message.Body.TheVariants as body
use Rattle.fabric_terms.specs.declared.report.Reason.{Reason}
use Rattle.fabric_terms.specs.declared.report.Reason.TheVariants as reason
use Rattle.fabric_terms.specs.Ranges.{FitsReason}
use Rattle.join_phases.specs.Phases.{bound_phase}
use Rattle.ring_points.specs.declared.who.Who.{Who}
use Rattle.ring_points.specs.Whos.{node_instance}
use Rattle.ring_rules.specs.declared.link.Link.{Link}
use Rattle.ring_rules.specs.declared.link.LinkState.{LinkState}
use Rattle.ring_rules.specs.declared.link.LinkState.TheVariants as state
use Rattle.ring_rules.specs.Deeds.{answer_unknown, drop_slot, put_slot, send}
use Rattle.ring_rules.specs.Handshakes as rows
use Rattle.ring_rules.specs.Handshakes.{greet, greet_plainly, hello_received, offer_received, take_received}
use Rattle.ring_rules.specs.Links.{bound_link, greeting_link, hello_body, offer_body, offered_link, renew_body}
use Rattle.ring_rules.specs.Rings.{Ring, Settings, Work}
use Rattle.ring_rules.specs.Slots.{bars_link, greets_node_by, is_free, is_hello, of_instance, of_node, of_session, slot_at, slot_where}
use Rattle.fabric_terms.specs.Fields.{is_addressee, is_counted, is_lease, is_node, is_session, is_stamp, is_who}
use Rattle.frames_fit.specs.InRange.{IsInRange, LinkInRange, holds_bound}
use Rattle.frames_fit.proofs.Facts.{ends_in_time, node_addressed, session_from, take_format, who_addressed, within_from, within_parts}
use Rattle.frames_fit.proofs.Going.{Going, begins, drops, phases, puts, sends}
use Rattle.frames_fit.proofs.Places.{found_passes, free_unbound, hello_unbound, is_frozen_in}
use Rattle.frames_fit.proofs.Saying.{SettingsInRange, answers, first_round, found, hello_said, in_session_of, link_in_range, moved_in_range, not_frozen, offer_said, renew_said, says_gone, take_said}

-- the smaller of two lengths
pub least_lease : (m n : ℕ) → IsTrue (is_lease m) → IsTrue (is_lease n) → IsTrue (is_lease (min m n))
least_lease m n h k =
    let a = within_parts 10 1000000000 m h in
    let b = within_parts 10 1000000000 n k in
    let al = a.0 in let ah = a.1 in let bl = b.0 in let bh = b.1 in
    within_from 10 1000000000 (min m n) (omega arith) (omega arith)

-- links that begin

module _ (set : Settings) (fine : SettingsInRange set) (now : ℕ) (reads : IsTrue (is_stamp now)) (r : Ring) where
  pub greeting_in_range : (node wire len : ℕ) → IsTrue (is_node node) → IsTrue (is_lease len) → IsTrue (is_counted r.next_session) →
      LinkInRange (greeting_link set now r node wire len)
  greeting_in_range node wire len h k m = record {
    names = node_addressed (node_instance node 0) h refl;
    mine = m;
    length = k;
    until = ends_in_time now len reads k;
    held = refl;
    got = refl;
    flight = tt;
    rounds = first_round set fine r.me;
  }

  offered_in_range : (from : Who) (theirs wire len : ℕ) → IsTrue (is_who from) → IsTrue (is_counted theirs) → IsTrue (is_lease len) →
      IsTrue (is_counted r.next_session) → LinkInRange (offered_link set now r from theirs wire len)
  offered_in_range from theirs wire len h t k m = record {
    names = and_from (is_who from) (is_counted theirs) h t;
    mine = m;
    length = k;
    until = ends_in_time now len reads k;
    held = refl;
    got = refl;
    flight = tt;
    rounds = first_round set fine r.me;
  }

-- places that greet

greets_unbound : (node : ℕ) (o : Option Link) → of_node is_hello node o ≡ true → holds_bound o ≡ false
greets_unbound node None h = absurd (cc (h))
greets_unbound node (Some l) h = hello_unbound l.state (and_parts (l.peer.actor == node) (is_hello l.state) h).1

module _ (c : FabricConfig) (w : Work) (a : Going c w) where
  free_found : (i : ℕ) → slot_where is_free w.ring.slots ≡ Some i → IsInRange c w.ring → is_frozen_in i w.ring.token.freeze ≡ false
  free_found i e r = not_frozen i (free_unbound (slot_at i w.ring.slots) (found_passes is_free w.ring.slots i e)) r

  pub greets : (l : Link) (refused : Reason → Work → Work) → l.mine ≡ w.ring.next_session → (IsTrue (is_counted l.mine) → LinkInRange l) →
      IsTrue (is_addressee l.peer) → ((why : Reason) → FitsReason why → Going c (refused why w)) → Going c (greet l refused w)
  greets l refused next fine named refuses = unless (slot_where (of_node bars_link l.peer.actor) w.ring.slots)
    where
      free : (o : Option ℕ) → slot_where is_free w.ring.slots ≡ o → Going c (rows.greet_free l refused w o)
      free None e = refuses reason.Full tt
      free (Some i) e = begins c w a i l (hello_body l) next fine (λ k. hello_said l k named) (free_found i e)

      unless : (o : Option ℕ) → Going c (rows.greet_unless l refused w o)
      unless (Some i) = refuses reason.Linked tt
      unless None = free (slot_where is_free w.ring.slots) refl

  pub greets_plainly : (set : Settings) → SettingsInRange set → (now : ℕ) → IsTrue (is_stamp now) → (node : ℕ) → IsTrue (is_node node) → Going c (greet_plainly set now node w)
  greets_plainly set fine now reads node h =
      greets (greeting_link set now w.ring node 1 set.lease) (λ why v. v) refl (λ m. greeting_in_range set fine now reads w.ring node 1 set.lease h fine.lease m)
      (node_addressed (node_instance node 0) h refl) (λ why fine. a)

  -- a Hello is accepted by a new link

  accepts : (l : Link) → l.mine ≡ w.ring.next_session → (IsTrue (is_counted l.mine) → LinkInRange l) → is_hello l.state ≡ false →
      Going c (rows.hello_accepted l w)
  accepts l next fine met = free (slot_where is_free w.ring.slots) refl
    where
      free : (o : Option ℕ) → slot_where is_free w.ring.slots ≡ o → Going c (rows.accept_free l w o)
      free None e = a
      free (Some i) e = begins c w a i l (offer_body l) next fine (λ k. offer_said l k (in_session_of l k met)) (free_found i e)

module _ (c : FabricConfig) (w : Work) (a : Going c w) where
  meets : (l : Link) → l.mine ≡ w.ring.next_session → (IsTrue (is_counted l.mine) → LinkInRange l) → is_hello l.state ≡ false → Going c (rows.hello_meets l w)
  meets l next fine met = of_instance_at (slot_where (of_instance l.peer) w.ring.slots)
    where
      same : (k : Link) → (IsInRange c w.ring → LinkInRange k) → is_hello k.state ≡ false → (b : Bool) → Going c (rows.offer_same k w b)
      same k h e true = sends c w a k.peer (offer_body k) (λ r. offer_said k (h r) (in_session_of k (h r) e))
      same k h e false = a

      again : (k : Link) (st : LinkState) → (IsInRange c w.ring → LinkInRange k) → k.state ≡ st → Going c (rows.offer_again l.yours k st w)
      again k state.Offered h e = same k h (λ i. is_hello (e i)) (k.yours == l.yours)
      again k st h e = a

      repeated : (i : ℕ) (o : Option Link) → slot_at i w.ring.slots ≡ o → Going c (rows.hello_repeated l.yours o w)
      repeated i None e = a
      repeated i (Some k) e = again k k.state (λ r. link_in_range i k e r) refl

      crossed : (i : ℕ) → slot_where (of_node is_hello l.peer.actor) w.ring.slots ≡ Some i → (b : Bool) → Going c (rows.hello_crossed l i w b)
      crossed i e true = a
      crossed i e false =
          accepts c (drop_slot i w)
          (drops c w a i (λ r. not_frozen i
          (greets_unbound l.peer.actor (slot_at i w.ring.slots) (found_passes (of_node is_hello l.peer.actor) w.ring.slots i e)) r))
          l next fine met

      of_node_at : (o : Option ℕ) → slot_where (of_node is_hello l.peer.actor) w.ring.slots ≡ o → Going c (rows.hello_of_node l w o)
      of_node_at None e = accepts c w a l next fine met
      of_node_at (Some i) e = crossed i e _

      of_instance_at : (o : Option ℕ) → Going c (rows.hello_of_instance l w o)
      of_instance_at (Some i) = repeated i (slot_at i w.ring.slots) refl
      of_instance_at None = of_node_at (slot_where (of_node is_hello l.peer.actor) w.ring.slots) refl

  pub hello_going : (set : Settings) → SettingsInRange set → (now : ℕ) → IsTrue (is_stamp now) → (from : Who) (theirs wire len : ℕ) → IsTrue (is_who from) →
      IsTrue (is_counted theirs) → IsTrue (is_lease len) → Going c (hello_received set now from theirs wire len w)
  unfolding hello_received
  hello_going set fine now reads from theirs wire len h t k =
      meets (offered_link set now w.ring from theirs wire len) refl (λ m. offered_in_range set fine now reads w.ring from theirs wire len h t k m) refl

  -- an Offer is taken

  pub offer_going : (now : ℕ) → IsTrue (is_stamp now) → (from : Who) (theirs own len : ℕ) → IsTrue (is_who from) → IsTrue (is_session theirs own) → IsTrue (is_lease len) →
      Going c (offer_received now from theirs own len w)
  unfolding offer_received
  offer_going now reads from theirs own len h s k = seen (slot_where (greets_node_by from.actor own) w.ring.slots)
    where
      counted : IsTrue (is_counted theirs)
      counted = (and_parts (is_counted theirs) (is_counted own) s).0

      bound : (l : Link) → LinkInRange l → LinkInRange (bound_link now l from theirs len)
      bound l m = record {
        names = and_from (is_who from) (is_counted theirs) h counted;
        mine = m.mine;
        length = least_lease l.len len m.length k;
        until = ends_in_time now (min l.len len) reads (least_lease l.len len m.length k);
        held = m.held;
        got = m.got;
        flight = m.flight;
        rounds = m.rounds;
      }

      taken : (i : ℕ) (o : Option Link) → slot_at i w.ring.slots ≡ o → Going c (rows.offer_taken now from theirs len i o w)
      taken i None e = a
      taken i (Some l) e =
          let put : Work = put_slot i (bound_link now l from theirs len) w in
          let puts_it : Going c put = puts c w a i (bound_link now l from theirs len) (λ r. bound l (link_in_range i l e r)) (λ r z. refl) in
          let says_it : Going c (send from (body.Take l.mine theirs) put) = sends c put puts_it from (body.Take l.mine theirs)
          (λ r. take_format from (who_addressed from h) l.mine theirs (session_from l.mine theirs (link_in_range i l e (a r.numbers).ring).mine counted)) in
          phases c (send from (body.Take l.mine theirs) put) says_it bound_phase

      repeated : (i : ℕ) (l : Link) (st : LinkState) → slot_at i w.ring.slots ≡ Some l → l.state ≡ st → Going c (rows.offer_repeated i l st w)
      repeated i l state.Bound e f =
          sends c w a l.peer (body.Take l.mine l.yours)
          (λ r. let m = link_in_range i l e r in take_said l m (in_session_of l m (λ j. is_hello (f j))))
      repeated i l state.Parting e f = says_gone c w a l (λ r. link_in_range i l e r) (λ j. is_hello (f j))
      repeated i l st e f = a

      seen : (o : Option ℕ) → Going c (rows.offer_seen now from theirs own len w o)
      seen (Some i) = taken i (slot_at i w.ring.slots) refl
      seen None = found c w a rows.offer_repeated (answer_unknown from theirs own) (slot_where (of_session from own theirs) w.ring.slots) repeated
          (answers c w a from theirs own h s)

  pub take_going : (now : ℕ) (from : Who) (theirs own : ℕ) → IsTrue (is_stamp now) → IsTrue (is_who from) → IsTrue (is_session theirs own) →
      Going c (take_received now from theirs own w)
  unfolding take_received
  take_going now from theirs own reads h s =
      found c w a (rows.take_seen now) (answer_unknown from theirs own) (slot_where (of_session from own theirs) w.ring.slots) inside
      (answers c w a from theirs own h s)
    where
      inside : (i : ℕ) (l : Link) (st : LinkState) → slot_at i w.ring.slots ≡ Some l → l.state ≡ st → Going c (rows.take_seen now i l st w)
      inside i l state.Offered e f =
          let put : Work = put_slot i (record l { state = state.Bound }) w in
          let met : is_hello l.state ≡ false = λ j. is_hello (f j) in
          let puts_it : Going c put = puts c w a i (record l { state = state.Bound })
          (λ r. moved_in_range l (link_in_range i l e r) met state.Bound refl l.ripe l.tally) (λ r z. refl) in
          let says_it : Going c (send l.peer (renew_body now l w.ring) put) = sends c put puts_it l.peer (renew_body now l w.ring)
          (λ r. let old = (a r.numbers).ring in let m = link_in_range i l e old in renew_said l m (in_session_of l m met) now w.ring old reads) in
          phases c (send l.peer (renew_body now l w.ring) put) says_it bound_phase
      inside i l state.Parting e f = says_gone c w a l (λ r. link_in_range i l e r) (λ j. is_hello (f j))
      inside i l st e f = a
