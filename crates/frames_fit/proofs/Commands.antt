-- Commands keep a ring in range.
use Rattle.std.proofs.Common.{◌≡◌, ℕ, Bool, true, false, ◌||◌, ◌==◌, Option, Some, None, IsTrue, refl, subst}
use Rattle.std.specs.Prelude.{is_some, min}
use Rattle.std.proofs.lemmas.Bool.{and_parts, lt-ltb}
use Rattle.fabric_terms.specs.declared.command.Command.{Command}
use Rattle.fabric_terms.specs.declared.command.Command.TheVariants as command
use Rattle.fabric_terms.specs.declared.config.FabricConfig.{FabricConfig}
use Rattle.fabric_terms.specs.declared.report.Reason.TheVariants as reason
use Rattle.fabric_terms.specs.declared.report.Verb.TheVariants as verb
use Rattle.fabric_terms.specs.Sound.{IsSound}
use Rattle.join_phases.specs.Phases.{is_routing}
use Rattle.ring_points.specs.Whos.{node_instance}
use Rattle.ring_rules.specs.declared.link.Link.{Link}
use Rattle.ring_rules.specs.declared.link.LinkState.{LinkState}
use Rattle.ring_rules.specs.Commands as rows
use Rattle.ring_rules.specs.Commands.{give_commanded, join_commanded, link_commanded, part_commanded, part_to_give}
use Rattle.ring_rules.specs.Deeds.{on_ring, put_slot, refuse, undo_freeze}
use Rattle.ring_rules.specs.Links.{greeting_link, has_flight, parting_link}
use Rattle.ring_rules.specs.Renewals.{may_freeze, owns_none}
use Rattle.ring_rules.specs.Rings.{Settings, Work}
use Rattle.ring_rules.specs.Slots.{is_bound, is_hello, may_part, of_node, slot_at, slot_where}
use Rattle.ring_rules.specs.Steps.{command_row}
use Rattle.fabric_terms.specs.Fields.{is_lease, is_node, is_stamp}
use Rattle.fabric_terms.specs.Ranges.{FitsCommand, IsLease, IsNode}
use Rattle.frames_fit.specs.InRange.{IsInRange, holds_bound}
use Rattle.frames_fit.proofs.Facts.{node_addressed, within_from}
use Rattle.frames_fit.proofs.Going.{Going, freezes, puts, refuses, routes, undoes}
use Rattle.frames_fit.proofs.Greetings.{greeting_in_range, greets, least_lease}
use Rattle.frames_fit.proofs.Places.{found_passes, is_frozen_in, parting_met, set_at}
use Rattle.frames_fit.proofs.Renewals.{near_rises}
use Rattle.frames_fit.proofs.Saying.{SettingsInRange, in_session_of, link_in_range, says_gone}
use Rattle.frames_fit.proofs.Seeks.{find_going, seek_place_going}
use Rattle.frames_fit.proofs.Tokens.{Rises, owned_rises, undone_not_in}

node_from : (n : ℕ) → IsNode n → IsTrue (is_node n)
node_from n h = within_from 1 999 n h.0 h.1

lease_from : (n : ℕ) → IsLease n → IsTrue (is_lease n)
lease_from n h = within_from 10 1000000000 n h.0 h.1

-- a slot that a test of states finds

found_state : (test : LinkState → Bool) (node : ℕ) (l : Link) → of_node test node (Some l) ≡ true → test l.state ≡ true
found_state test node l h = (and_parts (l.peer.actor == node) (test l.state) h).1

found_bound : (node : ℕ) (o : Option Link) → of_node is_bound node o ≡ true → holds_bound o ≡ true
found_bound node None h = absurd (cc (h))
found_bound node (Some l) h = found_state is_bound node l h

module _ (c : FabricConfig) (w : Work) (a : Going c w) where
  link_going : (set : Settings) → SettingsInRange set → (now : ℕ) → IsTrue (is_stamp now) → (node wire len : ℕ) → IsTrue (is_node node) → IsTrue (is_lease len) →
      Going c (link_commanded set now node wire len w)
  unfolding link_commanded
  link_going set fine now reads node wire len h k =
      greets c w a (greeting_link set now w.ring node wire len) (refuse verb.Link) refl (λ m. greeting_in_range set fine now reads w.ring node wire len h k m)
      (node_addressed (node_instance node 0) h refl) (λ why fits. refuses c w a verb.Link why fits)

  part_going : (node : ℕ) → Going c (part_commanded node w)
  unfolding part_commanded
  part_going node = seen (slot_where (of_node may_part node) w.ring.slots) refl
    where
      -- the freeze is undone and the link parts: in whichever order, it is the same
      parts : (i : ℕ) (l : Link) → slot_at i w.ring.slots ≡ Some l → is_hello l.state ≡ false → Going c (rows.part_unless i l w false)
      parts i l e met =
          let parted : Going c (put_slot i (parting_link l) (undo_freeze i w)) = puts c (undo_freeze i w) (undoes c w a i) i (parting_link l)
          (λ r. let m = link_in_range i l e r in
          record { names = (in_session_of l m met).names; mine = m.mine; length = m.length; held = refl; got = m.got; flight = m.flight; rounds = m.rounds; until = m.until })
          (λ r z. let none : is_frozen_in i (undo_freeze i w).ring.token.freeze ≡ false = undone_not_in i w.ring.token in absurd (cc (none, z))) in
          says_gone c (put_slot i (parting_link l) (undo_freeze i w)) parted (parting_link l)
          (λ r. link_in_range i (parting_link l) (set_at w.ring.slots i l (Some (parting_link l)) e) r) refl

      unless : (i : ℕ) (l : Link) → slot_at i w.ring.slots ≡ Some l → is_hello l.state ≡ false → (b : Bool) → Going c (rows.part_unless i l w b)
      unless i l e met true = refuses c w a verb.Part reason.Busy tt
      unless i l e met false = parts i l e met

      at : (i : ℕ) (o : Option Link) → slot_at i w.ring.slots ≡ o → of_node may_part node (slot_at i w.ring.slots) ≡ true → Going c (rows.part_at i o w)
      at i None e f = a
      at i (Some l) e f =
          unless i l e (parting_met l.state (found_state may_part node l (subst (λ (o : Option Link). of_node may_part node o ≡ true) e f))) (has_flight l)

      seen : (o : Option ℕ) → slot_where (of_node may_part node) w.ring.slots ≡ o → Going c (rows.part_seen o w)
      seen None e = refuses c w a verb.Part reason.NotLinked tt
      seen (Some i) e = at i (slot_at i w.ring.slots) refl (found_passes (of_node may_part node) w.ring.slots i e)

  give_going : (all : Bool) (node : ℕ) → Going c (give_commanded all node w)
  unfolding give_commanded
  give_going all node = if_routing (is_routing w.ring.phase)
    where
      rises : (every : Bool) (l : Link) → IsInRange c w.ring → Rises (part_to_give every w.ring l)
      rises true l r = owned_rises w.ring.token r.token
      rises false l r = near_rises w.ring l r

      unless : (i : ℕ) (l : Link) → holds_bound (slot_at i w.ring.slots) ≡ true → (busy none fit : Bool) →
          owns_none w.ring.token (part_to_give all w.ring l) ≡ none → may_freeze w.ring.token (part_to_give all w.ring l) ≡ fit →
          Going c (rows.give_unless i (part_to_give all w.ring l) w busy none fit)
      unless i l bound true none fit e f = refuses c w a verb.Give reason.Busy tt
      unless i l bound false true fit e f = refuses c w a verb.Give reason.Empty tt
      unless i l bound false false false e f = refuses c w a verb.Give reason.TooMany tt
      unless i l bound false false true e f = freezes c w a (part_to_give all w.ring l) i (rises all l) e f bound

      at : (i : ℕ) (o : Option Link) → holds_bound (slot_at i w.ring.slots) ≡ true → Going c (rows.give_at all i o w)
      at i None bound = a
      at i (Some l) bound = unless i l bound (is_some w.ring.token.freeze || has_flight l) _ _ refl refl

      seen : (o : Option ℕ) → slot_where (of_node is_bound node) w.ring.slots ≡ o → Going c (rows.give_seen all o w)
      seen None e = refuses c w a verb.Give reason.NotLinked tt
      seen (Some i) e = at i (slot_at i w.ring.slots) (found_bound node (slot_at i w.ring.slots) (found_passes (of_node is_bound node) w.ring.slots i e))

      if_routing : (b : Bool) → Going c (rows.give_if all node w b)
      if_routing false = refuses c w a verb.Give reason.NotRouting tt
      if_routing true = seen (slot_where (of_node is_bound node) w.ring.slots) refl

  join_going : IsSound c → (member : ℕ) → IsTrue (is_node member) → Going c (join_commanded member w)
  unfolding join_commanded
  join_going sound member h = unless (is_routing w.ring.phase)
    where
      unless : (b : Bool) → Going c (rows.join_unless member w b)
      unless true = refuses c w a verb.Join reason.Busy tt
      unless false =
          seek_place_going c (on_ring (λ r. record r { target = Some member }) w)
          (routes c w a w.ring.routes.known (Some member) (λ r. r.known) (λ r. h)) sound member h

  pub command_going : IsSound c → (set : Settings) → SettingsInRange set → (now : ℕ) → IsTrue (is_stamp now) → (d : Command) → FitsCommand d → Going c (command_row set now d w)
  command_going sound set fine now reads (command.Link node) h = link_going set fine now reads node 1 set.lease (node_from node h) fine.lease
  command_going sound set fine now reads (command.LinkFor node length) h =
      link_going set fine now reads node 2 (min length set.longest) (node_from node h.0) (least_lease length set.longest (lease_from length h.1) fine.longest)
  command_going sound set fine now reads (command.Part node) h = part_going node
  command_going sound set fine now reads (command.GiveNear node) h = give_going false node
  command_going sound set fine now reads (command.GiveAll node) h = give_going true node
  command_going sound set fine now reads (command.Join node) h = join_going sound node (node_from node h)
  command_going sound set fine now reads (command.Find key) h = find_going c w a key (lt-ltb key.0 18446744073709551616 h)
  command_going sound set fine now reads d h = a
