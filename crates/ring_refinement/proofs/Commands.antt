-- What an operator commands: link, part, give.
use Rattle.std.proofs.Common.{◌≡◌, ℕ, ◌==◌, ◌||◌, Bool, true, false, List, [], ◌∷◌, ◌++◌, Option, Some, None, refl, sym, ap, subst, inl}
use Rattle.std.specs.Prelude.{is_some}
use Rattle.std.proofs.lemmas.Bool.{and_parts}
use Rattle.ring_points.specs.declared.interval.Interval.{Interval}
use Rattle.ring_points.specs.declared.who.Who.{Who}
use Rattle.fabric_terms.specs.declared.config.FabricConfig.{FabricConfig}
use Rattle.fabric_terms.specs.declared.message.Body.TheVariants as body
use Rattle.fabric_terms.specs.declared.report.Verb.TheVariants as verb
use Rattle.join_phases.specs.Phases.{is_routing}
use Rattle.ring_route.specs.Routes.{point_of}
use Rattle.ring_rules.specs.declared.link.Link.{Link}
use Rattle.ring_rules.specs.declared.link.LinkState.{LinkState}
use Rattle.ring_rules.specs.declared.link.LinkState.TheVariants as state
use Rattle.ring_rules.specs.Commands.{link_commanded, part_unless, part_at, part_seen, part_commanded, part_to_give, give_unless, give_part, give_at, give_seen, give_if, give_commanded}
use Rattle.ring_rules.specs.Links.{parting_link, has_flight}
use Rattle.ring_rules.specs.Renewals.{owns_none, may_freeze}
use Rattle.ring_rules.specs.Rings.{Work, settings_of}
use Rattle.ring_rules.specs.Slots.{slot_at, slot_where, is_bound, may_part, bars_link, of_node}
use Rattle.ring_rules.specs.Deeds.{refuse}
use Rattle.ring_rules.proofs.Rows.{link_commanded-is, part_commanded-is, give_commanded-is}
use Rattle.ring_machine.specs.Ends.{end_of}
use Rattle.ring_machine.specs.Slots.{is_willing}
use Rattle.ring_machine.specs.Frames.{Gone}
use Rattle.ring_machine.specs.World.{World}
use Rattle.ring_machine.specs.Deeds.{PartingBegun}
use Rattle.ring_machine.specs.Events.{IsSound}
use Rattle.ring_refinement.specs.Images.{machine_of, state_of, flight_of, slot_of}
use Rattle.ring_refinement.proofs.Places.{none_is, found_at}
use Rattle.ring_refinement.proofs.Changes.{stays, stays_alone}
use Rattle.ring_refinement.proofs.Ranges.{Rises}
use Rattle.ring_points.proofs.NearerPart.{nearer_part_rises}
use Rattle.ring_refinement.proofs.Telling.{all_said_both}
use Rattle.ring_refinement.proofs.Going.{Going}
use Rattle.ring_refinement.proofs.Greetings.{greet_going}
use Rattle.ring_refinement.proofs.Quiet.{refuses}
use Rattle.ring_refinement.proofs.Renewals.{freeze_going}
use Rattle.ring_refinement.proofs.TokenRows.{undoes}

none_of_two : (a b : Bool) → a || b ≡ false → a ≡ false
none_of_two true b h = absurd (cc (h))
none_of_two false b h = refl

bound_is : (s : LinkState) → is_bound s ≡ true → s ≡ state.Bound
bound_is state.Bound h = refl
bound_is s h = absurd (cc (h))

module _ {c : FabricConfig} {m : World} {x : Who} {now : ℕ} {w : Work} (sound : IsSound (machine_of c)) (g : Going c m x now w) where
  pub link_going : (config_of at_node wire len : ℕ) → (wire == 2 ≡ false → len ≡ c.lease) →
      Going c m x now (link_commanded (settings_of c config_of) now at_node wire len w)
  link_going config_of at_node wire len length_is =
      subst (λ (u : Work). Going c m x now u) (sym (link_commanded-is (settings_of c config_of) now at_node wire len w))
      (greet_going sound config_of g at_node wire len length_is (refuse verb.Link) (λ r. refuses sound g verb.Link r))

  -- the session parts
  parts : (i : ℕ) (l : Link) → slot_at i w.ring.slots ≡ Some l → may_part l.state ≡ true → (q : Bool) → has_flight l ≡ q → Going c m x now (part_unless i l w q)
  parts i l at may true e = refuses sound g _ _
  parts i l at may false e =
      undoes sound g i l at PartingBegun (willing l.state may, ap flight_of (none_is l.flight e)) w.ring.token g.shows.rises refl (slot_of k) (Some k)
      (Gone (end_of x l.mine) (end_of l.peer l.yours) l.got true ∷ []) g.after.place refl
      (stays k refl (record {
        numbered = refl;
        below = g.shows.slots.below i l at;
        shown = refl;
        sound = let s = g.shows.slots.sound i l at in record { held = refl; part = s.part; length = λ p. absurd (cc (p)); tally = λ h. absurd (cc (h)); rounds = λ h. absurd (cc (h)) };
        alone = stays_alone g.shows.slots i l k at refl (λ h. absurd (cc (h))) (λ h. bars l.state may);
      }))
      w.ring.accused (λ y h. h) (λ h. absurd (cc (h))) (w.sent ++ (l.peer, body.Gone l.mine l.yours l.got true) ∷ [])
      (λ h. all_said_both c.lease _ x w.sent _ h (record { image = inl refl; rises = refl; no_ruling = refl }, tt)) w.told (λ n P h. h) (λ h. h)
    where
      k : Link
      k = parting_link l

      willing : (s : LinkState) → may_part s ≡ true → is_willing (state_of s) ≡ true
      willing state.Offered h = refl
      willing state.Bound h = refl
      willing s h = absurd (cc (h))

      bars : (s : LinkState) → may_part s ≡ true → bars_link s ≡ true
      bars state.Offered h = refl
      bars state.Bound h = refl
      bars s h = absurd (cc (h))

  pub part_going : (node : ℕ) → Going c m x now (part_commanded node w)
  part_going node = subst (λ (u : Work). Going c m x now u) (sym (part_commanded-is node w)) (go (slot_where (of_node may_part node) w.ring.slots) refl)
    where
      there : (i : ℕ) (o : Option Link) → slot_at i w.ring.slots ≡ o → of_node may_part node o ≡ true → Going c m x now (part_at i o w)
      there i None at t = g
      there i (Some l) at t = parts i l at (and_parts (l.peer.actor == node) (may_part l.state) t).1 (has_flight l) refl

      go : (o : Option ℕ) → slot_where (of_node may_part node) w.ring.slots ≡ o → Going c m x now (part_seen o w)
      go None e = refuses sound g _ _
      go (Some i) e = let f = found_at (of_node may_part node) w.ring.slots i e in there i (slot_at i w.ring.slots) refl f.passes

  -- a part is frozen, where that is allowed
  gives : (i : ℕ) (l : Link) (part : List Interval) → slot_at i w.ring.slots ≡ Some l → l.state ≡ state.Bound → Rises part → Going c m x now (give_part i l part w)
  gives i l part at is rises = go (is_some w.ring.token.freeze || has_flight l) refl (owns_none w.ring.token part) (may_freeze w.ring.token part)
    where
      go : (q : Bool) → (is_some w.ring.token.freeze || has_flight l) ≡ q → (none fit : Bool) → Going c m x now (give_unless i part w q none fit)
      go true e none fit = refuses sound g _ _
      go false e true fit = refuses sound g _ _
      go false e false false = refuses sound g _ _
      go false e false true =
          freeze_going sound g i l at is (none_is w.ring.token.freeze (none_of_two (is_some w.ring.token.freeze) (has_flight l) e)) part rises

  pub give_going : (all : Bool) (node : ℕ) → Going c m x now (give_commanded all node w)
  give_going all node = subst (λ (u : Work). Going c m x now u) (sym (give_commanded-is all node w)) (if_routing (is_routing w.ring.phase))
    where
      part_rises : (all : Bool) (l : Link) → Rises (part_to_give all w.ring l)
      part_rises true l = g.shows.rises.ranges
      part_rises false l =
          nearer_part_rises w.ring.token.ranges (point_of w.ring.me.actor w.ring.routes.points) (point_of l.peer.actor w.ring.routes.points) g.shows.rises.ranges

      there : (i : ℕ) (o : Option Link) → slot_at i w.ring.slots ≡ o → of_node is_bound node o ≡ true → Going c m x now (give_at all i o w)
      there i None at t = g
      there i (Some l) at t =
          gives i l (part_to_give all w.ring l) at (bound_is l.state (and_parts (l.peer.actor == node) (is_bound l.state) t).1) (part_rises all l)

      go : (o : Option ℕ) → slot_where (of_node is_bound node) w.ring.slots ≡ o → Going c m x now (give_seen all o w)
      go None e = refuses sound g _ _
      go (Some i) e = let f = found_at (of_node is_bound node) w.ring.slots i e in there i (slot_at i w.ring.slots) refl f.passes

      if_routing : (q : Bool) → Going c m x now (give_if all node w q)
      if_routing false = refuses sound g _ _
      if_routing true = go (slot_where (of_node is_bound node) w.ring.slots) refl
