-- An heir that is ripe takes over.
use Rattle.std.proofs.Common.{◌≡◌, ℕ, ◌≤◌, ◌&&◌, nat_le, not, Bool, true, false, List, [], ◌∷◌, ◌++◌, Option, Some, None, refl, sym, ap, ◌∙◌, subst, inl, inr, ⊎_elim, arith}
use Rattle.std.proofs.lemmas.Bool.{leb-true, and_parts}
use Rattle.ring_points.specs.declared.interval.Interval.{Interval}
use Rattle.ring_points.specs.declared.who.Flight as points
use Rattle.ring_points.specs.declared.who.Who.{Who}
use Rattle.ring_points.specs.Ranges.{in_ranges}
use Rattle.fabric_terms.specs.declared.config.FabricConfig.{FabricConfig}
use Rattle.fabric_terms.specs.declared.report.Report.TheVariants as report
use Rattle.fabric_terms.specs.Places.{Place, TakesFrom}
use Rattle.token_core.specs.Tokens.{Freeze, gained, inherited}
use Rattle.ring_rules.specs.declared.link.Link.{Link}
use Rattle.ring_rules.specs.declared.link.LinkState.TheVariants as state
use Rattle.ring_rules.specs.Firing.{take_over, heir_due}
use Rattle.ring_rules.specs.Links.{flight_part}
use Rattle.ring_rules.specs.Rings.{Work}
use Rattle.ring_rules.specs.Slots.{slot_at}
use Rattle.ring_machine.specs.Ends.{end_of}
use Rattle.ring_machine.specs.Points.{Points, union, minus}
use Rattle.ring_machine.specs.Slots.{Slot, Heir, part_of}
use Rattle.ring_machine.specs.World as world
use Rattle.ring_machine.specs.World.{World, Dead, slot}
use Rattle.ring_machine.specs.Deeds.{TakenOver}
use Rattle.ring_machine.specs.Events.{IsSound}
use Rattle.ring_machine.proofs.TakeOverDuty.{accused_dead}
use Rattle.ring_refinement.specs.Images.{machine_of, state_of, points_of, flight_of, slot_of, token_of}
use Rattle.ring_refinement.specs.Tables.{is_wronged}
use Rattle.ring_refinement.specs.Moves.{place_of, places_of, MovedBy}
use Rattle.ring_refinement.proofs.Changes.{goes}
use Rattle.ring_refinement.proofs.Freezes.{freeze_other, frozen_other, not_frozen}
use Rattle.ring_refinement.proofs.Ranges.{Rises, gained_is, gained_rises, inherited_rises, inherited_is}
use Rattle.ring_refinement.proofs.Telling.{moved_and, over_and}
use Rattle.ring_refinement.proofs.Going.{Going, slot_deed}
use Rattle.ring_refinement.proofs.SlotRows.{holding_stays, wronged}
use Rattle.ring_refinement.proofs.TokenRows.{moved_is, moves}

flight_part_is : (o : Option points.Flight) → points_of (flight_part o) ≡ part_of (flight_of o)
flight_part_is None = refl
flight_part_is (Some f) = refl

module _ {c : FabricConfig} {m : World} {x : Who} {now : ℕ} {w : Work} (sound : IsSound (machine_of c)) (node : ℕ) (g : Going c m x now w) where
  abbrev v : World
  v = g.after

  abbrev first : Who
  first = v.whole

  -- an heir takes over
  takes_over : (i : ℕ) (l : Link) → slot_at i w.ring.slots ≡ Some l → l.state ≡ state.Heir → l.ripe ≤ now → (q : Bool) →
      Going c m x now (take_over i l (inherited w.ring.token l.held (flight_part l.flight)) w q)
  takes_over i l at is ripe false = g
  takes_over i l at is ripe true =
      slot_deed sound g i l at (TakenOver (points_of added)) may (take_over i l added w true) (record {
        placed = None;
        slots = refl;
        new = goes refl refl;
        me = refl;
        counter = refl;
        stays = holding_stays w.ring.phase g.stays;
        token = sym (gained_is w.ring.slots w.ring.token g.shows.rises added rises) ∙
            (let f = freeze_other w.ring.slots i l at None w.ring.token.freeze (λ z h. elsewhere z h) in
            λ j. record (token_of w.ring.slots (gained w.ring.token added)) { freeze = sym f j });
        rises = gained_rises w.ring.slots w.ring.token g.shows.rises added rises;
        frozen = λ z h. frozen_other w.ring.slots i l at None z.slot (elsewhere z h) (g.shows.frozen z h);
        accuses = λ y h. h;
        wrongs = λ h. wronged sound g i l at (ap (λ s. is_wronged (state_of s)) is);
        sent = λ h. h;
        moved = λ n P h. subst (λ (Q : ℕ → Place). MovedBy x (w.told ++ report.TookOver l.peer added ∷ []) n P w.ring.token.next_flight Q)
            (moved_is first (world.At x) added v.place)
            (moved_and x w.told n w.ring.token.next_flight P (places_of first v) (report.TookOver l.peer added) h from tt);
        over = λ h. over_and (machine_of c) v w.told (report.TookOver l.peer added) h dead;
      })
    where
      added : List Interval
      added = inherited w.ring.token l.held (flight_part l.flight)

      held : Rises l.held
      held = (g.shows.slots.sound i l at).held

      part : Rises (flight_part l.flight)
      part = (g.shows.slots.sound i l at).part

      rises : Rises (inherited w.ring.token l.held (flight_part l.flight))
      rises = inherited_rises w.ring.slots w.ring.token g.shows.rises l.held (flight_part l.flight) held part

      within : (p : ℕ) → points_of (inherited w.ring.token l.held (flight_part l.flight)) p ≡ true → union (points_of l.held) (part_of (flight_of l.flight)) p ≡ true
      within p h =
          let e : points_of (inherited w.ring.token l.held (flight_part l.flight)) ≡
          minus (union (points_of l.held) (points_of (flight_part l.flight))) (points_of w.ring.token.ranges) =
          inherited_is w.ring.slots w.ring.token g.shows.rises l.held (flight_part l.flight) held part in
          let both : union (points_of l.held) (points_of (flight_part l.flight)) p && not (in_ranges p w.ring.token.ranges) ≡ true = sym (ap (λ (f : Points). f p) e) ∙ h in
          let one = (and_parts (union (points_of l.held) (points_of (flight_part l.flight)) p) (not (in_ranges p w.ring.token.ranges)) both).0 in
          subst (λ (f : Points). union (points_of l.held) f p ≡ true) (flight_part_is l.flight) one

      may : (state_of l.state ≡ Heir) × (l.ripe ≤ now) ×
          ((p : ℕ) → points_of (inherited w.ring.token l.held (flight_part l.flight)) p ≡ true → union (points_of l.held) (part_of (flight_of l.flight)) p ≡ true)
      may = (ap state_of is, ripe, within)

      elsewhere : (z : Freeze) → w.ring.token.freeze ≡ Some z → i ≡ z.slot → ⊥
      elsewhere z h = not_frozen w.ring.slots i l at (λ b. cc (b, is)) z.slot (g.shows.frozen z h)

      from : TakesFrom x (report.TookOver l.peer (inherited w.ring.token l.held (flight_part l.flight))) (places_of (g.after.whole) g.after)
      from p h = ⊎_elim (λ e. inl (ap (place_of (g.after.whole)) e)) (λ e. inr (e.0, ap (place_of (g.after.whole)) e.1))
          (moves sound g i l at (TakenOver (points_of (inherited w.ring.token l.held (flight_part l.flight)))) may p h)

      kept : slot g.after (end_of x l.mine) ≡ slot_of l
      kept = g.shows.slots.kept i l at

      dead : Dead (machine_of c) (g.after.instance l.peer)
      dead = subst (λ (s : Slot). Dead (machine_of c) (g.after.instance s.far.who)) kept
          (accused_dead {e = end_of x l.mine} sound.drift (record { inv = g.inv; live = g.live }) (ap (λ (s : Slot). s.state) kept ∙ ap state_of is)
          (let r = g.reading in let s = ap (λ (s : Slot). s.ripe) kept in omega arith))

  pub heir_going : (i : ℕ) (l : Link) → slot_at i w.ring.slots ≡ Some l → l.state ≡ state.Heir → (q : Bool) → nat_le l.ripe now ≡ q → Going c m x now (heir_due i l w q)
  heir_going i l at is true e = takes_over i l at is (leb-true l.ripe now e) _
  heir_going i l at is false e = g
