-- A frozen part is given once every slot that guards has acknowledged it.
use Rattle.std.proofs.Common.{◌≡◌, ℕ, ◌+◌, ◌≤◌, Bool, true, false, [], ◌∷◌, ◌++◌, Option, Some, None, refl, sym, ap, subst, inl}
use Rattle.std.proofs.lemmas.Bool.{leb-true}
use Rattle.ring_points.specs.declared.who.Who.{Who}
use Rattle.fabric_terms.specs.declared.config.FabricConfig.{FabricConfig}
use Rattle.fabric_terms.specs.declared.report.Report.TheVariants as report
use Rattle.fabric_terms.specs.Places.{Place, TakesFrom}
use Rattle.token_core.specs.Tokens.{Freeze, frozen_part}
use Rattle.ring_rules.specs.declared.link.Link.{Link}
use Rattle.ring_rules.specs.declared.link.LinkState.TheVariants as state
use Rattle.ring_rules.specs.Firing.{acked_if, has_acked, all_acked, give_to, give_ready, give_frozen, freeze_given}
use Rattle.ring_rules.specs.Rings.{Work}
use Rattle.ring_rules.specs.Slots as table
use Rattle.ring_rules.specs.Slots.{slot_at}
use Rattle.ring_rules.proofs.Rows.{freeze_given-is}
use Rattle.ring_machine.specs.Ends.{end_of}
use Rattle.ring_machine.specs.Slots.{guards, is_tallying}
use Rattle.ring_machine.specs.Slots as slots
use Rattle.ring_machine.specs.Tokens as machine
use Rattle.ring_machine.specs.World as world
use Rattle.ring_machine.specs.World.{World, slot}
use Rattle.ring_machine.specs.Deeds.{PartGiven}
use Rattle.ring_machine.specs.Events.{IsSound}
use Rattle.ring_machine.specs.Guards.{AllAcked}
use Rattle.ring_refinement.specs.Images.{machine_of, state_of, points_of, number_of, freeze_of}
use Rattle.ring_refinement.specs.Tables.{is_wronged}
use Rattle.ring_refinement.specs.Moves.{place_of, places_of, MovedBy}
use Rattle.ring_refinement.proofs.Places.{all_at}
use Rattle.ring_refinement.proofs.Changes.{open_shown, guards_shown, stays, stays_alone}
use Rattle.ring_refinement.proofs.Ranges.{Rises, given_is, given_rises}
use Rattle.ring_refinement.proofs.Telling.{moved_and, over_and, all_said_both}
use Rattle.ring_refinement.proofs.Going.{Going, slot_deed}
use Rattle.ring_refinement.proofs.TokenRows.{moved_is, moves}
use Rattle.ring_refinement.proofs.Leaving.{Went, on, counted_went}

module _ {c : FabricConfig} {m : World} {x : Who} {now : ℕ} {w : Work} (sound : IsSound (machine_of c)) (node : ℕ) (g : Going c m x now w) where
  -- every slot that guards has acknowledged the version
  acked_shown : (version : ℕ) → all_acked version w.ring.slots ≡ true → AllAcked version (g.after.instance x).slots
  acked_shown version all = open_shown g.shows.slots guards refl (λ s. version ≤ s.acked) there
    where
      there : (i : ℕ) (l : Link) → slot_at i w.ring.slots ≡ Some l → guards (state_of l.state) ≡ true → version ≤ l.acked
      there i l at guarding =
          let passes : acked_if (table.guards l.state) version l.acked ≡ true = all_at (has_acked version) w.ring.slots i l all at in
          leb-true version l.acked (subst (λ (b : Bool). acked_if b version l.acked ≡ true) (guards_shown l.state guarding) passes)

  -- a frozen part is given
  gives_going : (z : Freeze) → w.ring.token.freeze ≡ Some z → all_acked z.version w.ring.slots ≡ true → (l : Link) → slot_at z.slot w.ring.slots ≡ Some l → l.state ≡ state.Bound →
      Going c m x now (give_to z (Some l) w)
  gives_going z frozen all l at is =
      slot_deed sound g z.slot l at (PartGiven freeze) may (give_to z (Some l) w) (record {
        placed = Some k;
        slots = refl;
        new = stays k refl (record {
          numbered = refl;
          below = g.shows.slots.below z.slot l at;
          shown = refl;
          sound = let o = g.shows.slots.sound z.slot l at in record {
            held = o.held;
            part = rises;
            length = o.length;
            tally = λ h. absurd (let t = ap (λ s. is_tallying (state_of s)) is in cc (t, h));
            rounds = λ h. absurd (let t = ap (λ s. is_tallying (state_of s)) is in cc (t, h));
          };
          alone = stays_alone g.shows.slots z.slot l k at refl (λ h. h) (λ h. h);
        });
        me = refl;
        counter = refl;
        stays = g.stays;
        token = sym (given_is w.ring.slots w.ring.token g.shows.rises z rises);
        rises = given_rises w.ring.slots w.ring.token g.shows.rises z rises;
        frozen = λ y h. absurd (cc (h));
        accuses = λ y h. h;
        wrongs = λ h. absurd (let t = ap (λ s. is_wronged (state_of s)) is in cc (t, h));
        sent = λ h. all_said_both c.lease _ x w.sent _ h (record { image = inl refl; rises = rises; no_ruling = refl }, tt);
        moved = λ n P h. subst (λ (Q : ℕ → Place). MovedBy x (w.told ++ report.Gave l.peer w.ring.token.next_flight z.part ∷ []) n P (w.ring.token.next_flight + 1) Q)
            (moved_is (g.after.whole) (world.InFlight (end_of x l.mine) (end_of l.peer l.yours) w.ring.token.next_flight) z.part g.after.place)
            (moved_and x w.told n w.ring.token.next_flight P (places_of (g.after.whole) g.after) (report.Gave l.peer w.ring.token.next_flight z.part) h from refl);
        over = λ h. over_and (machine_of c) g.after w.told (report.Gave l.peer w.ring.token.next_flight z.part) h tt;
      })
    where
      k : Link
      k = record l { flight = Some (record { number = w.ring.token.next_flight; part = z.part }) }

      rises : Rises z.part
      rises = subst (λ (o : Option Freeze). Rises (frozen_part o)) frozen g.shows.rises.part

      freeze : machine.Freeze
      freeze = record { part = points_of z.part; number = number_of (slot_at z.slot w.ring.slots); version = z.version }

      may : (state_of l.state ≡ slots.Bound) ×
          (freeze_of w.ring.slots w.ring.token.freeze ≡ Some (record { part = points_of z.part; number = number_of (slot_at z.slot w.ring.slots); version = z.version })) ×
          AllAcked z.version (g.after.instance x).slots
      may = (ap state_of is, ap (freeze_of w.ring.slots) frozen, acked_shown z.version all)

      from : TakesFrom x (report.Gave l.peer w.ring.token.next_flight z.part) (places_of (g.after.whole) g.after)
      from p h = ap (place_of (g.after.whole))
          (moves sound g z.slot l at (PartGiven (record { part = points_of z.part; number = number_of (slot_at z.slot w.ring.slots); version = z.version })) may p h)

  pub freeze_given_went : Went c m x now (freeze_given w)
  freeze_given_went = subst (λ (u : Work). Went c m x now u) (sym (freeze_given-is w)) (counted_went sound g (on (go w.ring.token.freeze refl)))
    where
      ready : (z : Freeze) → w.ring.token.freeze ≡ Some z → (q : Bool) → all_acked z.version w.ring.slots ≡ q → Going c m x now (give_ready z w q)
      ready z frozen false e = g
      ready z frozen true e =
          let f = g.shows.frozen z frozen in
          subst (λ (o : Option Link). Going c m x now (give_to z o w)) (sym f.at) (gives_going z frozen e f.link f.at f.bound)

      go : (o : Option Freeze) → w.ring.token.freeze ≡ o → Going c m x now (give_frozen o w)
      go None e = g
      go (Some z) e = ready z e (all_acked z.version w.ring.slots) refl
