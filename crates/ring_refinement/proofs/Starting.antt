-- The ring of a node that starts shows its new instance.
use Rattle.std.proofs.Common.{◌≡◌, ℕ, ◌^◌, ◌&&◌, nat_lt, Bool, true, false, List, [], Some, refl, sym, ◌∙◌, subst, inl, arith}
use Rattle.std.proofs.lemmas.Bool.Decides.{nat_tests}
use Rattle.ring_points.specs.declared.interval.Interval.{Interval}
use Rattle.ring_points.specs.declared.who.Who.{Who}
use Rattle.ring_points.specs.Ranges.{in_ranges, whole_ring}
use Rattle.ring_points.specs.Whos.{same_who}
use Rattle.fabric_terms.specs.declared.config.FabricConfig.{FabricConfig}
use Rattle.join_phases.specs.declared.phases.Phase.{Phase}
use Rattle.join_phases.specs.Phases.{seeking, routing}
use Rattle.ring_rules.specs.declared.link.Link.{Link}
use Rattle.ring_rules.specs.Rings.{no_slots, Work}
use Rattle.ring_rules.specs.Slots.{slot_at, is_free}
use Rattle.ring_rules.specs.Starts.{new_ring, start_first}
use Rattle.ring_rules.proofs.Rows.{node_started-is}
use Rattle.ring_machine.specs.Points.{Points, is_point}
use Rattle.ring_machine.specs.Frames.{Frame}
use Rattle.ring_machine.specs.World.{Instance, born}
use Rattle.ring_machine.specs.Events.{next_instance, started}
use Rattle.ring_points.proofs.Whos.{same_who-false}
use Rattle.ring_machine.proofs.Whos.{updated_cases}
use Rattle.ring_refinement.specs.Images.{machine_of, points_of}
use Rattle.ring_refinement.specs.Shown.{Shows, ShowsInstance}
use Rattle.ring_refinement.specs.Laws.{StartIsShown, SpentIsLeft}
use Rattle.ring_refinement.proofs.Places.{all_at}
use Rattle.ring_refinement.proofs.Ranges.{Rises}

-- no place of a new table holds a link
none_held : (i : ℕ) (l : Link) → slot_at i no_slots ≡ Some l → ⊥
none_held i l at = let h = all_at is_free no_slots i l refl at in cc (h)

-- the whole ring has its points
whole_is : is_point ≡ points_of whole_ring
unfolding is_point
whole_is = λ j p. one p j
  where
    one : (p : ℕ) → nat_lt p (2 ^ 64) ≡ in_ranges p whole_ring
    one p = grind (arith, nat_tests)

module _ (c : FabricConfig) (time reading : ℕ) (whole x : Who) (sent : List Frame) where
  -- a ring that owns what its new instance owns
  shown : (phase : Phase) (ranges : List Interval) → Rises ranges → (b : Bool) → same_who x whole ≡ b →
      ◌≡◌ {A = Points} (λ p. b && is_point p) (points_of ranges) → ShowsInstance c x sent (born whole time x reading) (new_ring c x phase ranges)
  shown phase ranges rises b first owns = record {
    me = refl;
    running = refl;
    token = (λ j. record (born whole time x reading).token { ranges = λ p. first j && is_point p }) ∙
        (λ j. record (born whole time x reading).token { ranges = owns j });
    next = refl;
    slots = record {
      kept = λ i l at. absurd (none_held i l at);
      below = λ i l at. absurd (none_held i l at);
      once = λ i j l k at. absurd (none_held i l at);
      over = λ number. inl refl;
      alone = λ i j l k at. absurd (none_held i l at);
      sound = λ i l at. absurd (none_held i l at);
    };
    accused = λ number h. absurd (cc (h));
    rises = record { ranges = rises; part = refl };
    frozen = λ z h. absurd (cc (h));
  }

pub start_is_shown_lem : StartIsShown
start_is_shown_lem c node reading m = go (same_who (next_instance m node) m.whole) refl
  where
    own : (started (machine_of c) m node reading).instance (next_instance m node) ≡ born m.whole m.time (next_instance m node) reading
    own = updated_cases (λ i. i ≡ born m.whole m.time (next_instance m node) reading) m.instance (next_instance m node) (next_instance m node)
        (born m.whole m.time (next_instance m node) reading) (λ e. refl) (λ a. absurd (same_who-false (next_instance m node) (next_instance m node) a refl))

    go : (b : Bool) → same_who (next_instance m node) m.whole ≡ b →
        Shows c (started (machine_of c) m node reading) (next_instance m node) (start_first c (next_instance m node) b).ring
    go true e = subst (λ (i : Instance). ShowsInstance c (next_instance m node) m.sent i (new_ring c (next_instance m node) routing whole_ring)) (sym own)
        (shown c m.time reading m.whole (next_instance m node) m.sent routing whole_ring refl true e whole_is)
    go false e = subst (λ (i : Instance). ShowsInstance c (next_instance m node) m.sent i (new_ring c (next_instance m node) seeking [])) (sym own)
        (shown c m.time reading m.whole (next_instance m node) m.sent seeking [] refl false e refl)

pub spent_is_left_lem : SpentIsLeft
spent_is_left_lem c m x still =
    subst (λ (u : Work). Shows c m x u.ring) (sym (node_started-is c x true))
    (record { me = refl; ranges = refl; freeze = refl; slots = refl; stands_still = still })
