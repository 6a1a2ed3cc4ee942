-- Nobody holds what an instance owned in the end, if it is live in the run in which it goes on.
use Rattle.std.specs.Prelude.{◌==◌, not}
use Rattle.std.proofs.Common.{◌≡◌, ℕ, Bool, true, false, ◌&&◌, ◌||◌, List, [], ◌∷◌, ◌++◌, Option, Some, refl, sym, ap, ◌∙◌, subst}
use Rattle.std.proofs.lemmas.Bool.{both_ways, eqb-false, eqb-true}
use Rattle.cold_start.proofs.OneLife.{run_one, valid_one, world_one}
use Rattle.cold_start.specs.Lives.{lives_world, one_life}
use Rattle.fabric_lemmas.specs.Maps.{at}
use Rattle.fabric_terms.specs.declared.config.FabricConfig.{FabricConfig}
use Rattle.fabric_terms.specs.declared.event.Event.{Event}
use Rattle.fabric_terms.specs.Places.{has_left}
use Rattle.fabric_terms.specs.Reports.{Told, told}
use Rattle.fabric_terms.specs.Runs.{Holds, Owned, clocks_of, own_of, reading_of}
use Rattle.fabric_terms.specs.Sound.{IsSound}
use Rattle.fabric_terms.specs.TakeOvers.{tells_take_over, was_taken_over}
use Rattle.join_phases.specs.Phases.{is_left}
use Rattle.ring_points.proofs.Whos.{same_who_from}
use Rattle.ring_points.specs.declared.who.Who.{Who}
use Rattle.ring_points.specs.Ranges.{in_ranges}
use Rattle.ring_points.specs.Whos.{same_who}
use Rattle.ring_safety.proofs.Safe.{ring_is_safe_lem}
use Rattle.run_facts.proofs.Clocks.{clocks_are_of_running_lem}
use Rattle.run_facts.proofs.Orderly.{orderly}
use Rattle.run_facts.specs.Held.{owned_by}
use Rattle.world_rules.specs.Above.{StaysAbove}
use Rattle.world_rules.specs.Nodes.{NodeState}
use Rattle.world_rules.specs.Runs.{History, run_of, world_after}
use Rattle.world_rules.specs.Schedules.{Valid}
use Rattle.world_rules.specs.Uppers.{Upper}
use Rattle.world_rules.specs.Worlds.{World, Running}
use Rattle.span_safety.specs.Ends.{Ends, NoStart, Spared, taken_by_other}
use Rattle.span_safety.specs.Held.{Owns, StaysLive, time_of}
use Rattle.span_safety.specs.Lengths.{OneLength}
use Rattle.span_safety.proofs.GoesOn.{GoesOn, goes_on}
use Rattle.span_safety.proofs.Numbers.{no_arbiter}
use Rattle.span_safety.proofs.Standing.{Stands, running, standing}

time_after : (a : Upper) (c : FabricConfig) (h : History) → time_of (run_of a c h) ≡ (world_after a c h).time
time_after a c [] = refl
time_after a c (e ∷ h) = refl

-- what came before is a history as well
valid_part : (a : Upper) (is_frame : List ℕ → Bool) (c : FabricConfig) (later earlier : History) → Valid a is_frame c (later ++ earlier) → Valid a is_frame c earlier
valid_part a is_frame c [] earlier valid = valid
valid_part a is_frame c (e ∷ later) earlier valid = valid_part a is_frame c later earlier valid.0

-- whom nobody took over from, no other did
fewer : (x : Who) (reports : Told) → was_taken_over x reports ≡ false → taken_by_other x reports ≡ false
fewer x [] h = refl
fewer x (t ∷ ts) h = go (tells_take_over x t.1) (not (same_who t.0 x)) h (λ k. fewer x ts k)
  where
    go : (tells other : Bool) → (tells || was_taken_over x ts) ≡ false → (was_taken_over x ts ≡ false → taken_by_other x ts ≡ false) →
        ((other && tells) || taken_by_other x ts) ≡ false
    go true other h again = absurd (cc (h))
    go false true h again = again h
    go false false h again = again h

module _ (a : Upper) (stays : StaysAbove a) (is_frame : List ℕ → Bool) (c : FabricConfig) (sound : IsSound c) (later earlier : History) (end : ℕ × Event) (x : Who) (now : ℕ)
    (valid : Valid a is_frame c (later ++ end ∷ earlier)) (ends : Ends a c x earlier end) (none : NoStart x.actor later) (even : OneLength a c x.actor (one_life earlier))
    (runs : reading_of x (clocks_of (run_of a c earlier)) ≡ Some now) (stood : has_left x (told (run_of a c earlier)) ≡ false) where
  abbrev whole : History
  whole = later ++ end ∷ earlier

  pub until : Valid a is_frame c earlier
  until = (valid_part a is_frame c later (end ∷ earlier) valid).0

  pub stands : (fence : Option ℕ) × Stands c (lives_world a c (one_life earlier)) x now fence
  stands =
      running a stays c (one_life earlier) x now (ap (λ r. reading_of x (clocks_of r)) (run_one a c earlier) ∙ runs)
      (ap (λ r. has_left x (told r)) (run_one a c earlier) ∙ stood)

  abbrev state : Running a
  state = stands.1.state

  pub here : at x.actor (world_after a c earlier).nodes ≡ Some state
  here = sym (ap (λ (w : World a). at x.actor w.nodes) (world_one a c earlier)) ∙ stands.1.here

  pub g : GoesOn a stays is_frame c sound earlier end x state here stands.1.name stands.1.stays (no_arbiter a is_frame c sound earlier until x.actor state here) even later
  g =
      goes_on a stays is_frame c sound earlier end x state here stands.1.name stands.1.stays (no_arbiter a is_frame c sound earlier until x.actor state here) even later valid
      ends none

  abbrev ghost : Running a
  ghost = g.beside.ghost

  name : ghost.node.ring.me ≡ x
  name = ap (λ (z : NodeState a). z.ring.me) g.beside.still ∙ stands.1.name

  there : at x.actor (world_after a c g.history).nodes ≡ Some ghost
  there = ap (λ (w : World a). at x.actor w.nodes) g.is ∙ g.beside.there

  -- who runs in that run
  runs_there : (q : ℕ) (s : Running a) (y : Who) (reading : ℕ) → at q g.nodes ≡ Some s → s.node.ring.me ≡ y → s.reading ≡ reading →
      reading_of y (clocks_of (run_of a c g.history)) ≡ Some reading
  runs_there q s y reading at_nodes named shows =
      (clocks_are_of_running_lem a stays c g.history y reading).1
      (record { node = q; state = s; here = ap (λ (w : World a). at q w.nodes) g.is ∙ at_nodes; name = named; reads = shows })

  -- the instance runs there, and has not left

  pub goes : reading_of x (clocks_of (run_of a c g.history)) ≡ Some ghost.reading
  goes = runs_there x.actor ghost x ghost.reading g.beside.there name refl

  pub not_left : has_left x (told (run_of a c g.history)) ≡ false
  not_left =
      sym (ap (λ y. has_left y (told (run_of a c g.history))) name)
      ∙ ((orderly a c stays g.history).left x.actor ghost there ∙ (ap (λ (z : NodeState a). is_left z.ring.phase) g.beside.still ∙ stands.1.stays))

  pub time_there : time_of (run_of a c g.history) ≡ time_of (run_of a c whole)
  time_there = time_after a c g.history ∙ (ap (λ (w : World a). w.time) g.is ∙ sym (time_after a c whole))

  -- it owns there what it owned in the end
  owns_still : own_of x (run_of a c g.history) ≡ own_of x (run_of a c earlier)
  owns_still =
      subst (λ y. own_of y (run_of a c g.history) ≡ Some (owned_by c ghost.node.ring)) name ((orderly a c stays g.history).own x.actor ghost there)
      ∙ (ap (λ (z : NodeState a). Some (owned_by c z.ring)) g.beside.still
      ∙ sym (subst (λ y. own_of y (run_of a c earlier) ≡ Some (owned_by c state.node.ring)) stands.1.name ((orderly a c stays earlier).own x.actor state here)))

  -- who holds a point holds it there, and is another
  module _ (p : ℕ) (y : Who) (k : Holds (run_of a c whole) y p) where
    standing_there : Stands c (lives_world a c (one_life whole)) y k.reading k.owned.fence
    standing_there =
        standing a stays is_frame c sound (one_life whole) (valid_one a c is_frame whole valid) y p k.reading k.owned.fence
        (subst (λ r. Owns r y p k.reading k.owned.fence) (sym (run_one a c whole)) (record { ranges = k.owned.ranges; runs = k.runs; own = k.own; has = k.has }))

    here_too : at y.actor (world_after a c whole).nodes ≡ Some standing_there.state
    here_too = sym (ap (λ (w : World a). at y.actor w.nodes) (world_one a c whole)) ∙ standing_there.here

    other : (x.actor == y.actor) ≡ false
    other = go (x.actor == y.actor) refl
      where
        go : (t : Bool) → (x.actor == y.actor) ≡ t → (x.actor == y.actor) ≡ false
        go false h = h
        go true h =
            let gone = g.beside.gone standing_there.state (ap (λ n. at n (world_after a c whole).nodes) (eqb-true x.actor y.actor h) ∙ here_too) in
            absurd (both_ways (is_left standing_there.state.node.ring.phase) standing_there.stays gone.1)

    is_other : y ≡ x → ⊥
    is_other same = eqb-false x.actor y.actor other (sym (ap (λ (z : Who). z.actor) same))

    holds_there : Holds (run_of a c g.history) y p
    holds_there = record {
      reading = k.reading;
      owned = k.owned;
      runs = runs_there y.actor standing_there.state y k.reading (g.beside.others y.actor other ∙ here_too) standing_there.name standing_there.reads;
      own = g.own y (same_who_from x y (λ e. is_other (sym e))) ∙ k.own;
      has = k.has;
      below = k.below;
    }

  pub spared : StaysLive (run_of a c g.history) x → Spared (run_of a c earlier) (run_of a c whole) x
  spared live = record {
    kept = sym g.tells ∙ fewer x (told (run_of a c g.history)) live.kept;
    points = λ p owned own has y k. is_other p y k ((ring_is_safe_lem a stays is_frame c g.history sound g.valid).one_holder 0 p y x (holds_there p y k) (mine p owned own has));
  }
    where
      mine : (p : ℕ) (owned : Owned) → own_of x (run_of a c earlier) ≡ Some owned → in_ranges p owned.ranges ≡ true → Holds (run_of a c g.history) x p
      mine p owned own has =
          let told_last = live.live.own in
          let all : live.owned ≡ owned = (let e : Some live.owned ≡ Some owned = sym told_last ∙ (owns_still ∙ own) in cc (e)) in
          record {
            reading = live.live.reading;
            owned = live.owned;
            runs = live.live.runs;
            own = live.live.own;
            has = ap (λ (z : Owned). in_ranges p z.ranges) all ∙ has;
            below = live.live.below;
          }
