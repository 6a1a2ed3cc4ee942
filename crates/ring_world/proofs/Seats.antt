-- The arbitrators' seats stand for the arbitrators of the rules.
use Rattle.std.proofs.Common.{◌≡◌, ℕ, ◌+◌, ◌<◌, Bool, true, false, Some, None, refl, sym, ap, ◌∙◌, arith, length, get_or}
use Rattle.std.specs.Prelude.{is_some, slice_get}
use Rattle.std.proofs.lemmas.Bool.Decides.{nat_tests}
use Rattle.std.proofs.lemmas.Option.{slice_get_read}
use Rattle.arbiter_core.specs.Arbiters.{Arbiter}
use Rattle.ring_points.specs.Whos.{arbiter_actor}
use Rattle.world_rules.specs.Events.{is_arbiter_actor, arbiter_number}
use Rattle.fabric_lemmas.specs.Maps.{at}
use Rattle.unit_rules.specs.Fabric.{fabric}
use Rattle.world_rules.specs.Schedules.{runs, runs_as}
use Rattle.world_rules.specs.Worlds.{World as RuledWorld}
use Rattle.ring_world.specs.ConfiguredArbiters.{IsSeat, state_of, state_where}
use Rattle.ring_world.specs.Stands.{Stands}
use Rattle.ring_world.specs.declared.configured_arbiter.ConfiguredArbiter.{ConfiguredArbiter}
use Rattle.ring_world.specs.declared.world.World.{World}

-- the seat that was read at a place
pub seat_here : (a : World) (place : ℕ) (q : ConfiguredArbiter) → place < length a.seats.items → q ≡ get_or a.seats.items place q → slice_get a.seats.items place ≡ Some q
seat_here a place q lt read = slice_get_read a.seats.items (length a.seats.items) place q refl lt read

pub seat_at : (a : World) (w : RuledWorld fabric) (place : ℕ) (q : ConfiguredArbiter) → Stands a w → place < length a.seats.items → q ≡ get_or a.seats.items place q → IsSeat w a.events (place + 1) q
seat_at a w place q s lt read = s.arbiters.seats place q (seat_here a place q lt read)

-- an arbitrator has a state where it runs
some_where : (b : Bool) (x : Arbiter) → is_some (state_where b x) ≡ b
some_where true x = refl
some_where false x = refl

-- the actor of a seat

pub seat_number : (actor place : ℕ) → actor ≡ arbiter_actor (place + 1) → arbiter_number actor ≡ place + 1
seat_number actor place e = omega arith

pub seat_actor : (actor place : ℕ) → actor ≡ arbiter_actor (place + 1) → is_arbiter_actor actor ≡ true
seat_actor actor place e = grind (arith, nat_tests)

pub far_number : (actor count : ℕ) → arbiter_actor count < actor → count < arbiter_number actor
far_number actor count lt = omega arith

module _ (a : World) (w : RuledWorld fabric) (actor place : ℕ) (q : ConfiguredArbiter)
    (s : Stands a w) (e : actor ≡ arbiter_actor (place + 1)) (lt : place < length a.seats.items) (read : q ≡ get_or a.seats.items place q) where
  -- an arbitrator runs where its seat says so
  pub runs_at : is_some (at (arbiter_number actor) w.arbiters) ≡ q.runs
  runs_at =
      ap (λ k. is_some (at k w.arbiters)) (seat_number actor place e)
      ∙ (ap (λ o. is_some o) (sym (seat_at a w place q s lt read).running) ∙ some_where q.runs q.arbiter)

  pub runs_here : runs w actor ≡ q.runs
  runs_here = ap (λ b. runs_as w actor b) (seat_actor actor place e) ∙ runs_at

  pub none_at : q.runs ≡ false → at (arbiter_number actor) w.arbiters ≡ None
  none_at stopped =
      ap (λ k. at k w.arbiters) (seat_number actor place e)
      ∙ (sym (seat_at a w place q s lt read).running ∙ ap (λ b. state_where b q.arbiter) stopped)

-- the state of a running arbitrator
pub running_at : (a : World) (w : RuledWorld fabric) (place : ℕ) (q : ConfiguredArbiter) → Stands a w → place < length a.seats.items → q ≡ get_or a.seats.items place q → q.runs ≡ true
    → at (place + 1) w.arbiters ≡ Some (state_of q.arbiter)
running_at a w place q s lt read is = sym (seat_at a w place q s lt read).running ∙ ap (λ b. state_where b q.arbiter) is

module _ (a : World) (w : RuledWorld fabric) (actor : ℕ) (s : Stands a w) (lt : arbiter_actor 0 < actor) (none : arbiter_actor 0 < actor → arbiter_actor (length a.seats.items) < actor) where
  -- one that has no seat does not run
  pub none_there : at (arbiter_number actor) w.arbiters ≡ None
  none_there = s.arbiters.others (arbiter_number actor) (far_number actor (length a.seats.items) (none lt))

  pub runs_nowhere : runs w actor ≡ false
  runs_nowhere =
      let b : is_arbiter_actor actor ≡ true = grind (arith, nat_tests) in
      ap (λ b. runs_as w actor b) b ∙ ap (λ o. is_some o) none_there
