-- When an event is within the limits and its clocks within the bound.
use Rattle.std.proofs.Common.{◌≡◌, ℕ, ◌≤◌, ◌<◌, Bool, true, false, not, List, Option, refl, sym, ap, ◌∙◌, arith}
use Rattle.std.specs.Prelude.{◌&&◌, ◌||◌, nat_lt, nat_le}
use Rattle.std.proofs.lemmas.Bool.Decides.{nat_tests}
use Rattle.fabric_terms.specs.declared.command.Command.{Command}
use Rattle.fabric_terms.specs.declared.event.Event.{Event}
use Rattle.fabric_terms.specs.declared.event.Event.TheVariants.{Start, Stop, Fire, Give, Do, Junk}
use Rattle.unit_rules.specs.Fabric.{fabric}
use Rattle.world_rules.specs.Schedules.{keeps_bound}
use Rattle.world_rules.specs.Worlds.{World as RuledWorld}
use Rattle.ring_world.specs.Moves.{Same}
use Rattle.world_rules.specs.EventLimits.{has_room, is_room, acts, time_after, most_events, most_frames, most_time}
use Rattle.ring_world.specs.Stands.{Stands}
use Rattle.ring_world.specs.declared.world.World.{World}

and_true : (b : Bool) → (b && true) ≡ b
and_true true = refl
and_true false = refl

-- what the code tests
abbrev pub room_test : World → Bool → Bool
room_test a acting = is_room acting a.events a.sent

at_most : (m n : ℕ) → m ≤ n → nat_le m n ≡ true
at_most m n h = grind (arith, nat_tests)

-- an event that takes no time has room where the test says so
pub room_is : (a : World) (w : RuledWorld fabric) (e : Event) (acting : Bool) → Stands a w → acts e ≡ acting → time_after w.time e ≡ w.time → has_room w a.events e ≡ room_test a acting
unfolding has_room
room_is a w e acting s same still =
    let early : nat_le (time_after w.time e) most_time ≡ true = ap (λ t. nat_le t most_time) (still ∙ sym s.time) ∙ at_most a.time most_time s.in_time in
    let rest : (nat_lt a.events most_events && (not (acts e) || nat_lt w.count most_frames)) ≡ room_test a acting =
    ap (λ b. nat_lt a.events most_events && (not b || nat_lt w.count most_frames)) same ∙ ap (λ n. nat_lt a.events most_events && (not acting || nat_lt n most_frames)) (sym s.frames.sent) in
    ap (λ b. nat_lt a.events most_events && (not (acts e) || nat_lt w.count most_frames) && b) early ∙ (and_true (nat_lt a.events most_events && (not (acts e) || nat_lt w.count most_frames)) ∙ rest)

-- no clock is read but at a tick

module _ (a : World) (w : RuledWorld fabric) where
  pub bound-start : (actor : ℕ) (reading : Option ℕ) → keeps_bound a.config w (Start actor reading) ≡ true
  unfolding keeps_bound
  bound-start actor reading = refl

  pub bound-stop : (actor : ℕ) → keeps_bound a.config w (Stop actor) ≡ true
  unfolding keeps_bound
  bound-stop actor = refl

  pub bound-fire : (node : ℕ) → keeps_bound a.config w (Fire node) ≡ true
  unfolding keeps_bound
  bound-fire node = refl

  pub bound-give : (frame : ℕ) → keeps_bound a.config w (Give frame) ≡ true
  unfolding keeps_bound
  bound-give frame = refl

  pub bound-do : (node : ℕ) (command : Command) → keeps_bound a.config w (Do node command) ≡ true
  unfolding keeps_bound
  bound-do node command = refl

  pub bound-junk : (actor : ℕ) (bytes : List ℕ) → keeps_bound a.config w (Junk actor bytes) ≡ true
  unfolding keeps_bound
  bound-junk actor bytes = refl

-- a world that has not changed
pub same_world : (a : World) → Same a a
same_world a = record { seen = refl; places = λ p lt. refl }

pub same_on : {a m b : World} → Same a m → Same m b → Same a b
same_on s t = record { seen = t.seen ∙ s.seen; places = λ p lt. t.places p lt ∙ s.places p lt }

both : (b c : Bool) → (b && c) ≡ true → (b ≡ true) × (c ≡ true)
both true c e = (refl, e)
both false c e = absurd (cc)

-- there is room for an event, and for one at which an actor acts for its frames too
pub few_events : (a : World) (acting : Bool) → room_test a acting ≡ true → a.events < most_events
few_events a acting e =
    let parts = both (nat_lt a.events most_events) (not acting || nat_lt a.sent most_frames) e in
    let lt : nat_lt a.events most_events ≡ true = parts.0 in
    grind (arith, nat_tests)

pub few_frames : (a : World) → room_test a true ≡ true → a.sent < most_frames
few_frames a e =
    let parts = both (nat_lt a.events most_events) (nat_lt a.sent most_frames) e in
    let lt : nat_lt a.sent most_frames ≡ true = parts.1 in
    grind (arith, nat_tests)
