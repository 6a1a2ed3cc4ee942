-- The tick of a round, and the turn at its end.
use Rattle.std.proofs.Common.{◌≡◌, ℕ, ◌+◌, ◌≤◌, Bool, true, false, ◌||◌, List, ◌∷◌, length, map, Option, refl, ap, sym, subst, ◌∙◌, arith}
use Rattle.std.specs.Prelude.{nat_le, nat_lt}
use Rattle.std.proofs.lemmas.Bool.Decides.{nat_tests}
use Rattle.unit_rules.specs.Fabric.{fabric}
use Rattle.fabric_terms.specs.Ranges.{AreReadings}
use Rattle.fabric_terms.specs.Runs.{clocks_of}
use Rattle.fabric_terms.specs.declared.event.Event.TheVariants.{Tick}
use Rattle.ring_points.specs.declared.who.Who.{Who}
use Rattle.ring_world.specs.Answers.{Accepts, Takes}
use Rattle.unit_rules.specs.Ruled.{ruled}
use Rattle.world_rules.specs.EventLimits.{has_room, most_events, most_time}
use Rattle.ring_world.specs.declared.world.Acted.{Acted}
use Rattle.world_rules.specs.Events.{world_step}
use Rattle.world_rules.specs.Runs.{run_of}
use Rattle.world_rules.specs.Worlds.{World}
use Rattle.schedule_generate.specs.Course.{Course, is_full, latest_round, many_events, many_frames, next_line, running, shown_at, tick_of, with_tick}
use Rattle.schedule_generate.specs.Goes.{Goes}
use Rattle.schedule_generate.specs.Settings.{generated_config}
use Rattle.schedule_generate.specs.Shown.{nodes_of, shown}
use Rattle.schedule_generate.specs.declared.generator.Generator.{Generator}
use Rattle.schedule_generate.proofs.Nodes.{nodes_shown, readings_in, shown_nodes}
use Rattle.schedule_generate.proofs.Steps.{accepts_may, taken_may}
use Rattle.schedule_generate.proofs.Taking.{tick_nodes, tick_time}
use Rattle.schedule_generate.proofs.Truly.{tick_due}

-- the readings that are shown
pub readings_are : (n : ℕ) (a : Generator) (g : Course) (clocks : List (Who × ℕ)) (time : ℕ) (items : List (ℕ × ℕ)) → Goes n a g → clocks ≡ clocks_of (run_of fabric (generated_config n) g.history) → time ≡ a.time + 100
    → items ≡ shown time clocks → items ≡ map (shown_at ((ruled (generated_config n) g.history).time + 100)) (running (ruled (generated_config n) g.history))
readings_are n a g clocks time items goes are later is =
    let c = generated_config n in
    let w = ruled c g.history in
    let when : time ≡ w.time + 100 = later ∙ ap (λ (t : ℕ). t + 100) goes.time in
    is ∙ (ap (shown time) are ∙ (shown_nodes a.world c g.history time goes.world ∙ ap (λ (t : ℕ). map (shown_at t) (running w)) when))

pub tick_is : (n : ℕ) (g : Course) (items : List (ℕ × ℕ)) → items ≡ map (shown_at ((ruled (generated_config n) g.history).time + 100)) (running (ruled (generated_config n) g.history))
    → Tick 100 items ≡ tick_of (ruled (generated_config n) g.history)
tick_is n g items is = ap (Tick 100) is

-- they are in the ranges of schedules
pub readings_fit : (n : ℕ) (a : Generator) (g : Course) (items : List (ℕ × ℕ)) → n ≤ 16 → a.time ≤ 100000000000000 → Goes n a g
    → items ≡ map (shown_at ((ruled (generated_config n) g.history).time + 100)) (running (ruled (generated_config n) g.history)) → AreReadings items
readings_fit n a g items few early goes is =
    let same = goes.time in
    subst (λ rs. AreReadings rs) (sym is) (readings_in n ((ruled (generated_config n) g.history).time + 100) g.history few (omega arith) goes.world.valid)

-- and the nodes are those that run after the tick
pub nodes_are : (n : ℕ) (a : Generator) (b : Generator) (g : Course) (items : List (ℕ × ℕ)) (line : ℕ) (acted : Option Acted) → Goes n a g
    → items ≡ map (shown_at ((ruled (generated_config n) g.history).time + 100)) (running (ruled (generated_config n) g.history))
    → Takes b.world (generated_config n) g.history line (tick_of (ruled (generated_config n) g.history)) acted
    → nodes_of items ≡ running (ruled (generated_config n) (with_tick (generated_config n) g).history)
nodes_are n a b g items line acted goes is takes =
    let c = generated_config n in
    let w = ruled c g.history in
    let e = tick_of w in
    let new : Course = record g { history = (next_line g.history, e) ∷ g.history } in
    let same : with_tick c g ≡ new = taken_may c e g goes.going (accepts_may c g.history e takes.accepted) in
    ap nodes_of is
    ∙ (nodes_shown (w.time + 100) (running w)
    ∙ (sym (tick_nodes c w 100 (map (shown_at (w.time + 100)) (running w))) ∙ ap (λ (k : Course). running (ruled c k.history)) (sym same)))

pub tick_after : (n : ℕ) (a : Generator) (g : Course) (time : ℕ) → Goes n a g → time ≡ a.time + 100 → time ≡ (world_step fabric (generated_config n) (ruled (generated_config n) g.history) (tick_of (ruled (generated_config n) g.history))).world.time
tick_after n a g time goes later =
    let c = generated_config n in
    let w = ruled c g.history in
    later ∙ (ap (λ (t : ℕ). t + 100) goes.time ∙ sym (tick_time c w 100 (map (shown_at (w.time + 100)) (running w))))

-- Room.

or_right : (x y : Bool) → (x || y) ≡ false → y ≡ false
or_right false y e = e
or_right true y e = let no : ⊥ = cc in absurd no

room_left : (w : World fabric) (events : ℕ) (readings : List (ℕ × ℕ)) → (nat_lt many_frames w.count || nat_lt many_events events) ≡ false → w.time ≤ latest_round → has_room w events (Tick 100 readings) ≡ true
unfolding has_room
room_left w events readings not_full early =
    let few : nat_lt many_events events ≡ false = or_right (nat_lt many_frames w.count) (nat_lt many_events events) not_full in
    let more : nat_lt events most_events ≡ true = grind (arith, nat_tests) in
    let later : nat_le (w.time + 100) most_time ≡ true = grind (arith, nat_tests) in
    rw (more, later) refl

-- where a round may begin, its tick may come
pub tick_accepted : (n : ℕ) (a : Generator) (g : Course) → a.time ≤ latest_round → Goes n a g → is_full (generated_config n) g ≡ false → Accepts (generated_config n) g.history (tick_of (ruled (generated_config n) g.history))
tick_accepted n a g early goes not_full =
    let w = ruled (generated_config n) g.history in
    let due = tick_due n w goes.clocks in
    let time : w.time ≤ latest_round = let same = goes.time in omega (arith, same, early) in
    record {
      there = due.there;
      bound = due.bound;
      room = room_left w (length g.history) (map (shown_at (w.time + 100)) (running w)) not_full time;
    }
