-- A generated schedule in the making. Which frames a round gives depends on what was sent, so it is made along with its run.
use Rattle.std.specs.Prelude.{ℕ, ◌+◌, ◌-◌, ◌/◌, ◌%◌, zero, suc, Bool, true, false, ◌&&◌, ◌||◌, ◌==◌, List, [], ◌∷◌, ◌++◌, length, map, Option, Some, None, nat_lt, if◌then◌else◌}
use Rattle.ring_points.specs.Whos.{arbiter_actor}
use Rattle.fabric_terms.specs.declared.command.Command.TheVariants.{Link}
use Rattle.fabric_terms.specs.declared.config.FabricConfig.{FabricConfig}
use Rattle.fabric_terms.specs.declared.event.Event.{Event}
use Rattle.fabric_terms.specs.declared.event.Event.TheVariants.{Start, Stop, Tick, Fire, Give, Do}
use Rattle.unit_rules.specs.Fabric.{fabric}
use Rattle.rand_core.specs.Pcg32Seed.{pcg32_seed}
use Rattle.rand_pcg.specs.Lcg.{Lcg}
use Rattle.rand_pcg.specs.Pcg.{pcg32, pcg32_of_seed}
use Rattle.frame_format.specs.Kinds.{is_frame}
use Rattle.unit_rules.specs.Ruled.{ruled}
use Rattle.world_rules.specs.EventLimits.{has_room}
use Rattle.world_rules.specs.Runs.{History}
use Rattle.world_rules.specs.Schedules.{is_there, keeps_bound, node_runs}
use Rattle.world_rules.specs.Worlds.{World}
use Rattle.schedule_generate.specs.Settings.{numbers_from}

-- The events so far with their lines, the newest first; the event that was refused, if one was; how many of the frames
-- have been considered; and the generator of draws.
pub record Course : Type 0 where
  pub history : History
  pub refused : Option Event
  pub considered : ℕ
  pub draws : Lcg

-- it begins with the generator of a seed
abbrev pub begun : ℕ → Course
begun seed = record { history = []; refused = None; considered = 0; draws = pcg32_of_seed (pcg32_seed 16 seed) }

-- each line behind the first one is an event
abbrev pub next_line : History → ℕ
next_line h = length h + 2

-- what a schedule of this history would take
abbrev pub may_come : FabricConfig → History → Event → Bool
may_come c h e = is_there is_frame c (ruled c h) e && keeps_bound c (ruled c h) e && has_room (ruled c h) (length h) e

abbrev pub taken_if : Event → Course → Bool → Course
taken_if e g true = record g { history = (next_line g.history, e) ∷ g.history }
taken_if e g false = record g { refused = Some e }

abbrev pub taken_unless : FabricConfig → Event → Course → Option Event → Course
taken_unless c e g None = taken_if e g (may_come c g.history e)
taken_unless c e g (Some refused) = g

-- one more event, unless one was refused before
abbrev pub taken : FabricConfig → Event → Course → Course
taken c e g = taken_unless c e g g.refused

abbrev pub taken_all : FabricConfig → List Event → Course → Course
taken_all c [] g = g
taken_all c (e ∷ es) g = taken_all c es (taken c e g)

-- The beginning: the arbitrators start, then the nodes, and each but the first asks the first for a link.

abbrev pub arbiter_starts : ℕ → Event
arbiter_starts arbiter = Start (arbiter_actor arbiter) None

abbrev pub node_starts : ℕ → Event
node_starts node = Start node (Some 0)

abbrev pub asks_first : ℕ → Event
asks_first node = Do node (Link 1)

abbrev pub opening : ℕ → List Event
opening n = map arbiter_starts (numbers_from 1 3) ++ (map node_starts (numbers_from 1 n) ++ map asks_first (numbers_from 2 (n - 1)))

-- A round: a tick, firings, frames, and a turn of one node.

-- the numbers of the running nodes, rising
abbrev pub running : World fabric → List ℕ
running w = map (λ e. e.0) w.nodes

abbrev pub tick_ticks : ℕ
tick_ticks = 100

-- each clock shows the true time
abbrev pub shown_at : ℕ → ℕ → ℕ × ℕ
shown_at time node = (node, time)

abbrev pub tick_of : World fabric → Event
tick_of w = Tick tick_ticks (map (shown_at (w.time + tick_ticks)) (running w))

abbrev pub fires : ℕ → Event
fires node = Fire node

-- every running node's timer fires
abbrev pub firings : World fabric → List Event
firings w = map fires (running w)

-- a draw decides of a frame whether it is lost, given twice, or given once
abbrev pub gives_of : ℕ → ℕ → List Event
gives_of frame zero = []
gives_of frame (suc zero) = Give frame ∷ Give frame ∷ []
gives_of frame (suc (suc k)) = Give frame ∷ []

-- the next frame is considered
abbrev pub considered_next : FabricConfig → Course → Course
considered_next c g =
    let draw = pcg32 g.draws in
    taken_all c (gives_of (g.considered + 1) (draw.0 % 8)) (record g { considered = g.considered + 1; draws = draw.1 })

-- so many frames are considered, in their order
abbrev pub considers : FabricConfig → ℕ → Course → Course
considers c zero g = g
considers c (suc k) g = considered_next c (considers c k g)

-- a node that runs is stopped, and one that does not is started, its clock showing the true time
abbrev pub turn_of : World fabric → ℕ → Bool → Event
turn_of w node true = Stop node
turn_of w node false = Start node (Some w.time)

-- a draw decides whether a node is stopped or started, and which
abbrev pub turns : World fabric → ℕ → ℕ → List Event
turns w n draw =
    let node = draw / 64 % n + 1 in
    if draw % 50 == 0 then turn_of w node (node_runs w node) ∷ [] else []

abbrev pub with_tick : FabricConfig → Course → Course
with_tick c g = taken c (tick_of (ruled c g.history)) g

abbrev pub with_firings : FabricConfig → Course → Course
with_firings c g = taken_all c (firings (ruled c g.history)) g

-- all frames that were sent so far and not considered yet
abbrev pub with_gives : FabricConfig → Course → Course
with_gives c g = considers c ((ruled c g.history).count - g.considered) g

-- the last draw of the round
abbrev pub with_turn : FabricConfig → ℕ → Course → Course
with_turn c n g =
    let draw = pcg32 g.draws in taken_all c (turns (ruled c g.history) n draw.0) (record g { draws = draw.1 })

-- a round begins at this true time at the latest, since there are fewer than 2^32 of them
abbrev pub latest_round : ℕ
latest_round = 100000000000000

abbrev pub round : FabricConfig → ℕ → Course → Course
round c n g = with_turn c n (with_gives c (with_firings c (with_tick c g)))

-- no round begins where more frames were sent, or more events taken

abbrev pub many_frames : ℕ
many_frames = 190000

abbrev pub many_events : ℕ
many_events = 900000

abbrev pub is_full : FabricConfig → Course → Bool
is_full c g = nat_lt many_frames (ruled c g.history).count || nat_lt many_events (length g.history)

abbrev pub round_unless : FabricConfig → ℕ → Course → Bool → Course
round_unless c n g true = g
round_unless c n g false = round c n g

abbrev pub rounds : FabricConfig → ℕ → ℕ → Course → Course
rounds c n zero g = g
rounds c n (suc k) g = let before = rounds c n k g in round_unless c n before (is_full c before)

-- the course of so many rounds, of n nodes
abbrev pub course_of : FabricConfig → (seed n count : ℕ) → Course
course_of c seed n count = rounds c n count (taken_all c (opening n) (begun seed))
