-- Two nodes accuse a third, the arbitrators split their grants, and the second round has an heir.
use Rattle.std.specs.Prelude.{◌≡◌, ℕ, List, [], ◌∷◌, ◌++◌, reverse, Some, None}
use Rattle.ring_points.specs.declared.who.Who.{Who}
use Rattle.ring_points.specs.Ranges.{whole_ring}
use Rattle.ring_points.specs.Whos.{node_instance}
use Rattle.fabric_terms.specs.declared.command.Command.TheVariants as command
use Rattle.fabric_terms.specs.declared.config.FabricConfig.{FabricConfig}
use Rattle.fabric_terms.specs.declared.event.Event.{Event}
use Rattle.fabric_terms.specs.declared.event.Event.TheVariants.{Tick, Fire, Give, Do}
use Rattle.fabric_terms.specs.declared.report.Report.TheVariants.{Own, Accused, Discharged, Heir, TookOver, LeftRing}
use Rattle.fabric_terms.specs.declared.report.Why.TheVariants.{Fence}
use Rattle.rule_examples.specs.Lines.{Line, config_of, node_entry, half, start_node, start_arbiter, on_lines, lines_from, says, arbiter_says}
use Rattle.rule_examples.specs.Joins.{n1, n2}

abbrev pub n3 : Who
n3 = node_instance 3 1

-- three nodes, two arbitrators, and so many rounds
abbrev pub trio : ℕ → FabricConfig
trio rounds = record (config_of 1 (node_entry 1 0 ∷ node_entry 2 half ∷ node_entry 3 13835058055282163712 ∷ [])) {
  rounds = rounds;
  arbiters = (1, []) ∷ (2, []) ∷ [];
}

-- true time and all three clocks
abbrev pub tick_all : ℕ → ℕ → Event
tick_all advance reading = Tick advance ((1, reading) ∷ (2, reading) ∷ (3, reading) ∷ [])

-- Nodes 2 and 3 have a record of node 1, accuse it, and each gets one grant: lines 2 to 27. Each claims the first round,
-- hears that it is split, and claims the second, where node 2 comes first: lines 28 to 45. It fires before and at the time
-- from which it is ripe.
abbrev pub split_events : List Event
split_events =
    start_arbiter 1 ∷ start_arbiter 2 ∷ start_node 1 0 ∷ start_node 2 0 ∷ start_node 3 0
    ∷ Do 2 (command.Link 1) ∷ Give 1 ∷ Give 2 ∷ Give 3 ∷ Give 4
    ∷ Do 3 (command.Link 1) ∷ Give 6 ∷ Give 7 ∷ Give 8 ∷ Give 9
    ∷ tick_all 3000 3000
    ∷ Fire 2 ∷ Fire 3
    ∷ Give 11 ∷ Give 14 ∷ Give 12 ∷ Give 13
    ∷ Give 15 ∷ Give 17 ∷ Give 16 ∷ Give 18
    ∷ []

abbrev pub round_events : List Event
round_events =
    Fire 2 ∷ Fire 3
    ∷ Give 19 ∷ Give 20 ∷ Give 21 ∷ Give 22
    ∷ Give 23 ∷ Give 24 ∷ Give 25 ∷ Give 26
    ∷ Give 27 ∷ Give 28 ∷ Give 29 ∷ Give 30
    ∷ Give 31 ∷ Give 32 ∷ Give 33 ∷ Give 34
    ∷ tick_all 4082 7082 ∷ Fire 2
    ∷ tick_all 1 7083 ∷ Fire 1 ∷ Fire 2 ∷ Fire 3
    ∷ []

abbrev pub split_lines : List Line
split_lines =
    says 4 0 n1 0 (Own whole_ring None ∷ []) (0, 0)
    ∷ says 5 0 n2 0 (Own [] None ∷ []) (0, 0)
    ∷ says 6 0 n3 0 (Own [] None ∷ []) (0, 0)
    ∷ says 7 0 n2 0 [] (1, 1)
    ∷ says 8 0 n1 0 (Own whole_ring (Some 4000) ∷ []) (2, 2)
    ∷ says 9 0 n2 0 (Own [] (Some 4000) ∷ []) (3, 3)
    ∷ says 10 0 n1 0 [] (4, 4)
    ∷ says 11 0 n2 0 [] (5, 5)
    ∷ says 12 0 n3 0 [] (6, 6)
    ∷ says 13 0 n1 0 [] (7, 7)
    ∷ says 14 0 n3 0 (Own [] (Some 4000) ∷ []) (8, 8)
    ∷ says 15 0 n1 0 [] (9, 9)
    ∷ says 16 0 n3 0 [] (10, 10)
    ∷ says 18 3000 n2 3000 (Accused n1 ∷ []) (11, 12)
    ∷ says 19 3000 n3 3000 (Accused n1 ∷ []) (13, 14)
    ∷ arbiter_says 20 3000 1 (15, 15)
    ∷ arbiter_says 21 3000 2 (16, 16)
    ∷ arbiter_says 22 3000 2 (17, 17)
    ∷ arbiter_says 23 3000 1 (18, 18)
    ∷ says 25 3000 n2 3000 (Discharged n1 ∷ Own [] None ∷ []) (0, 0)
    ∷ says 27 3000 n3 3000 (Discharged n1 ∷ Own [] None ∷ []) (0, 0)
    ∷ []

abbrev pub round_lines : List Line
round_lines =
    says 28 3000 n2 3000 [] (19, 20)
    ∷ says 29 3000 n3 3000 [] (21, 22)
    ∷ arbiter_says 30 3000 1 (23, 23)
    ∷ arbiter_says 31 3000 2 (24, 24)
    ∷ arbiter_says 32 3000 1 (25, 25)
    ∷ arbiter_says 33 3000 2 (26, 26)
    ∷ says 35 3000 n2 3000 [] (27, 28)
    ∷ says 37 3000 n3 3000 [] (29, 30)
    ∷ arbiter_says 38 3000 1 (31, 31)
    ∷ arbiter_says 39 3000 2 (32, 32)
    ∷ arbiter_says 40 3000 1 (33, 33)
    ∷ arbiter_says 41 3000 2 (34, 34)
    ∷ says 43 3000 n2 3000 (Heir n1 7083 ∷ []) (0, 0)
    ∷ says 49 7083 n1 7083 (LeftRing Fence ∷ Own [] None ∷ []) (0, 0)
    ∷ says 50 7083 n2 7083 (TookOver n1 whole_ring ∷ Own whole_ring None ∷ []) (0, 0)
    ∷ []

abbrev pub trio_prints : ℕ → List Event → List Line
trio_prints rounds events = reverse (lines_from (trio rounds) (on_lines 2 events []))

-- with two rounds node 2 becomes heir in the second, and takes over the whole ring
abbrev pub SettlesSplit : Type 0
SettlesSplit = trio_prints 2 (split_events ++ round_events) ≡ split_lines ++ round_lines

-- with one round both are discharged, and nothing is claimed
abbrev pub StaysSplit : Type 0
StaysSplit = trio_prints 1 (split_events ++ Fire 2 ∷ Fire 3 ∷ []) ≡ split_lines
