-- A run of two nodes: a partition is created with two replicas, written, and its primary moves.
use Rattle.std.specs.Prelude.{◌≡◌, ℕ, List, [], ◌∷◌, ◌++◌, reverse, Some, None}
use Rattle.ring_points.specs.Ranges.{whole_ring}
use Rattle.ring_points.specs.Whos.{node_instance}
use Rattle.fabric_terms.specs.declared.command.Command.TheVariants as command
use Rattle.fabric_terms.specs.declared.config.FabricConfig.{FabricConfig}
use Rattle.fabric_terms.specs.declared.event.Event.{Event}
use Rattle.fabric_terms.specs.declared.event.Event.TheVariants.{Fire, Give, Do}
use Rattle.fabric_terms.specs.declared.report.Report.{Report}
use Rattle.fabric_terms.specs.declared.report.Report.TheVariants as report
use Rattle.fabric_terms.specs.declared.report.Reason.TheVariants as reason
use Rattle.fabric_terms.specs.declared.report.Verb.TheVariants as verb
use Rattle.world_rules.specs.Runs.{run_of}
use Rattle.rule_examples.specs.Lines.{Line, config_of, node_entry, half, start_node, start_arbiter, on_lines, lines_of, says, arbiter_says}
use Rattle.unit_rules.specs.Units.{units}
use Rattle.rule_examples.specs.Values.{e1, e2}

-- two nodes of two domains, one arbitrator
abbrev pub pair : FabricConfig
pair = record (config_of 1 (node_entry 1 0 ∷ record (node_entry 2 half) { domain = 2 } ∷ [])) { arbiters = (1, []) ∷ [] }

abbrev pub print_of : List Event → List Line
print_of events = reverse (lines_of (run_of units pair (on_lines 2 events [])))

-- what each actor tells, and the numbers of the first and the last frame that it sends

abbrev pub node_1 : ℕ → List Report → ℕ × ℕ → Line
node_1 line reports sent = says line 0 (node_instance 1 1) 0 reports sent

abbrev pub node_2 : ℕ → List Report → ℕ × ℕ → Line
node_2 line reports sent = says line 0 (node_instance 2 1) 0 reports sent

abbrev pub arbiter_1 : ℕ → ℕ → Line
arbiter_1 line k = arbiter_says line 0 1 (k, k)

-- node 1 hears node 2, and creates the partition at both: lines 2 to 21
abbrev pub create_events : List Event
create_events =
    start_node 1 0 ∷ start_node 2 0 ∷ start_arbiter 1 ∷ Do 2 (command.Link 1) ∷ Give 1
    ∷ Do 1 (command.Create 1 2) ∷ Give 3 ∷ Give 4 ∷ Give 5 ∷ Give 6
    ∷ Give 7 ∷ Give 8 ∷ Give 9 ∷ Give 10 ∷ Give 11 ∷ Give 12
    ∷ Give 13 ∷ Give 14 ∷ Give 15 ∷ Give 16
    ∷ []

-- Prepare, Vote, Sync to both, DoneAsk, Activate to both
abbrev pub create_lines : List Line
create_lines =
    node_1 2 (report.Own whole_ring None ∷ []) (0, 0) ∷ node_2 3 (report.Own [] None ∷ []) (0, 0)
    ∷ node_2 5 [] (1, 1) ∷ node_1 6 (report.Own whole_ring (Some 4000) ∷ []) (2, 2)
    ∷ node_1 7 [] (3, 3) ∷ arbiter_1 8 4
    ∷ node_1 9 [] (5, 5) ∷ arbiter_1 10 6
    ∷ node_1 11 [] (7, 8)
    ∷ node_1 12 (report.Promised 1 e1 ∷ []) (9, 9) ∷ node_2 13 (report.Promised 1 e1 ∷ []) (10, 10)
    ∷ node_1 15 [] (11, 11) ∷ arbiter_1 16 12
    ∷ node_1 17 [] (13, 14)
    ∷ node_1 18 (report.IsPrimary 1 e1 ∷ []) (15, 15) ∷ node_2 19 [] (16, 16)
    ∷ node_1 21 (report.Configured 1 e1 ∷ []) (0, 0)
    ∷ []

-- a write is committed once node 2 has it: lines 22 to 24
abbrev pub write_events : List Event
write_events = Do 1 (command.Write 1 (104 ∷ 105 ∷ [])) ∷ Give 17 ∷ Give 18 ∷ []

abbrev pub write_lines : List Line
write_lines =
    node_1 22 (report.Accepted 1 e1 1 ∷ []) (17, 17)
    ∷ node_2 23 (report.Accepted 1 e1 1 ∷ []) (18, 18)
    ∷ node_1 24 (report.Committed 1 e1 1 ∷ []) (0, 0)
    ∷ []

-- the primary moves: it promises first, then both; node 2 takes the entry from node 1: lines 25 to 45
abbrev pub swap_events : List Event
swap_events =
    Do 1 (command.Swap 1 2) ∷ Give 19 ∷ Give 20 ∷ Give 21 ∷ Give 22 ∷ Give 24 ∷ Give 25
    ∷ Give 26 ∷ Give 27 ∷ Give 28 ∷ Give 29 ∷ Give 31 ∷ Give 32 ∷ Give 30 ∷ Give 33
    ∷ Give 34 ∷ Give 35 ∷ Give 37 ∷ Give 36 ∷ Give 38 ∷ Give 39
    ∷ []

abbrev pub swap_lines : List Line
swap_lines =
    node_1 25 [] (19, 19) ∷ arbiter_1 26 20
    ∷ node_1 27 [] (21, 21) ∷ node_1 28 (report.Promised 1 e2 ∷ []) (22, 22)
    ∷ node_1 29 [] (23, 24) ∷ node_2 30 (report.Promised 1 e2 ∷ []) (25, 25)
    ∷ node_1 31 [] (26, 26) ∷ arbiter_1 32 27
    ∷ node_1 33 [] (28, 29)
    ∷ node_1 34 (report.Adopted 1 e2 1 ∷ []) (30, 30)
    ∷ node_2 35 [] (31, 31) ∷ node_1 36 [] (32, 32) ∷ node_2 37 (report.Adopted 1 e2 1 ∷ []) (33, 33)
    ∷ node_1 39 [] (34, 34) ∷ arbiter_1 40 35
    ∷ node_1 41 [] (36, 37)
    ∷ node_2 42 (report.IsPrimary 1 e2 ∷ []) (38, 38) ∷ node_1 43 [] (39, 39)
    ∷ node_1 45 (report.Configured 1 e2 ∷ []) (0, 0)
    ∷ []

-- then node 1 writes no more, and node 2 does; its firing sends the entry again
abbrev pub MovesThePrimary : Type 0
MovesThePrimary =
    print_of (create_events ++ write_events ++ swap_events
    ++ Do 1 (command.Write 1 (120 ∷ [])) ∷ Do 2 (command.Write 1 (121 ∷ [])) ∷ Fire 2 ∷ [])
    ≡ create_lines ++ write_lines ++ swap_lines
    ++ node_1 46 (report.Refused verb.Write reason.NotPrimary ∷ []) (0, 0)
    ∷ node_2 47 (report.Accepted 1 e2 2 ∷ []) (40, 40)
    ∷ node_2 48 [] (41, 42) ∷ []
