-- A point is found, and a node joins through a member that does not hold its point.
use Rattle.std.specs.Prelude.{◌≡◌, ℕ, List, [], ◌∷◌, ◌++◌, reverse, None}
use Rattle.ring_points.specs.declared.point.Point.{Point}
use Rattle.ring_points.specs.declared.who.Who.{Who}
use Rattle.ring_points.specs.Ranges.{whole_ring}
use Rattle.ring_points.specs.Whos.{node_instance}
use Rattle.fabric_terms.specs.declared.command.Command.TheVariants as command
use Rattle.fabric_terms.specs.declared.config.FabricConfig.{FabricConfig}
use Rattle.fabric_terms.specs.declared.event.Event.{Event}
use Rattle.fabric_terms.specs.declared.event.Event.TheVariants.{Give, Do}
use Rattle.fabric_terms.specs.declared.report.Report.TheVariants.{Own, Found}
use Rattle.rule_examples.specs.Lines.{Line, half, config_of, node_entry, start_node, on_lines, lines_from, says}
use Rattle.rule_examples.specs.Joins.{n1, n2, joined_events, joined_lines, print_of}

abbrev pub point : ℕ → Point
point p = record { 0 = p }

-- node 1 asks node 2, which holds the point
abbrev pub FindsPeer : Type 0
FindsPeer =
    print_of 1 (joined_events (command.Link 1) ++ Do 1 (command.Find (point half)) ∷ Give 14 ∷ Give 15 ∷ [])
    ≡ joined_lines 4000
    ++ says 21 100 n1 100 [] (14, 14)
    ∷ says 22 100 n2 100 [] (15, 15)
    ∷ says 23 100 n1 100 (Found (point half) n2 ∷ []) (0, 0)
    ∷ []

-- a node finds its own points by itself
abbrev pub FindsItself : Type 0
FindsItself =
    reverse (lines_from (config_of 1 (node_entry 1 0 ∷ [])) (on_lines 2 (start_node 1 0 ∷ Do 1 (command.Find (point 255)) ∷ []) []))
    ≡ says 2 0 n1 0 (Own whole_ring None ∷ []) (0, 0) ∷ says 3 0 n1 0 (Found (point 255) n1 ∷ []) (0, 0) ∷ []

-- a third node, in the half of node 2
abbrev pub trio : FabricConfig
trio = config_of 1 (node_entry 1 0 ∷ node_entry 2 half ∷ node_entry 3 8070450532247928832 ∷ [])

abbrev pub n3 : Who
n3 = node_instance 3 1

-- Node 3 asks node 1, which sends the search on to node 2 and not back; node 3 then greets node 2.
abbrev pub through_events : List Event
through_events = start_node 3 0 ∷ Do 3 (command.Join 1) ∷ Give 14 ∷ Give 15 ∷ Give 16 ∷ []

abbrev pub through_lines : List Line
through_lines =
    says 21 100 n3 0 (Own [] None ∷ []) (0, 0)
    ∷ says 22 100 n3 0 [] (14, 14)
    ∷ says 23 100 n1 100 [] (15, 15)
    ∷ says 24 100 n2 100 [] (16, 16)
    ∷ says 25 100 n3 0 (Found (point 8070450532247928832) n2 ∷ []) (17, 17)
    ∷ []

abbrev pub JoinsThrough : Type 0
JoinsThrough = reverse (lines_from trio (on_lines 2 (joined_events (command.Link 1) ++ through_events) [])) ≡ joined_lines 4000 ++ through_lines
