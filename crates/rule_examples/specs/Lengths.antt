-- Links with a length of their own.
use Rattle.std.specs.Prelude.{◌≡◌, ℕ, List, [], ◌∷◌, ◌++◌, Some, None}
use Rattle.ring_points.specs.Ranges.{whole_ring}
use Rattle.fabric_terms.specs.declared.command.Command.TheVariants as command
use Rattle.fabric_terms.specs.declared.event.Event.{Event}
use Rattle.fabric_terms.specs.declared.event.Event.TheVariants.{Give, Do}
use Rattle.fabric_terms.specs.declared.report.Report.TheVariants.{Own}
use Rattle.rule_examples.specs.Lines.{Line, start_node, says}
use Rattle.rule_examples.specs.Joins.{n1, n2, tick_both, joined_events, joined_lines, print_of}
use Rattle.rule_examples.specs.TakeOvers.{silence_events, silence_lines}

-- node 2 asks for a link of this length
abbrev pub greet_events : ℕ → List Event
greet_events length = start_node 1 0 ∷ start_node 2 0 ∷ Do 2 (command.LinkFor 1 length) ∷ Give 1 ∷ Give 2 ∷ []

abbrev pub greet_lines : ℕ → List Line
greet_lines fence =
    says 2 0 n1 0 (Own whole_ring None ∷ []) (0, 0)
    ∷ says 3 0 n2 0 (Own [] None ∷ []) (0, 0)
    ∷ says 4 0 n2 0 [] (1, 1)
    ∷ says 5 0 n1 0 (Own whole_ring (Some fence) ∷ []) (2, 2)
    ∷ says 6 0 n2 0 (Own [] (Some fence) ∷ []) (3, 3)
    ∷ []

-- both sides take the shorter length that is asked for
abbrev pub AgreesLength : Type 0
AgreesLength = print_of 1 (greet_events 1000) ≡ greet_lines 2000

-- and none that is longer than a node's longest
abbrev pub CutsLength : Type 0
CutsLength = print_of 1 (greet_events 9000) ≡ greet_lines 4000

-- the heir of a link of 1000 ticks waits 2043 ticks
abbrev pub TakesOverSooner : Type 0
TakesOverSooner =
    print_of 1 (joined_events (command.LinkFor 1 1000) ++ silence_events (tick_both 1000 1100) (tick_both 2042 3142) (tick_both 1 3143))
    ≡ joined_lines 2000 ++ silence_lines 1100 3143
