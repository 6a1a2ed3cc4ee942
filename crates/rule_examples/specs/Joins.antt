-- A node joins a ring of one, and gets the half that is nearer to it.
use Rattle.std.specs.Prelude.{◌≡◌, ℕ, ◌+◌, List, [], ◌∷◌, ◌++◌, reverse, Some, None}
use Rattle.ring_points.specs.declared.interval.Interval.{Interval}
use Rattle.ring_points.specs.declared.who.Who.{Who}
use Rattle.ring_points.specs.Ranges.{whole_ring}
use Rattle.ring_points.specs.Whos.{node_instance}
use Rattle.fabric_terms.specs.declared.command.Command.{Command}
use Rattle.fabric_terms.specs.declared.command.Command.TheVariants as command
use Rattle.fabric_terms.specs.declared.event.Event.{Event}
use Rattle.fabric_terms.specs.declared.event.Event.TheVariants.{Tick, Fire, Give, Do}
use Rattle.fabric_terms.specs.declared.report.Report.TheVariants.{Own, Gave, Took, LeftRing}
use Rattle.fabric_terms.specs.declared.report.Why.TheVariants.{Fence}
use Rattle.rule_examples.specs.Lines.{Line, duo, interval, start_node, on_lines, lines_from, says}

abbrev pub n1 : Who
n1 = node_instance 1 1

abbrev pub n2 : Who
n2 = node_instance 2 1

-- the points that are nearer to half way round than to 0, and the rest
abbrev pub far_half : List Interval
far_half = interval 4611686018427387905 13835058055282163711 ∷ []

abbrev pub near_half : List Interval
near_half = interval 0 4611686018427387904 ∷ interval 13835058055282163712 18446744073709551615 ∷ []

-- true time and both clocks
abbrev pub tick_both : ℕ → ℕ → Event
tick_both advance reading = Tick advance ((1, reading) ∷ (2, reading) ∷ [])

-- node 2 asks for a link by this command, gets it, wants ranges, and gets its flight: lines 2 to 18
abbrev pub join_events : Command → List Event
join_events link =
    start_node 1 0 ∷ start_node 2 0 ∷ Do 2 link
    ∷ Give 1 ∷ Give 2 ∷ Give 3 ∷ Give 4 ∷ Give 5
    ∷ tick_both 100 100
    ∷ Fire 2 ∷ Give 6 ∷ Give 7 ∷ Fire 1 ∷ Give 8 ∷ Give 9 ∷ Fire 1 ∷ Give 11
    ∷ []

-- with fences at this reading, until the acknowledgements of reading 100
abbrev pub join_lines : ℕ → List Line
join_lines fence =
    says 2 0 n1 0 (Own whole_ring None ∷ []) (0, 0)
    ∷ says 3 0 n2 0 (Own [] None ∷ []) (0, 0)
    ∷ says 4 0 n2 0 [] (1, 1)
    ∷ says 5 0 n1 0 (Own whole_ring (Some fence) ∷ []) (2, 2)
    ∷ says 6 0 n2 0 (Own [] (Some fence) ∷ []) (3, 3)
    ∷ says 7 0 n1 0 [] (4, 4)
    ∷ says 8 0 n2 0 [] (5, 5)
    ∷ says 11 100 n2 100 [] (6, 6)
    ∷ says 12 100 n1 100 [] (7, 7)
    ∷ says 13 100 n2 100 (Own [] (Some (fence + 100)) ∷ []) (0, 0)
    ∷ says 14 100 n1 100 [] (8, 8)
    ∷ says 15 100 n2 100 [] (9, 9)
    ∷ says 16 100 n1 100 (Own whole_ring (Some (fence + 100)) ∷ []) (0, 0)
    ∷ says 17 100 n1 100 (Gave n2 1 far_half ∷ Own near_half (Some (fence + 100)) ∷ []) (10, 11)
    ∷ says 18 100 n2 100 (Took n1 1 far_half ∷ Own far_half (Some (fence + 100)) ∷ []) (0, 0)
    ∷ []

-- the next Renew of node 2 confirms the flight: lines 19 and 20
abbrev pub confirm_events : List Event
confirm_events = Fire 2 ∷ Give 12 ∷ []

abbrev pub confirm_lines : List Line
confirm_lines = says 19 100 n2 100 [] (12, 12) ∷ says 20 100 n1 100 [] (13, 13) ∷ []

abbrev pub joined_events : Command → List Event
joined_events link = join_events link ++ confirm_events

abbrev pub joined_lines : ℕ → List Line
joined_lines fence = join_lines fence ++ confirm_lines

-- what these events print on the lines from 2 on
abbrev pub print_of : ℕ → List Event → List Line
print_of first events = reverse (lines_from (duo first) (on_lines 2 events []))

-- node 2 has joined, and owns its half
abbrev pub Joins : Type 0
Joins = print_of 1 (joined_events (command.Link 1)) ≡ joined_lines 4000

-- A flight that comes again is not taken again: not while the node lives, and not past its fence, where the node leaves.
abbrev pub TakesOnce : Type 0
TakesOnce =
    print_of 1 (join_events (command.Link 1) ++ Give 11 ∷ tick_both 4000 4100 ∷ Give 11 ∷ [])
    ≡ join_lines 4000 ++ says 21 4100 n2 4100 (LeftRing Fence ∷ Own [] None ∷ []) (0, 0) ∷ []
