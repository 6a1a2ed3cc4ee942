-- A node falls silent, and its peer takes over.
use Rattle.std.specs.Prelude.{◌≡◌, ℕ, List, [], ◌∷◌, ◌++◌, Some, None}
use Rattle.ring_points.specs.Ranges.{whole_ring}
use Rattle.ring_points.specs.Whos.{node_instance}
use Rattle.fabric_terms.specs.declared.command.Command.TheVariants as command
use Rattle.fabric_terms.specs.declared.event.Event.{Event}
use Rattle.fabric_terms.specs.declared.event.Event.TheVariants.{Stop, Fire, Give, Do}
use Rattle.fabric_terms.specs.declared.report.Report.TheVariants.{Own, Accused, Discharged, Heir, TookOver, LeftRing, Stopped}
use Rattle.fabric_terms.specs.declared.report.Why.TheVariants.{Fence}
use Rattle.rule_examples.specs.Lines.{Line, start_node, start_arbiter, says, arbiter_says}
use Rattle.rule_examples.specs.Joins.{n1, n2, far_half, near_half, tick_both, joined_events, joined_lines, print_of}

-- Node 1 accuses node 2 after the first tick, two arbitrators grant, and node 1 fires before and at the time from which
-- it is ripe: lines 21 to 32.
abbrev pub silence_events : Event → Event → Event → List Event
silence_events silence wait last =
    start_arbiter 1 ∷ start_arbiter 2
    ∷ silence
    ∷ Fire 1 ∷ Give 14 ∷ Give 15 ∷ Give 17 ∷ Give 18
    ∷ wait
    ∷ Fire 1
    ∷ last
    ∷ Fire 1
    ∷ []

-- accused at one reading, ripe at another
abbrev pub silence_lines : ℕ → ℕ → List Line
silence_lines accused ripe =
    says 24 accused n1 accused (Accused n2 ∷ []) (14, 16)
    ∷ arbiter_says 25 accused 1 (17, 17)
    ∷ arbiter_says 26 accused 2 (18, 18)
    ∷ says 28 accused n1 accused (Heir n2 ripe ∷ Own near_half None ∷ []) (0, 0)
    ∷ says 32 ripe n1 ripe (TookOver n2 far_half ∷ Own whole_ring None ∷ []) (0, 0)
    ∷ []

-- the heir waits 4083 ticks, and takes over the half of its record
abbrev pub TakesOver : Type 0
TakesOver =
    print_of 1 (joined_events (command.Link 1) ++ silence_events (tick_both 3000 3100) (tick_both 4082 7182) (tick_both 1 7183))
    ≡ joined_lines 4000 ++ silence_lines 3100 7183

-- A Renew of the silent node is acknowledged late: its lease runs from the Renew's stamp, so it leaves before its heir
-- is ripe.
abbrev pub late_events : List Event
late_events =
    start_arbiter 1 ∷ start_arbiter 2
    ∷ tick_both 2000 2100
    ∷ Fire 2 ∷ Give 14
    ∷ tick_both 1000 3100
    ∷ Fire 1 ∷ Give 16 ∷ Give 17 ∷ Give 19 ∷ Give 20 ∷ Give 15
    ∷ tick_both 3000 6100
    ∷ Fire 2
    ∷ tick_both 1083 7183
    ∷ Fire 1
    ∷ []

abbrev pub late_lines : List Line
late_lines =
    says 24 2100 n2 2100 [] (14, 14)
    ∷ says 25 2100 n1 2100 [] (15, 15)
    ∷ says 27 3100 n1 3100 (Accused n2 ∷ []) (16, 18)
    ∷ arbiter_says 28 3100 1 (19, 19)
    ∷ arbiter_says 29 3100 2 (20, 20)
    ∷ says 31 3100 n1 3100 (Heir n2 7183 ∷ Own near_half None ∷ []) (0, 0)
    ∷ says 32 3100 n2 3100 (Own far_half (Some 6100) ∷ []) (0, 0)
    ∷ says 34 6100 n2 6100 (LeftRing Fence ∷ Own [] None ∷ []) (0, 0)
    ∷ says 36 7183 n1 7183 (TookOver n2 far_half ∷ Own whole_ring None ∷ []) (0, 0)
    ∷ []

abbrev pub LeavesBefore : Type 0
LeavesBefore = print_of 1 (joined_events (command.Link 1) ++ late_events) ≡ joined_lines 4000 ++ late_lines

-- Node 2 never saw the Offer. Node 1 has no record of it, so it is discharged and takes over nothing; node 2 goes on
-- owning the ring.
abbrev pub unseen_events : List Event
unseen_events =
    start_node 1 0 ∷ start_node 2 0 ∷ Do 2 (command.Link 1) ∷ Give 1
    ∷ start_arbiter 1 ∷ start_arbiter 2
    ∷ tick_both 3000 3000
    ∷ Fire 1 ∷ Give 3 ∷ Give 4 ∷ Give 6 ∷ Give 7
    ∷ []

abbrev pub unseen_lines : List Line
unseen_lines =
    says 2 0 n1 0 (Own [] None ∷ []) (0, 0)
    ∷ says 3 0 n2 0 (Own whole_ring None ∷ []) (0, 0)
    ∷ says 4 0 n2 0 [] (1, 1)
    ∷ says 5 0 n1 0 (Own [] (Some 4000) ∷ []) (2, 2)
    ∷ says 9 3000 n1 3000 (Accused n2 ∷ []) (3, 5)
    ∷ arbiter_says 10 3000 1 (6, 6)
    ∷ arbiter_says 11 3000 2 (7, 7)
    ∷ says 13 3000 n1 3000 (Discharged n2 ∷ Own [] None ∷ []) (0, 0)
    ∷ []

abbrev pub TakesNothing : Type 0
TakesNothing = print_of 2 unseen_events ≡ unseen_lines

-- Each accuses the other. One arbitrator grants to the one, one to the other, and both then refuse whom they have heard
-- accused: nobody gets a majority, and both leave at their fences.
abbrev pub mutual_events : List Event
mutual_events =
    start_arbiter 1 ∷ start_arbiter 2
    ∷ tick_both 3000 3100
    ∷ Fire 1 ∷ Fire 2
    ∷ Give 14 ∷ Give 18 ∷ Give 17 ∷ Give 15
    ∷ Give 20 ∷ Give 23 ∷ Give 21 ∷ Give 22
    ∷ tick_both 1000 4100
    ∷ Fire 1 ∷ Fire 2
    ∷ []

abbrev pub mutual_lines : List Line
mutual_lines =
    says 24 3100 n1 3100 (Accused n2 ∷ []) (14, 16)
    ∷ says 25 3100 n2 3100 (Accused n1 ∷ []) (17, 19)
    ∷ arbiter_says 26 3100 1 (20, 20)
    ∷ arbiter_says 27 3100 2 (21, 21)
    ∷ arbiter_says 28 3100 1 (22, 22)
    ∷ arbiter_says 29 3100 2 (23, 23)
    ∷ says 35 4100 n1 4100 (LeftRing Fence ∷ Own [] None ∷ []) (0, 0)
    ∷ says 36 4100 n2 4100 (LeftRing Fence ∷ Own [] None ∷ []) (0, 0)
    ∷ []

abbrev pub BothLeave : Type 0
BothLeave = print_of 1 (joined_events (command.Link 1) ++ mutual_events) ≡ joined_lines 4000 ++ mutual_lines

-- the first node begins with the ring at its first start alone
abbrev pub RestartsEmpty : Type 0
RestartsEmpty =
    print_of 1 (start_node 1 0 ∷ Stop 1 ∷ start_node 1 0 ∷ [])
    ≡ says 2 0 n1 0 (Own whole_ring None ∷ []) (0, 0)
    ∷ says 3 0 n1 0 (Stopped ∷ []) (0, 0)
    ∷ says 4 0 (node_instance 1 2) 0 (Own [] None ∷ []) (0, 0)
    ∷ []
