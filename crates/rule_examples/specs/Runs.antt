-- Runs of the whole product: a partition is created, written and lost.
use Rattle.std.specs.Prelude.{◌≡◌, ℕ, List, [], ◌∷◌, ◌++◌, reverse, None}
use Rattle.ring_points.specs.declared.who.Who.{Who}
use Rattle.ring_points.specs.Ranges.{whole_ring}
use Rattle.ring_points.specs.Whos.{node_instance}
use Rattle.fabric_terms.specs.declared.command.Command.TheVariants as command
use Rattle.fabric_terms.specs.declared.config.FabricConfig.{FabricConfig}
use Rattle.fabric_terms.specs.declared.event.Event.{Event}
use Rattle.fabric_terms.specs.declared.event.Event.TheVariants.{Give, Do}
use Rattle.fabric_terms.specs.declared.report.Report.{Report}
use Rattle.fabric_terms.specs.declared.report.Report.TheVariants as report
use Rattle.fabric_terms.specs.declared.report.Reason.TheVariants as reason
use Rattle.fabric_terms.specs.declared.report.Verb.TheVariants as verb
use Rattle.world_rules.specs.Runs.{run_of}
use Rattle.rule_examples.specs.Lines.{Line, config_of, node_entry, interval, start_node, start_arbiter, on_lines, lines_of, says, arbiter_says}
use Rattle.unit_rules.specs.Units.{units}
use Rattle.rule_examples.specs.Values.{epoch, e1}

-- one node, one arbitrator
abbrev pub solo : FabricConfig
solo = record (config_of 1 (node_entry 1 0 ∷ [])) { arbiters = (1, []) ∷ [] }

-- what these events print on the lines from 2 on
abbrev pub print_of : List Event → List Line
print_of events = reverse (lines_of (run_of units solo (on_lines 2 events [])))

abbrev pub n1 : Who
n1 = node_instance 1 1

-- node 1 tells this, and sends frames with these first and last numbers
abbrev pub tells : ℕ → List Report → ℕ × ℕ → Line
tells line reports sent = says line 0 n1 0 reports sent

-- the arbitrator answers with frame k
abbrev pub arbiter_sends : ℕ → ℕ → Line
arbiter_sends line k = arbiter_says line 0 1 (k, k)

-- "hello" and "again"

abbrev pub hello : List ℕ
hello = 104 ∷ 101 ∷ 108 ∷ 108 ∷ 111 ∷ []

abbrev pub again : List ℕ
again = 97 ∷ 103 ∷ 97 ∷ 105 ∷ 110 ∷ []

-- partition 1 is created with one replica: lines 2 to 14
abbrev pub created_events : List Event
created_events =
    start_node 1 0 ∷ start_arbiter 1 ∷ Do 1 (command.Create 1 1)
    ∷ Give 1 ∷ Give 2 ∷ Give 3 ∷ Give 4 ∷ Give 5 ∷ Give 6 ∷ Give 7 ∷ Give 8 ∷ Give 9 ∷ Give 10
    ∷ []

-- Prepare, Vote, Sync, DoneAsk, Activate: frames 1, 3, 5, 7, 9, each with its answer
abbrev pub created_lines : List Line
created_lines =
    tells 2 (report.Own whole_ring None ∷ []) (0, 0)
    ∷ tells 4 [] (1, 1) ∷ arbiter_sends 5 2
    ∷ tells 6 [] (3, 3) ∷ arbiter_sends 7 4
    ∷ tells 8 [] (5, 5) ∷ tells 9 (report.Promised 1 e1 ∷ []) (6, 6)
    ∷ tells 10 [] (7, 7) ∷ arbiter_sends 11 8
    ∷ tells 12 [] (9, 9) ∷ tells 13 (report.IsPrimary 1 e1 ∷ []) (10, 10)
    ∷ tells 14 (report.Configured 1 e1 ∷ []) (0, 0)
    ∷ []

-- the first entry is committed at once
abbrev pub first_committed : Line
first_committed = tells 15 (report.Accepted 1 e1 1 ∷ report.Committed 1 e1 1 ∷ []) (0, 0)

-- and it is written

abbrev pub create_events : List Event
create_events = created_events ++ Do 1 (command.Write 1 hello) ∷ []

abbrev pub create_lines : List Line
create_lines = created_lines ++ first_committed ∷ []

abbrev pub CreatesAndWrites : Type 0
CreatesAndWrites = print_of create_events ≡ create_lines

-- the partition is known then, where its ring point is asked for
abbrev pub ListsUnits : Type 0
ListsUnits =
    print_of (create_events
    ++ Do 1 (command.Units (interval 0 18446744073709551615))
    ∷ Do 1 (command.Units (interval 281474976710656 281474976710656))
    ∷ Do 1 (command.Units (interval 281474976710657 18446744073709551615)) ∷ [])
    ≡ create_lines
    ++ tells 16 (report.UnitList (1 ∷ []) ∷ []) (0, 0)
    ∷ tells 17 (report.UnitList (1 ∷ []) ∷ []) (0, 0)
    ∷ tells 18 (report.UnitList [] ∷ []) (0, 0) ∷ []

-- it exists then; another has no primary here, and no place for three replicas
abbrev pub RefusesMore : Type 0
RefusesMore =
    print_of (create_events
    ++ Do 1 (command.Create 1 1) ∷ Do 1 (command.Write 2 (120 ∷ []))
    ∷ Do 1 (command.Create 2 3) ∷ Give 11 ∷ Give 12 ∷ [])
    ≡ create_lines
    ++ tells 16 (report.Refused verb.Create reason.Exists ∷ []) (0, 0)
    ∷ tells 17 (report.Refused verb.Write reason.NotPrimary ∷ []) (0, 0)
    ∷ tells 18 [] (11, 11) ∷ arbiter_sends 19 12
    ∷ tells 20 (report.Refused verb.Create (reason.TooFew 1) ∷ []) (0, 0) ∷ []

-- the partition goes on after a loss with what node 1 has, in an epoch of a greater data loss number
abbrev pub LosesAndGoesOn : Type 0
LosesAndGoesOn =
    print_of (create_events
    ++ Do 1 (command.Lose 1 1)
    ∷ Give 11 ∷ Give 12 ∷ Give 13 ∷ Give 14 ∷ Give 15 ∷ Give 16 ∷ Give 17 ∷ Give 18 ∷ Give 19 ∷ Give 20 ∷ Give 21 ∷ Give 22
    ∷ Do 1 (command.Write 1 again) ∷ [])
    ≡ create_lines
    ++ tells 16 [] (11, 11) ∷ arbiter_sends 17 12
    ∷ tells 18 [] (13, 13) ∷ tells 19 (report.Promised 1 (epoch 1 1) ∷ []) (14, 14)
    ∷ tells 20 [] (15, 15) ∷ arbiter_sends 21 16
    ∷ tells 22 [] (17, 17) ∷ tells 23 (report.Adopted 1 (epoch 1 1) 1 ∷ []) (18, 18)
    ∷ tells 24 [] (19, 19) ∷ arbiter_sends 25 20
    ∷ tells 26 [] (21, 21) ∷ tells 27 (report.IsPrimary 1 (epoch 1 1) ∷ []) (22, 22)
    ∷ tells 28 (report.Configured 1 (epoch 1 1) ∷ []) (0, 0)
    ∷ tells 29 (report.Accepted 1 (epoch 1 1) 2 ∷ report.Committed 1 (epoch 1 1) 2 ∷ []) (0, 0) ∷ []
