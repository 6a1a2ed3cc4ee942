use Rattle.edge_io.specs.Arrivals.{IsListening}
use Rattle.part_tests.proofs.groups.make_all.Given as goal

abbrev pub invariant-loop-call : goal.invariant-loop-call
invariant-loop-call g l = IsListening 7 (g.L.Links.opened l.outside.links.now)
