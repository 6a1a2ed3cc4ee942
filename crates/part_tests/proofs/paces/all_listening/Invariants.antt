use Rattle.part_tests.specs.Listeners.{AllListen}
use Rattle.part_tests.proofs.paces.all_listening.Given as goal

abbrev pub invariant-loop-actor : goal.invariant-loop-actor
invariant-loop-actor g l = AllListen l.actor l.links.opened
