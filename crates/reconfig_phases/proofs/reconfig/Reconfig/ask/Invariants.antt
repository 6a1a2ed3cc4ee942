use Rattle.std.proofs.Common.{drop}
use Rattle.reconfig_phases.specs.Views.{reconfig_of}
use Rattle.reconfig_phases.proofs.Asked.{IsAsking}
use Rattle.reconfig_phases.proofs.reconfig.Reconfig.ask.Given as goal

abbrev pub invariant-loop-actor : goal.invariant-loop-actor
invariant-loop-actor l = IsAsking (reconfig_of l.self) l.actors (drop l.actor-index l.actors) l.fn.out l.out
