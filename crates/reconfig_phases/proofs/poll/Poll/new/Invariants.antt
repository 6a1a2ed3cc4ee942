use Rattle.std.proofs.Common.{◌≡◌, take}
use Rattle.unit_rules.specs.Polls.{poll_of}
use Rattle.reconfig_phases.proofs.poll.Poll.new.Given as goal

abbrev pub invariant-loop-actor : goal.invariant-loop-actor
invariant-loop-actor g l = l.entries.items ≡ poll_of (take l.actor-index l.actors)
