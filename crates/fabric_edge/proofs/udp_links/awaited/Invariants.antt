use Rattle.std.proofs.Common.{◌≡◌, ◌≤◌, length, IfOk, IfSome}
use Rattle.fabric_edge.proofs.udp_links.awaited.Given as goal

abbrev pub invariant-loop : goal.invariant-loop
invariant-loop g l = IfOk l.found (λ answer. IfSome answer (λ n. n ≤ length l.fn.into)) × (length l.into ≡ length l.fn.into)
