use Rattle.std.proofs.Common.{◌≡◌, ℕ, ◌<◌, length, None}
use Rattle.ring_rules.specs.Slots.{slot_at}
use Rattle.link_core.proofs.links.again.free_each.Given as goal

abbrev pub invariant-loop-i : goal.invariant-loop-i
invariant-loop-i l = record {
  count : length l.slots ≡ 16;
  free : (k : ℕ) → k < l.i → slot_at k l.slots ≡ None;
}
