use Rattle.std.proofs.Common.{◌≡◌, ◌≤◌, true, Contains, length, take, drop, vec_len, vec_capacity}
use Rattle.ring_points.specs.declared.who.Who.{Who}
use Rattle.run_audit.specs.Clocks.{AreRows, whos_of, whos_rise}
use Rattle.run_audit.proofs.Left.{Knows}
use Rattle.run_audit.proofs.holders.holders_of.Given as goal

abbrev pub invariant-loop-clock : goal.invariant-loop-clock
invariant-loop-clock l = record {
  room : length l.clocks ≤ vec_capacity l.rows;
  few : vec_len l.rows ≤ l.clock-index;
  left : (w : Who) → Contains l.left w → Contains l.lived w;
  rows : AreRows l.owners l.clocks (take l.clock-index l.clocks) l.lived l.actor l.rows.items;
  known : whos_rise (whos_of l.clocks) ≡ true → whos_rise l.lived ≡ true → Knows (drop l.clock-index l.clocks) l.lived l.left l.actor l.rows.items;
}
