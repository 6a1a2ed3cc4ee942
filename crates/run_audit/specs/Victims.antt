-- Holders that were taken over, and the one that is named first.
use Rattle.std.specs.Prelude.{◌≡◌, Bool, true, ◌&&◌, ◌||◌, nat_lt, Option}
use Rattle.ring_points.specs.Ranges.{in_ranges}
use Rattle.ring_points.specs.Whos.{same_who}
use Rattle.run_audit.specs.declared.overlap.LiveHolder.{LiveHolder}
use Rattle.run_audit.specs.declared.take_overs.TakeOvers.{TakeOvers}
use Rattle.run_audit.specs.declared.victim.Victim.{Victim}
use Rattle.run_audit.specs.Breaches.{is_below}
use Rattle.run_audit.specs.Least.{lesser_in, IsLeast}
use Rattle.run_audit.specs.Owners.{taken_at}

-- c is named before d: by the instance, then by the point
abbrev pub is_named_before : Victim → Victim → Bool
is_named_before c d = is_below c.who d.who || (same_who c.who d.who && nat_lt c.point d.point)

abbrev pub lesser_victim : Option Victim → Option Victim → Option Victim
lesser_victim best found = lesser_in is_named_before best found

abbrev pub IsLeastVictim : (Victim → Type 0) → Option Victim → Type 0
IsLeastVictim P o = IsLeast is_named_before P o

-- it is this holder with a point of its ranges, and the holder was taken over
pub record IsVictim (taken : TakeOvers) (h : LiveHolder) (c : Victim) : Type 0 where
  pub is : c.who ≡ h.who
  pub over : taken_at h.who taken ≡ true
  pub has : in_ranges c.point h.ranges.now ≡ true
