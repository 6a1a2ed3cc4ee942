-- Since when each reconfiguration that is under way has been seen.
use Rattle.std.specs.Prelude.{ℕ, ◌-◌, Bool, ◌&&◌, ◌==◌, List, Option, find, map, option_map, take, unwrap_or}
use Rattle.std.specs.Option.{option_map_or}
use Rattle.ring_points.specs.declared.unit.Epoch.{Epoch}
use Rattle.ring_points.specs.Epochs.{same_epoch}
use Rattle.unit_rules.specs.Reconfigs.{Reconfig, task_of}
use Rattle.state_lines.specs.declared.change_times.SeenChange.{SeenChange}

-- reconfigurations whose time is counted
abbrev pub most_timed_changes : ℕ
most_timed_changes = 256

abbrev pub is_change : ℕ → Epoch → SeenChange → Bool
is_change partition epoch c = c.partition == partition && same_epoch c.epoch epoch

-- the reading at which the reconfiguration was first seen, if it has been seen
abbrev pub since : ℕ → Epoch → List SeenChange → Option ℕ
since partition epoch seen = option_map (λ c. c.since) (find (is_change partition epoch) seen)

-- a reconfiguration that is under way at this reading: it was seen before, or is first seen now
abbrev pub seen_now : ℕ → List SeenChange → ℕ × Reconfig → SeenChange
seen_now now seen e =
    let epoch = (task_of e.1).epoch in
    record { partition = e.0; epoch = epoch; since = unwrap_or (since e.0 epoch seen) now }

-- what has been seen after a turn at this reading, in which these were under way
abbrev pub seen_after : ℕ → List (ℕ × Reconfig) → List SeenChange → List SeenChange
seen_after now reconfigs seen = map (seen_now now seen) (take most_timed_changes reconfigs)

-- for how many ticks the reconfiguration has been seen; 0 where it has not been
abbrev pub ticks_of : ℕ → ℕ → Epoch → List SeenChange → ℕ
ticks_of now partition epoch seen = option_map_or (λ first. now - first) (since partition epoch seen) 0
