-- What a process counts.
use Rattle.std.specs.Prelude.{ℕ, ◌==◌, List, Option, Some, None, position, replicate, slice_index, slice_set}
use Rattle.edge_io.specs.Plan.{counted}
use Rattle.door_lines.specs.declared.fault.Fault.{Fault}
use Rattle.door_lines.specs.declared.fault.Fault.TheVariants as fault
use Rattle.status_page.specs.declared.counters.Asker.{Asker}
use Rattle.status_page.specs.declared.counters.Asker.TheVariants as asker
use Rattle.status_page.specs.declared.counters.Counters.{Counters}
use Rattle.status_page.specs.declared.counters.Junk.{Junk}
use Rattle.status_page.specs.declared.counters.Junk.TheVariants as junk
use Rattle.status_page.specs.Kinds.{kind_numbers}

-- how many kinds of frames there are
abbrev pub kinds : ℕ
kinds = 33

abbrev pub fresh_counters : Counters
fresh_counters = record {
  sent = replicate kinds 0;
  received = replicate kinds 0;
  junk = replicate 2 0;
  records = 0;
  split_grants = 0;
  commands = replicate 3 0;
  refusals = replicate 3 0;
  lines = replicate 4 0;
  turns = 0;
  firings = 0;
  slow_turns = 0;
  longest_turn = 0;
  clients_dropped = 0;
  log_lines_dropped = 0;
}

-- one more at this place
abbrev pub counted_at : List ℕ → ℕ → List ℕ
counted_at counts place = slice_set counts place (counted (slice_index counts place))

abbrev pub counted_where : List ℕ → Option ℕ → List ℕ
counted_where counts None = counts
counted_where counts (Some place) = counted_at counts place

-- one more of this kind of frames
abbrev pub counted_kind : List ℕ → ℕ → List ℕ
counted_kind counts kind = counted_where counts (position (λ k. k == kind) kind_numbers)

abbrev pub place_of_asker : Asker → ℕ
place_of_asker asker.Door = 0
place_of_asker asker.Parent = 1
place_of_asker asker.Policy = 2

abbrev pub place_of_junk : Junk → ℕ
place_of_junk junk.Bytes = 0
place_of_junk junk.Seal = 1

abbrev pub place_of_fault : Fault → ℕ
place_of_fault fault.Line = 0
place_of_fault fault.NoSuch = 1
place_of_fault fault.Large = 2
place_of_fault fault.Busy = 3
