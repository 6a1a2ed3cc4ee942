-- The limits of a step of the ring at a node. Each follows from those of its rows.
use Rattle.std.specs.Prelude.{ℕ, ◌+◌, ◌*◌}
use Rattle.ring_rules.specs.Rings.{slot_count}
use Rattle.link_core.specs.Limits.{most_row_messages, most_row_notes}

-- near nodes on each side, and how many of them a firing greets
abbrev pub most_near : ℕ
most_near = 4

abbrev pub most_greetings : ℕ
most_greetings = 2 * most_near

-- messages and reports of a row of links: those of the links, and one for each note
abbrev pub most_slot_messages : ℕ
most_slot_messages = most_row_messages + most_row_notes

abbrev pub most_slot_reports : ℕ
most_slot_reports = most_row_notes

-- messages of a firing, which has more than other steps: of each slot, of a freeze that is ready, and of the search
abbrev pub most_fired_messages : ℕ
most_fired_messages = slot_count * most_slot_messages + 1 + most_greetings

-- reports of a firing
abbrev pub most_fired_reports : ℕ
most_fired_reports = slot_count * most_slot_reports + 1 + 1
