-- The limits that several crates share. The constants of the code have the same numbers, written apart.
use Rattle.std.specs.Prelude.{ℕ}

-- a reading of a clock, and the true time of a schedule, in ticks
abbrev pub most_reading : ℕ
most_reading = 1000000000000000

-- a lease, in ticks
abbrev pub least_lease : ℕ
least_lease = 10

abbrev pub most_lease : ℕ
most_lease = 1000000000

-- a clock's drift, in ticks per thousand, and its grain, in ticks
abbrev pub most_drift : ℕ
most_drift = 100

abbrev pub most_grain : ℕ
most_grain = 1000000

-- nodes of a configuration, and the number of a node
abbrev pub most_nodes : ℕ
most_nodes = 64

abbrev pub most_node_number : ℕ
most_node_number = 999

abbrev pub most_domains : ℕ
most_domains = 64

abbrev pub most_arbiters : ℕ
most_arbiters = 9

-- rounds of heirs about one victim
abbrev pub most_rounds : ℕ
most_rounds = 8

-- intervals of a range set
abbrev pub most_intervals : ℕ
most_intervals = 32

-- hops of a search
abbrev pub most_hops : ℕ
most_hops = 64

-- a number of 4 bytes: of an instance, a session, a version, a flight, a frame, an entry, a part of an epoch
abbrev pub most_counter : ℕ
most_counter = 4294967295

abbrev pub most_partitions : ℕ
most_partitions = 65536

-- members of a partition's configuration
abbrev pub most_members : ℕ
most_members = 7

-- entries of a replica's log
abbrev pub most_log_entries : ℕ
most_log_entries = 100000

-- bytes of a write, of a name and of its value
abbrev pub most_write : ℕ
most_write = 512

abbrev pub most_name : ℕ
most_name = 64

abbrev pub most_name_value : ℕ
most_name_value = 400

-- names of one answer
abbrev pub most_listed_names : ℕ
most_listed_names = 64

-- bytes of a frame
abbrev pub most_frame : ℕ
most_frame = 1200

-- messages and reports of a ring's step, and reports of a node's
abbrev pub most_messages : ℕ
most_messages = 192

abbrev pub most_ring_reports : ℕ
most_ring_reports = 64

abbrev pub most_step_reports : ℕ
most_step_reports = 72
