-- The limits of a row of partitions. The constants of the code have the same numbers, written apart.
use Rattle.std.specs.Prelude.{ℕ}

abbrev pub most_row_records : ℕ
most_row_records = 4

abbrev pub most_row_reports : ℕ
most_row_reports = 4
