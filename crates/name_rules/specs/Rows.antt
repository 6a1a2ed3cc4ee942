-- Names with their values, row by row.
use Rattle.std.specs.Prelude.{ℕ, List}
use Rattle.std.specs.FinMap.{from_sorted}
use Rattle.name_rules.specs.Names.{NameMap}

abbrev pub Rows : Type 0
Rows = List (List ℕ × List ℕ)

-- the map that rows in their order are
abbrev pub map_of : Rows → NameMap
map_of rows = from_sorted rows
