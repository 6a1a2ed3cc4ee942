-- Bytes up to a sign and behind it, and so the lines of FILE.
use Rattle.std.specs.Prelude.{ℕ, ◌+◌, Bool, List, [], Option, Some, None, ◌==◌, drop, position, take}
use Rattle.std.specs.List.{list_all}

-- what stands before the place `at`, and behind it; all of it and nothing, if there is none
abbrev pub cut_at : List ℕ → Option ℕ → List ℕ × List ℕ
cut_at bytes None = (bytes, [])
cut_at bytes (Some at) = (take at bytes, drop (at + 1) bytes)

-- cut at the first of such a sign, which is in neither part
abbrev pub cut_by : ℕ → List ℕ → List ℕ × List ℕ
cut_by sign bytes = cut_at bytes (position (λ b. b == sign) bytes)

abbrev pub first_line : List ℕ → List ℕ × List ℕ
first_line bytes = cut_by 10 bytes

-- the line of the configuration, that of the service, and what stands behind both
abbrev pub config_line : List ℕ → List ℕ
config_line file = (first_line file).0

abbrev pub service_line : List ℕ → List ℕ
service_line file = (first_line (first_line file).1).0

abbrev pub behind : List ℕ → List ℕ
behind file = (first_line (first_line file).1).1

-- behind both there are line feeds alone
abbrev pub has_two : List ℕ → Bool
has_two file = list_all (λ b. b == 10) (behind file)

-- how many bytes a line of FILE has at most
abbrev pub most_file_line : ℕ
most_file_line = 65536
