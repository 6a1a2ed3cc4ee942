-- Ticks, readings and frames' numbers are read exactly where they are spelled.
use Rattle.std.proofs.Common.{lit<, ◌≡◌, ℕ, ◌+◌, ◌≤◌, List, length, Some, arith, ap, length-append}
use Rattle.std.specs.Prelude.{codes, decimal}
use Rattle.fabric_terms.specs.Ranges.{IsNumber, IsPartition, most}
use Rattle.text_fields.specs.Fields.{after_word, last}
use Rattle.text_fields.specs.Inverses.{IsField, IsRest, EndsNumber}
use Rattle.text_fields.proofs.FieldLaws.{word_found, last_is}
use Rattle.text_fields.proofs.NumberLaws.{number_up_to}
use Rattle.line_format.specs.Commands.{partition_at, most_partition}
use Rattle.line_format.specs.Lines.{count_at}

pub count_is : IsField count_at IsNumber decimal EndsNumber
count_is = number_up_to most (lit< tt)

pub last_count_is : IsRest (last count_at) IsNumber decimal
last_count_is = last_is count_is tt

pub partition_is : IsField partition_at IsPartition decimal EndsNumber
partition_is = number_up_to most_partition (lit< tt)

-- what follows a partition is not longer than what it stands in
pub behind_partition : (bytes : List ℕ) (p : ℕ) (rest : List ℕ) → partition_at bytes ≡ Some (p, rest) → length rest ≤ length bytes
behind_partition bytes p rest e =
    let f = partition_is.found bytes (p, rest) e in
    omega (arith, ap length f.1, length-append (decimal p) rest)

-- what follows a comma is shorter by a byte
pub behind_comma : (bytes rest : List ℕ) → after_word (codes ",") bytes ≡ Some rest → length bytes ≡ length rest + 1
behind_comma bytes rest e = omega (arith, ap length (word_found (codes ",") bytes rest e), length-append (codes ",") rest)
