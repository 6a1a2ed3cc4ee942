-- How a word ends, as a number. The codes below 32 are the statuses of the program.
use Rattle.std.specs.Prelude.{ℕ}

abbrev pub ok : ℕ
ok = 0

abbrev pub out_of_memory : ℕ
out_of_memory = 1

-- the text is longer than the room
abbrev pub no_room : ℕ
no_room = 32

-- the bytes are none of those that the word reads
abbrev pub not_read : ℕ
not_read = 33
