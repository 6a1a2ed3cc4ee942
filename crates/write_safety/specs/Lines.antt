-- The lines of a book.
use Rattle.std.specs.Prelude.{ℕ, List, [], ◌∷◌, ◌++◌, codes, decimal}
use Rattle.std.specs.List.{flat_map}
use Rattle.replica_core.specs.declared.entry.Entry.{Entry}
use Rattle.text_fields.specs.Epochs.{epoch_text}
use Rattle.hex.specs.Hex.{encode_lower}
use Rattle.text_fields.specs.Texts.{spaced}
use Rattle.write_safety.specs.Books.{KeptLog}

abbrev pub head_text : ℕ → ℕ → List ℕ
head_text partition data_loss = spaced (codes "kept" ∷ decimal partition ∷ decimal data_loss ∷ [])

-- its number, its epoch, and its bytes in hexadecimal digits
abbrev pub entry_text : Entry → List ℕ
entry_text e = spaced (decimal e.lsn ∷ epoch_text e.epoch ∷ encode_lower e.bytes ∷ [])

-- an entry of a partition under a data loss number
abbrev pub kept_line : ℕ → ℕ → Entry → List ℕ
kept_line partition data_loss e = spaced (head_text partition data_loss ∷ entry_text e ∷ []) ++ codes "\n"

-- in the order of their numbers
abbrev pub log_lines : KeptLog → List ℕ
log_lines l = flat_map (kept_line l.partition l.data_loss) l.entries

-- of all that is kept, in its order
abbrev pub kept_lines : List KeptLog → List ℕ
kept_lines ls = flat_map log_lines ls
