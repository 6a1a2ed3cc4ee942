-- What a client of the door makes of the lines that it reads.
use Rattle.std.specs.Prelude.{ℕ, ◌-◌, Bool, false, ◌||◌, List, ◌++◌, codes, decimal, nat_eq, if◌then◌else◌}
use Rattle.std.specs.List.{starts_with}
use Rattle.std.specs.Str.{bytes_eq}
use Rattle.serve_top.specs.Files.{cut_by}
use Rattle.serve_top.specs.declared.ask.Replies.{Replies}

-- a line that asks with this tag
abbrev pub asked_text : ℕ → List ℕ → List ℕ
asked_text tag line = codes "@" ++ (decimal tag ++ (codes " " ++ (line ++ codes "\n")))

-- the first word, and the words behind it
abbrev pub first_word : List ℕ → List ℕ
first_word words = (cut_by 32 words).0

abbrev pub later_words : List ℕ → List ℕ
later_words words = (cut_by 32 words).1

-- an answer begins with this word where its line was refused, or where nothing is known of it
abbrev pub is_undone_word : List ℕ → Bool
is_undone_word word = bytes_eq word (codes "fault") || (bytes_eq word (codes "unknown") || bytes_eq word (codes "late"))

-- a report of this kind says that a command was not done
abbrev pub is_undone_kind : List ℕ → Bool
is_undone_kind word = bytes_eq word (codes "refused") || (bytes_eq word (codes "superseded") || bytes_eq word (codes "nowhere"))

-- the kind of a report is its fifth word
abbrev pub is_undone : List ℕ → Bool
is_undone words =
    is_undone_word (first_word words)
    || is_undone_kind (first_word (later_words (later_words (later_words (later_words words)))))

abbrev pub fresh_replies : ℕ → Replies
fresh_replies awaited = record { awaited = awaited; undone = false }

-- behind a line that says that a line is done, one less is awaited; a tagged line may say that its line was not done
abbrev pub replies_after : List ℕ → Replies → Replies
replies_after line r =
    if starts_with nat_eq line (codes "done ") then record r { awaited = r.awaited - 1 }
    else (if starts_with nat_eq line (codes "@") then record r { undone = r.undone || is_undone (later_words line) } else r)
