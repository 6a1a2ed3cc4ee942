-- Which texts and codes are replies.
use Rattle.std.specs.Prelude.{◌≡◌, ◌≢◌, ◌⊎◌, ℕ, List, [], Option, Some, None}
use Rattle.hex.specs.Hex.{IsBytes}
use Rattle.fabric_c.specs.Codes.{ok, out_of_memory, not_read}

-- memory was short
abbrev pub IsShort : List ℕ → ℕ → Type 0
IsShort text code = (text ≡ []) × (code ≡ out_of_memory)

-- the text, where there is one; no text where the bytes are none of those that the word reads
abbrev pub IsOf : Option (List ℕ) → List ℕ → ℕ → Type 0
IsOf None text code = (text ≡ []) × (code ≡ not_read)
IsOf (Some wanted) text code = (text ≡ wanted) × (code ≡ ok)

-- the same, or memory was short
abbrev pub Replies : Option (List ℕ) → List ℕ → ℕ → Type 0
Replies wanted text code = IsOf wanted text code ⊎ IsShort text code

-- these bytes, where the line that is wanted of them is this one
pub data IsBack (wanted : Option (List ℕ)) (line bytes text : List ℕ) (code : ℕ) : Type 0 where
  same : wanted ≡ Some line → text ≡ bytes → code ≡ ok → IsBack wanted line bytes text code
  other : wanted ≢ Some line → text ≡ [] → code ≡ not_read → IsBack wanted line bytes text code
  no_memory : IsShort text code → IsBack wanted line bytes text code

-- the bytes with this line, or no text where no bytes have it
pub data ReadsBack (line_of : List ℕ → Option (List ℕ)) (line text : List ℕ) (code : ℕ) : Type 0 where
  found : line_of text ≡ Some line → code ≡ ok → ReadsBack line_of line text code
  none : ((bytes : List ℕ) → IsBytes bytes → line_of bytes ≢ Some line) → text ≡ [] → code ≡ not_read → ReadsBack line_of line text code
  short : IsShort text code → ReadsBack line_of line text code
