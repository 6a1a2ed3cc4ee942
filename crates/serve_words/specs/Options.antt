-- How the words behind FILE are read as options.
use Rattle.std.specs.Prelude.{ℕ, Bool, true, false, not, ◌==◌, List, [], ◌∷◌, Option, Some, None, is_some, option_map, codes, if◌then◌else◌}
use Rattle.std.specs.List.{after_first, before_first, list_any}
use Rattle.std.specs.Str.{bytes_eq}
use Rattle.text_fields.specs.Fields.{◌>>=◌}
use Rattle.serve_words.specs.declared.given.Given.{Given}
use Rattle.serve_words.specs.declared.given.Name.{Name}
use Rattle.serve_words.specs.declared.given.Name.TheVariants.{Folder, Listen, Page, Key, Hold}
use Rattle.serve_words.specs.declared.reading.Reading.{Reading}

-- a word, as its bytes
abbrev pub Text : Type 0
Text = List ℕ

abbrev pub hyphen : ℕ
hyphen = 45

abbrev pub equals : ℕ
equals = 61

abbrev pub line_feed : ℕ
line_feed = 10

-- ---- words

abbrev pub begins_with_hyphen : Text → Bool
begins_with_hyphen [] = false
begins_with_hyphen (b ∷ bs) = b == hyphen

-- a file or a folder may be named by the word: what begins with a hyphen is an option
abbrev pub is_place : Text → Bool
is_place word = not (begins_with_hyphen word)

-- the word is one line
abbrev pub is_line : Text → Bool
is_line word = not (list_any (λ b. b == line_feed) word)

-- the word before its first `=`, and behind it
abbrev pub cut : Text → Text × Option Text
cut word = (
  before_first (λ b. b == equals) word,
  if list_any (λ b. b == equals) word then Some (after_first (λ b. b == equals) word) else None,
)

-- an option that has a value
abbrev pub name_of : Text → Option Name
name_of word =
    if bytes_eq word (codes "--folder") then Some Folder
    else (if bytes_eq word (codes "--listen") then Some Listen
    else (if bytes_eq word (codes "--page") then Some Page
    else (if bytes_eq word (codes "--key") then Some Key
    else (if bytes_eq word (codes "--hold") then Some Hold else None))))

-- ---- the options so far

pub record Texts : Type 0 where
  pub folder : Option Text
  pub listen : Option Text
  pub page : Option Text
  pub key : Option Text
  pub hold : Option Text
  pub parent : Bool

abbrev pub no_options : Texts
no_options = record { folder = None; listen = None; page = None; key = None; hold = None; parent = false }

abbrev pub value_at : Name → Texts → Option Text
value_at Folder g = g.folder
value_at Listen g = g.listen
value_at Page g = g.page
value_at Key g = g.key
value_at Hold g = g.hold

abbrev pub with : Name → Text → Texts → Texts
with Folder v g = record g { folder = Some v }
with Listen v g = record g { listen = Some v }
with Page v g = record g { page = Some v }
with Key v g = record g { key = Some v }
with Hold v g = record g { hold = Some v }

-- each option comes once at most
abbrev pub put : Name → Text → Texts → Option Texts
put name v g = if is_some (value_at name g) then None else Some (with name v g)

-- ---- one word more

-- the options so far, and the one whose value is the next word
pub record Read : Type 0 where
  pub given : Texts
  pub awaited : Option Name

abbrev pub start : Read
start = record { given = no_options; awaited = None }

abbrev pub after_value : Name → Text → Texts → Option Read
after_value name v g = put name v g >>= λ more. Some (record { given = more; awaited = None })

abbrev pub after_flag : Texts → Option Read
after_flag g = if g.parent then None else Some (record { given = record g { parent = true }; awaited = None })

-- `--name=value`, or `--name`, whose value is the next word
abbrev pub after_name : Name → Option Text → Texts → Option Read
after_name name None g = Some (record { given = g; awaited = Some name })
after_name name (Some v) g = after_value name v g

abbrev pub after_option : Text → Texts → Option Read
after_option word g = name_of (cut word).0 >>= λ name. after_name name (cut word).1 g

-- what begins with a hyphen is no value of its own: `--folder=-x` says it
abbrev pub next_of : Option Name → Text → Texts → Option Read
next_of None word g = if bytes_eq word (codes "--parent") then after_flag g else after_option word g
next_of (Some name) word g = if begins_with_hyphen word then None else after_value name word g

abbrev pub next_in : Read → Text → Option Read
next_in r word = next_of r.awaited word r.given

-- all the words, one after another
abbrev pub read_on : Read → List Text → Option Read
read_on r [] = Some r
read_on r (word ∷ words) = next_in r word >>= λ more. read_on more words

-- no value is missing
abbrev pub ended_by : Option Name → Texts → Option Texts
ended_by None g = Some g
ended_by (Some name) g = None

-- the options that the words are
unfoldable pub options_in : List Text → Option Texts
options_in words = read_on start words >>= λ r. ended_by r.awaited r.given

-- ---- the same of the code's values

abbrev pub texts_of : Given → Texts
texts_of g = record {
  folder = option_map (λ s. s.now) g.folder;
  listen = option_map (λ s. s.now) g.listen;
  page = option_map (λ s. s.now) g.page;
  key = option_map (λ s. s.now) g.key;
  hold = option_map (λ s. s.now) g.hold;
  parent = g.parent;
}

abbrev pub reading_of : Reading → Read
reading_of r = record { given = texts_of r.given; awaited = r.awaited }
