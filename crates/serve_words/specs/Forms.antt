-- Which words are one of the forms of `fabricd`.
use Rattle.std.specs.Prelude.{ℕ, Bool, true, false, List, [], ◌∷◌, Option, Some, None, is_some, option_map, map, codes, string_bytes, if◌then◌else◌}
use Rattle.std.specs.List.{list_all}
use Rattle.std.specs.Str.{bytes_eq}
use Rattle.ring_points.specs.Limits.{most_arbiters, most_node_number}
use Rattle.text_fields.specs.Fields.{◌>>=◌, last}
use Rattle.text_fields.specs.Numbers.{number_in}
use Rattle.serve_words.specs.Options.{Text, Texts, begins_with_hyphen, is_line, is_place, options_in}
use Rattle.serve_words.specs.declared.form.Parent.{Parent}
use Rattle.serve_words.specs.declared.form.ServeForm.{ServeForm}
use Rattle.serve_words.specs.declared.form.ServeForm.TheVariants as served
use Rattle.serve_words.specs.declared.form.ServeOptions.{ServeOptions}

-- a word that is a number from lo to hi: decimal digits, with no sign and no leading zero
abbrev pub number_of : ℕ → ℕ → Text → Option ℕ
number_of lo hi = last (number_in lo hi)

-- ticks for which a frame is held
abbrev pub most_hold : ℕ
most_hold = 1000000000

-- the options that nodes and arbitrators have
pub record Settings : Type 0 where
  pub folder : Option Text
  pub listen : Option Text
  pub page : Option Text
  pub key : Option Text

abbrev pub settings_of : Texts → Settings
settings_of g = record { folder = g.folder; listen = g.listen; page = g.page; key = g.key }

-- what the words ask for
pub data Form : Type 0 where
  node : ℕ → Text → Settings → Option Parent → Form
  arbiter : ℕ → Text → Settings → Form
  check : Text → Form
  ask : Text → List Text → Form
  again : Text → List Text → Form
  help : Form
  version : Form

-- ---- the values of each command

abbrev pub held_parent : ℕ → Option Parent
held_parent h = Some (record { hold = Some h })

-- the parent, if there is one: `--hold` comes with `--parent` only
abbrev pub parent_of : Bool → Option Text → Option (Option Parent)
parent_of false None = Some None
parent_of false (Some hold) = None
parent_of true None = Some (Some (record { hold = None }))
parent_of true (Some hold) = number_of 1 most_hold hold >>= λ h. Some (held_parent h)

abbrev pub node_with : ℕ → Text → Texts → Option Form
node_with n file g = parent_of g.parent g.hold >>= λ parent. Some (node n file (settings_of g) parent)

abbrev pub node_form : Text → Text → List Text → Option Form
node_form number file words =
    if begins_with_hyphen file then None
    else (number_of 1 most_node_number number >>= λ n. options_in words >>= λ g. node_with n file g)

-- an arbitrator has no parent
abbrev pub arbiter_with : ℕ → Text → Texts → Option Form
arbiter_with a file g = if g.parent then None else (if is_some g.hold then None else Some (arbiter a file (settings_of g)))

abbrev pub arbiter_form : Text → Text → List Text → Option Form
arbiter_form number file words =
    if begins_with_hyphen file then None
    else (number_of 1 most_arbiters number >>= λ a. options_in words >>= λ g. arbiter_with a file g)

-- words of which the second is FILE
abbrev pub with_file : (Text → Text → List Text → Option Form) → Text → List Text → Option Form
with_file form number [] = None
with_file form number (file ∷ words) = form number file words

abbrev pub check_form : Text → List Text → Option Form
check_form file [] = if begins_with_hyphen file then None else Some (check file)
check_form file (word ∷ words) = None

-- a line at least
abbrev pub ask_form : Text → List Text → Option Form
ask_form folder [] = None
ask_form folder (line ∷ lines) =
    if begins_with_hyphen folder then None
    else (if list_all is_line (line ∷ lines) then Some (ask folder (line ∷ lines)) else None)

-- a folder at least
abbrev pub again_form : Text → List Text → Option Form
again_form file [] = None
again_form file (folder ∷ folders) =
    if begins_with_hyphen file then None
    else (if list_all is_place (folder ∷ folders) then Some (again file (folder ∷ folders)) else None)

-- ---- the forms of one word, and of more

abbrev pub one_word : Text → Option Form
one_word command =
    if bytes_eq command (codes "--help") then Some help
    else (if bytes_eq command (codes "--version") then Some version else None)

abbrev pub with_values : Text → Text → List Text → Option Form
with_values command first more =
    if bytes_eq command (codes "node") then with_file node_form first more
    else (if bytes_eq command (codes "arbiter") then with_file arbiter_form first more
    else (if bytes_eq command (codes "check") then check_form first more
    else (if bytes_eq command (codes "ask") then ask_form first more
    else (if bytes_eq command (codes "again") then again_form first more else None))))

-- the form that the words are, without the program's name
unfoldable pub form_of : List Text → Option Form
form_of [] = None
form_of (command ∷ []) = one_word command
form_of (command ∷ first ∷ more) = with_values command first more

-- ---- the same of the code's values

abbrev pub settings_in : ServeOptions → Settings
settings_in o = record {
  folder = option_map (λ s. s.now) o.folder;
  listen = option_map (λ s. s.now) o.listen;
  page = option_map (λ s. s.now) o.page;
  key = option_map (λ s. s.now) o.key;
}

abbrev pub plain : ServeForm → Form
plain (served.Node n file options parent) = node n file.now (settings_in options) parent
plain (served.Arbiter a file options) = arbiter a file.now (settings_in options)
plain (served.Check file) = check file.now
plain (served.Ask folder lines) = ask folder.now (map string_bytes lines.now)
plain (served.Again file folders) = again file.now (map string_bytes folders.now)
plain served.Help = help
plain served.Version = version
