-- Which words are one of the program's forms.
use Rattle.std.specs.Prelude.{◌≤◌, ℕ, List, [], ◌∷◌, Option, Some, None, codes, if◌then◌else◌}
use Rattle.std.specs.Str.{bytes_eq}
use Rattle.ring_points.specs.Limits.{most_arbiters, most_node_number}
use Rattle.text_fields.specs.Fields.{◌>>=◌, last}
use Rattle.text_fields.specs.Numbers.{number_in}
use Rattle.schedule_generate.specs.Settings.{most_generated_nodes}
use Rattle.fabric_top.specs.declared.form.Form.{Form}
use Rattle.fabric_top.specs.declared.form.Form.TheVariants.{Replay, Writes, Trace, Audit, Node, Arbiter, Cluster, Generate, Drill}

-- a word that is a number from lo to hi: decimal digits, with no sign and no leading zero
abbrev pub number_of : ℕ → ℕ → List ℕ → Option ℕ
number_of lo hi = last (number_in lo hi)

-- turns of a process
abbrev pub most_turns : ℕ
most_turns = 1000000000

-- rounds of a generated schedule
abbrev pub most_generated_rounds : ℕ
most_generated_rounds = 10000

-- a seed has 8 bytes
abbrev pub greatest_seed : ℕ
greatest_seed = 18446744073709551615

-- how many turns
abbrev pub turns_of : List ℕ → Option ℕ
turns_of = number_of 1 most_turns

-- the values of each command

abbrev pub node_form : List ℕ → List ℕ → Option Form
node_form node turns = number_of 1 most_node_number node >>= λ n. turns_of turns >>= λ t. Some (Node n t)

abbrev pub arbiter_form : List ℕ → List ℕ → Option Form
arbiter_form arbiter turns = number_of 1 most_arbiters arbiter >>= λ a. turns_of turns >>= λ t. Some (Arbiter a t)

abbrev pub cluster_form : List ℕ → Option Form
cluster_form turns = turns_of turns >>= λ t. Some (Cluster t)

-- a seed, how many nodes, and how many rounds
abbrev pub made_form : (ℕ → ℕ → ℕ → Form) → List ℕ → List ℕ → List ℕ → Option Form
made_form make seed nodes rounds =
    number_of 0 greatest_seed seed >>= λ s. number_of 1 most_generated_nodes nodes >>= λ n.
    number_of 1 most_generated_rounds rounds >>= λ r. Some (make s n r)

abbrev pub generate_form : List ℕ → List ℕ → List ℕ → Option Form
generate_form = made_form Generate

abbrev pub drill_form : List ℕ → List ℕ → List ℕ → Option Form
drill_form = made_form Drill

-- the forms of one word, of two, of three and of four

abbrev pub one_word : List ℕ → Option Form
one_word command =
    if bytes_eq command (codes "replay") then Some Replay
    else (if bytes_eq command (codes "writes") then Some Writes
    else (if bytes_eq command (codes "trace") then Some Trace
    else (if bytes_eq command (codes "audit") then Some Audit else None)))

abbrev pub two_words : List ℕ → List ℕ → Option Form
two_words command turns = if bytes_eq command (codes "cluster") then cluster_form turns else None

abbrev pub three_words : List ℕ → List ℕ → List ℕ → Option Form
three_words command number turns =
    if bytes_eq command (codes "node") then node_form number turns
    else (if bytes_eq command (codes "arbiter") then arbiter_form number turns else None)

abbrev pub four_words : List ℕ → List ℕ → List ℕ → List ℕ → Option Form
four_words command seed nodes rounds =
    if bytes_eq command (codes "generate") then generate_form seed nodes rounds
    else (if bytes_eq command (codes "drill") then drill_form seed nodes rounds else None)

-- the form that the words are, without the program's name
unfoldable pub form_of : List (List ℕ) → Option Form
form_of (w ∷ []) = one_word w
form_of (w ∷ a ∷ []) = two_words w a
form_of (w ∷ a ∷ b ∷ []) = three_words w a b
form_of (w ∷ a ∷ b ∷ d ∷ []) = four_words w a b d
form_of _ = None

-- a schedule that is made has a node, and no more than it may
abbrev pub FitsForm : Form → Type 0
FitsForm (Generate seed nodes rounds) = (1 ≤ nodes) × (nodes ≤ most_generated_nodes)
FitsForm (Drill seed nodes rounds) = (1 ≤ nodes) × (nodes ≤ most_generated_nodes)
FitsForm _ = Unit {0}
