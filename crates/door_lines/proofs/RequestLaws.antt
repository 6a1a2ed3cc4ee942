-- Each request is read exactly where it is spelled, by a speaker that may ask it.
use Rattle.std.proofs.Common.{lit<, ◌≡◌, ◌≢◌, ℕ, true, List, [], ◌++◌, Option, Some, None, refl, ap, sym, ◌∙◌}
use Rattle.std.specs.Prelude.{codes, decimal}
use Rattle.ring_points.specs.Limits.{most_log_entries}
use Rattle.ring_points.specs.declared.point.Point.{Point}
use Rattle.fabric_terms.specs.declared.command.Command.{Command as Ordered}
use Rattle.fabric_terms.specs.Ranges.{IsPartition, FitsCommand}
use Rattle.text_fields.specs.Fields.{after_word, last, word_of, made, both, followed, behind}
use Rattle.text_fields.specs.Inverses.{IsRest}
use Rattle.text_fields.specs.Numbers.{IsIn, number_in}
use Rattle.text_fields.specs.Points.{point_at, point_text}
use Rattle.text_fields.proofs.FieldLaws.{last_is, behind_again, behind_other, apart}
use Rattle.text_fields.proofs.NumberLaws.{number_is}
use Rattle.text_fields.proofs.Numbers.{none_found}
use Rattle.text_fields.proofs.PointLaws.{last_point_is}
use Rattle.text_fields.proofs.RestLaws.{IsSpelled, such_that_is, both_are, found_behind, found_nothing, followed_found, followed_again, made_found, made_again}
use Rattle.line_format.specs.Commands.{partition_at, partition_command_of, command_of, command_text}
use Rattle.line_format.proofs.CommandLaws.{command_is}
use Rattle.line_format.proofs.CountLaws.{partition_is}
use Rattle.door_lines.specs.declared.asked.Request.{Request}
use Rattle.door_lines.specs.declared.asked.Request.TheVariants.{Command, State, Log, Watch, WatchAll, Leave, End, Hold, Lead}
use Rattle.door_lines.specs.declared.asked.Speaker.{Speaker}
use Rattle.door_lines.specs.declared.asked.Speaker.TheVariants.{NodeClient, ChildClient, Parent, ArbiterClient}
use Rattle.door_lines.specs.Speakers.{is_of_node, may_command, may_ask}
use Rattle.door_lines.specs.Requests.{alone, most_listed_entries, log_made, log_of, command_request_of, node_request_of, hold_made, parent_request_of, own_request_of, request_of, request_text, FitsRequest}
use Rattle.door_lines.proofs.Alone.{alone_found, alone_other}

-- a request that fits, of this speaker
abbrev pub May : Speaker → Request → Type 0
May speaker request = FitsRequest request × (may_ask speaker request ≡ true)

abbrev IsRequest : Speaker → List ℕ → (List ℕ → Option Request) → Type 0
IsRequest speaker word reader = IsSpelled (May speaker) request_text word reader

abbrev entries_of : List ℕ → Option (ℕ × ℕ)
entries_of = followed (word_of (number_in 1 most_log_entries)) (last (number_in 1 most_listed_entries)) both

abbrev AreEntries : ℕ × ℕ → Type 0
AreEntries n = IsIn 1 most_log_entries n.0 × IsIn 1 most_listed_entries n.1

abbrev entries_text : ℕ × ℕ → List ℕ
entries_text n = decimal n.0 ++ (codes " " ++ decimal n.1)

entries_are : IsRest entries_of AreEntries entries_text
entries_are = both_are (number_is 1 most_log_entries (lit< tt)) (last_is (number_is 1 most_listed_entries (lit< tt)) tt) (λ rest. refl)

last_partition_is : IsRest (last partition_at) IsPartition decimal
last_partition_is = last_is partition_is tt

log_found : (speaker : Speaker) → is_of_node speaker ≡ true → IsRequest speaker (codes "log ") log_of
unfolding log_of
log_found speaker node =
    followed_found partition_is entries_are (May speaker) request_text (codes "log ") log_made (λ p n a b. (((a, b.0, b.1), node), refl))

command_found : (speaker : Speaker) → IsRequest speaker [] (command_request_of speaker)
unfolding command_request_of
command_found speaker = made_found (such_that_is command_is (may_command speaker)) (May speaker) request_text [] Command (λ c h. ((h.0, h.1), refl))

node_found : (speaker : Speaker) → is_of_node speaker ≡ true → IsRequest speaker [] (node_request_of speaker)
unfolding node_request_of
node_found speaker node =
    found_behind (May speaker) request_text [] (codes "log ") log_of (command_request_of speaker) (log_found speaker node) (command_found speaker)

hold_found : IsRequest Parent (codes "hold ") (made hold_made (last point_at))
hold_found = made_found last_point_is (May Parent) request_text (codes "hold ") hold_made (λ p h. ((h, refl), refl))

lead_found : IsRequest Parent (codes "lead ") (made Lead (last partition_at))
lead_found = made_found last_partition_is (May Parent) request_text (codes "lead ") Lead (λ p h. ((h, refl), refl))

parent_found : IsRequest Parent [] parent_request_of
unfolding parent_request_of
parent_found =
    found_behind (May Parent) request_text [] (codes "hold ") (made hold_made (last point_at)) _ hold_found (
    found_behind (May Parent) request_text [] (codes "lead ") (made Lead (last partition_at)) (node_request_of Parent) lead_found (node_found Parent refl)
    )

own_found : (speaker : Speaker) → IsRequest speaker [] (own_request_of speaker)
own_found NodeClient = node_found NodeClient refl
own_found ChildClient = node_found ChildClient refl
own_found Parent = parent_found
own_found ArbiterClient = found_nothing (May ArbiterClient) request_text []

pub request_found : (speaker : Speaker) → IsRequest speaker [] (request_of speaker)
unfolding request_of
request_found speaker =
    alone_found (May speaker) request_text (codes "state") State _ (tt, refl) refl (
    alone_found (May speaker) request_text (codes "watch") Watch _ (tt, refl) refl (
    alone_found (May speaker) request_text (codes "watch all") WatchAll _ (tt, refl) refl (
    alone_found (May speaker) request_text (codes "leave") Leave _ (tt, refl) refl (
    alone_found (May speaker) request_text (codes "end") End (own_request_of speaker) (tt, refl) refl (own_found speaker)
    )
    )
    )
    )

-- what is no request of every actor

own_log : (speaker : Speaker) (rest : List ℕ) → request_of speaker (codes "log " ++ rest) ≡ own_request_of speaker (codes "log " ++ rest)
unfolding request_of
own_log speaker rest = refl

own_hold : (rest : List ℕ) → request_of Parent (codes "hold " ++ rest) ≡ made hold_made (last point_at) rest
unfolding request_of parent_request_of after_word
own_hold rest = refl

own_lead : (rest : List ℕ) → request_of Parent (codes "lead " ++ rest) ≡ made Lead (last partition_at) rest
unfolding request_of parent_request_of after_word
own_lead rest = refl

parent_log : (rest : List ℕ) → parent_request_of (codes "log " ++ rest) ≡ node_request_of Parent (codes "log " ++ rest)
unfolding parent_request_of after_word
parent_log rest = refl

-- a command is no other request

abbrev IsOrdered : List ℕ → Ordered → Type 0
IsOrdered bytes c = command_of bytes ≡ Some c

no_state : command_of (codes "state") ≡ None
unfolding command_of partition_command_of after_word
no_state = refl

no_watch : command_of (codes "watch") ≡ None
unfolding command_of partition_command_of after_word
no_watch = refl

no_watch_all : command_of (codes "watch all") ≡ None
unfolding command_of partition_command_of after_word
no_watch_all = refl

no_leave : command_of (codes "leave") ≡ None
unfolding command_of partition_command_of after_word
no_leave = refl

no_end : command_of (codes "end") ≡ None
unfolding command_of partition_command_of after_word
no_end = refl

no_log : (rest : List ℕ) → command_of (codes "log " ++ rest) ≡ None
unfolding command_of partition_command_of after_word
no_log rest = refl

no_hold : (rest : List ℕ) → command_of (codes "hold " ++ rest) ≡ None
unfolding command_of partition_command_of after_word
no_hold rest = refl

no_lead : (rest : List ℕ) → command_of (codes "lead " ++ rest) ≡ None
unfolding command_of partition_command_of after_word
no_lead rest = refl

-- what is read as a command is not a word that is none
other_word : (word bytes : List ℕ) (c : Ordered) → IsOrdered bytes c → command_of word ≡ None → bytes ≢ word
other_word word bytes c is none same = none_found c (sym none ∙ (ap command_of (sym same) ∙ is))

-- what is read from a word of the list on

abbrev from_end : Speaker → List ℕ → Option Request
from_end speaker = alone (codes "end") End (own_request_of speaker)

abbrev from_leave : Speaker → List ℕ → Option Request
from_leave speaker = alone (codes "leave") Leave (from_end speaker)

abbrev from_watch_all : Speaker → List ℕ → Option Request
from_watch_all speaker = alone (codes "watch all") WatchAll (from_leave speaker)

abbrev from_watch : Speaker → List ℕ → Option Request
from_watch speaker = alone (codes "watch") Watch (from_watch_all speaker)

abbrev from_lead : List ℕ → Option Request
from_lead = behind (codes "lead ") (made Lead (last partition_at)) (node_request_of Parent)

own_command : (speaker : Speaker) (bytes : List ℕ) (c : Ordered) → IsOrdered bytes c → request_of speaker bytes ≡ own_request_of speaker bytes
unfolding request_of
own_command speaker bytes c is =
    alone_other (codes "state") State (from_watch speaker) bytes (other_word (codes "state") bytes c is no_state)
    ∙ (alone_other (codes "watch") Watch (from_watch_all speaker) bytes (other_word (codes "watch") bytes c is no_watch)
    ∙ (alone_other (codes "watch all") WatchAll (from_leave speaker) bytes (other_word (codes "watch all") bytes c is no_watch_all)
    ∙ (alone_other (codes "leave") Leave (from_end speaker) bytes (other_word (codes "leave") bytes c is no_leave)
    ∙ alone_other (codes "end") End (own_request_of speaker) bytes (other_word (codes "end") bytes c is no_end))))

node_command : (speaker : Speaker) (bytes : List ℕ) (c : Ordered) → IsOrdered bytes c → node_request_of speaker bytes ≡ command_request_of speaker bytes
unfolding node_request_of
node_command speaker bytes c is =
    behind_other (codes "log ") log_of (command_request_of speaker) bytes (apart command_of (codes "log ") bytes c is no_log)

parent_command : (bytes : List ℕ) (c : Ordered) → IsOrdered bytes c → parent_request_of bytes ≡ node_request_of Parent bytes
unfolding parent_request_of
parent_command bytes c is =
    behind_other (codes "hold ") (made hold_made (last point_at)) from_lead bytes (apart command_of (codes "hold ") bytes c is no_hold)
    ∙ behind_other (codes "lead ") (made Lead (last partition_at)) (node_request_of Parent) bytes (apart command_of (codes "lead ") bytes c is no_lead)

-- what a speaker may ask is read

log_again : (p first count : ℕ) → FitsRequest (Log p first count) → log_of (decimal p ++ (codes " " ++ entries_text (first, count))) ≡ Some (Log p first count)
unfolding log_of
log_again p first count fits = followed_again partition_is entries_are log_made p (first, count) refl fits.0 (fits.1, fits.2)

node_log_again : (speaker : Speaker) (p first count : ℕ) → FitsRequest (Log p first count)
    → node_request_of speaker (request_text (Log p first count)) ≡ Some (Log p first count)
unfolding node_request_of
node_log_again speaker p first count fits =
    behind_again (codes "log ") log_of (command_request_of speaker) (decimal p ++ (codes " " ++ entries_text (first, count))) ∙ log_again p first count fits

own_log_again : (speaker : Speaker) (p first count : ℕ) → May speaker (Log p first count)
    → own_request_of speaker (request_text (Log p first count)) ≡ Some (Log p first count)
own_log_again NodeClient p first count h = node_log_again NodeClient p first count h.0
own_log_again ChildClient p first count h = node_log_again ChildClient p first count h.0
own_log_again Parent p first count h =
    parent_log (decimal p ++ (codes " " ++ entries_text (first, count))) ∙ node_log_again Parent p first count h.0
own_log_again ArbiterClient p first count h = let never = h.1 in cc

command_again : (speaker : Speaker) (c : Ordered) → FitsCommand c → may_command speaker c ≡ true
    → command_request_of speaker (command_text c) ≡ Some (Command c)
unfolding command_request_of
command_again speaker c fits may = made_again (such_that_is command_is (may_command speaker)) Command c (fits, may)

own_command_again : (speaker : Speaker) (c : Ordered) → May speaker (Command c) → own_request_of speaker (command_text c) ≡ Some (Command c)
own_command_again NodeClient c h = node_command NodeClient (command_text c) c (command_is.again c h.0) ∙ command_again NodeClient c h.0 h.1
own_command_again ChildClient c h = node_command ChildClient (command_text c) c (command_is.again c h.0) ∙ command_again ChildClient c h.0 h.1
own_command_again Parent c h =
    let is = command_is.again c h.0 in
    parent_command (command_text c) c is ∙ (node_command Parent (command_text c) c is ∙ command_again Parent c h.0 h.1)
own_command_again ArbiterClient c h = let never = h.1 in cc

hold_again : (speaker : Speaker) (point : Point) → May speaker (Hold point) → request_of speaker (request_text (Hold point)) ≡ Some (Hold point)
hold_again Parent point h = own_hold (point_text point.0) ∙ made_again last_point_is hold_made point.0 h.0
hold_again NodeClient point h = let never = h.1 in cc
hold_again ChildClient point h = let never = h.1 in cc
hold_again ArbiterClient point h = let never = h.1 in cc

lead_again : (speaker : Speaker) (p : ℕ) → May speaker (Lead p) → request_of speaker (request_text (Lead p)) ≡ Some (Lead p)
lead_again Parent p h = own_lead (decimal p) ∙ made_again last_partition_is Lead p h.0
lead_again NodeClient p h = let never = h.1 in cc
lead_again ChildClient p h = let never = h.1 in cc
lead_again ArbiterClient p h = let never = h.1 in cc

pub request_again : (speaker : Speaker) (r : Request) → May speaker r → request_of speaker (request_text r) ≡ Some r
unfolding request_of
request_again speaker (Command c) h =
    own_command speaker (command_text c) c (command_is.again c h.0) ∙ own_command_again speaker c h
request_again speaker State h = refl
request_again speaker (Log p first count) h =
    own_log speaker (decimal p ++ (codes " " ++ entries_text (first, count))) ∙ own_log_again speaker p first count h
request_again speaker Watch h = refl
request_again speaker WatchAll h = refl
request_again speaker Leave h = refl
request_again speaker End h = refl
request_again speaker (Hold point) h = hold_again speaker point h
request_again speaker (Lead p) h = lead_again speaker p h
