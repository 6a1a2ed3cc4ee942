-- Each command is read exactly where it is spelled.
use Rattle.std.proofs.Common.{lit<, ◌≡◌, ℕ, ◌≤◌, true, nat_le, List, [], ◌++◌, length, All, Option, Some, refl, ap, sym, ◌∙◌}
use Rattle.std.specs.Prelude.{codes, decimal}
use Rattle.std.specs.List.{list_all}
use Rattle.std.proofs.lemmas.List.{append_assoc, append-nil}
use Rattle.std.proofs.lemmas.List.Sums.{AllPass-from_list_all, list_all-from_AllPass}
use Rattle.ring_points.specs.Limits.{least_lease, most_lease, most_members, most_write}
use Rattle.fabric_terms.specs.declared.command.Command.{Command}
use Rattle.fabric_terms.specs.declared.command.Command.TheVariants.{Link, LinkFor, Part, GiveNear, GiveAll, Join, Find, Create, Swap, Heal, Lose, Write, Units, Resolve, Names}
use Rattle.fabric_terms.specs.Ranges.{IsNode, IsPartition, IsMembers, IsLease, FitsCommand}
use Rattle.text_fields.specs.Actors.{node_at}
use Rattle.text_fields.specs.Codes.{blank_code, last_sign_code}
use Rattle.text_fields.specs.Fields.{◌>>=◌, Field, after_word, whole_of, last, made, behind, nothing}
use Rattle.text_fields.specs.Intervals.{span_of, interval_text}
use Rattle.text_fields.specs.Inverses.{IsRest, EndsNumber}
use Rattle.text_fields.specs.Points.{point_at, point_text}
use Rattle.text_fields.proofs.ActorLaws.{node_is, last_node_is}
use Rattle.text_fields.proofs.FieldLaws.{both_true, last_is, behind_again}
use Rattle.text_fields.proofs.IntervalLaws.{span_is}
use Rattle.text_fields.proofs.NumberLaws.{number_is}
use Rattle.text_fields.proofs.Numbers.{some_same, within, not_above}
use Rattle.text_fields.proofs.PointLaws.{last_point_is}
use Rattle.text_fields.proofs.RestLaws.{IsSpelled, such_that_is, sized_is, refit, found_behind, found_nothing, whole_found, headed_found, followed_found, followed_again, made_found, made_again}
use Rattle.line_format.specs.Commands.{command_text, CommandReadIsSpelled, SpelledCommandIsRead, members_of, lease_of, link_of, linked_of, give_of, given_of, point_made, is_printable, text_of, in_partition, partition_command_of, command_of}
use Rattle.line_format.specs.Names.{name_at, as_they_are}
use Rattle.line_format.proofs.CountLaws.{partition_is}
use Rattle.line_format.proofs.NameLaws.{last_name_is}

members_are : IsRest members_of IsMembers decimal
members_are = last_is (number_is 1 most_members (lit< tt)) tt

lease_is : IsRest lease_of IsLease decimal
lease_is = last_is (number_is least_lease most_lease (lit< tt)) tt

all_are : IsRest Some (λ _. Unit {0}) as_they_are
all_are = record { found = λ bytes x e. (tt, some_same bytes x e); again = λ x h. refl }

abbrev IsPrintable : ℕ → Type 0
IsPrintable b = (blank_code ≤ b) × (b ≤ last_sign_code)

printable_is : (b : ℕ) → is_printable b ≡ true → IsPrintable b
printable_is b h = let r = both_true (nat_le blank_code b) (nat_le b last_sign_code) h in (within blank_code b r.0, within b last_sign_code r.1)

is_printable_again : (b : ℕ) → IsPrintable b → is_printable b ≡ true
is_printable_again b h = rw (not_above blank_code b h.0, not_above b last_sign_code h.1) refl

-- lo to hi bytes that can be printed
pub text_is : (lo hi : ℕ) → IsRest (text_of lo hi) (λ t. (lo ≤ length t) × (length t ≤ hi) × All IsPrintable t) as_they_are
unfolding text_of
text_is lo hi =
    refit (sized_is (such_that_is all_are (list_all is_printable)) lo hi)
    (λ t h. (h.1, h.2, λ k d lt. printable_is _ (AllPass-from_list_all is_printable t h.0.1 k d lt)))
    (λ t h. ((tt, list_all-from_AllPass is_printable t (λ k d lt. is_printable_again _ (h.2 k d lt))), h.0, h.1))

abbrev IsCommand : List ℕ → (List ℕ → Option Command) → Type 0
IsCommand word reader = IsSpelled FitsCommand command_text word reader

link_found : IsCommand (codes "link ") link_of
unfolding link_of
link_found =
    headed_found node_is FitsCommand command_text (codes "link ") linked_of
    (λ node fits. found_behind FitsCommand command_text (codes "link " ++ decimal node) (codes " for ") (made (LinkFor node) lease_of) (whole_of (Link node))
    (made_found lease_is FitsCommand command_text ((codes "link " ++ decimal node) ++ codes " for ") (LinkFor node)
    (λ length h. ((fits, h), ap (λ t. codes "link " ++ t) (append_assoc (decimal node) (codes " for ") (decimal length)))))
    (whole_found FitsCommand command_text (codes "link " ++ decimal node) (Link node) fits refl))

give_found : IsCommand (codes "give ") give_of
unfolding give_of
give_found =
    headed_found node_is FitsCommand command_text (codes "give ") given_of
    (λ node fits. found_behind FitsCommand command_text (codes "give " ++ decimal node) (codes " near") (whole_of (GiveNear node)) (behind (codes " all") (whole_of (GiveAll node)) nothing)
    (whole_found FitsCommand command_text ((codes "give " ++ decimal node) ++ codes " near") (GiveNear node) fits refl)
    (found_behind FitsCommand command_text (codes "give " ++ decimal node) (codes " all") (whole_of (GiveAll node)) nothing
    (whole_found FitsCommand command_text ((codes "give " ++ decimal node) ++ codes " all") (GiveAll node) fits refl)
    (found_nothing FitsCommand command_text (codes "give " ++ decimal node))))

units_found : IsCommand (codes "units ") (made Units span_of)
units_found = made_found span_is FitsCommand command_text (codes "units ") Units (λ i h. (h, refl))

write_found : IsCommand (codes "write ") (in_partition (text_of 1 most_write) Write)
write_found = followed_found partition_is (text_is 1 most_write) FitsCommand command_text (codes "write ") Write (λ p t a b. ((a, b), refl))

resolve_found : IsCommand (codes "resolve ") (in_partition (last name_at) Resolve)
resolve_found = followed_found partition_is last_name_is FitsCommand command_text (codes "resolve ") Resolve (λ p n a b. ((a, b), refl))

names_found : IsCommand (codes "names ") (in_partition span_of Names)
names_found = followed_found partition_is span_is FitsCommand command_text (codes "names ") Names (λ p i a b. ((a, b), refl))

lose_found : IsCommand (codes "lose ") (in_partition (last node_at) Lose)
lose_found = followed_found partition_is last_node_is FitsCommand command_text (codes "lose ") Lose (λ p n a b. ((a, b), refl))

heal_found : IsCommand (codes "heal ") (in_partition members_of Heal)
heal_found = followed_found partition_is members_are FitsCommand command_text (codes "heal ") Heal (λ p c a b. ((a, b), refl))

swap_found : IsCommand (codes "swap ") (in_partition (last node_at) Swap)
swap_found = followed_found partition_is last_node_is FitsCommand command_text (codes "swap ") Swap (λ p n a b. ((a, b), refl))

create_found : IsCommand (codes "create ") (in_partition members_of Create)
create_found = followed_found partition_is members_are FitsCommand command_text (codes "create ") Create (λ p c a b. ((a, b), refl))

-- behind the word, or by the other reader
abbrev or_behind : (word : List ℕ) (reader other : List ℕ → Option Command) → IsCommand word reader → IsCommand [] other
    → IsCommand [] (behind word reader other)
or_behind = found_behind FitsCommand command_text []

partition_command_found : IsCommand [] partition_command_of
unfolding partition_command_of
partition_command_found =
    or_behind (codes "create ") (in_partition members_of Create) _ create_found (
    or_behind (codes "swap ") (in_partition (last node_at) Swap) _ swap_found (
    or_behind (codes "heal ") (in_partition members_of Heal) _ heal_found (
    or_behind (codes "lose ") (in_partition (last node_at) Lose) _ lose_found (
    or_behind (codes "write ") (in_partition (text_of 1 most_write) Write) _ write_found (
    or_behind (codes "units ") (made Units span_of) _ units_found (
    or_behind (codes "resolve ") (in_partition (last name_at) Resolve) _ resolve_found (
    or_behind (codes "names ") (in_partition span_of Names) nothing names_found (found_nothing FitsCommand command_text [])
    )
    )
    )
    )
    )
    )
    )

part_found : IsCommand (codes "part ") (made Part (last node_at))
part_found = made_found last_node_is FitsCommand command_text (codes "part ") Part (λ n h. (h, refl))

join_found : IsCommand (codes "join ") (made Join (last node_at))
join_found = made_found last_node_is FitsCommand command_text (codes "join ") Join (λ n h. (h, refl))

abbrev find_made : ℕ → Command
find_made p = Find (point_made p)

find_found : IsCommand (codes "find ") (made find_made (last point_at))
find_found = made_found last_point_is FitsCommand command_text (codes "find ") find_made (λ p h. (h, refl))

pub command_found : CommandReadIsSpelled
unfolding command_of
command_found =
    or_behind (codes "link ") link_of _ link_found (
    or_behind (codes "part ") (made Part (last node_at)) _ part_found (
    or_behind (codes "give ") give_of _ give_found (
    or_behind (codes "join ") (made Join (last node_at)) _ join_found (
    or_behind (codes "find ") (made find_made (last point_at)) partition_command_of find_found partition_command_found
    )
    )
    )
    )

-- the first word says which command it is

at_link : (words : List ℕ) → command_of (codes "link " ++ words) ≡ link_of words
unfolding command_of after_word
at_link words = refl

at_part : (words : List ℕ) → command_of (codes "part " ++ words) ≡ made Part (last node_at) words
unfolding command_of after_word
at_part words = refl

at_give : (words : List ℕ) → command_of (codes "give " ++ words) ≡ give_of words
unfolding command_of after_word
at_give words = refl

at_join : (words : List ℕ) → command_of (codes "join " ++ words) ≡ made Join (last node_at) words
unfolding command_of after_word
at_join words = refl

at_find : (words : List ℕ) → command_of (codes "find " ++ words) ≡ made find_made (last point_at) words
unfolding command_of after_word
at_find words = refl

at_create : (words : List ℕ) → command_of (codes "create " ++ words) ≡ in_partition members_of Create words
unfolding command_of partition_command_of after_word
at_create words = refl

at_swap : (words : List ℕ) → command_of (codes "swap " ++ words) ≡ in_partition (last node_at) Swap words
unfolding command_of partition_command_of after_word
at_swap words = refl

at_heal : (words : List ℕ) → command_of (codes "heal " ++ words) ≡ in_partition members_of Heal words
unfolding command_of partition_command_of after_word
at_heal words = refl

at_lose : (words : List ℕ) → command_of (codes "lose " ++ words) ≡ in_partition (last node_at) Lose words
unfolding command_of partition_command_of after_word
at_lose words = refl

at_write : (words : List ℕ) → command_of (codes "write " ++ words) ≡ in_partition (text_of 1 most_write) Write words
unfolding command_of partition_command_of after_word
at_write words = refl

at_units : (words : List ℕ) → command_of (codes "units " ++ words) ≡ made Units span_of words
unfolding command_of partition_command_of after_word
at_units words = refl

at_resolve : (words : List ℕ) → command_of (codes "resolve " ++ words) ≡ in_partition (last name_at) Resolve words
unfolding command_of partition_command_of after_word
at_resolve words = refl

at_names : (words : List ℕ) → command_of (codes "names " ++ words) ≡ in_partition span_of Names words
unfolding command_of partition_command_of after_word
at_names words = refl

-- a node and what is read behind it
behind_node : {E : Type 0} (next : ℕ → List ℕ → Option E) (node : ℕ) (rest : List ℕ) → IsNode node → EndsNumber rest
    → (node_at (decimal node ++ rest) >>= λ x. next x.0 x.1) ≡ next node rest
behind_node next node rest fits ends = ap (λ (o : Field ℕ). o >>= λ x. next x.0 x.1) (node_is.again node rest fits ends)

linked_alone : (node : ℕ) → linked_of node [] ≡ Some (Link node)
unfolding after_word
linked_alone node = refl

link_again : (node : ℕ) → IsNode node → link_of (decimal node) ≡ Some (Link node)
unfolding link_of
link_again node fits = ap link_of (sym (append-nil (decimal node))) ∙ (behind_node linked_of node [] fits tt ∙ linked_alone node)

link_for_again : (node length : ℕ) → IsNode node → IsLease length → link_of (decimal node ++ (codes " for " ++ decimal length)) ≡ Some (LinkFor node length)
unfolding link_of
link_for_again node length fits lease =
    behind_node linked_of node (codes " for " ++ decimal length) fits refl
    ∙ (behind_again (codes " for ") (made (LinkFor node) lease_of) (whole_of (Link node)) (decimal length) ∙ made_again lease_is (LinkFor node) length lease)

given_near : (node : ℕ) → given_of node (codes " near") ≡ Some (GiveNear node)
unfolding after_word
given_near node = refl

given_all : (node : ℕ) → given_of node (codes " all") ≡ Some (GiveAll node)
unfolding after_word
given_all node = refl

give_near_again : (node : ℕ) → IsNode node → give_of (decimal node ++ codes " near") ≡ Some (GiveNear node)
unfolding give_of
give_near_again node fits = behind_node given_of node (codes " near") fits refl ∙ given_near node

give_all_again : (node : ℕ) → IsNode node → give_of (decimal node ++ codes " all") ≡ Some (GiveAll node)
unfolding give_of
give_all_again node fits = behind_node given_of node (codes " all") fits refl ∙ given_all node

-- a partition, and what is read behind it
in_again : {B : Type 0} {rest : List ℕ → Option B} {FitsB : B → Type 0} {textB : B → List ℕ} → IsRest rest FitsB textB
    → (make : ℕ → B → Command) (p : ℕ) (y : B) → IsPartition p → FitsB y
    → in_partition rest make (decimal p ++ (codes " " ++ textB y)) ≡ Some (make p y)
in_again law make p y fits fits_y = followed_again partition_is law make p y refl fits fits_y

pub command_again : SpelledCommandIsRead
command_again (Link node) h = at_link (decimal node) ∙ link_again node h
command_again (LinkFor node length) h = at_link (decimal node ++ (codes " for " ++ decimal length)) ∙ link_for_again node length h.0 h.1
command_again (Part node) h = at_part (decimal node) ∙ made_again last_node_is Part node h
command_again (GiveNear node) h = at_give (decimal node ++ codes " near") ∙ give_near_again node h
command_again (GiveAll node) h = at_give (decimal node ++ codes " all") ∙ give_all_again node h
command_again (Join node) h = at_join (decimal node) ∙ made_again last_node_is Join node h
command_again (Find key) h = at_find (point_text key.0) ∙ made_again last_point_is find_made key.0 h
command_again (Create p count) h = at_create (decimal p ++ (codes " " ++ decimal count)) ∙ in_again members_are Create p count h.0 h.1
command_again (Swap p node) h = at_swap (decimal p ++ (codes " " ++ decimal node)) ∙ in_again last_node_is Swap p node h.0 h.1
command_again (Heal p count) h = at_heal (decimal p ++ (codes " " ++ decimal count)) ∙ in_again members_are Heal p count h.0 h.1
command_again (Lose p node) h = at_lose (decimal p ++ (codes " " ++ decimal node)) ∙ in_again last_node_is Lose p node h.0 h.1
command_again (Write p text) h = at_write (decimal p ++ (codes " " ++ text)) ∙ in_again (text_is 1 most_write) Write p text h.0 h.1
command_again (Units part) h = at_units (interval_text part) ∙ made_again span_is Units part h
command_again (Resolve p name) h = at_resolve (decimal p ++ (codes " " ++ name)) ∙ in_again last_name_is Resolve p name h.0 h.1
command_again (Names p part) h = at_names (decimal p ++ (codes " " ++ interval_text part)) ∙ in_again span_is Names p part h.0 h.1

pub command_is : IsRest command_of FitsCommand command_text
command_is = record { found = command_found; again = command_again }
