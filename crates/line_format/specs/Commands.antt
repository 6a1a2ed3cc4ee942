-- The commands of a schedule: what is read as a command, and how a command is spelled.
use Rattle.std.specs.Prelude.{◌≡◌, ℕ, ◌-◌, ◌&&◌, Bool, List, [], ◌∷◌, Option, Some, codes, decimal, nat_le}
use Rattle.std.specs.List.{list_all}
use Rattle.ring_points.specs.Limits.{least_lease, most_lease, most_members, most_partitions, most_write}
use Rattle.ring_points.specs.declared.point.Point.{Point}
use Rattle.fabric_terms.specs.declared.command.Command.{Command}
use Rattle.fabric_terms.specs.declared.command.Command.TheVariants.{Link, LinkFor, Part, GiveNear, GiveAll, Join, Find, Create, Swap, Heal, Lose, Write, Units, Resolve, Names}
use Rattle.fabric_terms.specs.Ranges.{FitsCommand}
use Rattle.text_fields.specs.Actors.{node_at}
use Rattle.text_fields.specs.Codes.{blank_code, last_sign_code}
use Rattle.text_fields.specs.Fields.{◌>>=◌, Field, whole_of, word_of, last, made, followed, behind, nothing, such_that, sized}
use Rattle.text_fields.specs.Intervals.{span_of, interval_text}
use Rattle.text_fields.specs.Numbers.{number_in}
use Rattle.text_fields.specs.Points.{point_at, point_text}
use Rattle.text_fields.specs.Texts.{spaced}
use Rattle.line_format.specs.Names.{name_at}

-- the greatest number of a partition
abbrev pub most_partition : ℕ
most_partition = most_partitions - 1

abbrev pub partition_at : List ℕ → Field ℕ
partition_at = number_in 0 most_partition

-- how many replicas
abbrev pub members_of : List ℕ → Option ℕ
members_of = last (number_in 1 most_members)

-- the length of a lease, in ticks
abbrev pub lease_of : List ℕ → Option ℕ
lease_of = last (number_in least_lease most_lease)

-- behind `link N`: nothing, or ` for LEN`
abbrev pub linked_of : ℕ → List ℕ → Option Command
linked_of node = behind (codes " for ") (made (LinkFor node) lease_of) (whole_of (Link node))

-- behind `link`: `N` or `N for LEN`
unfoldable pub link_of : List ℕ → Option Command
link_of bytes = node_at bytes >>= λ node. linked_of node.0 node.1

-- behind `give N`: ` near` or ` all`
abbrev pub given_of : ℕ → List ℕ → Option Command
given_of node = behind (codes " near") (whole_of (GiveNear node)) (behind (codes " all") (whole_of (GiveAll node)) nothing)

-- behind `give`: `N near` or `N all`
unfoldable pub give_of : List ℕ → Option Command
give_of bytes = node_at bytes >>= λ node. given_of node.0 node.1

abbrev pub point_made : ℕ → Point
point_made p = record { 0 = p }

-- a blank or a visible sign
abbrev pub is_printable : ℕ → Bool
is_printable b = nat_le blank_code b && nat_le b last_sign_code

-- lo to hi such bytes, to the end of the line
unfoldable pub text_of : ℕ → ℕ → List ℕ → Option (List ℕ)
text_of lo hi = sized lo hi (such_that (list_all is_printable) Some)

-- a partition, a blank, and what is read behind them
abbrev pub in_partition : {A B : Type 0} → (List ℕ → Option A) → (ℕ → A → B) → List ℕ → Option B
in_partition = followed (word_of partition_at)

-- a command to a partition
unfoldable pub partition_command_of : List ℕ → Option Command
partition_command_of =
    behind (codes "create ") (in_partition members_of Create) (
    behind (codes "swap ") (in_partition (last node_at) Swap) (
    behind (codes "heal ") (in_partition members_of Heal) (
    behind (codes "lose ") (in_partition (last node_at) Lose) (
    behind (codes "write ") (in_partition (text_of 1 most_write) Write) (
    behind (codes "units ") (made Units span_of) (
    behind (codes "resolve ") (in_partition (last name_at) Resolve) (
    behind (codes "names ") (in_partition span_of Names) nothing
    )
    )
    )
    )
    )
    )
    )

-- a command
unfoldable pub command_of : List ℕ → Option Command
command_of =
    behind (codes "link ") link_of (
    behind (codes "part ") (made Part (last node_at)) (
    behind (codes "give ") give_of (
    behind (codes "join ") (made Join (last node_at)) (
    behind (codes "find ") (made (λ p. Find (point_made p)) (last point_at)) partition_command_of
    )
    )
    )
    )

-- how a command is spelled
abbrev pub command_text : Command → List ℕ
command_text (Link node) = spaced (codes "link" ∷ decimal node ∷ [])
command_text (LinkFor node length) = spaced (codes "link" ∷ decimal node ∷ codes "for" ∷ decimal length ∷ [])
command_text (Part node) = spaced (codes "part" ∷ decimal node ∷ [])
command_text (GiveNear node) = spaced (codes "give" ∷ decimal node ∷ codes "near" ∷ [])
command_text (GiveAll node) = spaced (codes "give" ∷ decimal node ∷ codes "all" ∷ [])
command_text (Join node) = spaced (codes "join" ∷ decimal node ∷ [])
command_text (Find key) = spaced (codes "find" ∷ point_text key.0 ∷ [])
command_text (Create partition count) = spaced (codes "create" ∷ decimal partition ∷ decimal count ∷ [])
command_text (Swap partition node) = spaced (codes "swap" ∷ decimal partition ∷ decimal node ∷ [])
command_text (Heal partition count) = spaced (codes "heal" ∷ decimal partition ∷ decimal count ∷ [])
command_text (Lose partition node) = spaced (codes "lose" ∷ decimal partition ∷ decimal node ∷ [])
command_text (Write partition text) = spaced (codes "write" ∷ decimal partition ∷ text ∷ [])
command_text (Units part) = spaced (codes "units" ∷ interval_text part ∷ [])
command_text (Resolve partition name) = spaced (codes "resolve" ∷ decimal partition ∷ name ∷ [])
command_text (Names partition part) = spaced (codes "names" ∷ decimal partition ∷ interval_text part ∷ [])

-- what is read as a command is spelled so, and what is spelled so is read
abbrev pub CommandReadIsSpelled : Type 0
CommandReadIsSpelled = (bytes : List ℕ) (c : Command) → command_of bytes ≡ Some c → FitsCommand c × (bytes ≡ command_text c)

abbrev pub SpelledCommandIsRead : Type 0
SpelledCommandIsRead = (c : Command) → FitsCommand c → command_of (command_text c) ≡ Some c
