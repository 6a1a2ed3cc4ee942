-- The numbers of the page: each family of the table, in its order.
use Rattle.std.specs.Prelude.{ℕ, Bool, true, false, List, [], ◌∷◌, ◌++◌, Option, Some, None, codes, decimal, map}
use Rattle.hex.specs.Hex.{encode_lower}
use Rattle.ring_rules.specs.declared.link.LinkState.TheVariants as link
use Rattle.replica_core.specs.declared.role.Role.TheVariants as role
use Rattle.door_lines.specs.declared.fault.Fault.TheVariants as fault
use Rattle.door_lines.specs.Words.{fault_text, link_text, role_text}
use Rattle.status_page.specs.declared.counters.Counters.{Counters}
use Rattle.status_page.specs.declared.counts.Counts.{Counts}
use Rattle.status_page.specs.declared.family.Kind.TheVariants.{Counter, Gauge}
use Rattle.status_page.specs.declared.sample.Measure.{Measure}
use Rattle.status_page.specs.declared.sample.Measure.TheVariants.{Count, Ticks, Millionths}
use Rattle.status_page.specs.Kinds.{kind_names}
use Rattle.status_page.specs.Samples.{by_partition_text, by_word_text, head_text, sample_text, single_text}

abbrev pub link_words : List (List ℕ)
link_words =
    map link_text (link.Hello ∷ link.Offered ∷ link.Bound ∷ link.Parting ∷ link.Accused ∷ link.Discharged ∷ link.Heir ∷ [])

abbrev pub role_words : List (List ℕ)
role_words = map role_text (role.None ∷ role.IdleSecondary ∷ role.ActiveSecondary ∷ role.Primary ∷ [])

abbrev pub fault_words : List (List ℕ)
fault_words = map fault_text (fault.Line ∷ fault.NoSuch ∷ fault.Large ∷ fault.Busy ∷ [])

-- who asks
abbrev pub asker_words : List (List ℕ)
asker_words = codes "door" ∷ codes "parent" ∷ codes "policy" ∷ []

-- why a datagram is no frame
abbrev pub junk_words : List (List ℕ)
junk_words = codes "junk" ∷ codes "seal" ∷ []

abbrev pub flag : Bool → ℕ
flag true = 1
flag false = 0

-- a family that may have no sample
abbrev pub optional_sample : List ℕ → Measure → Option ℕ → List ℕ
optional_sample name measure None = []
optional_sample name measure (Some n) = sample_text name [] measure n

unfoldable pub links_family : Counts → List ℕ
links_family c = by_word_text Gauge (codes "links") (codes "Links, by their state.") (codes "state") link_words c.links

unfoldable pub share_family : Counts → List ℕ
share_family c =
    single_text Gauge (codes "ring_share") (codes "The share of the ring that the node owns.") Millionths c.share

unfoldable pub fence_family : Counts → List ℕ
fence_family c =
    head_text Gauge (codes "fence_left_seconds") (codes "The fence less the reading.")
    ++ optional_sample (codes "fence_left_seconds") Ticks c.fence_left

unfoldable pub routing_family : Counts → List ℕ
routing_family c = single_text Gauge (codes "routing") (codes "Whether the node routes.") Count (flag c.routing)

unfoldable pub manages_family : Counts → List ℕ
manages_family c = single_text Gauge (codes "manages") (codes "Whether the node manages.") Count (flag c.manages)

unfoldable pub sealed_family : Counts → List ℕ
sealed_family c = single_text Gauge (codes "sealed") (codes "Whether frames are sealed.") Count (flag c.sealed)

-- of the ring
unfoldable pub ring_metrics : Counts → List ℕ
ring_metrics c =
    links_family c
    ++ (share_family c ++ (fence_family c ++ (routing_family c ++ (manages_family c ++ sealed_family c))))

unfoldable pub sent_family : Counters → List ℕ
sent_family c = by_word_text Counter (codes "frames_sent_total") (codes "Frames sent.") (codes "kind") kind_names c.sent

unfoldable pub received_family : Counters → List ℕ
received_family c =
    by_word_text Counter (codes "frames_received_total") (codes "Frames received.") (codes "kind") kind_names c.received

unfoldable pub junk_family : Counters → List ℕ
junk_family c =
    by_word_text Counter (codes "frames_refused_total") (codes "Datagrams that are no frames.") (codes "why") junk_words c.junk

unfoldable pub records_family : Counters → List ℕ
records_family c = single_text Counter (codes "records_total") (codes "Records appended.") Count c.records

unfoldable pub record_bytes_family : Counts → List ℕ
record_bytes_family c =
    single_text Gauge (codes "record_bytes") (codes "Bytes of the file of records.") Count c.record_bytes

-- of frames and records
unfoldable pub frame_metrics : Counts → List ℕ
frame_metrics c =
    sent_family c.counters
    ++ (received_family c.counters ++ (junk_family c.counters ++ (records_family c.counters ++ record_bytes_family c)))

unfoldable pub roles_family : Counts → List ℕ
roles_family c = by_word_text Gauge (codes "replicas") (codes "Replicas, by their role.") (codes "role") role_words c.replicas

unfoldable pub entries_family : Counts → List ℕ
entries_family c = by_partition_text (codes "entries") (codes "Entries of the own log.") Count c.entries.items

unfoldable pub committed_family : Counts → List ℕ
committed_family c =
    by_partition_text (codes "committed") (codes "Committed entries, as a primary.") Count c.committed.items

unfoldable pub changing_family : Counts → List ℕ
changing_family c =
    by_partition_text (codes "reconfiguration_seconds") (codes "Age of a reconfiguration that is under way.") Ticks c.changing.items

unfoldable pub manager_family : Counts → List ℕ
manager_family c =
    single_text Gauge (codes "without_manager_seconds") (codes "Time since point 0 was last held here or found.") Ticks c.without_manager

unfoldable pub split_family : Counters → List ℕ
split_family c =
    single_text Counter (codes "split_grants_total") (codes "Claims granted in a round above 1.") Count c.split_grants

-- of partitions
unfoldable pub partition_metrics : Counts → List ℕ
partition_metrics c =
    roles_family c
    ++ (entries_family c
    ++ (committed_family c ++ (changing_family c ++ (manager_family c ++ split_family c.counters))))

unfoldable pub commands_family : Counters → List ℕ
commands_family c =
    by_word_text Counter (codes "commands_total") (codes "Commands, by who asked.") (codes "from") asker_words c.commands

unfoldable pub refusals_family : Counters → List ℕ
refusals_family c =
    by_word_text Counter (codes "refusals_total") (codes "Commands refused, by who asked.") (codes "from") asker_words c.refusals

unfoldable pub lines_family : Counters → List ℕ
lines_family c =
    by_word_text Counter (codes "lines_refused_total") (codes "Lines of clients refused.") (codes "why") fault_words c.lines

unfoldable pub turns_family : Counters → List ℕ
turns_family c = single_text Counter (codes "turns_total") (codes "Turns taken.") Count c.turns

unfoldable pub firings_family : Counters → List ℕ
firings_family c = single_text Counter (codes "firings_total") (codes "Firings of the node.") Count c.firings

unfoldable pub slow_family : Counters → List ℕ
slow_family c = single_text Counter (codes "slow_turns_total") (codes "Turns that took more than the grain.") Count c.slow_turns

-- of commands and turns
unfoldable pub turn_metrics : Counters → List ℕ
turn_metrics c =
    commands_family c
    ++ (refusals_family c ++ (lines_family c ++ (turns_family c ++ (firings_family c ++ slow_family c))))

unfoldable pub longest_family : Counters → List ℕ
longest_family c = single_text Gauge (codes "longest_turn_seconds") (codes "The longest turn.") Ticks c.longest_turn

unfoldable pub connections_family : Counts → List ℕ
connections_family c = single_text Gauge (codes "connections") (codes "Clients of the door.") Count c.connections

unfoldable pub watchers_family : Counts → List ℕ
watchers_family c = single_text Gauge (codes "watchers") (codes "Clients that watch.") Count c.watchers

unfoldable pub dropped_family : Counters → List ℕ
dropped_family c =
    single_text Counter (codes "connections_dropped_total") (codes "Clients that did not read, or were past a limit.") Count c.clients_dropped

unfoldable pub log_family : Counters → List ℕ
log_family c =
    single_text Counter (codes "log_lines_dropped_total") (codes "Lines of the log dropped.") Count c.log_lines_dropped

unfoldable pub held_family : Counts → List ℕ
held_family c = single_text Gauge (codes "held_frames") (codes "Frames that wait for a parent.") Count c.held_frames

-- of clients
unfoldable pub client_metrics : Counts → List ℕ
client_metrics c =
    longest_family c.counters
    ++ (connections_family c
    ++ (watchers_family c ++ (dropped_family c.counters ++ (log_family c.counters ++ held_family c))))

-- which configuration, program and instance this is
unfoldable pub info_labels : Counts → List ℕ
info_labels c =
    codes "{checksum=\""
    ++ (encode_lower c.checksum
    ++ (codes "\",version=\"" ++ (c.version.items ++ (codes "\",instance=\"" ++ (decimal c.instance ++ codes "\"}")))))

unfoldable pub info_metrics : Counts → List ℕ
info_metrics c =
    head_text Gauge (codes "config_info") (codes "The configuration, the program and the instance.")
    ++ sample_text (codes "config_info") (info_labels c) Count 1

-- all numbers of the page
unfoldable pub metrics_text : Counts → List ℕ
metrics_text c =
    ring_metrics c
    ++ (frame_metrics c
    ++ (partition_metrics c ++ (turn_metrics c.counters ++ (client_metrics c ++ info_metrics c))))
