-- What links over links tell, whose datagrams are sealed.
use Rattle.std.specs.Prelude.{ℕ, List, [], map, Option, Some, None, option_map}
use Rattle.edge_io.specs.Plan.{counted}
use Rattle.edge_io.specs.declared.datagram.Datagram.{Datagram}
use Rattle.frame_seal.specs.Seals.{Key, behind_seal, opened, receiver_of}

-- bytes that have the number of a receiver
abbrev pub least_addressed : ℕ
least_addressed = 11

-- the frame, or an empty datagram, which is no frame
abbrev pub frame_or_empty : Option (List ℕ) → List ℕ
frame_or_empty (Some frame) = frame
frame_or_empty None = []

-- what an actor takes of a datagram: its frame, if it is sealed for this actor
unfoldable pub taken : Key → ℕ → List ℕ → List ℕ
taken key actor bytes = frame_or_empty (opened key actor bytes)

-- what is to arrive at an actor: what it takes of each datagram
unfoldable pub taken_all : Key → ℕ → List (Option (List ℕ)) → List (Option (List ℕ))
taken_all key actor arrivals = map (option_map (taken key actor)) arrivals

-- a datagram that was sent, as the receiver takes it that its frame names
unfoldable pub unsealed : Key → Datagram → Datagram
unsealed key d = record { from = d.from; to = d.to; bytes = taken key (receiver_of (behind_seal d.bytes)) d.bytes }

unfoldable pub unsealed_all : Key → List Datagram → List Datagram
unsealed_all key sent = map (unsealed key) sent

-- one more refused datagram, if no frame was opened
abbrev pub refused_after : Option (List ℕ) → ℕ → ℕ
refused_after (Some frame) refused = refused
refused_after None refused = counted refused
