-- Links of one length: a greeting that names a length is no frame.
use Rattle.std.specs.Prelude.{ℕ, Bool, true, false, List, [], map, Option, Some, None, option_map, if◌then◌else◌}
use Rattle.fabric_terms.specs.declared.message.Message.{Message}
use Rattle.fabric_terms.specs.declared.message.Body.{Body}
use Rattle.fabric_terms.specs.declared.message.Body.TheVariants as body
use Rattle.frame_format.specs.Kinds.{message_of}

-- a Hello or an Offer with a length of its own
abbrev pub has_length : Body → Bool
has_length (body.HelloFor mine ticks) = true
has_length (body.OfferFor mine yours ticks) = true
has_length _ = false

abbrev pub read_length : Option Message → Bool
read_length None = false
read_length (Some m) = has_length m.body

unfoldable pub names_length : List ℕ → Bool
names_length bytes = read_length (message_of bytes)

-- what arrives of a datagram
unfoldable pub heard : List ℕ → List ℕ
heard bytes = if names_length bytes then [] else bytes

unfoldable pub heard_all : List (Option (List ℕ)) → List (Option (List ℕ))
heard_all arrivals = map (option_map heard) arrivals
