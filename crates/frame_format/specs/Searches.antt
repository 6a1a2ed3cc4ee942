-- Searches: what is read as the fields of each kind.
use Rattle.std.specs.Prelude.{ℕ, List, Option, ◌==◌, if◌then◌else◌}
use Rattle.fabric_terms.specs.declared.message.Body.{Body}
use Rattle.fabric_terms.specs.declared.message.Body.TheVariants.{Seek, Found}
use Rattle.wire_fields.specs.Readers.{whole, pair, hops_at, point_at, who_at}
use Rattle.frame_format.specs.Rulings.{rulings_of}

unfoldable pub seek_of : List ℕ → Option Body
seek_of = whole (λ x. Seek x.0.0 x.0.1 x.1) (pair (pair who_at point_at) hops_at)

unfoldable pub found_of : List ℕ → Option Body
found_of = whole (λ x. Found x.0 x.1) (pair point_at who_at)

-- a body of version 1 that is of no session, by its kind
unfoldable pub searches_of : ℕ → List ℕ → Option Body
searches_of kind bytes =
    if kind == 8 then seek_of bytes else (
    if kind == 9 then found_of bytes else (
    rulings_of kind bytes
    ))
