-- Accusations, rulings and claims: what is read as the fields of each kind.
use Rattle.std.specs.Prelude.{ℕ, List, Option, ◌==◌, if◌then◌else◌}
use Rattle.fabric_terms.specs.declared.message.Body.{Body}
use Rattle.fabric_terms.specs.declared.message.Body.TheVariants.{Accuse, Ruled, Claim, Kept}
use Rattle.wire_fields.specs.Readers.{whole, pair, round_at, ruling_at, who_at}
use Rattle.frame_format.specs.Partitions.{partitions_of}

unfoldable pub accuse_of : List ℕ → Option Body
accuse_of = whole (λ x. Accuse x) who_at

unfoldable pub ruled_of : List ℕ → Option Body
ruled_of = whole (λ x. Ruled x.0 x.1) (pair who_at ruling_at)

unfoldable pub claim_of : List ℕ → Option Body
claim_of = whole (λ x. Claim x.0 x.1) (pair who_at round_at)

unfoldable pub kept_of : List ℕ → Option Body
kept_of = whole (λ x. Kept x.0.0 x.0.1 x.1) (pair (pair who_at round_at) who_at)

-- one that is no search either, by its kind
unfoldable pub rulings_of : ℕ → List ℕ → Option Body
rulings_of kind bytes =
    if kind == 16 then accuse_of bytes else (
    if kind == 17 then ruled_of bytes else (
    if kind == 18 then claim_of bytes else (
    if kind == 19 then kept_of bytes else (
    partitions_of kind bytes
    ))))
