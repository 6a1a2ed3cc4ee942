-- Epochs and configurations of partitions, at arbitrators: what is read as the fields of each kind.
use Rattle.std.specs.Prelude.{ℕ, List, Option, ◌==◌, if◌then◌else◌}
use Rattle.fabric_terms.specs.declared.message.Body.{Body}
use Rattle.fabric_terms.specs.declared.message.Body.TheVariants.{Prepare, Prepared, NoPrepare, Vote, Voted, NoVote, DoneAsk, DoneKept, NoDone}
use Rattle.wire_fields.specs.Readers.{whole, pair, such, config_at, done_at, epoch_at, unit_at}
use Rattle.fabric_terms.specs.Fields.{same_unit}
use Rattle.frame_format.specs.Replicas.{replicas_of}

unfoldable pub prepare_of : List ℕ → Option Body
prepare_of = whole (λ x. Prepare x.0 x.1) unit_at

unfoldable pub prepared_of : List ℕ → Option Body
prepared_of = whole (λ x. Prepared x.0.0 x.0.1 x.1) (pair unit_at done_at)

unfoldable pub no_prepare_of : List ℕ → Option Body
no_prepare_of = whole (λ x. NoPrepare x.0.0 x.0.1 x.1) (pair unit_at epoch_at)

unfoldable pub vote_of : List ℕ → Option Body
vote_of = whole (λ x. Vote x) config_at

unfoldable pub voted_of : List ℕ → Option Body
voted_of = whole (λ x. Voted x.0.0 x.0.1 x.1) (such (λ x. same_unit x.0.0 x.0.1 x.1) (pair unit_at config_at))

unfoldable pub no_vote_of : List ℕ → Option Body
no_vote_of = whole (λ x. NoVote x.0.0 x.0.1 x.1) (pair unit_at epoch_at)

unfoldable pub done_ask_of : List ℕ → Option Body
done_ask_of = whole (λ x. DoneAsk x) config_at

unfoldable pub done_kept_of : List ℕ → Option Body
done_kept_of = whole (λ x. DoneKept x.0 x.1) unit_at

unfoldable pub no_done_of : List ℕ → Option Body
no_done_of = whole (λ x. NoDone x.0.0 x.0.1 x.1) (pair unit_at epoch_at)

-- one that is no ruling either, by its kind
unfoldable pub partitions_of : ℕ → List ℕ → Option Body
partitions_of kind bytes =
    if kind == 32 then prepare_of bytes else (
    if kind == 33 then prepared_of bytes else (
    if kind == 34 then no_prepare_of bytes else (
    if kind == 35 then vote_of bytes else (
    if kind == 36 then voted_of bytes else (
    if kind == 37 then no_vote_of bytes else (
    if kind == 38 then done_ask_of bytes else (
    if kind == 39 then done_kept_of bytes else (
    if kind == 40 then no_done_of bytes else (
    replicas_of kind bytes
    )))))))))
