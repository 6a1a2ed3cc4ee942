-- Replicas: what is read as the fields of each kind.
use Rattle.std.specs.Prelude.{ℕ, List, Option, None, ◌==◌, if◌then◌else◌}
use Rattle.fabric_terms.specs.declared.message.Body.{Body}
use Rattle.fabric_terms.specs.declared.message.Body.TheVariants.{Promise, Promised, Sync, Fetch, Piece, Adopted, Activate, Activated, Append, Appended, Older}
use Rattle.wire_fields.specs.Readers.{whole, pair, config_at, epoch_at, last_at, node_at, numbered_at, payload_at, unit_at}

unfoldable pub promise_of : List ℕ → Option Body
promise_of = whole (λ x. Promise x.0 x.1) unit_at

unfoldable pub promised_of : List ℕ → Option Body
promised_of = whole (λ x. Promised x.0.0.0 x.0.0.1 x.0.1 x.1) (pair (pair unit_at epoch_at) last_at)

unfoldable pub sync_of : List ℕ → Option Body
sync_of = whole (λ x. Sync x.0.0.0 x.0.0.1 x.0.1 x.1) (pair (pair unit_at node_at) last_at)

unfoldable pub fetch_of : List ℕ → Option Body
fetch_of = whole (λ x. Fetch x.0.0 x.0.1 x.1) numbered_at

unfoldable pub piece_of : List ℕ → Option Body
piece_of = whole (λ x. Piece x.0.0.0.0 x.0.0.0.1 x.0.0.1 x.0.1 x.1) (pair (pair numbered_at epoch_at) payload_at)

unfoldable pub adopted_of : List ℕ → Option Body
adopted_of = whole (λ x. Adopted x.0.0 x.0.1 x.1) numbered_at

unfoldable pub activate_of : List ℕ → Option Body
activate_of = whole (λ x. Activate x) config_at

unfoldable pub activated_of : List ℕ → Option Body
activated_of = whole (λ x. Activated x.0 x.1) unit_at

unfoldable pub append_of : List ℕ → Option Body
append_of = whole (λ x. Append x.0.0.0 x.0.0.1 x.0.1 x.1) (pair numbered_at payload_at)

unfoldable pub appended_of : List ℕ → Option Body
appended_of = whole (λ x. Appended x.0.0 x.0.1 x.1) numbered_at

unfoldable pub older_of : List ℕ → Option Body
older_of = whole (λ x. Older x.0.0 x.0.1 x.1) (pair unit_at epoch_at)

-- one that is of a replica, by its kind
unfoldable pub replicas_of : ℕ → List ℕ → Option Body
replicas_of kind bytes =
    if kind == 48 then promise_of bytes else (
    if kind == 49 then promised_of bytes else (
    if kind == 50 then sync_of bytes else (
    if kind == 51 then fetch_of bytes else (
    if kind == 52 then piece_of bytes else (
    if kind == 53 then adopted_of bytes else (
    if kind == 54 then activate_of bytes else (
    if kind == 55 then activated_of bytes else (
    if kind == 56 then append_of bytes else (
    if kind == 57 then appended_of bytes else (
    if kind == 58 then older_of bytes else (
    None
    )))))))))))
