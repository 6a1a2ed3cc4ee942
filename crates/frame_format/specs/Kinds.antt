-- What is read as a frame.
use Rattle.std.specs.Prelude.{ℕ, Bool, List, Option, Some, None, ◌==◌, if◌then◌else◌, is_some}
use Rattle.fabric_terms.specs.declared.message.Message.{Message}
use Rattle.fabric_terms.specs.declared.message.Body.{Body}
use Rattle.frame_format.specs.declared.frame_head.FrameHead.{FrameHead}
use Rattle.wire_fields.specs.Readers.{◌>>=◌, Field, such, pair, made, byte_at, sender_at, addressee_at}
use Rattle.frame_format.specs.Links.{links_of, leases_of}

-- a body, by its version and its kind
unfoldable pub body_of : ℕ → ℕ → List ℕ → Option Body
body_of version kind bytes =
    if version == 1 then links_of kind bytes else (if version == 2 then leases_of kind bytes else None)

-- the version and the kind, from whom and to whom
unfoldable pub head_at : List ℕ → Field FrameHead
head_at =
    made (λ x. record { version = x.0.0.0.1; kind = x.0.0.1; from = x.0.1; to = x.1 })
    (pair (pair (pair (pair (such (λ n. n == 83) byte_at) byte_at) byte_at) sender_at) addressee_at)

-- a frame
unfoldable pub message_of : List ℕ → Option Message
message_of bytes =
    head_at bytes >>= λ x. body_of x.0.version x.0.kind x.1 >>= λ body.
    Some (record { from = x.0.from; to = x.0.to; body = body })

-- the bytes are a frame
abbrev pub is_frame : List ℕ → Bool
is_frame bytes = is_some (message_of bytes)
