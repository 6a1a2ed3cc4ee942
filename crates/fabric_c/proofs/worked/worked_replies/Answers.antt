use Rattle.std.proofs.Common.{refl}
use Rattle.std.specs.Fmt.{digits}
use Rattle.hex.specs.Hex.{encode_with}
use Rattle.wire_fields.specs.Readers.{number_at, byte_at, counted_at, stamp_at, session_at, actor_at, who_at, sender_at, addressee_at}
use Rattle.frame_format.specs.Links.{links_of, renew_ack_of}
use Rattle.frame_format.specs.Kinds.{body_of, head_at, message_of}
use Rattle.keep_log.specs.Readings.{claimed_by_of, fields_read, later_round_at, record_of}
use Rattle.fabric_c.proofs.worked.worked_replies.Goals as goal

pub returns-clause-frame : goal.returns-clause-frame
unfolding digits message_of head_at body_of links_of renew_ack_of session_at counted_at stamp_at sender_at addressee_at actor_at number_at byte_at encode_with
returns-clause-frame c = refl

pub returns-clause-claim : goal.returns-clause-claim
unfolding record_of fields_read claimed_by_of later_round_at who_at actor_at number_at byte_at encode_with
returns-clause-claim c = refl

pub returns-clause-no_kind : goal.returns-clause-no_kind
unfolding record_of fields_read byte_at
returns-clause-no_kind c = refl
