use Rattle.std.proofs.Common.{ℕ, List, subst}
use Rattle.fabric_c.specs.Lines.{record_line}
use Rattle.fabric_c.specs.Replies.{Replies}
use Rattle.fabric_c.proofs.Backs.{records_begin, not_back, read_back}
use Rattle.fabric_c.proofs.back.record_back.Goals as goal

pub returns-in-Ok : goal.returns-in-Ok
returns-in-Ok c =
    let bytes = c.in-Ok.bytes.items in
    let again = c.record_reply-again.result in
    let replied = subst (λ (b : List ℕ). Replies (record_line b) again.text.items again.code) c.as_slice.ensures.value c.record_reply-again.ensures in
    read_back record_line records_begin c.args.line.now bytes c.bytes_of_same.result.text.items c.bytes_of_same.result.code c.in-Ok.ensures (c.bytes_of_same.ensures (record_line bytes) replied)

pub returns-in-Err : goal.returns-in-Err
returns-in-Err c = not_back record_line records_begin c.args.line.now c.refused.result.text.items c.refused.result.code c.in-Err.error c.in-Err.ensures c.refused.ensures
