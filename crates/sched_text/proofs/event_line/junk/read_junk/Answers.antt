use Rattle.std.proofs.Common.{◌≡◌, ◌+◌, ◌-◌, ◌*◌, ◌≤◌, [], ◌∷◌, length, take, drop, arith, ap, ◌∙◌, length-append, length-drop}
use Rattle.line_format.specs.Lines.{bytes_of}
use Rattle.text_fields.proofs.Lists.{rest_is}
use Rattle.line_format.proofs.Lists.{put_before}
use Rattle.line_format.proofs.ByteSteps.{bytes_next}
use Rattle.sched_text.proofs.event_line.junk.read_junk.Goals as goal

pub loop-rest-preserved : goal.loop-rest-preserved
loop-rest-preserved c =
    let rest = c.loop-rest.rest.now in
    let bytes = c.loop-rest.bytes in
    let high = c.in_ok-hex_value.field-0 in
    let low = c.in_ok-hex_value-2.field-0 in
    let two : 2 ≤ length rest = omega (arith, c.in-len2-up.len_at_least) in
    let cut : take (length rest - 2) (drop 2 rest) ≡ drop 2 rest = rest_is rest 2 in
    let fewer : length (take (length rest - 2) (drop 2 rest)) ≡ length rest - 2 = ap length cut ∙ length-drop 2 rest in
    let longer : length c.push.new.self ≡ length bytes + 1 = ap length c.push.ensures ∙ length-append bytes ((16 * high + low) ∷ []) in (
      omega (arith, c.loop-rest.invariant.0),
      ap (λ r. put_before c.push.new.self (bytes_of r)) cut
          ∙ (ap (λ bs. put_before bs (bytes_of (drop 2 rest))) c.push.ensures
          ∙ (bytes_next bytes rest high low two c.in_ok-hex_value.ensures.value c.in_ok-hex_value-2.ensures.value ∙ c.loop-rest.invariant.1)),
    )
