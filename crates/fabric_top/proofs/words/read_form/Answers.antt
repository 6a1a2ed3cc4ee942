use Rattle.std.proofs.Common.{◌∙◌, ap, sym, map, string_bytes}
use Rattle.fabric_top.proofs.Values.{few}
use Rattle.fabric_top.proofs.words.read_form.Goals as goal

pub returns-in-Ok-clause-form : goal.returns-in-Ok-clause-form
returns-in-Ok-clause-form c =
    let words = map string_bytes c.args.words.now in
    let split = c.in-Ok.ensures.ok words (few words (sym c.is_form.ensures ∙ c.if-not-is_form.false)) (ap (map (λ w. w.now)) c.as_slice.ensures.value ∙ c.in_ok-line.ensures) in
    c.form_in.ensures.form words split
