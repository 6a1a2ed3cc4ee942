use Rattle.std.proofs.Common.{◌∙◌, ap, sym, map, option_map, string_bytes}
use Rattle.serve_words.specs.Options.{ended_by, read_on, reading_of, texts_of}
use Rattle.serve_words.proofs.Options.{none_read, some_read}
use Rattle.serve_words.proofs.reading.options_in.Goals as goal

pub returns-in_err-reading : goal.returns-in_err-reading
returns-in_err-reading c =
    let ws = map string_bytes c.args.words.now in
    let all = sym (ap (λ s. read_on s ws) c.new.ensures) ∙ (sym c.read_on.ensures ∙ ap (option_map reading_of) c.in_err-reading.was) in
    ap (option_map texts_of) c.from_residual.ensures ∙ sym (none_read ws all)

pub returns-in-None : goal.returns-in-None
returns-in-None c =
    let ws = map string_bytes c.args.words.now in
    let r = c.in_ok-reading.reading in
    let all = sym (ap (λ s. read_on s ws) c.new.ensures) ∙ (sym c.read_on.ensures ∙ ap (option_map reading_of) c.in_ok-reading.was) in
    sym (some_read ws (reading_of r) all ∙ ap (λ a. ended_by a (texts_of r.given)) c.in-None.is)

pub returns-in-Some : goal.returns-in-Some
returns-in-Some c =
    let ws = map string_bytes c.args.words.now in
    let r = c.in_ok-reading.reading in
    let all = sym (ap (λ s. read_on s ws) c.new.ensures) ∙ (sym c.read_on.ensures ∙ ap (option_map reading_of) c.in_ok-reading.was) in
    sym (some_read ws (reading_of r) all ∙ ap (λ a. ended_by a (texts_of r.given)) c.in-Some.is)
