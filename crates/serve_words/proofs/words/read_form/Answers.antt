use Rattle.std.proofs.Common.{◌∙◌, ap, sym, map, string_bytes}
use Rattle.std.specs.List.{list_all}
use Rattle.serve_words.specs.Options.{is_place}
use Rattle.serve_words.proofs.Places.{front_places}
use Rattle.serve_words.proofs.words.read_form.Goals as goal

pub split_words-requires-clause-places : goal.split_words-requires-clause-places
split_words-requires-clause-places c =
    let ws = map string_bytes c.args.words.now in
    ap (list_all is_place) c.front.ensures.front ∙ front_places ws (sym c.is_form.ensures ∙ c.if-not-is_form.false) (sym c.is_short.ensures ∙ c.if-is_short.false)
