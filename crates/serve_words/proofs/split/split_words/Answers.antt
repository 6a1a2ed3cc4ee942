use Rattle.std.proofs.Common.{◌≤◌, ◌∙◌, ap, codes, map, string_bytes, subst, sym}
use Rattle.std.proofs.lemmas.List.{length-map}
use Rattle.std.proofs.lemmas.Result.{err_from_is_err_and}
use Rattle.clap.specs.Matches.{found_of}
use Rattle.clap.specs.Words.{first_of, is_simple, matches_of, takes}
use Rattle.clap.proofs.WalkLemmas.{first_value-rows}
use Rattle.serve_words.proofs.Splits.{found, is_plain, taken}
use Rattle.serve_words.proofs.split.split_words.Goals as goal

pub returns-in_err-matches-clause-err : goal.returns-in_err-matches-clause-err
returns-in_err-matches-clause-err c =
    let ws = map string_bytes c.args.words.now in
    let few = subst (λ n. n ≤ 3) (sym (length-map c.args.words.now string_bytes)) c.requires.few in
    let p = err_from_is_err_and c.from_residual-in_err-matches.result c.from_residual-in_err-matches.ensures.1 in
    rw (p.1, p.2) (c.in_err-matches.ensures.passes (ap (λ a. takes a ws) c.in_ok-command_line.ensures ∙ taken ws few c.requires.places))

pub returns-clause-ok : goal.returns-clause-ok
returns-clause-ok c =
    let ws = map string_bytes c.args.words.now in
    let few = subst (λ n. n ≤ 3) (sym (length-map c.args.words.now string_bytes)) c.requires.few in
    let app = c.in_ok-command_line.ensures in
    let rows = (c.in_ok-matches.ensures.matches (ap is_simple app ∙ is_plain)).0 ∙ ap (λ a. matches_of a ws) app in
    let there = found ws few c.requires.places in
    let m = found_of c.in_ok-matches.matches in
    record {
      command = c.get_str.ensures ∙ (first_value-rows m (codes "command") ∙ (ap (first_of (codes "command")) rows ∙ ap (λ p. p.0) there));
      first = c.get_str-2.ensures ∙ (first_value-rows m (codes "first") ∙ (ap (first_of (codes "first")) rows ∙ ap (λ p. p.1) there));
      second = λ _. c.get_str-3.ensures ∙ (first_value-rows m (codes "second") ∙ (ap (first_of (codes "second")) rows ∙ ap (λ p. p.2) there));
    }
