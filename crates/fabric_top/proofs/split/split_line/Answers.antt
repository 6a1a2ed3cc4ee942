use Rattle.std.proofs.Common.{◌∙◌, ap, ap₂, codes}
use Rattle.std.proofs.lemmas.Result.{err_from_is_err_and}
use Rattle.clap.specs.Matches.{found_of}
use Rattle.clap.specs.Words.{first_of, is_simple, matches_of, takes}
use Rattle.clap.proofs.WalkLemmas.{first_value-rows}
use Rattle.fabric_top.proofs.Splits.{found, is_plain, taken}
use Rattle.fabric_top.proofs.split.split_line.Goals as goal

pub returns-in_err-matches-clause-err : goal.returns-in_err-matches-clause-err
returns-in_err-matches-clause-err c words few line =
    let p = err_from_is_err_and c.from_residual-in_err-matches.result c.from_residual-in_err-matches.ensures.1 in
    rw (p.1, p.2) (c.in_err-matches.ensures.passes (ap₂ takes c.in_ok-command_line.ensures line ∙ taken words few))

pub returns-clause-ok : goal.returns-clause-ok
returns-clause-ok c words few line =
    let app = c.in_ok-command_line.ensures in
    let rows = (c.in_ok-matches.ensures.matches (ap is_simple app ∙ is_plain)).0 ∙ ap₂ matches_of app line in
    let there = found words few in
    let m = found_of c.in_ok-matches.matches in
    record {
      few = few;
      command = c.get_str.ensures ∙ (first_value-rows m (codes "command") ∙ (ap (first_of (codes "command")) rows ∙ there.command));
      first = c.get_str-2.ensures ∙ (first_value-rows m (codes "first") ∙ (ap (first_of (codes "first")) rows ∙ there.first));
      second = c.get_str-3.ensures ∙ (first_value-rows m (codes "second") ∙ (ap (first_of (codes "second")) rows ∙ there.second));
      third = c.get_str-4.ensures ∙ (first_value-rows m (codes "third") ∙ (ap (first_of (codes "third")) rows ∙ there.third));
    }
