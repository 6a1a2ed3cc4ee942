use Rattle.std.proofs.Common.{◌≡◌, ℕ, List, length, take, ap, sym, ◌∙◌}
use Rattle.std.specs.Prelude.{map, min}
use Rattle.std.proofs.lemmas.List.{take_min, take-map}
use Rattle.reconfig_phases.specs.Views.{reconfig_of}
use Rattle.state_lines.specs.Changes.{most_timed_changes}
use Rattle.state_lines.proofs.change_times.timed.Goals as goal

-- as many of the items as there are, but no more than these
first_items : {A B : Type 0} (f : A → B) (xs : List A) (few most : ℕ) → few ≡ min most (length xs) → map f (take few xs) ≡ take most (map f xs)
first_items f xs few most is = ap (λ n. map f (take n xs)) is ∙ ap (λ ys. map f ys) (take_min most xs) ∙ sym (take-map f most xs)

pub returns-clause-timed : goal.returns-clause-timed
returns-clause-timed c = first_items (λ e. (e.0, reconfig_of e.1)) c.args.reconfigs.now c.min.result most_timed_changes c.min.ensures
