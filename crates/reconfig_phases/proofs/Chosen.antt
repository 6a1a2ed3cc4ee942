-- The primary of a heal.
use Rattle.std.proofs.Common.{◌≡◌, ℕ, List, Option, refl, ◌∙◌}
use Rattle.std.specs.Prelude.{filter}
use Rattle.unit_rules.specs.declared.reconfig.Kind.TheVariants.{Heal}
use Rattle.unit_rules.specs.declared.reconfig.Standing.{Standing}
use Rattle.unit_rules.specs.Choices.{furthest, is_among}
use Rattle.unit_rules.specs.Phases.{furthest_or, primary_by}
use Rattle.unit_rules.specs.Polls.{Poll, answers_in}
use Rattle.unit_rules.specs.Reconfigs.{PromisePhase}

pub healed : (p : PromisePhase) (count : ℕ) (entries : Poll Standing) (members : List ℕ) (best : Option (ℕ × Standing)) (r : ℕ)
    → p.task.kind ≡ Heal count → entries ≡ p.poll → members ≡ p.members
    → best ≡ furthest (filter (λ a. is_among a.0 members) (answers_in entries)) → r ≡ furthest_or p.first best → r ≡ primary_by p.task.kind p
healed p count entries members best r k e m b f = f ∙ rw (b, e, m, k) refl
