-- The orders of the lines that were taken.
use Rattle.std.proofs.Common.{◌≡◌, ◌≤◌, ℕ, List, [], ◌∷◌, ◌++◌, Some, arith, get_or}
use Rattle.std.proofs.lemmas.List.Elements.{All-nil, All-push}
use Rattle.fabric_terms.specs.Ranges.{FitsCommand}
use Rattle.line_format.specs.Commands.{command_of}
use Rattle.line_format.proofs.CommandLaws.{command_found}
use Rattle.turn_rules.specs.declared.order.Order.{Order}
use Rattle.turn_rules.proofs.Rising.{rises_on}
use Rattle.turn_plans.specs.Reading.{AreTaken}

pub none_taken : AreTaken [] 1
none_taken = record {
  fit = All-nil (λ (o : Order). FitsCommand o.command);
  rising = tt;
  low = All-nil (λ (o : Order). o.turn ≤ 1);
  some = omega arith;
}

-- one order more, with the words of its command
pub taken_on : (os : List Order) (last : ℕ) (o : Order) (words : List ℕ) → AreTaken os last → last ≤ o.turn → command_of words ≡ Some o.command → AreTaken (os ++ o ∷ []) o.turn
taken_on os last o words taken more spelled = record {
  fit = All-push (λ (x : Order). FitsCommand x.command) os o taken.fit (command_found words o.command spelled).0;
  rising = rises_on 1 last os o taken.rising taken.low taken.some more;
  low =
      All-push (λ (x : Order). x.turn ≤ o.turn) os o (λ k d low. let far : (get_or os k d).turn ≤ last = taken.low k d low in omega arith) (omega arith);
  some = let one : 1 ≤ last = taken.some in omega arith;
}
