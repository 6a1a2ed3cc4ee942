-- A run that has ended stays as it is.
use Rattle.std.proofs.Common.{◌≡◌, ◌∷◌, Option, Some, ap}
use Rattle.turn_rules.specs.Happenings.{Happening, History}
use Rattle.turn_rules.specs.Plans.{Setting}
use Rattle.turn_rules.specs.Process.{End, after, takes, unless_ended}

pub stays_ended : (s : Setting) (h : History) (x : Happening) (end : End) → (after s h).end ≡ Some end → after s (x ∷ h) ≡ after s h
stays_ended s h x end e = ap (λ (o : Option End). unless_ended (after s h) o (takes s x.turn (after s h) x.place x.comes)) e
