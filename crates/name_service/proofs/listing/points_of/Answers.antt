use Rattle.std.proofs.Common.{◌++◌, ap, sym, ◌∙◌}
use Rattle.std.proofs.lemmas.Bool.{eqb-true}
use Rattle.ring_points.specs.Limits.{most_listed_names}
use Rattle.name_service.specs.Stores.{points_in}
use Rattle.name_service.proofs.Listed.{window_ended, window_full}
use Rattle.name_service.proofs.listing.points_of.Goals as goal

pub returns-in-None : goal.returns-in-None
returns-in-None c =
    window_ended c.loop-place.points.items _ c.loop-place.invariant.few
    (ap (λ es. c.loop-place.points.items ++ points_in es) (sym c.in-None.ensures.steps.0) ∙ c.loop-place.invariant.so_far)

pub returns-then-is_full : goal.returns-then-is_full
returns-then-is_full c = window_full c.loop-place.points.items _ _ (eqb-true _ most_listed_names (sym c.is_full.ensures.value ∙ c.if-is_full.true)) c.loop-place.invariant.so_far
