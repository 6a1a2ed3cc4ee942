use Rattle.std.proofs.Common.{refl}
use Rattle.ring_points.proofs.Meets.{in_ranges-meet_of}
use Rattle.token_core.proofs.laws.a_freeze_has_the_owned_points.Goals as goal

pub returns : goal.returns
returns c = λ t part slot h. record { owned = refl; frozen = λ p. in_ranges-meet_of p t.ranges part }
