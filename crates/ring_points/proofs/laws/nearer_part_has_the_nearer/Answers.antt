use Rattle.std.proofs.Common.{◌&&◌, ap, ◌∙◌, Bool}
use Rattle.ring_points.specs.Ranges.{in_ranges}
use Rattle.ring_points.specs.Sets.{nearer_arc}
use Rattle.ring_points.proofs.Arcs.{in_ranges-nearer_arc, rises_from-nearer_arc}
use Rattle.ring_points.proofs.Meets.{in_ranges-meet_of, rises_from-meet_of}
use Rattle.ring_points.proofs.laws.nearer_part_has_the_nearer.Goals as goal

pub returns : goal.returns
returns c = λ is mine other h k l n. record {
  rises = rises_from-meet_of 0 0 is (nearer_arc mine other) h (rises_from-nearer_arc mine other k l n);
  points = (λ p m. in_ranges-meet_of p is (nearer_arc mine other) ∙ ap (λ (b : Bool). in_ranges p is && b) (in_ranges-nearer_arc p mine other m k l n));
}
