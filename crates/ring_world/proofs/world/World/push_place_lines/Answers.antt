use Rattle.std.proofs.Common.{ap, ◌∙◌}
use Rattle.std.proofs.lemmas.Result.{on_ok_weaker}
use Rattle.fabric_terms.specs.Places.{place_of}
use Rattle.fabric_terms.specs.Reports.{told}
use Rattle.point_places.specs.Lines.{held_by}
use Rattle.point_places.specs.Spots.{place_at}
use Rattle.ring_points.specs.Whos.{node_instance}
use Rattle.unit_rules.specs.Fabric.{fabric}
use Rattle.world_rules.specs.Runs.{run_of}
use Rattle.point_places.specs.Holders.{holds_in}
use Rattle.ring_world.proofs.Holders.{has_held}
use Rattle.ring_world.proofs.PlaceLines.{appended_too}
use Rattle.ring_world.proofs.world.World.push_place_lines.Goals as goal

pub returns-clause-ok : goal.returns-clause-ok
returns-clause-ok c k h s =
    let run = run_of fabric k h in
    let holders = c.deref.ensures.value ∙ c.in_ok-holders.ensures k h s in
    on_ok_weaker c.push_lines.result
    (appended_too (place_at c.args.self.now.places) (place_of (node_instance k.first 1) (told run)) (held_by c.deref.result.now) (holds_in run) s.keeps.places
    (λ w p. ap (λ hs. held_by hs w p) holders ∙ has_held run w p) c.args.into.now.items c.push_lines.new.into.items)
    c.push_lines.ensures.ok
