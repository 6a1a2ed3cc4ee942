use Rattle.std.proofs.Common.{ap, ◌∙◌, is_some}
use Rattle.std.specs.Prelude.{◌==◌}
use Rattle.fabric_edge.proofs.Listening.{found_by_image}
use Rattle.fabric_edge.proofs.udp_links.listening_at.Goals as goal

pub unwrap-requires : goal.unwrap-requires
unwrap-requires c = ap is_some c.place_of.ensures ∙ found_by_image (λ o. o.endpoint) (λ e. e.actor == c.args.actor) c.args.sockets.now c.requires
