-- The example, computed.
use Rattle.std.proofs.Common.{refl}
use Rattle.ring_rules.specs.Frames.{frame_received}
use Rattle.ring_rules.specs.Handshakes.{offer_received}
use Rattle.ring_rules.specs.Steps.{ring_step}
use Rattle.span_safety.specs.Examples.{ShorterLinks}

pub shorter_links : ShorterLinks
unfolding ring_step frame_received offer_received
shorter_links = record { before = refl; of_one_length = refl; shorter = refl }
