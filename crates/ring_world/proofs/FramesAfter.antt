-- Frames after an outcome: they stand, and what was sent last is sound.
use Rattle.std.proofs.Common.{◌≡◌, zero, suc, ◌+◌, ◌≤◌, ◌<◌, List, [], ◌∷◌, sym, ap, ◌∙◌, arith, length}
use Rattle.std.specs.Prelude.{All}
use Rattle.fabric_terms.specs.declared.message.Body.{Body}
use Rattle.fabric_terms.specs.declared.message.Message.{Message}
use Rattle.fabric_terms.specs.Sent.{from_all}
use Rattle.node_core.specs.Nodes.{frames_limit}
use Rattle.node_core.specs.declared.outcome.Outcome.{Outcome}
use Rattle.ring_points.specs.declared.who.Who.{Who}
use Rattle.world_rules.specs.Nodes.{NodeState}
use Rattle.unit_rules.specs.Fabric.{fabric}
use Rattle.world_rules.specs.Uppers.{Did}
use Rattle.world_rules.specs.Worlds.{World as RuledWorld, posted}
use Rattle.ring_world.specs.Commits.{posted_all}
use Rattle.world_rules.specs.EventLimits.{most_frames}
use Rattle.ring_world.specs.Seen.{Seen}
use Rattle.ring_world.specs.Stands.{FramesStand}
use Rattle.ring_world.proofs.Growth.{posted_is, posted-length, from-length}

-- frames and their count after an outcome
pub frames_more : (a : Seen) (w v : RuledWorld fabric) (who : Who) (d : Did (NodeState fabric)) (o : Outcome) → FramesStand a w → o.frames ≡ from_all who d.sent → length o.frames ≤ frames_limit
    → a.sent < most_frames → v.frames ≡ posted_all o.frames w.frames → v.count ≡ w.count + length d.sent
    → (b : Seen) → b.frames ≡ posted_all o.frames a.frames → b.sent ≡ a.sent + length o.frames → FramesStand b v
frames_more a w v who d o s is few room frames count b bag sent =
    let n : length o.frames ≡ length d.sent = ap length is ∙ from-length who d.sent in
    let posts : posted_all o.frames w.frames ≡ posted_all (from_all who d.sent) w.frames = ap (λ ms. posted_all ms w.frames) is in
    record {
      frames = bag ∙ (ap (λ ms. posted_all o.frames ms) s.frames ∙ sym frames);
      counted = let k : length v.frames ≡ length w.frames + length d.sent = ap length (frames ∙ posts ∙ sym (posted_is who d.sent w.frames)) ∙ posted-length who d.sent w.frames in omega (arith, s.counted);
      sent = omega (arith, s.sent);
      few = omega (arith, s.sent);
    }

-- every frame is sound, so what was sent last is

pub all_tail : {X : Type 0} (P : X → Type 0) (x : X) (xs : List X) → All P (x ∷ xs) → All P xs
all_tail P x xs h k d lt = h (suc k) d (omega arith)

pub all_cons : {X : Type 0} (P : X → Type 0) (x : X) (xs : List X) → P x → All P xs → All P (x ∷ xs)
all_cons P x xs one h zero d lt = one
all_cons P x xs one h (suc k) d lt = h k d (omega arith)

pub sound_before : (P : Message → Type 0) (who : Who) (sent : List (Who × Body)) (frames : List Message) → All P (posted who sent frames) → All P frames
sound_before P who [] frames h = h
sound_before P who (m ∷ ms) frames h =
    let sent : Message = record { from = who; to = m.0; body = m.1 } in
    all_tail P sent frames (sound_before P who ms (sent ∷ frames) h)

pub sound_sent : (P : Message → Type 0) (who : Who) (sent : List (Who × Body)) (frames : List Message) → All P (posted who sent frames) → All P (from_all who sent)
sound_sent P who [] frames h = λ k d lt. absurd (omega arith)
sound_sent P who (m ∷ ms) frames h =
    let sent : Message = record { from = who; to = m.0; body = m.1 } in
    all_cons P sent (from_all who ms) (sound_before P who ms (sent ∷ frames) h 0 sent (omega arith)) (sound_sent P who ms (sent ∷ frames) h)
