-- An arbitrator's answer: what is seen of the world after it.
use Rattle.std.proofs.Common.{◌≡◌, ℕ, ◌+◌, List, [], ap, ◌∙◌, length, None}
use Rattle.fabric_terms.specs.declared.message.Body.{Body}
use Rattle.fabric_terms.specs.declared.message.Message.{Message}
use Rattle.fabric_terms.specs.declared.report.Report.{Report}
use Rattle.ring_points.specs.declared.who.Who.{Who}
use Rattle.world_rules.specs.Worlds.{numbers_of, posted}
use Rattle.ring_world.specs.Seen.{Seen, seen_of}
use Rattle.ring_world.specs.declared.configured_arbiter.ConfiguredArbiter.{ConfiguredArbiter}
use Rattle.ring_world.specs.declared.world.Acted.{Acted}
use Rattle.ring_world.specs.declared.world.World.{World}

pub seen_answered : (a mid new : World) (ss : List ConfiguredArbiter) (who name : Who) (ms : List (Who × Body)) → seen_of mid ≡ record (seen_of a) { seats = ss }
    → new ≡ record mid { frames = new.frames; sent = mid.sent + length ms } → new.frames.frames ≡ posted who ms mid.frames.frames → who ≡ name
    → seen_of (record new { events = new.events + 1 }) ≡ record (seen_of a) { events = a.events + 1; seats = ss; frames = posted name ms a.frames.frames; sent = a.sent + length ms }
seen_answered a mid new ss who name ms seats rest frames is =
    let bag : new.frames.frames ≡ posted name ms a.frames.frames = frames ∙ (ap (λ (x : Who). posted x ms mid.frames.frames) is ∙ ap (λ (x : Seen). posted name ms x.frames) seats) in
    ap (λ (x : World). seen_of (record x { events = x.events + 1; frames = new.frames })) rest
    ∙ (ap (λ (x : Seen). record x { events = x.events + 1; frames = new.frames.frames; sent = x.sent + length ms }) seats
    ∙ ap (λ (fs : List Message). record (seen_of a) { events = a.events + 1; seats = ss; frames = fs; sent = a.sent + length ms }) bag)

abbrev pub acted_of : ℕ → ℕ → Who → ℕ × ℕ → List Report → Acted
acted_of line time who numbers reports = record { line = line; time = time; who = who; reading = None; sent = numbers; reports = reports }

pub acted_answered : (a mid new : World) (ss : List ConfiguredArbiter) (line : ℕ) (who name : Who) (ms : List (Who × Body)) (numbers : ℕ × ℕ) (reports : List Report) → seen_of mid ≡ record (seen_of a) { seats = ss }
    → new ≡ record mid { frames = new.frames; sent = mid.sent + length ms } → who ≡ name → numbers ≡ numbers_of mid.sent ms → reports ≡ []
    → acted_of line new.time who numbers reports ≡ acted_of line a.time name (numbers_of a.sent ms) []
acted_answered a mid new ss line who name ms numbers reports seats rest is sent none =
    let time : new.time ≡ a.time = ap (λ (x : World). x.time) rest ∙ ap (λ (x : Seen). x.time) seats in
    let count : numbers ≡ numbers_of a.sent ms = sent ∙ ap (λ (x : Seen). numbers_of x.sent ms) seats in
    ap (λ (t : ℕ). acted_of line t who numbers reports) time
    ∙ (ap (λ (x : Who). acted_of line a.time x numbers reports) is
    ∙ (ap (λ (k : ℕ × ℕ). acted_of line a.time name k reports) count ∙ ap (λ (rs : List Report). acted_of line a.time name (numbers_of a.sent ms) rs) none))
