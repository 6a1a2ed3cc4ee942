-- What an event does in a life, one thing at a time.
use Rattle.std.proofs.Common.{◌≡◌, ℕ, [], ◌∷◌, Some, None, refl, sym, ◌∙◌}
use Rattle.fabric_terms.specs.declared.config.FabricConfig.{FabricConfig}
use Rattle.fabric_terms.specs.declared.event.Event.{Event}
use Rattle.fabric_terms.specs.declared.event.Event.TheVariants.{Start, Stop, Tick, Fire, Give, Do, Junk}
use Rattle.ring_points.specs.declared.who.Who.{Who}
use Rattle.run_facts.proofs.Happens.{Cases, by_cases}
use Rattle.world_rules.proofs.Starts.{begun_first}
use Rattle.world_rules.specs.Events.{world_step}
use Rattle.world_rules.specs.Nodes.{node_begun}
use Rattle.world_rules.specs.Starts.{first_whole, node_begun_in}
use Rattle.world_rules.specs.Uppers.{Upper}
use Rattle.world_rules.specs.Worlds.{World, Stepped, kept_of, node_acted}
use Rattle.cold_start.specs.Lives.{life_step}

-- one thing at a time

abbrev pub IsStart : Event → Type 0
IsStart e = (node : ℕ) × (reading : ℕ) × (e ≡ Start node (Some reading))

pub life_cases : (a : Upper) (whole : Who) (c : FabricConfig) (w : World a) (P : Stepped a → Type 0) (e : Event) →
    ((IsStart e → ⊥) → Cases a c w e P) →
    ((node reading : ℕ) → e ≡ Start node (Some reading) →
    P (node_acted a w node reading ((w.time, reading) ∷ []) (node_begun_in a whole c node (kept_of w node)))) →
    P (life_step a whole c w e)
life_cases a whole c w P (Start node (Some reading)) k begins = begins node reading refl
life_cases a whole c w P (Start actor None) k begins = by_cases a c w (Start actor None) P (k (λ s. cc (s.2))) (Start actor None) refl
life_cases a whole c w P (Stop actor) k begins = by_cases a c w (Stop actor) P (k (λ s. cc (s.2))) (Stop actor) refl
life_cases a whole c w P (Tick advance readings) k begins =
    by_cases a c w (Tick advance readings) P (k (λ s. cc (s.2))) (Tick advance readings) refl
life_cases a whole c w P (Fire node) k begins = by_cases a c w (Fire node) P (k (λ s. cc (s.2))) (Fire node) refl
life_cases a whole c w P (Give frame) k begins = by_cases a c w (Give frame) P (k (λ s. cc (s.2))) (Give frame) refl
life_cases a whole c w P (Do node command) k begins = by_cases a c w (Do node command) P (k (λ s. cc (s.2))) (Do node command) refl
life_cases a whole c w P (Junk actor bytes) k begins = by_cases a c w (Junk actor bytes) P (k (λ s. cc (s.2))) (Junk actor bytes) refl

starts_is : (a : Upper) (c : FabricConfig) (w : World a) (node reading : ℕ) →
    world_step a c w (Start node (Some reading)) ≡ node_acted a w node reading ((w.time, reading) ∷ []) (node_begun a c node (kept_of w node))
unfolding world_step
starts_is a c w node reading = refl

pub life_first : (a : Upper) (c : FabricConfig) (w : World a) (e : Event) → life_step a (first_whole c) c w e ≡ world_step a c w e
life_first a c w (Start node (Some reading)) =
    (λ i. node_acted a w node reading ((w.time, reading) ∷ []) (begun_first a c node (kept_of w node) i)) ∙ sym (starts_is a c w node reading)
life_first a c w (Start actor None) = refl
life_first a c w (Stop actor) = refl
life_first a c w (Tick advance readings) = refl
life_first a c w (Fire node) = refl
life_first a c w (Give frame) = refl
life_first a c w (Do node command) = refl
life_first a c w (Junk actor bytes) = refl
