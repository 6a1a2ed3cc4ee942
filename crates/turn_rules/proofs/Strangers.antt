-- Where nobody is configured, nobody has an address.
use Rattle.std.proofs.Common.{◌≡◌, ℕ, Bool, true, false, List, [], ◌∷◌, ◌++◌, Option, None, refl, ap, ◌∙◌}
use Rattle.std.specs.Prelude.{◌==◌, find, option_map}
use Rattle.fabric_terms.specs.declared.config.FabricConfig.{FabricConfig}
use Rattle.fabric_terms.specs.declared.config.NodeEntry.{NodeEntry}
use Rattle.fabric_terms.specs.declared.message.Message.{Message}
use Rattle.world_rules.specs.Events.{arbiter_number, is_arbiter_actor}
use Rattle.turn_rules.specs.Works.{address_as, address_of, post_at, posts_of}

no_address : (c : FabricConfig) (actor : ℕ) → c.nodes ≡ [] → c.arbiters ≡ [] → (b : Bool) → address_as c actor b ≡ None
no_address c actor e f true = ap (λ (es : List (ℕ × List ℕ)). option_map (λ a. a.1) (find (λ a. a.0 == arbiter_number actor) es)) f
no_address c actor e f false = ap (λ (ns : List NodeEntry). option_map (λ n. n.at) (find (λ n. n.node == actor) ns)) e

pub none_to_strangers : (c : FabricConfig) (ms : List Message) → c.nodes ≡ [] → c.arbiters ≡ [] → posts_of c ms ≡ []
unfolding address_of
none_to_strangers c [] e f = refl
none_to_strangers c (m ∷ ms) e f =
    ap (λ (o : Option (List ℕ)). post_at m o ++ posts_of c ms) (no_address c m.to.actor e f (is_arbiter_actor m.to.actor)) ∙ none_to_strangers c ms e f
