-- What the cluster does may come in the world that it is.
use Rattle.std.proofs.Common.{arith, ◌≡◌, ◌≤◌, ℕ, Bool, true, List, Option, Some, None, refl, ap, ◌∙◌, nat_le}
use Rattle.std.specs.Prelude.{◌&&◌, not, is_some}
use Rattle.std.proofs.lemmas.Bool.Decides.{nat_tests}
use Rattle.ring_points.specs.Whos.{arbiter_actor}
use Rattle.fabric_terms.specs.declared.command.Command.{Command}
use Rattle.fabric_terms.specs.declared.config.FabricConfig.{FabricConfig}
use Rattle.fabric_terms.specs.declared.event.Event.TheVariants as event
use Rattle.world_rules.specs.Arbiters.{ArbiterState}
use Rattle.world_rules.specs.Events.{arbiter_number}
use Rattle.fabric_lemmas.specs.Maps.{at}
use Rattle.world_rules.specs.Nodes.{NodeState}
use Rattle.world_rules.specs.Schedules.{MayCome, is_there, keeps_bound, is_configured_node, is_configured_arbiter, command_names}
use Rattle.world_rules.specs.Uppers.{Upper}
use Rattle.world_rules.specs.Worlds.{World}
use Rattle.ring_safety.specs.ClusterEvents.{Cluster}
use Rattle.ring_safety.proofs.ClusterMirrors.{Mirrors, runs_as, none_runs, number_of}

both : (x y : Bool) → x ≡ true → y ≡ true → (x && y) ≡ true
both x y e f = rw (e, f) refl

some_there : {X : Type 0} (o : Option X) (x : X) → o ≡ Some x → is_some o ≡ true
some_there {X} o x e = ap (λ (y : Option X). is_some y) e

le_holds : (x y : ℕ) → x ≤ y → nat_le x y ≡ true
le_holds x y h = grind (arith, nat_tests)

pub fire_may : {a : Upper} (is_frame : List ℕ → Bool) (c : FabricConfig) (p : Cluster a) (w : World a) (n : ℕ) (s : NodeState a) → Mirrors {a = a} p w →
    at n p.nodes ≡ Some s → MayCome {a = a} is_frame c w (event.Fire n)
unfolding is_there keeps_bound
fire_may is_frame c p w n s m h = let r = runs_as p w n s m h in record { there = some_there (at n w.nodes) r.state r.here; bound = refl }

pub bid_may : {a : Upper} (is_frame : List ℕ → Bool) (c : FabricConfig) (p : Cluster a) (w : World a) (n : ℕ) (d : Command) (s : NodeState a) →
    Mirrors {a = a} p w → at n p.nodes ≡ Some s → command_names c n d ≡ true → MayCome {a = a} is_frame c w (event.Do n d)
unfolding is_there keeps_bound
bid_may is_frame c p w n d s m h names = let r =
    runs_as p w n s m h in record {
      there = both (is_some (at n w.nodes)) (command_names c n d) (some_there (at n w.nodes) r.state r.here) names;
      bound = refl;
    }

pub give_may : {a : Upper} (is_frame : List ℕ → Bool) (c : FabricConfig) (p : Cluster a) (w : World a) (k : ℕ) → Mirrors {a = a} p w → 1 ≤ k → k ≤ p.count →
    MayCome {a = a} is_frame c w (event.Give k)
unfolding is_there keeps_bound
give_may is_frame c p w k m low high =
    record { there = both (nat_le 1 k) (nat_le k w.count) (le_holds 1 k low) (le_holds k w.count (omega (arith, m.count))); bound = refl }

pub start_may : {a : Upper} (is_frame : List ℕ → Bool) (c : FabricConfig) (p : Cluster a) (w : World a) (n u : ℕ) → Mirrors {a = a} p w →
    is_configured_node c n ≡ true → at n p.nodes ≡ None → MayCome {a = a} is_frame c w (event.Start n (Some u))
unfolding is_there keeps_bound
start_may is_frame c p w n u m named none =
    record { there = both (is_configured_node c n) (not (is_some (at n w.nodes))) named (ap not (none_runs p w n m none)); bound = refl }

pub stand_may : {a : Upper} (is_frame : List ℕ → Bool) (c : FabricConfig) (p : Cluster a) (w : World a) (n : ℕ) → Mirrors {a = a} p w →
    is_configured_arbiter c (arbiter_actor n) ≡ true → at n p.arbiters ≡ None → MayCome {a = a} is_frame c w (event.Start (arbiter_actor n) None)
unfolding is_there keeps_bound
stand_may {a} is_frame c p w n m named none =
    let gone : at (arbiter_number (arbiter_actor n)) w.arbiters ≡ None = ap (λ (k : ℕ). at k w.arbiters) (number_of n) ∙ ap (at n) m.arbiters ∙ none in
    record { there = both (is_configured_arbiter c (arbiter_actor n)) (not (is_some (at (arbiter_number (arbiter_actor n)) w.arbiters))) named (ap (λ (o : Option (ArbiterState a)). not (is_some o)) gone); bound = refl }
