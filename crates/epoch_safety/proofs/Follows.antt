-- The machines of all partitions beside the world.
--
-- Of each node the last state above the ring stays known when it stops: what its records amount to is that state begun again,
-- so a start is a restart of the machines' replicas. Whoever has left does nothing above, and one that begins with all
-- numbers of instances used up has left, so only who has not left need show the machines as a manager.
use Rattle.std.proofs.Common.{◌≡◌, ℕ, ◌<◌, true, false, List, [], ◌∷◌, Some, refl, inl, inr, ⊎_elim, ◌⊎◌}
use Rattle.fabric_lemmas.specs.Maps.{at, rises}
use Rattle.fabric_lemmas.specs.Members.{IsMember}
use Rattle.fabric_terms.specs.declared.message.Body.{Body}
use Rattle.fabric_terms.specs.declared.message.Message.{Message}
use Rattle.fabric_terms.specs.declared.record.Record.{Record}
use Rattle.join_phases.specs.Phases.{is_left}
use Rattle.ring_points.specs.declared.who.Who.{Who}
use Rattle.ring_points.specs.Whos.{arbiter_actor}
use Rattle.epoch_machine.specs.Invariant.{Invariant}
use Rattle.unit_rules.specs.Manager.{Managed}
use Rattle.unit_rules.specs.Registers.{Registers, registers_after}
use Rattle.unit_rules.specs.Steps.{Failover, failover_begun}
use Rattle.unit_rules.specs.Units.{units}
use Rattle.world_rules.specs.Arbiters.{ArbiterState}
use Rattle.world_rules.specs.Nodes.{boots_of}
use Rattle.world_rules.specs.Worlds.{World, Running, kept_of, posted}
use Rattle.replica_records.specs.ReplicaStates.{state_at, begun_again}
use Rattle.epoch_refinement.specs.Epochs.{settings_to}
use Rattle.epoch_refinement.specs.Nodes.{Machines, ShowsArbiter}
use Rattle.epoch_refinement.specs.Reconfigs.{ShowsManager}
use Rattle.epoch_refinement.specs.ReplicaStates.{ShowsReplicaState}
use Rattle.epoch_refinement.specs.Shown.{partition_of, Shown}
use Rattle.replica_records.specs.Kept.{AreKept}
use Rattle.epoch_safety.proofs.Telling.{Tellings}

-- a manager that knows of no unit
abbrev pub no_units : Managed
no_units = record { units = []; reconfigs = [] }

-- the registers that an arbitrator's records amount to
abbrev pub registers_in : World units → ℕ → Registers
registers_in w arbiter = registers_after [] (kept_of w (arbiter_actor arbiter))

-- a node that has not left: the instance x is the machines' manager, and its records amount to its replicas
pub record Acting (k : ℕ) (m : Machines) (records : List Record) (x : Who) (u : Failover) : Type 0 where
  pub managers : (p : ℕ) → ShowsManager (m p) k p x u.managed
  pub states_rise : rises u.states ≡ true
  pub reconfigs_rise : rises u.managed.reconfigs ≡ true
  pub kept : AreKept records u

-- the machines follow the world in which this was told, by k arbitrators
pub record Follows (k : ℕ) (w : World units) (t : Tellings) (m : Machines) : Type 0 where
  pub inv : (p : ℕ) → Invariant (settings_to k) (m p)
  pub last : ℕ → Failover
  pub states : (node p : ℕ) → ShowsReplicaState (m p) p node (state_at p (last node))
  pub begins : (node p : ℕ) → node < 32768 → state_at p (failover_begun (kept_of w node)) ≡ begun_again (state_at p (last node))
  -- no node has the number of an arbitrator's actor
  pub low : (node : ℕ) (s : Running units) → at node w.nodes ≡ Some s → node < 32768
  pub here : (node : ℕ) (s : Running units) → at node w.nodes ≡ Some s → is_left s.node.ring.phase ≡ false → last node ≡ s.node.above
  pub acts : (node : ℕ) (s : Running units) → at node w.nodes ≡ Some s → is_left s.node.ring.phase ≡ false →
      Acting k m (kept_of w node) s.node.ring.me s.node.above
  -- an instance that has not begun has attempted nothing
  pub fresh : (y : Who) (p : ℕ) → boots_of (kept_of w y.actor) < y.instance → ShowsManager (m p) k p y no_units
  pub registers : (arbiter : ℕ) → ShowsArbiter m (arbiter_actor arbiter) (registers_in w arbiter)
  pub beside : (arbiter : ℕ) (s : ArbiterState units) → at arbiter w.arbiters ≡ Some s → s.beside ≡ registers_in w arbiter
  pub frames : (f : Message) → IsMember f w.frames → Shown (m (partition_of f.body)) (partition_of f.body) f.from f.to f.body
  pub told : (p : ℕ) → (m p).told ≡ t p

-- a frame was posted now or before
pub posted_cases : (from : Who) (ms : List (Who × Body)) (frames : List Message) (f : Message) → IsMember f (posted from ms frames) →
    IsMember f frames ⊎ ((z : Who × Body) × IsMember z ms × (f ≡ record { from = from; to = z.0; body = z.1 }))
posted_cases from [] frames f m = inl m
posted_cases from (s ∷ ms) frames f m =
    ⊎_elim now (λ g. inr (g.0, inr g.1, g.2)) (posted_cases from ms (record { from = from; to = s.0; body = s.1 } ∷ frames) f m)
  where
    now : IsMember f (record { from = from; to = s.0; body = s.1 } ∷ frames) →
        IsMember f frames ⊎ ((z : Who × Body) × IsMember z (s ∷ ms) × (f ≡ record { from = from; to = z.0; body = z.1 }))
    now (inl e) = inr (s, inl refl, e)
    now (inr g) = inl g
