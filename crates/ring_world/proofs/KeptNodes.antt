-- What is kept of nodes, before and after an event.
use Rattle.std.proofs.Common.{◌≡◌, ℕ, ◌+◌, ◌≤◌, inl, inr, Bool, true, false, cond, List, [], ◌∷◌, Some, None, refl, sym, ap, subst, ◌∙◌, arith, length}
use Rattle.std.specs.Prelude.{◌==◌, map, slice_get, slice_set, unwrap_or}
use Rattle.std.proofs.lemmas.Bool.{eqb-true}
use Rattle.std.proofs.lemmas.List.{length-set}
use Rattle.std.proofs.lemmas.Option.{slice_get_within}
use Rattle.fabric_terms.specs.declared.record.Record.{Record}
use Rattle.node_core.specs.Nodes.{kept_in}
use Rattle.node_core.specs.declared.kept.NodeKept.{NodeKept}
use Rattle.world_rules.specs.Events.{ticked}
use Rattle.world_rules.specs.Nodes.{NodeState}
use Rattle.fabric_lemmas.specs.Maps.{at, put, without}
use Rattle.fabric_lemmas.proofs.Maps.{at-put, at-without}
use Rattle.unit_rules.specs.Fabric.{fabric}
use Rattle.world_rules.specs.Worlds.{World as RuledWorld, Running as RuledRunning, kept_of}
use Rattle.ring_world.specs.Running.{last_node}
use Rattle.ring_world.specs.Stands.{IsKeptAs, IsKeptFor, KeptStand}
use Rattle.ring_world.proofs.KeptReplicas.{ended_kept}
use Rattle.ring_world.proofs.Maps.{equal}
use Rattle.ring_world.proofs.Nodes.{Ruled}
use Rattle.ring_world.proofs.SeatChanges.{get_set}

-- the same node ran at this number
pub record RanAs (es : List Ruled) (node : ℕ) (x : RuledRunning fabric) : Type 0 where
  pub before : RuledRunning fabric
  pub there : at node es ≡ Some before
  pub same : before.node ≡ x.node

-- the same nodes run
pub record SameRun (es fs : List Ruled) : Type 0 where
  pub none : (node : ℕ) → at node fs ≡ None → at node es ≡ None
  pub some : (node : ℕ) (x : RuledRunning fabric) → at node fs ≡ Some x → RanAs es node x

pub same_run : (es : List Ruled) → SameRun es es
same_run es = record { none = λ node e. e; some = λ node x e. record { before = x; there = e; same = refl } }

within : (kept : List NodeKept) (node : ℕ) (k : NodeKept) → length kept ≡ last_node + 1 → slice_get kept node ≡ Some k → node ≤ last_node
within kept node k table g = let lt = slice_get_within kept node k g in omega arith

-- what is kept with records is kept with the same records

kept_as : (rs qs : List Record) (n : NodeState fabric) → qs ≡ rs → IsKeptAs rs n → IsKeptAs qs n
kept_as rs qs n same k = subst (λ (x : List Record). IsKeptAs x n) (sym same) k

kept_for : (rs qs : List Record) (k : NodeKept) → qs ≡ rs → IsKeptFor rs k → IsKeptFor qs k
kept_for rs qs k same h = subst (λ (x : List Record). IsKeptFor x k) (sym same) h

-- an event at which no node does anything
pub kept_follows : (kept : List NodeKept) (w v : RuledWorld fabric) → KeptStand kept w → SameRun w.nodes v.nodes → ((node : ℕ) → node ≤ last_node → kept_of v node ≡ kept_of w node) → KeptStand kept v
kept_follows kept w v s run same = record {
  table = s.table;
  running = λ node x le e.
      let ran = run.some node x e in
      subst (λ (n : NodeState fabric). IsKeptAs (kept_of v node) n) ran.same
      (kept_as (kept_of w node) (kept_of v node) ran.before.node (same node le) (s.running node ran.before le ran.there));
  stopped = λ node k e g. kept_for (kept_of w node) (kept_of v node) k (same node (within kept node k s.table g)) (s.stopped node k (run.none node e) g);
}

-- clocks show other readings
module _ (time : ℕ) (readings : List (ℕ × ℕ)) where
  abbrev ticks : List Ruled → List Ruled
  ticks es = map (ticked {a = fabric} time readings) es

  none_before : (m : ℕ) (es : List Ruled) → at m (ticks es) ≡ None → at m es ≡ None
  none_before m [] e = refl
  none_before m (q ∷ es) e = by_test (q.0 == m) (none_before m es) e
    where
      by_test : (b : Bool) → (at m (ticks es) ≡ None → at m es ≡ None) → cond b (Some (ticked {a = fabric} time readings q).1) (at m (ticks es)) ≡ None → cond b (Some q.1) (at m es) ≡ None
      by_test true more e = absurd (cc)
      by_test false more e = more e

  ran_before : (m : ℕ) (x : RuledRunning fabric) (es : List Ruled) → at m (ticks es) ≡ Some x → RanAs es m x
  ran_before m x [] e = absurd (cc)
  ran_before m x (q ∷ es) e = by_test (q.0 == m) refl (ran_before m x es) e
    where
      by_test : (b : Bool) → (q.0 == m) ≡ b → (at m (ticks es) ≡ Some x → RanAs es m x) → cond b (Some (ticked {a = fabric} time readings q).1) (at m (ticks es)) ≡ Some x → RanAs (q ∷ es) m x
      by_test true t more e =
          let is : (ticked {a = fabric} time readings q).1 ≡ x = cc in
          record { before = q.1; there = ap (λ b. cond b (Some q.1) (at m es)) t; same = ap (λ (z : RuledRunning fabric). z.node) is }
      by_test false t more e =
          let ran = more e in
          record { before = ran.before; there = ap (λ b. cond b (Some q.1) (at m es)) t ∙ ran.there; same = ran.same }

  pub tick_run : (es : List Ruled) → SameRun es (ticks es)
  tick_run es = record { none = λ m e. none_before m es e; some = λ m x e. ran_before m x es e }

-- one node runs on, or begins to, and what is kept of the others stays
kept_put : (kept ks : List NodeKept) (w v : RuledWorld fabric) (node : ℕ) (y : RuledRunning fabric) → KeptStand kept w → length ks ≡ length kept
    → ((m : ℕ) (k : NodeKept) → (node == m) ≡ false → slice_get ks m ≡ Some k → slice_get kept m ≡ Some k) → v.nodes ≡ put node y w.nodes
    → IsKeptAs (kept_of v node) y.node → ((m : ℕ) → (node == m) ≡ false → kept_of v m ≡ kept_of w m) → KeptStand ks v
kept_put kept ks w v node y s size same nodes mine other = record {
  table = size ∙ s.table;
  running = λ m x le e. running_by m x le (node == m) refl (sym (at-put node y w.nodes m) ∙ (ap (λ es. at m es) (sym nodes) ∙ e));
  stopped = λ m k e g. stopped_by m k g (node == m) refl (sym (at-put node y w.nodes m) ∙ (ap (λ es. at m es) (sym nodes) ∙ e));
}
  where
    running_by : (m : ℕ) (x : RuledRunning fabric) → m ≤ last_node → (b : Bool) → (node == m) ≡ b → cond b (Some y) (at m w.nodes) ≡ Some x → IsKeptAs (kept_of v m) x.node
    running_by m x le true t e =
        let is : y ≡ x = cc in
        subst (λ (n : ℕ). IsKeptAs (kept_of v n) x.node) (eqb-true node m t) (subst (λ (z : RuledRunning fabric). IsKeptAs (kept_of v node) z.node) is mine)
    running_by m x le false t e = kept_as (kept_of w m) (kept_of v m) x.node (other m t) (s.running m x le e)

    stopped_by : (m : ℕ) (k : NodeKept) → slice_get ks m ≡ Some k → (b : Bool) → (node == m) ≡ b → cond b (Some y) (at m w.nodes) ≡ None → IsKeptFor (kept_of v m) k
    stopped_by m k g true t e = absurd (cc)
    stopped_by m k g false t e = kept_for (kept_of w m) (kept_of v m) k (other m t) (s.stopped m k e (same m k t g))

-- a node does something
pub kept_stepped : (kept : List NodeKept) (w v : RuledWorld fabric) (node : ℕ) (y : RuledRunning fabric) → KeptStand kept w → v.nodes ≡ put node y w.nodes
    → IsKeptAs (kept_of v node) y.node → ((m : ℕ) → (node == m) ≡ false → kept_of v m ≡ kept_of w m) → KeptStand kept v
kept_stepped kept w v node y s nodes mine other = kept_put kept kept w v node y s refl (λ m k t g. g) nodes mine other

-- a node starts: what was kept of it is its own
pub kept_begun : (kept : List NodeKept) (w v : RuledWorld fabric) (node : ℕ) (none : NodeKept) (y : RuledRunning fabric) → KeptStand kept w → v.nodes ≡ put node y w.nodes
    → IsKeptAs (kept_of v node) y.node → ((m : ℕ) → (node == m) ≡ false → kept_of v m ≡ kept_of w m) → KeptStand (slice_set kept node none) v
kept_begun kept w v node none y s nodes mine other =
    kept_put kept (slice_set kept node none) w v node y s (length-set kept node none) (λ m k t g. was m k t g) nodes mine other
  where
    was : (m : ℕ) (k : NodeKept) → (node == m) ≡ false → slice_get (slice_set kept node none) m ≡ Some k → slice_get kept m ≡ Some k
    was m k t g = elim (get_set kept node m none k g) [
      | inl h ↦ let same : (node == m) ≡ true = ap (λ n. node == n) h.0 ∙ equal node in absurd (cc (same, t))
      | inr h ↦ h.1
    ]

-- a node stops: what was its own is kept of it again
pub kept_ended : (kept : List NodeKept) (w v : RuledWorld fabric) (node : ℕ) (x : RuledRunning fabric) → KeptStand kept w → v.nodes ≡ without node w.nodes
    → at node w.nodes ≡ Some x → node ≤ last_node → v.kept ≡ w.kept → KeptStand (slice_set kept node (kept_in x.node)) v
kept_ended kept w v node x s nodes there small same = record {
  table = length-set kept node (kept_in x.node) ∙ s.table;
  running = λ m y le e. running_by m y le (node == m) (sym (at-without node w.nodes m) ∙ (ap (λ es. at m es) (sym nodes) ∙ e));
  stopped = λ m k e g. stopped_by m k g (node == m) refl (sym (at-without node w.nodes m) ∙ (ap (λ es. at m es) (sym nodes) ∙ e));
}
  where
    kept_is : (m : ℕ) → kept_of v m ≡ kept_of w m
    kept_is m = ap (λ ks. unwrap_or (at m ks) []) same

    running_by : (m : ℕ) (y : RuledRunning fabric) → m ≤ last_node → (b : Bool) → cond b None (at m w.nodes) ≡ Some y → IsKeptAs (kept_of v m) y.node
    running_by m y le true e = absurd (cc)
    running_by m y le false e = kept_as (kept_of w m) (kept_of v m) y.node (kept_is m) (s.running m y le e)

    stopped_by : (m : ℕ) (k : NodeKept) → slice_get (slice_set kept node (kept_in x.node)) m ≡ Some k → (b : Bool) → (node == m) ≡ b → cond b None (at m w.nodes) ≡ None → IsKeptFor (kept_of v m) k
    stopped_by m k g b t e = elim (get_set kept node m (kept_in x.node) k g) [
      | inl h ↦
          let mine : IsKeptFor (kept_of v m) (kept_in x.node) =
          kept_for (kept_of w node) (kept_of v m) (kept_in x.node) (kept_is m ∙ ap (λ n. kept_of w n) h.0) (ended_kept (kept_of w node) x.node (s.running node x small there)) in
          subst (λ (q : NodeKept). IsKeptFor (kept_of v m) q) (sym h.1) mine
      | inr h ↦ others m k h.0 h.1 b t e
    ]
      where
        others : (m : ℕ) (k : NodeKept) → (m ≡ node → ⊥) → slice_get kept m ≡ Some k → (b : Bool) → (node == m) ≡ b → cond b None (at m w.nodes) ≡ None → IsKeptFor (kept_of v m) k
        others m k far g true t e = absurd (far (sym (eqb-true node m t)))
        others m k far g false t e = kept_for (kept_of w m) (kept_of v m) k (kept_is m) (s.stopped m k e g)
