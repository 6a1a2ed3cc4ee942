-- A message that comes to its addressee, or is lost.
use Rattle.std.proofs.Common.{◌≡◌, ℕ, zero, suc, ◌+◌, ◌-◌, ◌≤◌, ◌<◌, Bool, true, false, List, [], ◌∷◌, Some, None, refl, sym, ap, subst, ◌∙◌, arith, length, get_or}
use Rattle.std.specs.Prelude.{◌==◌, ◌||◌, ◌&&◌, nat_le, slice_get, All}
use Rattle.std.proofs.lemmas.Bool.{and_parts}
use Rattle.std.proofs.lemmas.Bool.Decides.{nat_tests}
use Rattle.std.proofs.lemmas.Option.{get_or_from_slice_get, slice_get_within}
use Rattle.fabric_terms.specs.declared.message.Message.{Message}
use Rattle.frame_bag.specs.Bags.{frame_if, frame_of}
use Rattle.ring_points.specs.Whos.{arbiter_actor}
use Rattle.ring_points.specs.declared.who.Who.{Who}
use Rattle.ring_rules.specs.declared.input.Input.{Input}
use Rattle.ring_rules.specs.declared.input.Input.TheVariants as input
use Rattle.world_rules.specs.Arbiters.{ArbiterState, arbiter_step}
use Rattle.world_rules.specs.Events.{arbiter_number, arrives, arrives_at, arrives_at_arbiter, arrives_at_node, arrives_if, is_arbiter_actor, node_acts}
use Rattle.fabric_lemmas.specs.Maps.{at}
use Rattle.unit_rules.specs.Fabric.{fabric}
use Rattle.world_rules.specs.Worlds.{World as RuledWorld, arbiter_acted, quiet}
use Rattle.ring_world.specs.Finds.{IsAt}
use Rattle.ring_world.specs.Stands.{Stands}
use Rattle.ring_world.specs.declared.world.World.{World}
use Rattle.ring_world.proofs.NodePlaces.{placed, read_at}
use Rattle.ring_world.proofs.Seats.{seat_number}

-- at a node

abbrev pub is_meant_for : Who → Who → Bool
is_meant_for to me = to.instance == 0 || to.instance == me.instance

module _ (a : World) (w : RuledWorld fabric) (m : Message) where
  pub lost_at_node : at m.to.actor w.nodes ≡ None → arrives_at_node fabric a.config w m (at m.to.actor w.nodes) ≡ quiet fabric w
  lost_at_node none = ap (λ o. arrives_at_node fabric a.config w m o) none

  module _ (place : ℕ) (clock : Who × ℕ) (st : Stands a w) (k : IsAt m.to.actor place w.nodes) (read : clock ≡ get_or a.clocks.items place clock) where
    me_is : clock.0 ≡ k.value.node.ring.me
    me_is =
        let here = placed a w place m.to.actor k.value st k.here in
        ap (λ (q : Who × ℕ). q.0) (read_at a.clocks.items place (k.value.node.ring.me, k.value.reading) clock here.clock read)

    by_test : (b : Bool) → is_meant_for m.to clock.0 ≡ b → arrives_at_node fabric a.config w m (at m.to.actor w.nodes) ≡ arrives_if fabric a.config w m k.value b
    by_test b e =
        ap (λ o. arrives_at_node fabric a.config w m o) k.found
        ∙ ap (λ b. arrives_if fabric a.config w m k.value b) (ap (λ (x : Who). is_meant_for m.to x) (sym me_is) ∙ e)

    pub lost_to_instance : is_meant_for m.to clock.0 ≡ false → arrives_at_node fabric a.config w m (at m.to.actor w.nodes) ≡ quiet fabric w
    lost_to_instance e = by_test false e

    pub reaches_instance : (i : Input) → i ≡ input.Frame m → is_meant_for m.to clock.0 ≡ true
        → arrives_at_node fabric a.config w m (at m.to.actor w.nodes) ≡ node_acts fabric a.config w m.to.actor i k.value
    reaches_instance i same e = by_test true e ∙ ap (λ (j : Input). node_acts fabric a.config w m.to.actor j k.value) (sym same)

-- at an arbitrator

module _ (a : World) (w : RuledWorld fabric) (m : Message) (far : arbiter_actor 0 < m.to.actor) where
  is_arbiter : is_arbiter_actor m.to.actor ≡ true
  is_arbiter = grind (arith, nat_tests)

  pub to_arbiter : arrives fabric a.config w (Some m) ≡ arrives_at_arbiter fabric a.config w m (arbiter_number m.to.actor) (at (arbiter_number m.to.actor) w.arbiters)
  to_arbiter = ap (λ b. arrives_at fabric a.config w m b) is_arbiter

  pub lost_at_arbiter : at (arbiter_number m.to.actor) w.arbiters ≡ None → arrives fabric a.config w (Some m) ≡ quiet fabric w
  lost_at_arbiter none = to_arbiter ∙ ap (λ o. arrives_at_arbiter fabric a.config w m (arbiter_number m.to.actor) o) none

  pub reaches_arbiter : (place : ℕ) (s : ArbiterState fabric) → m.to.actor ≡ arbiter_actor (place + 1) → at (place + 1) w.arbiters ≡ Some s
      → arrives fabric a.config w (Some m) ≡ arbiter_acted fabric w (place + 1) (arbiter_step fabric a.config (place + 1) m s)
  reaches_arbiter place s name there =
      to_arbiter
      ∙ (ap (λ k. arrives_at_arbiter fabric a.config w m k (at k w.arbiters)) (seat_number m.to.actor place name)
      ∙ ap (λ o. arrives_at_arbiter fabric a.config w m (place + 1) o) there)

-- at a node's number the message comes to the node
pub to_node : (a : World) (w : RuledWorld fabric) (m : Message) → m.to.actor ≤ arbiter_actor 0 → arrives fabric a.config w (Some m) ≡ arrives_at_node fabric a.config w m (at m.to.actor w.nodes)
to_node a w m le = let none : is_arbiter_actor m.to.actor ≡ false = grind (arith, nat_tests) in ap (λ b. arrives_at fabric a.config w m b) none

-- the frame of a number

none_past : {X : Type 0} (xs : List X) (i : ℕ) → slice_get xs i ≡ None → length xs ≤ i
none_past [] i e = omega arith
none_past (x ∷ xs) zero e = absurd (cc)
none_past (x ∷ xs) (suc i) e = let more = none_past xs i e in omega arith

pub frame_none : (n : ℕ) (fs : List Message) → frame_of n fs ≡ None → (nat_le 1 n && nat_le n (length fs)) ≡ false
frame_none n fs e = by_test (nat_le 1 n && nat_le n (length fs)) refl e
  where
    by_test : (b : Bool) → (nat_le 1 n && nat_le n (length fs)) ≡ b → frame_if n fs b ≡ None → b ≡ false
    by_test false t h = refl
    by_test true t h =
        let past = none_past fs (length fs - n) h in
        let parts = and_parts (nat_le 1 n) (nat_le n (length fs)) t in
        let one : nat_le 1 n ≡ true = parts.0 in
        let most : nat_le n (length fs) ≡ true = parts.1 in
        absurd (grind (arith, nat_tests))

pub frame_some : (n : ℕ) (fs : List Message) (m : Message) → frame_of n fs ≡ Some m → ((nat_le 1 n && nat_le n (length fs)) ≡ true) × (slice_get fs (length fs - n) ≡ Some m)
frame_some n fs m e = by_test (nat_le 1 n && nat_le n (length fs)) refl e
  where
    by_test : (b : Bool) → (nat_le 1 n && nat_le n (length fs)) ≡ b → frame_if n fs b ≡ Some m → (b ≡ true) × (slice_get fs (length fs - n) ≡ Some m)
    by_test false t h = absurd (cc)
    by_test true t h = (refl, h)

-- what holds of all frames holds of one of them
pub all_at : (P : Message → Type 0) (fs : List Message) (i : ℕ) (m : Message) → All P fs → slice_get fs i ≡ Some m → P m
all_at P fs i m h e =
    let lt = slice_get_within fs i m e in
    subst P (get_or_from_slice_get fs i m m e) (h i m lt)
