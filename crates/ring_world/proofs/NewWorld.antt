-- A world where nothing has happened stands for the empty history.
use Rattle.std.proofs.Common.{◌≡◌, ℕ, zero, suc, ◌+◌, ◌⊎◌, inl, inr, List, [], ◌∷◌, ◌++◌, Some, refl, sym, ap, subst, ◌∙◌, arith, length, replicate}
use Rattle.std.specs.Prelude.{slice_get}
use Rattle.std.proofs.lemmas.List.{length-append, length-replicate, get_or-replicate}
use Rattle.std.proofs.lemmas.Option.{get_or_from_slice_get, slice_get_within}
use Rattle.fabric_terms.specs.Places.{With}
use Rattle.fabric_terms.specs.Sound.{IsSound}
use Rattle.fabric_terms.specs.declared.config.FabricConfig.{FabricConfig}
use Rattle.point_places.specs.Spots.{place_at}
use Rattle.ring_points.specs.Whos.{node_instance}
use Rattle.unit_rules.specs.Fabric.{fabric}
use Rattle.world_rules.specs.Worlds.{empty_world}
use Rattle.ring_world.specs.Answers.{StandsFor}
use Rattle.ring_world.specs.Running.{last_node}
use Rattle.node_core.specs.Nodes.{nothing_kept}
use Rattle.node_core.specs.declared.kept.NodeKept.{NodeKept}
use Rattle.ring_world.specs.ConfiguredArbiters.{AreEmpty, IsSeat, empty_seat}
use Rattle.ring_world.specs.Seen.{Seen, seen_of}
use Rattle.ring_world.specs.Stands.{IsKeptFor, KeptStand, SeenStands}
use Rattle.ring_world.specs.declared.configured_arbiter.ConfiguredArbiter.{ConfiguredArbiter}
use Rattle.ring_world.proofs.KeptReplicas.{none_kept}
use Rattle.ring_world.specs.declared.world.World.{World}

-- what a new world has
abbrev pub new_seen : FabricConfig → List NodeKept → List ConfiguredArbiter → Seen
new_seen c kept seats =
    record {
      config = c;
      time = 0;
      events = 0;
      running = [];
      clocks = [];
      kept = kept;
      seats = seats;
      frames = [];
      sent = 0;
    }

all_same : {X : Type 0} (n : ℕ) (x : X) (k : ℕ) (y : X) → slice_get (replicate n x) k ≡ Some y → y ≡ x
all_same n x k y g =
    let lt = slice_get_within (replicate n x) k y g in
    sym (get_or_from_slice_get (replicate n x) k y y g) ∙ get_or-replicate n k x y (let few = length-replicate n x in omega arith)

-- what stands in a list with one more is the last, or was there
get_last : {X : Type 0} (xs : List X) (y : X) (k : ℕ) (x : X) → slice_get (xs ++ y ∷ []) k ≡ Some x → ((k ≡ length xs) × (x ≡ y)) ⊎ (slice_get xs k ≡ Some x)
get_last [] y zero x e = inl (refl, cc)
get_last [] y (suc k) x e = absurd (cc)
get_last (q ∷ xs) y zero x e = inr e
get_last (q ∷ xs) y (suc k) x e = elim (get_last xs y k x e) [ inl h ↦ inl (ap suc h.0, h.1) | inr h ↦ inr h ]

-- nothing is kept of any node
kept_is : (n : ℕ) (kept : List NodeKept) → n ≡ last_node + 1 → kept ≡ replicate n nothing_kept → KeptStand kept (empty_world fabric)
kept_is n kept many e = record {
  table = ap length e ∙ (length-replicate n nothing_kept ∙ many);
  running = λ node s le h. absurd (cc);
  stopped = λ node k h g.
      let there : slice_get (replicate n nothing_kept) node ≡ Some k = ap (λ (ks : List NodeKept). slice_get ks node) (sym e) ∙ g in
      subst (λ (x : NodeKept). IsKeptFor [] x) (sym (all_same n nothing_kept node k there)) none_kept;
}

-- one more arbitrator that has recorded nothing
pub empty_more : (n : ℕ) (seats : List ConfiguredArbiter) (s : ConfiguredArbiter) → AreEmpty n seats → s ≡ empty_seat (n + 1) → AreEmpty (n + 1) (seats ++ s ∷ [])
empty_more n seats s h is = record {
  many = let size = length-append seats (s ∷ []) in omega (arith, h.many, size);
  each = λ k x g. one seats k x h.each (h.many) g;
}
  where
    one : (rest : List ConfiguredArbiter) (k : ℕ) (x : ConfiguredArbiter) → ((j : ℕ) (y : ConfiguredArbiter) → slice_get rest j ≡ Some y → y ≡ empty_seat (j + 1)) → length rest ≡ n → slice_get (rest ++ s ∷ []) k ≡ Some x → x ≡ empty_seat (k + 1)
    one rest k x each many g = elim (get_last rest s k x g) [
      | inl h ↦ h.1 ∙ (is ∙ ap (λ j. empty_seat (j + 1)) (sym (h.0 ∙ many)))
      | inr h ↦ each k x h
    ]

seat_is : (k : ℕ) → IsSeat (empty_world fabric) 0 k (empty_seat k)
seat_is k = record { running = refl; kept = refl; few = omega arith }

pub new_stands : (c : FabricConfig) (n : ℕ) (kept : List NodeKept) (seats : List ConfiguredArbiter) → IsSound c → n ≡ last_node + 1 → kept ≡ replicate n nothing_kept → AreEmpty (length c.arbiters) seats → SeenStands (new_seen c kept seats) (empty_world fabric)
new_stands c n kept seats sound many none empty = record {
  sound = sound;
  time = refl;
  in_time = omega arith;
  few_events = omega arith;
  nodes = record { rise = refl; running = tt; clocks = refl; few = omega arith; kept = kept_is n kept many none };
  arbiters = record {
    count = empty.many;
    seats = λ k s g. subst (λ (x : ConfiguredArbiter). IsSeat (empty_world fabric) 0 (k + 1) x) (sym (empty.each k s g)) (seat_is (k + 1));
    others = λ arbiter lt. refl;
    from_one = refl;
  };
  frames = record { frames = refl; counted = refl; sent = refl; few = omega arith };
}

pub new_world : (a : World) (n : ℕ) (kept : List NodeKept) (seats : List ConfiguredArbiter) → IsSound a.config → n ≡ last_node + 1 → kept ≡ replicate n nothing_kept → AreEmpty (length a.config.arbiters) seats → seen_of a ≡ new_seen a.config kept seats
    → ((p : ℕ) → place_at a.places p ≡ With (node_instance a.config.first 1)) → StandsFor a a.config []
new_world a n kept seats sound many none empty seen places = record {
  config = refl;
  sound = sound;
  fits = λ i x lt. absurd (omega arith);
  valid = tt;
  keeps = record {
    state = subst (λ (x : Seen). SeenStands x (empty_world fabric)) (sym seen) (new_stands a.config n kept seats sound many none empty);
    events = ap (λ (x : Seen). x.events) seen;
    places = λ p lt. places p;
  };
}
