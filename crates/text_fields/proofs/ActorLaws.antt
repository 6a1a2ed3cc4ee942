-- Nodes, arbitrators and actors are read exactly where they are spelled.
use Rattle.std.proofs.Common.{lit<, ◌≡◌, ℕ, ◌-◌, ◌≤◌, ◌<◌, true, false, nat_lt, ⊎_elim, inl, inr, List, ◌++◌, None, arith, refl, ap, sym}
use Rattle.std.specs.Prelude.{decimal, codes}
use Rattle.std.proofs.lemmas.Bool.Decides.{nat_tests}
use Rattle.ring_points.specs.Limits.{most_arbiters, most_node_number}
use Rattle.ring_points.specs.Whos.{arbiter_actor}
use Rattle.fabric_terms.specs.Ranges.{IsNode, IsArbiter, IsActor}
use Rattle.text_fields.specs.Actors.{node_at, arbiter_at, actor_at, actor_text}
use Rattle.text_fields.specs.Fields.{last}
use Rattle.text_fields.specs.Inverses.{IsField, IsRest, EndsNumber}
use Rattle.text_fields.specs.Numbers.{number_in}
use Rattle.text_fields.proofs.FieldLaws.{last_is, made_at_is, choice_is}
use Rattle.text_fields.proofs.NumberLaws.{number_is}

pub node_is : IsField node_at IsNode decimal EndsNumber
node_is = number_is 1 most_node_number (lit< tt)

pub last_node_is : IsRest (last node_at) IsNode decimal
last_node_is = last_is node_is tt

abbrev pub arbiter_number : ℕ → List ℕ
arbiter_number a = decimal (a - arbiter_actor 0)

pub arbiter_is : IsField arbiter_at IsArbiter arbiter_number EndsNumber
arbiter_is =
    made_at_is (number_is 1 most_arbiters (lit< tt)) arbiter_actor IsArbiter arbiter_number
    (λ a h.
    let back : a ≡ arbiter_actor a - arbiter_actor 0 = omega arith in
    ((omega (arith, h.0), omega (arith, h.1)), ap decimal back))
    (λ a h.
    let back : arbiter_actor (a - arbiter_actor 0) ≡ a = omega (arith, h.0) in
    (a - arbiter_actor 0, (omega (arith, h.0), omega (arith, h.1)), back))

-- an arbitrator's number is above the first one's base, and a node's is not
pub of_node : (n : ℕ) → IsNode n → nat_lt (arbiter_actor 0) n ≡ false
of_node n h = below (arbiter_actor 0) n (omega (arith, h.1))
  where
    below : (m n : ℕ) → n ≤ m → nat_lt m n ≡ false
    below m n h = grind (arith, nat_tests)

pub of_arbiter : (a : ℕ) → IsArbiter a → nat_lt (arbiter_actor 0) a ≡ true
of_arbiter a h = above (arbiter_actor 0) a (omega (arith, h.0))
  where
    above : (m n : ℕ) → m < n → nat_lt m n ≡ true
    above m n h = grind (arith, nat_tests)

actor_text_node : (n : ℕ) → IsNode n → actor_text n ≡ decimal n
actor_text_node n h = rw (of_node n h) refl

pub actor_text_arbiter : (a : ℕ) → IsArbiter a → actor_text a ≡ codes "a" ++ arbiter_number a
actor_text_arbiter a h = rw (of_arbiter a h) refl

pub no_letter : (rest : List ℕ) → node_at (codes "a" ++ rest) ≡ None
unfolding number_in
no_letter rest = refl

pub actor_is : IsField actor_at IsActor actor_text EndsNumber
actor_is =
    choice_is (codes "a") arbiter_is node_is no_letter IsActor actor_text
    (λ a h. (inr h, sym (actor_text_arbiter a h)))
    (λ n h. (inl h, sym (actor_text_node n h)))
    (λ a h. ⊎_elim inr inl h)
