-- Instances are read exactly where they are spelled.
use Rattle.std.proofs.Common.{lit<, ◌≡◌, ⊎_elim, ℕ, inl, inr, List, ◌++◌, None, arith, refl, ap, sym}
use Rattle.std.specs.Prelude.{decimal, codes}
use Rattle.ring_points.specs.Limits.{most_counter}
use Rattle.ring_points.specs.declared.who.Who.{Who}
use Rattle.fabric_terms.specs.Ranges.{IsArbiter, IsInstance, IsWho}
use Rattle.text_fields.specs.Actors.{arbiter_at}
use Rattle.text_fields.specs.Fields.{made_at}
use Rattle.text_fields.specs.Instances.{instance_made, arbiter_made, instance_at, who_at, who_text}
use Rattle.text_fields.specs.Inverses.{IsField, EndsNumber}
use Rattle.text_fields.specs.Numbers.{number_in}
use Rattle.text_fields.proofs.ActorLaws.{node_is, arbiter_is, arbiter_number, of_node, of_arbiter}
use Rattle.text_fields.proofs.FieldLaws.{made_at_is, pair_is, choice_is}
use Rattle.text_fields.proofs.NumberLaws.{number_is}

abbrev instance_text : Who → List ℕ
instance_text w = decimal w.actor ++ (codes "." ++ decimal w.instance)

instance_is : IsField instance_at IsInstance instance_text EndsNumber
instance_is =
    made_at_is (pair_is node_is (codes ".") (number_is 1 most_counter (lit< tt)) (λ _. refl)) instance_made IsInstance instance_text
    (λ w h. ((h.0, h.1.0, omega (arith, h.1.1)), refl))
    (λ w h. ((w.actor, w.instance), (h.0, (h.1, omega (arith, h.2))), refl))

abbrev IsArbiterWho : Who → Type 0
IsArbiterWho w = IsArbiter w.actor × (w.instance ≡ 0)

abbrev arbiter_who_text : Who → List ℕ
arbiter_who_text w = arbiter_number w.actor

arbiter_who_is : IsField (made_at arbiter_made arbiter_at) IsArbiterWho arbiter_who_text EndsNumber
arbiter_who_is =
    made_at_is arbiter_is arbiter_made IsArbiterWho arbiter_who_text
    (λ a h. ((h, refl), refl))
    (λ w h. (w.actor, h.0, ap (λ (n : ℕ). instance_made (w.actor, n)) (sym h.1)))

no_letter : (rest : List ℕ) → instance_at (codes "a" ++ rest) ≡ None
unfolding number_in
no_letter rest = refl

pub who_is : IsField who_at IsWho who_text EndsNumber
who_is =
    choice_is (codes "a") arbiter_who_is instance_is no_letter IsWho who_text
    (λ w h. (inr h, sym (of_an_arbiter w h.0)))
    (λ w h. (inl h, sym (of_an_instance w h)))
    (λ w h. ⊎_elim inr inl h)
  where
    of_an_arbiter : (w : Who) → IsArbiter w.actor → who_text w ≡ codes "a" ++ arbiter_who_text w
    of_an_arbiter w h = rw (of_arbiter w.actor h) refl

    of_an_instance : (w : Who) → IsInstance w → who_text w ≡ instance_text w
    of_an_instance w h = rw (of_node w.actor h.0) refl
