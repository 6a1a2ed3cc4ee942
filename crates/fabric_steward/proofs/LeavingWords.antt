-- Whatever is next for a node that leaves, its command is one that it may give.
use Rattle.std.proofs.Common.{arith, ◌≡◌, ℕ, ◌≤◌, Bool, true, List, [], ◌∷◌, Option, Some, None, refl, subst, sym, inl, inr}
use Rattle.std.specs.Prelude.{IfSome, IsTrue, find, option_map, option_and_then, nat_eq, nat_le, not, ◌&&◌, ◌||◌}
use Rattle.std.specs.List.{list_any}
use Rattle.std.proofs.Math.Nat.{min-eq_left, min-eq_right}
use Rattle.std.proofs.lemmas.Bool.{and_from, cases_lt, eq-eqb, or_left, or_right}
use Rattle.std.proofs.lemmas.Option.{IfSome_then}
use Rattle.ring_points.specs.Distances.{ahead_of}
use Rattle.ring_points.specs.declared.unit.Config.{Config}
use Rattle.fabric_steward.specs.declared.leaving.Leaving.{Leaving}
use Rattle.fabric_steward.specs.declared.leaving.Leaving.TheVariants.{Place, Swap, Give, Part, Rest, Done}
use Rattle.fabric_steward.specs.declared.node_watch.NodeWatch.{NodeWatch}
use Rattle.fabric_steward.specs.declared.unit_watch.UnitWatch.{UnitWatch}
use Rattle.fabric_steward.specs.Departures.{Plan, end_step, give_step, give_to, heir_by, heir_of, is_linked, is_ready_to_place, is_to_move, is_to_part, is_to_place, is_to_swap, least_up, least_with, nearer_of, nearest_bound, or_done, part_step, parting_by, place_now, rests, swap_now, unit_step, units_rest}
use Rattle.fabric_steward.specs.Domains.{domains_up}
use Rattle.fabric_steward.specs.Facts.{Facts}
use Rattle.fabric_steward.specs.Links.{Links}
use Rattle.fabric_steward.specs.Laws.{LeavesByItsWords, declared_of, is_member, is_wanted, may_part}
use Rattle.fabric_steward.specs.Rules.{count_for, first_some}
use Rattle.fabric_steward.specs.Times.{first_pause, is_over}
use Rattle.fabric_steward.proofs.Naming.{found_any, wanted}
use Rattle.fabric_steward.proofs.Advising.{either, either_some, first_given, if_given, map_given}

-- What is chosen from a list is in it

-- an item of a list, by a key
abbrev Has : {X : Type 0} → (X → ℕ) → List X → X → Type 0
Has key xs x = list_any (λ y. nat_eq (key y) (key x)) xs ≡ true

here : {X : Type 0} (key : X → ℕ) (x : X) (xs : List X) → Has key (x ∷ xs) x
here key x xs = or_left (nat_eq (key x) (key x)) (list_any (λ y. nat_eq (key y) (key x)) xs) (eq-eqb (key x) (key x) refl)

later : {X : Type 0} (key : X → ℕ) (y : X) (xs : List X) (x : X) → Has key xs x → Has key (y ∷ xs) x
later key y xs x has = or_right (nat_eq (key y) (key x)) (list_any (λ z. nat_eq (key z) (key x)) xs) has

all_later : {X : Type 0} (key : X → ℕ) (y : X) (xs : List X) (o : Option X) → IfSome o (Has key xs) → IfSome o (Has key (y ∷ xs))
all_later key y xs o has = IfSome_then o has (later key y xs)

found_has : {X : Type 0} (key : X → ℕ) (test : X → Bool) (xs : List X) → IfSome (find test xs) (Has key xs)
found_has key test [] = tt
found_has key test (x ∷ xs) = either_some (Has key (x ∷ xs)) (test x) x (find test xs) (here key x xs) (all_later key x xs (find test xs) (found_has key test xs))

least_has : (n : ℕ) (ns : List ℕ) (o : Option ℕ) → IfSome o (Has (λ m. m) (n ∷ ns)) → Has (λ m. m) (n ∷ ns) (least_with n o)
least_has n ns None has = here (λ m. m) n ns
least_has n ns (Some other) has =
    let P : ℕ → Type 0 = Has (λ m. m) (n ∷ ns) in
    elim (cases_lt n other) [
      | inl less ↦ let e : n ≤ other = omega (arith, less) in subst P (sym (min-eq_left e)) (here (λ m. m) n ns)
      | inr above ↦ subst P (sym (min-eq_right above)) has
    ]

least_up_has : (f : Facts) (now me : ℕ) (ns : List ℕ) → IfSome (least_up f now me ns) (Has (λ m. m) ns)
least_up_has f now me [] = tt
least_up_has f now me (n ∷ ns) =
    let rest = all_later (λ m. m) n ns (least_up f now me ns) (least_up_has f now me ns) in
    either_some (Has (λ m. m) (n ∷ ns)) (not (nat_eq n me) && f.is_up n now) (least_with n (least_up f now me ns)) (least_up f now me ns) (least_has n ns (least_up f now me ns) rest) rest

nearer_has : (point : ℕ) (n : NodeWatch) (ns : List NodeWatch) (o : Option NodeWatch) → IfSome o (Has (λ m. m.node) (n ∷ ns)) → Has (λ m. m.node) (n ∷ ns) (nearer_of point n o)
nearer_has point n ns None has = here (λ m. m.node) n ns
nearer_has point n ns (Some other) has =
    either (Has (λ (m : NodeWatch). m.node) (n ∷ ns)) (nat_le (ahead_of n.point.0 point) (ahead_of other.point.0 point)) n other (here (λ m. m.node) n ns) has

nearest_has : (l : Links) (me point : ℕ) (ns : List NodeWatch) → IfSome (nearest_bound l me point ns) (Has (λ m. m.node) ns)
nearest_has l me point [] = tt
nearest_has l me point (n ∷ ns) =
    let rest = all_later (λ m. m.node) n ns (nearest_bound l me point ns) (nearest_has l me point ns) in
    either_some (Has (λ (m : NodeWatch). m.node) (n ∷ ns)) (not (nat_eq n.node me) && l.is_bound n.node) (nearer_of point n (nearest_bound l me point ns)) (nearest_bound l me point ns) (nearer_has point n ns (nearest_bound l me point ns) rest) rest

heir_is_member : (f : Facts) (now me : ℕ) (o : Option Config) → IfSome (heir_by f now me o) (λ m. is_member m o ≡ true)
heir_is_member f now me None = tt
heir_is_member f now me (Some c) = if_given (λ m. is_member m (Some c) ≡ true) (nat_eq c.primary me) (least_up f now me c.members) (least_up_has f now me c.members)

-- The steps

-- this may be next
abbrev May : Facts → (d now : ℕ) → Plan → Leaving → Type 0
May f d now s next = IsTrue (may_part f d s (parting_by now s next))

and_then_given : {X A : Type 0} (Q : A → Type 0) (g : X → Option A) (o : Option X) → IfSome o (λ x. IfSome (g x) Q) → IfSome (option_and_then g o) Q
and_then_given Q g None given = tt
and_then_given Q g (Some x) given = given

rests_may : (f : Facts) (d now : ℕ) (s : Plan) (b : Bool) → IfSome (rests b) (May f d now s)
rests_may f d now s b = if_given (May f d now s) b (Some Rest) refl

one_swap : (f : Facts) (d now : ℕ) (s : Plan) (w : UnitWatch) → Has (λ v. v.partition) s.units w → IfSome (option_map (Swap w.partition) (heir_of f now s w)) (May f d now s)
one_swap f d now s w has =
    map_given (May f d now s) (Swap w.partition) (heir_of f now s w) (
    IfSome_then (heir_of f now s w) (heir_is_member f now s.me (f.config_of w.partition)) (λ m member. and_from (list_any (λ v. nat_eq v.partition w.partition) s.units) (is_member m (f.config_of w.partition)) has member))

swap_now_may : (f : Facts) (d now : ℕ) (s : Plan) → IfSome (swap_now f now s) (May f d now s)
swap_now_may f d now s =
    and_then_given (May f d now s) (λ w. option_map (Swap w.partition) (heir_of f now s w)) (find (is_to_swap f now s) s.units) (
    IfSome_then (find (is_to_swap f now s) s.units) (found_has (λ w. w.partition) (is_to_swap f now s) s.units) (one_swap f d now s))

place_may : (f : Facts) (d now : ℕ) (s : Plan) → IfSome (place_now f now d s) (May f d now s)
place_may f d now s =
    map_given (May f d now s) (λ w. Place w.partition (count_for d w)) (find (is_ready_to_place f now d s) s.units)
    (found_any declared_of (is_ready_to_place f now d s) (λ w. is_wanted d w.partition (count_for d w)) (wanted d) s.units)

unit_may : (f : Facts) (d now : ℕ) (s : Plan) → IfSome (unit_step f now d s) (May f d now s)
unit_may f d now s =
    if_given (May f d now s) _ (first_some (place_now f now d s ∷ swap_now f now s ∷ units_rest f now d s ∷ [])) (
    first_given (May f d now s) (place_now f now d s ∷ swap_now f now s ∷ units_rest f now d s ∷ []) (
      place_may f d now s,
      (
        swap_now_may f d now s,
        (rests_may f d now s (list_any (is_to_place f now d s) s.units || list_any (is_to_move f now s) s.units), tt),
      ),
    ))

give_may : (f : Facts) (l : Links) (d now : ℕ) (s : Plan) → IfSome (give_step l now s) (May f d now s)
give_may f l d now s =
    if_given (May f d now s) _ (option_map (give_to l now s) (nearest_bound l s.me s.point s.nodes)) (
    map_given (May f d now s) (give_to l now s) (nearest_bound l s.me s.point s.nodes) (
    IfSome_then (nearest_bound l s.me s.point s.nodes) (nearest_has l s.me s.point s.nodes) (λ n has.
    either (May f d now s) (l.owns && is_over now (first_pause s.lease) s.gave) (Give n.node) Rest has refl)))

part_may : (f : Facts) (l : Links) (d now : ℕ) (s : Plan) → IfSome (part_step l now s) (May f d now s)
part_may f l d now s =
    first_given (May f d now s) (option_map (λ n. Part n.node) (find (is_to_part l now s) s.nodes) ∷ rests (list_any (is_linked l s) s.nodes) ∷ []) (
      map_given (May f d now s) (λ n. Part n.node) (find (is_to_part l now s) s.nodes) (found_has (λ n. n.node) (is_to_part l now s) s.nodes),
      (rests_may f d now s (list_any (is_linked l s) s.nodes), tt),
    )

done_may : (f : Facts) (d now : ℕ) (s : Plan) (o : Option Leaving) → IfSome o (May f d now s) → May f d now s (or_done o)
done_may f d now s None may = refl
done_may f d now s (Some next) may = may

pub leaves_by_its_words : LeavesByItsWords
leaves_by_its_words f l now s =
    let d : ℕ = domains_up f now s.nodes in
    let steps : List (Option Leaving) = end_step now s ∷ unit_step f now d s ∷ give_step l now s ∷ part_step l now s ∷ [] in
    done_may f d now s (first_some steps) (
    first_given (May f d now s) steps (
      if_given (May f d now s) _ (Some Done) refl,
      (unit_may f d now s, (give_may f l d now s, (part_may f l d now s, tt))),
    ))
