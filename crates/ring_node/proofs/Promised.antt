-- A part to give that does not fit has an owned point.
use Rattle.std.proofs.Common.{◌≡◌, ℕ, Bool, true, false, not, ◌&&◌, List, [], ◌∷◌, ◌++◌, Option, Some, None, IfSome, is_some, option_map, nat_le, min, max, refl, sym, ap, ◌∙◌, arith}
use Rattle.std.proofs.lemmas.Bool.Decides.{nat_tests}
use Rattle.fabric_terms.specs.declared.message.Body.{Body}
use Rattle.fabric_terms.specs.declared.report.Reason.TheVariants as reason
use Rattle.fabric_terms.specs.declared.report.Report.{Report}
use Rattle.fabric_terms.specs.declared.report.Report.TheVariants.{Refused}
use Rattle.fabric_terms.specs.declared.report.Verb.TheVariants as verb
use Rattle.ring_node.specs.Grants.{gift}
use Rattle.ring_node.specs.Nodes.{Node, by, step}
use Rattle.ring_node.proofs.Refused.{refused_told}
use Rattle.ring_points.specs.declared.interval.Interval.{Interval}
use Rattle.ring_points.specs.declared.who.Who.{Who}
use Rattle.ring_points.specs.Ranges.{fits, in_ranges}
use Rattle.ring_points.specs.Sets.{meet_of, meet_with, nearer_arc, nearer_part_of, span}
use Rattle.ring_points.proofs.Meets.{in_ranges-meet_of}
use Rattle.ring_route.specs.Routes.{point_of}
use Rattle.ring_rules.specs.declared.link.Link.{Link}
use Rattle.ring_rules.specs.Commands.{give_at}
use Rattle.ring_rules.specs.Links.{has_flight}
use Rattle.ring_rules.specs.Slots.{slot_at}
use Rattle.token_core.specs.Tokens.{Freeze}
use Rattle.token_core.specs.Calls.{is_empty}

-- each interval of a list has a point
abbrev have_points : List Interval → Bool
have_points [] = true
have_points (i ∷ is) = nat_le i.lo i.hi && have_points is

both : (a b : Bool) → (a && b) ≡ true → (a ≡ true) × (b ≡ true)
both true true h = (refl, refl)
both true false h = absurd cc
both false b h = absurd cc

append_have : (is js : List Interval) → have_points is ≡ true → have_points js ≡ true → have_points (is ++ js) ≡ true
append_have [] js h k = k
append_have (i ∷ is) js h k =
    let a = both (nat_le i.lo i.hi) (have_points is) h in
    rw (a.0, append_have is js a.1 k) refl

span_by : (lo hi : ℕ) (b : Bool) → nat_le lo hi ≡ b → have_points (span lo hi) ≡ true
span_by lo hi true e = rw (e, e) refl
span_by lo hi false e = rw e refl

meet_with_have : (i : Interval) (js : List Interval) → have_points (meet_with i js) ≡ true
meet_with_have i [] = refl
meet_with_have i (j ∷ js) = append_have (span (max i.lo j.lo) (min i.hi j.hi)) (meet_with i js) (span_by (max i.lo j.lo) (min i.hi j.hi) (nat_le (max i.lo j.lo) (min i.hi j.hi)) refl) (meet_with_have i js)

meet_have : (is js : List Interval) → have_points (meet_of is js) ≡ true
meet_have [] js = refl
meet_have (i ∷ is) js = append_have (meet_with i js) (meet_of is js) (meet_with_have i js) (meet_have is js)

-- what has points is in part what it was met with
has_first : (i : Interval) (is : List Interval) → have_points (i ∷ is) ≡ true → in_ranges i.lo (i ∷ is) ≡ true
has_first i is h = let a = (both (nat_le i.lo i.hi) (have_points is) h).0 in let b : nat_le i.lo i.lo ≡ true = grind (arith, nat_tests) in rw (a, b) refl

not_empty : (p : ℕ) (is : List Interval) → in_ranges p is ≡ true → is_empty is ≡ false
not_empty p [] h = absurd cc
not_empty p (i ∷ is) h = refl

owned_by : (ranges arc part : List Interval) → part ≡ meet_of ranges arc → have_points part ≡ true → fits part ≡ false → is_empty (meet_of ranges part) ≡ false
owned_by ranges arc [] e h f = absurd cc
owned_by ranges arc (i ∷ is) e h f =
    let a : in_ranges i.lo (i ∷ is) ≡ true = has_first i is h in
    let b : (in_ranges i.lo ranges && in_ranges i.lo arc) ≡ true = sym (in_ranges-meet_of i.lo ranges arc) ∙ ap (in_ranges i.lo) (sym e) ∙ a in
    let d = both (in_ranges i.lo ranges) (in_ranges i.lo arc) b in
    not_empty i.lo (meet_of ranges (i ∷ is)) (in_ranges-meet_of i.lo ranges (i ∷ is) ∙ rw (d.0, a) refl)

-- the nearer part
pub owns_nearer : (ranges : List Interval) (mine other : ℕ) → fits (meet_of ranges (nearer_arc mine other)) ≡ false → is_empty (meet_of ranges (meet_of ranges (nearer_arc mine other))) ≡ false
owns_nearer ranges mine other f = owned_by ranges (nearer_arc mine other) (meet_of ranges (nearer_arc mine other)) refl (meet_have ranges (nearer_arc mine other)) f

-- A gift that does not fit is refused.

none_frozen : (freeze : Option Freeze) (place : Option ℕ) → place ≡ option_map (λ z. z.slot) freeze → false ≡ is_some place → is_some freeze ≡ false
none_frozen None place e h = refl
none_frozen (Some z) place e h = let f : is_some place ≡ true = rw e refl in absurd cc

unfit : (b : Bool) → true ≡ not b → b ≡ false
unfit true e = absurd cc
unfit false e = refl

true≢false : true ≡ false → ⊥
true≢false e = absurd cc

pub too_many : (all : Bool) (i : ℕ) (n : Node) (peer : Who) (slot : Option Link) (place : Option ℕ) (sent : List (Who × Body)) (told made : List Report) → slot_at i n.ring.slots ≡ slot → Some peer ≡ option_map (λ l. l.peer) slot → IfSome slot (λ l. false ≡ has_flight l) → place ≡ option_map (λ z. z.slot) n.ring.token.freeze → false ≡ is_some place → (all ≡ true → true ≡ false) → true ≡ not (fits (gift all n.ring peer)) → made ≡ told ++ Refused verb.Give reason.TooMany ∷ [] → step n sent made ≡ by (λ c w. give_at all i (slot_at i w.ring.slots) w) (step n sent told)
too_many true i n peer slot place sent told made s p f z e w t m = absurd (true≢false (w refl))
too_many false i n peer None place sent told made s p f z e w t m = absurd cc
too_many false i n peer (Some l) place sent told made s p f z e w t m =
    let q : peer ≡ l.peer = cc in
    let none : is_some n.ring.token.freeze ≡ false = none_frozen n.ring.token.freeze place z e in
    let part = nearer_part_of n.ring.token.ranges (point_of n.ring.me.actor n.ring.routes.points) (point_of l.peer.actor n.ring.routes.points) in
    let wide : fits part ≡ false = unfit (fits part) (t ∙ ap (λ (v : Who). not (fits (nearer_part_of n.ring.token.ranges (point_of n.ring.me.actor n.ring.routes.points) (point_of v.actor n.ring.routes.points)))) q) in
    let owned : is_empty (meet_of n.ring.token.ranges part) ≡ false = owns_nearer n.ring.token.ranges (point_of n.ring.me.actor n.ring.routes.points) (point_of l.peer.actor n.ring.routes.points) wide in
    refused_told (λ c v. give_at false i (slot_at i v.ring.slots) v) verb.Give reason.TooMany n n sent sent told made refl refl m (rw (s, none, ← f, owned, wide) refl)
