-- The members of a process: by their places as the plan has them, and by their numbers as a cluster has them.
use Rattle.std.proofs.Common.{arith, ◌≡◌, ◌≤◌, ◌<◌, ◌+◌, ℕ, zero, suc, Bool, true, false, List, [], ◌∷◌, ◌++◌, length, map, Some, None, refl, ap, sym, subst, ◌∙◌}
use Rattle.std.specs.Prelude.{◌==◌, nat_lt, slice_get, slice_set, if◌then◌else◌}
use Rattle.std.proofs.lemmas.Bool.{eq-eqb}
use Rattle.std.proofs.lemmas.Bool.Decides.{nat_tests}
use Rattle.edge_io.specs.declared.endpoint.Endpoint.{Endpoint}
use Rattle.unit_rules.specs.Fabric.{fabric}
use Rattle.fabric_lemmas.specs.Maps.{at, put, put_here}
use Rattle.ring_points.specs.Whos.{arbiter_actor}
use Rattle.ring_points.specs.declared.who.Who.{Who}
use Rattle.turn_rules.specs.Steps.{Member, Node, Arbiter}
use Rattle.world_rules.specs.Arbiters.{ArbiterState}
use Rattle.world_rules.specs.Events.{is_arbiter_actor}
use Rattle.world_rules.specs.Nodes.{NodeState}
use Rattle.cluster_safety.specs.Plans.{Rise}

abbrev pub actor_of : Member → ℕ
actor_of (Node s) = s.ring.me.actor
actor_of (Arbiter n a) = arbiter_actor n

-- the number is of a node where a node runs, and else of an arbitrator
abbrev pub IsKind : Member → Type 0
IsKind (Node s) = is_arbiter_actor s.ring.me.actor ≡ false
IsKind (Arbiter n a) = is_arbiter_actor (arbiter_actor n) ≡ true

-- the members are those of the first places
abbrev pub Match : List Member → List Endpoint → Type 0
Match [] es = Unit {0}
Match (m ∷ ms) [] = ⊥
Match (m ∷ ms) (e ∷ es) = (actor_of m ≡ e.actor) × IsKind m × Match ms es

abbrev pub nodes_in : List Member → List (ℕ × NodeState fabric)
nodes_in [] = []
nodes_in (Node s ∷ ms) = (s.ring.me.actor, s) ∷ nodes_in ms
nodes_in (Arbiter n a ∷ ms) = nodes_in ms

abbrev pub arbiters_in : List Member → List (ℕ × ArbiterState fabric)
arbiters_in [] = []
arbiters_in (Node s ∷ ms) = arbiters_in ms
arbiters_in (Arbiter n a ∷ ms) = (n, a) ∷ arbiters_in ms

abbrev pub names_of : List (ℕ × NodeState fabric) → List Who
names_of nodes = map (λ n. n.1.ring.me) nodes

abbrev pub AllBelow : ℕ → List Member → Type 0
AllBelow k [] = Unit {0}
AllBelow k (m ∷ ms) = (actor_of m < k) × AllBelow k ms

-- Numbers.

pub rise_above : (low : ℕ) (es : List Endpoint) (place : ℕ) (e : Endpoint) → Rise low es → slice_get es place ≡ Some e → low ≤ e.actor
rise_above low [] place e rise h = cc
rise_above low (d ∷ es) zero e rise h = let same : d ≡ e = cc in subst (λ (x : Endpoint). low ≤ x.actor) same rise.0
rise_above low (d ∷ es) (suc place) e rise h = let more = rise_above (d.actor + 1) es place e rise.1 h in let here = rise.0 in omega arith

member_above : (low : ℕ) (ms : List Member) (es : List Endpoint) (place : ℕ) (m : Member) → Rise low es → Match ms es → slice_get ms place ≡ Some m → low ≤ actor_of m
member_above low [] es place m rise match h = cc
member_above low (x ∷ ms) [] place m rise match h = absurd match
member_above low (x ∷ ms) (e ∷ es) zero m rise match h =
    let same : x ≡ m = cc in
    let here = rise.0 in
    let number : actor_of m ≡ e.actor = sym (ap actor_of same) ∙ match.0 in
    omega arith
member_above low (x ∷ ms) (e ∷ es) (suc place) m rise match h =
    let more = member_above (e.actor + 1) ms es place m rise.1 match.2 h in let here = rise.0 in omega arith

-- the member at a place after the first has a greater number
member_later : (low : ℕ) (x : Member) (ms : List Member) (e : Endpoint) (es : List Endpoint) (place : ℕ) (m : Member) → Rise low (e ∷ es) → Match (x ∷ ms) (e ∷ es) →
    slice_get ms place ≡ Some m → actor_of x < actor_of m
member_later low x ms e es place m rise match h =
    let more = member_above (e.actor + 1) ms es place m rise.1 match.2 h in let here = match.0 in omega arith

pub below_next : (low : ℕ) (ms : List Member) (es : List Endpoint) (e : Endpoint) → Rise low es → Match ms es → slice_get es (length ms) ≡ Some e → AllBelow e.actor ms
below_next low [] es e rise match h = tt
below_next low (x ∷ ms) [] e rise match h = absurd match
below_next low (x ∷ ms) (d ∷ es) e rise match h =
    let more = rise_above (d.actor + 1) es (length ms) e rise.1 h in
    let here = match.0 in
    (omega arith, below_next (d.actor + 1) ms es e rise.1 match.2 h)

-- A map whose first number is smaller, and one whose first number is the same.

put_behind : {X : Type 0} (k : ℕ) (x : X) (e : ℕ × X) (es : List (ℕ × X)) → e.0 < k → put k x (e ∷ es) ≡ e ∷ put k x es
put_behind k x e es h =
    let lt : nat_lt k e.0 ≡ false = grind (arith, nat_tests) in
    let other : (k == e.0) ≡ false = grind (arith, nat_tests) in
    λ i. put_here k x e es (put k x es) (lt i) (other i)

put_first : {X : Type 0} (k : ℕ) (x y : X) (n : ℕ) (es : List (ℕ × X)) → n ≡ k → put k x ((n, y) ∷ es) ≡ (k, x) ∷ es
put_first k x y n es h =
    let lt : nat_lt k n ≡ false = grind (arith, nat_tests) in
    let same : (k == n) ≡ true = grind (arith, nat_tests) in
    λ i. put_here k x (n, y) es (put k x es) (lt i) (same i)

at_behind : {X : Type 0} (k : ℕ) (e : ℕ × X) (es : List (ℕ × X)) → e.0 < k → at k (e ∷ es) ≡ at k es
at_behind k e es h =
    let other : (e.0 == k) ≡ false = grind (arith, nat_tests) in
    ap (λ (b : Bool). if b then Some e.1 else at k es) other

at_first : {X : Type 0} (k : ℕ) (x : X) (es : List (ℕ × X)) → at k ((k, x) ∷ es) ≡ Some x
at_first k x es = ap (λ (b : Bool). if b then Some x else at k es) (eq-eqb k k refl)

-- The member at a place.

pub node_here : (low : ℕ) (ms : List Member) (es : List Endpoint) (place : ℕ) (s : NodeState fabric) → Rise low es → Match ms es → slice_get ms place ≡ Some (Node s) →
    at s.ring.me.actor (nodes_in ms) ≡ Some s
node_here low [] es place s rise match h = cc
node_here low (x ∷ ms) [] place s rise match h = absurd match
node_here low (Node t ∷ ms) (e ∷ es) zero s rise match h =
    let same : t ≡ s = cc in subst (λ (x : NodeState fabric). at s.ring.me.actor ((x.ring.me.actor, x) ∷ nodes_in ms) ≡ Some s) (sym same) (at_first s.ring.me.actor s (nodes_in ms))
node_here low (Arbiter n a ∷ ms) (e ∷ es) zero s rise match h = cc
node_here low (Node t ∷ ms) (e ∷ es) (suc place) s rise match h =
    at_behind s.ring.me.actor (t.ring.me.actor, t) (nodes_in ms) (member_later low (Node t) ms e es place (Node s) rise match h)
    ∙ node_here (e.actor + 1) ms es place s rise.1 match.2 h
node_here low (Arbiter n a ∷ ms) (e ∷ es) (suc place) s rise match h = node_here (e.actor + 1) ms es place s rise.1 match.2 h

pub arbiter_here : (low : ℕ) (ms : List Member) (es : List Endpoint) (place k : ℕ) (s : ArbiterState fabric) → Rise low es → Match ms es →
    slice_get ms place ≡ Some (Arbiter k s) → at k (arbiters_in ms) ≡ Some s
arbiter_here low [] es place k s rise match h = cc
arbiter_here low (x ∷ ms) [] place k s rise match h = absurd match
arbiter_here low (Node t ∷ ms) (e ∷ es) zero k s rise match h = cc
arbiter_here low (Arbiter n a ∷ ms) (e ∷ es) zero k s rise match h =
    let number : n ≡ k = cc in
    let same : a ≡ s = cc in
    subst (λ (x : ArbiterState fabric). at k ((n, a) ∷ arbiters_in ms) ≡ Some x) same
    (subst (λ (q : ℕ). at q ((n, a) ∷ arbiters_in ms) ≡ Some a) number (at_first n a (arbiters_in ms)))
arbiter_here low (Node t ∷ ms) (e ∷ es) (suc place) k s rise match h = arbiter_here (e.actor + 1) ms es place k s rise.1 match.2 h
arbiter_here low (Arbiter n a ∷ ms) (e ∷ es) (suc place) k s rise match h =
    let later : n < k = let more = member_later low (Arbiter n a) ms e es place (Arbiter k s) rise match h in omega arith in
    at_behind k (n, a) (arbiters_in ms) later
    ∙ arbiter_here (e.actor + 1) ms es place k s rise.1 match.2 h

-- the plan's actor at the place
pub actor_here : (ms : List Member) (es : List Endpoint) (place : ℕ) (m : Member) → Match ms es → slice_get ms place ≡ Some m →
    (e : Endpoint) × ((slice_get es place ≡ Some e) × (actor_of m ≡ e.actor) × IsKind m)
actor_here [] es place m match h = cc
actor_here (x ∷ ms) [] place m match h = absurd match
actor_here (x ∷ ms) (e ∷ es) zero m match h =
    let same : x ≡ m = cc in (e, (refl, sym (ap actor_of same) ∙ match.0, subst IsKind same match.1))
actor_here (x ∷ ms) (e ∷ es) (suc place) m match h = actor_here ms es place m match.2 h

-- Another state of the member at a place.

pub match_set : (ms : List Member) (es : List Endpoint) (place : ℕ) (m n : Member) → Match ms es → slice_get ms place ≡ Some m → actor_of n ≡ actor_of m → IsKind n →
    Match (slice_set ms place n) es
match_set [] es place m n match h number kind = cc
match_set (x ∷ ms) [] place m n match h number kind = absurd match
match_set (x ∷ ms) (e ∷ es) zero m n match h number kind =
    let same : x ≡ m = cc in (number ∙ sym (ap actor_of same) ∙ match.0, kind, match.2)
match_set (x ∷ ms) (e ∷ es) (suc place) m n match h number kind = (match.0, match.1, match_set ms es place m n match.2 h number kind)

pub node_set : (low : ℕ) (ms : List Member) (es : List Endpoint) (place : ℕ) (s t : NodeState fabric) → Rise low es → Match ms es → slice_get ms place ≡ Some (Node s) →
    t.ring.me.actor ≡ s.ring.me.actor → nodes_in (slice_set ms place (Node t)) ≡ put s.ring.me.actor t (nodes_in ms)
node_set low [] es place s t rise match h number = cc
node_set low (x ∷ ms) [] place s t rise match h number = absurd match
node_set low (Node u ∷ ms) (e ∷ es) zero s t rise match h number =
    let same : u ≡ s = cc in
    ap (λ (k : ℕ). (k, t) ∷ nodes_in ms) number
    ∙ sym (put_first s.ring.me.actor t u u.ring.me.actor (nodes_in ms) (ap (λ (x : NodeState fabric). x.ring.me.actor) same))
node_set low (Arbiter n a ∷ ms) (e ∷ es) zero s t rise match h number = cc
node_set low (Node u ∷ ms) (e ∷ es) (suc place) s t rise match h number =
    ap (λ (ns : List (ℕ × NodeState fabric)). (u.ring.me.actor, u) ∷ ns) (node_set (e.actor + 1) ms es place s t rise.1 match.2 h number)
    ∙ sym (put_behind s.ring.me.actor t (u.ring.me.actor, u) (nodes_in ms) (member_later low (Node u) ms e es place (Node s) rise match h))
node_set low (Arbiter n a ∷ ms) (e ∷ es) (suc place) s t rise match h number = node_set (e.actor + 1) ms es place s t rise.1 match.2 h number

pub arbiters_still : (ms : List Member) (place : ℕ) (s t : NodeState fabric) → slice_get ms place ≡ Some (Node s) → arbiters_in (slice_set ms place (Node t)) ≡ arbiters_in ms
arbiters_still [] place s t h = cc
arbiters_still (Node u ∷ ms) zero s t h = refl
arbiters_still (Arbiter n a ∷ ms) zero s t h = cc
arbiters_still (Node u ∷ ms) (suc place) s t h = arbiters_still ms place s t h
arbiters_still (Arbiter n a ∷ ms) (suc place) s t h = ap (λ (rest : List (ℕ × ArbiterState fabric)). (n, a) ∷ rest) (arbiters_still ms place s t h)

pub arbiter_set : (low : ℕ) (ms : List Member) (es : List Endpoint) (place k : ℕ) (s t : ArbiterState fabric) → Rise low es → Match ms es →
    slice_get ms place ≡ Some (Arbiter k s) → arbiters_in (slice_set ms place (Arbiter k t)) ≡ put k t (arbiters_in ms)
arbiter_set low [] es place k s t rise match h = cc
arbiter_set low (x ∷ ms) [] place k s t rise match h = absurd match
arbiter_set low (Node u ∷ ms) (e ∷ es) zero k s t rise match h = cc
arbiter_set low (Arbiter n a ∷ ms) (e ∷ es) zero k s t rise match h = let number : n ≡ k = cc in sym (put_first k t a n (arbiters_in ms) number)
arbiter_set low (Node u ∷ ms) (e ∷ es) (suc place) k s t rise match h = arbiter_set (e.actor + 1) ms es place k s t rise.1 match.2 h
arbiter_set low (Arbiter n a ∷ ms) (e ∷ es) (suc place) k s t rise match h =
    let later : n < k = let more = member_later low (Arbiter n a) ms e es place (Arbiter k s) rise match h in omega arith in
    ap (λ (rest : List (ℕ × ArbiterState fabric)). (n, a) ∷ rest) (arbiter_set (e.actor + 1) ms es place k s t rise.1 match.2 h)
    ∙ sym (put_behind k t (n, a) (arbiters_in ms) later)

pub nodes_still : (ms : List Member) (place k : ℕ) (s t : ArbiterState fabric) → slice_get ms place ≡ Some (Arbiter k s) → nodes_in (slice_set ms place (Arbiter k t)) ≡ nodes_in ms
nodes_still [] place k s t h = cc
nodes_still (Node u ∷ ms) zero k s t h = cc
nodes_still (Arbiter n a ∷ ms) zero k s t h = refl
nodes_still (Node u ∷ ms) (suc place) k s t h = ap (λ (ns : List (ℕ × NodeState fabric)). (u.ring.me.actor, u) ∷ ns) (nodes_still ms place k s t h)
nodes_still (Arbiter n a ∷ ms) (suc place) k s t h = nodes_still ms place k s t h

-- a step leaves the names of the nodes
pub names_still : (ms : List Member) (place : ℕ) (s t : NodeState fabric) → slice_get ms place ≡ Some (Node s) → t.ring.me ≡ s.ring.me →
    names_of (nodes_in (slice_set ms place (Node t))) ≡ names_of (nodes_in ms)
names_still [] place s t h name = cc
names_still (Node u ∷ ms) zero s t h name = let same : u ≡ s = cc in ap (λ (w : Who). w ∷ names_of (nodes_in ms)) (name ∙ sym (ap (λ (x : NodeState fabric). x.ring.me) same))
names_still (Arbiter n a ∷ ms) zero s t h name = cc
names_still (Node u ∷ ms) (suc place) s t h name = ap (λ (ws : List Who). u.ring.me ∷ ws) (names_still ms place s t h name)
names_still (Arbiter n a ∷ ms) (suc place) s t h name = names_still ms place s t h name

pub set_same : (ms : List Member) (place : ℕ) (m : Member) → slice_get ms place ≡ Some m → slice_set ms place m ≡ ms
set_same [] place m h = refl
set_same (x ∷ ms) zero m h = let same : x ≡ m = cc in ap (λ (y : Member). y ∷ ms) (sym same)
set_same (x ∷ ms) (suc place) m h = ap (λ (ys : List Member). x ∷ ys) (set_same ms place m h)

pub below_set : (k : ℕ) (ms : List Member) (place : ℕ) (m n : Member) → slice_get ms place ≡ Some m → actor_of n ≡ actor_of m → AllBelow k (slice_set ms place n) →
    AllBelow k ms × (actor_of m < k)
below_set k [] place m n h number below = cc
below_set k (x ∷ ms) zero m n h number below =
    let same : x ≡ m = cc in
    let here : actor_of m < k = let b = below.0 in omega (arith, number) in
    ((subst (λ (y : Member). actor_of y < k) (sym same) here, below.1), here)
below_set k (x ∷ ms) (suc place) m n h number below =
    let rest = below_set k ms place m n h number below.1 in ((below.0, rest.0), rest.1)

-- One member more.

pub match_more : (ms : List Member) (es : List Endpoint) (m : Member) (e : Endpoint) → Match ms es → slice_get es (length ms) ≡ Some e → actor_of m ≡ e.actor → IsKind m →
    Match (ms ++ m ∷ []) es
match_more [] [] m e match h number kind = cc
match_more [] (d ∷ es) m e match h number kind = let same : d ≡ e = cc in (number ∙ ap (λ (x : Endpoint). x.actor) (sym same), kind, tt)
match_more (x ∷ ms) [] m e match h number kind = absurd match
match_more (x ∷ ms) (d ∷ es) m e match h number kind = (match.0, match.1, match_more ms es m e match.2 h number kind)

pub below_more : (k : ℕ) (ms : List Member) (m : Member) → AllBelow k (ms ++ m ∷ []) → AllBelow k ms × (actor_of m < k)
below_more k [] m below = (tt, below.0)
below_more k (x ∷ ms) m below = let rest = below_more k ms m below.1 in ((below.0, rest.0), rest.1)

pub node_more : (ms : List Member) (s : NodeState fabric) → AllBelow s.ring.me.actor ms → nodes_in (ms ++ Node s ∷ []) ≡ put s.ring.me.actor s (nodes_in ms)
node_more [] s below = refl
node_more (Node u ∷ ms) s below =
    ap (λ (ns : List (ℕ × NodeState fabric)). (u.ring.me.actor, u) ∷ ns) (node_more ms s below.1)
    ∙ sym (put_behind s.ring.me.actor s (u.ring.me.actor, u) (nodes_in ms) below.0)
node_more (Arbiter n a ∷ ms) s below = node_more ms s below.1

pub arbiters_more_still : (ms : List Member) (s : NodeState fabric) → arbiters_in (ms ++ Node s ∷ []) ≡ arbiters_in ms
arbiters_more_still [] s = refl
arbiters_more_still (Node u ∷ ms) s = arbiters_more_still ms s
arbiters_more_still (Arbiter n a ∷ ms) s = ap (λ (rest : List (ℕ × ArbiterState fabric)). (n, a) ∷ rest) (arbiters_more_still ms s)

pub arbiter_more : (ms : List Member) (k : ℕ) (s : ArbiterState fabric) → AllBelow (arbiter_actor k) ms → arbiters_in (ms ++ Arbiter k s ∷ []) ≡ put k s (arbiters_in ms)
arbiter_more [] k s below = refl
arbiter_more (Node u ∷ ms) k s below = arbiter_more ms k s below.1
arbiter_more (Arbiter n a ∷ ms) k s below =
    let later : n < k = let b = below.0 in omega arith in
    ap (λ (rest : List (ℕ × ArbiterState fabric)). (n, a) ∷ rest) (arbiter_more ms k s below.1) ∙ sym (put_behind k s (n, a) (arbiters_in ms) later)

pub nodes_more_still : (ms : List Member) (k : ℕ) (s : ArbiterState fabric) → nodes_in (ms ++ Arbiter k s ∷ []) ≡ nodes_in ms
nodes_more_still [] k s = refl
nodes_more_still (Node u ∷ ms) k s = ap (λ (ns : List (ℕ × NodeState fabric)). (u.ring.me.actor, u) ∷ ns) (nodes_more_still ms k s)
nodes_more_still (Arbiter n a ∷ ms) k s = nodes_more_still ms k s

pub names_more : (ms : List Member) (s : NodeState fabric) → names_of (nodes_in (ms ++ Node s ∷ [])) ≡ names_of (nodes_in ms) ++ s.ring.me ∷ []
names_more [] s = refl
names_more (Node u ∷ ms) s = ap (λ (ws : List Who). u.ring.me ∷ ws) (names_more ms s)
names_more (Arbiter n a ∷ ms) s = names_more ms s

pub no_node : (k : ℕ) (ms : List Member) → AllBelow k ms → at k (nodes_in ms) ≡ None
no_node k [] below = refl
no_node k (Node u ∷ ms) below = at_behind k (u.ring.me.actor, u) (nodes_in ms) below.0 ∙ no_node k ms below.1
no_node k (Arbiter n a ∷ ms) below = no_node k ms below.1

pub no_arbiter : (k : ℕ) (ms : List Member) → AllBelow (arbiter_actor k) ms → at k (arbiters_in ms) ≡ None
no_arbiter k [] below = refl
no_arbiter k (Node u ∷ ms) below = no_arbiter k ms below.1
no_arbiter k (Arbiter n a ∷ ms) below =
    let later : n < k = let b = below.0 in omega arith in at_behind k (n, a) (arbiters_in ms) later ∙ no_arbiter k ms below.1

pub length_more : (ms : List Member) (m : Member) → length (ms ++ m ∷ []) ≡ length ms + 1
length_more [] m = refl
length_more (x ∷ ms) m = let more = length_more ms m in omega arith

pub length_still : (ms : List Member) (place : ℕ) (m : Member) → length (slice_set ms place m) ≡ length ms
length_still [] place m = refl
length_still (x ∷ ms) zero m = refl
length_still (x ∷ ms) (suc place) m = ap suc (length_still ms place m)
