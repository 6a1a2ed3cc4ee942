-- Whom a node knows: the next hop to a point, the near nodes, and who is heard, are in range.
use Rattle.std.proofs.Common.{ℕ, Bool, true, false, cond, not, List, [], ◌∷◌, ◌++◌, take, Option, Some, None, IsTrue, map, filter}
use Rattle.std.specs.Prelude.{◌==◌, All, nat_le, nat_lt}
use Rattle.std.proofs.lemmas.List.Elements.{All-append, All-cons, All-filter, All-head, All-nil, All-tail, All-take}
use Rattle.ring_points.specs.declared.who.Who.{Who}
use Rattle.ring_points.specs.Distances.{ahead_of, is_nearer}
use Rattle.ring_route.specs.declared.hop.Hop.{Hop}
use Rattle.ring_route.specs.declared.hop.Hop.TheVariants.{To, Nowhere}
use Rattle.ring_route.specs.declared.known.Known.{Known}
use Rattle.ring_route.specs.Routes.{Routes, heard_again, heard_in, hop_to, is_among, may_hop, near_nodes, nearer_known, nearest_of, next_hop, point_of, put_by, sorted_by, without_repeats}
use Rattle.fabric_terms.specs.Fields.{is_node, is_who}
use Rattle.frames_fit.specs.InRange.{KnownInRange}
use Rattle.frames_fit.proofs.Facts.{who_parts}

-- The next hop.

abbrev pub HopInRange : Hop → Type 0
HopInRange (To who) = IsTrue (is_who who)
HopInRange _ = Unit {0}

abbrev OneInRange : Option Known → Type 0
OneInRange None = Unit {0}
OneInRange (Some k) = KnownInRange k

nearer_in_range : (key : ℕ) (k : Known) (o : Option Known) → KnownInRange k → OneInRange o → OneInRange (nearer_known key k o)
nearer_in_range key k None h m = h
nearer_in_range key k (Some other) h m = by_test (is_nearer key other.point k.point)
  where
    by_test : (b : Bool) → OneInRange (cond b (Some other) (Some k))
    by_test true = m
    by_test false = h

nearest_in_range : (key : ℕ) (ks : List Known) → All KnownInRange ks → OneInRange (nearest_of key ks)
nearest_in_range key [] h = tt
nearest_in_range key (k ∷ ks) h =
    nearer_in_range key k (nearest_of key ks) (All-head KnownInRange k ks h) (nearest_in_range key ks (All-tail KnownInRange k ks h))

hop_to_in_range : (key own : ℕ) (o : Option Known) → OneInRange o → HopInRange (hop_to key own o)
hop_to_in_range key own None h = tt
hop_to_in_range key own (Some k) h = by_test (is_nearer key k.point own)
  where
    by_test : (b : Bool) → HopInRange (cond b (To k.who) Nowhere)
    by_test true = h
    by_test false = tt

pub next_hop_in_range : (r : Routes) (key : ℕ) (here : Bool) (skip : Option ℕ) (accused : List Who) → All KnownInRange r.known →
    HopInRange (next_hop r key here skip accused)
next_hop_in_range r key true skip accused h = tt
next_hop_in_range r key false skip accused h =
    hop_to_in_range key (point_of r.me.actor r.points) (nearest_of key (filter (may_hop skip accused) r.known))
    (nearest_in_range key (filter (may_hop skip accused) r.known) (All-filter (may_hop skip accused) KnownInRange r.known h))

-- The near nodes.

put_in_range : (far : Known → ℕ) (k : Known) (xs : List Known) → KnownInRange k → All KnownInRange xs → All KnownInRange (put_by far k xs)
put_in_range far k [] h m = All-cons KnownInRange k [] h m
put_in_range far k (x ∷ xs) h m = by_test (nat_lt (far k) (far x)) (put_in_range far k xs h (All-tail KnownInRange x xs m))
  where
    by_test : (b : Bool) → All KnownInRange (put_by far k xs) → All KnownInRange (cond b (k ∷ x ∷ xs) (x ∷ put_by far k xs))
    by_test true rest = All-cons KnownInRange k (x ∷ xs) h m
    by_test false rest = All-cons KnownInRange x (put_by far k xs) (All-head KnownInRange x xs m) rest

sorted_in_range : (far : Known → ℕ) (ks : List Known) → All KnownInRange ks → All KnownInRange (sorted_by far ks)
sorted_in_range far [] h = h
sorted_in_range far (k ∷ ks) h =
    put_in_range far k (sorted_by far ks) (All-head KnownInRange k ks h) (sorted_in_range far ks (All-tail KnownInRange k ks h))

abbrev pub NodeInRange : ℕ → Type 0
NodeInRange node = IsTrue (is_node node)

without_in_range : (ns : List ℕ) → All NodeInRange ns → All NodeInRange (without_repeats ns)
without_in_range [] h = h
without_in_range (n ∷ ns) h =
    All-cons NodeInRange n (filter (λ m. not (m == n)) (without_repeats ns)) (All-head NodeInRange n ns h)
    (All-filter (λ m. not (m == n)) NodeInRange (without_repeats ns) (without_in_range ns (All-tail NodeInRange n ns h)))

actors_in_range : (ks : List Known) → All KnownInRange ks → All NodeInRange (map (λ k. k.who.actor) ks)
actors_in_range [] h = All-nil NodeInRange
actors_in_range (k ∷ ks) h =
    All-cons NodeInRange k.who.actor (map (λ k. k.who.actor) ks) (who_parts k.who (All-head KnownInRange k ks h)).node
    (actors_in_range ks (All-tail KnownInRange k ks h))

pub near_in_range : (r : Routes) (count : ℕ) (accused : List Who) → All KnownInRange r.known → All NodeInRange (near_nodes r count accused)
near_in_range r count accused h = without_in_range (map (λ k. k.who.actor) (nearest up ++ nearest down)) (actors_in_range (nearest up ++ nearest down) both)
  where
    own : ℕ
    own = point_of r.me.actor r.points

    others : List Known
    others = filter (λ k. not (is_among k.who accused)) r.known

    up : Known → ℕ
    up k = ahead_of k.point own

    down : Known → ℕ
    down k = ahead_of own k.point

    nearest : (Known → ℕ) → List Known
    nearest far = take count (sorted_by far others)

    both : All KnownInRange (nearest up ++ nearest down)
    both = All-append KnownInRange (nearest up) (nearest down) (chosen up) (chosen down)
      where
        chosen : (far : Known → ℕ) → All KnownInRange (nearest far)
        chosen far = All-take KnownInRange count (sorted_by far others)
            (sorted_in_range far others (All-filter (λ k. not (is_among k.who accused)) KnownInRange r.known h))

-- Who is heard.

pub heard_in_range : (who : Who) (point now : ℕ) (ks : List Known) → IsTrue (is_who who) → All KnownInRange ks → All KnownInRange (heard_in who point now ks)
heard_in_range who point now [] h m = All-cons KnownInRange _ [] h m
heard_in_range who point now (k ∷ ks) h m = by_test (k.who.actor == who.actor) (heard_in_range who point now ks h (All-tail KnownInRange k ks m))
  where
    here : (b : Bool) → KnownInRange (cond b (record k { who = who; heard = now }) k)
    here true = h
    here false = All-head KnownInRange k ks m

    by_test : (b : Bool) → All KnownInRange (heard_in who point now ks) → All KnownInRange (cond b (heard_again who now k ∷ ks) (k ∷ heard_in who point now ks))
    by_test true rest = All-cons KnownInRange (heard_again who now k) ks (here (nat_le k.who.instance who.instance)) (All-tail KnownInRange k ks m)
    by_test false rest = All-cons KnownInRange k (heard_in who point now ks) (All-head KnownInRange k ks m) rest
