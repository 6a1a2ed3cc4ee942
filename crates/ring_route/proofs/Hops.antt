-- The nearest of the known nodes is the one at the place that the search of their points finds.
use Rattle.std.proofs.Common.{◌≡◌, ℕ, suc, ◌<◌, ◌==◌, Bool, true, false, List, [], ◌∷◌, length, refl, sym, ap, ◌∙◌, arith, IsTrue, map, get_or, Option, Some, None, filter, if◌then◌else◌, eqb-true, subst}
use Rattle.std.specs.List.{find}
use Rattle.std.proofs.lemmas.List.{get_or-map, length-map}
use Rattle.ring_points.specs.Distances.{is_nearer}
use Rattle.lane_scan.specs.Nearest.{nearest_place, nearer_place}
use Rattle.ring_points.specs.declared.who.Who.{Who}
use Rattle.ring_route.specs.declared.known.Known.{Known}
use Rattle.ring_route.specs.declared.hop.Hop.TheVariants.{To, Nowhere}
use Rattle.ring_route.specs.Entries.{has_its_point, are_entries}
use Rattle.ring_route.specs.Routes.{point_of, nearest_of, nearer_known, hop_to}

-- the point of the entry that a search found
abbrev pub point_or : Option (ℕ × ℕ) → ℕ
point_or None = 0
point_or (Some p) = p.1

point_is-by : (node : ℕ) (p : ℕ × ℕ) (ps : List (ℕ × ℕ)) → point_or (find (λ x. x.0 == node) ps) ≡ point_of node ps → (b : Bool) → p.0 == node ≡ b → point_or (find (λ x. x.0 == node) (p ∷ ps)) ≡ point_of node (p ∷ ps)
point_is-by node p ps later true is = rw is refl
point_is-by node p ps later false is = rw is later

pub point_is : (node : ℕ) (ps : List (ℕ × ℕ)) → point_or (find (λ x. x.0 == node) ps) ≡ point_of node ps
point_is node [] = refl
point_is node (p ∷ ps) = point_is-by node p ps (point_is node ps) (p.0 == node) refl

abbrev pub points : List Known → List ℕ
points ks = map (λ k. k.point) ks

-- the node at the place, if there is one
abbrev pub at_place : Known → List Known → Option ℕ → Option Known
at_place d ks None = None
at_place d ks (Some i) = Some (get_or ks i d)

inside_by : (key p : ℕ) (ps : List ℕ) (i : ℕ) (place : Option ℕ) → nearest_place key ps ≡ place → ((j : ℕ) → nearest_place key ps ≡ Some j → j < length ps) → nearer_place key p ps place ≡ Some i → i < length (p ∷ ps)
inside_by key p ps i None is later e = let same : 0 ≡ i = cc in omega arith
inside_by key p ps i (Some j) is later e = by (is_nearer key (get_or ps j 0) p) refl where
  by : (b : Bool) → is_nearer key (get_or ps j 0) p ≡ b → i < length (p ∷ ps)
  by true near = let f : Some (suc j) ≡ Some i = rw near at e in let same : suc j ≡ i = cc in omega (arith, later j is)
  by false near = let f : Some 0 ≡ Some i = rw near at e in let same : 0 ≡ i = cc in omega arith

-- the place found is one of the list
pub place_inside : (key : ℕ) (ps : List ℕ) (i : ℕ) → nearest_place key ps ≡ Some i → i < length ps
place_inside key [] i e = absurd (cc)
place_inside key (p ∷ ps) i e = inside_by key p ps i (nearest_place key ps) refl (place_inside key ps) e

nearest_at-by : (key : ℕ) (d k : Known) (ks : List Known) (place : Option ℕ) → nearest_place key (points ks) ≡ place → nearest_of key ks ≡ at_place d ks place → nearest_of key (k ∷ ks) ≡ at_place d (k ∷ ks) (nearer_place key k.point (points ks) place)
nearest_at-by key d k ks None is later = rw later refl
nearest_at-by key d k ks (Some j) is later =
    let inside : j < length ks = omega (arith, place_inside key (points ks) j is, length-map ks (λ (x : Known). x.point)) in
    let same : get_or (points ks) j 0 ≡ (get_or ks j d).point = get_or-map (λ (x : Known). x.point) ks j d 0 inside in
    rw (later, same) (by (is_nearer key (get_or ks j d).point k.point))
  where
    by : (b : Bool) → (if b then Some (get_or ks j d) else Some k) ≡ at_place d (k ∷ ks) (if b then Some (suc j) else Some 0)
    by true = refl
    by false = refl

pub nearest_at : (key : ℕ) (d : Known) (ks : List Known) → nearest_of key ks ≡ at_place d ks (nearest_place key (points ks))
nearest_at key d [] = refl
nearest_at key d (k ∷ ks) = nearest_at-by key d k ks (nearest_place key (points ks)) refl (nearest_at key d ks)

pub hop_at : (key own : ℕ) (ks : List Known) (d : Known) (ps : List ℕ) (place : Option ℕ) → ps ≡ points ks → place ≡ nearest_place key ps → hop_to key own (at_place d ks place) ≡ hop_to key own (nearest_of key ks)
hop_at key own ks d ps place same is =
    ap (λ (p : Option ℕ). hop_to key own (at_place d ks p)) (is ∙ ap (nearest_place key) same) ∙ ap (hop_to key own) (sym (nearest_at key d ks))

pub place_in : (key : ℕ) (ks : List Known) (ps : List ℕ) (i : ℕ) → ps ≡ points ks → Some i ≡ nearest_place key ps → i < length ks
place_in key ks ps i same is = omega (arith, place_inside key (points ks) i (sym (is ∙ ap (nearest_place key) same)), length-map ks (λ (x : Known). x.point))

found_which : (table : List (ℕ × ℕ)) (key : ℕ) (x k y : Known) → IsTrue (has_its_point table x) → IsTrue (has_its_point table y) → (b : Bool) → is_nearer key y.point x.point ≡ b → nearer_known key x (Some y) ≡ Some k → IsTrue (has_its_point table k)
found_which table key x k y own other true near f = let g : Some y ≡ Some k = rw near at f in let same : y ≡ k = cc in let P : Known → Type 0 = λ z. IsTrue (has_its_point table z) in subst P same other
found_which table key x k y own other false near f = let g : Some x ≡ Some k = rw near at f in let same : x ≡ k = cc in let P : Known → Type 0 = λ z. IsTrue (has_its_point table z) in subst P same own

found_here : (table : List (ℕ × ℕ)) (key : ℕ) (x k : Known) → IsTrue (has_its_point table x) → (o : Option Known) → ((y : Known) → o ≡ Some y → IsTrue (has_its_point table y)) → nearer_known key x o ≡ Some k → IsTrue (has_its_point table k)
found_here table key x k own None has f = let same : x ≡ k = cc in let P : Known → Type 0 = λ y. IsTrue (has_its_point table y) in subst P same own
found_here table key x k own (Some y) has f = found_which table key x k y own (has y refl) (is_nearer key y.point x.point) refl f

found_by : (table : List (ℕ × ℕ)) (key : ℕ) (p : Known → Bool) (x : Known) (ks : List Known) (k : Known) → IsTrue (has_its_point table x) → ((y : Known) → nearest_of key (filter p ks) ≡ Some y → IsTrue (has_its_point table y)) → (b : Bool) → p x ≡ b → nearest_of key (filter p (x ∷ ks)) ≡ Some k → IsTrue (has_its_point table k)
found_by table key p x ks k own has true is e = found_here table key x k own (nearest_of key (filter p ks)) has (rw is at e)
found_by table key p x ks k own has false is e = has k (rw is at e)

-- the nearest of them has its configured point
found_has : (table : List (ℕ × ℕ)) (key : ℕ) (p : Known → Bool) (ks : List Known) (k : Known) → IsTrue (are_entries table ks) → nearest_of key (filter p ks) ≡ Some k → IsTrue (has_its_point table k)
found_has table key p [] k h e = absurd (cc)
found_has table key p (x ∷ ks) k h e =
    let own : IsTrue (has_its_point table x) = grind arith in
    let rest : IsTrue (are_entries table ks) = grind arith in
    found_by table key p x ks k own (λ y. found_has table key p ks y rest) (p x) refl e

hop_nearer-by : (table : List (ℕ × ℕ)) (key own : ℕ) (o : Option Known) (w : Who) → ((k : Known) → o ≡ Some k → IsTrue (has_its_point table k)) → hop_to key own o ≡ To w → IsTrue (is_nearer key (point_of w.actor table) own)
hop_nearer-by table key own None w has e = absurd (cc)
hop_nearer-by table key own (Some k) w has e = which (is_nearer key k.point own) refl where
  which : (b : Bool) → is_nearer key k.point own ≡ b → IsTrue (is_nearer key (point_of w.actor table) own)
  which true near =
      let f : To k.who ≡ To w = rw near at e in
      let same : k.who ≡ w = cc in
      let at : k.point ≡ point_of k.who.actor table = eqb-true k.point (point_of k.who.actor table) (has k refl) in
      let at-w : k.point ≡ point_of w.actor table = at ∙ ap (λ (v : Who). point_of v.actor table) same in
      let P : ℕ → Type 0 = λ p. IsTrue (is_nearer key p own) in
      subst P at-w near
  which false near = let f : Nowhere ≡ To w = rw near at e in absurd (cc)

-- a hop goes to a node whose configured point is nearer
pub hop_nearer : (table : List (ℕ × ℕ)) (key own : ℕ) (p : Known → Bool) (ks : List Known) (w : Who) → IsTrue (are_entries table ks) → hop_to key own (nearest_of key (filter p ks)) ≡ To w → IsTrue (is_nearer key (point_of w.actor table) own)
hop_nearer table key own p ks w h e = hop_nearer-by table key own (nearest_of key (filter p ks)) w (λ k is. found_has table key p ks k h is) e

pub to_nearer : (key own : ℕ) (k : Known) → is_nearer key k.point own ≡ true → To k.who ≡ hop_to key own (Some k)
to_nearer key own k near = rw near refl

pub nowhere_nearer : (key own : ℕ) (k : Known) → is_nearer key k.point own ≡ false → Nowhere ≡ hop_to key own (Some k)
nowhere_nearer key own k near = rw near refl
