-- Those that lived are met in their order, as the clocks are.
use Rattle.std.proofs.Common.{◌≡◌, ◌≢◌, ℕ, Bool, true, false, cond, List, [], ◌∷◌, ◌++◌, Option, Some, Contains, inl, inr, refl, sym, ap, ◌∙◌, subst, arith}
use Rattle.std.specs.List.{list_all}
use Rattle.std.proofs.lemmas.Bool.{and_parts}
use Rattle.std.proofs.lemmas.Bool.Decides.{nat_tests}
use Rattle.std.proofs.lemmas.List.Elements.{Contains-push_cases}
use Rattle.ring_points.specs.declared.who.Who.{Who}
use Rattle.fabric_terms.specs.Runs.{Clocks}
use Rattle.run_audit.specs.declared.overlap.LiveHolder.{LiveHolder}
use Rattle.run_audit.specs.Breaches.{is_below}
use Rattle.run_audit.specs.Clocks.{AreKnown, begins_with, from_who, whos_of, whos_rise}
use Rattle.run_audit.proofs.Members.{Contains-cases, Contains-empty, Contains-first, Contains-rest}
use Rattle.run_audit.proofs.Readings.{same_who-refl}

not_above : (v w : Who) → is_below v w ≡ true → is_below w v ≡ false
not_above v w h = grind (arith, nat_tests)

not_itself : (w : Who) → is_below w w ≡ false
not_itself w = grind (arith, nat_tests)

all_there : (f : Who → Bool) (ws : List Who) (w : Who) → list_all f ws ≡ true → Contains ws w → f w ≡ true
all_there f [] w all has = absurd (Contains-empty w has)
all_there f (x ∷ xs) w all has = elim (Contains-cases x w xs has) as (λ _. f w ≡ true) [
  | inl e ↦ subst (λ y. f y ≡ true) e (and_parts (f x) (list_all f xs) all).0
  | inr k ↦ all_there f xs w (and_parts (f x) (list_all f xs) all).1 k
]

-- those above v are still left
above_left : (v w : Who) (ws : List Who) → is_below v w ≡ true → Contains ws w → Contains (from_who v ws) w
above_left v w [] h has = has
above_left v w (x ∷ xs) h has = by (is_below x v) refl (λ k. above_left v w xs h k)
  where
    by : (t : Bool) → is_below x v ≡ t → (Contains xs w → Contains (from_who v xs) w) → Contains (cond t (from_who v xs) (x ∷ xs)) w
    by false e later = has
    by true e later = elim (Contains-cases x w xs has) as (λ _. Contains (from_who v xs) w) [
      | inl same ↦ let below : is_below w v ≡ true = subst (λ y. is_below y v ≡ true) same e in absurd (cc (below, not_above v w h))
      | inr k ↦ later k
    ]

left_rise : (v : Who) (ws : List Who) → whos_rise ws ≡ true → whos_rise (from_who v ws) ≡ true
left_rise v [] rise = refl
left_rise v (x ∷ xs) rise = by (is_below x v) (left_rise v xs (and_parts (list_all (is_below x) xs) (whos_rise xs) rise).1)
  where
    by : (t : Bool) → whos_rise (from_who v xs) ≡ true → whos_rise (cond t (from_who v xs) (x ∷ xs)) ≡ true
    by false later = rise
    by true later = later

-- of those that rise, one that is among them is the first that is not below it
first_left : (w : Who) (ws : List Who) → whos_rise ws ≡ true → Contains ws w → begins_with w (from_who w ws) ≡ true
first_left w [] rise has = absurd (Contains-empty w has)
first_left w (x ∷ xs) rise has =
    let parts = and_parts (list_all (is_below x) xs) (whos_rise xs) rise in
    elim (Contains-cases x w xs has) as (λ _. begins_with w (from_who w (x ∷ xs)) ≡ true) [
      | inl same ↦
          ap (λ t. begins_with w (cond t (from_who w xs) (x ∷ xs))) (subst (λ y. is_below y w ≡ false) (sym same) (not_itself w))
          ∙ subst (λ y. begins_with w (y ∷ xs) ≡ true) (sym same) (same_who-refl w)
      | inr k ↦
          ap (λ t. begins_with w (cond t (from_who w xs) (x ∷ xs))) (all_there (is_below x) xs w parts.0 k) ∙ first_left w xs parts.1 k
    ]

-- Of the clocks that are still to come, those that lived are still left.
pub record Follows (rest : Clocks) (lived left : List Who) : Type 0 where
  pub clocks : whos_rise (whos_of rest) ≡ true
  pub rises : whos_rise left ≡ true
  pub there : (w : Who) → Contains lived w → Contains (whos_of rest) w → Contains left w

pub follow_on : (c : Who × ℕ) (rest : Clocks) (lived left : List Who) → Follows (c ∷ rest) lived left → Follows rest lived (from_who c.0 left)
follow_on c rest lived left f =
    let parts = and_parts (list_all (is_below c.0) (whos_of rest)) (whos_rise (whos_of rest)) f.clocks in
    record {
      clocks = parts.1;
      rises = left_rise c.0 left f.rises;
      there = λ w has comes. above_left c.0 w left (all_there (is_below c.0) (whos_of rest) w parts.0 comes) (f.there w has (Contains-rest c.0 w (whos_of rest) comes));
    }

pub follow_first : (c : Who × ℕ) (rest : Clocks) (lived left : List Who) → Follows (c ∷ rest) lived left → Contains lived c.0 → begins_with c.0 (from_who c.0 left) ≡ true
follow_first c rest lived left f has = first_left c.0 left f.rises (f.there c.0 has (Contains-first c.0 (whos_of rest)))

-- The holders so far are known, and of the clocks to come those that lived are left.
pub record Knows (rest : Clocks) (lived left : List Who) (actor : Option Who) (hs : List LiveHolder) : Type 0 where
  pub follows : Follows rest lived left
  pub known : AreKnown lived actor hs

pub knows_first : (clocks : Clocks) (lived : List Who) (actor : Option Who) → whos_rise (whos_of clocks) ≡ true → whos_rise lived ≡ true → Knows clocks lived lived actor []
knows_first clocks lived actor rise old = record {
  follows = record { clocks = rise; rises = old; there = λ w has comes. has };
  known = λ h has. absurd (Contains-empty h has);
}

pub knows_none : (c : Who × ℕ) (rest : Clocks) (lived left : List Who) (actor : Option Who) (hs : List LiveHolder) → Knows (c ∷ rest) lived left actor hs
    → Knows rest lived (from_who c.0 left) actor hs
knows_none c rest lived left actor hs k = record { follows = follow_on c rest lived left k.follows; known = k.known }

pub knows_some : (c : Who × ℕ) (rest : Clocks) (lived left : List Who) (actor : Option Who) (hs : List LiveHolder) (x : LiveHolder) → Knows (c ∷ rest) lived left actor hs
    → x.who ≡ c.0 → (begins_with c.0 (from_who c.0 left) ≡ true → actor ≢ Some c.0 → x.fresh ≡ false)
    → Knows rest lived (from_who c.0 left) actor (hs ++ x ∷ [])
knows_some c rest lived left actor hs x k is old = record { follows = follow_on c rest lived left k.follows; known = known }
  where
    known : AreKnown lived actor (hs ++ x ∷ [])
    known h has = elim (Contains-push_cases hs x h has) as (λ _. Contains lived h.who → actor ≢ Some h.who → h.fresh ≡ false) [
      | inl there ↦ k.known h there
      | inr e ↦ λ lives other.
          let who : h.who ≡ c.0 = ap (λ (y : LiveHolder). y.who) (sym e) ∙ is in
          ap (λ (y : LiveHolder). y.fresh) (sym e)
          ∙ old (follow_first c rest lived left k.follows (subst (λ w. Contains lived w) who lives)) (subst (λ w. actor ≢ Some w) who other)
    ]
