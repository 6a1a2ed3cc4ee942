-- Places of entries that rise by number.
use Rattle.std.proofs.Common.{◌≡◌, ℕ, suc, ◌+◌, ◌<◌, ◌≤◌, Bool, true, false, cond, ◌&&◌, List, [], ◌∷◌, Option, Some, None, length, map, refl, ap, sym, ◌∙◌, insert, set, get_or, remove, nat_lt, arith}
use Rattle.std.specs.Prelude.{◌==◌, is_some, nat_le, option_map}
use Rattle.std.specs.List.{position_from, position_or_len}
use Rattle.std.proofs.lemmas.Bool.{and_parts}
use Rattle.std.proofs.lemmas.Bool.Decides.{nat_tests}
use Rattle.fabric_lemmas.specs.Maps.{at, put, without, rises_from, rises}
use Rattle.fabric_lemmas.proofs.Maps.{at-put, at-without, rises-put, rises-without}
use Rattle.fabric_lemmas.proofs.SameMaps.{at-below, same_maps}
use Rattle.reconfig_phases.proofs.Polled.{found, missing}
use Rattle.reconfig_phases.specs.Views.{reconfig_of}
use Rattle.reconfig_phases.specs.declared.reconfig.Reconfig.{Reconfig}
use Rattle.unit_manager.specs.Managers.{place, reconfigs_of}

module _ {X : Type 0} where
  -- the place of the first above a number
  abbrev pub above : ℕ → List (ℕ × X) → ℕ
  above k es = position_or_len (λ e. nat_lt k e.0) es

  here : (k : ℕ) (e : ℕ × X) (es : List (ℕ × X)) → (e.0 == k) ≡ true → place k (e ∷ es) ≡ 0
  here k e es is = rw is refl

  later : (k : ℕ) (e : ℕ × X) (es : List (ℕ × X)) → (e.0 == k) ≡ false → place k (e ∷ es) ≡ suc (place k es)
  later k e es is = rw is (omega arith)

  -- what is inserted before the first that is above its number is put, where none stood
  put_above : (k : ℕ) (x : X) (es : List (ℕ × X)) → at k es ≡ None → insert es (above k es) (k, x) ≡ put k x es
  put_above k x [] none = refl
  put_above k x (e ∷ es) none = by (nat_lt k e.0) refl (e.0 == k) refl none (put_above k x es)
    where
      by : (lt : Bool) → nat_lt k e.0 ≡ lt → (same : Bool) → (e.0 == k) ≡ same → at k (e ∷ es) ≡ None
          → (at k es ≡ None → insert es (above k es) (k, x) ≡ put k x es)
          → insert (e ∷ es) (above k (e ∷ es)) (k, x) ≡ put k x (e ∷ es)
      by true f same g none rest = rw f refl
      by false f true g none rest = let some : Some e.1 ≡ None = rw g at none in absurd (cc)
      by false f false g none rest =
          let one : 1 + above k es ≡ suc (above k es) = omega arith in
          let other : (k == e.0) ≡ false = grind (arith, nat_tests, g) in
          rw (f, other, one) (ap (λ (fs : List (ℕ × X)). e ∷ fs) (rest (rw g at none)))

  pub inserted : (k : ℕ) (x : X) (es : List (ℕ × X)) (i : ℕ) → i ≡ above k es → at k es ≡ None → insert es i (k, x) ≡ put k x es
  inserted k x es i is none = rw is (put_above k x es none)

  -- what stands at the place of a number

  pub none_there : (k : ℕ) (es : List (ℕ × X)) → length es ≤ place k es → at k es ≡ None
  none_there k [] none = refl
  none_there k (e ∷ es) none = by (e.0 == k) refl (none_there k es)
    where
      by : (b : Bool) → (e.0 == k) ≡ b → (length es ≤ place k es → at k es ≡ None) → at k (e ∷ es) ≡ None
      by true is rest = absurd (omega (arith, here k e es is, none))
      by false is rest = rw is (rest (omega (arith, later k e es is, none)))

  pub some_there : (k : ℕ) (es : List (ℕ × X)) (d : ℕ × X) → place k es < length es
      → (at k es ≡ Some (get_or es (place k es) d).1) × ((get_or es (place k es) d).0 ≡ k)
  some_there k [] d some = absurd (omega arith)
  some_there k (e ∷ es) d some = by (e.0 == k) refl (some_there k es d)
    where
      by : (b : Bool) → (e.0 == k) ≡ b
          → (place k es < length es → (at k es ≡ Some (get_or es (place k es) d).1) × ((get_or es (place k es) d).0 ≡ k))
          → (at k (e ∷ es) ≡ Some (get_or (e ∷ es) (place k (e ∷ es)) d).1) × ((get_or (e ∷ es) (place k (e ∷ es)) d).0 ≡ k)
      by true is rest = let same : e.0 ≡ k = grind (arith, nat_tests, is) in rw (here k e es is, is) (refl, same)
      by false is rest = rw (later k e es is, is) (rest (omega (arith, later k e es is, some)))

  pub none_at : (k : ℕ) (es : List (ℕ × X)) → position_from (λ e. e.0 == k) 0 es ≡ None → at k es ≡ None
  none_at k es none = none_there k es (omega (arith, missing (λ (e : ℕ × X). e.0 == k) es none))

  -- a value that is written at the place of its number is put

  put_there : (k : ℕ) (x : X) (es : List (ℕ × X)) (low : ℕ) (d : ℕ × X) → rises_from low es ≡ true → place k es < length es
      → set es (place k es) ((get_or es (place k es) d).0, x) ≡ put k x es
  put_there k x [] low d up some = absurd (omega arith)
  put_there k x (e ∷ es) low d up some = by (e.0 == k) refl (nat_lt k e.0) refl (put_there k x es (e.0 + 1) d parts.1)
    where
      parts : (nat_le low e.0 ≡ true) × (rises_from (e.0 + 1) es ≡ true)
      parts = and_parts (nat_le low e.0) (rises_from (e.0 + 1) es) up

      by : (b : Bool) → (e.0 == k) ≡ b → (lt : Bool) → nat_lt k e.0 ≡ lt
          → (place k es < length es → set es (place k es) ((get_or es (place k es) d).0, x) ≡ put k x es)
          → set (e ∷ es) (place k (e ∷ es)) ((get_or (e ∷ es) (place k (e ∷ es)) d).0, x) ≡ put k x (e ∷ es)
      by true is true f rest = absurd (grind (arith, nat_tests, is, f))
      by true is false f rest =
          let same : e.0 ≡ k = grind (arith, nat_tests, is) in
          let turned : (k == e.0) ≡ true = grind (arith, nat_tests, is) in
          rw (here k e es is, f, turned) (ap (λ (n : ℕ). (n, x) ∷ es) same)
      by false is true f rest =
          let below : k < e.0 + 1 = grind (arith, nat_tests, f) in
          let none : at k es ≡ None = at-below (e.0 + 1) es k below parts.1 in
          let some : at k es ≡ Some (get_or es (place k es) d).1 = (some_there k es d (omega (arith, later k e es is, some))).0 in
          absurd (cc)
      by false is false f rest =
          let other : (k == e.0) ≡ false = grind (arith, nat_tests, is) in
          rw (later k e es is, f, other) (ap (λ (fs : List (ℕ × X)). e ∷ fs) (rest (omega (arith, later k e es is, some))))

  -- nothing is taken out where the number does not stand
  without_below : (k low : ℕ) (es : List (ℕ × X)) → k < low → rises_from low es ≡ true → without k es ≡ es
  without_below k low [] below up = refl
  without_below k low (e ∷ es) below up =
      let parts : (nat_le low e.0 ≡ true) × (rises_from (e.0 + 1) es ≡ true) = and_parts (nat_le low e.0) (rises_from (e.0 + 1) es) up in
      let first : low ≤ e.0 = grind (arith, nat_tests, parts.0) in
      let other : (e.0 == k) ≡ false = grind (arith, nat_tests, first) in
      rw other (ap (λ (fs : List (ℕ × X)). e ∷ fs) (without_below k (e.0 + 1) es (omega arith) parts.1))

  -- the entry at the place of a number is taken out
  taken_there : (k : ℕ) (es : List (ℕ × X)) (low : ℕ) → rises_from low es ≡ true → place k es < length es → remove es (place k es) ≡ without k es
  taken_there k [] low up some = absurd (omega arith)
  taken_there k (e ∷ es) low up some = by (e.0 == k) refl (taken_there k es (e.0 + 1) parts.1)
    where
      parts : (nat_le low e.0 ≡ true) × (rises_from (e.0 + 1) es ≡ true)
      parts = and_parts (nat_le low e.0) (rises_from (e.0 + 1) es) up

      by : (b : Bool) → (e.0 == k) ≡ b → (place k es < length es → remove es (place k es) ≡ without k es)
          → remove (e ∷ es) (place k (e ∷ es)) ≡ without k (e ∷ es)
      by true is rest =
          let same : k < e.0 + 1 = grind (arith, nat_tests, is) in
          rw (here k e es is, is) (sym (without_below k (e.0 + 1) es same parts.1))
      by false is rest = rw (later k e es is, is) (ap (λ (fs : List (ℕ × X)). e ∷ fs) (rest (omega (arith, later k e es is, some))))

  -- what was put is taken out again
  pub without-put : (k : ℕ) (x : X) (es : List (ℕ × X)) → rises es ≡ true → without k (put k x es) ≡ without k es
  without-put k x es up =
      same_maps (without k (put k x es)) (without k es) (rises-without k (put k x es) (rises-put k x es up)) (rises-without k es up)
      (λ q. at-without k (put k x es) q ∙ over q (k == q) (at-put k x es q) ∙ sym (at-without k es q))
    where
      over : (q : ℕ) (b : Bool) → at q (put k x es) ≡ cond b (Some x) (at q es) → cond b None (at q (put k x es)) ≡ cond b None (at q es)
      over q true e = refl
      over q false e = e

-- a map of which each value is seen as another

module _ {X Y : Type 0} (g : X → Y) where
  abbrev pub seen : List (ℕ × X) → List (ℕ × Y)
  seen es = map (λ e. (e.0, g e.1)) es

  pub at-seen : (k : ℕ) (es : List (ℕ × X)) → at k (seen es) ≡ option_map g (at k es)
  at-seen k [] = refl
  at-seen k (e ∷ es) = by (e.0 == k) (at-seen k es)
    where
      by : (b : Bool) → at k (seen es) ≡ option_map g (at k es) → cond b (Some (g e.1)) (at k (seen es)) ≡ option_map g (cond b (Some e.1) (at k es))
      by true rest = refl
      by false rest = rest

  pub put-seen : (k : ℕ) (x : X) (es : List (ℕ × X)) → seen (put k x es) ≡ put k (g x) (seen es)
  put-seen k x [] = refl
  put-seen k x (e ∷ es) = by (nat_lt k e.0) refl (k == e.0) refl (put-seen k x es)
    where
      by : (lt : Bool) → nat_lt k e.0 ≡ lt → (same : Bool) → (k == e.0) ≡ same → seen (put k x es) ≡ put k (g x) (seen es)
          → seen (put k x (e ∷ es)) ≡ put k (g x) (seen (e ∷ es))
      by true f same h rest = rw f refl
      by false f true h rest = rw (f, h) refl
      by false f false h rest = rw (f, h) (ap (λ (fs : List (ℕ × Y)). (e.0, g e.1) ∷ fs) rest)

  pub without-seen : (k : ℕ) (es : List (ℕ × X)) → seen (without k es) ≡ without k (seen es)
  without-seen k [] = refl
  without-seen k (e ∷ es) = by (e.0 == k) refl (without-seen k es)
    where
      by : (b : Bool) → (e.0 == k) ≡ b → seen (without k es) ≡ without k (seen es) → seen (without k (e ∷ es)) ≡ without k (seen (e ∷ es))
      by true h rest = rw h rest
      by false h rest = rw h (ap (λ (fs : List (ℕ × Y)). (e.0, g e.1) ∷ fs) rest)

  pub rises_from-seen : (low : ℕ) (es : List (ℕ × X)) → rises_from low (seen es) ≡ rises_from low es
  rises_from-seen low [] = refl
  rises_from-seen low (e ∷ es) = ap (λ b. nat_le low e.0 && b) (rises_from-seen (e.0 + 1) es)

-- The reconfigurations, as contracts see them.

none_before : (k : ℕ) (es : List (ℕ × Reconfig)) (o : Option Reconfig) → at k es ≡ o → at k (reconfigs_of es) ≡ None → at k es ≡ None
none_before k es None is none = is
none_before k es (Some r) is none =
    let some : at k (reconfigs_of es) ≡ Some (reconfig_of r) = at-seen reconfig_of k es ∙ ap (option_map reconfig_of) is in
    absurd (cc)

pub none_seen : (k : ℕ) (es : List (ℕ × Reconfig)) → position_from (λ e. e.0 == k) 0 es ≡ None → at k (reconfigs_of es) ≡ None
none_seen k es none = at-seen reconfig_of k es ∙ ap (option_map reconfig_of) (none_at k es none)

pub entered : (k : ℕ) (r : Reconfig) (es : List (ℕ × Reconfig)) (i : ℕ) → i ≡ position_or_len (λ e. nat_lt k e.0) es → at k (reconfigs_of es) ≡ None
    → reconfigs_of (insert es i (k, r)) ≡ put k (reconfig_of r) (reconfigs_of es)
entered k r es i is none =
    ap reconfigs_of (inserted k r es i is (none_before k es (at k es) refl none)) ∙ put-seen reconfig_of k r es

rises_before : (es : List (ℕ × Reconfig)) → rises (reconfigs_of es) ≡ true → rises es ≡ true
rises_before es up = sym (rises_from-seen reconfig_of 0 es) ∙ up

pub taken_out : (k : ℕ) (es : List (ℕ × Reconfig)) (i : ℕ) → i ≡ place k es → i < length es → rises (reconfigs_of es) ≡ true
    → reconfigs_of (remove es i) ≡ without k (reconfigs_of es)
taken_out k es i is inside up =
    let there : place k es < length es = omega (arith, is, inside) in
    ap reconfigs_of (ap (λ n. remove es n) is ∙ taken_there k es 0 (rises_before es up) there) ∙ without-seen reconfig_of k es

-- what stands at the place, and a change there
pub stands_there : (k : ℕ) (es : List (ℕ × Reconfig)) (i : ℕ) (d : ℕ × Reconfig) → i ≡ place k es → i < length es
    → at k (reconfigs_of es) ≡ Some (reconfig_of (get_or es i d).1)
stands_there k es i d is inside =
    let there : place k es < length es = omega (arith, is, inside) in
    let found : at k es ≡ Some (get_or es i d).1 = (some_there k es d there).0 ∙ ap (λ n. Some (get_or es n d).1) (sym is) in
    at-seen reconfig_of k es ∙ ap (option_map reconfig_of) found

pub changed_there : (k : ℕ) (es : List (ℕ × Reconfig)) (i : ℕ) (d : ℕ × Reconfig) (r : Reconfig) → i ≡ place k es → i < length es → rises (reconfigs_of es) ≡ true
    → reconfigs_of (set es i ((get_or es i d).0, r)) ≡ put k (reconfig_of r) (reconfigs_of es)
changed_there k es i d r is inside up =
    let there : place k es < length es = omega (arith, is, inside) in
    ap reconfigs_of (ap (λ n. set es n ((get_or es n d).0, r)) is ∙ put_there k r es 0 d (rises_before es up) there) ∙ put-seen reconfig_of k r es

-- the place stays, whatever is written there
pub same_place : (k : ℕ) (es : List (ℕ × Reconfig)) (d : ℕ × Reconfig) (r : Reconfig) → place k es < length es
    → place k (set es (place k es) ((get_or es (place k es) d).0, r)) ≡ place k es
same_place k [] d r some = absurd (omega arith)
same_place k (e ∷ es) d r some = by (e.0 == k) refl (same_place k es d r)
  where
    by : (b : Bool) → (e.0 == k) ≡ b
        → (place k es < length es → place k (set es (place k es) ((get_or es (place k es) d).0, r)) ≡ place k es)
        → place k (set (e ∷ es) (place k (e ∷ es)) ((get_or (e ∷ es) (place k (e ∷ es)) d).0, r)) ≡ place k (e ∷ es)
    by true is rest = rw (here k e es is) (here k (e.0, r) es is)
    by false is rest =
        rw (later k e es is) (later k e (set es (place k es) ((get_or es (place k es) d).0, r)) is ∙ ap suc (rest (omega (arith, later k e es is, some))))

pub some_seen : (k : ℕ) (es : List (ℕ × Reconfig)) (i : ℕ) → position_from (λ e. e.0 == k) 0 es ≡ Some i → i < length es
    → is_some (at k (reconfigs_of es)) ≡ true
some_seen k [] i is inside = absurd (omega (arith, inside))
some_seen k (e ∷ es) i is inside =
    ap is_some (stands_there k (e ∷ es) i e (found (λ (f : ℕ × Reconfig). f.0 == k) (e ∷ es) i is) inside)
