-- The readings of a tick, where one node has another reading.
use Rattle.std.proofs.Common.{◌≡◌, ℕ, ◌+◌, ◌<◌, Bool, true, false, cond, ◌&&◌, List, [], ◌∷◌, Some, refl, ap, ◌∙◌, arith}
use Rattle.std.specs.Prelude.{◌==◌, map, nat_le, nat_lt, unwrap_or}
use Rattle.std.specs.Option.{option_map}
use Rattle.std.proofs.lemmas.Bool.{and_from, and_parts, eqb-true}
use Rattle.std.proofs.lemmas.Bool.Decides.{nat_tests}
use Rattle.fabric_lemmas.specs.Maps.{at, put, put_here, rises_from}
use Rattle.fabric_terms.specs.declared.config.FabricConfig.{FabricConfig}
use Rattle.world_rules.specs.Events.{shows, ticked}
use Rattle.world_rules.specs.Schedules.{are_of, fits_pairs, readings_fit}
use Rattle.world_rules.specs.Uppers.{Upper}
use Rattle.world_rules.specs.Worlds.{World, Running}

-- what stands at a number after a tick
pub at_shown : {a : Upper} (time : ℕ) (readings : List (ℕ × ℕ)) (es : List (ℕ × Running a)) (q : ℕ) →
    at q (map (ticked {a = a} time readings) es) ≡ option_map (λ (s : Running a). shows time (unwrap_or (at q readings) s.reading) s) (at q es)
at_shown time readings [] q = refl
at_shown {a = a} time readings (e ∷ es) q = go (e.0 == q) refl (at_shown time readings es q)
  where
    go : (b : Bool) → (e.0 == q) ≡ b →
        at q (map (ticked {a = a} time readings) es) ≡ option_map (λ (s : Running a). shows time (unwrap_or (at q readings) s.reading) s) (at q es) →
        cond b (Some (ticked {a = a} time readings e).1) (at q (map (ticked {a = a} time readings) es)) ≡
        option_map (λ (s : Running a). shows time (unwrap_or (at q readings) s.reading) s) (cond b (Some e.1) (at q es))
    go true h again = λ i. Some (shows {a = a} time (unwrap_or (at (eqb-true e.0 q h i) readings) e.1.reading) e.1)
    go false h again = again

-- a reading more where a node more runs, or another where it runs already
pub are_of-put : {X : Type 0} (n r : ℕ) (x : X) (rs : List (ℕ × ℕ)) (es : List (ℕ × X)) → are_of rs es ≡ true → are_of (put n r rs) (put n x es) ≡ true
are_of-put n r x [] [] h = and_from (n == n) true (grind (arith, nat_tests)) refl
are_of-put n r x [] (e ∷ es) h = absurd (cc (h))
are_of-put n r x (k ∷ rs) [] h = absurd (cc (h))
are_of-put {X = X} n r x (k ∷ rs) (e ∷ es) h =
    let parts = and_parts (k.0 == e.0) (are_of rs es) h in
    go (nat_lt n k.0) (nat_lt n e.0) (n == k.0) (n == e.0) (ap (nat_lt n) (eqb-true k.0 e.0 parts.0)) (ap (λ z. n == z) (eqb-true k.0 e.0 parts.0)) parts.0 parts.1
    (are_of-put n r x rs es parts.1)
  where
    go : (lt lt' same same' : Bool) → lt ≡ lt' → same ≡ same' → (k.0 == e.0) ≡ true → are_of rs es ≡ true → are_of (put n r rs) (put n x es) ≡ true →
        are_of (put_here n r k rs (put n r rs) lt same) (put_here n x e es (put n x es) lt' same') ≡ true
    go true true same same' f g first rest again =
        and_from (n == n) (k.0 == e.0 && are_of rs es) (grind (arith, nat_tests)) (and_from (k.0 == e.0) (are_of rs es) first rest)
    go false false true true f g first rest again = and_from (n == n) (are_of rs es) (grind (arith, nat_tests)) rest
    go false false false false f g first rest again = and_from (k.0 == e.0) (are_of (put n r rs) (put n x es)) first again
    go true false same same' f g first rest again = absurd (cc (f))
    go false true same same' f g first rest again = absurd (cc (f))
    go false false true false f g first rest again = absurd (cc (g))
    go false false false true f g first rest again = absurd (cc (g))

-- two worlds in which the same nodes run, but for one
module _ {a : Upper} (c : FabricConfig) (w v : World a) (node : ℕ) (others : (q : ℕ) → (node == q) ≡ false → at q v.nodes ≡ at q w.nodes) (time : ℕ) where
  -- readings of others fit
  kept_fit : (low : ℕ) (rs : List (ℕ × ℕ)) (es : List (ℕ × Running a)) → node < low → rises_from low es ≡ true → are_of rs es ≡ true →
      readings_fit c w time rs ≡ true → readings_fit c v time rs ≡ true
  kept_fit low [] es lt up are h = refl
  kept_fit low (k ∷ rs) [] lt up are h = absurd (cc (are))
  kept_fit low (k ∷ rs) (e ∷ es) lt up are h =
      let above = and_parts (nat_le low e.0) (rises_from (e.0 + 1) es) up in
      let alike = and_parts (k.0 == e.0) (are_of rs es) are in
      let parts = and_parts (fits_pairs c time k.1 (at k.0 w.nodes)) (readings_fit c w time rs) h in
      let first = alike.0 in
      let least = above.0 in
      let other : (node == k.0) ≡ false = grind (arith, nat_tests, first, least, lt) in
      let later : node < e.0 + 1 = grind (arith, nat_tests, first, least, lt) in
      and_from _ _ (ap (fits_pairs c time k.1) (others k.0 other) ∙ parts.0) (kept_fit (e.0 + 1) rs es later above.1 alike.1 parts.1)

  -- each reading fits, with one for the node
  pub fit : (low reading : ℕ) (rs : List (ℕ × ℕ)) (es : List (ℕ × Running a)) → rises_from low es ≡ true → are_of rs es ≡ true →
      fits_pairs c time reading (at node v.nodes) ≡ true → readings_fit c w time rs ≡ true → readings_fit c v time (put node reading rs) ≡ true
  fit low reading [] es up are own h = and_from _ true own refl
  fit low reading (k ∷ rs) [] up are own h = absurd (cc (are))
  fit low reading (k ∷ rs) (e ∷ es) up are own h =
      go (nat_lt node k.0) refl (node == k.0) refl (λ rest above. fit (e.0 + 1) reading rs es above (and_parts (k.0 == e.0) (are_of rs es) are).1 own rest)
    where
      above : (nat_le low e.0 ≡ true) × (rises_from (e.0 + 1) es ≡ true)
      above = and_parts (nat_le low e.0) (rises_from (e.0 + 1) es) up

      alike : ((k.0 == e.0) ≡ true) × (are_of rs es ≡ true)
      alike = and_parts (k.0 == e.0) (are_of rs es) are

      parts : (fits_pairs c time k.1 (at k.0 w.nodes) ≡ true) × (readings_fit c w time rs ≡ true)
      parts = and_parts (fits_pairs c time k.1 (at k.0 w.nodes)) (readings_fit c w time rs) h

      go : (lt : Bool) → nat_lt node k.0 ≡ lt → (same : Bool) → (node == k.0) ≡ same →
          (readings_fit c w time rs ≡ true → rises_from (e.0 + 1) es ≡ true → readings_fit c v time (put node reading rs) ≡ true) →
          readings_fit c v time (put_here node reading k rs (put node reading rs) lt same) ≡ true
      go true f same g again =
          let first = alike.0 in
          let before : node < e.0 = grind (arith, nat_tests, first, f) in
          and_from _ _ own (kept_fit e.0 (k ∷ rs) (e ∷ es) before (and_from (nat_le e.0 e.0) (rises_from (e.0 + 1) es) (grind (arith, nat_tests)) above.1) are h)
      go false f true g again =
          let first = alike.0 in
          let before : node < e.0 + 1 = grind (arith, nat_tests, first, g) in
          and_from _ _ own (kept_fit (e.0 + 1) rs es before above.1 alike.1 parts.1)
      go false f false g again = and_from _ _ (ap (fits_pairs c time k.1) (others k.0 g) ∙ parts.0) (again parts.1 above.1)
