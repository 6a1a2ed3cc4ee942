-- Whether two instances are the same.
use Rattle.std.proofs.Common.{◌≡◌, ◌≢◌, Bool, true, false, ◌==◌, refl, subst}
use Rattle.std.proofs.lemmas.Bool.{eqb-true, eq-eqb, and_parts, and_from, both_ways}
use Rattle.ring_points.specs.declared.who.Who.{Who}
use Rattle.ring_points.specs.Whos.{same_who}

pub same_who-true : (a b : Who) → same_who a b ≡ true → a ≡ b
same_who-true a b e =
    let h : (a.actor == b.actor ≡ true) × (a.instance == b.instance ≡ true) = and_parts (a.actor == b.actor) (a.instance == b.instance) e in
    λ i. record { actor = eqb-true a.actor b.actor h.0 i; instance = eqb-true a.instance b.instance h.1 i }

pub same_who-refl : (a : Who) → same_who a a ≡ true
same_who-refl a = and_from (a.actor == a.actor) (a.instance == a.instance) (eq-eqb a.actor a.actor refl) (eq-eqb a.instance a.instance refl)

pub same_who-false : (a b : Who) → same_who a b ≡ false → a ≢ b
same_who-false a b e h = both_ways (same_who a b) e (subst (λ z. same_who a z ≡ true) h (same_who-refl a))

pub same_who_from : (a b : Who) → a ≢ b → same_who a b ≡ false
same_who_from a b n = go (same_who a b) refl
  where
    go : (t : Bool) → same_who a b ≡ t → t ≡ false
    go true e = absurd (n (same_who-true a b e))
    go false e = refl
