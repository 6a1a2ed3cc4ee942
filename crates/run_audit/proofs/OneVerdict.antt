-- A run has one verdict.
use Rattle.std.proofs.Common.{◌≡◌, ◌≢◌, ℕ, zero, suc, ◌≤◌, true, false, [], ◌∷◌, drop, Option, Some, None, ◌⊎◌, inl, inr, refl, sym, ap, ◌∙◌, subst, arith}
use Rattle.std.proofs.lemmas.Bool.Decides.{nat_tests}
use Rattle.std.proofs.lemmas.Option.{same_Some}
use Rattle.ring_points.specs.declared.point.Point.{Point}
use Rattle.ring_points.specs.declared.who.Who.{Who}
use Rattle.fabric_terms.specs.Primaries.{Safe}
use Rattle.fabric_terms.specs.Runs.{Moment, Run, Holds}
use Rattle.run_audit.specs.declared.breach.Breach.{Breach}
use Rattle.run_audit.specs.declared.breach.Breach.TheVariants.{Ring, Early, Primary, Older}
use Rattle.run_audit.specs.declared.primaries.Rivals.{Rivals}
use Rattle.run_audit.specs.declared.bounds.Lapse.{Lapse}
use Rattle.run_audit.specs.Breaches.{is_below, OneHolder, TwoHold, TakenHolds, IsBreach, IsVerdict}
use Rattle.run_audit.proofs.Holding.{Order, Below, Same, Above, order_of, not_itself}
use Rattle.run_audit.proofs.Safes.{safe_ago, sound_end}
use Rattle.run_audit.proofs.Verdicts.{breach_is_unsafe, not_sound}

below_chain : (u v w : Who) → is_below u v ≡ true → is_below v w ≡ true → is_below u w ≡ true
below_chain u v w h k = grind (arith, nat_tests)

apart : (v w : Who) → is_below v w ≡ true → v ≢ w
apart v w h e = not_itself v w e h

between : (p q : ℕ) → p ≤ q → q ≤ p → p ≡ q
between p q h k = omega arith

same_point : (p q : Point) → p.0 ≡ q.0 → p ≡ q
same_point p q e = λ i. record { 0 = e i }

-- the two least of the holders of a point
module _ (v w x y : Who) (lower : is_below v w ≡ true) (upper : is_below x y ≡ true)
    (x_there : (x ≡ v) ⊎ (x ≡ w) ⊎ (is_below w x ≡ true)) (y_there : (y ≡ v) ⊎ (y ≡ w) ⊎ (is_below w y ≡ true))
    (v_there : (v ≡ x) ⊎ (v ≡ y) ⊎ (is_below y v ≡ true)) (w_there : (w ≡ x) ⊎ (w ≡ y) ⊎ (is_below y w ≡ true)) where
  same_first : v ≡ x
  same_first = elim x_there as (λ _. v ≡ x) [
    | inl e ↦ sym e
    | inr (inl e) ↦ by_v (subst (λ z. is_below v z ≡ true) (sym e) lower)
    | inr (inr e) ↦ by_v (below_chain v w x lower e)
  ]
    where
      by_v : is_below v x ≡ true → v ≡ x
      by_v below = elim v_there as (λ _. v ≡ x) [
        | inl e ↦ e
        | inr (inl e) ↦ absurd (not_itself v y e (below_chain v x y below upper))
        | inr (inr e) ↦ absurd (not_itself v v refl (below_chain v x v below (below_chain x y v upper e)))
      ]

  same_second : v ≡ x → w ≡ y
  same_second e = elim w_there as (λ _. w ≡ y) [
    | inl f ↦ absurd (not_itself v w (e ∙ sym f) lower)
    | inr (inl f) ↦ f
    | inr (inr f) ↦ elim y_there as (λ _. w ≡ y) [
      | inl g ↦ absurd (not_itself x y (sym e ∙ sym g) upper)
      | inr (inl g) ↦ sym g
      | inr (inr g) ↦ absurd (not_itself w w refl (below_chain w y w g f))
    ]
  ]

ring_same : (run : Run) (p q : ℕ) (v w x y : Who) → TwoHold run p v w → TwoHold run q x y → (p ≡ q) × (v ≡ x) × (w ≡ y)
ring_same run p q v w x y h k = (points, first, second)
  where
    points : p ≡ q
    points = between p q (h.least_point q x y k.first k.second (apart x y k.order)) (k.least_point p v w h.first h.second (apart v w h.order))

    at_p : (z : Who) → Holds run z q → Holds run z p
    at_p z holds = subst (λ r. Holds run z r) (sym points) holds

    at_q : (z : Who) → Holds run z p → Holds run z q
    at_q z holds = subst (λ r. Holds run z r) points holds

    first : v ≡ x
    first = same_first v w x y h.order k.order (h.least_holders x (at_p x k.first)) (h.least_holders y (at_p y k.second)) (k.least_holders v (at_q v h.first)) (k.least_holders w (at_q w h.second))

    second : w ≡ y
    second = same_second v w x y h.order k.order (h.least_holders x (at_p x k.first)) (h.least_holders y (at_p y k.second)) (k.least_holders v (at_q v h.first)) (k.least_holders w (at_q w h.second)) first

neither : (v w : Who) → is_below v w ≡ false → is_below w v ≡ false → Order v w → v ≡ w
neither v w e f (Below h) = absurd (cc (e, h))
neither v w e f (Same h) = h
neither v w e f (Above h) = absurd (cc (f, h))

early_same : (run : Run) (v w : Who) (p q : ℕ) → TakenHolds run v p → TakenHolds run w q → (v ≡ w) × (p ≡ q)
early_same run v w p q h k = (who, between p q (h.least_point q (subst (λ z. Holds run z q) (sym who) k.holds)) (k.least_point p (subst (λ z. Holds run z p) who h.holds)))
  where
    who : v ≡ w
    who = neither v w (k.least_victim p v h.taken h.holds) (h.least_victim q w k.taken k.holds) (order_of v w)

no_two : (run : Run) (p : ℕ) (v w : Who) → TwoHold run p v w → OneHolder run → ⊥
no_two run p v w h one = not_itself v w (one p v w h.first h.second) h.order

-- what is wrong at a moment has one name
one_breach : (m : Moment) (ms : Run) (b d : Breach) → IsBreach m ms b → IsBreach m ms d → b ≡ d
one_breach m ms (Ring l p v w) (Ring n q x y) h k =
    let same = ring_same (m ∷ ms) p.0 q.0 v w x y h.1 k.1 in
    let point : p ≡ q = same_point p q same.0 in
    let line : l ≡ n = h.0 ∙ sym k.0 in
    λ i. Ring (line i) (point i) (same.1 i) (same.2 i)
one_breach m ms (Ring l p v w) (Early n x q) h k = absurd (no_two (m ∷ ms) p.0 v w h.1 k.1)
one_breach m ms (Ring l p v w) (Primary n part epoch a b) h k = absurd (no_two (m ∷ ms) p.0 v w h.1 k.1)
one_breach m ms (Ring l p v w) (Older n node part had got) h k = absurd (no_two (m ∷ ms) p.0 v w h.1 k.1)
one_breach m ms (Early n x q) (Ring l p v w) h k = absurd (no_two (m ∷ ms) p.0 v w k.1 h.1)
one_breach m ms (Early l v p) (Early n w q) h k =
    let same = early_same (m ∷ ms) v w p.0 q.0 h.2 k.2 in
    let point : p ≡ q = same_point p q same.1 in
    let line : l ≡ n = h.0 ∙ sym k.0 in
    λ i. Early (line i) (same.0 i) (point i)
one_breach m ms (Early l v p) (Primary n part epoch a b) h k = absurd (k.2 p.0 v h.2.taken h.2.holds)
one_breach m ms (Early l v p) (Older n node part had got) h k = absurd (k.2 p.0 v h.2.taken h.2.holds)
one_breach m ms (Primary n part epoch a b) (Ring l p v w) h k = absurd (no_two (m ∷ ms) p.0 v w k.1 h.1)
one_breach m ms (Primary n part epoch a b) (Early l v p) h k = absurd (h.2 p.0 v k.2.taken k.2.holds)
one_breach m ms (Primary l part epoch a b) (Primary n q e x y) h k =
    let same : ◌≡◌ {A = Option Rivals} (Some (record { partition = part; epoch = epoch; a = a; b = b })) (Some (record { partition = q; epoch = e; a = x; b = y })) = sym h.3 ∙ k.3 in
    let line : l ≡ n = h.0 ∙ sym k.0 in
    let e : ◌≡◌ {A = Rivals} (record { partition = part; epoch = epoch; a = a; b = b }) (record { partition = q; epoch = e; a = x; b = y }) = same_Some _ _ same in
    λ i. Primary (line i) (e i).partition (e i).epoch (e i).a (e i).b
one_breach m ms (Primary l part epoch a b) (Older n node q had got) h k =
    let bad : ◌≡◌ {A = Option Rivals} None (Some (record { partition = part; epoch = epoch; a = a; b = b })) = sym k.3 ∙ h.3 in
    absurd (cc)
one_breach m ms (Older n node part had got) (Ring l p v w) h k = absurd (no_two (m ∷ ms) p.0 v w k.1 h.1)
one_breach m ms (Older n node part had got) (Early l v p) h k = absurd (h.2 p.0 v k.2.taken k.2.holds)
one_breach m ms (Older n node q had got) (Primary l part epoch a b) h k =
    let bad : ◌≡◌ {A = Option Rivals} None (Some (record { partition = part; epoch = epoch; a = a; b = b })) = sym h.3 ∙ k.3 in
    absurd (cc)
one_breach m ms (Older l node part had got) (Older n x y d e) h k =
    let same : ◌≡◌ {A = Option Lapse} (Some (record { node = node; partition = part; had = had; got = got })) (Some (record { node = x; partition = y; had = d; got = e })) = sym h.4 ∙ k.4 in
    let line : l ≡ n = h.0 ∙ sym k.0 in
    let e : ◌≡◌ {A = Lapse} (record { node = node; partition = part; had = had; got = got }) (record { node = x; partition = y; had = d; got = e }) = same_Some _ _ same in
    λ i. Older (line i) (e i).node (e i).partition (e i).had (e i).got

-- the moment of the breach is one

not_later : (ago : ℕ) (run before : Run) (m n : Moment) (ms : Run) (b : Breach) → run ≡ m ∷ ms → Safe ms → drop (suc ago) run ≡ n ∷ before → IsBreach n before b → ⊥
not_later ago [] before m n ms b e safe ends breach = absurd (cc (e))
not_later ago (x ∷ xs) before m n ms b e safe ends breach =
    let rest : xs ≡ ms = cc (e) in
    let at : Safe (drop ago xs) = safe_ago ago xs (subst (λ r. Safe r) (sym rest) safe) in
    not_sound n before b breach (sound_end (n ∷ before) (subst (λ r. Safe r) ends at))

breaches : (i j : ℕ) (run : Run) (m n : Moment) (ms ns : Run) (b d : Breach)
    → drop i run ≡ m ∷ ms → Safe ms → IsBreach m ms b → drop j run ≡ n ∷ ns → Safe ns → IsBreach n ns d → b ≡ d
breaches zero zero run m n ms ns b d e safe breach f safe' breach' =
    let same : m ∷ ms ≡ n ∷ ns = sym e ∙ f in
    let first : m ≡ n = cc (same) in
    let rest : ms ≡ ns = cc (same) in
    one_breach n ns b d (subst (λ r. IsBreach n r b) rest (subst (λ x. IsBreach x ms b) first breach)) breach'
breaches zero (suc j) run m n ms ns b d e safe breach f safe' breach' = absurd (not_later j run ns m n ms d e safe f breach')
breaches (suc i) zero run m n ms ns b d e safe breach f safe' breach' = absurd (not_later i run ms n m ns b f safe' e breach)
breaches (suc i) (suc j) [] m n ms ns b d e safe breach f safe' breach' = absurd (cc (e))
breaches (suc i) (suc j) (x ∷ xs) m n ms ns b d e safe breach f safe' breach' = breaches i j xs m n ms ns b d e safe breach f safe' breach'

pub one_verdict : (run : Run) (a b : Option Breach) → IsVerdict run a → IsVerdict run b → a ≡ b
one_verdict run None None h k = refl
one_verdict run None (Some b) h k = absurd (breach_is_unsafe run b k h)
one_verdict run (Some a) None h k = absurd (breach_is_unsafe run a h k)
one_verdict run (Some a) (Some b) h k =
    ap (λ x. Some x) (breaches h.newer k.newer run h.moment k.moment h.before k.before a b h.ends h.safe_before h.breach k.ends k.safe_before k.breach)
