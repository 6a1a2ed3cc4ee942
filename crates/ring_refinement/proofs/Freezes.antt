-- A freeze against its image, when a place of the table changes.
use Rattle.std.proofs.Common.{◌≡◌, ℕ, ◌+◌, ◌<◌, Bool, true, false, cond, ◌==◌, length, Option, Some, None, refl, sym, ap, ◌∙◌, subst}
use Rattle.std.specs.Prelude.{slice_set}
use Rattle.std.proofs.lemmas.Bool.{eqb-true, eq-eqb, eqb-false, both_ways}
use Rattle.token_core.specs.Tokens as token
use Rattle.token_core.specs.Tokens.{Freeze}
use Rattle.ring_rules.specs.Deeds as rows
use Rattle.ring_rules.specs.declared.link.Link.{Link}
use Rattle.ring_rules.specs.declared.link.LinkState.TheVariants as state
use Rattle.ring_rules.specs.Rings.{Slots}
use Rattle.ring_rules.specs.Slots.{slot_at}
use Rattle.ring_machine.specs.Tokens as machine
use Rattle.ring_machine.proofs.Whos.{test}
use Rattle.ring_refinement.specs.Images.{points_of, number_of, freeze_of, token_of}
use Rattle.ring_refinement.specs.Shown.{IsFrozenFor}
use Rattle.ring_refinement.proofs.Places.{used_within, set_cases, set_other}

-- the place of a freeze has its number as before
pub freeze_kept : (slots now : Slots) (o : Option Freeze) →
    ((z : Freeze) → o ≡ Some z → number_of (slot_at z.slot now) ≡ number_of (slot_at z.slot slots)) → freeze_of now o ≡ freeze_of slots o
freeze_kept slots now None same = refl
freeze_kept slots now (Some z) same = let e = same z refl in λ j. Some (record { part = points_of z.part; number = e j; version = z.version })

module _ (slots : Slots) (i : ℕ) (l : Link) (at : slot_at i slots ≡ Some l) where
  within : i < length slots
  within = used_within slots i l at

  -- a link of the same number takes the place
  pub number_put : (k : Link) → k.mine ≡ l.mine → (j : ℕ) → number_of (slot_at j (slice_set slots i (Some k))) ≡ number_of (slot_at j slots)
  number_put k e j = set_cases (λ j o. number_of o ≡ number_of (slot_at j slots)) slots i (Some k) j within
      (e ∙ ap number_of (sym at)) (λ n. refl)

  pub freeze_put : (k : Link) → k.mine ≡ l.mine → (o : Option Freeze) → freeze_of (slice_set slots i (Some k)) o ≡ freeze_of slots o
  freeze_put k e o = freeze_kept slots (slice_set slots i (Some k)) o (λ z h. number_put k e z.slot)

  pub frozen_put : (k : Link) → (l.state ≡ state.Bound → k.state ≡ state.Bound) → (j : ℕ) → IsFrozenFor slots j → IsFrozenFor (slice_set slots i (Some k)) j
  frozen_put k e j z = set_cases (λ j o. IsFrozenFor slots j → slot_at j (slice_set slots i (Some k)) ≡ o → IsFrozenFor (slice_set slots i (Some k)) j) slots i (Some k) j within
      (λ z a. record { link = k; at = a; bound = e (let same : z.link ≡ l = both z.link z.at in subst (λ (u : Link). u.state ≡ state.Bound) same z.bound) })
      (λ n z a. record { link = z.link; at = a ∙ z.at; bound = z.bound }) z refl
    where
      both : (u : Link) → slot_at i slots ≡ Some u → u ≡ l
      both u h = cc (h, at)

  -- a place whose link is not bound has no freeze
  pub not_frozen : (l.state ≡ state.Bound → ⊥) → (j : ℕ) → IsFrozenFor slots j → i ≡ j → ⊥
  not_frozen n j z e =
      let there : slot_at i slots ≡ Some z.link = subst (λ (j : ℕ). slot_at j slots ≡ Some z.link) (sym e) z.at in
      let same : z.link ≡ l = cc (there, at) in
      n (subst (λ (u : Link). u.state ≡ state.Bound) same z.bound)

  -- another place than that of the freeze changes
  pub freeze_other : (p : Option Link) (o : Option Freeze) → ((z : Freeze) → o ≡ Some z → i ≡ z.slot → ⊥) → freeze_of (slice_set slots i p) o ≡ freeze_of slots o
  freeze_other p o n = freeze_kept slots (slice_set slots i p) o (λ z h. ap number_of (set_other slots i p z.slot (n z h)))

  pub frozen_other : (p : Option Link) (j : ℕ) → (i ≡ j → ⊥) → IsFrozenFor slots j → IsFrozenFor (slice_set slots i p) j
  frozen_other p j n z = record { link = z.link; at = set_other slots i p j n ∙ z.at; bound = z.bound }

  -- a freeze for the place is undone, and the place changes
  module _ (once : (j : ℕ) (k : Link) → slot_at j slots ≡ Some k → k.mine ≡ l.mine → i ≡ j) where
    pub undone_is : (p : Option Link) (t : token.Token) (o : Option Freeze) → ((z : Freeze) → o ≡ Some z → IsFrozenFor slots z.slot) → t.freeze ≡ o →
        token_of (slice_set slots i p) (rows.undone_at i t o) ≡ machine.undone l.mine (token_of slots t) (freeze_of slots o)
    undone_is p t None frozen e =
        let none = ap (freeze_of (slice_set slots i p)) e ∙ sym (ap (freeze_of slots) e) in
        λ j. record { ranges = points_of t.ranges; version = t.version; freeze = none j; next_flight = t.next_flight }
    undone_is p t (Some z) frozen e = test (z.slot == i) here there
      where
        is : IsFrozenFor slots z.slot
        is = frozen z refl

        number : number_of (slot_at z.slot slots) ≡ is.link.mine
        number = ap number_of is.at

        by_tests : (a b : Bool) → a ≡ b → (a ≡ false → freeze_of (slice_set slots i p) t.freeze ≡ freeze_of slots t.freeze) →
            token_of (slice_set slots i p) (rows.undone_if t a) ≡ cond b (record (token_of slots t) { version = t.version + 1; freeze = None }) (token_of slots t)
        by_tests true true e same = refl
        by_tests true false e same = absurd (cc (e))
        by_tests false true e same = absurd (cc (e))
        by_tests false false e same = let s = same refl in λ j. record { ranges = points_of t.ranges; version = t.version; freeze = s j; next_flight = t.next_flight }

        here : z.slot == i ≡ true → token_of (slice_set slots i p) (rows.undone_at i t (Some z)) ≡ machine.undone l.mine (token_of slots t) (freeze_of slots (Some z))
        here h =
            let same : z.slot ≡ i = eqb-true z.slot i h in
            let mine : number_of (slot_at z.slot slots) ≡ l.mine = ap (λ (j : ℕ). number_of (slot_at j slots)) same ∙ ap number_of at in
            by_tests (z.slot == i) (number_of (slot_at z.slot slots) == l.mine) (h ∙ sym (eq-eqb (number_of (slot_at z.slot slots)) l.mine mine)) (λ n. absurd (both_ways _ n h))

        there : z.slot == i ≡ false → token_of (slice_set slots i p) (rows.undone_at i t (Some z)) ≡ machine.undone l.mine (token_of slots t) (freeze_of slots (Some z))
        there h =
            let other : z.slot ≡ i → ⊥ = eqb-false z.slot i h in
            let number_other : number_of (slot_at z.slot slots) == l.mine ≡ false =
            test (number_of (slot_at z.slot slots) == l.mine)
            (λ k. absurd (other (sym (once z.slot is.link is.at (sym number ∙ eqb-true (number_of (slot_at z.slot slots)) l.mine k))))) (λ k. k) in
            by_tests (z.slot == i) (number_of (slot_at z.slot slots) == l.mine) (h ∙ sym number_other)
            (λ n. subst (λ (o : Option Freeze). freeze_of (slice_set slots i p) o ≡ freeze_of slots o) (sym e)
            (freeze_other p (Some z) (λ y k m. other (let same : z ≡ y = cc (k) in ap (λ (y : Freeze). y.slot) same ∙ sym m))))

    -- what is frozen then is frozen for another place
    pub undone_frozen : (p : Option Link) (t : token.Token) (o : Option Freeze) → ((z : Freeze) → o ≡ Some z → IsFrozenFor slots z.slot) → t.freeze ≡ o →
        (z : Freeze) → (rows.undone_at i t o).freeze ≡ Some z → IsFrozenFor (slice_set slots i p) z.slot
    undone_frozen p t None frozen e z h = absurd (cc (e, h))
    undone_frozen p t (Some y) frozen e z h = go (y.slot == i) refl h
      where
        go : (b : Bool) → y.slot == i ≡ b → (rows.undone_if t b).freeze ≡ Some z → IsFrozenFor (slice_set slots i p) z.slot
        go true k h = absurd (cc (h))
        go false k h =
            let same : y ≡ z = cc (e, h) in
            subst (λ (z : Freeze). IsFrozenFor (slice_set slots i p) z.slot) same (frozen_other p y.slot (λ m. eqb-false y.slot i k (sym m)) (frozen y refl))
