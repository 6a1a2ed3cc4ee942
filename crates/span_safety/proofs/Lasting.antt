-- Links of one length whose leases end no sooner than a given time, and tables of such links.
use Rattle.std.proofs.Common.{◌≡◌, ℕ, zero, suc, ◌+◌, ◌≤◌, Bool, true, false, [], ◌∷◌, Option, Some, None, refl, subst, arith}
use Rattle.std.specs.Prelude.{slice_set}
use Rattle.join_phases.specs.Phases.{is_left}
use Rattle.ring_rules.specs.Deeds as d
use Rattle.ring_rules.specs.declared.link.Link.{Link}
use Rattle.ring_rules.specs.Rings.{Settings, Slots, Work}
use Rattle.ring_rules.specs.Slots.{fence_if, fence_of, guards, slot_at}
use Rattle.span_safety.specs.Fences.{HaveLength, Keeps, NoSooner}

module _ (lease answer least : ℕ) where
  -- the link has the configured length, and where it counts for the fence, its lease and the time for an answer end no sooner
  abbrev pub Lasts : Link → Type 0
  Lasts l = (l.len ≡ lease) × (guards l.state ≡ true → least ≤ l.until + answer)

  abbrev pub PlaceLasts : Option Link → Type 0
  PlaceLasts None = Unit {0}
  PlaceLasts (Some l) = Lasts l

  abbrev pub AllLast : Slots → Type 0
  AllLast [] = Unit {0}
  AllLast (None ∷ os) = AllLast os
  AllLast (Some l ∷ os) = Lasts l × AllLast os

  -- after a step on its way
  abbrev pub Fine : Work → Type 0
  Fine w = AllLast w.ring.slots

  pub all_set : (slots : Slots) (i : ℕ) (o : Option Link) → AllLast slots → PlaceLasts o → AllLast (slice_set slots i o)
  all_set [] i o a b = tt
  all_set (None ∷ ks) zero None a b = a
  all_set (None ∷ ks) zero (Some l) a b = (b, a)
  all_set (None ∷ ks) (suc i) o a b = all_set ks i o a b
  all_set (Some k ∷ ks) zero None a b = a.1
  all_set (Some k ∷ ks) zero (Some l) a b = (b, a.1)
  all_set (Some k ∷ ks) (suc i) o a b = (a.0, all_set ks i o a.1 b)

  pub all_at : (slots : Slots) (i : ℕ) (l : Link) → AllLast slots → slot_at i slots ≡ Some l → Lasts l
  all_at [] i l a e = absurd (cc (e))
  all_at (None ∷ ks) zero l a e = absurd (cc (e))
  all_at (None ∷ ks) (suc i) l a e = all_at ks i l a e
  all_at (Some k ∷ ks) zero l a e = let same : k ≡ l = cc (e) in subst Lasts same a.0
  all_at (Some k ∷ ks) (suc i) l a e = all_at ks i l a.1 e

  -- a table each of whose links lasts
  pub all_from : (slots : Slots) → ((i : ℕ) (l : Link) → slot_at i slots ≡ Some l → Lasts l) → AllLast slots
  all_from [] each = tt
  all_from (None ∷ ks) each = all_from ks (λ i l e. each (suc i) l e)
  all_from (Some k ∷ ks) each = (each zero k refl, all_from ks (λ i l e. each (suc i) l e))

  pub puts : (i : ℕ) (l : Link) (w : Work) → Lasts l → Fine w → Fine (d.put_slot i l w)
  puts i l w b a = all_set w.ring.slots i (Some l) a b

  pub drops : (i : ℕ) (w : Work) → Fine w → Fine (d.drop_slot i w)
  drops i w a = all_set w.ring.slots i None a tt

  -- a node that leaves has no links
  pub counts : (old new : Work) → Fine old → Fine new → Fine (d.counted old new)
  counts old new a b = by_test (d.has_numbers new.ring)
    where
      by_test : (t : Bool) → Fine (d.counted_if old new t)
      by_test true = b
      by_test false = tt

  pub goes_on : (next : Work → Work) (w : Work) → Fine w → Fine (next w) → Fine (d.then_unless_left next w)
  goes_on next w a b = by_test (is_left w.ring.phase)
    where
      by_test : (t : Bool) → Fine (d.then_if next w t)
      by_test true = a
      by_test false = b

  -- the fence of such a table

  pub fence_lasts : (slots : Slots) → AllLast slots → NoSooner least (fence_of answer slots)
  fence_lasts [] a = tt
  fence_lasts (None ∷ ks) a = fence_lasts ks a
  fence_lasts (Some k ∷ ks) a = go (guards k.state) a.0.1 (fence_of answer ks) (fence_lasts ks a.1)
    where
      go : (b : Bool) → (b ≡ true → least ≤ k.until + answer) → (o : Option ℕ) → NoSooner least o → NoSooner least (fence_if b (k.until + answer) o)
      go true h None n = h refl
      go true h (Some other) n = let le = h refl in omega arith
      go false h o n = n

  -- a table with such a fence

  pub lasts_by_fence : (slots : Slots) → HaveLength lease slots → NoSooner least (fence_of answer slots) → AllLast slots
  lasts_by_fence [] len n = tt
  lasts_by_fence (None ∷ ks) len n = lasts_by_fence ks (λ i l e. len (suc i) l e) n
  lasts_by_fence (Some k ∷ ks) len n =
      let two = go (guards k.state) (fence_of answer ks) n in
      ((len zero k refl, two.0), lasts_by_fence ks (λ i l e. len (suc i) l e) two.1)
    where
      go : (b : Bool) (o : Option ℕ) → NoSooner least (fence_if b (k.until + answer) o) → (b ≡ true → least ≤ k.until + answer) × NoSooner least o
      go true None n = (λ e. n, tt)
      go true (Some other) n = (λ e. omega arith, omega arith)
      go false o n = (λ e. absurd (cc (e)), n)

pub all_keeps : (set : Settings) (least : ℕ) (slots : Slots) → AllLast set.lease set.answer least slots → Keeps set least slots
all_keeps set least slots a = record {
  lengths = λ i l e. (all_at set.lease set.answer least slots i l a e).0;
  fence = fence_lasts set.lease set.answer least slots a;
}

pub keeps_all : (set : Settings) (least : ℕ) (slots : Slots) → Keeps set least slots → AllLast set.lease set.answer least slots
keeps_all set least slots k = lasts_by_fence set.lease set.answer least slots k.lengths k.fence
