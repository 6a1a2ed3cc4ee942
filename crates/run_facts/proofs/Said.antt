-- What a row says of its node: who it is stays, it tells no Own, and it has left exactly if it told so.
use Rattle.std.proofs.Common.{◌≡◌, Bool, true, false, ◌||◌, List, [], ◌∷◌, ◌++◌, refl, sym, ap, ◌∙◌}
use Rattle.std.specs.List.{list_any}
use Rattle.std.proofs.lemmas.List.Folds.{list_any-append}
use Rattle.fabric_terms.specs.declared.report.Report.{Report}
use Rattle.fabric_terms.specs.declared.report.Report.TheVariants.{Own, LeftRing}
use Rattle.fabric_terms.specs.declared.report.Reason.{Reason}
use Rattle.fabric_terms.specs.declared.report.Verb.{Verb}
use Rattle.fabric_terms.specs.declared.report.Why.{Why}
use Rattle.fabric_terms.specs.Places.{tells_leave}
use Rattle.join_phases.specs.declared.phases.Phase.{Phase}
use Rattle.join_phases.specs.declared.phases.Phase.TheVariants as phase
use Rattle.join_phases.specs.Phases.{is_left, bound_phase, holding_phase}
use Rattle.ring_points.specs.declared.who.Who.{Who}
use Rattle.ring_rules.specs.Rings.{Work}
use Rattle.ring_rules.specs.Deeds.{tell, set_phase, refuse, leave, has_numbers, counted_if, counted, then_if, then_unless_left}

abbrev pub tells_own : Report → Bool
tells_own (Own ranges fence) = true
tells_own _ = false

pub record Said (m0 : Who) (me : Who) (now : Phase) (reports : List Report) : Type 0 where
  pub name : me ≡ m0
  pub owns : list_any tells_own reports ≡ false
  pub leaves : is_left now ≡ list_any tells_leave reports

abbrev pub Says : Who → Work → Type 0
Says m0 w = Said m0 w.ring.me w.ring.phase w.told

-- a test of one report more
one_more : (test : Report → Bool) (rs : List Report) (r : Report) (b : Bool) → list_any test rs ≡ b → list_any test (rs ++ r ∷ []) ≡ (b || test r)
one_more test rs r b h = list_any-append test rs (r ∷ []) ∙ (λ i. h i || last i)
  where
    last : list_any test (r ∷ []) ≡ test r
    last = go (test r) refl
      where
        go : (t : Bool) → test r ≡ t → (test r || false) ≡ test r
        go true h = ap (λ t. t || false) h ∙ sym h
        go false h = ap (λ t. t || false) h ∙ sym h

pub or_false : (b : Bool) → (b || false) ≡ b
or_false true = refl
or_false false = refl

pub bound_left : (p : Phase) → is_left (bound_phase p) ≡ is_left p
bound_left (phase.Seeking s) = refl
bound_left (phase.Linked s) = refl
bound_left (phase.Routing s) = refl
bound_left (phase.Left s) = refl

pub holding_left : (p : Phase) → is_left (holding_phase p) ≡ is_left p
holding_left (phase.Seeking s) = refl
holding_left (phase.Linked s) = refl
holding_left (phase.Routing s) = refl
holding_left (phase.Left s) = refl

module _ (m0 : Who) where
  pub says_tell : (r : Report) (w : Work) → tells_own r ≡ false → tells_leave r ≡ false → Says m0 w → Says m0 (tell r w)
  says_tell r w o l a = record {
    name = a.name;
    owns = one_more tells_own w.told r false a.owns ∙ o;
    leaves = a.leaves ∙ sym (one_more tells_leave w.told r (list_any tells_leave w.told) refl ∙ (ap (λ t. list_any tells_leave w.told || t) l ∙ or_false _));
  }

  pub says_refuse : (verb : Verb) (reason : Reason) (w : Work) → Says m0 w → Says m0 (refuse verb reason w)
  says_refuse verb reason w a = says_tell _ w refl refl a

  pub says_bound : (w : Work) → Says m0 w → Says m0 (set_phase bound_phase w)
  says_bound w a = record { name = a.name; owns = a.owns; leaves = bound_left w.ring.phase ∙ a.leaves }

  pub says_holding : (w : Work) → Says m0 w → Says m0 (set_phase holding_phase w)
  says_holding w a = record { name = a.name; owns = a.owns; leaves = holding_left w.ring.phase ∙ a.leaves }

  pub says_leave : (why : Why) (w : Work) → Says m0 w → Says m0 (leave why w)
  says_leave why w a = record {
    name = a.name;
    owns = one_more tells_own w.told (LeftRing why) false a.owns;
    leaves = sym (one_more tells_leave w.told (LeftRing why) (list_any tells_leave w.told) refl ∙ or_true (list_any tells_leave w.told));
  }
    where
      or_true : (b : Bool) → (b || true) ≡ true
      or_true true = refl
      or_true false = refl

  pub says_counted : (old new : Work) → Says m0 old → Says m0 new → Says m0 (counted old new)
  says_counted old new a b = by_test (has_numbers new.ring)
    where
      by_test : (t : Bool) → Says m0 (counted_if old new t)
      by_test true = b
      by_test false = says_leave _ old a

  pub says_then : (next : Work → Work) (w : Work) → Says m0 w → Says m0 (next w) → Says m0 (then_unless_left next w)
  says_then next w a b = by_test (is_left w.ring.phase)
    where
      by_test : (t : Bool) → Says m0 (then_if next w t)
      by_test true = a
      by_test false = b
