-- One thing more is sent or told.
use Rattle.std.proofs.Common.{◌≡◌, Bool, true, false, ◌||◌, [], ◌∷◌, ◌++◌, List, refl, ap, ◌∙◌}
use Rattle.std.specs.List.{list_any}
use Rattle.std.proofs.lemmas.List.Folds.{list_any-append}
use Rattle.fabric_terms.specs.declared.message.Body.{Body}
use Rattle.fabric_terms.specs.declared.report.Report.{Report}
use Rattle.fabric_terms.specs.declared.report.Reason.{Reason}
use Rattle.fabric_terms.specs.declared.report.Verb.{Verb}
use Rattle.fabric_terms.specs.declared.report.Why.{Why}
use Rattle.ring_points.specs.declared.who.Who.{Who}
use Rattle.ring_rules.specs.declared.link.Link.{Link}
use Rattle.ring_rules.specs.Deeds.{send, tell, refuse, leave, has_numbers, counted_if, counted, then_if, then_unless_left}
use Rattle.ring_rules.specs.Links.{hello_by, hello_body, offer_by, offer_body}
use Rattle.ring_rules.specs.Rings.{Work}
use Rattle.join_phases.specs.Phases.{is_left}
use Rattle.run_facts.specs.RingApart.{is_unit_frame, is_unit_report, StaysApart}

-- none passes of a list and one more
pub none_more : {X : Type 0} (test : X → Bool) (xs : List X) (x : X) → list_any test xs ≡ false → test x ≡ false → list_any test (xs ++ x ∷ []) ≡ false
none_more test xs x h e = list_any-append test xs (x ∷ []) ∙ (λ i. h i || last i)
  where
    last : list_any test (x ∷ []) ≡ false
    last = ap (λ b. b || false) e

pub sends : (to : Who) (b : Body) (w : Work) → is_unit_frame b ≡ false → StaysApart w → StaysApart (send to b w)
sends to b w h a = record { sends = none_more (λ m. is_unit_frame m.1) w.sent (to, b) a.sends h; tells = a.tells }

pub tells : (r : Report) (w : Work) → is_unit_report r ≡ false → StaysApart w → StaysApart (tell r w)
tells r w h a = record { sends = a.sends; tells = none_more is_unit_report w.told r a.tells h }

pub refuses : (verb : Verb) (reason : Reason) (w : Work) → StaysApart w → StaysApart (refuse verb reason w)
refuses verb reason w a = tells _ w refl a

pub leaves : (why : Why) (w : Work) → StaysApart w → StaysApart (leave why w)
leaves why w a = record { sends = a.sends; tells = none_more is_unit_report w.told _ a.tells refl }

pub counts : (old new : Work) → StaysApart old → StaysApart new → StaysApart (counted old new)
counts old new a b = by_test (has_numbers new.ring)
  where
    by_test : (t : Bool) → StaysApart (counted_if old new t)
    by_test true = b
    by_test false = leaves _ old a

pub goes_on : (next : Work → Work) (w : Work) → StaysApart w → StaysApart (next w) → StaysApart (then_unless_left next w)
goes_on next w a b = by_test (is_left w.ring.phase)
  where
    by_test : (t : Bool) → StaysApart (then_if next w t)
    by_test true = a
    by_test false = b

-- what a link says, by its frame version

pub hello_apart : (l : Link) → is_unit_frame (hello_body l) ≡ false
hello_apart l = by_wire _
  where
    by_wire : (t : Bool) → is_unit_frame (hello_by t l) ≡ false
    by_wire true = refl
    by_wire false = refl

pub offer_apart : (l : Link) → is_unit_frame (offer_body l) ≡ false
offer_apart l = by_wire _
  where
    by_wire : (t : Bool) → is_unit_frame (offer_by t l) ≡ false
    by_wire true = refl
    by_wire false = refl
