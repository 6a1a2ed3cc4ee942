-- A decided configuration is one that a majority kept.
use Rattle.std.proofs.Common.{◌≡◌, Bool, true, false, List, [], ◌∷◌, Option, Some, None, refl, IsTrue, subst}
use Rattle.std.specs.List.{find}
use Rattle.std.specs.Prelude.{option_map}
use Rattle.ring_points.specs.declared.unit.Config.{Config}
use Rattle.arbiter_quorum.specs.declared.verdict.VoteVerdict.TheVariants.{Decided}
use Rattle.arbiter_quorum.specs.Counted.{are_counted}
use Rattle.arbiter_quorum.specs.Laws.{IsShared, SameAnswers}
use Rattle.arbiter_quorum.specs.Votes.{VoteTally, same_config, has_majority, decided_of, verdict_by, one_may_win, vote_verdict_of}
use Rattle.arbiter_quorum.proofs.Majorities.{two_majorities}

found_by : {X Y : Type 0} (p : Y → Bool) (f : X → Y) (x : X) (xs : List X) (y : Y) → (option_map f (find (λ x. p (f x)) xs) ≡ Some y → IsTrue (p y)) → (b : Bool) → p (f x) ≡ b → option_map f (find (λ x. p (f x)) (x ∷ xs)) ≡ Some y → IsTrue (p y)
found_by {Y = Y} p f x xs y later true is e = let e' : Some (f x) ≡ Some y = rw is at e in let same : f x ≡ y = cc in let P : Y → Type 0 = λ z. IsTrue (p z) in subst P same is
found_by p f x xs y later false is e = later (rw is at e)

-- what is found passes the test
found : {X Y : Type 0} (p : Y → Bool) (f : X → Y) (xs : List X) (y : Y) → option_map f (find (λ x. p (f x)) xs) ≡ Some y → IsTrue (p y)
found p f [] y e = absurd (cc)
found p f (x ∷ xs) y e = found_by p f x xs y (found p f xs y) (p (f x)) refl e

decided_by : (decided : Option Config) (may : Bool) (c : Config) → verdict_by decided may ≡ Decided c → decided ≡ Some c
decided_by (Some d) may c e = cc
decided_by None true c e = absurd (cc)
decided_by None false c e = absurd (cc)

decided_has_majority : (t : VoteTally) (c : Config) → vote_verdict_of t ≡ Decided c → IsTrue (has_majority t c)
decided_has_majority t c e = found (has_majority t) (λ answer. answer.1) t.answers c (decided_by (decided_of t) (one_may_win t) c e)

pub one_decided : (s t : VoteTally) (c d : Config) → s.arbitrators ≡ t.arbitrators → IsTrue (are_counted s.arbitrators s.answers) → IsTrue (are_counted t.arbitrators t.answers) → SameAnswers s.answers t.answers → vote_verdict_of s ≡ Decided c → vote_verdict_of t ≡ Decided d → c ≡ d
one_decided s t c d e h k same i j =
    let shared : IsShared (same_config c) s.answers (same_config d) t.answers = two_majorities s.arbitrators s.answers t.answers (same_config c) (same_config d) h (rw e k) (decided_has_majority s c i) (rw e (decided_has_majority t d j)) in
    same shared.0 c d shared.1 shared.2
