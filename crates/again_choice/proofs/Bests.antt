-- What holds of the node that is to begin.
use Rattle.std.proofs.Common.{◌≡◌, ◌<◌, ◌&&◌, Bool, true, false, cond, List, [], ◌∷◌, fold, Option, Some, None, arith, refl}
use Rattle.std.specs.Prelude.{IfSome}
use Rattle.std.proofs.lemmas.Bool.Decides.{nat_tests}
use Rattle.ring_points.specs.Limits.{most_counter}
use Rattle.again_choice.specs.declared.candidate.Candidate.{Candidate}
use Rattle.again_choice.specs.declared.folder.Folder.{Folder}
use Rattle.again_choice.specs.declared.folder.Found.{Found}
use Rattle.again_choice.specs.declared.folder.Found.TheVariants.{Running, Unreadable, Read}
use Rattle.again_choice.specs.Candidates.{beats_best, best_of, better, can_begin, candidate_of}

chosen_or_kept : (P : Candidate → Type 0) (b : Bool) (x : Candidate) (best : Option Candidate) → (b ≡ true → P x) → IfSome best P
    → IfSome (cond b (Some x) best) P
chosen_or_kept P true x best new old = new refl
chosen_or_kept P false x best new old = old

left_in : (f : Folder) (b : Bool) → (can_begin f && b) ≡ true → (candidate_of f).last < most_counter
left_in f b h = grind (arith, nat_tests, h)

has_left : (best : Option Candidate) (folders : List Found) → IfSome best (λ b. b.last < most_counter)
    → IfSome (fold better best folders) (λ b. b.last < most_counter)
has_left best [] h = h
has_left best (Running ∷ fs) h = has_left best fs h
has_left best (Unreadable ∷ fs) h = has_left best fs h
has_left best (Read f ∷ fs) h =
    has_left (better best (Read f)) fs (chosen_or_kept (λ b. b.last < most_counter) (can_begin f && beats_best (candidate_of f) best) (candidate_of f) best (left_in f (beats_best (candidate_of f) best)) h)

-- a node that is to begin has a number left
pub left : (folders : List Found) → IfSome (best_of folders) (λ b. b.last < most_counter)
left folders = has_left None folders tt
