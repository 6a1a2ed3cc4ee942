-- What waits is written, and then the line of a status.
use Rattle.std.proofs.Common.{◌≡◌, ◌≤◌, ℕ, List, [], ◌++◌, Option, Some, refl, subst, sym, ap, ◌∙◌, ⊎_elim, inl, inr}
use Rattle.std.proofs.lemmas.List.{append-nil}
use Rattle.edge_io.specs.Edge.{GrewByFront}
use Rattle.fabric_status.specs.Faults.{fault_line}
use Rattle.fabric_status.specs.Writes.{Wrote as Written}
use Rattle.fabric_status.specs.declared.status.Status.{Status}
use Rattle.schedule_rules.specs.Halts.{Wrote, WroteFault}
use Rattle.schedule_rules.proofs.Closing.{risen_since}
use Rattle.schedule_rules.proofs.Fronts.{grew_as, grew_more, front_of, front_behind}

-- all that waited is written, and behind it what was written of the line
pub fault_behind : (wanted ended : Status) (old mid new : Option (List ℕ)) (text : List ℕ) (first before now : ℕ) → first ≤ before → Wrote old mid [] text → WroteFault wanted [] ended mid new before now → Written wanted (text ++ fault_line wanted) ended old new first now
fault_behind wanted ended old mid new text first before now later sent written =
    let line = fault_line wanted in
    let whole : sent.0 ++ line ≡ text ++ line = ap (λ t. t ++ line) (sym (append-nil sent.0) ∙ sent.2) in
    let front : GrewByFront mid new line → GrewByFront old new (text ++ line) =
    λ more. front_behind old mid new sent.0 line [] (text ++ line) (ap (λ t. sent.0 ++ t) (append-nil line) ∙ whole) sent.1 more in
    ⊎_elim
    (λ some. ⊎_elim
    (λ all. inl (all.0, grew_as old new (sent.0 ++ line) (text ++ line) whole (grew_more old mid new sent.0 line sent.1 all.1)))
    (λ short. ⊎_elim
    (λ memory. inr (inl (memory.0, front memory.1)))
    (λ sink. inr (inr (sink.0, front sink.1, risen_since first before now later sink.2)))
    short)
    some)
    (λ none. inr (inl (none.0, subst (λ s. GrewByFront old s (text ++ line)) (sym none.1) (front_of old mid sent.0 line (text ++ line) whole sent.1))))
    written

-- a front of what waited is a front of it and the line
pub front_on : (old new : Option (List ℕ)) (text line : List ℕ) → GrewByFront old new text → GrewByFront old new (text ++ line)
front_on old new text line grew = front_behind old old new [] text line (text ++ line) refl (λ held e. e ∙ ap Some (sym (append-nil held))) grew
