-- The step that has come of an event, if one has.
use Rattle.std.proofs.Common.{◌≡◌, ◌<◌, arith, ℕ, Bool, true, false, List, [], ◌∷◌, Option, Some, None, length, refl, ap, ◌∙◌, ⊎_elim}
use Rattle.std.specs.Prelude.{◌==◌, ◌≢◌, if◌then◌else◌}
use Rattle.std.proofs.lemmas.Bool.Decides.{eqb_tells}
use Rattle.fabric_terms.specs.declared.record.Record.{Record}
use Rattle.serve_rules.specs.Events.{Event}
use Rattle.serve_rules.specs.Served.{Served, after_event, new_step, newer_than, of_coming, of_event, process_after, with_coming}
use Rattle.turn_rules.specs.Plans.{Plan}
use Rattle.turn_rules.specs.Process.{Process}
use Rattle.turn_rules.specs.Steps.{Step}

same : (n : ℕ) → (n == n) ≡ true
same n = ⊎_elim (λ (equal : ((n == n) ≡ true) × (n ≡ n)). equal.0) (λ (differ : ((n == n) ≡ false) × (n ≢ n)). absurd (differ.1 refl)) (eqb_tells n n)

below : (n m : ℕ) → n < m → (n == m) ≡ false
below n m h = ⊎_elim (λ (equal : ((n == m) ≡ true) × (n ≡ m)). absurd (omega (arith, equal.1))) (λ (differ : ((n == m) ≡ false) × (n ≢ m)). differ.0) (eqb_tells n m)

-- a step more is the newer one
pub newer_one : (old : List Step) (s : Step) → newer_than old (s ∷ old) ≡ Some s
newer_one old s = ap (λ (b : Bool). if b then Some s else None) (same (length old))

-- no step more is none
pub newer_none : (old : List Step) → newer_than old old ≡ None
newer_none [] = refl
newer_none (s ∷ ss) = ap (λ (b : Bool). if b then Some s else None) (below (length ss) (length (s ∷ ss)) (omega arith))

-- Where the event leaves this process, and this step is new in it.

pub event_leaves : (plan : Plan) (kept : List Record) (v : Served) (e : Event) (p : Process) (new : Option Step) → process_after plan kept v e ≡ p → newer_than v.process.steps p.steps ≡ new
    → after_event plan kept v e ≡ with_coming plan v e.coming p new
unfolding after_event
event_leaves plan kept v e p new is made =
    ap (λ (q : Process). with_coming plan v e.coming q (new_step v q)) is ∙ ap (with_coming plan v e.coming p) made

pub event_says : (plan : Plan) (kept : List Record) (v : Served) (e : Event) (p : Process) (new : Option Step) → process_after plan kept v e ≡ p → newer_than v.process.steps p.steps ≡ new
    → of_event plan kept v e ≡ of_coming plan v e.coming p new
unfolding of_event
event_says plan kept v e p new is made =
    ap (λ (q : Process). of_coming plan v e.coming q (new_step v q)) is ∙ ap (of_coming plan v e.coming p) made
