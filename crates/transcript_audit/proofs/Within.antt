-- Where the groups of a table begin.
use Rattle.std.proofs.Common.{◌≡◌, ℕ, ◌≤◌, Bool, true, false, Some, Result, Ok, Err, arith, refl, sym, ap, subst, ◌∙◌}
use Rattle.std.specs.Prelude.{IfOk, nat_eq, if◌then◌else◌}
use Rattle.std.proofs.lemmas.Option.{same_Some}
use Rattle.transcript_audit.specs.declared.group_index.GroupIndex.{GroupIndex}
use Rattle.transcript_audit.specs.Places.{Begins, HasBegun, Within, place_of}

-- with a group that begins with this byte
within_begun : (line at n : ℕ) (old new : GroupIndex) → HasBegun line at old new → at ≤ n → Within n old → Within n new
within_begun line at n old new begun fits within other place e = by (nat_eq line other) refl
  where
    test : (b : Bool) → nat_eq line other ≡ b → Some place ≡ (if b then Some at else place_of other old)
    test b t = sym e ∙ (begun.places other ∙ ap (λ (v : Bool). if v then Some at else place_of other old) t)

    by : (b : Bool) → nat_eq line other ≡ b → place ≤ n
    by true t = let same : place ≡ at = same_Some place at (test true t) in omega arith
    by false t = within other place (sym (test false t))

pub within_begins : (line at n : ℕ) (old new : GroupIndex) (ok : Bool) → Begins line at old new ok → at ≤ n → Within n old → Within n new
within_begins line at n old new true begins fits within = within_begun line at n old new (begins.1 refl) fits within
within_begins line at n old new false begins fits within = subst (λ (t : GroupIndex). Within n t) (sym (begins.2 refl)) within

-- with the same table
pub within_table : (n : ℕ) (old new : GroupIndex) → new.table ≡ old.table → Within n old → Within n new
within_table n old new same within line at e = within line at (ap (λ t. place_of line (record { opened = old.opened; last = old.last; table = t })) (sym same) ∙ e)

-- with the same places
pub within_places : (n : ℕ) (old new : GroupIndex) → ((line : ℕ) → place_of line new ≡ place_of line old) → Within n old → Within n new
within_places n old new same within line at e = within line at (sym (same line) ∙ e)

pub if_ok : {A E : Type 0} {P : A → Type 0} (r : Result A E) → ((x : A) → P x) → IfOk r P
if_ok (Ok x) f = f x
if_ok (Err e) f = tt
