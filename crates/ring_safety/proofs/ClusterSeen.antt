-- A run without the moments at which nobody did anything is as safe.
use Rattle.std.proofs.Common.{◌≡◌, ℕ, zero, suc, Bool, true, false, [], ◌∷◌, drop, Option, Some, None, refl, ap, sym, subst, ◌∙◌, inl, inr, ⊎_elim}
use Rattle.std.specs.Prelude.{◌⊎◌, is_some, if◌then◌else◌}
use Rattle.ring_points.specs.declared.who.Who.{Who}
use Rattle.fabric_terms.specs.Reports.{told, told_in}
use Rattle.fabric_terms.specs.Runs.{Entry, Holds, Moment, RingSafe, Run, clocks_of, own_in, own_of, reading_of}
use Rattle.fabric_terms.specs.TakeOvers.{TakenAfterLeave, was_taken_over}
use Rattle.ring_safety.specs.ClusterSteps.{is_step, steps_of}

-- the moment and the rest, or the rest alone
abbrev pub kept_if : Moment → Run → Bool → Run
kept_if m rest true = m ∷ rest
kept_if m rest false = rest

pub steps_more : (m : Moment) (ms : Run) → steps_of (m ∷ ms) ≡ kept_if m (steps_of ms) (is_step m)
steps_more m ms = by_test (is_step m)
  where
    by_test : (b : Bool) → (if b then m ∷ steps_of ms else steps_of ms) ≡ kept_if m (steps_of ms) b
    by_test true = refl
    by_test false = refl

own_kept : (w : Who) (m : Moment) (rest : Run) (o : Option Entry) → m.entry ≡ o → own_of w (kept_if m rest (is_some o)) ≡ own_in w m.entry (own_of w rest)
own_kept w m rest None e = sym (ap (λ (x : Option Entry). own_in w x (own_of w rest)) e)
own_kept w m rest (Some x) e = refl

own_steps : (w : Who) (run : Run) → own_of w (steps_of run) ≡ own_of w run
own_steps w [] = refl
own_steps w (m ∷ ms) = ap (own_of w) (steps_more m ms) ∙ own_kept w m (steps_of ms) m.entry refl ∙ ap (own_in w m.entry) (own_steps w ms)

told_kept : (m : Moment) (rest : Run) (o : Option Entry) → m.entry ≡ o → told (kept_if m rest (is_some o)) ≡ told_in m.entry (told rest)
told_kept m rest None e = sym (ap (λ (x : Option Entry). told_in x (told rest)) e)
told_kept m rest (Some x) e = refl

pub told_steps : (run : Run) → told (steps_of run) ≡ told run
told_steps [] = refl
told_steps (m ∷ ms) = ap told (steps_more m ms) ∙ told_kept m (steps_of ms) m.entry refl ∙ ap (told_in m.entry) (told_steps ms)

-- the moments up to that one, in the whole run
record Found (run : Run) (ago : ℕ) : Type 0 where
  pub back : ℕ
  pub same : drop ago (steps_of run) ≡ steps_of (drop back run)
  pub clocks : clocks_of (steps_of (drop back run)) ≡ clocks_of (drop back run)

none_left : (ago : ℕ) → drop {A = Moment} ago [] ≡ []
none_left zero = refl
none_left (suc ago) = refl

found : (run : Run) (ago : ℕ) → (drop ago (steps_of run) ≡ []) ⊎ Found run ago
found [] ago = inl (none_left ago)
found (m ∷ ms) ago = by_test (is_step m) refl ago (λ n. found ms n)
  where
    kept : (b : Bool) → is_step m ≡ b → steps_of (m ∷ ms) ≡ kept_if m (steps_of ms) b
    kept b e = steps_more m ms ∙ ap (kept_if m (steps_of ms)) e

    by_test : (b : Bool) → is_step m ≡ b → (n : ℕ) → ((k : ℕ) → (drop k (steps_of ms) ≡ []) ⊎ Found ms k) → (drop n (steps_of (m ∷ ms)) ≡ []) ⊎ Found (m ∷ ms) n
    by_test false e n later = ⊎_elim
        (λ none. inl (ap (drop n) (kept false e) ∙ none))
        (λ (f : Found ms n). inr (record { back = suc f.back; same = ap (drop n) (kept false e) ∙ f.same; clocks = f.clocks }))
        (later n)
    by_test true e zero later = inr (record { back = 0; same = refl; clocks = ap clocks_of (kept true e) })
    by_test true e (suc n) later = ⊎_elim
        (λ none. inl (ap (drop (suc n)) (kept true e) ∙ none))
        (λ (f : Found ms n). inr (record { back = suc f.back; same = ap (drop (suc n)) (kept true e) ∙ f.same; clocks = f.clocks }))
        (later n)

no_clock : (w : Who) (p : ℕ) → Holds [] w p → ⊥
no_clock w p h = let k = h.runs in cc

holds_back : (run : Run) (back : ℕ) (w : Who) (p : ℕ) → clocks_of (steps_of (drop back run)) ≡ clocks_of (drop back run) →
    Holds (steps_of (drop back run)) w p → Holds (drop back run) w p
holds_back run back w p e h = record {
  reading = h.reading;
  owned = h.owned;
  runs = sym (ap (reading_of w) e) ∙ h.runs;
  own = sym (own_steps w (drop back run)) ∙ h.own;
  has = h.has;
  below = h.below;
}

holds_then : (run : Run) (ago : ℕ) (f : Found run ago) (w : Who) (p : ℕ) → Holds (drop ago (steps_of run)) w p → Holds (drop f.back run) w p
holds_then run ago f w p h = holds_back run f.back w p f.clocks (subst (λ (r : Run). Holds r w p) f.same h)

pub steps_ring_safe : (run : Run) → RingSafe run → RingSafe (steps_of run)
steps_ring_safe run safe = record {
  one_holder = λ ago p v w hv hw. ⊎_elim
      (λ none. absurd (no_clock v p (subst (λ (r : Run). Holds r v p) none hv)))
      (λ (f : Found run ago). safe.one_holder f.back p v w (holds_then run ago f v p hv) (holds_then run ago f w p hw))
      (found run ago);
}

pub steps_taken : (run : Run) → TakenAfterLeave run → TakenAfterLeave (steps_of run)
steps_taken run taken = record {
  holds_nothing = λ ago p v was h. ⊎_elim
      (λ none. no_clock v p (subst (λ (r : Run). Holds r v p) none h))
      (λ (f : Found run ago).
      let now : was_taken_over v (told (drop f.back run)) ≡ true = ap (was_taken_over v) (sym (told_steps (drop f.back run)) ∙ ap told (sym f.same)) ∙ was in
      taken.holds_nothing f.back p v now (holds_then run ago f v p h))
      (found run ago);
}
