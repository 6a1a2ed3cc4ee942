-- What a run tells, beside what the machine of a partition tells: each report of it, with some log.
use Rattle.std.proofs.Common.{◌≡◌, ℕ, zero, suc, Bool, true, false, cond, List, [], ◌∷◌, Option, None, Some, refl, sym, subst, ◌⊎◌, inl, inr}
use Rattle.std.specs.Prelude.{drop}
use Rattle.fabric_lemmas.specs.Members.{IsMember}
use Rattle.fabric_terms.specs.declared.config.FabricConfig.{FabricConfig}
use Rattle.fabric_terms.specs.declared.report.Report.{Report}
use Rattle.fabric_terms.specs.declared.report.Report.TheVariants as report
use Rattle.fabric_terms.specs.Reports.{Told, told, told_on, told_in}
use Rattle.fabric_terms.specs.Runs as runs
use Rattle.ring_points.specs.declared.who.Who.{Who}
use Rattle.epoch_machine.specs.Logs.{Entry}
use Rattle.epoch_machine.specs.World as machine
use Rattle.epoch_refinement.specs.Nodes.{is_told_of, IsRealIn}
use Rattle.epoch_refinement.specs.Told.{tells}
use Rattle.unit_rules.specs.Units.{units}
use Rattle.world_rules.specs.Worlds.{World, Stepped}
use Rattle.run_promises.specs.Reports.{log_in}
use Rattle.epoch_safety.proofs.Entries.{AreReal, IsRealEntry, AreRealLives}
use Rattle.epoch_safety.proofs.Telling.{tells_on, tells_in, told_lives}
use Rattle.cold_start.specs.Lives.{Lives, lives_run, lives_step}

-- the second list is an end of the first
abbrev pub IsEnd : {X : Type 0} → List X → List X → Type 0
IsEnd ys [] = ys ≡ []
IsEnd ys (x ∷ xs) = (ys ≡ x ∷ xs) ⊎ IsEnd ys xs

pub whole_end : {X : Type 0} (xs : List X) → IsEnd xs xs
whole_end [] = refl
whole_end (x ∷ xs) = inl refl

pub end_member : {X : Type 0} (z : X) (ys xs : List X) → IsEnd ys xs → IsMember z ys → IsMember z xs
end_member z ys [] e m = absurd (subst (IsMember z) e m)
end_member z ys (x ∷ xs) (inl e) m = subst (IsMember z) e m
end_member z ys (x ∷ xs) (inr e) m = inr (end_member z ys xs e m)

-- what a report tells, on top of what was told before
abbrev pub tells_if : ℕ → Who → List Entry → Report → List machine.Report → List machine.Report
tells_if p who log r before = cond (is_told_of p r) (tells who.actor log r before) before

end_tells : (node : ℕ) (log : List Entry) (r : Report) (ys before : List machine.Report) → IsEnd ys before → IsEnd ys (tells node log r before)
end_tells node log (report.Promised q e) ys before h = inr h
end_tells node log (report.Accepted q e lsn) ys before h = inr h
end_tells node log (report.IsPrimary q e) ys before h = inr h
end_tells node log (report.Committed q e lsn) ys before h = inr h
end_tells node log r ys before h = h

pub end_told : (p : ℕ) (who : Who) (log : List Entry) (r : Report) (ys before : List machine.Report) → IsEnd ys before → IsEnd ys (tells_if p who log r before)
end_told p who log r ys before h = go (is_told_of p r)
  where
    go : (b : Bool) → IsEnd ys (cond b (tells who.actor log r before) before)
    go true = end_tells who.actor log r ys before h
    go false = h

-- the machine of the partition tells what was told, the newest first
abbrev pub Tracks : ℕ → Told → List machine.Report → Type 0
Tracks p [] l = l ≡ []
Tracks p (z ∷ zs) l = (log : List Entry) × (before : List machine.Report) × (l ≡ tells_if p z.0 log z.1 before) × IsRealIn z.1 × Tracks p zs before

tracks_on : (p : ℕ) (who : Who) (log : List Entry) (rs : List Report) (t : Told) (l : List machine.Report) → AreReal rs → Tracks p t l →
    Tracks p (told_on who rs t) (tells_on p who.actor log rs l)
tracks_on p who log [] t l real h = h
tracks_on p who log (r ∷ rs) t l real h =
    tracks_on p who log rs ((who, r) ∷ t) (tells_if p who log r l) real.1 (log, l, refl, real.0, h)

tracks_in : (p : ℕ) (w : World units) (o : Option runs.Entry) (t : Told) (l : List machine.Report) → IsRealEntry o → Tracks p t l →
    Tracks p (told_in o t) (tells_in p w o l)
tracks_in p w None t l real h = h
tracks_in p w (Some e) t l real h = tracks_on p e.who (log_in w e.who.actor p) e.reports t l real h

pub tracks : (c : FabricConfig) (l : Lives) (p : ℕ) → AreRealLives c l → Tracks p (told (lives_run units c l)) (told_lives c l p)
tracks c [] p real = refl
tracks c (e ∷ l) p real =
    let st : Stepped units = lives_step units c l e.1 in
    tracks_in p st.world st.entry (told (lives_run units c l)) (told_lives c l p) real.0 (tracks c l p real.1)

-- what was told earlier
pub tracks_drop : (p n : ℕ) (t : Told) (l : List machine.Report) → Tracks p t l → (k : List machine.Report) × IsEnd k l × Tracks p (drop n t) k
tracks_drop p zero t l h = (l, whole_end l, h)
tracks_drop p (suc n) [] l h = (l, whole_end l, h)
tracks_drop p (suc n) (z ∷ t) l h =
    let rest = tracks_drop p n t h.1 h.4 in
    (rest.0, subst (IsEnd rest.0) (sym h.2) (end_told p z.0 h.0 z.1 rest.0 h.1 rest.1), rest.2)

-- what was told is told by the machine
pub tracked : (p : ℕ) (z : Who × Report) (t : Told) (l : List machine.Report) → Tracks p t l → IsMember z t →
    (log : List Entry) × (before : List machine.Report) × IsEnd (tells_if p z.0 log z.1 before) l × IsRealIn z.1
tracked p z [] l h m = absurd m
tracked p z (y ∷ t) l h (inl e) = (
  h.0,
  h.1,
  subst (λ (z : Who × Report). IsEnd (tells_if p z.0 h.0 z.1 h.1) l) (sym e) (subst (λ k. IsEnd k l) h.2 (whole_end l)),
  subst (λ (z : Who × Report). IsRealIn z.1) (sym e) h.3,
)
tracked p z (y ∷ t) l h (inr m) =
    let rest = tracked p z t h.1 h.4 m in
    (rest.0, rest.1, subst (IsEnd _) (sym h.2) (end_told p y.0 h.0 y.1 _ h.1 rest.2), rest.3)
