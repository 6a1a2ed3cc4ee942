-- What a step reports is reported when something came to the cluster, and each actor had recorded the same then.
use Rattle.std.proofs.Common.{◌≡◌, ℕ, zero, suc, Bool, true, false, List, [], ◌∷◌, ◌++◌, length, drop, Option, Some, refl, ap, sym, subst, ◌∙◌}
use Rattle.std.specs.Prelude.{Contains, ◌==◌, unwrap_or, if◌then◌else◌}
use Rattle.std.proofs.lemmas.Bool.{eqb-true}
use Rattle.std.proofs.lemmas.List.{append-nil}
use Rattle.std.proofs.lemmas.List.Elements.{All-contains, All-nil}
use Rattle.ring_safety.specs.ClusterEvents.{Comes, cluster_after, kept_by}
use Rattle.ring_safety.specs.ClusterMoments.{entry_for}
use Rattle.unit_rules.specs.Fabric.{fabric}
use Rattle.fabric_lemmas.specs.Maps.{at, put}
use Rattle.fabric_terms.specs.declared.config.FabricConfig.{FabricConfig}
use Rattle.fabric_terms.specs.declared.record.Record.{Record}
use Rattle.fabric_terms.specs.declared.report.Report.{Report}
use Rattle.fabric_terms.specs.Runs.{Entry}
use Rattle.ring_points.specs.declared.who.Who.{Who}
use Rattle.run_facts.proofs.Kept.{at_put_other, at_put_same}
use Rattle.run_promises.specs.Reports.{IsAmong, HasReported}
use Rattle.turn_rules.specs.Steps.{Step}
use Rattle.world_rules.specs.Worlds.{numbers_of}
use Rattle.cluster_safety.specs.Logs.{recorded_by}
use Rattle.cluster_safety.specs.Moments.{frames_of, moments_of}

-- Records.

-- what an actor had recorded, with what a step recorded
abbrev pub recorded_more : Step → ℕ → List Record → List Record
recorded_more step actor before = if step.who.actor == actor then before ++ step.records else before

-- where they are kept
pub put_more : (who actor : ℕ) (new : List Record) (kept : List (ℕ × List Record)) →
    unwrap_or (at actor (put who (unwrap_or (at who kept) [] ++ new) kept)) [] ≡
    (if who == actor then unwrap_or (at actor kept) [] ++ new else unwrap_or (at actor kept) [])
put_more who actor new kept = by_test (who == actor) refl
  where
    there : (k : ℕ) → List Record
    there k = unwrap_or (at k kept) []

    by_test : (b : Bool) → (who == actor) ≡ b → unwrap_or (at actor (put who (there who ++ new) kept)) [] ≡ (if b then there actor ++ new else there actor)
    by_test true e =
        subst (λ (k : ℕ). unwrap_or (at k (put who (there who ++ new) kept)) [] ≡ there k ++ new) (eqb-true who actor e)
        (ap (λ (o : Option (List Record)). unwrap_or o []) (at_put_same who (there who ++ new) kept))
    by_test false e = ap (λ (o : Option (List Record)). unwrap_or o []) (at_put_other who (there who ++ new) kept actor e)

-- nothing is recorded
pub nothing_more : (b : Bool) (before new : List Record) → new ≡ [] → before ≡ (if b then before ++ new else before)
nothing_more true before new e = sym (append-nil before) ∙ ap (λ (rs : List Record). before ++ rs) (sym e)
nothing_more false before new e = refl

-- Reports.

-- what comes last makes x report r
abbrev pub Tells : FabricConfig → List Comes → Who → Report → Type 0
Tells c [] x r = ⊥
Tells c (y ∷ ys) x r = IsAmong (entry_for fabric c (cluster_after fabric c ys) y) x r

-- so it was this long ago, and each actor had recorded then what it has after the steps
pub record Echo (c : FabricConfig) (xs : List Comes) (steps : List Step) (x : Who) (r : Report) : Type 0 where
  pub back : ℕ
  pub tells : Tells c (drop back xs) x r
  pub kept : (actor : ℕ) → recorded_by actor steps ≡ kept_by (cluster_after fabric c (drop back xs)) actor

-- so it is of each report of each step
abbrev pub Echoes : FabricConfig → List Comes → List Step → Type 0
Echoes c xs steps = (ago : ℕ) (x : Who) (r : Report) → HasReported (moments_of (drop ago steps)) x r → Echo c xs (drop ago steps) x r

pub echoes_first : (c : FabricConfig) → Echoes c [] []
echoes_first c zero x r told = absurd told
echoes_first c (suc ago) x r told = absurd told

-- what an actor did in a step, after so many frames
abbrev pub entry_of : ℕ → Step → Entry
entry_of before s = record { who = s.who; reading = s.reading; sent = numbers_of before s.sent; reports = s.told }

module _ (c : FabricConfig) (xs : List Comes) (steps : List Step) (before : Echoes c xs steps) where
  -- something came, which is this step
  pub echoes_more : (y : Comes) (step : Step) → entry_for fabric c (cluster_after fabric c xs) y ≡ Some (entry_of (length (frames_of steps)) step) →
      ((actor : ℕ) → recorded_by actor (step ∷ steps) ≡ kept_by (cluster_after fabric c (y ∷ xs)) actor) → Echoes c (y ∷ xs) (step ∷ steps)
  echoes_more y step tells kept zero x r told =
      record { back = 0; tells = subst (λ (o : Option Entry). IsAmong o x r) (sym tells) told; kept = kept }
  echoes_more y step tells kept (suc ago) x r told =
      let e = before ago x r told in record { back = suc e.back; tells = e.tells; kept = e.kept }

  -- something came, which is no step
  pub echoes_later : (y : Comes) → Echoes c (y ∷ xs) steps
  echoes_later y ago x r told = let e = before ago x r told in record { back = suc e.back; tells = e.tells; kept = e.kept }

  -- a step reports nothing
  pub echoes_silent : (step : Step) → step.told ≡ [] → Echoes c xs (step ∷ steps)
  echoes_silent step none zero x r told =
      absurd (All-contains (λ (q : Report). ⊥) [] r (All-nil (λ (q : Report). ⊥)) (subst (λ (rs : List Report). Contains rs r) none told.1))
  echoes_silent step none (suc ago) x r told = before ago x r told
