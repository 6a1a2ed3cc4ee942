-- From a keeper that holds nothing, nothing is recalled.
use Rattle.std.proofs.Common.{arith, ◌≡◌, ℕ, List, [], ◌∷◌, map, Option, Some, None, refl}
use Rattle.std.specs.Prelude.{slice_get}
use Rattle.std.proofs.lemmas.Option.{slice_get_within}
use Rattle.edge_io.specs.declared.endpoint.Endpoint.{Endpoint}
use Rattle.fabric_terms.specs.declared.record.Record.{Record}
use Rattle.keep_log.specs.Spellings.{spelling}
use Rattle.cluster_safety.specs.Laws.{NothingIsRecalled}
use Rattle.cluster_safety.proofs.Acts.{none_past}

no_records : (records : List Record) → map spelling records ≡ [] → records ≡ []
no_records [] h = refl
no_records (r ∷ rs) h = cc

pub nothing_recalled : NothingIsRecalled
nothing_recalled plan a kept recalled same holds = record { each = λ place records some. by_actor place records some (slice_get plan.actors place) refl; whole = same }
  where
    by_actor : (place : ℕ) (records : List Record) → slice_get kept place ≡ Some records → (o : Option Endpoint) → slice_get plan.actors place ≡ o → records ≡ []
    by_actor place records some None none =
        let past = none_past plan.actors place none in
        let within = slice_get_within kept place records some in
        absurd (omega (arith, same))
    by_actor place records some (Some e) here = no_records records (recalled.told place e records here some [] (holds place e here))
