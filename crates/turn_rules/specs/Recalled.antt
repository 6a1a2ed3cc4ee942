-- Which records a run begins with.
use Rattle.std.specs.Prelude.{◌≡◌, ◌⊎◌, ◌+◌, ℕ, Bool, true, false, List, [], Some, filter, length, map, slice_get}
use Rattle.edge_io.specs.Edge.{Tells}
use Rattle.edge_io.specs.declared.endpoint.Endpoint.{Endpoint}
use Rattle.fabric_terms.specs.declared.record.Record.{Record}
use Rattle.keep_log.specs.Amounts.{is_arbiters, nothing}
use Rattle.keep_log.specs.Places.{Follows, IsBadAfter, stand_in_place}
use Rattle.keep_log.specs.Spellings.{spelling}
use Rattle.edge_io.specs.Told.{Told}
use Rattle.turn_rules.specs.Plans.{Plan}
use Rattle.world_rules.specs.Events.{is_arbiter_actor}

-- all records are an arbitrator's, or a node's
abbrev pub AreOf : (is_arbiter : Bool) → List Record → Type 0
AreOf true records = filter is_arbiters records ≡ records
AreOf false records = filter is_arbiters records ≡ []

-- the actor can start from these records: each is in its place, and all are of the actor's kind
pub record IsGoodFor (actor : ℕ) (records : List Record) : Type 0 where
  pub in_place : stand_in_place nothing records ≡ true
  pub kind : AreOf (is_arbiter_actor actor) records

-- where the keeper tells, these are the records of the actors up to a place, and each list is good
pub record Recalled (actors : List Endpoint) (a : Told) (kept : List (List Record)) : Type 0 where
  pub told : (place : ℕ) (e : Endpoint) (records : List Record) → slice_get actors place ≡ Some e → slice_get kept place ≡ Some records → Tells (a.kept e.actor) (map spelling records)
  pub good : (place : ℕ) (e : Endpoint) (records : List Record) → slice_get actors place ≡ Some e → slice_get kept place ≡ Some records → IsGoodFor e.actor records

-- the keeper tells what it holds of each of these actors
abbrev pub TellsKept : List Endpoint → Told → Type 0
TellsKept actors a = (place : ℕ) (e : Endpoint) → slice_get actors place ≡ Some e → (lists : List (List ℕ)) × (a.kept e.actor ≡ Some lists)

-- The list is bad for the actor, from this record on, counted from 1: it is no record or not in its place; or the whole
-- list is good, and of the other kind of actor.
abbrev pub IsBadFor : ℕ → List (List ℕ) → ℕ → Type 0
IsBadFor actor lists i =
    ((n : ℕ) × ((i ≡ n + 1) × IsBadAfter nothing lists n))
    ⊎ ((records : List Record) × ((i ≡ 1) × Follows nothing lists records × (¬ AreOf (is_arbiter_actor actor) records)))

-- the list of one of the actors is bad, at this record, and those of the actors before it are good
pub record IsBadKeep (plan : Plan) (a : Told) (i : ℕ) : Type 0 where
  pub kept : List (List Record)
  pub before : Recalled plan.actors a kept
  pub actor : Endpoint
  pub here : slice_get plan.actors (length kept) ≡ Some actor
  pub lists : List (List ℕ)
  pub told : Tells (a.kept actor.actor) lists
  pub bad : IsBadFor actor.actor lists i
