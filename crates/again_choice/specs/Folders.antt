-- The folders of a cluster's actors, and what is wrong with them.
use Rattle.std.specs.Prelude.{ℕ, ◌==◌, ◌||◌, Bool, false, not, List, [], ◌∷◌, ◌++◌, length, find, Option, Some, None, option_map, if◌then◌else◌}
use Rattle.std.specs.List.{list_any}
use Rattle.std.specs.Str.{bytes_eq}
use Rattle.ring_points.specs.Whos.{arbiter_actor}
use Rattle.fabric_terms.specs.declared.config.FabricConfig.{FabricConfig}
use Rattle.again_choice.specs.declared.folder.Found.{Found}
use Rattle.again_choice.specs.declared.folder.Found.TheVariants.{Running, Unreadable, Read}
use Rattle.again_choice.specs.declared.refusal.AgainRefusal.{AgainRefusal}
use Rattle.again_choice.specs.declared.refusal.AgainRefusal.TheVariants as refusal

-- the folder is of this actor
abbrev pub has_actor : ℕ → Found → Bool
has_actor actor (Read f) = f.file.actor == actor
has_actor actor _ = false

abbrev pub has_arbiter : ℕ → Found → Bool
has_arbiter number found = has_actor (arbiter_actor number) found

-- the folder is of an actor of the configuration
abbrev pub is_actor_of : FabricConfig → Found → Bool
is_actor_of c found =
    list_any (λ entry. has_actor entry.node found) c.nodes || list_any (λ entry. has_arbiter entry.0 found) c.arbiters

-- what is wrong with a folder behind those before it
unfoldable pub fault_of : FabricConfig → List ℕ → List Found → Found → Option AgainRefusal
fault_of c checksum before Running = Some (refusal.Running (length before))
fault_of c checksum before Unreadable = Some (refusal.Read (length before))
fault_of c checksum before (Read f) =
    if not (bytes_eq f.file.checksum checksum) || not (is_actor_of c (Read f)) then Some (refusal.Other (length before))
    else (if list_any (has_actor f.file.actor) before then Some (refusal.Twice (length before)) else None)

abbrev pub or_else : {A : Type 0} → Option A → Option A → Option A
or_else None other = other
or_else (Some x) other = Some x

-- what is wrong with the first of these, behind those before them, with which something is
abbrev pub first_fault : FabricConfig → List ℕ → List Found → List Found → Option AgainRefusal
first_fault c checksum before [] = None
first_fault c checksum before (f ∷ fs) =
    or_else (fault_of c checksum before f) (first_fault c checksum (before ++ f ∷ []) fs)

-- the first node, and the first arbitrator, of which no folder is
abbrev pub missing_node : FabricConfig → List Found → Option AgainRefusal
missing_node c folders =
    option_map (λ entry. refusal.MissingNode entry.node) (find (λ entry. not (list_any (has_actor entry.node) folders)) c.nodes)

abbrev pub missing_arbiter : FabricConfig → List Found → Option AgainRefusal
missing_arbiter c folders =
    option_map (λ entry. refusal.MissingArbiter entry.0) (find (λ entry. not (list_any (has_arbiter entry.0) folders)) c.arbiters)
