-- The manager's and the replicas' own rows are those of the rules at the whole part.
use Rattle.std.proofs.Common.{◌≡◌, ℕ, true, false, List, [], ◌∷◌, ◌++◌, Option, None, Some, refl, sym, ap, ◌∙◌}
use Rattle.std.specs.Prelude.{is_some}
use Rattle.std.proofs.lemmas.List.{map-append}
use Rattle.fabric_lemmas.specs.Maps.{at}
use Rattle.fabric_terms.specs.declared.message.Body.{Body}
use Rattle.fabric_terms.specs.declared.message.Body.TheVariants as body
use Rattle.fabric_terms.specs.declared.message.Message.{Message}
use Rattle.fabric_terms.specs.Sent.{from_all}
use Rattle.replica_place.specs.declared.load.NodeLoad.{NodeLoad}
use Rattle.ring_points.specs.declared.who.Who.{Who}
use Rattle.ring_rules.specs.Rings.{Ring}
use Rattle.reconfig_phases.specs.Answers.{answered_unit}
use Rattle.unit_desk.specs.UnitEffects.{Does}
use Rattle.unit_desk.specs.declared.unit_effects.UnitEffects.{UnitEffects}
use Rattle.unit_rules.specs.Deeds.{Acted, Deed, acted, frames_of, still}
use Rattle.unit_rules.specs.Loads.{Site, loads}
use Rattle.unit_rules.specs.Manager.{Managed}
use Rattle.unit_rules.specs.ReplicaStates.{ReplicaState}
use Rattle.unit_rules.specs.Steps as steps
use Rattle.unit_rules.specs.Steps.{Failover, fired, frame_row}
use Rattle.unit_manager.specs.Managers.{loaded, managed_fired, manager_received}
use Rattle.unit_manager.specs.Laws.{unloaded}
use Rattle.unit_manager.proofs.Answers.{answers_are}
use Rattle.unit_manager.proofs.Loading.{loads_are}
use Rattle.unit_replica.specs.Tables.{frame_at}
use Rattle.unit_replica.specs.Tables as tables
use Rattle.unit_desk.proofs.Deeds.{frames_of-append}

-- A frame to a replica.

-- what was done at the replicas, as the whole part sees it
abbrev pub lifted : Failover → Acted (List (ℕ × ReplicaState)) → Acted Failover
lifted s a = acted (record s { states = a.state }) a.deeds

found_row : (p : ℕ) (row : ReplicaState → Acted ReplicaState) (s : Failover) (state : Option ReplicaState) → steps.at_found p row (still s) s state ≡ lifted s (tables.at_found p row (still s.states) s.states state)
found_row p row s None = refl
found_row p row s (Some state) = refl

pub frame_is : (c : Site) (now : ℕ) (r : Ring) (x : Who) (b : Body) (s : Failover) → is_some (answered_unit b) ≡ false → frame_row c now r x b s ≡ lifted s (frame_at r.me.actor x b s.states)
frame_is c now r x (body.Fetch partition epoch lsn) s a = found_row partition (tables.row_of r.me.actor x (body.Fetch partition epoch lsn)) s (at partition s.states)
frame_is c now r x (body.Piece partition epoch lsn entry text) s a = found_row partition (tables.row_of r.me.actor x (body.Piece partition epoch lsn entry text)) s (at partition s.states)
frame_is c now r x (body.Appended partition epoch last) s a = found_row partition (tables.row_of r.me.actor x (body.Appended partition epoch last)) s (at partition s.states)
frame_is c now r x (body.Prepared partition epoch old) s a = absurd (cc (a))
frame_is c now r x (body.NoPrepare partition epoch kept) s a = absurd (cc (a))
frame_is c now r x (body.Voted partition epoch first) s a = absurd (cc (a))
frame_is c now r x (body.NoVote partition epoch kept) s a = absurd (cc (a))
frame_is c now r x (body.DoneKept partition epoch) s a = absurd (cc (a))
frame_is c now r x (body.NoDone partition epoch kept) s a = absurd (cc (a))
frame_is c now r x (body.Promised partition epoch at last) s a = absurd (cc (a))
frame_is c now r x (body.Adopted partition epoch last) s a = absurd (cc (a))
frame_is c now r x (body.Activated partition epoch) s a = absurd (cc (a))
frame_is c now r x (body.Older partition epoch kept) s a = absurd (cc (a))
frame_is c now r x b s a = refl

pub replica_row : (c : Site) (now : ℕ) (r : Ring) (x : Who) (b : Body) (s : Failover) (me : ℕ) (new : List (ℕ × ReplicaState)) (before after : UnitEffects) → is_some (answered_unit b) ≡ false → r.me.actor ≡ me
    → Does (frame_at me x b s.states) new before after → Does (frame_row c now r x b s) (record s { states = new }) before after
replica_row c now r x b s me new before after a e d = rw (frame_is c now r x b s a, e) (record { state = ap (λ (states : List (ℕ × ReplicaState)). record s { states = states }) d.state; left = d.left })

-- An answer to the manager.

pub answer_row : (c : Site) (now : ℕ) (r : Ring) (m : Message) (s : Failover) (nodes : List NodeLoad) (new : Managed) (before after : UnitEffects) → is_some (answered_unit m.body) ≡ true → nodes ≡ unloaded c now r
    → Does (manager_received (loaded s.managed.units nodes) m s.managed) new before after → Does (frame_row c now r m.from m.body s) (record s { managed = new }) before after
answer_row c now r m s nodes new before after a e d =
    let placed : loads c now r s.managed.units ≡ loaded s.managed.units nodes = sym (loads_are c now r s.managed.units) ∙ ap (loaded s.managed.units) (sym e) in
    rw (answers_are c now r m s a, placed) (record { state = ap (λ (x : Managed). record s { managed = x }) d.state; left = d.left })

-- A firing.

joined : {X : Type 0} (xs ys zs : List X) → (xs ++ ys) ++ zs ≡ xs ++ (ys ++ zs)
joined [] ys zs = refl
joined {X = X} (x ∷ xs) ys zs = ap (λ (ws : List X). x ∷ ws) (joined xs ys zs)

pub fired_whole : (me : Who) (s : Failover) (before between after : List Message)
    → between ≡ before ++ from_all me (frames_of (managed_fired s.managed.reconfigs)) → after ≡ between ++ from_all me (frames_of (tables.fired s.states))
    → after ≡ before ++ from_all me (frames_of (fired s))
fired_whole me s before between after first second =
    let ms : List Deed = managed_fired s.managed.reconfigs in
    let rs : List Deed = tables.fired s.states in
    second
    ∙ ap (λ (xs : List Message). xs ++ from_all me (frames_of rs)) first
    ∙ joined before (from_all me (frames_of ms)) (from_all me (frames_of rs))
    ∙ ap (λ (xs : List Message). before ++ xs) (sym (map-append _ (frames_of ms) (frames_of rs)) ∙ ap (from_all me) (sym (frames_of-append ms rs)))
