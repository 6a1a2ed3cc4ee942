-- The row of an answer at a node is the manager's.
use Rattle.std.proofs.Common.{◌≡◌, ℕ, true, refl}
use Rattle.std.specs.Prelude.{is_some}
use Rattle.ring_points.specs.declared.who.Who.{Who}
use Rattle.fabric_terms.specs.declared.message.Body.{Body}
use Rattle.fabric_terms.specs.declared.message.Body.TheVariants as body
use Rattle.fabric_terms.specs.declared.message.Message.{Message}
use Rattle.ring_rules.specs.Rings.{Ring}
use Rattle.unit_rules.specs.Loads.{Site, loads}
use Rattle.unit_rules.specs.Steps.{Failover, by_manager, frame_row}
use Rattle.reconfig_phases.specs.Answers.{answered_unit}
use Rattle.unit_manager.specs.Managers.{manager_received}

row_of : (c : Site) (now : ℕ) (r : Ring) (x to : Who) (b : Body) (s : Failover) → is_some (answered_unit b) ≡ true
    → frame_row c now r x b s ≡ by_manager s (manager_received (loads c now r s.managed.units) (record { from = x; to = to; body = b }) s.managed)
row_of c now r x to (body.Prepared partition epoch old) s is = refl
row_of c now r x to (body.NoPrepare partition epoch kept) s is = refl
row_of c now r x to (body.Voted partition epoch kept) s is = refl
row_of c now r x to (body.NoVote partition epoch kept) s is = refl
row_of c now r x to (body.DoneKept partition epoch) s is = refl
row_of c now r x to (body.NoDone partition epoch kept) s is = refl
row_of c now r x to (body.Promised partition epoch at last) s is = refl
row_of c now r x to (body.Adopted partition epoch last) s is = refl
row_of c now r x to (body.Activated partition epoch) s is = refl
row_of c now r x to (body.Older partition epoch kept) s is = refl
row_of c now r x to _ s is = absurd (cc)

pub answers_are : (c : Site) (now : ℕ) (r : Ring) (m : Message) (s : Failover) → is_some (answered_unit m.body) ≡ true
    → frame_row c now r m.from m.body s ≡ by_manager s (manager_received (loads c now r s.managed.units) m s.managed)
answers_are c now r m s is = row_of c now r m.from m.to m.body s is
