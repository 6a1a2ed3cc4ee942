-- A deed carried out, whose actor may have left.
use Rattle.std.proofs.Common.{◌≡◌, ℕ, List, ◌∷◌, Option, Some, Result, Ok, Err, refl, subst}
use Rattle.std.specs.Prelude.{OnOk, slice_get}
use Rattle.fabric_terms.specs.declared.config.FabricConfig.{FabricConfig}
use Rattle.fabric_terms.specs.declared.record.Record.{Record}
use Rattle.fabric_terms.specs.declared.report.Why.{Why}
use Rattle.fabric_turns.proofs.Acting.{act_broken, act_done, act_left, carried_opened}
use Rattle.fabric_turns.proofs.Starting.{join_broken, join_done, join_left}
use Rattle.fabric_turns.specs.Moves.{ReachesBy}
use Rattle.fabric_turns.specs.Runs.{IsStep, MeetsBy, MeetsStartBy, Run}
use Rattle.fabric_turns.specs.Steps.{CarriesThrough, JoinsAt, StepsAt, left_at, work_in}
use Rattle.edge_io.specs.Told.{Told}
use Rattle.ring_rules.specs.declared.input.Input.{Input}
use Rattle.turn_effects.specs.Carried.{CarriesOut}
use Rattle.turn_members.specs.declared.deed.Deed.{Deed}
use Rattle.turn_rules.specs.Happenings.{Happening, History}
use Rattle.turn_rules.specs.Order.{Rows, TurnPosition}
use Rattle.turn_rules.specs.Plans.{Setting}
use Rattle.turn_rules.specs.Works.{Work}
use Rattle.turn_rules.specs.declared.stop_cause.StopCause.{StopCause}
use Rattle.turn_rules.specs.declared.stop_cause.StopCause.TheVariants as stop

-- the configuration is the plan's
pub carried_as : (c c' : FabricConfig) (deed : Deed) (b e : Told) (r : Result (Unit {0}) StopCause) → c' ≡ c → CarriesOut (work_in c' deed) b e r → CarriesOut (work_in c deed) b e r
carried_as c c' deed b e r same k = subst (λ (f : FabricConfig). CarriesOut (work_in f deed) b e r) same k

-- it was cut short
pub through_stopped : (s : Work) (left : Option Why) (b c : Told) (r : StopCause) → CarriesOut s b c (Err r) → CarriesThrough s left b c (Err r)
through_stopped s left b c stop.OutOfMemory k = k
through_stopped s left b c stop.WriteFault k = k
through_stopped s left b c stop.KeepFault k = k
through_stopped s left b c stop.LinkFault k = k
through_stopped s left b c (stop.ClockBack x y) k = k
through_stopped s left b c (stop.Left why) k = absurd k
through_stopped s left b c (stop.BadKeep i) k = k
through_stopped s left b c stop.TableFull k = k

-- the endpoints stay open
pub through_opened : (s : Work) (left : Option Why) (b c : Told) (r : Result (Unit {0}) StopCause) → CarriesThrough s left b c r → c.opened ≡ b.opened
through_opened s left b c (Ok done) k = carried_opened s b c (Ok done) k.0
through_opened s left b c (Err (stop.Left why)) k = carried_opened s b c (Ok tt) k.0
through_opened s left b c (Err stop.OutOfMemory) k = carried_opened s b c (Err stop.OutOfMemory) k
through_opened s left b c (Err stop.WriteFault) k = carried_opened s b c (Err stop.WriteFault) k
through_opened s left b c (Err stop.KeepFault) k = carried_opened s b c (Err stop.KeepFault) k
through_opened s left b c (Err stop.LinkFault) k = absurd k
through_opened s left b c (Err (stop.ClockBack x y)) k = absurd k
through_opened s left b c (Err (stop.BadKeep i)) k = absurd k
through_opened s left b c (Err stop.TableFull) k = absurd k

-- what holds however it ends
pub on_ok : {P : Type 0} (r : Result (Unit {0}) StopCause) → P → OnOk r P
on_ok (Ok done) k = k
on_ok (Err stopped) k = tt

-- the deed of a step
pub act_through : {may_go : Rows} (s : Setting) (a b c : Told) (old new : Run) (h : History) (x : Happening) (p : TurnPosition) (turn place : ℕ) (i : Input) (deed : Deed) → MeetsBy may_go s a b old h x p → IsStep s h x turn place i
    → StepsAt s.plan turn place i old deed new → (r : Result (Unit {0}) StopCause) → CarriesThrough (work_in s.plan.config deed) (left_at new.members place) b c r → ReachesBy may_go s a c new (x ∷ h) p r
act_through s a b c old new h x p turn place i deed m is t (Ok done) k = act_done s a b c old new h x p turn place i deed s.plan.config refl m is t done k.0 k.1
act_through s a b c old new h x p turn place i deed m is t (Err (stop.Left why)) k = act_left s a b c old new h x p turn place i deed s.plan.config why refl m is t tt k.0 k.1
act_through s a b c old new h x p turn place i deed m is t (Err stop.OutOfMemory) k = act_broken s a b c old new h x p turn place i deed s.plan.config stop.OutOfMemory refl m is t k
act_through s a b c old new h x p turn place i deed m is t (Err stop.WriteFault) k = act_broken s a b c old new h x p turn place i deed s.plan.config stop.WriteFault refl m is t k
act_through s a b c old new h x p turn place i deed m is t (Err stop.KeepFault) k = act_broken s a b c old new h x p turn place i deed s.plan.config stop.KeepFault refl m is t k
act_through s a b c old new h x p turn place i deed m is t (Err stop.LinkFault) k = absurd k
act_through s a b c old new h x p turn place i deed m is t (Err (stop.ClockBack y z)) k = absurd k
act_through s a b c old new h x p turn place i deed m is t (Err (stop.BadKeep n)) k = absurd k
act_through s a b c old new h x p turn place i deed m is t (Err stop.TableFull) k = absurd k

-- the deed of a start
pub join_through : {may_go : Rows} (s : Setting) (a b c : Told) (old new : Run) (h : History) (x : Happening) (p : TurnPosition) (place : ℕ) (records : List Record) (deed : Deed) → slice_get s.kept place ≡ Some records
    → MeetsStartBy may_go s a b old h x p place → JoinsAt s.plan records place old deed new → (r : Result (Unit {0}) StopCause) → CarriesThrough (work_in s.plan.config deed) (left_at new.members place) b c r → ReachesBy may_go s a c new (x ∷ h) p r
join_through s a b c old new h x p place records deed list m t (Ok done) k = join_done s a b c old new h x p place records deed s.plan.config refl list m t done k.0 k.1
join_through s a b c old new h x p place records deed list m t (Err (stop.Left why)) k = join_left s a b c old new h x p place records deed s.plan.config why refl list m t tt k.0 k.1
join_through s a b c old new h x p place records deed list m t (Err stop.OutOfMemory) k = join_broken s a b c old new h x p place records deed s.plan.config stop.OutOfMemory refl list m t k
join_through s a b c old new h x p place records deed list m t (Err stop.WriteFault) k = join_broken s a b c old new h x p place records deed s.plan.config stop.WriteFault refl list m t k
join_through s a b c old new h x p place records deed list m t (Err stop.KeepFault) k = join_broken s a b c old new h x p place records deed s.plan.config stop.KeepFault refl list m t k
join_through s a b c old new h x p place records deed list m t (Err stop.LinkFault) k = absurd k
join_through s a b c old new h x p place records deed list m t (Err (stop.ClockBack y z)) k = absurd k
join_through s a b c old new h x p place records deed list m t (Err (stop.BadKeep n)) k = absurd k
join_through s a b c old new h x p place records deed list m t (Err stop.TableFull) k = absurd k
