-- Why each status comes.
use Rattle.std.proofs.Common.{arith, ◌≡◌, ◌<◌, ◌≤◌, ◌+◌, ◌^◌, ℕ, List, ◌++◌, length, take, Result, Ok, Err, ap, sym, subst, ◌∙◌, inl, inr, ⊎_elim}
use Rattle.std.proofs.lemmas.List.{length-append, length-take-le}
use Rattle.edge_io.specs.Edge.{HasRisen}
use Rattle.edge_io.specs.declared.endpoint.Endpoint.{Endpoint}
use Rattle.edge_io.specs.Told.{Told}
use Rattle.turn_rules.specs.Effects.{WroteMore}
use Rattle.turn_rules.specs.Ends.{Stopped}
use Rattle.turn_rules.specs.Plans.{Plan, Setting}
use Rattle.turn_rules.specs.Whole.{setting, Ends, Finishes, StoppedRun, OpenedOnly, Cause, Completes, last_line, status_of, with_endpoints}
use Rattle.fabric_status.specs.declared.status.Status.{Status}
use Rattle.fabric_status.specs.declared.status.Status.TheVariants as status
use Rattle.turn_rules.specs.declared.stop_cause.StopCause.{StopCause}
use Rattle.turn_rules.specs.declared.stop_cause.StopCause.TheVariants as stop

-- the sink's count only rises before the last line

stopped_sink : (s : Setting) (a c : Told) (r : StopCause) → Stopped s a c r → a.sink_faults ≤ c.sink_faults
stopped_sink s a c stop.OutOfMemory k = k.1.stays.sink
stopped_sink s a c stop.WriteFault k = k.1.0.stays.sink
stopped_sink s a c stop.KeepFault k = k.1.0.stays.sink
stopped_sink s a c stop.LinkFault k = absurd k
stopped_sink s a c (stop.ClockBack former latter) k = k.0.stays.sink
stopped_sink s a c (stop.Left why) k = k.stays.sink
stopped_sink s a c (stop.BadKeep i) k = absurd k
stopped_sink s a c stop.TableFull k = k.stays.sink

run_sink : (plan : Plan) (a c : Told) (r : StopCause) → StoppedRun plan a c r → a.sink_faults ≤ c.sink_faults
run_sink plan a c r k = stopped_sink (setting plan k.0) (with_endpoints plan a) c r k.1.2

opened_sink : (plan : Plan) (n : ℕ) (a c : Told) → OpenedOnly plan n a c → a.sink_faults ≤ c.sink_faults
opened_sink plan n a c o = omega (arith, o.untouched.sink)

ends_sink : (plan : Plan) (a c : Told) (r : Result (Unit {0}) StopCause) → Ends plan a r c → a.sink_faults ≤ c.sink_faults
ends_sink plan a c (Ok done) k = k.1.2.stays.sink
ends_sink plan a c (Err stop.OutOfMemory) (inl recalling) = opened_sink plan 0 a c recalling
ends_sink plan a c (Err stop.OutOfMemory) (inr (inl opening)) = opened_sink plan opening.0 a c opening.1.opened
ends_sink plan a c (Err stop.OutOfMemory) (inr (inr s)) = run_sink plan a c stop.OutOfMemory s
ends_sink plan a c (Err stop.WriteFault) k = run_sink plan a c stop.WriteFault k
ends_sink plan a c (Err stop.KeepFault) k = ⊎_elim (λ (n : OpenedOnly plan 0 a c × HasRisen a.keep_faults c.keep_faults). opened_sink plan 0 a c n.0) (λ s. run_sink plan a c stop.KeepFault s) k
ends_sink plan a c (Err stop.LinkFault) k = opened_sink plan k.0 a c k.1.1.opened
ends_sink plan a c (Err (stop.ClockBack former latter)) k = run_sink plan a c (stop.ClockBack former latter) k
ends_sink plan a c (Err (stop.Left why)) k = run_sink plan a c (stop.Left why) k
ends_sink plan a c (Err (stop.BadKeep i)) k = opened_sink plan 0 a c k.1
ends_sink plan a c (Err stop.TableFull) k = run_sink plan a c stop.TableFull k

-- the cause at the end of the run stays one
run_cause : (plan : Plan) (a b : Told) (r : Result (Unit {0}) StopCause) (c : Told) → Ends plan a r b → WroteMore (last_line plan.turns r) b c → Cause plan a (status_of r) c
run_cause plan a b (Ok done) c k w = tt
run_cause plan a b (Err stop.OutOfMemory) c k w = tt
run_cause plan a b (Err stop.WriteFault) c k w =
    ⊎_elim (λ (h : a.sink_faults < b.sink_faults). inl (omega (arith, w.later))) (λ (full : 2 ^ 64 ≤ b.sink_faults + 1). inr (omega (arith, w.later))) k.1.2.1.1
run_cause plan a b (Err stop.KeepFault) c k w =
    let risen : HasRisen a.keep_faults b.keep_faults = ⊎_elim (λ (n : OpenedOnly plan 0 a b × HasRisen a.keep_faults b.keep_faults). n.1) (λ (s : StoppedRun plan a b stop.KeepFault). s.1.2.1.3) k in
    subst (λ (n : ℕ). HasRisen a.keep_faults n) (sym (ap (λ (t : Told). t.keep_faults) w.rest)) risen
run_cause plan a b (Err stop.LinkFault) c k w = (
  subst (λ (n : ℕ). HasRisen a.link_faults n) (sym (ap (λ (t : Told). t.link_faults) w.rest)) k.1.2,
  (k.0, (k.1.0, ap (λ (t : Told). t.opened) w.rest ∙ k.1.1.opened.opened)),
)
run_cause plan a b (Err (stop.ClockBack former latter)) c k w = omega (arith, k.1.2.1, ap (λ (t : Told). t.falls) w.rest)
run_cause plan a b (Err (stop.Left why)) c k w = tt
run_cause plan a b (Err (stop.BadKeep i)) c k w = k.0
run_cause plan a b (Err stop.TableFull) c k w = tt

pub cause_of : (plan : Plan) (a b : Told) (r : Result (Unit {0}) StopCause) (ended : Status) (c : Told) → Ends plan a r b → Finishes plan.turns r b ended c → Cause plan a ended c
cause_of plan a b r ended c k f =
    ⊎_elim
    (λ whole. subst (λ (s : Status). Cause plan a s c) (sym whole.0) (run_cause plan a b r c k whole.1))
    (λ short. ⊎_elim
    (λ memory. subst (λ (s : Status). Cause plan a s c) (sym memory.0) tt)
    (λ failed.
    let risen : HasRisen a.sink_faults c.sink_faults = ⊎_elim (λ (h : b.sink_faults < c.sink_faults). inl (omega (arith, ends_sink plan a b r k))) (λ full. inr full) failed.1.1.1 in
    subst (λ (s : Status). Cause plan a s c) (sym failed.0) risen)
    short)
    f

-- fewer endpoints were opened than the plan has
fewer : (plan : Plan) (old new : List Endpoint) (n : ℕ) → n < length plan.actors → new ≡ old ++ take n plan.actors → new ≡ old ++ plan.actors → ⊥
fewer plan old new n less e f =
    let x : length new ≡ length old + length (take n plan.actors) = ap length e ∙ length-append old (take n plan.actors) in
    let y : length new ≡ length old + length plan.actors = ap length f ∙ length-append old plan.actors in
    let z : length (take n plan.actors) ≡ n = length-take-le n plan.actors (omega arith) in
    omega arith

pub complete : (plan : Plan) (a : Told) (ended : Status) (c : Told) → Cause plan a ended c → Completes plan a ended c
complete plan a status.Ok c k none links good = tt
complete plan a status.OutOfMemory c k none links good = tt
complete plan a status.WriteFault c k none links good = none.sink k
complete plan a status.KeepFault c k none links good = none.keeper k
complete plan a status.LinkFault c k none links good = ⊎_elim (λ (calm : ¬ HasRisen a.link_faults c.link_faults). calm k.0) (λ all. fewer plan a.opened c.opened k.1.0 k.1.1.0 k.1.1.1 all) links
complete plan a (status.ClockBack former latter) c k none links good = none.falls k
complete plan a (status.Left why) c k none links good = tt
complete plan a (status.BadKeep i) c k none links good = good i k
complete plan a status.TableFull c k none links good = tt
complete plan a status.Usage c k none links good = absurd k
complete plan a status.ReadFault c k none links good = absurd k
complete plan a (status.BadConfig e) c k none links good = absurd k
complete plan a (status.BadLine n) c k none links good = absurd k
complete plan a (status.DriftBroken n) c k none links good = absurd k
complete plan a (status.NoSuch n) c k none links good = absurd k
complete plan a (status.TooLarge n) c k none links good = absurd k
