-- A step of the actor, carried out at the devices, or not.
use Rattle.std.proofs.Common.{◌≡◌, ℕ, Bool, true, List, [], ◌∷◌, Option, Some, None, Result, Ok, Err, refl, ap, sym, subst, ◌∙◌, inl, inr}
use Rattle.std.specs.Prelude.{map, slice_get}
use Rattle.edge_io.specs.Told.{Told}
use Rattle.edge_io.specs.declared.endpoint.Endpoint.{Endpoint}
use Rattle.fabric_terms.specs.declared.config.FabricConfig.{FabricConfig}
use Rattle.fabric_terms.specs.declared.record.Record.{Record}
use Rattle.fabric_terms.specs.declared.report.Why.{Why}
use Rattle.fabric_turns.proofs.Acting.{Acted, acted, after_next, carried_for, did_step, done_at}
use Rattle.fabric_turns.proofs.Doing.{did_nothing, did_on, handed_along, nothing, risen_from, stays_on}
use Rattle.fabric_turns.proofs.Starting.{clock_join, joined}
use Rattle.fabric_turns.specs.Runs.{AtBy, CameBy, IsLast, IsStep, MeetsBy, MeetsStartBy, Run}
use Rattle.fabric_turns.specs.Steps.{JoinsAt, NotJoinsAt, RefusedAt, StepsAt, left_at, work_in}
use Rattle.ring_rules.specs.declared.input.Input.{Input}
use Rattle.serve_turns.specs.Moves.{CutIn, OverBy}
use Rattle.serve_turns.specs.Steps.{Carried, CarriesAll, StepsOn, StopsIn}
use Rattle.turn_effects.specs.Carried.{CarriedMore}
use Rattle.turn_members.specs.Members.{Makes, seen}
use Rattle.turn_members.specs.declared.deed.Deed.{Deed}
use Rattle.turn_members.specs.declared.member.Member.{Member as Running}
use Rattle.turn_rules.specs.Effects.{Did, IsPart}
use Rattle.turn_rules.specs.Handed.{failures_of}
use Rattle.turn_rules.specs.Happenings.{Happening, History}
use Rattle.turn_rules.specs.Order.{GoesServed, TurnPosition}
use Rattle.turn_rules.specs.Plans.{Setting}
use Rattle.turn_rules.specs.Process.{Full, Left, Process, acts, acts_as, acts_at, acts_with, after, joins, joins_as, joins_at, joins_with, left_end, unless_full}
use Rattle.turn_rules.specs.Steps.{Member, Step, Stepped, begun, exceeds, stepped}
use Rattle.turn_rules.specs.Works.{Work, work_of, works_of}
use Rattle.turn_rules.specs.declared.stop_cause.StopCause.{StopCause}
use Rattle.turn_rules.specs.declared.stop_cause.StopCause.TheVariants as stop

-- A step that is not done as a whole.

-- nothing of it was done
pub short_in : (s : Setting) (a b : Told) (h : History) (x : Happening) (p : TurnPosition) → CameBy GoesServed s a b h x p → (part : Work) × CutIn s a b h x part
short_in s a b h x p m = (
  nothing,
  record {
    place = p;
    order = m.order;
    on = m.on;
    of = inl (refl, refl, refl);
    did = did_nothing (works_of s.plan.config (after s h).steps) (failures_of (x ∷ h)) a b m.did;
    handed = m.handed;
    stays = m.stays;
  },
)

-- a part of it was done
cut_in : (s : Setting) (a b c : Told) (new : Run) (h : History) (x : Happening) (p : TurnPosition) (step : Step) (part : Work) → CameBy GoesServed s a b h x p → StepsOn s h x step new → IsPart part (work_of s.plan.config step) → CarriedMore part b c → CutIn s a c h x part
cut_in s a b c new h x p step part m d is k = record {
  place = p;
  order = m.order;
  on = m.on;
  of = inr (record { step = step; next = d.steps; is = is });
  did = did_on (works_of s.plan.config (after s h).steps) part (failures_of (x ∷ h)) a b c m.did k.did;
  handed = handed_along s.plan (x ∷ h) a b c k.arrivals k.readings m.handed;
  stays = stays_on a b c m.stays k.stays;
}

-- the same, by what the devices answered
stops_in : (s : Setting) (a b c : Told) (new : Run) (h : History) (x : Happening) (p : TurnPosition) (step : Step) (r : StopCause) → CameBy GoesServed s a b h x p → StepsOn s h x step new → CarriesAll (work_of s.plan.config step) b c (Err r) → StopsIn s a c h x r
stops_in s a b c new h x p step stop.OutOfMemory m d k = (k.0, cut_in s a b c new h x p step k.0 m d k.1.0 k.1.1)
stops_in s a b c new h x p step stop.KeepFault m d k =
    (k.0, (cut_in s a b c new h x p step k.0 m d k.1.0 k.1.1, k.1.2, k.1.3, risen_from a.keep_faults b.keep_faults c.keep_faults m.stays.keeper k.1.4))
stops_in s a b c new h x p step stop.WriteFault m d k = absurd k
stops_in s a b c new h x p step stop.LinkFault m d k = absurd k
stops_in s a b c new h x p step (stop.ClockBack y z) m d k = absurd k
stops_in s a b c new h x p step (stop.Left why) m d k = absurd k
stops_in s a b c new h x p step (stop.BadKeep i) m d k = absurd k
stops_in s a b c new h x p step stop.TableFull m d k = absurd k

-- an arbitrator can keep no more
full_by : (s : Setting) (a b : Told) (h : History) (x : Happening) (p : TurnPosition) (q : Process) → CameBy GoesServed s a b h x p → after s (x ∷ h) ≡ record q { end = Some Full } → q.steps ≡ (after s h).steps → OverBy s a b (x ∷ h) Full × ((after s (x ∷ h)).steps ≡ (after s h).steps)
full_by s a b h x p q m e same =
    let steps : (after s (x ∷ h)).steps ≡ (after s h).steps = ap (λ (q : Process). q.steps) e ∙ same in (
      record {
        place = p;
        order = m.order;
        ended = ap (λ (q : Process). q.end) e;
        did = subst (λ (ss : List Step). Did (works_of s.plan.config ss) (failures_of (x ∷ h)) a b) (sym steps) m.did;
        handed = m.handed;
        stays = m.stays;
      },
      steps,
    )

-- What devices did of a deed, they did of its step.
all_for : (c : FabricConfig) (d : Stepped) (new : Member) (deed : Deed) (b e : Told) (r : Result (Unit {0}) StopCause) → Makes d new deed → CarriesAll (work_in c deed) b e r → CarriesAll (work_of c d.step) b e r
all_for c d new deed b e (Ok done) k w = carried_for c c d new deed b e (Ok done) refl k w
all_for c d new deed b e (Err stop.OutOfMemory) k w = carried_for c c d new deed b e (Err stop.OutOfMemory) refl k w
all_for c d new deed b e (Err stop.KeepFault) k w = carried_for c c d new deed b e (Err stop.KeepFault) refl k w
all_for c d new deed b e (Err stop.WriteFault) k w = w
all_for c d new deed b e (Err stop.LinkFault) k w = w
all_for c d new deed b e (Err (stop.ClockBack y z)) k w = w
all_for c d new deed b e (Err (stop.Left why)) k w = w
all_for c d new deed b e (Err (stop.BadKeep i)) k w = w
all_for c d new deed b e (Err stop.TableFull) k w = w

on_from : (s : Setting) (h : History) (x : Happening) (step : Step) (new : Run) → Acted s h x 0 step new → StepsOn s h x step new
on_from s h x step new d = record { members = d.members; last = d.last; steps = d.steps; end = d.end }

acted_from : (s : Setting) (h : History) (x : Happening) (step : Step) (new : Run) → StepsOn s h x step new → Acted s h x 0 step new
acted_from s h x step new d = record { members = d.members; last = d.last; steps = d.steps; end = d.end }

-- A step of the actor.

module _ (s : Setting) (a b : Told) (old new : Run) (h : History) (x : Happening) (p : TurnPosition) (turn : ℕ) (i : Input) (deed : Deed) (m : MeetsBy GoesServed s a b old h x p) (is : IsStep s h x turn 0 i)
    (t : StepsAt s.plan turn 0 i old deed new) where
  step_by : Stepped
  step_by = stepped s.plan.config turn old.last i (seen t.member)

  steps_by : StepsOn s h x (stepped s.plan.config turn old.last i (seen t.member)).step new
  steps_by = on_from s h x (stepped s.plan.config turn old.last i (seen t.member)).step new (acted s b old h x turn 0 i deed new m.stands is t)

  pub act_carried : (c : Told) → CarriesAll (work_in s.plan.config deed) b c (Ok tt) → Carried s a c new h x p deed
  act_carried c k = record {
    step = (stepped s.plan.config turn old.last i (seen t.member)).step;
    before = b;
    came = m.came;
    steps_on = steps_by;
    carried = all_for s.plan.config (stepped s.plan.config turn old.last i (seen t.member)) (seen t.next) deed b c (Ok tt) t.does.makes k;
    clock = subst (λ (o : Option ℕ). IsLast o b.last) (sym (ap (λ (r : Run). r.last) t.now)) m.stands.clock;
    head = t.does.makes.head;
    reports = t.does.makes.reports;
  }

  pub act_stops : (c : Told) (r : StopCause) → CarriesAll (work_in s.plan.config deed) b c (Err r) → StopsIn s a c h x r
  act_stops c r k =
      stops_in s a b c new h x p (stepped s.plan.config turn old.last i (seen t.member)).step r m.came steps_by
      (all_for s.plan.config (stepped s.plan.config turn old.last i (seen t.member)) (seen t.next) deed b c (Err r) t.does.makes k)

first_seen : (ms : List Running) (m : Running) → slice_get ms 0 ≡ Some m → slice_get (map seen ms) 0 ≡ Some (seen m)
first_seen [] m e = cc
first_seen (x ∷ xs) m e = ap (λ (o : Option Running). some_seen o) e
  where
    some_seen : Option Running → Option Member
    some_seen None = None
    some_seen (Some y) = Some (seen y)

full_at : (s : Setting) (turn : ℕ) (p : Process) (i : Input) (m : Member) (last : Option ℕ) → slice_get p.members 0 ≡ Some m → p.last ≡ last
    → exceeds (stepped s.plan.config turn last i m).member ≡ true → acts s turn p 0 i ≡ record p { end = Some Full }
full_at s turn p i m last here e full =
    ap (acts_at s turn p 0 i) here
    ∙ ap (λ (l : Option ℕ). acts_as p 0 (stepped s.plan.config turn l i m)) e
    ∙ ap (λ (b : Bool). unless_full p b (acts_with p 0 (stepped s.plan.config turn last i m))) full

pub act_is_full : (s : Setting) (a b : Told) (run : Run) (h : History) (x : Happening) (p : TurnPosition) (turn : ℕ) (i : Input) → MeetsBy GoesServed s a b run h x p → IsStep s h x turn 0 i → RefusedAt s.plan turn 0 i run → StopsIn s a b h x stop.TableFull
act_is_full s a b run h x p turn i m is r =
    let there : slice_get (after s h).members 0 ≡ Some (seen r.member) = ap (λ (ms : List Member). slice_get ms 0) m.stands.members ∙ first_seen run.members r.member r.here in
    let e : after s (x ∷ h) ≡ record (after s h) { end = Some Full } = after_next s h x m.stands.on ∙ is ∙ full_at s turn (after s h) i (seen r.member) run.last there m.stands.last r.full in
    full_by s a b h x p (after s h) m.came e refl

-- Its start.

module _ (s : Setting) (a b : Told) (old new : Run) (h : History) (x : Happening) (p : TurnPosition) (records : List Record) (deed : Deed) (list : slice_get s.kept 0 ≡ Some records) (m : MeetsStartBy GoesServed s a b old h x p 0)
    (t : JoinsAt s.plan records 0 old deed new) where
  begun_by : StepsOn s h x (begun s.plan.config s.plan.whole 0 old.last t.endpoint.actor records).step new
  begun_by = on_from s h x (begun s.plan.config s.plan.whole 0 old.last t.endpoint.actor records).step new (joined s a b old h x p 0 records deed new list m t)

  pub join_carried : (c : Told) → CarriesAll (work_in s.plan.config deed) b c (Ok tt) → Carried s a c new h x p deed
  join_carried c k = record {
    step = (begun s.plan.config s.plan.whole 0 old.last t.endpoint.actor records).step;
    before = b;
    came = m.came;
    steps_on = begun_by;
    carried = all_for s.plan.config (begun s.plan.config s.plan.whole 0 old.last t.endpoint.actor records) (seen t.next) deed b c (Ok tt) t.does.makes k;
    clock = clock_join s.plan records old 0 deed new b.last t m.clock;
    head = t.does.makes.head;
    reports = t.does.makes.reports;
  }

  pub join_stops : (c : Told) (r : StopCause) → CarriesAll (work_in s.plan.config deed) b c (Err r) → StopsIn s a c h x r
  join_stops c r k =
      stops_in s a b c new h x p (begun s.plan.config s.plan.whole 0 old.last t.endpoint.actor records).step r m.came begun_by
      (all_for s.plan.config (begun s.plan.config s.plan.whole 0 old.last t.endpoint.actor records) (seen t.next) deed b c (Err r) t.does.makes k)

full_from : (s : Setting) (p : Process) (e : Endpoint) (records : List Record) (last : Option ℕ) → slice_get s.plan.actors 0 ≡ Some e → slice_get s.kept 0 ≡ Some records → p.last ≡ last
    → exceeds (begun s.plan.config s.plan.whole 0 last e.actor records).member ≡ true → joins s 0 0 p ≡ record p { end = Some Full }
full_from s p e records last here list same full =
    ap (λ (o : Option Endpoint). joins_at s 0 p o (slice_get s.kept 0)) here
    ∙ ap (joins_at s 0 p (Some e)) list
    ∙ ap (λ (l : Option ℕ). joins_as p (begun s.plan.config s.plan.whole 0 l e.actor records)) same
    ∙ ap (λ (b : Bool). unless_full p b (joins_with p (begun s.plan.config s.plan.whole 0 last e.actor records))) full

pub join_is_full : (s : Setting) (a b : Told) (old : Run) (h : History) (x : Happening) (p : TurnPosition) (records : List Record) → slice_get s.kept 0 ≡ Some records → MeetsStartBy GoesServed s a b old h x p 0 → NotJoinsAt s.plan records 0 old → StopsIn s a b h x stop.TableFull
join_is_full s a b old h x p records list m t =
    full_by s a b h x p m.before m.came (m.joins ∙ full_from s m.before t.endpoint records old.last t.named list m.last t.full) m.steps

-- What becomes of a step that is carried out.

-- the actor goes on
pub settles : (s : Setting) (a b : Told) (run : Run) (h : History) (x : Happening) (p : TurnPosition) (deed : Deed) → Carried s a b run h x p deed → left_at run.members 0 ≡ None → AtBy GoesServed s a b run (x ∷ h) p
settles s a b run h x p deed k stays = done_at s a k.before b run h x p 0 k.step k.came (acted_from s h x k.step run k.steps_on) k.carried k.clock stays

-- it has left
pub leaves : (s : Setting) (a b : Told) (run : Run) (h : History) (x : Happening) (p : TurnPosition) (deed : Deed) (why : Why) → Carried s a b run h x p deed → left_at run.members 0 ≡ Some why → OverBy s a b (x ∷ h) (Left why)
leaves s a b run h x p deed why k left = record {
  place = p;
  order = k.came.order;
  ended = k.steps_on.end ∙ ap left_end left;
  did = did_step s a k.before b run h x p 0 k.step k.came (acted_from s h x k.step run k.steps_on) k.carried;
  handed = handed_along s.plan (x ∷ h) a k.before b k.carried.arrivals k.carried.readings k.came.handed;
  stays = stays_on a k.before b k.came.stays k.carried.stays;
}
