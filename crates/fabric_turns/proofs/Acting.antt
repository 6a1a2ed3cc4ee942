-- A step of an actor, after what came before it.
use Rattle.std.proofs.Common.{◌≡◌, ℕ, zero, suc, Bool, true, false, List, [], ◌∷◌, map, Option, Some, None, Result, Ok, Err, refl, ap, sym, subst, ◌∙◌, inl, inr, ⊎_elim}
use Rattle.std.specs.Prelude.{◌⊎◌, slice_get, slice_set}
use Rattle.edge_io.specs.Arrivals.{IsListening}
use Rattle.edge_io.specs.declared.endpoint.Endpoint.{Endpoint}
use Rattle.fabric_terms.specs.Ranges.{most}
use Rattle.fabric_terms.specs.declared.config.FabricConfig.{FabricConfig}
use Rattle.fabric_terms.specs.declared.message.Message.{Message}
use Rattle.fabric_terms.specs.declared.record.Record.{Record}
use Rattle.fabric_terms.specs.declared.report.Head.{Head}
use Rattle.fabric_terms.specs.declared.report.Report.{Report}
use Rattle.fabric_terms.specs.declared.report.Why.{Why}
use Rattle.fabric_terms.specs.Sent.{from_all}
use Rattle.fabric_turns.proofs.Doing.{did_on, did_nothing, handed_along, nothing, risen_from, stays_on}
use Rattle.fabric_turns.specs.Runs.{Run, AtBy, CameBy, MeetsBy, Stands, IsStep, IsReady, IsLast}
use Rattle.fabric_turns.specs.Steps.{StepsAt, RefusedAt, left_at, why_of, work_in}
use Rattle.edge_io.specs.Told.{Told}
use Rattle.ring_rules.specs.declared.input.Input.{Input}
use Rattle.std.specs.Prelude.{◌≤◌, IfSome}
use Rattle.turn_effects.specs.Carried.{CarriedMore, CarriesOut}
use Rattle.turn_members.specs.Members.{IsOf, Makes, seen}
use Rattle.turn_members.specs.declared.deed.Deed.{Deed}
use Rattle.turn_members.specs.declared.member.Member.{Member as Running}
use Rattle.turn_rules.specs.Effects.{Did, IsPart}
use Rattle.turn_rules.specs.Ends.{EndedBy, BrokenBy, StoppedBy}
use Rattle.turn_rules.specs.Handed.{failures_of}
use Rattle.turn_rules.specs.Happenings.{Happening, History}
use Rattle.turn_rules.specs.Order.{Rows, TurnPosition}
use Rattle.turn_rules.specs.Plans.{Plan, Setting}
use Rattle.turn_rules.specs.Process.{Process, End, Left, Full, after, takes, acts, acts_as, acts_at, acts_with, unless_full, unless_ended, left_end}
use Rattle.turn_rules.specs.Steps.{Member, Step, Stepped, exceeds, left_of, stepped}
use Rattle.turn_rules.specs.Works.{Work, head_of, work_of, work_with, works_of}
use Rattle.turn_rules.specs.declared.stop_cause.StopCause.{StopCause}
use Rattle.turn_rules.specs.declared.stop_cause.StopCause.TheVariants as stop

-- One more of what comes.

pub after_next : (s : Setting) (h : History) (x : Happening) → (after s h).end ≡ None → after s (x ∷ h) ≡ takes s x.turn (after s h) x.place x.comes
after_next s h x on = ap (λ (e : Option End). unless_ended (after s h) e (takes s x.turn (after s h) x.place x.comes)) on

-- the step of an actor that is there
acted_at : (s : Setting) (turn : ℕ) (p : Process) (place : ℕ) (i : Input) (m : Member) (last : Option ℕ) → slice_get p.members place ≡ Some m → p.last ≡ last
    → exceeds (stepped s.plan.config turn last i m).member ≡ false → acts s turn p place i ≡ acts_with p place (stepped s.plan.config turn last i m)
acted_at s turn p place i m last here e room =
    ap (acts_at s turn p place i) here
    ∙ ap (λ (l : Option ℕ). acts_as p place (stepped s.plan.config turn l i m)) e
    ∙ ap (λ (b : Bool). unless_full p b (acts_with p place (stepped s.plan.config turn last i m))) room

full_at : (s : Setting) (turn : ℕ) (p : Process) (place : ℕ) (i : Input) (m : Member) (last : Option ℕ) → slice_get p.members place ≡ Some m → p.last ≡ last
    → exceeds (stepped s.plan.config turn last i m).member ≡ true → acts s turn p place i ≡ record p { end = Some Full }
full_at s turn p place i m last here e full =
    ap (acts_at s turn p place i) here
    ∙ ap (λ (l : Option ℕ). acts_as p place (stepped s.plan.config turn l i m)) e
    ∙ ap (λ (b : Bool). unless_full p b (acts_with p place (stepped s.plan.config turn last i m))) full

-- Lists with one changed.

set_here : {X : Type 0} (xs : List X) (i : ℕ) (y m : X) → slice_get xs i ≡ Some m → slice_get (slice_set xs i y) i ≡ Some y
set_here [] i y m e = cc
set_here (x ∷ xs) zero y m e = refl
set_here (x ∷ xs) (suc i) y m e = set_here xs i y m e

set_cases : {X : Type 0} (xs : List X) (i j : ℕ) (y m z : X) → slice_get xs i ≡ Some m → slice_get (slice_set xs i y) j ≡ Some z → (slice_get xs j ≡ Some z) ⊎ ((j ≡ i) × (z ≡ y))
set_cases [] i j y m z e f = cc
set_cases (x ∷ xs) zero zero y m z e f = inr (refl, cc)
set_cases (x ∷ xs) zero (suc j) y m z e f = inl f
set_cases (x ∷ xs) (suc i) zero y m z e f = inl f
set_cases (x ∷ xs) (suc i) (suc j) y m z e f = ⊎_elim (λ same. inl same) (λ (here : (j ≡ i) × (z ≡ y)). inr (ap suc here.0, here.1)) (set_cases xs i j y m z e f)

-- as the rules see them

seen_at : (ms : List Running) (place : ℕ) (m : Running) → slice_get ms place ≡ Some m → slice_get (map seen ms) place ≡ Some (seen m)
seen_at [] place m e = cc
seen_at (x ∷ xs) zero m e = ap (λ (o : Option Running). some_seen o) e
  where
    some_seen : Option Running → Option Member
    some_seen None = None
    some_seen (Some y) = Some (seen y)
seen_at (x ∷ xs) (suc place) m e = seen_at xs place m e

seen_set : (ms : List Running) (place : ℕ) (m : Running) → slice_set (map seen ms) place (seen m) ≡ map seen (slice_set ms place m)
seen_set [] place m = refl
seen_set (x ∷ xs) zero m = refl
seen_set (x ∷ xs) (suc place) m = ap (λ (ys : List Member). seen x ∷ ys) (seen_set xs place m)

-- What a step makes of the run.
pub record Acted (s : Setting) (h : History) (x : Happening) (place : ℕ) (step : Step) (new : Run) : Type 0 where
  pub members : (after s (x ∷ h)).members ≡ map seen new.members
  pub last : (after s (x ∷ h)).last ≡ new.last
  pub steps : (after s (x ∷ h)).steps ≡ step ∷ (after s h).steps
  pub end : (after s (x ∷ h)).end ≡ left_end (left_at new.members place)

pub acted : (s : Setting) (b : Told) (old : Run) (h : History) (x : Happening) (turn place : ℕ) (i : Input) (deed : Deed) (new : Run) → Stands s b old h → IsStep s h x turn place i
    → (t : StepsAt s.plan turn place i old deed new) → Acted s h x place (stepped s.plan.config turn old.last i (seen t.member)).step new
acted s b old h x turn place i deed new stands is t =
    let d : Stepped = stepped s.plan.config turn old.last i (seen t.member) in
    let there : slice_get (after s h).members place ≡ Some (seen t.member) = ap (λ (ms : List Member). slice_get ms place) stands.members ∙ seen_at old.members place t.member t.here in
    let e : after s (x ∷ h) ≡ acts_with (after s h) place d = after_next s h x stands.on ∙ is ∙ acted_at s turn (after s h) place i (seen t.member) old.last there stands.last t.does.room in
    let m : seen t.next ≡ d.member = t.does.makes.member in
    let now : new.members ≡ slice_set old.members place t.next = ap (λ (r : Run). r.members) t.now in
    let here : slice_get new.members place ≡ Some t.next = ap (λ (ms : List Running). slice_get ms place) now ∙ set_here old.members place t.next t.member t.here in
    record {
      members = ap (λ (q : Process). q.members) e
          ∙ ap (λ (ms : List Member). slice_set ms place d.member) stands.members
          ∙ ap (λ (n : Member). slice_set (map seen old.members) place n) (sym m)
          ∙ seen_set old.members place t.next
          ∙ ap (λ (ms : List Running). map seen ms) (sym now);
      last = ap (λ (q : Process). q.last) e ∙ stands.last ∙ sym (ap (λ (r : Run). r.last) t.now);
      steps = ap (λ (q : Process). q.steps) e;
      end = ap (λ (q : Process). q.end) e ∙ ap (λ (n : Member). left_end (left_of n)) (sym m) ∙ sym (ap (λ (o : Option Running). left_end (why_of o)) here);
    }

-- its actor listens
pub named_step : (plan : Plan) (old : Run) (b : Told) (turn place : ℕ) (i : Input) (deed : Deed) (new : Run) → IsReady plan old b → StepsAt plan turn place i old deed new → IsListening deed.head.who.actor b.opened
named_step plan old b turn place i deed new ready t =
    subst (λ (n : ℕ). IsListening n b.opened) (sym t.own.whose) (ready.listen place t.endpoint t.named)

pub ready_on : (plan : Plan) (old : Run) (b : Told) (turn place : ℕ) (i : Input) (deed : Deed) (new : Run) (c : Told) → IsReady plan old b → StepsAt plan turn place i old deed new → c.opened ≡ b.opened → IsReady plan new c
ready_on plan old b turn place i deed new c ready t opened = record {
  good = ready.good;
  members = λ j z here. names j z (ap (λ (r : Run). slice_get r.members j) (sym t.now) ∙ here);
  listen = λ j e here. rw opened (ready.listen j e here);
  last = subst (λ (o : Option ℕ). IfSome o (λ reading. reading ≤ most)) (sym (ap (λ (r : Run). r.last) t.now)) ready.last;
}
  where
    names : (j : ℕ) (z : Running) → slice_get (slice_set old.members place t.next) j ≡ Some z → (e : Endpoint) × ((slice_get plan.actors j ≡ Some e) × IsOf plan.config e.actor z)
    names j z here = ⊎_elim
        (λ same. ready.members j z same)
        (λ (changed : (j ≡ place) × (z ≡ t.next)).
        (t.endpoint, (ap (λ (k : ℕ). slice_get plan.actors k) changed.0 ∙ t.named, subst (λ (w : Running). IsOf plan.config t.endpoint.actor w) (sym changed.1) t.runs)))
        (set_cases old.members place j t.next t.member z t.here here)

pub carried_opened : (s : Work) (b c : Told) (r : Result (Unit {0}) StopCause) → CarriesOut s b c r → c.opened ≡ b.opened
carried_opened s b c (Ok done) k = k.stays.opened
carried_opened s b c (Err stop.OutOfMemory) k = k.1.1.stays.opened
carried_opened s b c (Err stop.WriteFault) k = k.1.1.stays.opened
carried_opened s b c (Err stop.KeepFault) k = k.1.1.stays.opened
carried_opened s b c (Err stop.LinkFault) k = absurd k
carried_opened s b c (Err (stop.ClockBack x y)) k = absurd k
carried_opened s b c (Err (stop.Left why)) k = absurd k
carried_opened s b c (Err (stop.BadKeep i)) k = absurd k
carried_opened s b c (Err stop.TableFull) k = absurd k

-- What a deed leaves to do is what the step does.

work_is : (c : FabricConfig) (d : Stepped) (new : Member) (deed : Deed) → Makes d new deed → work_in c deed ≡ work_of c d.step
work_is c d new deed k =
    ap (λ (h : Head). work_with c h deed.outcome.records deed.outcome.frames deed.outcome.reports) k.head
    ∙ ap (λ (rs : List Record). work_with c (head_of d.step) rs deed.outcome.frames deed.outcome.reports) k.records
    ∙ ap (λ (ms : List Message). work_with c (head_of d.step) d.step.records ms deed.outcome.reports) k.frames
    ∙ ap (λ (rs : List Report). work_with c (head_of d.step) d.step.records (from_all d.step.who d.step.sent) rs) k.reports

pub carried_for : (c c' : FabricConfig) (d : Stepped) (new : Member) (deed : Deed) (b e : Told) (r : Result (Unit {0}) StopCause) → c' ≡ c → Makes d new deed → CarriesOut (work_in c' deed) b e r → CarriesOut (work_of c d.step) b e r
carried_for c c' d new deed b e r same k w =
    subst (λ (v : Work). CarriesOut v b e r) (ap (λ (f : FabricConfig). work_in f deed) same ∙ work_is c d new deed k) w

-- How a step ends.

pub did_step : {may_go : Rows} (s : Setting) (a b c : Told) (new : Run) (h : History) (x : Happening) (p : TurnPosition) (place : ℕ) (step : Step) → CameBy may_go s a b h x p → Acted s h x place step new → CarriedMore (work_of s.plan.config step) b c → Did (works_of s.plan.config (after s (x ∷ h)).steps) (failures_of (x ∷ h)) a c
did_step s a b c new h x p place step m d k = subst (λ (ss : List Step). Did (works_of s.plan.config ss) (failures_of (x ∷ h)) a c) (sym d.steps) (did_on (works_of s.plan.config (after s h).steps) (work_of s.plan.config step) (failures_of (x ∷ h)) a b c m.did k.did)

pub short_at : {may_go : Rows} (s : Setting) (a b : Told) (h : History) (x : Happening) (p : TurnPosition) → CameBy may_go s a b h x p → (part : Work) × BrokenBy may_go s a b part
short_at s a b h x p m = (
  nothing,
  record {
    before = h;
    last = x;
    place = p;
    order = m.order;
    on = m.on;
    of = inl (refl, refl, refl);
    did = did_nothing (works_of s.plan.config (after s h).steps) (failures_of (x ∷ h)) a b m.did;
    handed = m.handed;
    stays = m.stays;
  },
)

pub done_at : {may_go : Rows} (s : Setting) (a b c : Told) (new : Run) (h : History) (x : Happening) (p : TurnPosition) (place : ℕ) (step : Step) → CameBy may_go s a b h x p → Acted s h x place step new → CarriedMore (work_of s.plan.config step) b c → IsLast new.last b.last → left_at new.members place ≡ None → AtBy may_go s a c new (x ∷ h) p
done_at s a b c new h x p place step m d k clock stays = record {
  order = m.order;
  stands = record {
    on = d.end ∙ ap left_end stays;
    members = d.members;
    last = d.last;
    clock = subst (λ (o : Option ℕ). IsLast new.last o) (sym k.last) clock;
  };
  did = did_step s a b c new h x p place step m d k;
  handed = handed_along s.plan (x ∷ h) a b c k.arrivals k.readings m.handed;
  stays = stays_on a b c m.stays k.stays;
}

pub left_from : {may_go : Rows} (s : Setting) (a b c : Told) (new : Run) (h : History) (x : Happening) (p : TurnPosition) (place : ℕ) (step : Step) (why : Why) → CameBy may_go s a b h x p → Acted s h x place step new → CarriedMore (work_of s.plan.config step) b c → left_at new.members place ≡ Some why → EndedBy may_go s a c (Left why)
left_from s a b c new h x p place step why m d k left = record {
  history = x ∷ h;
  place = p;
  order = m.order;
  ended = d.end ∙ ap left_end left;
  did = did_step s a b c new h x p place step m d k;
  handed = handed_along s.plan (x ∷ h) a b c k.arrivals k.readings m.handed;
  stays = stays_on a b c m.stays k.stays;
}

pub broken_at : {may_go : Rows} (s : Setting) (a b c : Told) (new : Run) (h : History) (x : Happening) (p : TurnPosition) (place : ℕ) (step : Step) (part : Work) → CameBy may_go s a b h x p → Acted s h x place step new → IsPart part (work_of s.plan.config step) → CarriedMore part b c → BrokenBy may_go s a c part
broken_at s a b c new h x p place step part m d is k = record {
  before = h;
  last = x;
  place = p;
  order = m.order;
  on = m.on;
  of = inr (record { step = step; next = d.steps; is = is });
  did = did_on (works_of s.plan.config (after s h).steps) part (failures_of (x ∷ h)) a b c m.did k.did;
  handed = handed_along s.plan (x ∷ h) a b c k.arrivals k.readings m.handed;
  stays = stays_on a b c m.stays k.stays;
}

pub broken_from : {may_go : Rows} (s : Setting) (a b c : Told) (new : Run) (h : History) (x : Happening) (p : TurnPosition) (place : ℕ) (step : Step) (r : StopCause) → CameBy may_go s a b h x p → Acted s h x place step new → CarriesOut (work_of s.plan.config step) b c (Err r) → StoppedBy may_go s a c r
broken_from s a b c new h x p place step stop.OutOfMemory m d k = (k.0, broken_at s a b c new h x p place step k.0 m d k.1.0 k.1.1)
broken_from s a b c new h x p place step stop.WriteFault m d k =
    (k.0, (broken_at s a b c new h x p place step k.0 m d k.1.0 k.1.1, risen_from a.sink_faults b.sink_faults c.sink_faults m.stays.sink k.1.2))
broken_from s a b c new h x p place step stop.KeepFault m d k =
    (k.0, (broken_at s a b c new h x p place step k.0 m d k.1.0 k.1.1, k.1.2, k.1.3, risen_from a.keep_faults b.keep_faults c.keep_faults m.stays.keeper k.1.4))
broken_from s a b c new h x p place step stop.LinkFault m d k = absurd k
broken_from s a b c new h x p place step (stop.ClockBack y z) m d k = absurd k
broken_from s a b c new h x p place step (stop.Left why) m d k = absurd k
broken_from s a b c new h x p place step (stop.BadKeep n) m d k = absurd k
broken_from s a b c new h x p place step stop.TableFull m d k = absurd k

-- an arbitrator can keep no more
pub full_ended : {may_go : Rows} (s : Setting) (a b : Told) (h : History) (x : Happening) (p : TurnPosition) → CameBy may_go s a b h x p → (after s (x ∷ h)).end ≡ Some Full → (after s (x ∷ h)).steps ≡ (after s h).steps → EndedBy may_go s a b Full
full_ended s a b h x p m ended steps = record {
  history = x ∷ h;
  place = p;
  order = m.order;
  ended = ended;
  did = subst (λ (ss : List Step). Did (works_of s.plan.config ss) (failures_of (x ∷ h)) a b) (sym steps) m.did;
  handed = m.handed;
  stays = m.stays;
}

-- the same of a step of one that runs

pub act_full : {may_go : Rows} (s : Setting) (a b : Told) (run : Run) (h : History) (x : Happening) (p : TurnPosition) (turn place : ℕ) (i : Input) → MeetsBy may_go s a b run h x p → IsStep s h x turn place i → RefusedAt s.plan turn place i run → EndedBy may_go s a b Full
act_full s a b run h x p turn place i m is r =
    let there : slice_get (after s h).members place ≡ Some (seen r.member) = ap (λ (ms : List Member). slice_get ms place) m.stands.members ∙ seen_at run.members place r.member r.here in
    let e : after s (x ∷ h) ≡ record (after s h) { end = Some Full } = after_next s h x m.stands.on ∙ is ∙ full_at s turn (after s h) place i (seen r.member) run.last there m.stands.last r.full in
    full_ended s a b h x p m.came (ap (λ (q : Process). q.end) e) (ap (λ (q : Process). q.steps) e)

pub act_done : {may_go : Rows} (s : Setting) (a b c : Told) (old new : Run) (h : History) (x : Happening) (p : TurnPosition) (turn place : ℕ) (i : Input) (deed : Deed) (config : FabricConfig) → config ≡ s.plan.config → MeetsBy may_go s a b old h x p → IsStep s h x turn place i
    → StepsAt s.plan turn place i old deed new → (done : Unit {0}) → CarriesOut (work_in config deed) b c (Ok done) → left_at new.members place ≡ None → AtBy may_go s a c new (x ∷ h) p
act_done s a b c old new h x p turn place i deed config same m is t done k stays =
    let d : Stepped = stepped s.plan.config turn old.last i (seen t.member) in
    done_at s a b c new h x p place d.step m.came (acted s b old h x turn place i deed new m.stands is t) (carried_for s.plan.config config d (seen t.next) deed b c (Ok done) same t.does.makes k)
    (subst (λ (o : Option ℕ). IsLast o b.last) (sym (ap (λ (r : Run). r.last) t.now)) m.stands.clock) stays

pub act_left : {may_go : Rows} (s : Setting) (a b c : Told) (old new : Run) (h : History) (x : Happening) (p : TurnPosition) (turn place : ℕ) (i : Input) (deed : Deed) (config : FabricConfig) (why : Why) → config ≡ s.plan.config → MeetsBy may_go s a b old h x p → IsStep s h x turn place i
    → StepsAt s.plan turn place i old deed new → (done : Unit {0}) → CarriesOut (work_in config deed) b c (Ok done) → left_at new.members place ≡ Some why → EndedBy may_go s a c (Left why)
act_left s a b c old new h x p turn place i deed config why same m is t done k left =
    let d : Stepped = stepped s.plan.config turn old.last i (seen t.member) in
    left_from s a b c new h x p place d.step why m.came (acted s b old h x turn place i deed new m.stands is t) (carried_for s.plan.config config d (seen t.next) deed b c (Ok done) same t.does.makes k) left

pub act_broken : {may_go : Rows} (s : Setting) (a b c : Told) (old new : Run) (h : History) (x : Happening) (p : TurnPosition) (turn place : ℕ) (i : Input) (deed : Deed) (config : FabricConfig) (r : StopCause) → config ≡ s.plan.config → MeetsBy may_go s a b old h x p → IsStep s h x turn place i
    → StepsAt s.plan turn place i old deed new → CarriesOut (work_in config deed) b c (Err r) → StoppedBy may_go s a c r
act_broken s a b c old new h x p turn place i deed config r same m is t k =
    let d : Stepped = stepped s.plan.config turn old.last i (seen t.member) in
    broken_from s a b c new h x p place d.step r m.came (acted s b old h x turn place i deed new m.stands is t) (carried_for s.plan.config config d (seen t.next) deed b c (Err r) same t.does.makes k)
