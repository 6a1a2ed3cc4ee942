-- What comes next, and what the run then is.
use Rattle.std.proofs.Common.{arith, ◌≡◌, ◌<◌, ◌≤◌, ◌+◌, ℕ, Bool, true, false, List, [], ◌∷◌, length, map, Option, Some, None, Result, Ok, Err, refl, ap, sym, subst, ◌∙◌, nat_lt}
use Rattle.std.specs.Prelude.{IfSome, if◌then◌else◌}
use Rattle.std.proofs.lemmas.Bool.Decides.{nat_tests}
use Rattle.edge_io.specs.Readings.{Gives, is_fall, readings_after}
use Rattle.edge_io.specs.Edge.{Grew}
use Rattle.edge_io.specs.Told.{Told, ReadsClock}
use Rattle.turn_members.specs.Members.{seen}
use Rattle.turn_rules.specs.Effects.{Did, Stays, records_of, sends_of, lines_of}
use Rattle.fabric_terms.specs.declared.command.Command.{Command}
use Rattle.fabric_turns.specs.Moves.{Reaches, ComesTo, Goes, Leads, at_place}
use Rattle.turn_rules.specs.Ends.{EndedBy, Stopped, StoppedBy}
use Rattle.turn_rules.specs.Steps.{Step, present}
use Rattle.turn_rules.specs.Works.{Work, works_of}
use Rattle.turn_rules.specs.Handed.{Handed, Gave, Answered, Arrival, readings_of, answers_at, failures_of}
use Rattle.turn_rules.specs.Happenings.{Begins, Turns, Bids, Fires, Happening, History}
use Rattle.turn_rules.specs.Order.{TurnPosition, Starting, Turning, Busy, Extends, Firing, IsInOrderBy, Rows, onward}
use Rattle.turn_rules.specs.Plans.{Plan, Setting, is_node_at, orders_at}
use Rattle.turn_rules.specs.Process.{Process, End, Back, after, reads, reads_as, joins, unless_ended, clamped}
use Rattle.edge_io.specs.declared.endpoint.Endpoint.{Endpoint}
use Rattle.fabric_terms.specs.Ranges.{most}
use Rattle.fabric_turns.specs.Runs.{AllListen, AreMembers, IsReady, Run, At, AtBy, Meets, MeetsBy, MeetsStart, MeetsStartBy, Stands, IsLast}
use Rattle.fabric_turns.specs.Steps.{ReadOn, ReadBack, ReadsNow}
use Rattle.turn_rules.specs.declared.stop_cause.StopCause.{StopCause}
use Rattle.turn_rules.specs.declared.stop_cause.StopCause.TheVariants as stop
use Rattle.fabric_turns.proofs.Acting.{after_next}
use Rattle.fabric_turns.proofs.Doing.{stays_on}
use Rattle.turn_effects.proofs.Sending.{sent_along}

-- Firings and commands.

abbrev pub fires_at : ℕ → ℕ → Happening
fires_at turn place = record { turn = turn; place = place; comes = Fires }

abbrev pub bids_at : ℕ → ℕ → Command → Happening
bids_at turn place command = record { turn = turn; place = place; comes = Bids command }

pub fire_comes_by : {may_go : Rows} → Extends may_go → (s : Setting) (a b : Told) (run : Run) (h : History) (turn place : ℕ) → AtBy may_go s a b run h (at_place turn place Firing) → MeetsBy may_go s a b run h (fires_at turn place) (onward s.plan turn place)
fire_comes_by more s a b run h turn place t = record {
  came = record {
    order = (at_place turn place Firing, (t.order, record { turn = refl; place = refl; goes = more s.plan turn place Firing Fires (onward s.plan turn place) refl }));
    on = t.stands.on;
    did = t.did;
    handed = record { read = t.handed.read; heard = t.handed.heard };
    stays = t.stays;
  };
  stands = t.stands;
}

pub fire_comes : (s : Setting) (a b : Told) (run : Run) (h : History) (turn place : ℕ) → At s a b run h (at_place turn place Firing) → Meets s a b run h (fires_at turn place) (onward s.plan turn place)
fire_comes s a b run h turn place t = fire_comes_by (λ plan turn at doing x p g. g) s a b run h turn place t

pub bid_comes : (s : Setting) (a b : Told) (run : Run) (h : History) (turn place : ℕ) (command : Command) (rest : List Command) (n : ℕ) → At s a b run h (at_place turn place (Busy (command ∷ rest) n)) → Meets s a b run h (bids_at turn place command) (at_place turn place (Busy rest n))
bid_comes s a b run h turn place command rest n t = record {
  came = record {
    order = (at_place turn place (Busy (command ∷ rest) n), (t.order, record { turn = refl; place = refl; goes = (refl, refl) }));
    on = t.stands.on;
    did = t.did;
    handed = record { read = t.handed.read; heard = t.handed.heard };
    stays = t.stays;
  };
  stands = t.stands;
}

-- all is done of what has come, and it has come to the place
pub comes_to : (s : Setting) (a b : Told) (run : Run) (h : History) (p : TurnPosition) (r : Result (Unit {0}) StopCause) → Reaches s a b run h p r → ComesTo s a b run p r
comes_to s a b run h p (Ok done) k = (h, k)
comes_to s a b run h p (Err stopped) k = k

-- Readings.

did_along : (ss : List Work) (n : ℕ) (a b c : Told) → c.kept ≡ b.kept → c.sent ≡ b.sent → c.link_faults ≡ b.link_faults → c.held ≡ b.held → Did ss n a b → Did ss n a c
did_along ss n a b c kept sent faults held d = record {
  kept = λ actor. subst (λ (f : ℕ → Option (List (List ℕ))). Grew (a.kept actor) (f actor) (records_of actor ss)) (sym kept) (d.kept actor);
  sent = sent_along (sends_of ss) n a a b c refl refl (sym sent) (sym faults) d.sent;
  lines = subst (λ (o : Option (List ℕ)). Grew a.held o (lines_of ss)) (sym held) d.lines;
}

-- what is left of readings is told
gave_some : (all taken : List ℕ) (left : Option (List ℕ)) → Gave all taken left → (before : List ℕ) × (left ≡ Some before)
gave_some all [] left g = (all, g)
gave_some all (r ∷ rs) left g = (readings_after g.0, g.1.2)

gave_more : (all taken : List ℕ) (told : ℕ) (old new : Option (List ℕ)) → Gave all taken old → Gives old told new → Gave all (told ∷ taken) new
gave_more all taken told old new g k =
    let before = gave_some all taken old g in
    let now = k before.0 before.1 in
    (before.0, (subst (λ (o : Option (List ℕ)). Gave all taken o) before.1 g, now.0, now.1))

-- the clock was read, and nothing else has changed
record Read (a b c : Told) (h : History) (told : ℕ) (plan : Plan) (n : ℕ) (ss : List Work) : Type 0 where
  pub did : Did ss n a c
  pub read : (all : List ℕ) → a.readings ≡ Some all → Gave all (told ∷ readings_of h) c.readings
  pub heard : (actor : ℕ) (all : List Arrival) → a.arrivals actor ≡ Some all → Answered all (answers_at plan actor h) (c.arrivals actor)
  pub stays : Stays a c

falls_later : (b c : Told) (last : Option ℕ) (told : ℕ) (fall : Bool) → c.falls ≡ (if fall then b.falls + 1 else b.falls) → b.falls ≤ c.falls
falls_later b c last told true e = omega arith
falls_later b c last told false e = omega arith

read_on : (plan : Plan) (a b c : Told) (h : History) (told n : ℕ) (ss : List Work) → Did ss n a b → Handed plan h a b → Stays a b → ReadsClock told b c → Read a b c h told plan n ss
read_on plan a b c h told n ss did handed stays k = record {
  did = did_along ss n a b c (ap (λ (t : Told). t.kept) k.rest) (ap (λ (t : Told). t.sent) k.rest) (ap (λ (t : Told). t.link_faults) k.rest) (ap (λ (t : Told). t.held) k.rest) did;
  read = λ all e. gave_more all (readings_of h) told b.readings c.readings (handed.read all e) k.told;
  heard = λ actor all e. subst (λ (f : ℕ → Option (List Arrival)). Answered all (answers_at plan actor h) (f actor)) (sym (ap (λ (t : Told). t.arrivals) k.rest)) (handed.heard actor all e);
  stays = stays_on a b c stays (record {
    loans = ap (λ (t : Told). t.loans) k.rest;
    opened = ap (λ (t : Told). t.opened) k.rest;
    keeper = omega (arith, ap (λ (t : Told). t.keep_faults) k.rest);
    sink = omega (arith, ap (λ (t : Told). t.sink_faults) k.rest);
    clock = falls_later b c b.last told (is_fall b.last told) k.falls;
  });
}

read_clamped : (s : Setting) (b : Told) (run : Run) (h : History) (told : ℕ) → Stands s b run h → is_fall run.last (clamped told) ≡ false → reads (after s h) told ≡ record (after s h) { last = Some (clamped told) }
read_clamped s b run h told t on = ap (λ (o : Option ℕ). reads_as (after s h) (clamped told) (is_fall o (clamped told))) t.last ∙ ap (reads_as (after s h) (clamped told)) on

abbrev pub turns_at : ℕ → ℕ → ℕ → Happening
turns_at turn place told = record { turn = turn; place = place; comes = Turns told }

pub turn_began_by : {may_go : Rows} → Extends may_go → (s : Setting) (a b c : Told) (run new : Run) (h : History) (turn place told : ℕ) → AtBy may_go s a b run h (at_place turn place Turning) → ReadOn told run b new c → AtBy may_go s a c new (turns_at turn place told ∷ h) (at_place turn place (Busy (orders_at s.plan turn place) 0))
turn_began_by more s a b c run new h turn place told t k =
    let x = turns_at turn place told in
    let e : after s (x ∷ h) ≡ record (after s h) { last = Some (clamped told) } = after_next s h x t.stands.on ∙ read_clamped s b run h told t.stands k.on in
    let r = read_on s.plan a b c h told (failures_of h) (works_of s.plan.config (after s h).steps) t.did t.handed t.stays k.clock in
    record {
      order = (at_place turn place Turning, (t.order, record { turn = refl; place = refl; goes = more s.plan turn place Turning (Turns told) (at_place turn place (Busy (orders_at s.plan turn place) 0)) refl }));
      stands = record {
        on = ap (λ (q : Process). q.end) e ∙ t.stands.on;
        members = ap (λ (q : Process). q.members) e ∙ t.stands.members ∙ sym (ap (λ (q : Run). map seen q.members) k.now);
        last = ap (λ (q : Process). q.last) e ∙ sym (ap (λ (q : Run). q.last) k.now);
        clock = subst (λ (o : Option ℕ). IsLast o c.last) (sym (ap (λ (q : Run). q.last) k.now)) (told, k.clock.last, refl);
      };
      did = subst (λ (ss : List Step). Did (works_of s.plan.config ss) (failures_of h) a c) (sym (ap (λ (q : Process). q.steps) e)) r.did;
      handed = record { read = r.read; heard = r.heard };
      stays = r.stays;
    }

pub turn_began : (s : Setting) (a b c : Told) (run new : Run) (h : History) (turn place told : ℕ) → At s a b run h (at_place turn place Turning) → ReadOn told run b new c → At s a c new (turns_at turn place told ∷ h) (at_place turn place (Busy (orders_at s.plan turn place) 0))
turn_began s a b c run new h turn place told t k = turn_began_by (λ plan turn at doing x p g. g) s a b c run new h turn place told t k

-- The clock fell.

below : (x y : ℕ) → x < y → nat_lt x y ≡ true
below x y h = grind (arith, nat_tests)

read_fell : (s : Setting) (b c : Told) (run : Run) (h : History) (former latter : ℕ) → Stands s b run h → (k : ReadBack former latter run b c) → reads (after s h) k.told ≡ record (after s h) { end = Some (Back former latter) }
read_fell s b c run h former latter t k =
    let was : (after s h).last ≡ Some former = t.last ∙ k.was in
    let fall : is_fall (Some former) latter ≡ true = below latter former k.falls in
    ap (λ (r : ℕ). reads_as (after s h) r (is_fall (after s h).last r)) (sym k.now)
    ∙ ap (λ (o : Option ℕ). reads_as (after s h) latter (is_fall o latter)) was
    ∙ ap (reads_as (after s h) latter) fall
    ∙ ap (λ (o : Option ℕ). record (after s h) { end = Some (Back (present o) latter) }) was

falls_at : (b c : Told) (last : ℕ) (told : ℕ) → b.last ≡ Some last → told < last → c.falls ≡ (if is_fall b.last told then b.falls + 1 else b.falls) → b.falls < c.falls
falls_at b c last told e less f =
    let fall : is_fall b.last told ≡ true = ap (λ (o : Option ℕ). is_fall o told) e ∙ below told last less in
    let more : c.falls ≡ b.falls + 1 = f ∙ ap (λ (t : Bool). if t then b.falls + 1 else b.falls) fall in
    omega arith

fell : (b c : Told) (run : Run) (former latter : ℕ) → IsLast run.last b.last → ReadBack former latter run b c → b.falls < c.falls
fell b c run former latter last k =
    let l : IsLast (Some former) b.last = subst (λ (o : Option ℕ). IsLast o b.last) k.was last in
    let less : k.told < l.0 = omega (arith, l.2, k.now, k.falls) in
    falls_at b c l.0 k.told l.1 less k.clock.falls

-- what ended the run is all that came
back_at : {may_go : Rows} (s : Setting) (a b c : Told) (run : Run) (h : History) (x : Happening) (p q : TurnPosition) (former latter : ℕ) → AtBy may_go s a b run h p → (k : ReadBack former latter run b c) → IsInOrderBy may_go s.plan (x ∷ h) q → after s (x ∷ h) ≡ record (after s h) { end = Some (Back former latter) } → failures_of (x ∷ h) ≡ failures_of h → readings_of (x ∷ h) ≡ k.told ∷ readings_of h → ((actor : ℕ) → answers_at s.plan actor (x ∷ h) ≡ answers_at s.plan actor h) → EndedBy may_go s a c (Back former latter) × (a.falls < c.falls)
back_at s a b c run h x p q former latter t k order e failures readings answers =
    let r = read_on s.plan a b c h k.told (failures_of h) (works_of s.plan.config (after s h).steps) t.did t.handed t.stays k.clock in (
      record {
        history = x ∷ h;
        place = q;
        order = order;
        ended = ap (λ (q : Process). q.end) e;
        did = subst (λ (n : ℕ). Did (works_of s.plan.config (after s (x ∷ h)).steps) n a c) (sym failures) (subst (λ (ss : List Step). Did (works_of s.plan.config ss) (failures_of h) a c) (sym (ap (λ (q : Process). q.steps) e)) r.did);
        handed = record {
          read = λ all told. rw readings (r.read all told);
          heard = λ actor all told. rw (answers actor) (r.heard actor all told);
        };
        stays = r.stays;
      },
      omega (arith, t.stays.clock, fell b c run former latter t.stands.clock k),
    )

pub turn_stopped_by : {may_go : Rows} → Extends may_go → (s : Setting) (a b c : Told) (run new : Run) (h : History) (turn place : ℕ) (r : StopCause) → AtBy may_go s a b run h (at_place turn place Turning) → ReadsNow run b new c (Err r) → StoppedBy may_go s a c r
turn_stopped_by more s a b c run new h turn place (stop.ClockBack former latter) t k =
    let x = turns_at turn place k.told in
    back_at s a b c run h x (at_place turn place Turning) (at_place turn place (Busy (orders_at s.plan turn place) 0)) former latter t k
    (at_place turn place Turning, (t.order, record { turn = refl; place = refl; goes = more s.plan turn place Turning (Turns k.told) (at_place turn place (Busy (orders_at s.plan turn place) 0)) refl }))
    (after_next s h x t.stands.on ∙ read_fell s b c run h former latter t.stands k) refl refl (λ actor. refl)
turn_stopped_by more s a b c run new h turn place stop.OutOfMemory t k = absurd k
turn_stopped_by more s a b c run new h turn place stop.WriteFault t k = absurd k
turn_stopped_by more s a b c run new h turn place stop.KeepFault t k = absurd k
turn_stopped_by more s a b c run new h turn place stop.LinkFault t k = absurd k
turn_stopped_by more s a b c run new h turn place (stop.Left why) t k = absurd k
turn_stopped_by more s a b c run new h turn place (stop.BadKeep i) t k = absurd k
turn_stopped_by more s a b c run new h turn place stop.TableFull t k = absurd k

pub turn_stopped : (s : Setting) (a b c : Told) (run new : Run) (h : History) (turn place : ℕ) (r : StopCause) → At s a b run h (at_place turn place Turning) → ReadsNow run b new c (Err r) → Stopped s a c r
turn_stopped s a b c run new h turn place r t k = turn_stopped_by (λ plan turn at doing x p g. g) s a b c run new h turn place r t k

-- Starts.

abbrev pub begins_at : ℕ → Option ℕ → Happening
begins_at place reading = record { turn = 0; place = place; comes = Begins reading }

pub arbiter_comes_by : {may_go : Rows} → Extends may_go → (s : Setting) (a b : Told) (run : Run) (h : History) (place : ℕ) → is_node_at s.plan place ≡ false → length run.members ≡ place → AtBy may_go s a b run h (at_place 0 place Starting) → MeetsStartBy may_go s a b run h (begins_at place None) (onward s.plan 0 place) place
arbiter_comes_by more s a b run h place arbiter next t = record {
  came = record {
    order = (at_place 0 place Starting, (t.order, record { turn = refl; place = refl; goes = more s.plan 0 place Starting (Begins None) (onward s.plan 0 place) (arbiter, refl) }));
    on = t.stands.on;
    did = t.did;
    handed = record { read = t.handed.read; heard = t.handed.heard };
    stays = t.stays;
  };
  before = after s h;
  joins = after_next s h (begins_at place None) t.stands.on;
  on = t.stands.on;
  members = t.stands.members;
  last = t.stands.last;
  steps = refl;
  clock = t.stands.clock;
  next = next;
}

pub arbiter_comes : (s : Setting) (a b : Told) (run : Run) (h : History) (place : ℕ) → is_node_at s.plan place ≡ false → length run.members ≡ place → At s a b run h (at_place 0 place Starting) → MeetsStart s a b run h (begins_at place None) (onward s.plan 0 place) place
arbiter_comes s a b run h place arbiter next t = arbiter_comes_by (λ plan turn at doing x p g. g) s a b run h place arbiter next t

unended : (p q r : Process) → p ≡ q → q.end ≡ None → unless_ended p p.end r ≡ r
unended p q r e on = ap (λ (o : Option End). unless_ended p o r) (ap (λ (x : Process). x.end) e ∙ on)

pub node_comes_by : {may_go : Rows} → Extends may_go → (s : Setting) (a b c : Told) (run new : Run) (h : History) (place told : ℕ) → is_node_at s.plan place ≡ true → length run.members ≡ place → AtBy may_go s a b run h (at_place 0 place Starting) → ReadOn told run b new c → MeetsStartBy may_go s a c new h (begins_at place (Some told)) (onward s.plan 0 place) place
node_comes_by more s a b c run new h place told node next t k =
    let x = begins_at place (Some told) in
    let q : Process = record (after s h) { last = Some (clamped told) } in
    let e : reads (after s h) told ≡ q = read_clamped s b run h told t.stands k.on in
    let r = read_on s.plan a b c h told (failures_of h) (works_of s.plan.config (after s h).steps) t.did t.handed t.stays k.clock in
    record {
      came = record {
        order = (at_place 0 place Starting, (t.order, record { turn = refl; place = refl; goes = more s.plan 0 place Starting (Begins (Some told)) (onward s.plan 0 place) (node, refl) }));
        on = t.stands.on;
        did = r.did;
        handed = record { read = r.read; heard = r.heard };
        stays = r.stays;
      };
      before = q;
      joins = after_next s h x t.stands.on ∙ unended (reads (after s h) told) q (joins s 0 place (reads (after s h) told)) e t.stands.on ∙ ap (joins s 0 place) e;
      on = t.stands.on;
      members = t.stands.members ∙ sym (ap (λ (y : Run). map seen y.members) k.now);
      last = sym (ap (λ (y : Run). y.last) k.now);
      steps = refl;
      clock = subst (λ (o : Option ℕ). IsLast o c.last) (sym (ap (λ (y : Run). y.last) k.now)) (told, k.clock.last, refl);
      next = ap (λ (y : Run). length y.members) k.now ∙ next;
    }

pub node_comes : (s : Setting) (a b c : Told) (run new : Run) (h : History) (place told : ℕ) → is_node_at s.plan place ≡ true → length run.members ≡ place → At s a b run h (at_place 0 place Starting) → ReadOn told run b new c → MeetsStart s a c new h (begins_at place (Some told)) (onward s.plan 0 place) place
node_comes s a b c run new h place told node next t k = node_comes_by (λ plan turn at doing x p g. g) s a b c run new h place told node next t k

pub start_stopped_by : {may_go : Rows} → Extends may_go → (s : Setting) (a b c : Told) (run new : Run) (h : History) (place : ℕ) (r : StopCause) → is_node_at s.plan place ≡ true → AtBy may_go s a b run h (at_place 0 place Starting) → ReadsNow run b new c (Err r) → StoppedBy may_go s a c r
start_stopped_by more s a b c run new h place (stop.ClockBack former latter) node t k =
    let x = begins_at place (Some k.told) in
    let q : Process = record (after s h) { end = Some (Back former latter) } in
    let e : reads (after s h) k.told ≡ q = read_fell s b c run h former latter t.stands k in
    back_at s a b c run h x (at_place 0 place Starting) (onward s.plan 0 place) former latter t k
    (at_place 0 place Starting, (t.order, record { turn = refl; place = refl; goes = more s.plan 0 place Starting (Begins (Some k.told)) (onward s.plan 0 place) (node, refl) }))
    (after_next s h x t.stands.on
    ∙ ap (λ (p : Process). unless_ended p p.end (joins s 0 place p)) e) refl refl (λ actor. refl)
start_stopped_by more s a b c run new h place stop.OutOfMemory node t k = absurd k
start_stopped_by more s a b c run new h place stop.WriteFault node t k = absurd k
start_stopped_by more s a b c run new h place stop.KeepFault node t k = absurd k
start_stopped_by more s a b c run new h place stop.LinkFault node t k = absurd k
start_stopped_by more s a b c run new h place (stop.Left why) node t k = absurd k
start_stopped_by more s a b c run new h place (stop.BadKeep i) node t k = absurd k
start_stopped_by more s a b c run new h place stop.TableFull node t k = absurd k

pub start_stopped : (s : Setting) (a b c : Told) (run new : Run) (h : History) (place : ℕ) (r : StopCause) → is_node_at s.plan place ≡ true → At s a b run h (at_place 0 place Starting) → ReadsNow run b new c (Err r) → Stopped s a c r
start_stopped s a b c run new h place r node t k = start_stopped_by (λ plan turn at doing x p g. g) s a b c run new h place r node t k

-- One thing after another.

pub goes_on : (s : Setting) (b c d : Told) (run run' run'' : Run) (p p' p'' : TurnPosition) (r : Result (Unit {0}) StopCause) → Leads s b run p c run' p' → Goes s c run' p' d run'' p'' r → Goes s b run p d run'' p'' r
goes_on s b c d run run' run'' p p' p'' r leads goes a h t = let k = leads a h t in goes a k.0 k.1

-- The clock was read, and the run is as ready as before.

clamped_low : (told : ℕ) → clamped told ≤ most
clamped_low told = grind (arith, nat_tests)

pub ready_read : (plan : Plan) (run new : Run) (b c : Told) (told : ℕ) → IsReady plan run b → ReadOn told run b new c → IsReady plan new c
ready_read plan run new b c told ready k = record {
  good = ready.good;
  members = subst (λ (r : Run). AreMembers plan r.members) (sym k.now) ready.members;
  listen = subst (λ (es : List Endpoint). AllListen plan es) (sym (ap (λ (t : Told). t.opened) k.clock.rest)) ready.listen;
  last = subst (λ (r : Run). IfSome r.last (λ reading. reading ≤ most)) (sym k.now) (clamped_low told);
}
