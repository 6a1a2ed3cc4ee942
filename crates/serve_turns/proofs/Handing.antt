-- The links are asked and nothing comes, or the clock falls: what of the devices stays, and what has then come.
-- Parts of it are proved of any run of turns in fabric_turns, where they are not public.
use Rattle.std.proofs.Common.{arith, ◌≡◌, ◌≢◌, ◌<◌, ◌≤◌, ◌+◌, ◌^◌, ℕ, Bool, true, false, List, [], ◌∷◌, drop, Option, Some, None, Result, Ok, Err, refl, ap, sym, subst, ◌∙◌, inl, inr, ⊎_elim, length, nat_lt}
use Rattle.std.specs.Prelude.{◌⊎◌, ◌==◌, if◌then◌else◌, slice_get}
use Rattle.std.proofs.lemmas.Bool.Decides.{eqb_tells, nat_tests}
use Rattle.edge_io.specs.Arrivals.{Hands, next_arrival, Receives as Takes}
use Rattle.edge_io.specs.Edge.{Grew, HasRisen}
use Rattle.edge_io.specs.Readings.{Gives, is_fall, readings_after}
use Rattle.edge_io.specs.Told.{Receives, Told}
use Rattle.edge_io.specs.declared.endpoint.Endpoint.{Endpoint}
use Rattle.edge_io.specs.declared.refusal.Failed.{Failed as HasFailed}
use Rattle.fabric_turns.proofs.Acting.{after_next}
use Rattle.fabric_turns.proofs.Doing.{stays_on}
use Rattle.fabric_turns.proofs.Hearing.{hears_at}
use Rattle.fabric_turns.proofs.Places.{hears_on}
use Rattle.fabric_turns.specs.Moves.{at_place}
use Rattle.fabric_turns.specs.Runs.{AtBy, IsLast, Run, Stands}
use Rattle.fabric_turns.specs.Steps.{ReadBack}
use Rattle.serve_turns.specs.Moves.{OverBy}
use Rattle.turn_rules.specs.Effects.{Did, FailedSince, lines_of, lost, records_of}
use Rattle.turn_rules.specs.Handed.{Answered, Arrival, Gave, Handed, answer_in, answers_at, failures_of, is_at, is_endpoint_of, readings_of}
use Rattle.turn_rules.specs.Happenings.{Absent, Datagram, Failed, Happening, Hears, History, LinkAnswer}
use Rattle.turn_rules.specs.Order.{Busy, GoesServed, IsInOrderBy, TurnPosition, heard_all, hearing}
use Rattle.turn_rules.specs.Plans.{Plan, Setting}
use Rattle.turn_rules.specs.Process.{Back, Process, after, reads, reads_as}
use Rattle.turn_rules.specs.Steps.{Step, present}
use Rattle.turn_rules.specs.Works.{Work, works_of}

-- Nothing was done meanwhile; the links may have failed so often more.

failed_more : (n m x y z : ℕ) → FailedSince n x y → y ≤ z → (y + m ≤ z) ⊎ (2 ^ 64 ≤ z + 1) → FailedSince (m + n) x z
failed_more n m x y z f le more = record {
  later = omega (arith, f.later, le);
  count = ⊎_elim
      (λ (fc : x + n ≤ y). ⊎_elim (λ (gc : y + m ≤ z). inl (omega arith)) (λ full. inr full) more)
      (λ (full : 2 ^ 64 ≤ y + 1). inr (omega (arith, le)))
      f.count;
}

did_meanwhile : (ss : List Work) (n m : ℕ) (a b c : Told) → c.kept ≡ b.kept → c.held ≡ b.held → c.sent ≡ b.sent → b.link_faults ≤ c.link_faults → (b.link_faults + m ≤ c.link_faults) ⊎ (2 ^ 64 ≤ c.link_faults + 1) → Did ss n a b → Did ss (m + n) a c
did_meanwhile ss n m a b c kept held sent le more d = record {
  kept = λ actor. subst (λ (f : ℕ → Option (List (List ℕ))). Grew (a.kept actor) (f actor) (records_of actor ss)) (sym kept) (d.kept actor);
  sent = record {
    tries = d.sent.tries;
    whole = d.sent.whole;
    sent = rw sent d.sent.sent;
    failed = let e : m + (lost d.sent.tries + n) ≡ lost d.sent.tries + (m + n) = omega arith in subst (λ (k : ℕ). FailedSince k a.link_faults c.link_faults) e (failed_more (lost d.sent.tries + n) m a.link_faults b.link_faults c.link_faults d.sent.failed le more);
  };
  lines = subst (λ (o : Option (List ℕ)). Grew a.held o (lines_of ss)) (sym held) d.lines;
}

-- none more
none_more : (n : ℕ) → n ≡ 0 + n
none_more n = omega arith

-- What the links answer.

answers_here : (plan : Plan) (place : ℕ) (e : Endpoint) (actor : ℕ) → slice_get plan.actors place ≡ Some e → is_at plan place actor ≡ (e.actor == actor)
answers_here plan place e actor here = ap (is_endpoint_of actor) here

more_answered : (plan : Plan) (h : History) (turn : ℕ) (e : Endpoint) (answer : LinkAnswer) (a b c : Told) → slice_get plan.actors 0 ≡ Some e
    → ((all : List Arrival) → Answered all (answers_at plan e.actor h) (b.arrivals e.actor) → Answered all (answer ∷ answers_at plan e.actor h) (c.arrivals e.actor))
    → ((other : ℕ) → other ≢ e.actor → c.arrivals other ≡ b.arrivals other)
    → Handed plan h a b → (actor : ℕ) (all : List Arrival) → a.arrivals actor ≡ Some all → Answered all (answers_at plan actor (hears_at turn 0 answer ∷ h)) (c.arrivals actor)
more_answered plan h turn e answer a b c here own others k actor all told =
    ⊎_elim
    (λ (same : ((e.actor == actor) ≡ true) × (e.actor ≡ actor)).
    let is : is_at plan 0 actor ≡ true = answers_here plan 0 e actor here ∙ same.0 in
    let old : Answered all (answers_at plan e.actor h) (b.arrivals e.actor) = subst (λ (n : ℕ). Answered all (answers_at plan n h) (b.arrivals n)) (sym same.1) (k.heard actor all told) in
    let new : Answered all (answer ∷ answers_at plan actor h) (c.arrivals actor) = subst (λ (n : ℕ). Answered all (answer ∷ answers_at plan n h) (c.arrivals n)) same.1 (own all old) in
    subst (λ (t : Bool). Answered all (answer_in (Hears answer) t (answers_at plan actor h)) (c.arrivals actor)) (sym is) new)
    (λ (differ : ((e.actor == actor) ≡ false) × (e.actor ≢ actor)).
    let is : is_at plan 0 actor ≡ false = answers_here plan 0 e actor here ∙ differ.0 in
    let new : Answered all (answers_at plan actor h) (c.arrivals actor) = subst (λ (o : Option (List Arrival)). Answered all (answers_at plan actor h) o) (sym (others actor (λ s. differ.1 (sym s)))) (k.heard actor all told) in
    subst (λ (t : Bool). Answered all (answer_in (Hears answer) t (answers_at plan actor h)) (c.arrivals actor)) (sym is) new)
    (eqb_tells e.actor actor)

answered_some : (all : List Arrival) (answers : List LinkAnswer) (left : Option (List Arrival)) → Answered all answers left → (before : List Arrival) × (left ≡ Some before)
answered_some all [] left g = (all, g)
answered_some all (Failed ∷ rest) left g = answered_some all rest left g
answered_some all (Absent ∷ rest) left g = (drop 1 g.0, g.1.2)
answered_some all (Datagram bytes ∷ rest) left g = (drop 1 g.0, g.1.2)

none_handed : (next : Option (List ℕ)) (into : List ℕ) → Hands next None into → next ≡ None
none_handed None into k = refl
none_handed (Some bytes) into k = let wrong : None ≡ Some (length bytes) = k.0 in cc

absent_answered : (all : List Arrival) (answers : List LinkAnswer) (into : List ℕ) (old new : Option (List Arrival)) → Takes old None into new → Answered all answers old → Answered all (Absent ∷ answers) new
absent_answered all answers into old new t g =
    let before = answered_some all answers old g in
    let k = t before.0 before.1 in
    (before.0, (subst (λ (o : Option (List Arrival)). Answered all answers o) before.1 g, none_handed (next_arrival before.0) into k.0, k.1))

-- where nothing comes, nothing is done
stands_on : (s : Setting) (b c : Told) (run : Run) (h : History) (x : Happening) → after s (x ∷ h) ≡ after s h → Stands s b run h → IsLast run.last c.last → Stands s c run (x ∷ h)
stands_on s b c run h x e t clock = record {
  on = ap (λ (q : Process). q.end) e ∙ t.on;
  members = ap (λ (q : Process). q.members) e ∙ t.members;
  last = ap (λ (q : Process). q.last) e ∙ t.last;
  clock = clock;
}

module _ (s : Setting) (a b c : Told) (run : Run) (h : History) (turn n : ℕ) (e : Endpoint) (into : List ℕ) (small : n < 64) (here : slice_get s.plan.actors 0 ≡ Some e)
    (t : AtBy GoesServed s a b run h (hearing s.plan turn 0 n)) where
  silence : (m : ℕ) (answer : LinkAnswer) (r : Result (Option ℕ) HasFailed) → Receives e.actor into b r c → (b.link_faults + m ≤ c.link_faults) ⊎ (2 ^ 64 ≤ c.link_faults + 1)
      → failures_of (hears_at turn 0 answer ∷ h) ≡ m + failures_of h → GoesServed s.plan turn 0 (Busy [] n) (Hears answer) (heard_all s.plan turn 0) → after s (hears_at turn 0 answer ∷ h) ≡ after s h
      → ((all : List Arrival) → Answered all (answers_at s.plan e.actor h) (b.arrivals e.actor) → Answered all (answer ∷ answers_at s.plan e.actor h) (c.arrivals e.actor))
      → AtBy GoesServed s a c run (hears_at turn 0 answer ∷ h) (heard_all s.plan turn 0)
  silence m answer r k more failures goes same own =
      let x = hears_at turn 0 answer in
      let steps : (after s (x ∷ h)).steps ≡ (after s h).steps = ap (λ (q : Process). q.steps) same in
      let did : Did (works_of s.plan.config (after s h).steps) (m + failures_of h) a c = did_meanwhile (works_of s.plan.config (after s h).steps) (failures_of h) m a b c (ap (λ (y : Told). y.kept) k.rest) (ap (λ (y : Told). y.held) k.rest) k.sent k.cause.later more t.did in
      record {
        order = (at_place turn 0 (Busy [] n), (subst (λ (p : TurnPosition). IsInOrderBy GoesServed s.plan h p) (hears_on s.plan turn 0 n small) t.order, record { turn = refl; place = refl; goes = goes }));
        stands = stands_on s b c run h x same t.stands (subst (λ (o : Option ℕ). IsLast run.last o) (sym (ap (λ (y : Told). y.last) k.rest)) t.stands.clock);
        did = subst (λ (ss : List Step). Did (works_of s.plan.config ss) (failures_of (x ∷ h)) a c) (sym steps) (subst (λ (i : ℕ). Did (works_of s.plan.config (after s h).steps) i a c) (sym failures) did);
        handed = record {
          read = λ all told. subst (λ (o : Option (List ℕ)). Gave all (readings_of h) o) (sym (ap (λ (y : Told). y.readings) k.rest)) (t.handed.read all told);
          heard = more_answered s.plan h turn e answer a b c here own k.others t.handed;
        };
        stays = stays_on a b c t.stays (record {
          loans = ap (λ (y : Told). y.loans) k.rest;
          opened = k.opened;
          keeper = omega (arith, ap (λ (y : Told). y.keep_faults) k.rest);
          sink = omega (arith, ap (λ (y : Told). y.sink_faults) k.rest);
          clock = omega (arith, ap (λ (y : Told). y.falls) k.rest);
        });
      }

  -- nothing has arrived
  pub absent_comes : (answer : Option ℕ) → answer ≡ None → Receives e.actor into b (Ok answer) c → AtBy GoesServed s a c run (hears_at turn 0 Absent ∷ h) (heard_all s.plan turn 0)
  absent_comes answer none k =
      let took : Takes (b.arrivals e.actor) None into (c.arrivals e.actor) = subst (λ (o : Option ℕ). Takes (b.arrivals e.actor) o into (c.arrivals e.actor)) none k.ok in
      silence 0 Absent (Ok answer) k (inl (omega (arith, k.cause.later))) (none_more (failures_of h)) refl (after_next s h (hears_at turn 0 Absent) t.stands.on) (λ all g. absent_answered all (answers_at s.plan e.actor h) into (b.arrivals e.actor) (c.arrivals e.actor) took g)

  -- the links failed
  pub failure_comes : (failed : HasFailed) → Receives e.actor into b (Err failed) c → AtBy GoesServed s a c run (hears_at turn 0 Failed ∷ h) (heard_all s.plan turn 0)
  failure_comes failed k =
      let risen : HasRisen b.link_faults c.link_faults = k.cause.failed refl in
      let more : (b.link_faults + 1 ≤ c.link_faults) ⊎ (2 ^ 64 ≤ c.link_faults + 1) = ⊎_elim (λ (l : b.link_faults < c.link_faults). inl (omega arith)) (λ full. inr full) risen in
      silence 1 Failed (Err failed) k more refl refl (after_next s h (hears_at turn 0 Failed) t.stands.on) (λ all g. subst (λ (o : Option (List Arrival)). Answered all (answers_at s.plan e.actor h) o) (sym k.err) g)

-- The clock falls.

gave_some : (all taken : List ℕ) (left : Option (List ℕ)) → Gave all taken left → (before : List ℕ) × (left ≡ Some before)
gave_some all [] left g = (all, g)
gave_some all (r ∷ rs) left g = (readings_after g.0, g.1.2)

gave_more : (all taken : List ℕ) (told : ℕ) (old new : Option (List ℕ)) → Gave all taken old → Gives old told new → Gave all (told ∷ taken) new
gave_more all taken told old new g k =
    let before = gave_some all taken old g in
    let now = k before.0 before.1 in
    (before.0, (subst (λ (o : Option (List ℕ)). Gave all taken o) before.1 g, now.0, now.1))

below : (x y : ℕ) → x < y → nat_lt x y ≡ true
below x y h = grind (arith, nat_tests)

falls_at : (b c : Told) (last : ℕ) (told : ℕ) → b.last ≡ Some last → told < last → c.falls ≡ (if is_fall b.last told then b.falls + 1 else b.falls) → b.falls < c.falls
falls_at b c last told e less f =
    let fall : is_fall b.last told ≡ true = ap (λ (o : Option ℕ). is_fall o told) e ∙ below told last less in
    let more : c.falls ≡ b.falls + 1 = f ∙ ap (λ (t : Bool). if t then b.falls + 1 else b.falls) fall in
    omega arith

fell : (b c : Told) (run : Run) (former latter : ℕ) → IsLast run.last b.last → ReadBack former latter run b c → b.falls < c.falls
fell b c run former latter last k =
    let l : IsLast (Some former) b.last = subst (λ (o : Option ℕ). IsLast o b.last) k.was last in
    let less : k.told < l.0 = omega (arith, l.2, k.now, k.falls) in
    falls_at b c l.0 k.told l.1 less k.clock.falls

pub read_fell : (s : Setting) (b c : Told) (run : Run) (h : History) (former latter : ℕ) → Stands s b run h → (k : ReadBack former latter run b c) → reads (after s h) k.told ≡ record (after s h) { end = Some (Back former latter) }
read_fell s b c run h former latter t k =
    let was : (after s h).last ≡ Some former = t.last ∙ k.was in
    let fall : is_fall (Some former) latter ≡ true = below latter former k.falls in
    ap (λ (r : ℕ). reads_as (after s h) r (is_fall (after s h).last r)) (sym k.now)
    ∙ ap (λ (o : Option ℕ). reads_as (after s h) latter (is_fall o latter)) was
    ∙ ap (reads_as (after s h) latter) fall
    ∙ ap (λ (o : Option ℕ). record (after s h) { end = Some (Back (present o) latter) }) was

-- x is this reading, and with it the process has ended
pub back_at : (s : Setting) (a b c : Told) (run : Run) (h : History) (x : Happening) (p q : TurnPosition) (former latter : ℕ) → AtBy GoesServed s a b run h p → (k : ReadBack former latter run b c)
    → IsInOrderBy GoesServed s.plan (x ∷ h) q → after s (x ∷ h) ≡ record (after s h) { end = Some (Back former latter) } → failures_of (x ∷ h) ≡ failures_of h → readings_of (x ∷ h) ≡ k.told ∷ readings_of h
    → ((actor : ℕ) → answers_at s.plan actor (x ∷ h) ≡ answers_at s.plan actor h) → OverBy s a c (x ∷ h) (Back former latter) × (a.falls < c.falls)
back_at s a b c run h x p q former latter t k order e failures readings answers =
    let less : b.falls < c.falls = fell b c run former latter t.stands.clock k in
    let rest = k.clock.rest in
    let did : Did (works_of s.plan.config (after s h).steps) (0 + failures_of h) a c = did_meanwhile (works_of s.plan.config (after s h).steps) (failures_of h) 0 a b c (ap (λ (y : Told). y.kept) rest) (ap (λ (y : Told). y.held) rest) (ap (λ (y : Told). y.sent) rest) (omega (arith, ap (λ (y : Told). y.link_faults) rest)) (inl (omega (arith, ap (λ (y : Told). y.link_faults) rest))) t.did in (
      record {
        place = q;
        order = order;
        ended = ap (λ (y : Process). y.end) e;
        did = subst (λ (n : ℕ). Did (works_of s.plan.config (after s (x ∷ h)).steps) n a c) (sym failures) (subst (λ (ss : List Step). Did (works_of s.plan.config ss) (failures_of h) a c) (sym (ap (λ (y : Process). y.steps) e)) (subst (λ (n : ℕ). Did (works_of s.plan.config (after s h).steps) n a c) (sym (none_more (failures_of h))) did));
        handed = record {
          read = λ all told. rw readings (gave_more all (readings_of h) k.told b.readings c.readings (t.handed.read all told) k.clock.told);
          heard = λ actor all told. rw (answers actor) (subst (λ (f : ℕ → Option (List Arrival)). Answered all (answers_at s.plan actor h) (f actor)) (sym (ap (λ (y : Told). y.arrivals) rest)) (t.handed.heard actor all told));
        };
        stays = stays_on a b c t.stays (record {
          loans = ap (λ (y : Told). y.loans) rest;
          opened = ap (λ (y : Told). y.opened) rest;
          keeper = omega (arith, ap (λ (y : Told). y.keep_faults) rest);
          sink = omega (arith, ap (λ (y : Told). y.sink_faults) rest);
          clock = omega (arith, less);
        });
      },
      omega (arith, t.stays.clock, less),
    )
