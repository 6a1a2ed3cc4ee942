-- What arrives at an actor.
use Rattle.std.proofs.Common.{arith, ◌≡◌, ◌≢◌, ◌<◌, ◌≤◌, ◌+◌, ◌^◌, ℕ, Bool, true, false, List, [], ◌∷◌, length, take, drop, Option, Some, None, Result, Ok, Err, refl, ap, sym, subst, ◌∙◌, inl, inr, ⊎_elim}
use Rattle.std.specs.Prelude.{◌⊎◌, ◌==◌, IsTrue, slice_get}
use Rattle.std.proofs.lemmas.Bool.Decides.{eqb_tells}
use Rattle.edge_io.specs.Arrivals.{Hands, next_arrival, Receives as Takes}
use Rattle.edge_io.specs.Edge.{Grew, HasRisen}
use Rattle.edge_io.specs.declared.endpoint.Endpoint.{Endpoint}
use Rattle.edge_io.specs.declared.refusal.Failed.{Failed as HasFailed}
use Rattle.fabric_terms.specs.Messages.{is_sound}
use Rattle.fabric_terms.specs.declared.message.Message.{Message}
use Rattle.fabric_turns.proofs.Acting.{after_next}
use Rattle.fabric_turns.proofs.Doing.{stays_on}
use Rattle.fabric_turns.proofs.Places.{hears_on}
use Rattle.fabric_turns.specs.Moves.{Reaches, at_place}
use Rattle.fabric_turns.specs.Runs.{Run, At, AtBy, Meets, MeetsBy, Stands, IsLast}
use Rattle.edge_io.specs.Told.{Told, Receives}
use Rattle.frame_format.proofs.FrameLaws.{message_again, message_found}
use Rattle.frame_format.specs.Frames.{spelling}
use Rattle.frame_format.specs.Kinds.{message_of}
use Rattle.wire_fields.proofs.Numbers.{AreBytes}
use Rattle.turn_rules.specs.Effects.{Did, Stays, FailedSince, lost, records_of, lines_of}
use Rattle.turn_rules.specs.Ends.{Stopped}
use Rattle.turn_rules.specs.Handed.{Handed, Gave, Answered, Arrival, readings_of, answers_at, answer_in, is_at, is_endpoint_of, failures_of}
use Rattle.turn_rules.specs.Happenings.{LinkAnswer, Datagram, Absent, Failed, Hears, Happening, History}
use Rattle.turn_rules.specs.Order.{TurnPosition, Busy, Extends, IsInOrderBy, Rows, heard_all, hearing}
use Rattle.turn_rules.specs.Plans.{Plan, Setting}
use Rattle.turn_rules.specs.Process.{Process, after, hears_frame}
use Rattle.turn_rules.specs.Steps.{Step}
use Rattle.turn_rules.specs.Works.{Work, works_of}
use Rattle.turn_rules.specs.declared.stop_cause.StopCause.{StopCause}

abbrev pub hears_at : ℕ → ℕ → LinkAnswer → Happening
hears_at turn place answer = record { turn = turn; place = place; comes = Hears answer }

-- the actor asked, and others did not
answers_here : (plan : Plan) (place : ℕ) (e : Endpoint) (actor : ℕ) → slice_get plan.actors place ≡ Some e → is_at plan place actor ≡ (e.actor == actor)
answers_here plan place e actor here = ap (is_endpoint_of actor) here

more_answered : (plan : Plan) (h : History) (turn place : ℕ) (e : Endpoint) (answer : LinkAnswer) (a b c : Told) →
    slice_get plan.actors place ≡ Some e →
    ((all : List Arrival) → Answered all (answers_at plan e.actor h) (b.arrivals e.actor) → Answered all (answer ∷ answers_at plan e.actor h) (c.arrivals e.actor)) →
    ((other : ℕ) → other ≢ e.actor → c.arrivals other ≡ b.arrivals other) →
    Handed plan h a b → (actor : ℕ) (all : List Arrival) → a.arrivals actor ≡ Some all → Answered all (answers_at plan actor (hears_at turn place answer ∷ h)) (c.arrivals actor)
more_answered plan h turn place e answer a b c here own others k actor all told =
    ⊎_elim
    (λ (same : ((e.actor == actor) ≡ true) × (e.actor ≡ actor)).
    let is : is_at plan place actor ≡ true = answers_here plan place e actor here ∙ same.0 in
    let old : Answered all (answers_at plan e.actor h) (b.arrivals e.actor) = subst (λ (n : ℕ). Answered all (answers_at plan n h) (b.arrivals n)) (sym same.1) (k.heard actor all told) in
    let new : Answered all (answer ∷ answers_at plan actor h) (c.arrivals actor) = subst (λ (n : ℕ). Answered all (answer ∷ answers_at plan n h) (c.arrivals n)) same.1 (own all old) in
    subst (λ (t : Bool). Answered all (answer_in (Hears answer) t (answers_at plan actor h)) (c.arrivals actor)) (sym is) new)
    (λ (differ : ((e.actor == actor) ≡ false) × (e.actor ≢ actor)).
    let is : is_at plan place actor ≡ false = answers_here plan place e actor here ∙ differ.0 in
    let new : Answered all (answers_at plan actor h) (c.arrivals actor) = subst (λ (o : Option (List Arrival)). Answered all (answers_at plan actor h) o) (sym (others actor (λ s. differ.1 (sym s)))) (k.heard actor all told) in
    subst (λ (t : Bool). Answered all (answer_in (Hears answer) t (answers_at plan actor h)) (c.arrivals actor)) (sym is) new)
    (eqb_tells e.actor actor)

-- what is left of arrivals is told
answered_some : (all : List Arrival) (answers : List LinkAnswer) (left : Option (List Arrival)) → Answered all answers left → (before : List Arrival) × (left ≡ Some before)
answered_some all [] left g = (all, g)
answered_some all (Failed ∷ rest) left g = answered_some all rest left g
answered_some all (Absent ∷ rest) left g = (drop 1 g.0, g.1.2)
answered_some all (Datagram bytes ∷ rest) left g = (drop 1 g.0, g.1.2)

some_handed : (n : ℕ) (next : Option (List ℕ)) (into : List ℕ) → Hands next (Some n) into → next ≡ Some (take n into)
some_handed n None into k = let wrong : Some n ≡ None = k in cc
some_handed n (Some bytes) into k =
    let e : n ≡ length bytes = let f : Some n ≡ Some (length bytes) = k.0 in cc in
    ap (λ (x : List ℕ). Some x) (sym k.1) ∙ ap (λ (m : ℕ). Some (take m into)) (sym e)

none_handed : (next : Option (List ℕ)) (into : List ℕ) → Hands next None into → next ≡ None
none_handed None into k = refl
none_handed (Some bytes) into k = let wrong : None ≡ Some (length bytes) = k.0 in cc

datagram_answered : (all : List Arrival) (answers : List LinkAnswer) (n : ℕ) (into : List ℕ) (old new : Option (List Arrival)) → Takes old (Some n) into new → Answered all answers old → Answered all (Datagram (take n into) ∷ answers) new
datagram_answered all answers n into old new t g =
    let before = answered_some all answers old g in
    let k = t before.0 before.1 in
    (before.0, (subst (λ (o : Option (List Arrival)). Answered all answers o) before.1 g, some_handed n (next_arrival before.0) into k.0, k.1))

absent_answered : (all : List Arrival) (answers : List LinkAnswer) (into : List ℕ) (old new : Option (List Arrival)) → Takes old None into new → Answered all answers old → Answered all (Absent ∷ answers) new
absent_answered all answers into old new t g =
    let before = answered_some all answers old g in
    let k = t before.0 before.1 in
    (before.0, (subst (λ (o : Option (List Arrival)). Answered all answers o) before.1 g, none_handed (next_arrival before.0) into k.0, k.1))

-- nothing was done meanwhile; the links may have failed so often more
failed_more : (n m x y z : ℕ) → FailedSince n x y → y ≤ z → (y + m ≤ z) ⊎ (2 ^ 64 ≤ z + 1) → FailedSince (m + n) x z
failed_more n m x y z f le more = record {
  later = omega (arith, f.later, le);
  count = ⊎_elim
      (λ (fc : x + n ≤ y). ⊎_elim (λ (gc : y + m ≤ z). inl (omega arith)) (λ full. inr full) more)
      (λ (full : 2 ^ 64 ≤ y + 1). inr (omega (arith, le)))
      f.count;
}

did_meanwhile : (ss : List Work) (n m : ℕ) (a b c : Told) → c.kept ≡ b.kept → c.held ≡ b.held → c.sent ≡ b.sent → b.link_faults ≤ c.link_faults → (b.link_faults + m ≤ c.link_faults) ⊎ (2 ^ 64 ≤ c.link_faults + 1) → Did ss n a b → Did ss (m + n) a c
did_meanwhile ss n m a b c kept held sent le more d = record {
  kept = λ actor. subst (λ (f : ℕ → Option (List (List ℕ))). Grew (a.kept actor) (f actor) (records_of actor ss)) (sym kept) (d.kept actor);
  sent = record {
    tries = d.sent.tries;
    whole = d.sent.whole;
    sent = rw sent d.sent.sent;
    failed = let e : m + (lost d.sent.tries + n) ≡ lost d.sent.tries + (m + n) = omega arith in subst (λ (k : ℕ). FailedSince k a.link_faults c.link_faults) e (failed_more (lost d.sent.tries + n) m a.link_faults b.link_faults c.link_faults d.sent.failed le more);
  };
  lines = subst (λ (o : Option (List ℕ)). Grew a.held o (lines_of ss)) (sym held) d.lines;
}

-- what a question to the links leaves as it was
record Asked (a b c : Told) (run : Run) (s : Setting) (h : History) (m : ℕ) : Type 0 where
  pub did : Did (works_of s.plan.config (after s h).steps) (m + failures_of h) a c
  pub read : (all : List ℕ) → a.readings ≡ Some all → Gave all (readings_of h) c.readings
  pub stays : Stays a c
  pub clock : IsLast run.last c.last

asked : {may_go : Rows} (s : Setting) (a b c : Told) (run : Run) (h : History) (p : TurnPosition) (actor m : ℕ) (into : List ℕ) (r : Result (Option ℕ) HasFailed) → AtBy may_go s a b run h p → Receives actor into b r c → (b.link_faults + m ≤ c.link_faults) ⊎ (2 ^ 64 ≤ c.link_faults + 1) → Asked a b c run s h m
asked s a b c run h p actor m into r t k more =
    let readings : c.readings ≡ b.readings = ap (λ (x : Told). x.readings) k.rest in
    record {
      did = did_meanwhile (works_of s.plan.config (after s h).steps) (failures_of h) m a b c (ap (λ (x : Told). x.kept) k.rest) (ap (λ (x : Told). x.held) k.rest) k.sent k.cause.later more t.did;
      read = λ all told. rw readings (t.handed.read all told);
      stays = stays_on a b c t.stays (record {
        loans = ap (λ (x : Told). x.loans) k.rest;
        opened = k.opened;
        keeper = omega (arith, ap (λ (x : Told). x.keep_faults) k.rest);
        sink = omega (arith, ap (λ (x : Told). x.sink_faults) k.rest);
        clock = omega (arith, ap (λ (x : Told). x.falls) k.rest);
      });
      clock = subst (λ (o : Option ℕ). IsLast run.last o) (sym (ap (λ (x : Told). x.last) k.rest)) t.stands.clock;
    }

zero_more : (s : Setting) (a c : Told) (h : History) → Did (works_of s.plan.config (after s h).steps) (0 + failures_of h) a c → Did (works_of s.plan.config (after s h).steps) (failures_of h) a c
zero_more s a c h d = let e : 0 + failures_of h ≡ failures_of h = omega arith in subst (λ (k : ℕ). Did (works_of s.plan.config (after s h).steps) k a c) e d

pub datagram_comes_by : {may_go : Rows} → Extends may_go → (s : Setting) (a b c : Told) (run : Run) (h : History) (turn place n count : ℕ) (e : Endpoint) (into : List ℕ) → n < 64 → slice_get s.plan.actors place ≡ Some e → AtBy may_go s a b run h (hearing s.plan turn place n) → Receives e.actor into b (Ok (Some count)) c → MeetsBy may_go s a c run h (hears_at turn place (Datagram (take count into))) (hearing s.plan turn place (n + 1))
datagram_comes_by {may_go = may_go} more s a b c run h turn place n count e into small here t k =
    let q = asked s a b c run h (hearing s.plan turn place n) e.actor 0 into (Ok (Some count)) t k (inl (omega (arith, k.cause.later))) in
    record {
      came = record {
        order = (at_place turn place (Busy [] n), (subst (λ (p : TurnPosition). IsInOrderBy may_go s.plan h p) (hears_on s.plan turn place n small) t.order, record { turn = refl; place = refl; goes = more s.plan turn place (Busy [] n) (Hears (Datagram (take count into))) (hearing s.plan turn place (n + 1)) refl }));
        on = t.stands.on;
        did = zero_more s a c h q.did;
        handed = record { read = q.read; heard = more_answered s.plan h turn place e (Datagram (take count into)) a b c here (λ all g. datagram_answered all (answers_at s.plan e.actor h) count into (b.arrivals e.actor) (c.arrivals e.actor) k.ok g) k.others t.handed };
        stays = q.stays;
      };
      stands = record { on = t.stands.on; members = t.stands.members; last = t.stands.last; clock = q.clock };
    }

pub datagram_comes : (s : Setting) (a b c : Told) (run : Run) (h : History) (turn place n count : ℕ) (e : Endpoint) (into : List ℕ) → n < 64 → slice_get s.plan.actors place ≡ Some e → At s a b run h (hearing s.plan turn place n) → Receives e.actor into b (Ok (Some count)) c → Meets s a c run h (hears_at turn place (Datagram (take count into))) (hearing s.plan turn place (n + 1))
datagram_comes s a b c run h turn place n count e into small here t k = datagram_comes_by (λ plan turn at doing x p g. g) s a b c run h turn place n count e into small here t k

-- where nothing comes, nothing is done
stands_on : (s : Setting) (b c : Told) (run : Run) (h : History) (x : Happening) → after s (x ∷ h) ≡ after s h → Stands s b run h → IsLast run.last c.last → Stands s c run (x ∷ h)
stands_on s b c run h x e t clock = record {
  on = ap (λ (q : Process). q.end) e ∙ t.on;
  members = ap (λ (q : Process). q.members) e ∙ t.members;
  last = ap (λ (q : Process). q.last) e ∙ t.last;
  clock = clock;
}

pub nothing_comes_by : {may_go : Rows} → Extends may_go → (s : Setting) (a b c : Told) (run : Run) (h : History) (turn place n : ℕ) (e : Endpoint) (into : List ℕ) (answer : Option ℕ) → answer ≡ None → n < 64 → slice_get s.plan.actors place ≡ Some e → AtBy may_go s a b run h (hearing s.plan turn place n) → Receives e.actor into b (Ok answer) c → (now : History) × AtBy may_go s a c run now (heard_all s.plan turn place)
nothing_comes_by {may_go = may_go} more s a b c run h turn place n e into answer none small here t k =
    let x = hears_at turn place Absent in
    let same : after s (x ∷ h) ≡ after s h = after_next s h x t.stands.on in
    let q = asked s a b c run h (hearing s.plan turn place n) e.actor 0 into (Ok answer) t k (inl (omega (arith, k.cause.later))) in
    let took : Takes (b.arrivals e.actor) None into (c.arrivals e.actor) = subst (λ (o : Option ℕ). Takes (b.arrivals e.actor) o into (c.arrivals e.actor)) none k.ok in (
      x ∷ h,
      record {
        order = (at_place turn place (Busy [] n), (subst (λ (p : TurnPosition). IsInOrderBy may_go s.plan h p) (hears_on s.plan turn place n small) t.order, record { turn = refl; place = refl; goes = more s.plan turn place (Busy [] n) (Hears Absent) (heard_all s.plan turn place) refl }));
        stands = stands_on s b c run h x same t.stands q.clock;
        did = subst (λ (ss : List Step). Did (works_of s.plan.config ss) (failures_of h) a c) (sym (ap (λ (y : Process). y.steps) same)) (zero_more s a c h q.did);
        handed = record { read = q.read; heard = more_answered s.plan h turn place e Absent a b c here (λ all g. absent_answered all (answers_at s.plan e.actor h) into (b.arrivals e.actor) (c.arrivals e.actor) took g) k.others t.handed };
        stays = q.stays;
      },
    )

pub nothing_comes : (s : Setting) (a b c : Told) (run : Run) (h : History) (turn place n : ℕ) (e : Endpoint) (into : List ℕ) (answer : Option ℕ) → answer ≡ None → n < 64 → slice_get s.plan.actors place ≡ Some e → At s a b run h (hearing s.plan turn place n) → Receives e.actor into b (Ok answer) c → (now : History) × At s a c run now (heard_all s.plan turn place)
nothing_comes s a b c run h turn place n e into answer none small here t k = nothing_comes_by (λ plan turn at doing x p g. g) s a b c run h turn place n e into answer none small here t k

pub failure_comes_by : {may_go : Rows} → Extends may_go → (s : Setting) (a b c : Told) (run : Run) (h : History) (turn place n : ℕ) (e : Endpoint) (into : List ℕ) (failed : HasFailed) → n < 64 → slice_get s.plan.actors place ≡ Some e → AtBy may_go s a b run h (hearing s.plan turn place n) → Receives e.actor into b (Err failed) c → (now : History) × AtBy may_go s a c run now (heard_all s.plan turn place)
failure_comes_by {may_go = may_go} extends s a b c run h turn place n e into failed small here t k =
    let x = hears_at turn place Failed in
    let same : after s (x ∷ h) ≡ after s h = after_next s h x t.stands.on in
    let risen : HasRisen b.link_faults c.link_faults = k.cause.failed refl in
    let more : (b.link_faults + 1 ≤ c.link_faults) ⊎ (2 ^ 64 ≤ c.link_faults + 1) = ⊎_elim (λ (l : b.link_faults < c.link_faults). inl (omega arith)) (λ full. inr full) risen in
    let q = asked s a b c run h (hearing s.plan turn place n) e.actor 1 into (Err failed) t k more in (
      x ∷ h,
      record {
        order = (at_place turn place (Busy [] n), (subst (λ (p : TurnPosition). IsInOrderBy may_go s.plan h p) (hears_on s.plan turn place n small) t.order, record { turn = refl; place = refl; goes = extends s.plan turn place (Busy [] n) (Hears Failed) (heard_all s.plan turn place) refl }));
        stands = stands_on s b c run h x same t.stands q.clock;
        did = subst (λ (ss : List Step). Did (works_of s.plan.config ss) (1 + failures_of h) a c) (sym (ap (λ (y : Process). y.steps) same)) q.did;
        handed = record { read = q.read; heard = more_answered s.plan h turn place e Failed a b c here (λ all g. subst (λ (o : Option (List Arrival)). Answered all (answers_at s.plan e.actor h) o) (sym k.err) g) k.others t.handed };
        stays = q.stays;
      },
    )

pub failure_comes : (s : Setting) (a b c : Told) (run : Run) (h : History) (turn place n : ℕ) (e : Endpoint) (into : List ℕ) (failed : HasFailed) → n < 64 → slice_get s.plan.actors place ≡ Some e → At s a b run h (hearing s.plan turn place n) → Receives e.actor into b (Err failed) c → (now : History) × At s a c run now (heard_all s.plan turn place)
failure_comes s a b c run h turn place n e into failed small here t k = failure_comes_by (λ plan turn at doing x p g. g) s a b c run h turn place n e into failed small here t k

-- by the actor's number
pub received_as : (actor actor' : ℕ) (into : List ℕ) (b : Told) (r : Result (Option ℕ) HasFailed) (c : Told) → actor ≡ actor' → Receives actor into b r c → Receives actor' into b r c
received_as actor actor' into b r c e k = subst (λ (n : ℕ). Receives n into b r c) e k

pub some_received : (actor : ℕ) (into : List ℕ) (b : Told) (answer : Option ℕ) (count : ℕ) (c : Told) → answer ≡ Some count → Receives actor into b (Ok answer) c → Receives actor into b (Ok (Some count)) c
some_received actor into b answer count c e k = subst (λ (o : Option ℕ). Receives actor into b (Ok o) c) e k

pub reached : (s : Setting) (a c : Told) (run : Run) (h : History) (p : TurnPosition) (r : StopCause) → Reaches s a c run h p (Err r) → Stopped s a c r
reached s a c run h p r k = k

-- a datagram that is no frame changes nothing
pub no_frame : {may_go : Rows} (s : Setting) (a c : Told) (run : Run) (h : History) (turn place : ℕ) (bytes : List ℕ) (p : TurnPosition) → message_of bytes ≡ None → MeetsBy may_go s a c run h (hears_at turn place (Datagram bytes)) p → AtBy may_go s a c run (hears_at turn place (Datagram bytes) ∷ h) p
no_frame s a c run h turn place bytes p none m =
    let x = hears_at turn place (Datagram bytes) in
    let same : after s (x ∷ h) ≡ after s h = after_next s h x m.stands.on ∙ ap (hears_frame s turn (after s h) place) none in
    record {
      order = m.came.order;
      stands = stands_on s c c run h x same m.stands m.stands.clock;
      did = subst (λ (ss : List Step). Did (works_of s.plan.config ss) (failures_of (x ∷ h)) a c) (sym (ap (λ (y : Process). y.steps) same)) m.came.did;
      handed = m.came.handed;
      stays = m.came.stays;
    }

-- what is read as a frame is the frame
pub frame_read : (bytes : List ℕ) (m : Message) → IsTrue (is_sound m) → spelling m ≡ bytes → message_of bytes ≡ Some m
frame_read bytes m sound same = ap message_of (sym same) ∙ message_again m sound

pub frame_not_read : (bytes : List ℕ) → AreBytes bytes → ((m : Message) → IsTrue (is_sound m) → spelling m ≢ bytes) → message_of bytes ≡ None
frame_not_read bytes h none = by (message_of bytes) refl
  where
    by : (o : Option Message) → message_of bytes ≡ o → o ≡ None
    by None e = refl
    by (Some m) e = let k = message_found bytes m h e in absurd (none m k.0 k.1)
