-- The beginning of a whole run, and its end.
use Rattle.std.proofs.Common.{arith, ◌≡◌, ◌+◌, ℕ, zero, suc, Bool, true, false, List, [], ◌∷◌, ◌++◌, length, map, take, Option, Some, None, Result, Ok, Err, refl, ap, sym, subst, ◌∙◌, inl, inr, ⊎_elim, append_assoc}
use Rattle.std.specs.Prelude.{◌==◌, ◌||◌, slice_get}
use Rattle.std.specs.List.{list_any}
use Rattle.std.proofs.lemmas.Bool.{eq-eqb}
use Rattle.std.proofs.lemmas.List.{take_all, take_more}
use Rattle.std.proofs.lemmas.Option.{slice_get_within, get_or_from_slice_get}
use Rattle.edge_io.specs.Edge.{HasRisen}
use Rattle.edge_io.specs.declared.endpoint.Endpoint.{Endpoint}
use Rattle.fabric_terms.specs.declared.record.Record.{Record}
use Rattle.keep_log.specs.declared.kept.Kept.{Kept}
use Rattle.turn_members.specs.Members.{seen}
use Rattle.edge_io.specs.Told.{Told, Listens}
use Rattle.fabric_turns.specs.Moves.{ComesTo}
use Rattle.turn_rules.specs.Ends.{Stopped}
use Rattle.fabric_turns.specs.Opening.{RecalledAll, OnlyRecalled}
use Rattle.turn_rules.specs.Order.{arrive}
use Rattle.turn_rules.specs.Plans.{Plan, Setting, IsPlan}
use Rattle.fabric_turns.specs.Runs.{Run, At, IsReady}
use Rattle.turn_rules.specs.Whole.{setting, OpenedOnly, StoppedRun, Ends, Finishes, with_endpoints}
use Rattle.fabric_status.specs.declared.status.Status.{Status}
use Rattle.turn_rules.specs.declared.stop_cause.StopCause.{StopCause}
use Rattle.turn_rules.specs.declared.stop_cause.StopCause.TheVariants as stop
use Rattle.turn_effects.proofs.Growing.{grew_none}

-- one endpoint more
take_next : {X : Type 0} (xs : List X) (i : ℕ) (x : X) → slice_get xs i ≡ Some x → take (i + 1) xs ≡ take i xs ++ x ∷ []
take_next {X} xs i x e = take_more xs i x (slice_get_within xs i x e) ∙ ap (λ (y : X). take i xs ++ y ∷ []) (get_or_from_slice_get xs i x x e)

pub opened_more : (plan : Plan) (place actor : ℕ) (at : List ℕ) (e f : Endpoint) (a b c : Told) (done : Unit {0}) → OpenedOnly plan place a b → Listens actor at b (Ok done) c → slice_get plan.actors place ≡ Some e → actor ≡ e.actor → slice_get plan.actors place ≡ Some f → at ≡ f.at → OpenedOnly plan (place + 1) a c
opened_more plan place actor at e f a b c done o k here name here' address =
    let same : e ≡ f = let g : Some e ≡ Some f = sym here ∙ here' in cc in
    let entry : record { actor = actor; at = at } ≡ e = ap (λ (n : ℕ). record { actor = n; at = at }) name ∙ ap (λ (t : List ℕ). record { actor = e.actor; at = t }) (address ∙ ap (λ (x : Endpoint). x.at) (sym same)) in
    record {
      untouched = record {
        loans = ap (λ (t : Told). t.loans) k.rest ∙ o.untouched.loans;
        held = ap (λ (t : Told). t.held) k.rest ∙ o.untouched.held;
        kept = λ any. ap (λ (t : Told). t.kept any) k.rest ∙ o.untouched.kept any;
        sent = k.sent ∙ o.untouched.sent;
        arrivals = λ any. k.arrivals any ∙ o.untouched.arrivals any;
        readings = ap (λ (t : Told). t.readings) k.rest ∙ o.untouched.readings;
        keeper = omega (arith, o.untouched.keeper, ap (λ (t : Told). t.keep_faults) k.rest);
        links = omega (arith, o.untouched.links, k.cause.later);
        sink = ap (λ (t : Told). t.sink_faults) k.rest ∙ o.untouched.sink;
        falls = ap (λ (t : Told). t.falls) k.rest ∙ o.untouched.falls;
        last = ap (λ (t : Told). t.last) k.rest ∙ o.untouched.last;
      };
      opened = k.ok ∙ ap (λ (es : List Endpoint). es ++ record { actor = actor; at = at } ∷ []) o.opened
          ∙ append_assoc a.opened (take place plan.actors) (record { actor = actor; at = at } ∷ [])
          ∙ ap (λ (x : Endpoint). a.opened ++ (take place plan.actors ++ x ∷ [])) entry
          ∙ ap (λ (es : List Endpoint). a.opened ++ es) (sym (take_next plan.actors place e here));
    }

-- each actor of the plan listens

listens_in : (es : List Endpoint) (place : ℕ) (e : Endpoint) → slice_get es place ≡ Some e → list_any (λ x. x.actor == e.actor) es ≡ true
listens_in [] place e here = cc
listens_in (x ∷ xs) zero e here =
    let same : x ≡ e = cc in
    ap (λ (b : Bool). b || list_any (λ (y : Endpoint). y.actor == e.actor) xs) (eq-eqb x.actor e.actor (ap (λ (y : Endpoint). y.actor) same))
listens_in (x ∷ xs) (suc place) e here = or_later (x.actor == e.actor) (list_any (λ (y : Endpoint). y.actor == e.actor) xs) (listens_in xs place e here)
  where
    or_later : (b c : Bool) → c ≡ true → (b || c) ≡ true
    or_later true c h = refl
    or_later false c h = h

listens_after : (old es : List Endpoint) (n : ℕ) → list_any (λ x. x.actor == n) es ≡ true → list_any (λ x. x.actor == n) (old ++ es) ≡ true
listens_after [] es n h = h
listens_after (x ∷ xs) es n h = or_later (x.actor == n) (list_any (λ (y : Endpoint). y.actor == n) (xs ++ es)) (listens_after xs es n h)
  where
    or_later : (b c : Bool) → c ≡ true → (b || c) ≡ true
    or_later true c k = refl
    or_later false c k = k

opened_whole : (plan : Plan) (a b : Told) → OpenedOnly plan (length plan.actors) a b → b.opened ≡ a.opened ++ plan.actors
opened_whole plan a b o = o.opened ∙ ap (λ (es : List Endpoint). a.opened ++ es) (take_all (length plan.actors) plan.actors (omega arith))

pub ready_first : (plan : Plan) (run : Run) (a b : Told) → IsPlan plan → run ≡ record { members = []; last = None } → OpenedOnly plan (length plan.actors) a b → IsReady plan run b
ready_first plan run a b good none o = record {
  good = good;
  members = λ place m here. let e : None ≡ Some m = sym (ap (λ (r : Run). slice_get r.members place) none) ∙ here in cc;
  listen = λ place e here.
      let l : list_any (λ x. x.actor == e.actor) b.opened ≡ true = ap (λ (es : List Endpoint). list_any (λ (x : Endpoint). x.actor == e.actor) es) (opened_whole plan a b o) ∙ listens_after a.opened plan.actors e.actor (listens_in plan.actors place e here) in
      l;
  last = rw none tt;
}

-- nothing has come yet
pub at_first : (plan : Plan) (list : List (List Record)) (run : Run) (a b c : Told) → run ≡ record { members = []; last = None } → OnlyRecalled a b → OpenedOnly plan (length plan.actors) b c → At (setting plan list) (with_endpoints plan a) c run [] (arrive plan 0 0)
at_first plan list run a b c none p o = record {
  order = refl;
  stands = record {
    on = refl;
    members = sym (ap (λ (r : Run). map seen r.members) none);
    last = sym (ap (λ (r : Run). r.last) none);
    clock = rw none tt;
  };
  did = record {
    kept = λ actor. grew_none (a.kept actor) (c.kept actor) (o.untouched.kept actor ∙ p.untouched.kept actor);
    sent = record {
      tries = [];
      whole = refl;
      sent = grew_none a.sent c.sent (o.untouched.sent ∙ p.untouched.sent);
      failed = record { later = omega (arith, o.untouched.links, p.untouched.links); count = inl (omega (arith, o.untouched.links, p.untouched.links)) };
    };
    lines = grew_none a.held c.held (o.untouched.held ∙ p.untouched.held);
  };
  handed = record {
    read = λ all told. o.untouched.readings ∙ p.untouched.readings ∙ told;
    heard = λ actor all told. o.untouched.arrivals actor ∙ p.untouched.arrivals actor ∙ told;
  };
  stays = record {
    loans = o.untouched.loans ∙ p.untouched.loans;
    opened = opened_whole plan b c o ∙ ap (λ (es : List Endpoint). es ++ plan.actors) p.opened;
    keeper = omega (arith, o.untouched.keeper, p.untouched.keeper);
    sink = omega (arith, o.untouched.sink, p.untouched.sink);
    clock = omega (arith, o.untouched.falls, p.untouched.falls);
  };
}

-- the run stopped
pub ends_stopped : (plan : Plan) (list : List (List Record)) (kept : List (Option Kept)) (a b c : Told) (r : StopCause) → RecalledAll plan a list kept b → Stopped (setting plan list) (with_endpoints plan a) c r → Ends plan a (Err r) c
ends_stopped plan list kept a b c stop.OutOfMemory k s = inr (inr (list, (k.recalled, k.are_kept.all, s)))
ends_stopped plan list kept a b c stop.WriteFault k s = (list, (k.recalled, k.are_kept.all, s))
ends_stopped plan list kept a b c stop.KeepFault k s = inr (list, (k.recalled, k.are_kept.all, s))
ends_stopped plan list kept a b c stop.LinkFault k s = absurd s
ends_stopped plan list kept a b c (stop.ClockBack former latter) k s = (list, (k.recalled, k.are_kept.all, s))
ends_stopped plan list kept a b c (stop.Left why) k s = (list, (k.recalled, k.are_kept.all, s))
ends_stopped plan list kept a b c (stop.BadKeep i) k s = absurd s
ends_stopped plan list kept a b c stop.TableFull k s = (list, (k.recalled, k.are_kept.all, s))

-- it stopped, or went on to its last turn
pub ends_turns : (plan : Plan) (list : List (List Record)) (kept : List (Option Kept)) (a b c : Told) (run : Run) (r : Result (Unit {0}) StopCause) → RecalledAll plan a list kept b → ComesTo (setting plan list) (with_endpoints plan a) c run (arrive plan (plan.turns + 1) 0) r → Ends plan a r c
ends_turns plan list kept a b c run (Ok done) k s = (
  list,
  (
    k.recalled,
    k.are_kept.all,
    record {
      history = s.0;
      order = s.1.order;
      on = s.1.stands.on;
      did = s.1.did;
      handed = s.1.handed;
      stays = s.1.stays;
    },
  ),
)
ends_turns plan list kept a b c run (Err stopped) k s = ends_stopped plan list kept a b c stopped k s

-- the devices stay the borrowed ones

stopped_loans : (s : Setting) (a c : Told) (r : StopCause) → Stopped s a c r → c.loans ≡ a.loans
stopped_loans s a c stop.OutOfMemory k = k.1.stays.loans
stopped_loans s a c stop.WriteFault k = k.1.0.stays.loans
stopped_loans s a c stop.KeepFault k = k.1.0.stays.loans
stopped_loans s a c stop.LinkFault k = absurd k
stopped_loans s a c (stop.ClockBack former latter) k = k.0.stays.loans
stopped_loans s a c (stop.Left why) k = k.stays.loans
stopped_loans s a c (stop.BadKeep i) k = absurd k
stopped_loans s a c stop.TableFull k = k.stays.loans

run_loans : (plan : Plan) (a c : Told) (r : StopCause) → StoppedRun plan a c r → c.loans ≡ a.loans
run_loans plan a c r k = stopped_loans (setting plan k.0) (with_endpoints plan a) c r k.1.2

ends_loans : (plan : Plan) (a c : Told) (r : Result (Unit {0}) StopCause) → Ends plan a r c → c.loans ≡ a.loans
ends_loans plan a c (Ok done) k = k.1.2.stays.loans
ends_loans plan a c (Err stop.OutOfMemory) (inl recalling) = recalling.untouched.loans
ends_loans plan a c (Err stop.OutOfMemory) (inr (inl opening)) = opening.1.opened.untouched.loans
ends_loans plan a c (Err stop.OutOfMemory) (inr (inr s)) = run_loans plan a c stop.OutOfMemory s
ends_loans plan a c (Err stop.WriteFault) k = run_loans plan a c stop.WriteFault k
ends_loans plan a c (Err stop.KeepFault) k = ⊎_elim (λ (n : OpenedOnly plan 0 a c × HasRisen a.keep_faults c.keep_faults). n.0.untouched.loans) (λ s. run_loans plan a c stop.KeepFault s) k
ends_loans plan a c (Err stop.LinkFault) k = k.1.1.opened.untouched.loans
ends_loans plan a c (Err (stop.ClockBack former latter)) k = run_loans plan a c (stop.ClockBack former latter) k
ends_loans plan a c (Err (stop.Left why)) k = run_loans plan a c (stop.Left why) k
ends_loans plan a c (Err (stop.BadKeep i)) k = k.1.untouched.loans
ends_loans plan a c (Err stop.TableFull) k = run_loans plan a c stop.TableFull k

finish_loans : (turns : ℕ) (r : Result (Unit {0}) StopCause) (b : Told) (ended : Status) (c : Told) → Finishes turns r b ended c → c.loans ≡ b.loans
finish_loans turns r b ended c k =
    ⊎_elim (λ whole. ap (λ (t : Told). t.loans) whole.1.rest)
    (λ short. ⊎_elim (λ memory. ap (λ (t : Told). t.loans) memory.1.1.rest) (λ failed. ap (λ (t : Told). t.loans) failed.1.1.0.rest) short)
    k

pub both_loans : (plan : Plan) (a b : Told) (r : Result (Unit {0}) StopCause) (ended : Status) (c : Told) → Ends plan a r b → Finishes plan.turns r b ended c → c.loans ≡ a.loans
both_loans plan a b r ended c e f = finish_loans plan.turns r b ended c f ∙ ends_loans plan a b r e

pub finishes_as : (n m : ℕ) (r : Result (Unit {0}) StopCause) (b : Told) (ended : Status) (c : Told) → n ≡ m → Finishes n r b ended c → Finishes m r b ended c
finishes_as n m r b ended c e f = subst (λ (k : ℕ). Finishes k r b ended c) e f
