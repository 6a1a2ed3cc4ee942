-- The start of an actor, after what came before it.
use Rattle.std.proofs.Common.{◌≡◌, ◌+◌, ℕ, zero, suc, Bool, false, List, [], ◌∷◌, ◌++◌, length, map, Option, Some, None, Ok, Err, refl, ap, sym, subst, ◌∙◌, inl, inr, ⊎_elim}
use Rattle.std.specs.Prelude.{◌⊎◌, ◌≤◌, IfSome, slice_get}
use Rattle.std.proofs.lemmas.List.{length-append, map-append}
use Rattle.edge_io.specs.Arrivals.{IsListening}
use Rattle.edge_io.specs.declared.endpoint.Endpoint.{Endpoint}
use Rattle.fabric_terms.specs.Ranges.{most}
use Rattle.fabric_terms.specs.declared.record.Record.{Record}
use Rattle.fabric_terms.specs.declared.config.FabricConfig.{FabricConfig}
use Rattle.fabric_terms.specs.declared.report.Why.{Why}
use Rattle.fabric_turns.proofs.Acting.{Acted, broken_from, carried_for, done_at, full_ended, left_from}
use Rattle.fabric_turns.specs.Runs.{AtBy, Run, MeetsStartBy, IsReady, IsLast}
use Rattle.fabric_turns.specs.Steps.{JoinsAt, NotJoinsAt, why_of, left_at, work_in}
use Rattle.edge_io.specs.Told.{Told}
use Rattle.turn_members.specs.Members.{IsOf, seen}
use Rattle.turn_members.specs.declared.deed.Deed.{Deed}
use Rattle.turn_members.specs.declared.member.Member.{Member as Running}
use Rattle.turn_effects.specs.Carried.{CarriesOut}
use Rattle.turn_rules.specs.Ends.{EndedBy, StoppedBy}
use Rattle.turn_rules.specs.Happenings.{Happening, History}
use Rattle.turn_rules.specs.Order.{Rows, TurnPosition}
use Rattle.turn_rules.specs.Plans.{Plan, Setting}
use Rattle.turn_rules.specs.Process.{Process, Full, Left, after, joins, joins_as, joins_at, joins_with, unless_full, left_end}
use Rattle.turn_rules.specs.Steps.{Member, Step, Stepped, begun, exceeds, left_of}
use Rattle.turn_rules.specs.declared.stop_cause.StopCause.{StopCause}

pub end_here : {X : Type 0} (xs : List X) (y : X) → slice_get (xs ++ y ∷ []) (length xs) ≡ Some y
end_here [] y = refl
end_here (x ∷ xs) y = end_here xs y

pub end_cases : {X : Type 0} (xs : List X) (y z : X) (j : ℕ) → slice_get (xs ++ y ∷ []) j ≡ Some z → (slice_get xs j ≡ Some z) ⊎ ((j ≡ length xs) × (z ≡ y))
end_cases [] y z zero e = inr (refl, cc)
end_cases [] y z (suc j) e = cc
end_cases (x ∷ xs) y z zero e = inl e
end_cases (x ∷ xs) y z (suc j) e = ⊎_elim (λ same. inl same) (λ (here : (j ≡ length xs) × (z ≡ y)). inr (ap suc here.0, here.1)) (end_cases xs y z j e)

found_at : (s : Setting) (place : ℕ) (p : Process) (e : Endpoint) (records : List Record) (last : Option ℕ) → slice_get s.plan.actors place ≡ Some e → slice_get s.kept place ≡ Some records → p.last ≡ last
    → joins s 0 place p ≡ joins_as p (begun s.plan.config s.plan.whole 0 last e.actor records)
found_at s place p e records last here list same =
    ap (λ (o : Option Endpoint). joins_at s 0 p o (slice_get s.kept place)) here
    ∙ ap (joins_at s 0 p (Some e)) list
    ∙ ap (λ (l : Option ℕ). joins_as p (begun s.plan.config s.plan.whole 0 l e.actor records)) same

joined_at : (s : Setting) (place : ℕ) (p : Process) (e : Endpoint) (records : List Record) (last : Option ℕ) → slice_get s.plan.actors place ≡ Some e → slice_get s.kept place ≡ Some records → p.last ≡ last
    → exceeds (begun s.plan.config s.plan.whole 0 last e.actor records).member ≡ false → joins s 0 place p ≡ joins_with p (begun s.plan.config s.plan.whole 0 last e.actor records)
joined_at s place p e records last here list same room =
    found_at s place p e records last here list same ∙ ap (λ (b : Bool). unless_full p b (joins_with p (begun s.plan.config s.plan.whole 0 last e.actor records))) room

pub joined : {may_go : Rows} (s : Setting) (a b : Told) (old : Run) (h : History) (x : Happening) (p : TurnPosition) (place : ℕ) (records : List Record) (deed : Deed) (new : Run) → slice_get s.kept place ≡ Some records → MeetsStartBy may_go s a b old h x p place
    → (t : JoinsAt s.plan records place old deed new) → Acted s h x place (begun s.plan.config s.plan.whole 0 old.last t.endpoint.actor records).step new
joined s a b old h x p place records deed new list m t =
    let d : Stepped = begun s.plan.config s.plan.whole 0 old.last t.endpoint.actor records in
    let e : after s (x ∷ h) ≡ joins_with m.before d = m.joins ∙ joined_at s place m.before t.endpoint records old.last t.named list m.last t.does.room in
    let w : seen t.next ≡ d.member = t.does.makes.member in
    let now : new.members ≡ old.members ++ t.next ∷ [] = ap (λ (r : Run). r.members) t.now in
    let here : slice_get new.members place ≡ Some t.next = ap (λ (ms : List Running). slice_get ms place) now ∙ ap (slice_get (old.members ++ t.next ∷ [])) (sym m.next) ∙ end_here old.members t.next in
    record {
      members = ap (λ (q : Process). q.members) e
          ∙ ap (λ (ms : List Member). ms ++ d.member ∷ []) m.members
          ∙ ap (λ (n : Member). map seen old.members ++ n ∷ []) (sym w)
          ∙ sym (map-append seen old.members (t.next ∷ []))
          ∙ ap (λ (ms : List Running). map seen ms) (sym now);
      last = ap (λ (q : Process). q.last) e ∙ m.last ∙ sym (ap (λ (r : Run). r.last) t.now);
      steps = ap (λ (q : Process). q.steps) e ∙ ap (λ (ss : List Step). d.step ∷ ss) m.steps;
      end = ap (λ (q : Process). q.end) e ∙ ap (λ (n : Member). left_end (left_of n)) (sym w) ∙ sym (ap (λ (o : Option Running). left_end (why_of o)) here);
    }

pub named_join : (plan : Plan) (records : List Record) (old : Run) (b : Told) (place : ℕ) (deed : Deed) (new : Run) → IsReady plan old b → JoinsAt plan records place old deed new → IsListening deed.head.who.actor b.opened
named_join plan records old b place deed new ready t = subst (λ (n : ℕ). IsListening n b.opened) (sym t.own.whose) (ready.listen place t.endpoint t.named)

pub ready_join : (plan : Plan) (records : List Record) (old : Run) (b : Told) (place : ℕ) (deed : Deed) (new : Run) (c : Told) → length old.members ≡ place → IsReady plan old b → JoinsAt plan records place old deed new → c.opened ≡ b.opened → IsReady plan new c
ready_join plan records old b place deed new c next ready t opened = record {
  good = ready.good;
  members = λ j z here. names j z (ap (λ (r : Run). slice_get r.members j) (sym t.now) ∙ here);
  listen = λ j e here. rw opened (ready.listen j e here);
  last = subst (λ (o : Option ℕ). IfSome o (λ reading. reading ≤ most)) (sym (ap (λ (r : Run). r.last) t.now)) ready.last;
}
  where
    names : (j : ℕ) (z : Running) → slice_get (old.members ++ t.next ∷ []) j ≡ Some z → (e : Endpoint) × ((slice_get plan.actors j ≡ Some e) × IsOf plan.config e.actor z)
    names j z here = ⊎_elim
        (λ same. ready.members j z same)
        (λ (last : (j ≡ length old.members) × (z ≡ t.next)).
        (t.endpoint, (ap (λ (k : ℕ). slice_get plan.actors k) (last.0 ∙ next) ∙ t.named, subst (λ (w : Running). IsOf plan.config t.endpoint.actor w) (sym last.1) t.runs)))
        (end_cases old.members t.next z j here)

pub clock_join : (plan : Plan) (records : List Record) (old : Run) (place : ℕ) (deed : Deed) (new : Run) (last : Option ℕ) → JoinsAt plan records place old deed new → IsLast old.last last → IsLast new.last last
clock_join plan records old place deed new last t k = subst (λ (o : Option ℕ). IsLast o last) (sym (ap (λ (r : Run). r.last) t.now)) k

pub length_join : (plan : Plan) (records : List Record) (old : Run) (place : ℕ) (deed : Deed) (new : Run) → JoinsAt plan records place old deed new → length old.members ≡ place → length new.members ≡ place + 1
length_join plan records old place deed new t e = ap (λ (r : Run). length r.members) t.now ∙ length-append old.members (t.next ∷ []) ∙ ap (λ (n : ℕ). n + 1) e

-- its table is full from the beginning
pub join_full : {may_go : Rows} (s : Setting) (a b : Told) (old : Run) (h : History) (x : Happening) (p : TurnPosition) (place : ℕ) (records : List Record) → slice_get s.kept place ≡ Some records → MeetsStartBy may_go s a b old h x p place → NotJoinsAt s.plan records place old → EndedBy may_go s a b Full
join_full s a b old h x p place records list m t =
    let d : Stepped = begun s.plan.config s.plan.whole 0 old.last t.endpoint.actor records in
    let e : after s (x ∷ h) ≡ record m.before { end = Some Full } =
    m.joins ∙ found_at s place m.before t.endpoint records old.last t.named list m.last ∙ ap (λ (b : Bool). unless_full m.before b (joins_with m.before d)) t.full in
    full_ended s a b h x p m.came (ap (λ (q : Process). q.end) e) (ap (λ (q : Process). q.steps) e ∙ m.steps)

-- How a start ends.

pub join_done : {may_go : Rows} (s : Setting) (a b c : Told) (old new : Run) (h : History) (x : Happening) (p : TurnPosition) (place : ℕ) (records : List Record) (deed : Deed) (config : FabricConfig) → config ≡ s.plan.config → slice_get s.kept place ≡ Some records
    → MeetsStartBy may_go s a b old h x p place → JoinsAt s.plan records place old deed new → (done : Unit {0}) → CarriesOut (work_in config deed) b c (Ok done) → left_at new.members place ≡ None → AtBy may_go s a c new (x ∷ h) p
join_done s a b c old new h x p place records deed config same list m t done k stays =
    let d : Stepped = begun s.plan.config s.plan.whole 0 old.last t.endpoint.actor records in
    done_at s a b c new h x p place d.step m.came (joined s a b old h x p place records deed new list m t) (carried_for s.plan.config config d (seen t.next) deed b c (Ok done) same t.does.makes k)
    (clock_join s.plan records old place deed new b.last t m.clock) stays

pub join_left : {may_go : Rows} (s : Setting) (a b c : Told) (old new : Run) (h : History) (x : Happening) (p : TurnPosition) (place : ℕ) (records : List Record) (deed : Deed) (config : FabricConfig) (why : Why) → config ≡ s.plan.config → slice_get s.kept place ≡ Some records
    → MeetsStartBy may_go s a b old h x p place → JoinsAt s.plan records place old deed new → (done : Unit {0}) → CarriesOut (work_in config deed) b c (Ok done) → left_at new.members place ≡ Some why → EndedBy may_go s a c (Left why)
join_left s a b c old new h x p place records deed config why same list m t done k left =
    let d : Stepped = begun s.plan.config s.plan.whole 0 old.last t.endpoint.actor records in
    left_from s a b c new h x p place d.step why m.came (joined s a b old h x p place records deed new list m t) (carried_for s.plan.config config d (seen t.next) deed b c (Ok done) same t.does.makes k) left

pub join_broken : {may_go : Rows} (s : Setting) (a b c : Told) (old new : Run) (h : History) (x : Happening) (p : TurnPosition) (place : ℕ) (records : List Record) (deed : Deed) (config : FabricConfig) (r : StopCause) → config ≡ s.plan.config → slice_get s.kept place ≡ Some records
    → MeetsStartBy may_go s a b old h x p place → JoinsAt s.plan records place old deed new → CarriesOut (work_in config deed) b c (Err r) → StoppedBy may_go s a c r
join_broken s a b c old new h x p place records deed config r same list m t k =
    let d : Stepped = begun s.plan.config s.plan.whole 0 old.last t.endpoint.actor records in
    broken_from s a b c new h x p place d.step r m.came (joined s a b old h x p place records deed new list m t) (carried_for s.plan.config config d (seen t.next) deed b c (Err r) same t.does.makes k)
