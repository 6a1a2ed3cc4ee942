-- A turn of a node that ends without a firing.
use Rattle.std.proofs.Common.{◌≡◌, ℕ, Bool, true, false, List, [], ◌∷◌, ◌++◌, length, map, Some, refl, ap, sym, subst, ◌∙◌}
use Rattle.std.specs.Prelude.{◌==◌, if◌then◌else◌, slice_get}
use Rattle.std.proofs.lemmas.List.{append-nil}
use Rattle.edge_io.specs.Edge.{Grew}
use Rattle.edge_io.specs.Told.{Told}
use Rattle.edge_io.specs.declared.datagram.Datagram.{Datagram}
use Rattle.fabric_turns.proofs.Acting.{after_next}
use Rattle.fabric_turns.specs.Moves.{at_place}
use Rattle.fabric_turns.specs.Runs.{AtBy, Run}
use Rattle.serve_turns.proofs.Turning.{came_at}
use Rattle.turn_members.specs.Members.{seen}
use Rattle.turn_members.specs.declared.member.Member.{Member as Running}
use Rattle.turn_rules.proofs.Served.{rests_are_idle}
use Rattle.turn_rules.specs.Effects.{Did, Sent, lines_of, own_records, records_of, sends_of, sent_by}
use Rattle.turn_rules.specs.Ends.{IsNothing}
use Rattle.turn_rules.specs.Handed.{failures_of}
use Rattle.turn_rules.specs.Happenings.{History, Rests}
use Rattle.turn_rules.specs.Order.{Firing, GoesServed, onward}
use Rattle.turn_rules.specs.Plans.{Setting}
use Rattle.turn_rules.specs.Process.{Process, after}
use Rattle.turn_rules.specs.Steps.{Member, Step}
use Rattle.turn_rules.specs.Works.{Post, Work, work_of, works_of}

-- the one that runs
pub first_seen : (ms : List Running) → length ms ≡ 1 → (m : Running) × (slice_get ms 0 ≡ Some m) × (slice_get (map seen ms) 0 ≡ Some (seen m))
first_seen [] one = cc
first_seen (m ∷ ms) one = (m, refl, refl)

no_records : (b : Bool) (xs : List (List ℕ)) → xs ≡ [] → (if b then xs else []) ≡ []
no_records true xs none = none
no_records false xs none = refl

-- a step that does nothing
did_idle : (ss : List Work) (s : Work) (n : ℕ) (a b : Told) → IsNothing s → Did ss n a b → Did (s ∷ ss) n a b
did_idle ss s n a b none d = record {
  kept = λ actor.
      let e : records_of actor ss ++ own_records actor s ≡ records_of actor ss = ap (λ (xs : List (List ℕ)). records_of actor ss ++ xs) (no_records (s.actor == actor) s.records none.0) ∙ append-nil (records_of actor ss) in
      subst (λ (xs : List (List ℕ)). Grew (a.kept actor) (b.kept actor) xs) (sym e) (d.kept actor);
  sent =
      let e : sends_of ss ++ map (sent_by s.actor) s.posts ≡ sends_of ss = ap (λ (ps : List Post). sends_of ss ++ map (sent_by s.actor) ps) none.1 ∙ append-nil (sends_of ss) in
      subst (λ (xs : List Datagram). Sent xs n a b) (sym e) d.sent;
  lines =
      let e : lines_of ss ++ s.lines ≡ lines_of ss = ap (λ (xs : List ℕ). lines_of ss ++ xs) none.2 ∙ append-nil (lines_of ss) in
      subst (λ (xs : List ℕ). Grew a.held b.held xs) (sym e) d.lines;
}

pub rest_comes : (s : Setting) (a b : Told) (run : Run) (h : History) (turn : ℕ) → length run.members ≡ 1 → AtBy GoesServed s a b run h (at_place turn 0 Firing) → AtBy GoesServed s a b run (came_at turn Rests ∷ h) (onward s.plan turn 0)
rest_comes s a b run h turn one t =
    let x = came_at turn Rests in
    let p : Process = after s h in
    let first = first_seen run.members one in
    let here : slice_get p.members 0 ≡ Some (seen first.0) = ap (λ (ms : List Member). slice_get ms 0) t.stands.members ∙ first.2 in
    let idle = rests_are_idle s turn 0 p (seen first.0) here in
    let e : after s (x ∷ h) ≡ record p { steps = idle.step ∷ p.steps } = after_next s h x t.stands.on ∙ idle.is in
    record {
      order = (at_place turn 0 Firing, (t.order, record { turn = refl; place = refl; goes = refl }));
      stands = record {
        on = ap (λ (q : Process). q.end) e ∙ t.stands.on;
        members = ap (λ (q : Process). q.members) e ∙ t.stands.members;
        last = ap (λ (q : Process). q.last) e ∙ t.stands.last;
        clock = t.stands.clock;
      };
      did = subst (λ (ss : List Step). Did (works_of s.plan.config ss) (failures_of h) a b) (sym (ap (λ (q : Process). q.steps) e)) (did_idle (works_of s.plan.config p.steps) (work_of s.plan.config idle.step) (failures_of h) a b idle.nothing t.did);
      handed = record { read = t.handed.read; heard = t.handed.heard };
      stays = t.stays;
    }
