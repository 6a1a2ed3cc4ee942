-- What an event does where a node goes on without a step, which has ended elsewhere.
use Rattle.std.proofs.Common.{◌≡◌, ℕ, ◌+◌, Bool, true, false, cond, not, ◌&&◌, ◌||◌, List, [], ◌∷◌, Option, Some, None, refl, sym, ap, ◌∙◌, arith}
use Rattle.std.specs.Prelude.{◌==◌, length, unwrap_or}
use Rattle.std.proofs.lemmas.Bool.{both_ways}
use Rattle.std.proofs.lemmas.Bool.Decides.{nat_tests}
use Rattle.drift_clock.specs.Within.{Pair}
use Rattle.fabric_lemmas.specs.Maps.{at}
use Rattle.fabric_terms.specs.declared.config.FabricConfig.{FabricConfig}
use Rattle.fabric_terms.specs.declared.event.Event.{Event}
use Rattle.fabric_terms.specs.declared.record.Record.{Record}
use Rattle.fabric_terms.specs.declared.report.Report.{Report}
use Rattle.fabric_terms.specs.Reports.{Told, told_in, told_on}
use Rattle.fabric_terms.specs.Runs.{Entry, Owned, last_own, own_in}
use Rattle.fabric_terms.specs.TakeOvers.{tells_take_over}
use Rattle.join_phases.specs.Phases.{is_left}
use Rattle.ring_points.proofs.Whos.{same_who-refl}
use Rattle.ring_points.specs.declared.who.Who.{Who}
use Rattle.ring_points.specs.Whos.{same_who}
use Rattle.run_facts.proofs.Kept.{at_put_other, put_cases}
use Rattle.world_rules.specs.Events.{world_step}
use Rattle.world_rules.specs.Nodes.{NodeState}
use Rattle.world_rules.specs.Schedules.{MayCome}
use Rattle.world_rules.specs.Uppers.{Upper, Did}
use Rattle.world_rules.specs.Worlds.{World, Running, Stepped, kept_of, node_acted, posted}
use Rattle.span_safety.specs.Ends.{taken_by_other}
use Rattle.span_safety.specs.Lengths.{begins, brings_length}
use Rattle.span_safety.proofs.Silent.{nothing_kept}

-- the world where these nodes run, and these records are kept
abbrev pub world_with : {a : Upper} → World a → List (ℕ × Running a) → List (ℕ × List Record) → World a
world_with w nodes kept = record w { nodes = nodes; kept = kept }

-- Of x's node, which has left in w or runs no more, there is one that stands still in this state. All others are the same,
-- and so are the records of all actors.
pub record Beside {a : Upper} (x : Who) (stood : NodeState a) (w : World a) (nodes : List (ℕ × Running a)) (kept : List (ℕ × List Record)) : Type 0 where
  pub gone : (s : Running a) → at x.actor w.nodes ≡ Some s → (s.node.ring.me ≡ x) × (is_left s.node.ring.phase ≡ true)
  pub ghost : Running a
  pub there : at x.actor nodes ≡ Some ghost
  pub still : ghost.node ≡ stood
  pub others : (q : ℕ) → (x.actor == q) ≡ false → at q nodes ≡ at q w.nodes
  pub alike : (q : ℕ) → unwrap_or (at q kept) [] ≡ kept_of w q

-- what was done is of no other than x
pub record IsOf (x : Who) (o : Option Entry) : Type 0 where
  pub own : (z : Who) (before : Option Owned) → same_who x z ≡ false → own_in z o before ≡ before
  pub told : (before : Told) → taken_by_other x (told_in o before) ≡ taken_by_other x before

-- of an event that left st: nothing comes of it beside the node, or another event does the same
pub data Next (a : Upper) (is_frame : List ℕ → Bool) (c : FabricConfig) (x : Who) (stood : NodeState a) (w : World a) (nodes : List (ℕ × Running a))
    (kept : List (ℕ × List Record)) (st : Stepped a) : Type 0 where
  lost : Beside x stood st.world nodes kept → world_with st.world nodes kept ≡ world_with w nodes kept → IsOf x st.entry → Next a is_frame c x stood w nodes kept st
  along : (e : Event) (then : List (ℕ × Running a)) (keeps : List (ℕ × List Record)) → begins x.actor e ≡ false →
      brings_length (world_with w nodes kept) x.actor e ≡ false → MayCome is_frame c (world_with w nodes kept) e → Beside x stood st.world then keeps →
      world_step a c (world_with w nodes kept) e ≡ record { world = world_with st.world then keeps; entry = st.entry } →
      Next a is_frame c x stood w nodes kept st

pub flipped : (m n : ℕ) → (m == n) ≡ false → (n == m) ≡ false
flipped m n h = grind (arith, nat_tests, h)

-- nobody does anything
pub nobody_does : (x : Who) → IsOf x None
nobody_does x = record { own = λ z before h. refl; told = λ before. refl }

-- x does something
pub does_itself : (x : Who) (e : Entry) → e.who ≡ x → IsOf x (Some e)
does_itself x e named = record {
  own = λ z before h. ap (λ t. cond t (last_own e.reports before) before) (ap (λ (y : Who). same_who y z) named ∙ h);
  told = λ before. ap (λ y. taken_by_other x (told_on y e.reports before)) named ∙ go e.reports before;
}
  where
    go : (rs : List Report) (before : Told) → taken_by_other x (told_on x rs before) ≡ taken_by_other x before
    go [] before = refl
    go (r ∷ rs) before = go rs ((x, r) ∷ before) ∙ ap (λ t. (not t && tells_take_over x r) || taken_by_other x before) (same_who-refl x)

-- a step of x's node that leaves it left, records nothing and sends nothing
module _ {a : Upper} (x : Who) (w : World a) (reading : ℕ) (pairs : List Pair) (d : Did (NodeState a)) (named : d.state.ring.me ≡ x) (left : is_left d.state.ring.phase ≡ true)
    (keeps : d.records ≡ []) (sends : d.sent ≡ []) where
  pub silent_same : (nodes : List (ℕ × Running a)) (kept : List (ℕ × List Record)) →
      world_with (node_acted a w x.actor reading pairs d).world nodes kept ≡ world_with w nodes kept
  silent_same nodes kept =
      (λ i. record w { nodes = nodes; kept = kept; frames = posted d.state.ring.me (sends i) w.frames; count = w.count + length (sends i) })
      ∙ (λ i. record w { nodes = nodes; kept = kept; count = zero_more i })
    where
      zero_more : w.count + 0 ≡ w.count
      zero_more = omega arith

  pub silent_beside : (stood : NodeState a) (nodes : List (ℕ × Running a)) (kept : List (ℕ × List Record)) (ghost : Running a) → at x.actor nodes ≡ Some ghost →
      ghost.node ≡ stood → ((q : ℕ) → (x.actor == q) ≡ false → at q nodes ≡ at q w.nodes) → ((q : ℕ) → unwrap_or (at q kept) [] ≡ kept_of w q) →
      Beside x stood (node_acted a w x.actor reading pairs d).world nodes kept
  silent_beside stood nodes kept ghost there still others alike = record {
    gone = λ s h.
        put_cases (λ (z : Running a). (z.node.ring.me ≡ x) × (is_left z.node.ring.phase ≡ true)) x.actor (record { node = d.state; reading = reading; pairs = pairs })
        w.nodes x.actor s h (λ same. (named, left)) (λ apart there. absurd (not_apart apart));
    ghost = ghost;
    there = there;
    still = still;
    others = λ q h. others q h ∙ sym (at_put_other x.actor (record { node = d.state; reading = reading; pairs = pairs }) w.nodes q h);
    alike = λ q. alike q ∙ sym (nothing_kept w d.state.ring.me d.records d.sent q keeps);
  }
    where
      not_apart : (x.actor == x.actor) ≡ false → ⊥
      not_apart h = absurd (let same : (x.actor == x.actor) ≡ true = grind (arith, nat_tests) in both_ways (x.actor == x.actor) h same)
