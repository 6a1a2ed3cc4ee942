-- In every run: who runs under a number, what it told last, and whether it told a leave.
use Rattle.std.proofs.Common.{◌≡◌, ℕ, ◌+◌, ◌<◌, ◌≤◌, Bool, true, false, cond, ◌||◌, List, [], ◌∷◌, ◌++◌, Some, None, refl, sym, ap, ◌∙◌, subst, arith}
use Rattle.std.specs.Prelude.{◌==◌, map}
use Rattle.std.specs.List.{list_any}
use Rattle.std.proofs.lemmas.Bool.{eqb-true, eqb-false}
use Rattle.fabric_terms.specs.declared.config.FabricConfig.{FabricConfig}
use Rattle.fabric_terms.specs.declared.event.Event.{Event}
use Rattle.fabric_terms.specs.declared.record.Record.{Record}
use Rattle.fabric_terms.specs.declared.report.Report.{Report}
use Rattle.fabric_terms.specs.declared.report.Report.TheVariants.{Stopped}
use Rattle.fabric_terms.specs.Places.{has_left, tells_leave}
use Rattle.fabric_terms.specs.Reports.{Told, told, told_on, told_in}
use Rattle.fabric_terms.specs.Runs.{Run, last_own, own_in, own_of}
use Rattle.join_phases.specs.Phases.{is_left}
use Rattle.drift_clock.specs.Within.{Pair}
use Rattle.ring_points.specs.declared.who.Who.{Who}
use Rattle.ring_points.specs.Whos.{same_who, node_instance}
use Rattle.ring_points.proofs.Whos.{same_who-refl, same_who_from}
use Rattle.world_rules.specs.Arbiters.{ArbiterState, arbiter_step}
use Rattle.world_rules.specs.Events.{node_stops, arbiter_stops, starts_with, arbiter_number, ticks, ticked}
use Rattle.fabric_lemmas.specs.Maps.{at}
use Rattle.world_rules.specs.Nodes.{NodeState, boots_of, instance_begun, is_spent, node_begun, node_step}
use Rattle.world_rules.specs.Runs.{History, world_after, run_of, moment_of}
use Rattle.world_rules.specs.Uppers.{Upper, Did}
use Rattle.world_rules.specs.Worlds.{World, Running, Stepped, quiet, kept_of, node_acted, arbiter_acted, arbiter_who}
use Rattle.world_rules.specs.Above.{StaysAbove}
use Rattle.run_facts.specs.Held.{owned_by}
use Rattle.run_facts.specs.Laws.{InstancesAreCounted, LastOwnIsHeld, LeaveIsTold}
use Rattle.run_facts.proofs.Happens.{Cases, by_cases}
use Rattle.run_facts.proofs.Kept.{put_cases, without_cases, kept_here, kept_there, boots_append, boots_still, no_boots}
use Rattle.run_facts.proofs.Said.{or_false}
use Rattle.run_facts.proofs.Steps.{Acted, Begun, node_acted-told, node_begun-told, begun_boots, begun_spent, begun_positive}
use Rattle.run_facts.proofs.ArbiterSteps.{Answered, arbiter_stepped}

-- a leave is told on, or was told before
pub left_on : (x who : Who) (rs : List Report) (before : Told) →
    has_left x (told_on who rs before) ≡ (cond (same_who who x) (list_any tells_leave rs) false || has_left x before)
left_on x who [] before = nothing (same_who who x)
  where
    nothing : (s : Bool) → has_left x before ≡ (cond s false false || has_left x before)
    nothing true = refl
    nothing false = refl
left_on x who (r ∷ rs) before = left_on x who rs ((who, r) ∷ before) ∙ by_test (same_who who x) (tells_leave r) (list_any tells_leave rs) (has_left x before)
  where
    by_test : (s t more old : Bool) → (cond s more false || (cond s t false || old)) ≡ (cond s (t || more) false || old)
    by_test true true true old = refl
    by_test true true false old = refl
    by_test true false true old = refl
    by_test true false false old = refl
    by_test false t more old = refl

-- a test that is false tells nothing
left_elsewhere : (x who : Who) (rs : List Report) (before : Told) → same_who who x ≡ false → has_left x (told_on who rs before) ≡ has_left x before
left_elsewhere x who rs before h = left_on x who rs before ∙ ap (λ s. cond s (list_any tells_leave rs) false || has_left x before) h

left_here : (who : Who) (rs : List Report) (before : Told) → has_left who (told_on who rs before) ≡ (list_any tells_leave rs || has_left who before)
left_here who rs before = left_on who who rs before ∙ ap (λ s. cond s (list_any tells_leave rs) false || has_left who before) (same_who-refl who)

-- reports without a leave tell none
left_silent : (x who : Who) (rs : List Report) (before : Told) → list_any tells_leave rs ≡ false →
    has_left x (told_on who rs before) ≡ has_left x before
left_silent x who rs before h = left_on x who rs before ∙ by_test (same_who who x) (list_any tells_leave rs) h
  where
    by_test : (s t : Bool) → t ≡ false → (cond s t false || has_left x before) ≡ has_left x before
    by_test true true e = absurd (cc (e))
    by_test true false e = refl
    by_test false t e = refl

cond_same : {X : Type 0} (b : Bool) (x y : X) → x ≡ y → cond b x y ≡ y
cond_same true x y e = e
cond_same false x y e = refl

-- who runs under each number, and what was told
pub record Orderly {a : Upper} (c : FabricConfig) (w : World a) (run : Run) : Type 0 where
  pub name : (node : ℕ) (s : Running a) → at node w.nodes ≡ Some s → s.node.ring.me ≡ node_instance node (boots_of (kept_of w node))
  pub counted : (node : ℕ) (s : Running a) → at node w.nodes ≡ Some s → 0 < boots_of (kept_of w node)
  pub own : (node : ℕ) (s : Running a) → at node w.nodes ≡ Some s → own_of s.node.ring.me run ≡ Some (owned_by c s.node.ring)
  pub left : (node : ℕ) (s : Running a) → at node w.nodes ≡ Some s → has_left s.node.ring.me (told run) ≡ is_left s.node.ring.phase
  pub fresh : (x : Who) → boots_of (kept_of w x.actor) < x.instance → has_left x (told run) ≡ false

module _ (a : Upper) (c : FabricConfig) where
  abbrev After : ℕ → Run → Stepped a → Type 0
  After line run st = Orderly c st.world (moment_of {a = a} line st ∷ run)

  -- the node acts
  acted : (line : ℕ) (run : Run) (w : World a) (node reading : ℕ) (pairs : List Pair) (d : Did (NodeState a)) →
      d.state.ring.me ≡ node_instance node (boots_of (kept_of w node ++ d.records)) →
      last_own d.told (own_of d.state.ring.me run) ≡ Some (owned_by c d.state.ring) →
      (list_any tells_leave d.told || has_left d.state.ring.me (told run)) ≡ is_left d.state.ring.phase →
      0 < boots_of (kept_of w node ++ d.records) → Orderly c w run → After line run (node_acted a w node reading pairs d)
  acted line run w node reading pairs d name own left positive o = record {
    counted = λ q s h.
        put_cases (λ (z : Running a). 0 < boots_of (kept_of (node_acted a w node reading pairs d).world q)) node
        (record { node = d.state; reading = reading; pairs = pairs }) w.nodes q s h
        (λ same. subst (λ (k : List Record). 0 < boots_of k) (kept_at q same) positive)
        (λ apart there. subst (λ (k : List Record). 0 < boots_of k) (sym (kept_apart q apart)) (o.counted q s there));
    name = λ q s h.
        put_cases (λ (z : Running a). z.node.ring.me ≡ node_instance q (boots_of (kept_of (node_acted a w node reading pairs d).world q))) node
        (record { node = d.state; reading = reading; pairs = pairs }) w.nodes q s h
        (λ same. name ∙ (λ i. node_instance (same i) (boots_of (kept_at q same i))))
        (λ apart there. o.name q s there ∙ (λ i. node_instance q (boots_of (sym (kept_apart q apart) i))));
    own = λ q s h.
        put_cases (λ (z : Running a). own_of z.node.ring.me (moment_of {a = a} line (node_acted a w node reading pairs d) ∷ run) ≡ Some (owned_by c z.node.ring)) node
        (record { node = d.state; reading = reading; pairs = pairs }) w.nodes q s h
        (λ same. ap (λ b. cond b (last_own d.told (own_of d.state.ring.me run)) (own_of d.state.ring.me run)) (same_who-refl d.state.ring.me) ∙ own)
        (λ apart there. ap (λ b. cond b (last_own d.told (own_of s.node.ring.me run)) (own_of s.node.ring.me run)) (other q s apart there) ∙ o.own q s there);
    left = λ q s h.
        put_cases (λ (z : Running a). has_left z.node.ring.me (told (moment_of {a = a} line (node_acted a w node reading pairs d) ∷ run)) ≡ is_left z.node.ring.phase) node
        (record { node = d.state; reading = reading; pairs = pairs }) w.nodes q s h
        (λ same. left_here d.state.ring.me d.told (told run) ∙ left)
        (λ apart there. left_elsewhere s.node.ring.me d.state.ring.me d.told (told run) (other q s apart there) ∙ o.left q s there);
    fresh = λ x h. left_elsewhere x d.state.ring.me d.told (told run) (same_who_from d.state.ring.me x (λ same. later x h same)) ∙ o.fresh x (before x h);
  }
    where
      actor : d.state.ring.me.actor ≡ node
      actor = ap (λ (z : Who). z.actor) name

      kept_at : (q : ℕ) → node ≡ q → kept_of w node ++ d.records ≡ kept_of (node_acted a w node reading pairs d).world q
      kept_at q same =
          (λ i. kept_of w (same i) ++ d.records)
          ∙ subst (λ (n : ℕ). kept_of w n ++ d.records ≡ kept_of (node_acted a w node reading pairs d).world n) (actor ∙ same)
          (sym (kept_here w d.state.ring.me d.records d.sent))

      kept_apart : (q : ℕ) → (node == q) ≡ false → kept_of (node_acted a w node reading pairs d).world q ≡ kept_of w q
      kept_apart q h = kept_there w d.state.ring.me d.records d.sent q (subst (λ (n : ℕ). (n == q) ≡ false) (sym actor) h)

      other : (q : ℕ) (s : Running a) → (node == q) ≡ false → at q w.nodes ≡ Some s → same_who d.state.ring.me s.node.ring.me ≡ false
      other q s apart there =
          same_who_from d.state.ring.me s.node.ring.me
          (λ same. eqb-false node q apart (sym actor ∙ (ap (λ (z : Who). z.actor) same ∙ ap (λ (z : Who). z.actor) (o.name q s there))))

      -- the number of starts does not fall
      grows : (q : ℕ) → boots_of (kept_of w q) ≤ boots_of (kept_of (node_acted a w node reading pairs d).world q)
      grows q = go (node == q) refl
        where
          go : (b : Bool) → (node == q) ≡ b → boots_of (kept_of w q) ≤ boots_of (kept_of (node_acted a w node reading pairs d).world q)
          go true h =
              let same = eqb-true node q h in
              subst (λ (k : List Record). boots_of (kept_of w q) ≤ boots_of k) (kept_at q same)
              (subst (λ (n : ℕ). boots_of (kept_of w q) ≤ boots_of (kept_of w n ++ d.records)) (sym same) (let sum = boots_append (kept_of w q) d.records in omega arith))
          go false h = let e = ap boots_of (kept_apart q h) in omega arith

      before : (x : Who) → boots_of (kept_of (node_acted a w node reading pairs d).world x.actor) < x.instance →
          boots_of (kept_of w x.actor) < x.instance
      before x h = let g = grows x.actor in omega arith

      later : (x : Who) → boots_of (kept_of (node_acted a w node reading pairs d).world x.actor) < x.instance → d.state.ring.me ≡ x → ⊥
      later x h same =
          let at_node : node ≡ x.actor = sym actor ∙ ap (λ (z : Who). z.actor) same in
          let e = ap boots_of (kept_at x.actor at_node) in
          let i : boots_of (kept_of w node ++ d.records) ≡ x.instance = sym (ap (λ (z : Who). z.instance) name) ∙ ap (λ (z : Who). z.instance) same in
          omega arith

  -- nothing is told of nodes, and the same nodes run
  aside : (line : ℕ) (run : Run) (w : World a) (st : Stepped a) →
      ((q : ℕ) (s : Running a) → at q st.world.nodes ≡ Some s → (r : Running a) × (at q w.nodes ≡ Some r) × (s.node ≡ r.node)) →
      ((q : ℕ) → boots_of (kept_of st.world q) ≡ boots_of (kept_of w q)) →
      ((x : Who) → own_in x st.entry (own_of x run) ≡ own_of x run) →
      ((x : Who) → has_left x (told_in st.entry (told run)) ≡ has_left x (told run)) →
      Orderly c w run → After line run st
  aside line run w st nodes boots own left o = record {
    counted = λ q s h. let r = nodes q s h in let e = boots q in let lt = o.counted q r.0 r.1 in omega arith;
    name = λ q s h.
        let r = nodes q s h in
        ap (λ (z : NodeState a). z.ring.me) r.2 ∙ (o.name q r.0 r.1 ∙ (λ i. node_instance q (sym (boots q) i)));
    own = λ q s h.
        let r = nodes q s h in
        own s.node.ring.me ∙ subst (λ (z : NodeState a). own_of z.ring.me run ≡ Some (owned_by c z.ring)) (sym r.2) (o.own q r.0 r.1);
    left = λ q s h.
        let r = nodes q s h in
        left s.node.ring.me ∙ subst (λ (z : NodeState a). has_left z.ring.me (told run) ≡ is_left z.ring.phase) (sym r.2) (o.left q r.0 r.1);
    fresh = λ x h. left x ∙ o.fresh x (let e = boots x.actor in omega arith);
  }

  same_nodes : (w : World a) (q : ℕ) (s : Running a) → at q w.nodes ≡ Some s → (r : Running a) × (at q w.nodes ≡ Some r) × (s.node ≡ r.node)
  same_nodes w q s h = (s, h, refl)

  -- a clock's reading changes nothing else
  at_ticked : (time : ℕ) (readings : List (ℕ × ℕ)) (es : List (ℕ × Running a)) (q : ℕ) (s : Running a) →
      at q (map (ticked {a = a} time readings) es) ≡ Some s →
      (r : Running a) × (at q es ≡ Some r) × (s.node ≡ r.node)
  at_ticked time readings [] q s h = absurd (cc (h))
  at_ticked time readings (e ∷ es) q s h = go (e.0 == q) refl h (at_ticked time readings es q s)
    where
      go : (b : Bool) → (e.0 == q) ≡ b → cond b (Some (ticked {a = a} time readings e).1) (at q (map (ticked {a = a} time readings) es)) ≡ Some s →
          (at q (map (ticked {a = a} time readings) es) ≡ Some s → (r : Running a) × (at q es ≡ Some r) × (s.node ≡ r.node)) →
          (r : Running a) × (cond (e.0 == q) (Some e.1) (at q es) ≡ Some r) × (s.node ≡ r.node)
      go true f g again =
          let same : (ticked {a = a} time readings e).1 ≡ s = cc (g) in
          (e.1, ap (λ b. cond b (Some e.1) (at q es)) f, sym (ap (λ (z : Running a). z.node) same))
      go false f g again = let r = again g in (r.0, ap (λ b. cond b (Some e.1) (at q es)) f ∙ r.1, r.2)

  module _ (stays : StaysAbove a) (line : ℕ) (run : Run) (w : World a) (o : Orderly c w run) where
    pub begins_with : (node reading : ℕ) (d : Did (NodeState a)) →
        Begun c (record { actor = node; instance = instance_begun (kept_of w node) }) d.state.ring d.told →
        instance_begun (kept_of w node) ≡ boots_of (kept_of w node) + boots_of d.records →
        (is_spent (kept_of w node) ≡ true → list_any tells_leave d.told ≡ true) → After line run (node_acted a w node reading ((w.time, reading) ∷ []) d)
    begins_with node reading d b count spent =
        acted line run w node reading ((w.time, reading) ∷ []) d
        (b.name ∙ (λ i. node_instance node ((count ∙ sym (boots_append (kept_of w node) d.records)) i)))
        (b.own (own_of d.state.ring.me run))
        (by_spent (is_spent (kept_of w node)) refl) (subst (λ n. 0 < n) (count ∙ sym (boots_append (kept_of w node) d.records)) (begun_positive (kept_of w node))) o
      where
        by_spent : (t : Bool) → is_spent (kept_of w node) ≡ t →
            (list_any tells_leave d.told || has_left d.state.ring.me (told run)) ≡ is_left d.state.ring.phase
        by_spent true h = ap (λ t. t || has_left d.state.ring.me (told run)) (spent h) ∙ sym (sym b.leaves ∙ spent h)
        by_spent false h =
            let next : instance_begun (kept_of w node) ≡ boots_of (kept_of w node) + 1 = ap (λ t. cond t (boots_of (kept_of w node)) (boots_of (kept_of w node) + 1)) h in
            let new : has_left d.state.ring.me (told run) ≡ false =
            o.fresh d.state.ring.me (subst (λ (x : Who). boots_of (kept_of w x.actor) < x.instance) (sym b.name) (omega arith)) in
            ap (λ t. list_any tells_leave d.told || t) new ∙ (or_false (list_any tells_leave d.told) ∙ b.leaves)

    acts_with : (node : ℕ) (s : Running a) (d : Did (NodeState a)) → at node w.nodes ≡ Some s → Acted c s.node.ring d.state.ring d.records d.told →
        After line run (node_acted a w node s.reading s.pairs d)
    acts_with node s d there t =
        acted line run w node s.reading s.pairs d
        (t.name ∙ (o.name node s there ∙ (λ i. node_instance node (count i))))
        (ap (λ x. last_own d.told (own_of x run)) t.name ∙ (ap (last_own d.told) (o.own node s there) ∙ t.own))
        ((λ i. list_any tells_leave d.told || (ap (λ x. has_left x (told run)) t.name ∙ o.left node s there) i) ∙ t.leaves)
        (let lt = o.counted node s there in let e = count in omega arith) o
      where
        count : boots_of (kept_of w node) ≡ boots_of (kept_of w node ++ d.records)
        count = let sum = boots_append (kept_of w node) d.records in let none = no_boots d.records t.apart in omega arith

    rules_with : (arbiter : ℕ) (s : ArbiterState a) (d : Did (ArbiterState a)) → Answered s.table d.state.table d.records d.told →
        After line run (arbiter_acted a w arbiter d)
    rules_with arbiter s d t =
        aside line run w (arbiter_acted a w arbiter d) (same_nodes w) boots
        (λ x. cond_same (same_who (arbiter_who arbiter) x) (last_own d.told (own_of x run)) (own_of x run) (ap (λ rs. last_own rs (own_of x run)) t.silent))
        (λ x. ap (λ rs. has_left x (told_on (arbiter_who arbiter) rs (told run))) t.silent) o
      where
        boots : (q : ℕ) → boots_of (kept_of (arbiter_acted a w arbiter d).world q) ≡ boots_of (kept_of w q)
        boots = boots_still w (arbiter_who arbiter) d.records d.sent t.boots

    silently : (x who : Who) (rs : List Report) → last_own rs (own_of x run) ≡ own_of x run →
        cond (same_who who x) (last_own rs (own_of x run)) (own_of x run) ≡ own_of x run
    silently x who rs h = cond_same (same_who who x) (last_own rs (own_of x run)) (own_of x run) h

    pub orderly_cases : (e : Event) → Cases a c w e (After line run)
    orderly_cases e = record {
      still = aside line run w (quiet a w) (same_nodes w) (λ q. refl) (λ x. refl) (λ x. refl) o;
      begins = λ node reading h.
          begins_with node reading (node_begun a c node (kept_of w node)) (node_begun-told a c node (kept_of w node))
          (begun_boots a c node (kept_of w node)) (begun_spent a c node (kept_of w node));
      stops = λ node s h.
          aside line run w (node_stops a w node (Some s))
          (λ q r g. let still = without_cases node w.nodes q r g in (r, still.1, refl))
          (λ q. refl) (λ x. silently x s.node.ring.me (Stopped ∷ []) refl) (λ x. left_silent x s.node.ring.me (Stopped ∷ []) (told run) refl) o;
      ticks = λ advance readings h.
          aside line run w (ticks a w (w.time + advance) readings) (at_ticked (w.time + advance) readings w.nodes) (λ q. refl) (λ x. refl) (λ x. refl) o;
      acts = λ node i s there came. acts_with node s (node_step a c s.reading i s.node) there (node_acted-told a stays c s.reading i s.node);
      table_begins = λ actor h.
          aside line run w (starts_with a c w actor None (kept_of w actor)) (same_nodes w) (λ q. refl)
          (λ x. silently x (arbiter_who (arbiter_number actor)) [] refl) (λ x. refl) o;
      table_stops = λ arbiter s h.
          aside line run w (arbiter_stops a w arbiter (Some s)) (same_nodes w) (λ q. refl) (λ x. silently x (arbiter_who arbiter) (Stopped ∷ []) refl)
          (λ x. left_silent x (arbiter_who arbiter) (Stopped ∷ []) (told run) refl) o;
      rules = λ arbiter f s h m to. rules_with arbiter s (arbiter_step a c arbiter f s) (arbiter_stepped a stays c arbiter f s);
    }

  pub orderly : StaysAbove a → (h : History) → Orderly c (world_after a c h) (run_of a c h)
  orderly stays [] = record {
    name = λ node s there. absurd (cc (there));
    counted = λ node s there. absurd (cc (there));
    own = λ node s there. absurd (cc (there));
    left = λ node s there. absurd (cc (there));
    fresh = λ x lt. refl;
  }
  orderly stays (e ∷ h) =
      by_cases a c (world_after a c h) e.1 (After e.0 (run_of a c h))
      (orderly_cases stays e.0 (run_of a c h) (world_after a c h) (orderly stays h) e.1) e.1 refl

pub last_own_is_held_lem : (a : Upper) → StaysAbove a → LastOwnIsHeld a
last_own_is_held_lem a stays c h node s there = (orderly a c stays h).own node s there

pub leave_is_told_lem : (a : Upper) → StaysAbove a → LeaveIsTold a
leave_is_told_lem a stays c h node s there = (orderly a c stays h).left node s there

pub instances_are_counted_lem : (a : Upper) → StaysAbove a → InstancesAreCounted a
instances_are_counted_lem a stays c h node s there = (orderly a c stays h).name node s there
