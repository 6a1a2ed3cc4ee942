-- Of a run in which an instance ends there is another in which it goes on without a step, and all others do the same.
use Rattle.std.specs.Prelude.{◌==◌, drop, is_some, not}
use Rattle.std.proofs.Common.{◌≡◌, ℕ, suc, ◌+◌, Bool, true, false, ◌&&◌, ◌||◌, List, [], ◌∷◌, ◌++◌, Option, Some, None, refl, sym, ap, ◌∙◌, subst}
use Rattle.std.proofs.lemmas.Bool.{both_ways, eq-eqb}
use Rattle.cold_start.proofs.OneLife.{valid_one, world_one}
use Rattle.cold_start.proofs.Steps.{life_first}
use Rattle.cold_start.specs.Lives.{lives_world, one_life}
use Rattle.world_rules.specs.Starts.{first_whole}
use Rattle.drift_clock.specs.Within.{FitsAll}
use Rattle.fabric_lemmas.specs.Maps.{at, rises}
use Rattle.fabric_terms.specs.declared.config.FabricConfig.{FabricConfig}
use Rattle.fabric_terms.specs.declared.event.Event.{Event}
use Rattle.fabric_terms.specs.declared.event.Event.TheVariants.{Stop}
use Rattle.fabric_terms.specs.declared.record.Record.{Record}
use Rattle.fabric_terms.specs.declared.report.Report.{Report}
use Rattle.fabric_terms.specs.Places.{has_left}
use Rattle.fabric_terms.specs.Reports.{Told, told, told_in, told_on}
use Rattle.fabric_terms.specs.Runs.{Entry, own_in, own_of}
use Rattle.fabric_terms.specs.Sound.{IsSound}
use Rattle.fabric_terms.specs.TakeOvers.{tells_take_over}
use Rattle.join_phases.specs.Phases.{is_left}
use Rattle.ring_points.specs.declared.who.Who.{Who}
use Rattle.ring_points.specs.Whos.{same_who}
use Rattle.run_facts.proofs.Clocks.{Reads, reads, rising}
use Rattle.run_facts.proofs.Kept.{at_without_other, without_cases}
use Rattle.run_facts.proofs.Orderly.{Orderly, orderly}
use Rattle.run_facts.proofs.Steps.{node_acted-told}
use Rattle.world_rules.proofs.Rows.{world_step-stop}
use Rattle.world_rules.specs.Above.{StaysAbove}
use Rattle.world_rules.specs.Events.{is_arbiter_actor, node_acts, node_stops, stops, world_step}
use Rattle.world_rules.specs.Nodes.{NodeState, node_step}
use Rattle.world_rules.specs.Runs.{History, run_of, world_after}
use Rattle.world_rules.specs.Schedules.{MayCome, Valid}
use Rattle.world_rules.specs.Uppers.{Upper, Did}
use Rattle.world_rules.specs.Worlds.{World, Running, Stepped, numbers_of}
use Rattle.span_safety.specs.Ends.{Ends, LeavesSilently, NoStart, leaves, stops as stops_so, taken_by_other}
use Rattle.span_safety.specs.Lengths.{OneLength, UnlessBegun, begins, brings_length}
use Rattle.span_safety.proofs.Became.{Became, acted, after_step, became, began, showed, stayed}
use Rattle.span_safety.proofs.Beside.{Beside, IsOf, Next, along, does_itself, lost, silent_beside, silent_same, world_with}
use Rattle.span_safety.proofs.Clocks.{Timed, timed}
use Rattle.span_safety.proofs.Events.{next}
use Rattle.span_safety.proofs.Numbers.{starts_free}
use Rattle.span_safety.proofs.Rates.{fits_on}
use Rattle.span_safety.proofs.Silent.{none_numbered, records_nothing}

unless : (b : Bool) (Before : Type 0) → b ≡ false → Before → UnlessBegun b Before
unless true Before h k = tt
unless false Before h k = k

-- the same reports after what tells the same
told_alike : (x : Who) (o : Option Entry) (m n : Told) → taken_by_other x m ≡ taken_by_other x n → taken_by_other x (told_in o m) ≡ taken_by_other x (told_in o n)
told_alike x None m n h = h
told_alike x (Some e) m n h = go e.reports m n h
  where
    go : (rs : List Report) (m n : Told) → taken_by_other x m ≡ taken_by_other x n → taken_by_other x (told_on e.who rs m) ≡ taken_by_other x (told_on e.who rs n)
    go [] m n h = h
    go (r ∷ rs) m n h = go rs ((e.who, r) ∷ m) ((e.who, r) ∷ n) (ap (λ t. (not (same_who e.who x) && tells_take_over x r) || t) h)

module _ (a : Upper) (stays : StaysAbove a) (is_frame : List ℕ → Bool) (c : FabricConfig) (sound : IsSound c) (earlier : History) (end : ℕ × Event) (x : Who)
    (s : Running a) (here : at x.actor (world_after a c earlier).nodes ≡ Some s) (named : s.node.ring.me ≡ x) (left : is_left s.node.ring.phase ≡ false)
    (is_node : is_arbiter_actor x.actor ≡ false) (even : OneLength a c x.actor (one_life earlier)) where
  -- what happened, the end of the instance and what came later
  abbrev pub Whole : History → History
  Whole later = later ++ end ∷ earlier

  -- the same without the end, so that the instance goes on
  pub record GoesOn (later : History) : Type 0 where
    pub history : History
    pub nodes : List (ℕ × Running a)
    pub kept : List (ℕ × List Record)
    pub is : world_after a c history ≡ world_with (world_after a c (Whole later)) nodes kept
    pub beside : Beside x s.node (world_after a c (Whole later)) nodes kept
    pub valid : Valid a is_frame c history
    pub one : OneLength a c x.actor (one_life history)
    pub own : (z : Who) → same_who x z ≡ false → own_of z (run_of a c history) ≡ own_of z (run_of a c (Whole later))
    pub tells : taken_by_other x (told (run_of a c history)) ≡ taken_by_other x (told (run_of a c (Whole later)))
    -- each moment before the end is one of this run
    pub before : (ago : ℕ) → (k : ℕ) × (drop k (run_of a c history) ≡ drop ago (run_of a c earlier))

  abbrev w : World a
  w = world_after a c earlier

  -- the end, of which nothing comes for others
  at_first : (st : Stepped a) → Valid a is_frame c earlier → world_step a c w end.1 ≡ st → Beside x s.node st.world w.nodes w.kept →
      world_with st.world w.nodes w.kept ≡ w → IsOf x st.entry → GoesOn []
  at_first st valid does beside same mine = record {
    history = earlier;
    nodes = w.nodes;
    kept = w.kept;
    is = sym same ∙ ap (λ (z : Stepped a). world_with z.world w.nodes w.kept) (sym does);
    beside = subst (λ (z : Stepped a). Beside x s.node z.world w.nodes w.kept) (sym does) beside;
    valid = valid;
    one = even;
    own = λ z other. sym (ap (λ (y : Stepped a). own_in z y.entry (own_of z (run_of a c earlier))) does ∙ mine.own z (own_of z (run_of a c earlier)) other);
    tells = sym (ap (λ (y : Stepped a). taken_by_other x (told_in y.entry (told (run_of a c earlier)))) does ∙ mine.told (told (run_of a c earlier)));
    before = λ ago. (ago, refl);
  }

  -- its node stops
  at_stop : Valid a is_frame c earlier → end.1 ≡ Stop x.actor → GoesOn []
  at_stop valid h =
      at_first (node_stops a w x.actor (Some s)) valid
      (ap (world_step a c w) h ∙ (world_step-stop a c w x.actor ∙ (ap (stops a w x.actor) is_node ∙ ap (node_stops a w x.actor) here))) (record {
        gone = λ r g. let f = without_cases x.actor w.nodes x.actor r g in absurd (both_ways (x.actor == x.actor) f.0 (eq-eqb x.actor x.actor refl));
        ghost = s;
        there = here;
        still = refl;
        others = λ q g. sym (at_without_other x.actor w.nodes q g);
        alike = λ q. refl;
      }) refl (does_itself x _ named)

  -- it leaves, and sends nothing
  at_leave : Valid a is_frame c (end ∷ earlier) → LeavesSilently (run_of a c (end ∷ earlier)) x → GoesOn []
  at_leave valid k = go (became a (first_whole c) c w x.actor end.1 r.state (ap (λ (st : Stepped a). at x.actor st.world.nodes) (life_first a c w end.1) ∙ there))
    where
      r : Reads (world_after a c (end ∷ earlier)).nodes x k.reading
      r = reads a c (end ∷ earlier) x k.reading k.runs

      o : Orderly c (world_after a c (end ∷ earlier)) (run_of a c (end ∷ earlier))
      o = orderly a c stays (end ∷ earlier)

      number : r.number ≡ x.actor
      number = sym (ap (λ (z : Who). z.actor) (o.name r.number r.state r.here)) ∙ ap (λ (z : Who). z.actor) r.name

      there : at x.actor (world_after a c (end ∷ earlier)).nodes ≡ Some r.state
      there = subst (λ n. at n (world_after a c (end ∷ earlier)).nodes ≡ Some r.state) number r.here

      gone : is_left r.state.node.ring.phase ≡ true
      gone = sym (o.left r.number r.state r.here) ∙ (ap (λ y. has_left y (told (run_of a c (end ∷ earlier)))) r.name ∙ k.left)

      same : (z : Running a) → at x.actor (world_after a c earlier).nodes ≡ Some z → s ≡ z
      same z was = cc (here, was)

      go : Became a (first_whole c) c (world_after a c earlier) end.1 x.actor r.state → GoesOn []
      go (stayed other was) =
          absurd (both_ways (is_left r.state.node.ring.phase) (sym (ap (λ (z : Running a). is_left z.node.ring.phase) (same r.state was)) ∙ left) gone)
      go (showed z time reading other was is) =
          absurd (both_ways (is_left r.state.node.ring.phase)
          (ap (λ (y : Running a). is_left y.node.ring.phase) is ∙ (sym (ap (λ (y : Running a). is_left y.node.ring.phase) (same z was)) ∙ left)) gone)
      go (began reading start is) =
          absurd (both_ways true (sym (starts_free is_frame c (world_after a c earlier) x.actor end.1 start valid.1.there ∙ refl) ∙ ap (λ (o : Option (Running a)). not (is_some o)) here) refl)
      go (acted i z other was calm does is) =
          let d : Did (NodeState a) = node_step a c s.reading i s.node in
          let stepped : world_step a c (world_after a c earlier) end.1 ≡ node_acts a c (world_after a c earlier) x.actor i s =
          sym (life_first a c (world_after a c earlier) end.1) ∙ (does ∙ ap (node_acts a c (world_after a c earlier) x.actor i) (sym (same z was))) in
          let t = node_acted-told a stays c s.reading i s.node in
          let off : is_left d.state.ring.phase ≡ true =
          ap (λ (y : Running a). is_left (after_step a c i y).node.ring.phase) (same z was) ∙ (sym (ap (λ (y : Running a). is_left y.node.ring.phase) is) ∙ gone) in
          let last : Some (record { who = d.state.ring.me; reading = Some s.reading; sent = numbers_of (world_after a c earlier).count d.sent; reports = d.told }) ≡ Some k.entry =
          sym (ap (λ (y : Stepped a). y.entry) stepped) ∙ k.last in
          let same_entry : record { who = d.state.ring.me; reading = Some s.reading; sent = numbers_of (world_after a c earlier).count d.sent; reports = d.told } ≡ k.entry = cc (last) in
          let numbers : numbers_of (world_after a c earlier).count d.sent ≡ k.entry.sent = ap (λ (y : Entry). y.sent) same_entry in
          let sends : d.sent ≡ [] = none_numbered (world_after a c earlier).count d.sent (numbers ∙ k.silent) in
          let keeps : d.records ≡ [] = records_nothing a c s.reading i s.node off in
          at_first (node_acts a c (world_after a c earlier) x.actor i s) valid.0 stepped
          (silent_beside x (world_after a c earlier) s.reading s.pairs d (t.name ∙ named) off keeps sends s.node (world_after a c earlier).nodes (world_after a c earlier).kept s here refl (λ q g. refl) (λ q. refl))
          (silent_same x (world_after a c earlier) s.reading s.pairs d (t.name ∙ named) off keeps sends (world_after a c earlier).nodes (world_after a c earlier).kept)
          (does_itself x _ (t.name ∙ named))

  -- the clock of the node may go on at the rate of true time
  fits : (later : History) (g : GoesOn later) (advance : ℕ) →
      FitsAll c.bound g.beside.ghost.pairs ((world_after a c (Whole later)).time + advance, g.beside.ghost.reading + advance)
  fits later g advance =
      subst (λ n. FitsAll c.bound g.beside.ghost.pairs (n + advance, g.beside.ghost.reading + advance)) time
      (fits_on c.bound g.beside.ghost.pairs ((lives_world a c (one_life g.history)).time, g.beside.ghost.reading) advance (λ pair m. t.within pair.0 pair.1 m))
    where
      world : lives_world a c (one_life g.history) ≡ world_with (world_after a c (Whole later)) g.nodes g.kept
      world = world_one a c g.history ∙ g.is

      time : (lives_world a c (one_life g.history)).time ≡ (world_after a c (Whole later)).time
      time = ap (λ (w : World a). w.time) world

      t : Timed c (lives_world a c (one_life g.history)) g.beside.ghost
      t =
          timed a stays is_frame c sound (one_life g.history) (valid_one a c is_frame g.history g.valid) x.actor g.beside.ghost
          (ap (λ (w : World a). at x.actor w.nodes) world ∙ g.beside.there)
          (ap (λ (z : NodeState a). is_left z.ring.phase) g.beside.still ∙ left)

  -- one event more
  go_on : (later : History) (e : ℕ × Event) → Valid a is_frame c (Whole (e ∷ later)) → begins x.actor e.1 ≡ false → GoesOn later → GoesOn (e ∷ later)
  go_on later e valid starts g =
      after_next (world_step a c (world_after a c (Whole later)) e.1) refl
      (next a stays is_frame c x s.node (world_after a c (Whole later)) g.nodes g.kept g.beside is_node (rising a c (Whole later))
      (ap (λ (z : World a). rises z.nodes) (sym g.is) ∙ rising a c g.history) (fits later g) e.1 valid.1 starts)
    where
      after_next : (st : Stepped a) → st ≡ world_step a c (world_after a c (Whole later)) e.1 →
          Next a is_frame c x s.node (world_after a c (Whole later)) g.nodes g.kept st → GoesOn (e ∷ later)
      after_next st same (lost beside nothing mine) = record {
        history = g.history;
        nodes = g.nodes;
        kept = g.kept;
        is = g.is ∙ (sym nothing ∙ ap (λ (z : Stepped a). world_with z.world g.nodes g.kept) same);
        beside = subst (λ (z : Stepped a). Beside x s.node z.world g.nodes g.kept) same beside;
        valid = g.valid;
        one = g.one;
        own = λ z other.
            g.own z other
            ∙ (sym (mine.own z (own_of z (run_of a c (Whole later))) other) ∙ ap (λ (y : Stepped a). own_in z y.entry (own_of z (run_of a c (Whole later)))) same);
        tells =
            g.tells
            ∙ (sym (mine.told (told (run_of a c (Whole later)))) ∙ ap (λ (y : Stepped a). taken_by_other x (told_in y.entry (told (run_of a c (Whole later))))) same);
        before = g.before;
      }
      after_next st same (along d then keeps plain calm may beside does) = record {
        history = (e.0, d) ∷ g.history;
        nodes = then;
        kept = keeps;
        is = ap (λ (z : Stepped a). z.world) stepped;
        beside = subst (λ (z : Stepped a). Beside x s.node z.world then keeps) same beside;
        valid = (g.valid, subst (λ (z : World a). MayCome is_frame c z d) (sym g.is) may);
        one = unless (begins x.actor d) _ plain (ap (λ (z : World a). brings_length z x.actor d) (world_one a c g.history ∙ g.is) ∙ calm, g.one);
        own = λ z other i. own_in z (stepped i).entry (g.own z other i);
        tells =
            told_alike x (world_step a c (world_after a c g.history) d).entry (told (run_of a c g.history)) (told (run_of a c (Whole later))) g.tells
            ∙ ap (λ (y : Stepped a). taken_by_other x (told_in y.entry (told (run_of a c (Whole later))))) stepped;
        before = λ ago. let k = g.before ago in (suc k.0, k.1);
      }
        where
          stepped : world_step a c (world_after a c g.history) d ≡
              record { world = world_with (world_step a c (world_after a c (Whole later)) e.1).world then keeps; entry = (world_step a c (world_after a c (Whole later)) e.1).entry }
          stepped =
              ap (λ (z : World a). world_step a c z d) g.is
              ∙ (does ∙ ap (λ (z : Stepped a). record { world = world_with z.world then keeps; entry = z.entry }) same)

  ending : Valid a is_frame c (end ∷ earlier) → Ends a c x earlier end → GoesOn []
  ending valid (stops_so h) = at_stop valid.0 h
  ending valid (leaves k) = at_leave valid k

  pub goes_on : (later : History) → Valid a is_frame c (Whole later) → Ends a c x earlier end → NoStart x.actor later → GoesOn later
  goes_on [] valid ends none = ending valid ends
  goes_on (e ∷ later) valid ends none = go_on later e valid none.0 (goes_on later valid.0 ends none.1)
