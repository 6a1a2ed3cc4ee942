-- The machine follows the start of a node.
use Rattle.std.proofs.Common.{◌≡◌, ℕ, ◌+◌, Bool, true, false, cond, not, ◌||◌, List, [], ◌∷◌, ◌++◌, Some, refl, sym, ap, ◌∙◌, subst, arith}
use Rattle.std.specs.Prelude.{◌==◌, is_some}
use Rattle.std.specs.List.{list_any}
use Rattle.std.proofs.lemmas.Bool.{and_parts, both_ways, not-true, eqb-true}
use Rattle.std.proofs.lemmas.List.Folds.{list_any-append}
use Rattle.drift_clock.specs.Within.{Pair}
use Rattle.fabric_terms.specs.declared.config.FabricConfig.{FabricConfig}
use Rattle.fabric_terms.specs.declared.record.Record.{Record}
use Rattle.fabric_terms.specs.declared.record.Record.TheVariants.{Boot}
use Rattle.fabric_terms.specs.declared.report.Report.TheVariants.{Own}
use Rattle.join_phases.specs.Phases.{is_left}
use Rattle.ring_points.specs.declared.who.Who.{Who}
use Rattle.ring_points.specs.Whos.{node_instance, same_who}
use Rattle.ring_machine.specs.World as machine
use Rattle.ring_machine.specs.World.{Instance, Running, born}
use Rattle.ring_machine.specs.Events as events
use Rattle.ring_machine.specs.Events.{Starts, next_instance, started}
use Rattle.ring_machine.proofs.Histories.{EventDone, event_done}
use Rattle.ring_points.proofs.Whos.{same_who-refl}
use Rattle.ring_refinement.specs.Images.{machine_of}
use Rattle.ring_refinement.proofs.Starting.{spent_is_left_lem, start_is_shown_lem}
use Rattle.ring_refinement.specs.Moves.{MovedBy}
use Rattle.ring_refinement.specs.Shown.{Shows}
use Rattle.ring_rules.specs.Arbiters.{Table, table_after}
use Rattle.ring_rules.specs.Rings.{Work}
use Rattle.ring_rules.specs.Slots.{fence_of}
use Rattle.ring_rules.specs.Starts.{node_started, start_first}
use Rattle.fabric_lemmas.specs.Maps.{at}
use Rattle.world_rules.specs.Nodes.{NodeState, boot_kept, boots_of, begun_as, instance_begun, is_spent}
use Rattle.world_rules.specs.Schedules.{may_start, is_configured_node, node_runs}
use Rattle.world_rules.specs.Uppers.{Upper, Did}
use Rattle.world_rules.specs.Worlds as real
use Rattle.world_rules.specs.Worlds.{World, kept_of, node_acted}
use Rattle.world_rules.specs.Starts.{node_begun_in, started_in}
use Rattle.world_rules.proofs.Starts.{node_begun_in-is, started_in-is}
use Rattle.run_facts.proofs.Starts.{started_in_as}
use Rattle.ring_safety.proofs.ActFollows.{Followed, Numbered, named}
use Rattle.ring_safety.proofs.Follows.{Follows, ShowsClock, places_in, next_of}
use Rattle.run_facts.proofs.Kept.{kept_here, kept_there, boots_append}
use Rattle.ring_safety.proofs.Moves.{moves, none_moves, none_over}
use Rattle.ring_safety.proofs.NodeFollows.{Follow, node_follows}
use Rattle.ring_safety.proofs.Tales.{Tale, tale_in}

-- what a start tells moves nothing
started_moves : (whole : Who) (c : FabricConfig) (me : Who) (spent : Bool) → list_any moves (started_in whole c me spent).told ≡ false
unfolding started_in node_started
started_moves whole c me true = refl
started_moves whole c me false = go (same_who me whole)
  where
    go : (b : Bool) → list_any moves (start_first c me b).told ≡ false
    go true = refl
    go false = refl

-- where all numbers are used up it has left, and else not

spent_left : (whole : Who) (c : FabricConfig) (me : Who) → is_left (started_in whole c me true).ring.phase ≡ true
unfolding started_in node_started
spent_left whole c me = refl

boot_accuses : (recs : List Record) (table : Table) → table_after table (boot_kept recs) ≡ table
boot_accuses recs table = go (is_spent recs)
  where
    go : (b : Bool) → table_after table (cond b [] (Boot (instance_begun recs) ∷ [])) ≡ table
    go true = refl
    go false = refl

-- the starts of a node after its start, by whether all numbers are used up
boots_now : (recs : List Record) (b : Bool) → is_spent recs ≡ b → boots_of (recs ++ boot_kept recs) ≡ cond b (boots_of recs) (boots_of recs + 1)
boots_now recs b h = boots_append recs (boot_kept recs) ∙ go b h
  where
    go : (b : Bool) → is_spent recs ≡ b → boots_of recs + boots_of (boot_kept recs) ≡ cond b (boots_of recs) (boots_of recs + 1)
    go true h = let none : boots_of (boot_kept recs) ≡ 0 = ap (λ s. boots_of (cond s [] (Boot (instance_begun recs) ∷ []))) h in omega arith
    go false h = let one : boots_of (boot_kept recs) ≡ 1 = ap (λ s. boots_of (cond s [] (Boot (instance_begun recs) ∷ []))) h in omega arith

begun_number : (recs : List Record) (b : Bool) → is_spent recs ≡ b → instance_begun recs ≡ cond b (boots_of recs) (boots_of recs + 1)
begun_number recs b h = ap (λ s. cond s (boots_of recs) (boots_of recs + 1)) h

-- a node that may start does not run
pub nobody_runs : {a : Upper} (c : FabricConfig) (w : World a) (node reading : ℕ) → may_start c w node (Some reading) ≡ true →
    (s : real.Running a) → at node w.nodes ≡ Some s → ⊥
nobody_runs c w node reading h s there =
    let both : (is_configured_node c node ≡ true) × (not (node_runs w node) ≡ true) = and_parts (is_configured_node c node) (not (node_runs w node)) h in
    let stopped : is_some (at node w.nodes) ≡ false = not-true (node_runs w node) both.1 in
    let runs : is_some (at node w.nodes) ≡ true = ap (λ o. is_some o) there in
    cc (stopped, runs)

module _ (a : Upper) (c : FabricConfig) (w : World a) (t : Tale) (m : machine.World) (n : Numbered w) (f : Follows c w t m) (node reading : ℕ)
    (alone : (s : real.Running a) → at node w.nodes ≡ Some s → ⊥) where
  abbrev recs : List Record
  recs = kept_of w node

  abbrev me : Who
  me = node_instance node (instance_begun recs)

  abbrev k : Work
  k = started_in t.whole c me (is_spent recs)

  abbrev d : Did (NodeState a)
  d = begun_as a c me recs k

  -- the first pair of the boot
  abbrev pairs : List Pair
  pairs = (w.time, reading) ∷ []

  abbrev after : World a
  after = (node_acted a w node reading pairs d).world

  named_me : k.ring.me ≡ me
  named_me = (started_in_as t.whole c me (is_spent recs)).0

  told_moves : list_any moves d.told ≡ false
  told_moves =
      list_any-append moves k.told (Own k.ring.token.ranges (fence_of c.answer k.ring.slots) ∷ [])
      ∙ ap (λ b. b || false) (started_moves t.whole c me (is_spent recs))

  -- the starts of each node after it
  boots_after : (b : Bool) → is_spent recs ≡ b → (q : ℕ) →
      boots_of (kept_of after q) ≡ cond (node == q) (cond b (boots_of recs) (boots_of recs + 1)) (boots_of (kept_of w q))
  boots_after b h q = go (node == q) refl
    where
      at_node : k.ring.me.actor ≡ node
      at_node = ap (λ (z : Who). z.actor) named_me

      here : boots_of (kept_of after node) ≡ cond b (boots_of recs) (boots_of recs + 1)
      here =
          subst (λ z. boots_of (kept_of after z) ≡ boots_of (kept_of w z ++ boot_kept recs)) at_node
          (ap boots_of (kept_here w k.ring.me (boot_kept recs) []))
          ∙ boots_now recs b h

      go : (e : Bool) → (node == q) ≡ e → boots_of (kept_of after q) ≡ cond e (cond b (boots_of recs) (boots_of recs + 1)) (boots_of (kept_of w q))
      go true e = subst (λ z. boots_of (kept_of after z) ≡ cond b (boots_of recs) (boots_of recs + 1)) (eqb-true node q e) here
      go false e = ap boots_of (kept_there w k.ring.me (boot_kept recs) [] q (ap (λ z. z == q) at_node ∙ e))

  -- where all numbers are used up, nothing happens on the machine
  spent_follows : is_spent recs ≡ true → Follow c w t m m me node reading pairs d
  spent_follows h = record {
    name = named_me;
    actor = refl;
    before = λ s there. absurd (alone s there);
    inv = f.inv;
    time = f.time;
    whole = refl;
    starts = λ q. f.starts q ∙ sym (boots_after true h q ∙ same (node == q) q refl);
    shows =
        subst (λ b. Shows c m me (started_in t.whole c me b).ring) (sym h)
        (subst (λ (u : Work). Shows c m me u.ring) (sym (started_in-is t.whole c me true)) (spent_is_left_lem c m me (λ runs. let r = f.runs me runs in alone r.state r.here)));
    clock = λ stay. absurd (both_ways (is_left k.ring.phase) stay (ap (λ b. is_left (started_in t.whole c me b).ring.phase) h ∙ spent_left t.whole c me));
    others = λ y apart. refl;
    sent = λ g e. e;
    tables = refl;
    claims = refl;
    accuses = boot_accuses recs;
    says = λ s e. absurd e;
    moved = none_moves me d.told (next_of m me) (places_in t m) told_moves;
    dies = λ y dead. dead;
    over = none_over (machine_of c) m d.told told_moves;
  }
    where
      same : (b : Bool) (q : ℕ) → (node == q) ≡ b → cond b (boots_of recs) (boots_of (kept_of w q)) ≡ boots_of (kept_of w q)
      same true q e = ap (λ z. boots_of (kept_of w z)) (eqb-true node q e)
      same false q e = refl

  -- else the node's next instance starts there

  abbrev x : Who
  x = next_instance m node

  abbrev v : machine.World
  v = started (machine_of c) m node reading

  abbrev first : Instance
  first = born m.whole m.time x reading

  it_starts : v.instance x ≡ first
  it_starts = ap (λ b. cond b first (m.instance x)) (same_who-refl x)

  -- it has given no flight before
  same_next : next_of m x ≡ next_of v x
  same_next =
      ap (λ (i : Instance). i.token.next_flight) (f.inv.blank x (f.inv.not_started x (omega arith)))
      ∙ sym (ap (λ (i : Instance). i.token.next_flight) it_starts)

  new_follows : events.IsSound (machine_of c) → is_spent recs ≡ false → Follow c w t m v x node reading pairs d
  new_follows sound h = record {
    name = named_me ∙ is_next;
    actor = refl;
    before = λ s there. absurd (alone s there);
    inv = done.inv;
    time = f.time;
    whole = refl;
    starts = λ q. starts (node == q) q refl ∙ sym (boots_after false h q);
    shows =
        subst (λ (z : Who × Bool). Shows c v x (started_in t.whole c z.0 z.1).ring) (λ i. (sym is_next i, sym h i))
        (subst (λ (u : Work). Shows c v x u.ring) (sym (started_in-is t.whole c x false))
        (subst (λ (z : Who). Shows c v x (start_first c x (same_who x z)).ring) f.whole (start_is_shown_lem c node reading m)));
    clock = λ stay. subst (λ (i : Instance). ShowsClock i reading pairs) (sym it_starts) (record { reads = refl; read = λ i. (f.time i, reading) ∷ [] });
    others = λ y apart. ap (λ b. cond b first (m.instance y)) apart;
    sent = λ g e. e;
    tables = refl;
    claims = refl;
    accuses = boot_accuses recs;
    says = λ s e. absurd e;
    moved =
        subst (λ z. MovedBy x d.told (next_of m x) (places_in t m) z (places_in t m)) same_next
        (none_moves x d.told (next_of m x) (places_in t m) told_moves);
    dies = done.later.dies;
    over = none_over (machine_of c) v d.told told_moves;
  }
    where
      done : EventDone (machine_of c) m v
      done = event_done sound f.inv (Starts node reading) tt

      is_next : me ≡ x
      is_next = λ i. node_instance node ((begun_number recs false h ∙ ap (λ z. z + 1) (sym (f.starts node))) i)

      starts : (b : Bool) (q : ℕ) → (node == q) ≡ b → cond b (m.starts node + 1) (m.starts q) ≡ cond b (boots_of recs + 1) (boots_of (kept_of w q))
      starts true q e = ap (λ z. z + 1) (f.starts node)
      starts false q e = f.starts q

  abbrev FollowedAs : Did (NodeState a) → Type 0
  FollowedAs z = Followed c (node_acted a w node reading pairs z).world (tale_in (node_acted a w node reading pairs z).entry t)

  pub begins_follow : events.IsSound (machine_of c) → FollowedAs (node_begun_in a t.whole c node recs)
  begins_follow sound = subst FollowedAs (sym (node_begun_in-is a t.whole c node recs)) (by_spent (is_spent recs) refl)
    where
      by_spent : (b : Bool) → is_spent recs ≡ b → FollowedAs d
      by_spent true h = record { world = m; follows = node_follows c w t m m me node reading pairs d (named w n) f (spent_follows h) }
      by_spent false h = record { world = v; follows = node_follows c w t m v x node reading pairs d (named w n) f (new_follows sound h) }
