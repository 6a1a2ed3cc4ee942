-- The machine follows what one node does, while all other nodes stay as they are.
use Rattle.std.proofs.Common.{◌≡◌, ℕ, ◌<◌, Bool, true, false, List, Some, refl, sym, ap, ◌∙◌, subst, ⊎_elim}
use Rattle.std.specs.Prelude.{◌==◌}
use Rattle.std.proofs.lemmas.Bool.{eqb-true, eqb-false}
use Rattle.drift_clock.specs.Within.{Pair}
use Rattle.fabric_terms.specs.declared.config.FabricConfig.{FabricConfig}
use Rattle.fabric_terms.specs.declared.message.Body.{Body}
use Rattle.fabric_terms.specs.declared.message.Message.{Message}
use Rattle.fabric_terms.specs.Places.{place_of}
use Rattle.fabric_terms.specs.Reports.{Told, told_on}
use Rattle.fabric_terms.specs.TakeOvers.{was_taken_over}
use Rattle.join_phases.specs.Phases.{is_left}
use Rattle.ring_points.specs.declared.who.Who.{Who}
use Rattle.ring_points.specs.Whos.{same_who, arbiter_actor}
use Rattle.ring_machine.specs.Frames.{Frame}
use Rattle.fabric_lemmas.specs.Members.{IsMember}
use Rattle.ring_machine.specs.World as machine
use Rattle.ring_machine.specs.World.{Instance, Running, Dead}
use Rattle.ring_machine.specs.Invariant.{Invariant}
use Rattle.ring_points.proofs.Whos.{same_who-true, same_who-false, same_who_from}
use Rattle.ring_machine.proofs.Whos.{test}
use Rattle.ring_refinement.specs.Images.{machine_of}
use Rattle.ring_refinement.specs.Moves.{MovedBy, AreOver}
use Rattle.ring_refinement.specs.Shown.{Shows, ShowsAs}
use Rattle.ring_rules.specs.Arbiters.{Table, table_after, first_accuser, first_claimer}
use Rattle.ring_rules.specs.Rings.{Ring}
use Rattle.fabric_lemmas.specs.Maps.{at, put}
use Rattle.world_rules.specs.Nodes.{NodeState, boots_of}
use Rattle.world_rules.specs.Uppers.{Upper, Did}
use Rattle.world_rules.specs.Worlds as real
use Rattle.world_rules.specs.Worlds.{World, kept_of, posted, node_acted}
use Rattle.ring_safety.proofs.Follows.{Follows, Runs, ShowsClock, Known, shows_still, known_still, clock_still, posted_cases, places_in, next_of}
use Rattle.run_facts.proofs.Kept.{put_cases, at_put_same, at_put_other}
use Rattle.ring_safety.proofs.Moves.{AllMoved, AllNew, SoFar, told_so_far, given_elsewhere, over_told, has_given}
use Rattle.run_facts.proofs.Tables.{table_stays}
use Rattle.ring_safety.proofs.Tales.{Tale, tale_on}

-- what is under each number
abbrev pub Named : {a : Upper} → World a → Type 0
Named {a = a} w = (node : ℕ) (s : real.Running a) → at node w.nodes ≡ Some s → s.node.ring.me.actor ≡ node

-- a ring that stands still on the machine is not running there
pub not_left : (c : FabricConfig) (v : machine.World) (x : Who) (r : Ring) → Shows c v x r → (v.instance x).phase ≡ Running → is_left r.phase ≡ false
not_left c v x r h runs = go (is_left r.phase) h
  where
    go : (b : Bool) → ShowsAs c v x r b → b ≡ false
    go false s = refl
    go true s = absurd (s.stands_still runs)

-- what a node x does, in the machine's worlds before and after
pub record Follow {a : Upper} (c : FabricConfig) (w : World a) (t : Tale) (m v : machine.World) (x : Who) (node reading : ℕ) (pairs : List Pair)
    (d : Did (NodeState a)) : Type 0 where
  pub name : d.state.ring.me ≡ x
  pub actor : x.actor ≡ node
  -- before it acts, nobody else runs under the number
  pub before : (s : real.Running a) → at node w.nodes ≡ Some s → s.node.ring.me ≡ x
  pub inv : Invariant (machine_of c) v
  pub time : v.time ≡ w.time
  pub whole : v.whole ≡ m.whole
  pub starts : (q : ℕ) → v.starts q ≡ boots_of (kept_of (node_acted a w node reading pairs d).world q)
  pub shows : Shows c v x d.state.ring
  pub clock : is_left d.state.ring.phase ≡ false → ShowsClock (v.instance x) reading pairs
  pub others : (y : Who) → same_who x y ≡ false → v.instance y ≡ m.instance y
  pub sent : (f : Frame) → IsMember f m.sent → IsMember f v.sent
  pub tables : v.first_accuser ≡ m.first_accuser
  pub claims : v.first_claimer ≡ m.first_claimer
  pub accuses : (z : Table) → table_after z d.records ≡ z
  pub says : (s : Who × Body) → IsMember s d.sent → Known c.lease v.sent (record { from = x; to = s.0; body = s.1 })
  pub moved : MovedBy x d.told (next_of m x) (places_in t m) (next_of v x) (places_in t v)
  pub dies : (y : Who) → Dead (machine_of c) (m.instance y) → Dead (machine_of c) (v.instance y)
  pub over : AreOver (machine_of c) v d.told

module _ {a : Upper} (c : FabricConfig) (w : World a) (t : Tale) (m v : machine.World) (x : Who) (node reading : ℕ) (pairs : List Pair)
    (d : Did (NodeState a)) (named : Named w) (f : Follows c w t m) (e : Follow c w t m v x node reading pairs d) where
  abbrev new : real.Running a
  new = record { node = d.state; reading = reading; pairs = pairs }

  abbrev after : World a
  after = (node_acted a w node reading pairs d).world

  other : (q : ℕ) (s : real.Running a) → (node == q) ≡ false → at q w.nodes ≡ Some s → same_who x s.node.ring.me ≡ false
  other q s apart there =
      same_who_from x s.node.ring.me
      (λ same. eqb-false node q apart (sym e.actor ∙ (ap (λ (z : Who). z.actor) same ∙ named q s there)))

  -- who runs on the machine runs

  it_runs : (v.instance x).phase ≡ Running → Runs after x
  it_runs h = record {
    state = new;
    here = subst (λ q. at q (put node new w.nodes) ≡ Some new) (sym e.actor) (at_put_same node new w.nodes);
    name = e.name;
    stays = not_left c v x d.state.ring e.shows h;
  }

  other_runs : (y : Who) → same_who x y ≡ false → (v.instance y).phase ≡ Running → Runs after y
  other_runs y apart h =
      let old : Runs w y = f.runs y (sym (ap (λ (i : Instance). i.phase) (e.others y apart)) ∙ h) in
      record {
        state = old.state;
        here = at_put_other node new w.nodes y.actor (by_number old (node == y.actor) refl) ∙ old.here;
        name = old.name;
        stays = old.stays;
      }
    where
      by_number : Runs w y → (b : Bool) → (node == y.actor) ≡ b → (node == y.actor) ≡ false
      by_number old false g = g
      by_number old true g =
          let there : at node w.nodes ≡ Some old.state = ap (λ q. at q w.nodes) (eqb-true node y.actor g) ∙ old.here in
          absurd (same_who-false x y apart (sym (e.before old.state there) ∙ old.name))

  -- what was sent

  from_x : (s : Who × Body) → record { from = d.state.ring.me; to = s.0; body = s.1 } ≡ (let z : Message = record { from = x; to = s.0; body = s.1 } in z)
  from_x s = λ i. record { from = e.name i; to = s.0; body = s.1 }

  known_frames : (g : Message) → IsMember g (posted d.state.ring.me d.sent w.frames) → Known c.lease v.sent g
  known_frames g h =
      ⊎_elim (λ k. known_still c m v e.sent c.lease g (f.frames g k))
      (λ k. subst (Known c.lease v.sent) (sym (k.2 ∙ from_x k.0)) (e.says k.0 k.1))
      (posted_cases d.state.ring.me d.sent w.frames g h)

  -- what was told

  abbrev told_then : Told
  told_then = told_on x d.told t.life

  so_far : SoFar t.whole x told_then (next_of v x) (places_in t v)
  so_far =
      told_so_far t.whole x d.told t.life (next_of m x) (next_of v x) (places_in t m) (places_in t v) e.moved
      (record { placed = f.placed; moved = f.moved; new = f.new; below = f.below x })

  below : (y : Who) (number : ℕ) → has_given y number told_then ≡ true → number < next_of v y
  below y number h = test (same_who x y)
      (λ g. subst (λ y. has_given y number told_then ≡ true → number < next_of v y) (same_who-true x y g) (so_far.below number) h)
      (λ g.
      subst (λ (i : Instance). number < i.token.next_flight) (sym (e.others y g))
      (f.below y number (given_elsewhere x y number d.told t.life g h)))

  pub node_follows : Follows c after (tale_on d.state.ring.me d.told t) v
  node_follows = record {
    inv = e.inv;
    time = e.time;
    whole = e.whole ∙ f.whole;
    starts = e.starts;
    shows = λ q s h.
        let y : Who = s.node.ring.me in
        put_cases (λ (z : real.Running a). Shows c v z.node.ring.me z.node.ring) node new w.nodes q s h
        (λ same. subst (λ (y : Who). Shows c v y d.state.ring) (sym e.name) e.shows)
        (λ apart there. shows_still c m v e.sent y s.node.ring (e.others y (other q s apart there)) (f.shows q s there));
    clock = λ q s h.
        let y : Who = s.node.ring.me in
        put_cases (λ (z : real.Running a). is_left z.node.ring.phase ≡ false → ShowsClock (v.instance z.node.ring.me) z.reading z.pairs) node new
        w.nodes q s h (λ same stay. subst (λ (y : Who). ShowsClock (v.instance y) reading pairs) (sym e.name) (e.clock stay))
        (λ apart there stay.
        clock_still (m.instance y) (v.instance y) s.reading s.pairs (e.others y (other q s apart there)) (f.clock q s there stay));
    runs = λ y. test (same_who x y)
        (λ h. subst (λ y. (v.instance y).phase ≡ Running → Runs after y) (same_who-true x y h) it_runs) (λ h. other_runs y h);
    tables = record {
      accusers = λ arbiter victim.
          (λ i. e.tables i arbiter victim)
          ∙ (f.tables.accusers arbiter victim
          ∙ ap (λ (z : Table). first_accuser victim z.accusations) (sym (table_stays w d.state.ring.me d.records d.sent e.accuses (arbiter_actor arbiter))));
      claimers = λ arbiter victim round later.
          (λ i. e.claims i arbiter victim round)
          ∙ (f.tables.claimers arbiter victim round later
          ∙ ap (λ (z : Table). first_claimer victim round z.claims) (sym (table_stays w d.state.ring.me d.records d.sent e.accuses (arbiter_actor arbiter))));
    };
    frames = known_frames;
    placed = subst (λ y. (p : ℕ) → place_of t.whole (told_on y d.told t.life) p ≡ places_in t v p) (sym e.name) so_far.placed;
    moved = subst (λ y. AllMoved t.whole (told_on y d.told t.life)) (sym e.name) so_far.moved;
    new = subst (λ y. AllNew (told_on y d.told t.life)) (sym e.name) so_far.new;
    below =
        subst (λ z. (y : Who) (number : ℕ) → has_given y number (told_on z d.told t.life) ≡ true → number < next_of v y) (sym e.name) below;
    over =
        subst (λ z. (y : Who) → was_taken_over y (told_on z d.told t.all) ≡ true → Dead (machine_of c) (v.instance y)) (sym e.name)
        (λ y. over_told (machine_of c) v y x d.told t.all e.over (λ h. e.dies y (f.over y h)));
  }
