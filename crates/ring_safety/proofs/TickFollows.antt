-- The machine follows a tick: each running clock keeps its bound.
use Rattle.std.proofs.Common.{◌≡◌, ℕ, ◌+◌, Bool, true, false, cond, List, [], ◌∷◌, Option, Some, None, refl, sym, ap, ◌∙◌, subst, inl, inr, arith}
use Rattle.std.specs.Prelude.{◌==◌, map, unwrap_or}
use Rattle.std.proofs.lemmas.Bool.{and_parts, eqb-true, eq-eqb}
use Rattle.drift_clock.specs.Within.{Pair, FitsAll, fits_all}
use Rattle.drift_clock.proofs.Decided.{fits_decided}
use Rattle.fabric_terms.specs.declared.config.FabricConfig.{FabricConfig}
use Rattle.join_phases.specs.Phases.{is_left}
use Rattle.ring_points.specs.declared.who.Who.{Who}
use Rattle.ring_machine.specs.Frames.{Frame}
use Rattle.fabric_lemmas.specs.Members.{IsMember}
use Rattle.ring_machine.specs.World as machine
use Rattle.ring_machine.specs.World.{Instance, Running, has_clock}
use Rattle.ring_machine.specs.Events as events
use Rattle.ring_machine.specs.Events.{Ticks, passed}
use Rattle.ring_machine.proofs.Histories.{EventDone, event_done}
use Rattle.ring_refinement.specs.Images.{machine_of}
use Rattle.ring_refinement.specs.Shown.{Shows, ShowsAs, ShowsInstance}
use Rattle.ring_rules.specs.Rings.{Ring}
use Rattle.world_rules.specs.Events.{shows, ticked, ticks}
use Rattle.fabric_lemmas.specs.Maps.{at}
use Rattle.world_rules.specs.Schedules.{are_of, fits_pairs, readings_fit}
use Rattle.world_rules.specs.Uppers.{Upper}
use Rattle.world_rules.specs.Worlds as real
use Rattle.world_rules.specs.Worlds.{World}
use Rattle.ring_safety.proofs.ActFollows.{Followed, Numbered, named}
use Rattle.ring_safety.proofs.Follows.{Follows, Runs, ShowsClock}
use Rattle.ring_safety.proofs.Tales.{Tale, tale_in}

-- the instance as it stands after a tick, by whether it has a clock

ticked_phase : (i : Instance) (time reading : ℕ) (b : Bool) → (events.ticked i time reading b).phase ≡ i.phase
ticked_phase i time reading true = refl
ticked_phase i time reading false = refl

ticked_shows : (c : FabricConfig) (x : Who) (sent : List Frame) (i : Instance) (r : Ring) (time reading : ℕ) (b : Bool) → ShowsInstance c x sent i r →
    ShowsInstance c x sent (events.ticked i time reading b) r
ticked_shows c x sent i r time reading false h = h
ticked_shows c x sent i r time reading true h = record {
  me = h.me;
  running = h.running;
  token = h.token;
  next = h.next;
  slots = h.slots;
  accused = h.accused;
  rises = h.rises;
  frozen = h.frozen;
}

-- the reading that a number's node has
abbrev reading_in : {a : Upper} → Option (real.Running a) → ℕ
reading_in None = 0
reading_in (Some s) = s.reading

-- each node is among the readings
has_reading : {X : Type 0} (rs : List (ℕ × ℕ)) (es : List (ℕ × X)) (q : ℕ) (s : X) → are_of rs es ≡ true → at q es ≡ Some s →
    (v : ℕ) × (at q rs ≡ Some v) × IsMember (q, v) rs
has_reading [] [] q s h there = absurd (cc (there))
has_reading [] (e ∷ es) q s h there = absurd (cc (h))
has_reading (r ∷ rs) [] q s h there = absurd (cc (h))
has_reading (r ∷ rs) (e ∷ es) q s h there =
    let parts : ((r.0 == e.0) ≡ true) × (are_of rs es ≡ true) = and_parts (r.0 == e.0) (are_of rs es) h in
    let same : r.0 ≡ e.0 = eqb-true r.0 e.0 parts.0 in
    go same (e.0 == q) refl there (has_reading rs es q s parts.1)
  where
    go : r.0 ≡ e.0 → (b : Bool) → (e.0 == q) ≡ b → cond b (Some e.1) (at q es) ≡ Some s →
        (at q es ≡ Some s → (v : ℕ) × (at q rs ≡ Some v) × IsMember (q, v) rs) →
        (v : ℕ) × (cond (r.0 == q) (Some r.1) (at q rs) ≡ Some v) × IsMember (q, v) (r ∷ rs)
    go same true g h again =
        let at_q : r.0 ≡ q = same ∙ eqb-true e.0 q g in
        (r.1, ap (λ b. cond b (Some r.1) (at q rs)) (eq-eqb r.0 q at_q), inl (λ i. (sym at_q i, r.1)))
    go same false g h again =
        let rest = again h in
        (rest.0, ap (λ z. cond (z == q) (Some r.1) (at q rs)) same ∙ (ap (λ b. cond b (Some r.1) (at q rs)) g ∙ rest.1), inr rest.2)

module _ {a : Upper} (c : FabricConfig) (w : World a) where
  -- each reading fits
  each_fits : (time : ℕ) (rs : List (ℕ × ℕ)) → readings_fit c w time rs ≡ true → (q v : ℕ) → IsMember (q, v) rs →
      fits_pairs c time v (at q w.nodes) ≡ true
  each_fits time [] h q v k = absurd k
  each_fits time (r ∷ rs) h q v (inl e) =
      let parts = and_parts (fits_pairs c time r.1 (at r.0 w.nodes)) (readings_fit c w time rs) h in
      subst (λ (z : ℕ × ℕ). fits_pairs c time z.1 (at z.0 w.nodes) ≡ true) (sym e) parts.0
  each_fits time (r ∷ rs) h q v (inr k) =
      let parts = and_parts (fits_pairs c time r.1 (at r.0 w.nodes)) (readings_fit c w time rs) h in
      each_fits time rs parts.1 q v k

  -- the node's new reading fits
  new_fits : (time : ℕ) (rs : List (ℕ × ℕ)) → are_of rs w.nodes ≡ true → readings_fit c w time rs ≡ true → (q : ℕ) (s : real.Running a) →
      at q w.nodes ≡ Some s →
      FitsAll c.bound s.pairs (time, unwrap_or (at q rs) s.reading)
  new_fits time rs all fit q s there =
      let r = has_reading rs w.nodes q s all there in
      let fits : fits_all c.bound s.pairs (time, r.0) ≡ true = sym (ap (fits_pairs c time r.0) there) ∙ each_fits time rs fit q r.0 r.2 in
      let e : unwrap_or (at q rs) s.reading ≡ r.0 = ap (λ o. unwrap_or o s.reading) r.1 in
      subst (λ v. FitsAll c.bound s.pairs (time, v)) (sym e) ((fits_decided c.bound s.pairs (time, r.0)).0 fits)

-- a node after a tick

ticked_at : {a : Upper} (time : ℕ) (rs : List (ℕ × ℕ)) (es : List (ℕ × real.Running a)) (q : ℕ) (s : real.Running a) → at q es ≡ Some s →
    at q (map (ticked {a = a} time rs) es) ≡ Some (shows {a = a} time (unwrap_or (at q rs) s.reading) s)
ticked_at time rs [] q s h = absurd (cc (h))
ticked_at {a = a} time rs (e ∷ es) q s h = go (e.0 == q) refl h (ticked_at time rs es q s)
  where
    go : (b : Bool) → (e.0 == q) ≡ b → cond b (Some e.1) (at q es) ≡ Some s →
        (at q es ≡ Some s → at q (map (ticked {a = a} time rs) es) ≡ Some (shows {a = a} time (unwrap_or (at q rs) s.reading) s)) →
        cond (e.0 == q) (Some (ticked {a = a} time rs e).1) (at q (map (ticked {a = a} time rs) es)) ≡ Some (shows {a = a} time (unwrap_or (at q rs) s.reading) s)
    go true g h again =
        let same : e.1 ≡ s = cc (h) in
        ap (λ b. cond b (Some (ticked {a = a} time rs e).1) (at q (map (ticked {a = a} time rs) es))) g
        ∙ (λ i. Some (shows {a = a} time (unwrap_or (at (eqb-true e.0 q g i) rs) (same i).reading) (same i)))
    go false g h again = ap (λ b. cond b (Some (ticked {a = a} time rs e).1) (at q (map (ticked {a = a} time rs) es))) g ∙ again h

ticked_from : {a : Upper} (time : ℕ) (rs : List (ℕ × ℕ)) (es : List (ℕ × real.Running a)) (q : ℕ) (s : real.Running a) →
    at q (map (ticked {a = a} time rs) es) ≡ Some s →
    (r : real.Running a) × (at q es ≡ Some r) × (s ≡ shows {a = a} time (unwrap_or (at q rs) r.reading) r)
ticked_from {a = a} time rs es q s h = go (at q es) refl
  where
    none : (es : List (ℕ × real.Running a)) → at q es ≡ None → at q (map (ticked {a = a} time rs) es) ≡ None
    none [] g = refl
    none (e ∷ es) g = by_key (e.0 == q) refl g (none es)
      where
        by_key : (b : Bool) → (e.0 == q) ≡ b → cond b (Some e.1) (at q es) ≡ None → (at q es ≡ None → at q (map (ticked {a = a} time rs) es) ≡ None) →
            cond (e.0 == q) (Some (ticked {a = a} time rs e).1) (at q (map (ticked {a = a} time rs) es)) ≡ None
        by_key true k g again = absurd (cc (g))
        by_key false k g again = ap (λ b. cond b (Some (ticked {a = a} time rs e).1) (at q (map (ticked {a = a} time rs) es))) k ∙ again g

    go : (o : Option (real.Running a)) → at q es ≡ o →
        (r : real.Running a) × (at q es ≡ Some r) × (s ≡ shows {a = a} time (unwrap_or (at q rs) r.reading) r)
    go None g = let gone = none es g in absurd (cc (h, gone))
    go (Some r) g = let after = ticked_at time rs es q r g in (r, g, let same : s ≡ shows {a = a} time (unwrap_or (at q rs) r.reading) r = cc (h, after) in same)

module _ (a : Upper) (c : FabricConfig) (w : World a) (t : Tale) (m : machine.World) (n : Numbered w) (f : Follows c w t m) (advance : ℕ)
    (rs : List (ℕ × ℕ)) (all : are_of rs w.nodes ≡ true) (fit : readings_fit c w (w.time + advance) rs ≡ true) where
  abbrev time : ℕ
  time = w.time + advance

  abbrev after : World a
  after = (ticks a w time rs).world

  -- the new reading of the node under a number, and the node with it

  abbrev reading_at : ℕ → real.Running a → ℕ
  reading_at q s = unwrap_or (at q rs) s.reading

  abbrev then : ℕ → real.Running a → real.Running a
  then q s = shows {a = a} time (reading_at q s) s

  -- what each instance's clock shows
  abbrev now : Who → ℕ
  now x = reading_in {a = a} (at x.actor after.nodes)

  abbrev v : machine.World
  v = passed m advance now

  now_is : (x : Who) (s : real.Running a) → at x.actor w.nodes ≡ Some s → now x ≡ reading_at x.actor s
  now_is x s there = ap (λ o. reading_in {a = a} o) (ticked_at time rs w.nodes x.actor s there)

  time_is : m.time + advance ≡ time
  time_is = ap (λ z. z + advance) f.time

  can : (x : Who) → (m.instance x).phase ≡ Running → FitsAll c.bound (m.instance x).pairs (m.time + advance, now x)
  can x running =
      let r = f.runs x running in
      let clock = subst (λ y. ShowsClock (m.instance y) r.state.reading r.state.pairs) r.name (f.clock x.actor r.state r.here r.stays) in
      let reads = now_is x r.state r.here in
      subst (λ (z : List Pair × ℕ × ℕ). FitsAll c.bound z.0 (z.1, z.2)) (λ i. (sym clock.read i, sym time_is i, sym reads i))
      (new_fits c w time rs all fit x.actor r.state r.here)

  -- an instance of the machine after the tick, where it has a clock or has none

  same_phase : (x : Who) → (v.instance x).phase ≡ (m.instance x).phase
  same_phase x = ticked_phase (m.instance x) (m.time + advance) (now x) (has_clock (m.instance x).phase)

  shows_on : (x : Who) (r : Ring) → Shows c m x r → Shows c v x r
  shows_on x r h = go (is_left r.phase) h
    where
      go : (b : Bool) → ShowsAs c m x r b → ShowsAs c v x r b
      go true s = record {
        me = s.me;
        ranges = s.ranges;
        freeze = s.freeze;
        slots = s.slots;
        stands_still = λ runs. s.stands_still (sym (same_phase x) ∙ runs);
      }
      go false s = ticked_shows c x m.sent (m.instance x) r (m.time + advance) (now x) (has_clock (m.instance x).phase) s

  running : (x : Who) (r : Ring) → is_left r.phase ≡ false → Shows c m x r → (m.instance x).phase ≡ Running
  running x r stay h = go (is_left r.phase) stay h
    where
      go : (b : Bool) → b ≡ false → ShowsAs c m x r b → (m.instance x).phase ≡ Running
      go false e s = s.running
      go true e s = absurd (cc (e))

  clock_on : (q : ℕ) (r : real.Running a) → at q w.nodes ≡ Some r → is_left r.node.ring.phase ≡ false →
      ShowsClock (v.instance r.node.ring.me) (reading_at q r) ((time, reading_at q r) ∷ r.pairs)
  clock_on q r there stay =
      let x : Who = r.node.ring.me in
      let old = f.clock q r there stay in
      let number : q ≡ x.actor = sym (named w n q r there) in
      let reads : now x ≡ reading_at q r =
      now_is x r (ap (λ z. at z w.nodes) (sym number) ∙ there) ∙ ap (λ z. reading_at z r) (sym number) in
      let clocked : has_clock (m.instance x).phase ≡ true = ap has_clock (running x r.node.ring stay (f.shows q r there)) in
      subst
      (λ b. ShowsClock (events.ticked (m.instance x) (m.time + advance) (now x) b) (reading_at q r) ((time, reading_at q r) ∷ r.pairs))
      (sym clocked) (record { reads = reads; read = λ i. (time_is i, reads i) ∷ old.read i })

  runs_on : (x : Who) → (v.instance x).phase ≡ Running → Runs after x
  runs_on x h =
      let r = f.runs x (sym (same_phase x) ∙ h) in
      record { state = then x.actor r.state; here = ticked_at time rs w.nodes x.actor r.state r.here; name = r.name; stays = r.stays }

  pub ticks_follow : events.IsSound (machine_of c) → Followed c (ticks a w time rs).world (tale_in (ticks a w time rs).entry t)
  ticks_follow sound = record {
    world = v;
    follows = record {
      inv = done.inv;
      time = time_is;
      starts = f.starts;
      whole = f.whole;
      shows = λ q s h.
          let r = ticked_from time rs w.nodes q s h in
          subst (λ (z : real.Running a). Shows c v z.node.ring.me z.node.ring) (sym r.2)
          (shows_on r.0.node.ring.me r.0.node.ring (f.shows q r.0 r.1));
      clock = λ q s h.
          let r = ticked_from time rs w.nodes q s h in
          subst
          (λ (z : real.Running a). is_left z.node.ring.phase ≡ false → ShowsClock (v.instance z.node.ring.me) z.reading z.pairs) (sym r.2)
          (clock_on q r.0 r.1);
      runs = runs_on;
      tables = f.tables;
      frames = f.frames;
      placed = f.placed;
      moved = f.moved;
      new = f.new;
      below = λ x number h. let lt = f.below x number h in let le = done.later.next_flights x in omega arith;
      over = λ y h. done.later.dies y (f.over y h);
    };
  }
    where
      done : EventDone (machine_of c) m v
      done = event_done sound f.inv (Ticks advance now) can
