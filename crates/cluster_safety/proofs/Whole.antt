-- Whatever comes to a process in order, comes to a cluster.
use Rattle.std.proofs.Common.{arith, ◌≡◌, ◌≤◌, ◌<◌, ◌+◌, ℕ, Bool, true, false, List, [], ◌∷◌, length, Option, Some, None, refl, ap, sym, subst, ◌∙◌}
use Rattle.std.specs.Prelude.{nat_lt, slice_get, if◌then◌else◌}
use Rattle.std.proofs.lemmas.Bool.{not-false, not-true}
use Rattle.std.proofs.lemmas.Bool.Decides.{nat_tests}
use Rattle.std.proofs.lemmas.Option.{slice_get_within}
use Rattle.world_rules.proofs.Starts.{begun_first}
use Rattle.world_rules.specs.Starts.{node_begun_in}
use Rattle.edge_io.specs.Readings.{is_fall}
use Rattle.edge_io.specs.declared.endpoint.Endpoint.{Endpoint}
use Rattle.fabric_terms.specs.declared.message.Message.{Message}
use Rattle.fabric_terms.specs.declared.record.Record.{Record}
use Rattle.ring_points.specs.declared.who.Who.{Who}
use Rattle.ring_rules.specs.declared.input.Input.{Input}
use Rattle.ring_rules.specs.declared.input.Input.TheVariants as input
use Rattle.frame_format.specs.Kinds.{message_of}
use Rattle.turn_rules.specs.Happenings.{Absent, Begins, Bids, Comes, Datagram, Failed, Fires, Hears, History, Rests, Turns}
use Rattle.turn_rules.specs.Order.{Busy, Doing, Firing, GoesServed, IsNext, IsServedOrder, TurnPosition, Starting, Turning, arrive, hearing, onward, heard_all}
use Rattle.turn_rules.specs.Plans.{Plan, Setting, is_node_at, is_of_node}
use Rattle.turn_rules.specs.Process.{End, Process, acts, after, begins, clamped, hears_frame, joins, joins_as, joins_at, joins_with, nothing_yet, reads, reads_as, rests_at, takes, unless_ended, unless_full}
use Rattle.unit_rules.specs.Fabric.{fabric}
use Rattle.turn_rules.specs.Steps.{Stepped, arbiter_stepped, begun, begun_as, exceeds, node_stepped, present}
use Rattle.world_rules.specs.Arbiters.{arbiter_begun}
use Rattle.world_rules.specs.Events.{arbiter_number, is_arbiter_actor}
use Rattle.world_rules.specs.Nodes.{NodeState, node_begun}
use Rattle.world_rules.specs.Schedules.{command_names}
use Rattle.world_rules.specs.Uppers.{Did, idle}
use Rattle.cluster_safety.specs.Moments.{frames_of, last_reading}
use Rattle.cluster_safety.specs.Plans.{IsClusterPlan, IsOneOf, IsOwn, KeepsNothing, OwnFrames}
use Rattle.cluster_safety.proofs.Acts.{FitsInput, JoinedBy, acts_joined, none_past, rests_joined}
use Rattle.cluster_safety.proofs.Joined.{joined_at, joined_first}
use Rattle.cluster_safety.proofs.Members.{length_more}
use Rattle.cluster_safety.proofs.Places.{Stands, on_coming, on_hearing, on_heard_all, stands, turns_on}
use Rattle.cluster_safety.proofs.Starts.{arbiter_starts, node_starts}

-- before a node's firing its reading may be newer than the last step of a node
abbrev pub Settled : Plan → ℕ → Doing → Type 0
Settled plan at Starting = Unit {0}
Settled plan at Turning = Unit {0}
Settled plan at (Busy left n) = is_node_at plan at ≡ false
Settled plan at Firing = ⊥

-- as many actors have started as the place says
pub record Live (plan : Plan) (p : TurnPosition) (q : Process) : Type 0 where
  pub started : p.turn ≡ 0 → length q.members ≡ p.at
  pub all : 1 ≤ p.turn → length plan.actors ≤ length q.members
  pub settled : Settled plan p.at p.doing → last_reading q.steps ≡ present q.last

pub record GoesOn (s : Setting) (p : TurnPosition) (q : Process) : Type 0 where
  pub joined : JoinedBy s q
  pub live : q.end ≡ None → Live s.plan p q

-- A step of the clock.

not_fallen : (last : Option ℕ) (reading : ℕ) → is_fall last reading ≡ false → present last ≤ reading
not_fallen None reading h = omega arith
not_fallen (Some former) reading h = grind (arith, nat_tests)

-- In a turn: the same actors, and all of them have started.

live_on : (plan : Plan) (p : TurnPosition) (old new : Process) (turn : ℕ) → 1 ≤ turn → turn ≤ p.turn → length plan.actors ≤ length old.members → length new.members ≡ length old.members →
    (Settled plan p.at p.doing → last_reading new.steps ≡ present new.last) → Live plan p new
live_on plan p old new turn later le all same settled = record { started = λ zero. absurd (omega (arith, zero)); all = λ t. omega arith; settled = settled }

-- nothing settles at a node's place before its firing
unsettled_heard_all : (plan : Plan) (turn at : ℕ) → is_node_at plan at ≡ true → Settled plan (heard_all plan turn at).at (heard_all plan turn at).doing → ⊥
unsettled_heard_all plan turn at e =
    let fires : TurnPosition = record { turn = turn; at = at; doing = Firing } in
    let P : Bool → Type 0 = λ b. let q = if b then fires else onward plan turn at in Settled plan q.at q.doing → ⊥ in
    subst P (sym e) (λ h. h)

unsettled_hearing : (plan : Plan) (turn at n : ℕ) → is_node_at plan at ≡ true → Settled plan (hearing plan turn at n).at (hearing plan turn at n).doing → ⊥
unsettled_hearing plan turn at n e = by_test (nat_lt n 64)
  where
    by_test : (b : Bool) → let q = if b then record { turn = turn; at = at; doing = Busy [] n } else heard_all plan turn at in Settled plan q.at q.doing → ⊥
    by_test true h = let no : true ≡ false = sym e ∙ h in cc
    by_test false h = unsettled_heard_all plan turn at e h

-- where nothing was done
still_settled : (plan : Plan) (at : ℕ) (p : TurnPosition) (q : Process) → (is_node_at plan at ≡ true → Settled plan p.at p.doing → ⊥) →
    (is_node_at plan at ≡ false → last_reading q.steps ≡ present q.last) → Settled plan p.at p.doing → last_reading q.steps ≡ present q.last
still_settled plan at p q unsettled settled h = by_test (is_node_at plan at) refl
  where
    by_test : (b : Bool) → is_node_at plan at ≡ b → last_reading q.steps ≡ present q.last
    by_test true e = absurd (unsettled e h)
    by_test false e = settled e

-- Starts.

-- the next actor starts, or the first turn comes
live_started : (plan : Plan) (turn at : ℕ) (q : Process) → turn ≡ 0 → (at + 1 < length plan.actors → length q.members ≡ at + 1) →
    (length plan.actors ≤ at + 1 → length plan.actors ≤ length q.members) → last_reading q.steps ≡ present q.last → Live plan (onward plan turn at) q
live_started plan turn at q zero more all reading = by_test (nat_lt (at + 1) (length plan.actors)) refl
  where
    by_test : (b : Bool) → nat_lt (at + 1) (length plan.actors) ≡ b → Live plan (if b then arrive plan turn (at + 1) else arrive plan (turn + 1) 0) q
    by_test true e = record { started = λ z. more (grind (arith, nat_tests)); all = λ t. absurd (omega (arith, zero, t)); settled = λ h. reading }
    by_test false e = record { started = λ z. absurd (omega (arith, z)); all = λ t. all (grind (arith, nat_tests)); settled = λ h. reading }

module _ (s : Setting) (cp : IsClusterPlan s.plan) (kn : KeepsNothing s) (turn at : ℕ) (p : Process) (zero : turn ≡ 0) (first : length p.members ≡ at) (reading : last_reading p.steps ≡ present p.last)
    (live : p.end ≡ None) (j : JoinedBy s p) where
  -- each actor of the plan has a list of records, and it is empty
  nothing_of : (e : Endpoint) → slice_get s.plan.actors at ≡ Some e → (o : Option (List Record)) → slice_get s.kept at ≡ o → o ≡ Some []
  nothing_of e here None none =
      let past = none_past s.kept at none in
      let within = slice_get_within s.plan.actors at e here in
      let whole = kn.whole in
      absurd (omega arith)
  nothing_of e here (Some records) some = ap (λ (rs : List Record). Some rs) (kn.each at records some)

  here_next : (e : Endpoint) → slice_get s.plan.actors at ≡ Some e → slice_get s.plan.actors (length p.members) ≡ Some e
  here_next e here = ap (slice_get s.plan.actors) first ∙ here

  one_more : (q : Process) → length q.members ≡ length p.members + 1 → last_reading q.steps ≡ present q.last → Live s.plan (onward s.plan turn at) q
  one_more q more last = live_started s.plan turn at q zero (λ h. omega (arith, first, more)) (λ h. omega (arith, first, more)) last

  joins_arbiter : (e : Endpoint) → slice_get s.plan.actors at ≡ Some e → is_arbiter_actor e.actor ≡ true →
      GoesOn s (onward s.plan turn at) (joins_as p (begun s.plan.config s.plan.whole turn p.last e.actor []))
  unfolding begun
  joins_arbiter e here kind =
      let c = s.plan.config in
      let n : ℕ = arbiter_number e.actor in
      let d : Stepped = arbiter_stepped 0 n (idle (arbiter_begun fabric c n [])) in
      let same : begun_as c s.plan.whole turn p.last e.actor [] (is_arbiter_actor e.actor) ≡ d = λ i. begun_as c s.plan.whole (zero i) p.last e.actor [] (kind i) in
      subst (λ (x : Stepped). GoesOn s (onward s.plan turn at) (joins_as p x)) (sym same) (by_test (exceeds d.member))
    where
      by_test : (b : Bool) →
          let d = arbiter_stepped 0 (arbiter_number e.actor) (idle (arbiter_begun fabric s.plan.config (arbiter_number e.actor) [])) in
          GoesOn s (onward s.plan turn at) (unless_full p b (joins_with p d))
      by_test true = record { joined = j; live = λ h. cc }
      by_test false = record {
        joined = arbiter_starts s p.members p.last p.steps e cp.rise j (here_next e here) (cp.configured at e here) reading kind;
        live = λ h. one_more _ (length_more p.members _) reading;
      }

  joins_node : (e : Endpoint) (r : ℕ) → present p.last ≤ r → slice_get s.plan.actors at ≡ Some e → is_arbiter_actor e.actor ≡ false →
      GoesOn s (onward s.plan turn at) (joins_as (record p { last = Some r }) (begun s.plan.config s.plan.whole turn (Some r) e.actor []))
  unfolding begun exceeds
  joins_node e r le here kind =
      let c = s.plan.config in
      let d : Stepped = node_stepped 0 r (node_begun fabric c e.actor []) in
      let first : node_begun_in fabric s.plan.whole c e.actor [] ≡ node_begun fabric c e.actor [] =
      ap (λ (w : Who). node_begun_in fabric w c e.actor []) cp.whole ∙ begun_first fabric c e.actor [] in
      let same : begun_as c s.plan.whole turn (Some r) e.actor [] (is_arbiter_actor e.actor) ≡ d =
      (λ i. begun_as c s.plan.whole (zero i) (Some r) e.actor [] (kind i)) ∙ ap (λ (x : Did (NodeState fabric)). node_stepped 0 r x) first in
      subst (λ (x : Stepped). GoesOn s (onward s.plan turn at) (joins_as (record p { last = Some r }) x)) (sym same) (record {
        joined = node_starts s p.members p.last p.steps e cp.rise j (here_next e here) (cp.configured at e here) r le kind;
        live = λ h. one_more _ (length_more p.members _) refl;
      })

  pub begins_arbiter : is_node_at s.plan at ≡ false → GoesOn s (onward s.plan turn at) (joins s turn at p)
  begins_arbiter no_node = by_actor (slice_get s.plan.actors at) refl
    where
      by_actor : (o : Option Endpoint) → slice_get s.plan.actors at ≡ o → GoesOn s (onward s.plan turn at) (joins_at s turn p o (slice_get s.kept at))
      by_actor None none =
          let past = none_past s.plan.actors at none in
          record { joined = j; live = λ h. live_started s.plan turn at p zero (λ k. absurd (omega (arith, k, past))) (λ k. omega (arith, first, past)) reading }
      by_actor (Some e) here =
          let kind : is_arbiter_actor e.actor ≡ true = not-false (is_arbiter_actor e.actor) (sym (ap is_of_node here) ∙ no_node) in
          subst (λ (o : Option (List Record)). GoesOn s (onward s.plan turn at) (joins_at s turn p (Some e) o)) (sym (nothing_of e here (slice_get s.kept at) refl)) (joins_arbiter e here kind)

  pub begins_node : (r : ℕ) → is_node_at s.plan at ≡ true → GoesOn s (onward s.plan turn at) (begins s turn at p (Some r))
  begins_node r node = by_fall (is_fall p.last (clamped r)) refl
    where
      joins_here : (o : Option Endpoint) → slice_get s.plan.actors at ≡ o → present p.last ≤ clamped r →
          GoesOn s (onward s.plan turn at) (joins_at s turn (record p { last = Some (clamped r) }) o (slice_get s.kept at))
      joins_here None none le = let no : true ≡ false = sym node ∙ ap is_of_node none in cc
      joins_here (Some e) here le =
          let kind : is_arbiter_actor e.actor ≡ false = not-true (is_arbiter_actor e.actor) (sym (ap is_of_node here) ∙ node) in
          subst (λ (o : Option (List Record)). GoesOn s (onward s.plan turn at) (joins_at s turn (record p { last = Some (clamped r) }) (Some e) o))
          (sym (nothing_of e here (slice_get s.kept at) refl)) (joins_node e (clamped r) le here kind)

      by_fall : (b : Bool) → is_fall p.last (clamped r) ≡ b →
          let q = reads_as p (clamped r) b in GoesOn s (onward s.plan turn at) (unless_ended q q.end (joins s turn at q))
      by_fall true e = record { joined = j; live = λ h. cc }
      by_fall false e =
          let q : Process = record p { last = Some (clamped r) } in
          subst (λ (o : Option End). GoesOn s (onward s.plan turn at) (unless_ended q o (joins s turn at q))) (sym live)
          (joins_here (slice_get s.plan.actors at) refl (not_fallen p.last (clamped r) e))

-- One thing more.

module _ (s : Setting) (cp : IsClusterPlan s.plan) (kn : KeepsNothing s) (turn at : ℕ) (p : Process) (q : TurnPosition) (live : p.end ≡ None) (j : JoinedBy s p) where
  abbrev Next : Process → Type 0
  Next r = GoesOn s q r

  -- an input in a turn
  acted : (i : Input) → 1 ≤ turn → turn ≤ q.turn → length s.plan.actors ≤ length p.members → (is_node_at s.plan at ≡ false → last_reading p.steps ≡ present p.last) → FitsInput s p at i →
      Next (acts s turn p at i)
  acted i later le all settled fits =
      let a = acts_joined s p turn at cp.rise later j i fits all settled in
      record { joined = a.joined; live = λ h. live_on s.plan q p (acts s turn p at i) turn later le all a.same_length (λ k. a.reading) }

  -- a node's turn ends without a firing
  fired_not : 1 ≤ turn → turn ≤ q.turn → length s.plan.actors ≤ length p.members → is_node_at s.plan at ≡ true → Next (rests_at turn p (slice_get p.members at))
  fired_not later le all node =
      let a = rests_joined s p turn at cp.rise later j all node in
      record { joined = a.joined; live = λ h. live_on s.plan q p (rests_at turn p (slice_get p.members at)) turn later le all a.same_length (λ k. a.reading) }

  -- nothing
  rested : 1 ≤ turn → turn ≤ q.turn → length s.plan.actors ≤ length p.members → (is_node_at s.plan at ≡ false → last_reading p.steps ≡ present p.last) →
      (is_node_at s.plan at ≡ true → Settled s.plan q.at q.doing → ⊥) → Next p
  rested later le all settled unsettled =
      record { joined = j; live = λ h. live_on s.plan q p p turn later le all refl (still_settled s.plan at q p unsettled settled) }

  heard : (m : Option Message) → IsOneOf (frames_of p.steps) m → 1 ≤ turn → turn ≤ q.turn → length s.plan.actors ≤ length p.members →
      (is_node_at s.plan at ≡ false → last_reading p.steps ≡ present p.last) → (is_node_at s.plan at ≡ true → Settled s.plan q.at q.doing → ⊥) → Next (hears_frame s turn p at m)
  heard None own later le all settled unsettled = rested later le all settled unsettled
  heard (Some m) own later le all settled unsettled = acted (input.Frame m) later le all settled own

  clock_read : (r : ℕ) → 1 ≤ turn → is_node_at s.plan at ≡ true → length s.plan.actors ≤ length p.members → turn ≤ q.turn → (Settled s.plan q.at q.doing → ⊥) → Next (reads p r)
  clock_read r later node all le unsettled = by_fall (is_fall p.last (clamped r)) refl
    where
      by_fall : (b : Bool) → is_fall p.last (clamped r) ≡ b → Next (reads_as p (clamped r) b)
      by_fall true e = record { joined = j; live = λ h. cc }
      by_fall false e = record {
        joined = joined_at s p.members p.last p.steps (clamped r) j (not_fallen p.last (clamped r) e);
        live = λ h. live_on s.plan q p (record p { last = Some (clamped r) }) turn later le all refl (λ k. absurd (unsettled k));
      }

goes_on : (s : Setting) (cp : IsClusterPlan s.plan) (kn : KeepsNothing s) (turn at : ℕ) (doing : Doing) (x : Comes) (p : Process) (q : TurnPosition) → p.end ≡ None → JoinedBy s p →
    Stands s.plan turn at doing → Live s.plan (record { turn = turn; at = at; doing = doing }) p → IsOwn (frames_of p.steps) x → GoesServed s.plan turn at doing x q → GoesOn s q (takes s turn p at x)
goes_on s cp kn turn at Starting (Begins None) p q live j st l own g =
    subst (λ (r : TurnPosition). GoesOn s r (joins s turn at p)) (sym g.1) (begins_arbiter s cp kn turn at p st (l.started st) (l.settled tt) live j g.0)
goes_on s cp kn turn at Starting (Begins (Some r)) p q live j st l own g =
    subst (λ (x : TurnPosition). GoesOn s x (begins s turn at p (Some r))) (sym g.1) (begins_node s cp kn turn at p st (l.started st) (l.settled tt) live j r g.0)
goes_on s cp kn turn at Starting (Turns r) p q live j st l own g = absurd g
goes_on s cp kn turn at Starting (Bids d) p q live j st l own g = absurd g
goes_on s cp kn turn at Starting (Hears a) p q live j st l own g = absurd g
goes_on s cp kn turn at Starting Fires p q live j st l own g = absurd g
goes_on s cp kn turn at Starting Rests p q live j st l own g = absurd g
goes_on s cp kn turn at Turning (Begins r) p q live j st l own g = absurd g
goes_on s cp kn turn at Turning (Turns r) p q live j st l own g =
    clock_read s cp kn turn at p q live j r st.0 st.1 (l.all st.0) (turns_on turn q _ (omega arith) g)
    (subst (λ (x : TurnPosition). Settled s.plan x.at x.doing → ⊥) (sym g) (λ h. let no : true ≡ false = sym st.1 ∙ h in cc))
goes_on s cp kn turn at Turning (Bids d) p q live j st l own g = absurd g
goes_on s cp kn turn at Turning (Hears a) p q live j st l own g = absurd g
goes_on s cp kn turn at Turning Fires p q live j st l own g = absurd g
goes_on s cp kn turn at Turning Rests p q live j st l own g = absurd g
goes_on s cp kn turn at (Busy [] n) (Begins r) p q live j st l own g = absurd g
goes_on s cp kn turn at (Busy [] n) (Turns r) p q live j st l own g = absurd g
goes_on s cp kn turn at (Busy [] n) (Bids d) p q live j st l own g =
    acted s cp kn turn at p q live j (input.Do d) st.0 (turns_on turn q _ (omega arith) g.2) (l.all st.0) l.settled g.1
goes_on s cp kn turn at (Busy [] n) (Hears (Datagram bytes)) p q live j st l own g =
    heard s cp kn turn at p q live j (message_of bytes) own st.0 (turns_on turn q _ (on_hearing s.plan turn at (n + 1)) g) (l.all st.0) l.settled
    (λ e. subst (λ (x : TurnPosition). Settled s.plan x.at x.doing → ⊥) (sym g) (unsettled_hearing s.plan turn at (n + 1) e))
goes_on s cp kn turn at (Busy [] n) (Hears Absent) p q live j st l own g =
    rested s cp kn turn at p q live j st.0 (turns_on turn q _ (on_heard_all s.plan turn at) g) (l.all st.0) l.settled
    (λ e. subst (λ (x : TurnPosition). Settled s.plan x.at x.doing → ⊥) (sym g) (unsettled_heard_all s.plan turn at e))
goes_on s cp kn turn at (Busy [] n) (Hears Failed) p q live j st l own g =
    rested s cp kn turn at p q live j st.0 (turns_on turn q _ (on_heard_all s.plan turn at) g) (l.all st.0) l.settled
    (λ e. subst (λ (x : TurnPosition). Settled s.plan x.at x.doing → ⊥) (sym g) (unsettled_heard_all s.plan turn at e))
goes_on s cp kn turn at (Busy [] n) Fires p q live j st l own g = absurd g
goes_on s cp kn turn at (Busy [] n) Rests p q live j st l own g = absurd g
goes_on s cp kn turn at (Busy (c ∷ cs) n) (Begins r) p q live j st l own g = absurd g
goes_on s cp kn turn at (Busy (c ∷ cs) n) (Turns r) p q live j st l own g = absurd g
goes_on s cp kn turn at (Busy (c ∷ cs) n) (Bids d) p q live j st l own g =
    acted s cp kn turn at p q live j (input.Do d) st.0 (turns_on turn q _ (omega arith) g.1) (l.all st.0) l.settled
    (λ e here. ap (command_names s.plan.config e.actor) g.0 ∙ (st.1 e here).0)
goes_on s cp kn turn at (Busy (c ∷ cs) n) (Hears a) p q live j st l own g = absurd g
goes_on s cp kn turn at (Busy (c ∷ cs) n) Fires p q live j st l own g = absurd g
goes_on s cp kn turn at (Busy (c ∷ cs) n) Rests p q live j st l own g = absurd g
goes_on s cp kn turn at Firing (Begins r) p q live j st l own g = absurd g
goes_on s cp kn turn at Firing (Turns r) p q live j st l own g = absurd g
goes_on s cp kn turn at Firing (Bids d) p q live j st l own g = absurd g
goes_on s cp kn turn at Firing (Hears a) p q live j st l own g = absurd g
goes_on s cp kn turn at Firing Fires p q live j st l own g =
    acted s cp kn turn at p q live j input.Fire st.0 (turns_on turn q _ (on_coming s.plan turn (at + 1)) g) (l.all st.0)
    (λ e. let no : true ≡ false = sym st.1 ∙ e in cc) tt
goes_on s cp kn turn at Firing Rests p q live j st l own g =
    fired_not s cp kn turn at p q live j st.0 (turns_on turn q _ (on_coming s.plan turn (at + 1)) g) (l.all st.0) st.1

-- The whole history.

pub all_joined : (s : Setting) → IsClusterPlan s.plan → KeepsNothing s → (h : History) (p : TurnPosition) → IsServedOrder s.plan h p → OwnFrames s h → GoesOn s p (after s h)
all_joined s cp kn [] p o own =
    subst (λ (q : TurnPosition). GoesOn s q nothing_yet) (sym o) (record {
      joined = joined_first s;
      live = λ h. record { started = λ zero. refl; all = λ t. absurd (omega (arith, t)); settled = λ k. refl };
    })
all_joined s cp kn (x ∷ h) p o own = by_end (all_joined s cp kn h o.0 o.1.0 own.0) (after s h).end refl
  where
    by_end : GoesOn s o.0 (after s h) → (e : Option End) → (after s h).end ≡ e → GoesOn s p (after s (x ∷ h))
    by_end before (Some end) e =
        let same : after s (x ∷ h) ≡ after s h = ap (λ (o : Option End). unless_ended (after s h) o (takes s x.turn (after s h) x.place x.comes)) e in
        let over : (after s h).end ≡ None → ⊥ = λ none. (let no : Some end ≡ None = sym e ∙ none in cc) in
        subst (GoesOn s p) (sym same) (record { joined = before.joined; live = λ none. absurd (over none) })
    by_end before None e =
        let q : TurnPosition = o.0 in
        let n : IsNext GoesServed s.plan q x p = o.1.1 in
        let same : after s (x ∷ h) ≡ takes s q.turn (after s h) q.at x.comes =
        ap (λ (o : Option End). unless_ended (after s h) o (takes s x.turn (after s h) x.place x.comes)) e
        ∙ (λ i. takes s (n.turn i) (after s h) (n.place i) x.comes) in
        subst (GoesOn s p) (sym same)
        (goes_on s cp kn q.turn q.at q.doing x.comes (after s h) p e before.joined (stands s.plan h q cp o.1.0) (before.live e) own.1 n.goes)
