-- What is accepted of a schedule is a recording.
use Rattle.std.proofs.Common.{◌≡◌, ℕ, ◌+◌, ◌≤◌, ◌<◌, ◌^◌, true, List, [], ◌∷◌, length, map, Option, Some, None, arith, refl, subst}
use Rattle.std.specs.Prelude.{◌==◌, All, nat_le, nat_lt}
use Rattle.std.specs.List.{list_any}
use Rattle.std.proofs.lemmas.Bool.{and_parts, leb-true, lt-ltb}
use Rattle.std.proofs.lemmas.List.{length-map}
use Rattle.std.proofs.lemmas.List.Elements.{All-cons, All-head, All-nil, All-tail, All-weaker}
use Rattle.unit_rules.specs.Fabric.{fabric}
use Rattle.fabric_fit.proofs.Units.{units_send, units_tell_in_range}
use Rattle.fabric_lemmas.specs.Maps.{rises_from}
use Rattle.fabric_terms.specs.declared.config.FabricConfig.{FabricConfig}
use Rattle.fabric_terms.specs.declared.event.Event.{Event}
use Rattle.fabric_terms.specs.Ranges.{Fits, IsNumber}
use Rattle.fabric_terms.specs.Runs.{Entry, Moment}
use Rattle.fabric_terms.specs.Sound.{IsSound}
use Rattle.frames_fit.specs.Laws.{EntryFits}
use Rattle.frames_fit.proofs.Valid.{world_in_range}
use Rattle.frames_fit.proofs.Worlds.{RunningInRange}
use Rattle.ring_points.specs.declared.who.Who.{Who}
use Rattle.frame_format.specs.Kinds.{is_frame}
use Rattle.unit_rules.specs.Ruled.{ruled}
use Rattle.world_rules.specs.EventLimits.{has_room, is_room, acts, most_time, time_after}
use Rattle.run_audit.specs.Breaches.{is_below}
use Rattle.run_audit.specs.Clocks.{comes_after}
use Rattle.run_facts.proofs.Clocks.{rising}
use Rattle.run_facts.proofs.Happens.{Cases, by_cases}
use Rattle.schedule_rules.specs.Laws.{IsValidHistory}
use Rattle.schedule_rules.specs.Schedule.{judge}
use Rattle.schedule_rules.proofs.Accepted.{Comes, all_accepted}
use Rattle.source_lines.specs.Lines.{most_lines}
use Rattle.world_rules.specs.Events.{world_step}
use Rattle.world_rules.specs.Runs.{History, moment_of, run_of}
use Rattle.world_rules.specs.Worlds.{Running, World, clocks_in}
use Rattle.trace_audit.specs.Recordings.{ClocksRise, HasLines, IsRecordable, IsRecording, LinesRise}
use Rattle.trace_audit.proofs.Few.{few_listed}
use Rattle.trace_audit.proofs.Seeing.{IsSeen, count_grows, configured_node, entry_seen}
use Rattle.trace_audit.proofs.Worlds.{NodeSeen, Seen, none_seen, seen_after}

-- Each event of what is accepted has a line above those before, and there was room for it.

abbrev pub Steps : FabricConfig → History → Type 0
Steps c [] = Unit {0}
Steps c (e ∷ es) = Steps c es × (has_room (ruled c es) (length es) e.1 ≡ true) × All (λ x. x.0 < e.0) es × (e.0 ≤ most_lines)

-- as it is before line n
abbrev StepsBefore : FabricConfig → ℕ → History → Type 0
StepsBefore c n h = Steps c h × All (λ x. x.0 < n) h

later : (n : ℕ) (h : History) → All (λ x. x.0 < n) h → All (λ x. x.0 < n + 1) h
later n h before = All-weaker (λ x. x.0 < n) (λ x. x.0 < n + 1) (λ x less. omega arith) h before

steps_taken : (c : FabricConfig) (n : ℕ) (h : History) (e : Event) → StepsBefore c n h → n ≤ most_lines → Comes c (ruled c h) (length h) e → StepsBefore c (n + 1) ((n, e) ∷ h)
steps_taken c n h e before line comes =
    ((before.0, comes.room, before.1, line), All-cons (λ x. x.0 < n + 1) (n, e) h (omega arith) (later n h before.1))

pub accepted_steps : (bytes : List ℕ) (c : FabricConfig) → (judge bytes).config ≡ Some c → Steps c (judge bytes).history
accepted_steps =
    all_accepted StepsBefore Steps (λ c sound. (tt, All-nil (λ x. x.0 < 2))) (λ c n h before. (before.0, later n h before.1)) steps_taken (λ c n h before. before.0)

-- The world of such a history.

seen_world : (c : FabricConfig) (h : History) → IsValidHistory c h → Seen c (ruled c h)
seen_world c [] good = none_seen c
seen_world c (e ∷ es) good =
    let earlier : IsValidHistory c es = record { sound = good.sound; fits = All-tail (λ x. Fits x.1) e es good.fits; valid = good.valid.0 } in
    seen_after is_frame c good.sound (ruled c es) (seen_world c es earlier) e.1 (All-head (λ x. Fits x.1) e es good.fits) good.valid.1

reads_in_range : (c : FabricConfig) (h : History) → IsValidHistory c h → All (λ n. IsNumber n.1.reading) (ruled c h).nodes
reads_in_range c h good =
    let w = world_in_range fabric units_send is_frame c h good.sound good.fits good.valid in
    All-weaker (λ n. RunningInRange fabric units_send c n.1) (λ n. IsNumber n.1.reading) (λ n k. k.reading) (ruled c h).nodes w.nodes

-- the true time

timed : (c : FabricConfig) (w : World fabric) (e : Event) → w.time ≤ most_time → time_after w.time e ≤ most_time →
    Cases fabric c w e (λ st. st.world.time ≤ most_time)
timed c w e h room = record {
  still = h;
  begins = λ node reading g. h;
  stops = λ node s g. h;
  ticks = λ advance readings g. subst (λ d. time_after w.time d ≤ most_time) g room;
  acts = λ node i s there came. h;
  table_begins = λ actor g. h;
  table_stops = λ arbiter s g. h;
  rules = λ arbiter f s g m to. h;
}

in_time : (w : World fabric) (events : ℕ) (e : Event) → has_room w events e ≡ true → time_after w.time e ≤ most_time
unfolding has_room
in_time w events e room = leb-true (time_after w.time e) most_time (and_parts (is_room (acts e) events w.count) (nat_le (time_after w.time e) most_time) room).1

time_fits : (c : FabricConfig) (h : History) → Steps c h → (ruled c h).time ≤ most_time
time_fits c [] steps = omega arith
time_fits c (e ∷ es) steps =
    by_cases fabric c (ruled c es) e.1 (λ st. st.world.time ≤ most_time)
    (timed c (ruled c es) e.1 (time_fits c es steps.0) (in_time (ruled c es) (length es) e.1 steps.1)) e.1 refl

-- the clocks

below_next : (v w : Who) → v.actor < w.actor → is_below v w ≡ true
below_next v w h = let less : nat_lt v.actor w.actor ≡ true = lt-ltb v.actor w.actor h in rw less refl

clocks_rise : (c : FabricConfig) → IsSound c → (low : ℕ) (above : Option Who) (ns : List (ℕ × Running fabric)) → rises_from low ns ≡ true →
    All (NodeSeen c) ns → All (λ n. IsNumber n.1.reading) ns → ((w : Who) → low ≤ w.actor → comes_after above w ≡ true) →
    ClocksRise above (map (λ n. (n.1.node.ring.me, n.1.reading)) ns)
clocks_rise c sound low above [] rise seen reads over = tt
clocks_rise c sound low above (n ∷ ns) rise seen reads over =
    let parts = and_parts (nat_le low n.0) (rises_from (n.0 + 1) ns) rise in
    let near = leb-true low n.0 parts.0 in
    let one = All-head (NodeSeen c) n ns seen in
    let same = one.actor in
    let node = configured_node c sound n.0 one.listed in
    let first = node.0 in let last = node.1 in
    let from_one = one.from_one in
    let counted = one.counted in
    let number : n.1.reading ≤ 10 ^ 15 = All-head (λ n. IsNumber n.1.reading) n ns reads in (
      over n.1.node.ring.me (omega arith),
      ((omega arith, omega arith), from_one, omega arith),
      omega arith,
      clocks_rise c sound (n.0 + 1) (Some n.1.node.ring.me) ns parts.1 (All-tail (NodeSeen c) n ns seen) (All-tail (λ n. IsNumber n.1.reading) n ns reads)
          (λ w later. below_next n.1.node.ring.me w (omega arith)),
    )

abbrev clock_of : ℕ × Running fabric → Who × ℕ
clock_of n = (n.1.node.ring.me, n.1.reading)

few_clocks : (w : World fabric) → length w.nodes ≤ 64 → length (clocks_in {a = fabric} w) ≤ 64
few_clocks w h = let as_many : length (clocks_in {a = fabric} w) ≡ length w.nodes = length-map w.nodes clock_of in omega arith

-- A moment.

has_lines : (count : ℕ) (o : Option Entry) → count < 2 ^ 32 → IsSeen count o → EntryFits o → HasLines o
has_lines count None few seen fits = tt
has_lines count (Some e) few seen fits = record { who = seen.who; reading = seen.reading; reports = fits; sent = (seen.span, (let last = seen.last in omega arith)) }

-- each moment of its run has lines, where few frames were sent
recordable : (c : FabricConfig) (h : History) → IsValidHistory c h → Steps c h → (ruled c h).count < 2 ^ 32 → All IsRecordable (run_of fabric c h)
recordable c [] good steps few = All-nil IsRecordable
recordable c (e ∷ es) good steps few =
    let earlier : IsValidHistory c es = record { sound = good.sound; fits = All-tail (λ x. Fits x.1) e es good.fits; valid = good.valid.0 } in
    let fits = All-head (λ x. Fits x.1) e es good.fits in
    let before : Seen c (ruled c es) = seen_world c es earlier in
    let reads = reads_in_range c es earlier in
    let grows = count_grows is_frame c good.sound (ruled c es) before reads e.1 fits good.valid.1 in
    let now : Seen c (ruled c (e ∷ es)) = seen_world c (e ∷ es) good in
    let rise = rising fabric c (e ∷ es) in
    let time = time_fits c (e ∷ es) steps in
    let line = steps.3 in
    let listed = few_listed 0 (ruled c (e ∷ es)).nodes c.nodes rise (All-weaker (NodeSeen c) (λ e. list_any (λ n. n.node == e.0) c.nodes ≡ true) (λ n k. k.listed) (ruled c (e ∷ es)).nodes now.nodes) in
    let most = good.sound.nodes_count.to_high in
    let told = units_tell_in_range is_frame c (e ∷ es) good.sound good.fits good.valid in
    let moment : Moment = moment_of {a = fabric} e.0 (world_step fabric c (ruled c es) e.1) in
    All-cons IsRecordable moment (run_of fabric c es)
    (record {
      line = omega arith;
      time = omega arith;
      clocks = clocks_rise c good.sound 0 None (ruled c (e ∷ es)).nodes rise now.nodes (reads_in_range c (e ∷ es) good) (λ w low. refl);
      few = few_clocks (ruled c (e ∷ es)) (omega arith);
      entry = has_lines (ruled c (e ∷ es)).count moment.entry few (entry_seen is_frame c good.sound (ruled c es) before reads e.1 fits good.valid.1)
          (All-head (λ m. EntryFits m.entry) moment (run_of fabric c es) told);
    })
    (recordable c es earlier steps.0 (omega arith))

lines_below : (c : FabricConfig) (n : ℕ) (h : History) → All (λ x. x.0 < n) h → All (λ m. m.line < n) (run_of fabric c h)
lines_below c n [] before = All-nil (λ m. m.line < n)
lines_below c n (e ∷ es) before =
    All-cons (λ m. m.line < n) (moment_of {a = fabric} e.0 (world_step fabric c (ruled c es) e.1)) (run_of fabric c es)
    (All-head (λ x. x.0 < n) e es before) (lines_below c n es (All-tail (λ x. x.0 < n) e es before))

lines_rise : (c : FabricConfig) (h : History) → Steps c h → LinesRise (run_of fabric c h)
lines_rise c [] steps = tt
lines_rise c (e ∷ es) steps = (lines_below c e.0 es steps.2, lines_rise c es steps.0)

pub is_recording : (c : FabricConfig) (h : History) → IsValidHistory c h → Steps c h → (ruled c h).count < 2 ^ 32 → IsRecording (run_of fabric c h)
is_recording c h good steps few = record { each = recordable c h good steps few; rise = lines_rise c h steps }
