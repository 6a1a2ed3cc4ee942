-- What a course is made of, and how its text is judged.
use Rattle.std.proofs.Common.{◌≡◌, ℕ, ◌+◌, ◌-◌, ◌≤◌, zero, suc, Bool, true, false, List, [], ◌∷◌, ◌++◌, length, map, All, Option, Some, None, refl, ap, sym, subst, ◌∙◌}
use Rattle.std.specs.Prelude.{◌==◌, ◌&&◌, ◌%◌, ◌/◌, if◌then◌else◌}
use Rattle.std.proofs.lemmas.List.Elements.{All-nil, All-cons, All-map, All-append, All-head, All-tail}
use Rattle.unit_rules.specs.Fabric.{fabric}
use Rattle.fabric_terms.specs.Ranges.{Fits}
use Rattle.fabric_terms.specs.declared.config.FabricConfig.{FabricConfig}
use Rattle.fabric_terms.specs.declared.event.Event.{Event}
use Rattle.fabric_terms.specs.declared.event.Event.TheVariants.{Give}
use Rattle.rand_pcg.specs.Pcg.{pcg32}
use Rattle.frame_format.specs.Kinds.{is_frame}
use Rattle.unit_rules.specs.Ruled.{ruled}
use Rattle.world_rules.specs.EventLimits.{has_room}
use Rattle.schedule_rules.specs.Schedule.{judge}
use Rattle.world_rules.specs.Runs.{History}
use Rattle.world_rules.specs.Schedules.{is_there, keeps_bound, node_runs}
use Rattle.world_rules.specs.Worlds.{World}
use Rattle.schedule_generate.specs.Course.{Course, arbiter_starts, asks_first, begun, considers, fires, firings, gives_of, is_full, may_come, node_starts, opening, round, round_unless, rounds, running, taken, taken_all, taken_if, taken_unless, tick_of, turn_of, turns, with_firings, with_gives, with_tick}
use Rattle.schedule_generate.specs.Goes.{Passes}
use Rattle.schedule_generate.specs.Laws.{judged_of}
use Rattle.schedule_generate.specs.Settings.{generated_config, numbers_from}
use Rattle.schedule_generate.specs.Texts.{event_line, gen_text, generate_writing, generated, lines_written, refused_line}
use Rattle.schedule_generate.proofs.Judged.{AreMade, line_refused, lines_lead, text_judged}
use Rattle.schedule_generate.proofs.Numbers.{numbers_all}
use Rattle.schedule_generate.proofs.Short.{IsPlain}

-- each event was one that may come, and the refused one may not
pub record IsMade (c : FabricConfig) (g : Course) : Type 0 where
  pub made : AreMade c g.history
  pub last : (e : Event) → g.refused ≡ Some e → IsPlain e × (may_come c g.history e ≡ false)

if_made : (c : FabricConfig) (e : Event) (g : Course) (may : Bool) → IsPlain e → IsMade c g → g.refused ≡ None → may_come c g.history e ≡ may → IsMade c (taken_if e g may)
if_made c e g true p m none is = record { made = (m.made, refl, p, is); last = λ d f. let no : None ≡ Some d = sym none ∙ f in cc }
if_made c e g false p m none is = record {
  made = m.made;
  last = λ d f. let same : e ≡ d = cc in subst (λ (x : Event). IsPlain x × (may_come c g.history x ≡ false)) same (p, is);
}

unless_made : (c : FabricConfig) (e : Event) (g : Course) (refused : Option Event) → IsPlain e → IsMade c g → g.refused ≡ refused → IsMade c (taken_unless c e g refused)
unless_made c e g None p m is = if_made c e g (may_come c g.history e) p m is refl
unless_made c e g (Some d) p m is = m

taken_made : (c : FabricConfig) (e : Event) (g : Course) → IsPlain e → IsMade c g → IsMade c (taken c e g)
taken_made c e g p m = unless_made c e g g.refused p m refl

all_made : (c : FabricConfig) (es : List Event) (g : Course) → All IsPlain es → IsMade c g → IsMade c (taken_all c es g)
all_made c [] g p m = m
all_made c (e ∷ es) g p m = all_made c es (taken c e g) (All-tail IsPlain e es p) (taken_made c e g (All-head IsPlain e es p) m)

same_made : (c : FabricConfig) (g k : Course) → k.history ≡ g.history → k.refused ≡ g.refused → IsMade c g → IsMade c k
same_made c g k h r m = record {
  made = subst (λ x. AreMade c x) (sym h) m.made;
  last = λ e f. let is = m.last e (sym r ∙ f) in (is.0, ap (λ x. may_come c x e) h ∙ is.1);
}

gives_plain : (frame k : ℕ) → All IsPlain (gives_of frame k)
gives_plain frame zero = All-nil IsPlain
gives_plain frame (suc zero) = All-cons IsPlain (Give frame) (Give frame ∷ []) tt (All-cons IsPlain (Give frame) [] tt (All-nil IsPlain))
gives_plain frame (suc (suc k)) = All-cons IsPlain (Give frame) [] tt (All-nil IsPlain)

turn_plain : (w : World fabric) (node : ℕ) (runs : Bool) → IsPlain (turn_of w node runs)
turn_plain w node true = tt
turn_plain w node false = tt

turns_plain : (w : World fabric) (n draw : ℕ) → All IsPlain (turns w n draw)
turns_plain w n draw = by_test (draw % 50 == 0)
  where
    event : Event
    event = turn_of w (draw / 64 % n + 1) (node_runs w (draw / 64 % n + 1))

    by_test : (b : Bool) → All IsPlain (if b then event ∷ [] else [])
    by_test true = All-cons IsPlain event [] (turn_plain w (draw / 64 % n + 1) (node_runs w (draw / 64 % n + 1))) (All-nil IsPlain)
    by_test false = All-nil IsPlain

fires_plain : (nodes : List ℕ) → All IsPlain (map fires nodes)
fires_plain [] = All-nil IsPlain
fires_plain (k ∷ ks) = All-cons IsPlain (fires k) (map fires ks) tt (fires_plain ks)

opening_plain : (n : ℕ) → All IsPlain (opening n)
opening_plain n =
    All-append IsPlain (map arbiter_starts (numbers_from 1 3)) (map node_starts (numbers_from 1 n) ++ map asks_first (numbers_from 2 (n - 1)))
    (All-map IsPlain arbiter_starts (numbers_from 1 3) (numbers_all (λ k. IsPlain (arbiter_starts k)) 1 3 (λ k low high. tt)))
    (All-append IsPlain (map node_starts (numbers_from 1 n)) (map asks_first (numbers_from 2 (n - 1)))
    (All-map IsPlain node_starts (numbers_from 1 n) (numbers_all (λ k. IsPlain (node_starts k)) 1 n (λ k low high. tt)))
    (All-map IsPlain asks_first (numbers_from 2 (n - 1)) (numbers_all (λ k. IsPlain (asks_first k)) 2 (n - 1) (λ k low high. tt))))

considers_made : (c : FabricConfig) (k : ℕ) (g : Course) → IsMade c g → IsMade c (considers c k g)
considers_made c zero g m = m
considers_made c (suc k) g m =
    let before = considers c k g in
    let draw = pcg32 before.draws in
    let now : Course = record before { considered = before.considered + 1; draws = draw.1 } in
    all_made c (gives_of (before.considered + 1) (draw.0 % 8)) now (gives_plain (before.considered + 1) (draw.0 % 8)) (same_made c before now refl refl (considers_made c k g m))

round_made : (c : FabricConfig) (n : ℕ) (g : Course) → IsMade c g → IsMade c (round c n g)
round_made c n g m =
    let t = with_tick c g in
    let f = with_firings c t in
    let s = with_gives c f in
    let draw = pcg32 s.draws in
    let now : Course = record s { draws = draw.1 } in
    let after_tick : IsMade c t = taken_made c (tick_of (ruled c g.history)) g tt m in
    let after_firings : IsMade c f = all_made c (firings (ruled c t.history)) t (fires_plain (running (ruled c t.history))) after_tick in
    let after_gives : IsMade c s = considers_made c ((ruled c f.history).count - f.considered) f after_firings in
    all_made c (turns (ruled c s.history) n draw.0) now (turns_plain (ruled c s.history) n draw.0) (same_made c s now refl refl after_gives)

unless_round_made : (c : FabricConfig) (n : ℕ) (g : Course) (full : Bool) → IsMade c g → IsMade c (round_unless c n g full)
unless_round_made c n g true m = m
unless_round_made c n g false m = round_made c n g m

rounds_made : (c : FabricConfig) (n k : ℕ) (g : Course) → IsMade c g → IsMade c (rounds c n k g)
rounds_made c n zero g m = m
rounds_made c n (suc k) g m = unless_round_made c n (rounds c n k g) (is_full c (rounds c n k g)) (rounds_made c n k g m)

first_made : (c : FabricConfig) (seed : ℕ) → IsMade c (begun seed)
first_made c seed = record { made = tt; last = λ e f. cc }

pub course_made : (seed n count : ℕ) → IsMade (generated_config n) (generated seed n count)
course_made seed n count =
    rounds_made (generated_config n) n count _ (all_made (generated_config n) (opening n) (begun seed) (opening_plain n) (first_made (generated_config n) seed))

no_room : (c : FabricConfig) (h : History) (e : Event) → Passes c h e → may_come c h e ≡ false → has_room (ruled c h) (length h) e ≡ false
no_room c h e p may = by_tests (is_there is_frame c (ruled c h) e) (keeps_bound c (ruled c h) e) (has_room (ruled c h) (length h) e) p.there p.bound may
  where
    by_tests : (x y z : Bool) → x ≡ true → y ≡ true → (x && y && z) ≡ false → z ≡ false
    by_tests true true z f g k = k
    by_tests false y z f g k = cc
    by_tests true false z f g k = cc

by_refusal : (n : ℕ) (g : Course) (o : Option Event) → 1 ≤ n → n ≤ 16 → IsMade (generated_config n) g → All (λ e. Fits e.1) g.history → g.refused ≡ o
    → ((e : Event) → o ≡ Some e → Passes (generated_config n) g.history e) → judge (lines_written (generate_writing n) g.history ++ refused_line o) ≡ judged_of n (record g { refused = o })
by_refusal n g None some few m fits is passes =
    let c = generated_config n in
    let h = g.history in
    text_judged n h [] some few ∙ lines_lead c h [] m.made fits
by_refusal n g (Some e) some few m fits is passes =
    let c = generated_config n in
    let h = g.history in
    let last = m.last e is in
    let p = passes e refl in
    text_judged n h (event_line e) some few
    ∙ (lines_lead c h (event_line e) m.made fits ∙ line_refused c h e m.made last.0 p.fits p.there p.bound (no_room c h e p last.1))

-- the text is judged as it was made
pub text_is_judged_so : (seed n count : ℕ) → 1 ≤ n → n ≤ 16 → All (λ e. Fits e.1) (generated seed n count).history
    → ((e : Event) → (generated seed n count).refused ≡ Some e → Passes (generated_config n) (generated seed n count).history e)
    → judge (gen_text seed n count) ≡ judged_of n (generated seed n count)
text_is_judged_so seed n count some few fits passes =
    let g = generated seed n count in
    by_refusal n g g.refused some few (course_made seed n count) fits refl passes
