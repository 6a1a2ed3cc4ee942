-- One more event of a course.
use Rattle.std.proofs.Common.{◌≡◌, ◌≢◌, ◌≤◌, ◌<◌, arith, ℕ, ◌+◌, zero, suc, Bool, true, false, List, [], ◌∷◌, ◌++◌, ◌-◌, length, All, Some, None, Err, refl, ap, sym, subst, ◌∙◌, ◌&&◌}
use Rattle.std.specs.Prelude.{◌%◌}
use Rattle.fabric_terms.specs.declared.config.FabricConfig.{FabricConfig}
use Rattle.fabric_terms.specs.declared.event.Event.{Event}
use Rattle.ring_world.specs.Answers.{Accepts, Refuses}
use Rattle.frame_format.specs.Kinds.{is_frame}
use Rattle.unit_rules.specs.Ruled.{ruled}
use Rattle.world_rules.specs.EventLimits.{has_room}
use Rattle.ring_world.specs.declared.world.EventRefusal.{EventRefusal}
use Rattle.ring_world.specs.declared.world.EventRefusal.TheVariants as refusal
use Rattle.world_rules.specs.Runs.{History}
use Rattle.world_rules.specs.Schedules.{is_there, keeps_bound}
use Rattle.schedule_generate.specs.Course.{Course, considered_next, considers, firings, gives_of, is_full, may_come, next_line, round, round_unless, rounds, taken, taken_all, taken_if, taken_unless, tick_of, turns, with_firings, with_gives, with_tick, with_turn}
use Rattle.fabric_terms.specs.Ranges.{Fits}
use Rattle.schedule_generate.specs.Goes.{Known, Passes, Went}
use Rattle.schedule_generate.specs.Settings.{generated_config}
use Rattle.schedule_generate.specs.Texts.{Writing, lines_written}
use Rattle.schedule_generate.specs.declared.generator.Generator.{Generator}
use Rattle.schedule_generate.specs.declared.course_halt.CourseHalt.{CourseHalt}
use Rattle.schedule_generate.specs.declared.course_halt.CourseHalt.TheVariants as halt
use Rattle.rand_pcg.specs.Pcg.{pcg32}
use Rattle.schedule_generate.proofs.Growing.{as_long, consider_grows, considers_grow, counted, taken_all_grows, taken_grows}

pub taken_may : (c : FabricConfig) (e : Event) (g : Course) → g.refused ≡ None → may_come c g.history e ≡ true → taken c e g ≡ record g { history = (next_line g.history, e) ∷ g.history }
taken_may c e g going may = ap (taken_unless c e g) going ∙ ap (taken_if e g) may

pub taken_not : (c : FabricConfig) (e : Event) (g : Course) → g.refused ≡ None → may_come c g.history e ≡ false → taken c e g ≡ record g { refused = Some e }
taken_not c e g going may = ap (taken_unless c e g) going ∙ ap (taken_if e g) may

pub accepts_may : (c : FabricConfig) (h : History) (e : Event) → Accepts c h e → may_come c h e ≡ true
accepts_may c h e a = all (is_there is_frame c (ruled c h) e) (keeps_bound c (ruled c h) e) (has_room (ruled c h) (length h) e) a.there a.bound a.room
  where
    all : (x y z : Bool) → x ≡ true → y ≡ true → z ≡ true → (x && y && z) ≡ true
    all x y z e f g = rw (e, f, g) refl

pub refuses_may : (c : FabricConfig) (h : History) (e : Event) (r : EventRefusal) → Refuses r c h e → r ≢ refusal.OutOfMemory → may_come c h e ≡ false
refuses_may c h e refusal.NoSuch f other = ap (λ x. x && keeps_bound c (ruled c h) e && has_room (ruled c h) (length h) e) f
refuses_may c h e (refusal.DriftBroken broken) f other = second (is_there is_frame c (ruled c h) e) (keeps_bound c (ruled c h) e) (has_room (ruled c h) (length h) e) f.0 f.1
  where
    second : (x y z : Bool) → x ≡ true → y ≡ false → (x && y && z) ≡ false
    second x y z e f = rw (e, f) refl
refuses_may c h e refusal.TooLarge f other = third (is_there is_frame c (ruled c h) e) (keeps_bound c (ruled c h) e) (has_room (ruled c h) (length h) e) f.0 f.1 f.2
  where
    third : (x y z : Bool) → x ≡ true → y ≡ true → z ≡ false → (x && y && z) ≡ false
    third x y z e f g = rw (e, f, g) refl
refuses_may c h e refusal.OutOfMemory f other = absurd (other refl)

-- where an event was refused, nothing more is taken

pub record Sticks (f : Course → Course) : Type 0 where
  pub sticks : (g : Course) (e : Event) → g.refused ≡ Some e → ((f g).history ≡ g.history) × ((f g).refused ≡ Some e)
  -- and nothing that was taken is lost
  pub grows : (g : Course) → length g.history ≤ length (f g).history

pub taken_sticks : (c : FabricConfig) (e : Event) → Sticks (taken c e)
taken_sticks c e = record { sticks = λ g d is. let same : taken c e g ≡ g = ap (taken_unless c e g) is in (ap (λ (k : Course). k.history) same, ap (λ (k : Course). k.refused) same ∙ is); grows = λ g. as_long g.history (taken c e g).history (taken_grows counted c e g) }

all_stick : (c : FabricConfig) (es : List Event) (g : Course) (d : Event) → g.refused ≡ Some d → ((taken_all c es g).history ≡ g.history) × ((taken_all c es g).refused ≡ Some d)
all_stick c [] g d is = (refl, is)
all_stick c (e ∷ es) g d is =
    let first = (taken_sticks c e).sticks g d is in
    let rest = all_stick c es (taken c e g) d first.1 in
    (rest.0 ∙ first.0, rest.1)

pub taken_all_sticks : (c : FabricConfig) (es : List Event) → Sticks (taken_all c es)
taken_all_sticks c es = record { sticks = all_stick c es; grows = λ g. as_long g.history (taken_all c es g).history (taken_all_grows counted c es g) }

pub tick_sticks : (c : FabricConfig) → Sticks (with_tick c)
tick_sticks c = record { sticks = λ g d is. (taken_sticks c (tick_of (ruled c g.history))).sticks g d is; grows = λ g. (taken_sticks c (tick_of (ruled c g.history))).grows g }

pub firings_stick : (c : FabricConfig) → Sticks (with_firings c)
firings_stick c = record { sticks = λ g d is. all_stick c (firings (ruled c g.history)) g d is; grows = λ g. (taken_all_sticks c (firings (ruled c g.history))).grows g }

pub consider_sticks : (c : FabricConfig) → Sticks (considered_next c)
consider_sticks c = record { sticks = λ g d is. all_stick c (gives_of (g.considered + 1) ((pcg32 g.draws).0 % 8)) (record g { considered = g.considered + 1; draws = (pcg32 g.draws).1 }) d is; grows = λ g. as_long g.history (considered_next c g).history (consider_grows counted c g) }

pub considers_stick : (c : FabricConfig) (k : ℕ) → Sticks (considers c k)
considers_stick c zero = record { sticks = λ g d is. (refl, is); grows = λ g. omega arith }
considers_stick c (suc k) = record {
  sticks = λ g d is.
      let before = (considers_stick c k).sticks g d is in
      let last = (consider_sticks c).sticks (considers c k g) d before.1 in
      (last.0 ∙ before.0, last.1);
  grows = λ g. as_long g.history (considers c (suc k) g).history (considers_grow counted c (suc k) g);
}

pub gives_stick : (c : FabricConfig) → Sticks (with_gives c)
gives_stick c = record { sticks = λ g d is. (considers_stick c ((ruled c g.history).count - g.considered)).sticks g d is; grows = λ g. (considers_stick c ((ruled c g.history).count - g.considered)).grows g }

pub turn_sticks : (c : FabricConfig) (n : ℕ) → Sticks (with_turn c n)
turn_sticks c n = record { sticks = λ g d is. all_stick c (turns (ruled c g.history) n (pcg32 g.draws).0) (record g { draws = (pcg32 g.draws).1 }) d is; grows = λ g. (taken_all_sticks c (turns (ruled c g.history) n (pcg32 g.draws).0)).grows (record g { draws = (pcg32 g.draws).1 }) }

pub both_stick : (f k : Course → Course) → Sticks f → Sticks k → Sticks (λ g. k (f g))
both_stick f k s t = record {
  sticks = λ g d is.
      let first = s.sticks g d is in
      let last = t.sticks (f g) d first.1 in
      (last.0 ∙ first.0, last.1);
  grows = λ g. omega (arith, s.grows g, t.grows (f g));
}

-- what follows the tick, what follows the firings, and what follows the frames
pub after_gives : (c : FabricConfig) (n : ℕ) → Sticks (with_turn c n)
after_gives c n = turn_sticks c n

pub after_firings : (c : FabricConfig) (n : ℕ) → Sticks (λ g. with_turn c n (with_gives c g))
after_firings c n = both_stick (with_gives c) (with_turn c n) (gives_stick c) (turn_sticks c n)

pub after_tick : (c : FabricConfig) (n : ℕ) → Sticks (λ g. with_turn c n (with_gives c (with_firings c g)))
after_tick c n = both_stick (with_firings c) (λ g. with_turn c n (with_gives c g)) (firings_stick c) (after_firings c n)

pub round_sticks : (c : FabricConfig) (n : ℕ) → Sticks (round c n)
round_sticks c n = both_stick (with_tick c) (λ g. with_turn c n (with_gives c (with_firings c g))) (tick_sticks c) (after_tick c n)

unless_sticks : (c : FabricConfig) (n : ℕ) (full : Bool) → Sticks (λ g. round_unless c n g full)
unless_sticks c n true = record { sticks = λ g d is. (refl, is); grows = λ g. omega arith }
unless_sticks c n false = round_sticks c n

pub rounds_stick : (c : FabricConfig) (n k : ℕ) → Sticks (rounds c n k)
rounds_stick c n zero = record { sticks = λ g d is. (refl, is); grows = λ g. omega arith }
rounds_stick c n (suc k) = record {
  sticks = λ g d is.
      let before = (rounds_stick c n k).sticks g d is in
      let last = (unless_sticks c n (is_full c (rounds c n k g))).sticks (rounds c n k g) d before.1 in
      (last.0 ∙ before.0, last.1);
  grows = λ g. omega (arith, (rounds_stick c n k).grows g, (unless_sticks c n (is_full c (rounds c n k g))).grows (rounds c n k g));
}

-- a halt in a part of a course is one of the course
pub went_on : (w : ℕ → Writing) (knows known : Known) (n : ℕ) (stop : CourseHalt) (a : Generator) (text : List ℕ) (g : Course) (sent : List ℕ) (f : Course → Course) → Sticks f → Went w knows n (Err stop) a text g sent → Went w known n (Err stop) a text (f g) sent
went_on w knows known n (halt.TooLarge line) a text g sent f s r =
    let same = s.sticks g r.event r.refused in
    record {
      event = r.event;
      refused = same.1;
      line = r.line ∙ ap next_line (sym same.0);
      passes = subst (λ h. Passes (generated_config n) h r.event) (sym same.0) r.passes;
      fits = subst (λ (h : History). All (λ e. Fits e.1) h) (sym same.0) r.fits;
      told = r.told ∙ ap (lines_written (w n)) (sym same.0);
    }
went_on w knows known n halt.OutOfMemory a text g sent f s r = let lt : a.line < next_line g.history = r in omega (arith, lt, s.grows g)
went_on w knows known n halt.SinkFailed a text g sent f s r = absurd r

-- more events, one after the other
pub taken_all-append : (c : FabricConfig) (es ds : List Event) (g : Course) → taken_all c (es ++ ds) g ≡ taken_all c ds (taken_all c es g)
taken_all-append c [] ds g = refl
taken_all-append c (e ∷ es) ds g = taken_all-append c es ds (taken c e g)
