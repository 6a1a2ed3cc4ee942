-- What is written of a course is a front of what is written of its end.
use Rattle.std.proofs.Common.{◌≡◌, ◌≤◌, ℕ, ◌+◌, ◌-◌, zero, suc, Bool, true, false, List, [], ◌∷◌, ◌++◌, length, length-append, Option, Some, None, refl, ap, sym, subst, ◌∙◌, append_assoc, arith}
use Rattle.std.specs.Prelude.{◌%◌}
use Rattle.std.proofs.lemmas.List.{append-nil}
use Rattle.unit_rules.specs.Ruled.{ruled}
use Rattle.fabric_terms.specs.declared.config.FabricConfig.{FabricConfig}
use Rattle.fabric_terms.specs.declared.event.Event.{Event}
use Rattle.rand_pcg.specs.Pcg.{pcg32}
use Rattle.world_rules.specs.Runs.{History}
use Rattle.schedule_generate.specs.Course.{Course, considered_next, considers, firings, gives_of, is_full, may_come, round, round_unless, rounds, taken, taken_all, taken_if, taken_unless, tick_of, turns, with_firings, with_gives, with_tick}
use Rattle.schedule_generate.specs.Texts.{Writing, lines_written}

-- the lines of the one history are those of the other, and more
pub record Grows (w : Writing) (h k : History) : Type 0 where
  pub more : List ℕ
  pub lines : lines_written w k ≡ lines_written w h ++ more

grows_still : (w : Writing) (h : History) → Grows w h h
grows_still w h = record { more = []; lines = sym (append-nil (lines_written w h)) }

grows_on : (w : Writing) (h k l : History) → Grows w h k → Grows w k l → Grows w h l
grows_on w h k l a b = record { more = a.more ++ b.more; lines = b.lines ∙ (ap (λ t. t ++ b.more) a.lines ∙ append_assoc (lines_written w h) a.more b.more) }

if_grows : (w : Writing) (e : Event) (g : Course) (may : Bool) → Grows w g.history (taken_if e g may).history
if_grows w e g true = record { more = w.line e; lines = refl }
if_grows w e g false = grows_still w g.history

unless_grows : (w : Writing) (c : FabricConfig) (e : Event) (g : Course) (refused : Option Event) → Grows w g.history (taken_unless c e g refused).history
unless_grows w c e g None = if_grows w e g (may_come c g.history e)
unless_grows w c e g (Some d) = grows_still w g.history

pub taken_grows : (w : Writing) (c : FabricConfig) (e : Event) (g : Course) → Grows w g.history (taken c e g).history
taken_grows w c e g = unless_grows w c e g g.refused

pub taken_all_grows : (w : Writing) (c : FabricConfig) (es : List Event) (g : Course) → Grows w g.history (taken_all c es g).history
taken_all_grows w c [] g = grows_still w g.history
taken_all_grows w c (e ∷ es) g = grows_on w g.history (taken c e g).history (taken_all c es (taken c e g)).history (taken_grows w c e g) (taken_all_grows w c es (taken c e g))

pub consider_grows : (w : Writing) (c : FabricConfig) (g : Course) → Grows w g.history (considered_next c g).history
consider_grows w c g = taken_all_grows w c (gives_of (g.considered + 1) ((pcg32 g.draws).0 % 8)) (record g { considered = g.considered + 1; draws = (pcg32 g.draws).1 })

pub considers_grow : (w : Writing) (c : FabricConfig) (k : ℕ) (g : Course) → Grows w g.history (considers c k g).history
considers_grow w c zero g = grows_still w g.history
considers_grow w c (suc k) g = grows_on w g.history (considers c k g).history (considered_next c (considers c k g)).history (considers_grow w c k g) (consider_grows w c (considers c k g))

round_grows : (w : Writing) (c : FabricConfig) (n : ℕ) (g : Course) → Grows w g.history (round c n g).history
round_grows w c n g =
    let t = with_tick c g in
    let f = with_firings c t in
    let s = with_gives c f in
    grows_on w g.history t.history (round c n g).history (taken_grows w c (tick_of (ruled c g.history)) g)
    (grows_on w t.history f.history (round c n g).history (taken_all_grows w c (firings (ruled c t.history)) t)
    (grows_on w f.history s.history (round c n g).history (considers_grow w c ((ruled c f.history).count - f.considered) f) (taken_all_grows w c (turns (ruled c s.history) n (pcg32 s.draws).0) (record s { draws = (pcg32 s.draws).1 }))))

round_unless_grows : (w : Writing) (c : FabricConfig) (n : ℕ) (g : Course) (full : Bool) → Grows w g.history (round_unless c n g full).history
round_unless_grows w c n g true = grows_still w g.history
round_unless_grows w c n g false = round_grows w c n g

next_grows : (w : Writing) (c : FabricConfig) (n k : ℕ) (g : Course) → Grows w (rounds c n k g).history (rounds c n (suc k) g).history
next_grows w c n k g = round_unless_grows w c n (rounds c n k g) (is_full c (rounds c n k g))

-- rounds after some rounds
pub rounds_grow : (w : Writing) (c : FabricConfig) (n k more : ℕ) (g : Course) → Grows w (rounds c n k g).history (rounds c n (more + k) g).history
rounds_grow w c n k zero g =
    let e : k ≡ 0 + k = omega arith in
    subst (λ (j : ℕ). Grows w (rounds c n k g).history (rounds c n j g).history) e (grows_still w (rounds c n k g).history)
rounds_grow w c n k (suc more) g =
    let e : suc (more + k) ≡ suc more + k = omega arith in
    subst (λ (j : ℕ). Grows w (rounds c n k g).history (rounds c n j g).history) e
    (grows_on w (rounds c n k g).history (rounds c n (more + k) g).history (rounds c n (suc (more + k)) g).history (rounds_grow w c n k more g) (next_grows w c n (more + k) g))

-- A history that grows is no shorter: one byte is written of each event.

abbrev pub counted : Writing
counted = record { heading = []; line = λ e. 0 ∷ []; ending = λ h. [] }

one_each : (h : History) → length (lines_written counted h) ≡ length h
one_each [] = refl
one_each (e ∷ h) = let before : length (lines_written counted h) ≡ length h = one_each h in omega (arith, before, length-append (lines_written counted h) (0 ∷ []))

pub as_long : (h k : History) → Grows counted h k → length h ≤ length k
as_long h k grows =
    let all : length (lines_written counted k) ≡ length (lines_written counted h) + length grows.more = ap length grows.lines ∙ length-append (lines_written counted h) grows.more in
    omega (arith, all, one_each h, one_each k)
