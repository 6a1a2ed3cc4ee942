-- The judging of a text accepts what was taken, and refuses what was refused.
use Rattle.std.proofs.Common.{◌≡◌, ℕ, ◌+◌, ◌≤◌, ◌<◌, Bool, true, false, not, List, [], ◌∷◌, ◌++◌, length, All, Some, None, refl, ap, sym, ◌∙◌, arith, nat_lt, append_assoc}
use Rattle.std.specs.Prelude.{codes, ◌==◌, ◌&&◌, ◌||◌}
use Rattle.std.proofs.lemmas.Bool.{and_parts, ltb-true}
use Rattle.std.proofs.lemmas.Bool.Decides.{nat_tests}
use Rattle.std.proofs.lemmas.List.{append-nil}
use Rattle.std.proofs.lemmas.List.Elements.{All-head, All-tail}
use Rattle.unit_rules.specs.Fabric.{fabric}
use Rattle.fabric_status.specs.declared.status.Refusal.TheVariants.{TooLarge}
use Rattle.fabric_terms.specs.Ranges.{Fits}
use Rattle.fabric_terms.specs.declared.config.FabricConfig.{FabricConfig}
use Rattle.fabric_terms.specs.declared.event.Event.{Event}
use Rattle.frame_format.specs.Kinds.{is_frame}
use Rattle.unit_rules.specs.Ruled.{ruled}
use Rattle.world_rules.specs.EventLimits.{acts, has_room, is_room}
use Rattle.line_format.proofs.LineLaws.{spelled_is_read}
use Rattle.line_format.specs.Lines.{event_text, lines_of, onto_first}
use Rattle.source_lines.proofs.Cuts.{lines_cut}
use Rattle.source_lines.specs.Lines.{is_ignored, most_line, most_lines}
use Rattle.schedule_rules.proofs.First.{first_read}
use Rattle.schedule_rules.proofs.Judging.{judge_line, judge_on}
use Rattle.schedule_rules.specs.Schedule.{Accepted, Refused as IsRefused, event_verdict, judge, judge_from, judge_rest, judged_at, line_verdict, run_verdict, unless_ignored, unless_large, unless_there}
use Rattle.world_rules.specs.Runs.{History}
use Rattle.world_rules.specs.Schedules.{is_there, keeps_bound}
use Rattle.world_rules.specs.Worlds.{World}
use Rattle.fabric_terms.specs.declared.command.Command.TheVariants.{Link}
use Rattle.fabric_terms.specs.declared.event.Event.TheVariants.{Start, Stop, Tick, Fire, Give, Do, Junk}
use Rattle.schedule_generate.specs.Course.{may_come, next_line}
use Rattle.schedule_generate.specs.Settings.{config_line, generated_config}
use Rattle.schedule_generate.specs.Texts.{event_line, generate_writing, lines_written}
use Rattle.schedule_generate.proofs.Reading.{line_plain, line_read, line_short}
use Rattle.schedule_generate.proofs.Short.{IsPlain, no_feed, short_text}

-- One line.

feed_false : (b : ℕ) → not (b == 10) ≡ true → (b == 10) ≡ false
feed_false b e = by_test (b == 10) e
  where
    by_test : (t : Bool) → not t ≡ true → t ≡ false
    by_test true f = cc
    by_test false f = refl

pub line_cut : (line rest : List ℕ) → no_feed line ≡ true → lines_of (line ++ (codes "\n" ++ rest)) ≡ line ∷ lines_of rest
line_cut [] rest e = refl
line_cut (b ∷ bs) rest e =
    let parts = and_parts (not (b == 10)) (no_feed bs) e in
    lines_cut b (bs ++ (codes "\n" ++ rest)) false (feed_false b parts.0) ∙ ap (onto_first b) (line_cut bs rest parts.1)

not_ignored : (e : Event) → IsPlain e → is_ignored (event_text e) ≡ false
not_ignored (Start actor None) p = refl
not_ignored (Start actor (Some reading)) p = refl
not_ignored (Stop actor) p = refl
not_ignored (Tick advance []) p = refl
not_ignored (Tick advance (r ∷ rs)) p = refl
not_ignored (Fire node) p = refl
not_ignored (Give frame) p = refl
not_ignored (Do node (Link other)) p = refl
not_ignored (Do node command) p = absurd p
not_ignored (Junk actor bytes) p = absurd p

not_large : (k n : ℕ) → k ≤ 4096 → n ≤ 2000000 → (nat_lt most_line k || nat_lt most_lines n) ≡ false
not_large k n few early = neither (nat_lt most_line k) (nat_lt most_lines n) (grind (arith, nat_tests)) (grind (arith, nat_tests))
  where
    neither : (x y : Bool) → x ≡ false → y ≡ false → (x || y) ≡ false
    neither x y e f = rw (e, f) refl

-- the line of an event is judged as the event
plain_verdict : (c : FabricConfig) (w : World fabric) (events n : ℕ) (e : Event) → IsPlain e → Fits e → n ≤ 2000000 → line_verdict c w events n (event_text e) ≡ run_verdict c w events n e
unfolding line_verdict
plain_verdict c w events n e p fits early =
    let text = event_text e in
    let short = short_text e p fits in
    ap (unless_large c w events n text) (not_large (length text) n short.few early)
    ∙ (ap (unless_ignored c w events n text) (not_ignored e p)
    ∙ ap (event_verdict c w events n) (spelled_is_read e fits))

-- Events that may come.

pub record Parts (c : FabricConfig) (h : History) (e : Event) : Type 0 where
  pub there : is_there is_frame c (ruled c h) e ≡ true
  pub bound : keeps_bound c (ruled c h) e ≡ true
  pub room : has_room (ruled c h) (length h) e ≡ true

parts_of : (c : FabricConfig) (h : History) (e : Event) → may_come c h e ≡ true → Parts c h e
parts_of c h e may =
    let last = and_parts (is_there is_frame c (ruled c h) e && keeps_bound c (ruled c h) e) (has_room (ruled c h) (length h) e) may in
    let first = and_parts (is_there is_frame c (ruled c h) e) (keeps_bound c (ruled c h) e) last.0 in
    record { there = first.0; bound = first.1; room = last.1 }

room_few : (w : World fabric) (events : ℕ) (e : Event) → has_room w events e ≡ true → events < 1000000
unfolding has_room
room_few w events e room =
    let first = and_parts (is_room (acts e) events w.count) _ room in
    ltb-true events 1000000 (and_parts (nat_lt events 1000000) _ first.0).0

-- each event of these was made so, one after the other
abbrev pub AreMade : FabricConfig → History → Type 0
AreMade c [] = Unit {0}
AreMade c (e ∷ h) = AreMade c h × (e.0 ≡ next_line h) × IsPlain e.1 × (may_come c h e.1 ≡ true)

made_few : (c : FabricConfig) (h : History) → AreMade c h → length h ≤ 1000000
made_few c [] made = omega arith
made_few c (e ∷ h) made =
    let room = room_few (ruled c h) (length h) e.1 (parts_of c h e.1 made.3).room in
    omega arith

-- the lines of the events alone
abbrev pub lines_only : History → List ℕ
lines_only [] = []
lines_only (e ∷ h) = lines_only h ++ event_line e.1

behind : (before text rest : List ℕ) → (before ++ (text ++ codes "\n")) ++ rest ≡ before ++ (text ++ (codes "\n" ++ rest))
behind before text rest = append_assoc before (text ++ codes "\n") rest ∙ ap (λ t. before ++ t) (append_assoc text (codes "\n") rest)

accepts : (c : FabricConfig) (h : History) (n : ℕ) (e : Event) → Parts c h e → run_verdict c (ruled c h) (length h) n e ≡ Accepted e
accepts c h n e parts =
    by_tests (is_there is_frame c (ruled c h) e) (keeps_bound c (ruled c h) e) (has_room (ruled c h) (length h) e) parts.there parts.bound parts.room
  where
    by_tests : (x y z : Bool) → x ≡ true → y ≡ true → z ≡ true → unless_there n e x y z ≡ Accepted e
    by_tests x y z f g k = rw (f, g, k) refl

refuses : (c : FabricConfig) (h : History) (n : ℕ) (e : Event) → is_there is_frame c (ruled c h) e ≡ true → keeps_bound c (ruled c h) e ≡ true → has_room (ruled c h) (length h) e ≡ false
    → run_verdict c (ruled c h) (length h) n e ≡ IsRefused (TooLarge n)
refuses c h n e there bound room = by_tests (is_there is_frame c (ruled c h) e) (keeps_bound c (ruled c h) e) (has_room (ruled c h) (length h) e) there bound room
  where
    by_tests : (x y z : Bool) → x ≡ true → y ≡ true → z ≡ false → unless_there n e x y z ≡ IsRefused (TooLarge n)
    by_tests x y z f g k = rw (f, g, k) refl

-- their lines lead to them
pub lines_lead : (c : FabricConfig) (h : History) (rest : List ℕ) → AreMade c h → All (λ e. Fits e.1) h
    → judge_from c [] 2 (lines_of (lines_only h ++ rest)) ≡ judge_from c h (next_line h) (lines_of rest)
lines_lead c [] rest made fits = refl
lines_lead c (e ∷ h) rest made fits =
    let text = event_text e.1 in
    let fit : Fits e.1 = All-head (λ x. Fits x.1) e h fits in
    let few = made_few c h made.0 in
    let short = short_text e.1 made.2 fit in
    let n = next_line h in
    let next : n + 1 ≡ next_line (e ∷ h) = omega arith in
    let same : (n, e.1) ≡ e = ap (λ (k : ℕ). (k, e.1)) (sym made.1) in
    ap (λ b. judge_from c [] 2 (lines_of b)) (behind (lines_only h) text rest)
    ∙ (lines_lead c h (text ++ (codes "\n" ++ rest)) made.0 (All-tail (λ x. Fits x.1) e h fits)
    ∙ (ap (judge_from c h n) (line_cut text rest short.plain)
    ∙ (judge_line c h n text (lines_of rest)
    ∙ (ap (judge_on c h n (lines_of rest)) (plain_verdict c (ruled c h) (length h) n e.1 made.2 fit (omega arith) ∙ accepts c h n e.1 (parts_of c h e.1 made.3))
    ∙ (ap (λ x. judge_from c (x ∷ h) (n + 1) (lines_of rest)) same ∙ ap (λ (k : ℕ). judge_from c (e ∷ h) k (lines_of rest)) next)))))

-- the line that passes a limit is refused
pub line_refused : (c : FabricConfig) (h : History) (e : Event) → AreMade c h → IsPlain e → Fits e
    → is_there is_frame c (ruled c h) e ≡ true → keeps_bound c (ruled c h) e ≡ true → has_room (ruled c h) (length h) e ≡ false
    → judge_from c h (next_line h) (lines_of (event_line e)) ≡ judged_at c h (Some (TooLarge (next_line h)))
line_refused c h e made p fit there bound room =
    let text = event_text e in
    let few = made_few c h made in
    let short = short_text e p fit in
    let n = next_line h in
    ap (λ b. judge_from c h n (lines_of b)) (sym (ap (λ t. text ++ t) (append-nil (codes "\n"))))
    ∙ (ap (judge_from c h n) (line_cut text [] short.plain)
    ∙ (judge_line c h n text []
    ∙ ap (judge_on c h n []) (plain_verdict c (ruled c h) (length h) n e p fit (omega arith) ∙ refuses c h n e there bound room)))

-- The whole text.

heading_first : (n : ℕ) (h : History) → lines_written (generate_writing n) h ≡ (config_line n ++ codes "\n") ++ lines_only h
heading_first n [] = sym (append-nil (config_line n ++ codes "\n"))
heading_first n (e ∷ h) = ap (λ t. t ++ event_line e.1) (heading_first n h) ∙ append_assoc (config_line n ++ codes "\n") (lines_only h) (event_line e.1)

pub text_judged : (n : ℕ) (h : History) (rest : List ℕ) → 1 ≤ n → n ≤ 16 → judge (lines_written (generate_writing n) h ++ rest) ≡ judge_from (generated_config n) [] 2 (lines_of (lines_only h ++ rest))
text_judged n h rest some few =
    let line = config_line n in
    let all : lines_written (generate_writing n) h ++ rest ≡ line ++ (codes "\n" ++ (lines_only h ++ rest)) =
    ap (λ t. t ++ rest) (heading_first n h) ∙ (append_assoc (line ++ codes "\n") (lines_only h) rest ∙ append_assoc line (codes "\n") (lines_only h ++ rest)) in
    ap judge all
    ∙ (first_read (line ++ (codes "\n" ++ (lines_only h ++ rest))) line (lines_only h ++ rest) (line_cut line (lines_only h ++ rest) (line_plain n some few)) (line_short n some few)
    ∙ ap (judge_rest (lines_of (lines_only h ++ rest))) (line_read n some few))
