-- Parts of a course, one after the other.
use Rattle.std.proofs.Common.{◌≡◌, ℕ, ◌+◌, ◌-◌, ◌≤◌, ◌<◌, zero, suc, Bool, true, false, List, [], ◌∷◌, ◌++◌, ◌⊎◌, length, get_or, take, drop, All, Option, None, Result, Ok, Err, refl, ap, sym, subst, ◌∙◌, arith, append_assoc, inl, inr}
use Rattle.std.proofs.lemmas.List.{append-nil, map-append, take-append-drop, take_more}
use Rattle.edge_io.specs.Edge.{Grew, GrewByFront}
use Rattle.edge_io.specs.declared.refusal.EdgeRefusal.{EdgeRefusal}
use Rattle.edge_io.specs.declared.refusal.EdgeRefusal.TheVariants as refusal
use Rattle.fabric_terms.specs.declared.config.FabricConfig.{FabricConfig}
use Rattle.schedule_rules.specs.Halts.{Sends}
use Rattle.schedule_rules.proofs.Fronts.{front_behind, front_of, grew_none}
use Rattle.world_rules.specs.Runs.{History}
use Rattle.fabric_terms.specs.Ranges.{Fits}
use Rattle.fabric_terms.specs.declared.event.Event.{Event}
use Rattle.unit_rules.specs.Ruled.{ruled}
use Rattle.schedule_generate.specs.Course.{Course, considered_next, considers, is_full, next_line, round, round_unless, rounds, running, taken, taken_all}
use Rattle.schedule_generate.specs.Due.{AreDue}
use Rattle.schedule_generate.specs.Shown.{nodes_of}
use Rattle.schedule_generate.specs.Goes.{At, HasMore, HasShown, IsAt, IsDue, IsWantedAt, Known, Passes, Rounded, Went, WentAll}
use Rattle.schedule_generate.specs.Moves.{event_for, events_for}
use Rattle.schedule_generate.specs.Settings.{generated_config}
use Rattle.schedule_generate.specs.Texts.{Writing, lines_written}
use Rattle.schedule_generate.specs.declared.generator.Generator.{Generator}
use Rattle.schedule_generate.specs.declared.course_halt.CourseHalt.{CourseHalt}
use Rattle.schedule_generate.specs.declared.course_halt.CourseHalt.TheVariants as halt
use Rattle.schedule_generate.specs.declared.moves.Move.{Move}
use Rattle.schedule_generate.proofs.Growing.{rounds_grow}
use Rattle.schedule_generate.proofs.Steps.{considers_stick, rounds_stick, taken_all-append, taken_all_sticks, went_on}

-- the course of a generator is one of its own number of nodes
pub own_number : (w : ℕ → Writing) (knows : Known) (a : Generator) (text : List ℕ) → IsAt w knows a text → (g : Course) × (sent : List ℕ) × At w knows a.nodes a text g sent
own_number w knows a text is = (is.1, is.2, subst (λ (n : ℕ). At w knows n a text is.1 is.2) (sym is.3.goes.nodes) is.3)

-- and so is one at which events are due
pub own_due : (w : ℕ → Writing) (knows : Known) (a : Generator) (text : List ℕ) (es : List Event) → IsDue w knows a text es
    → (g : Course) × (sent : List ℕ) × At w knows a.nodes a text g sent × AreDue (generated_config a.nodes) g.history es
own_due w knows a text es is =
    let parts = subst (λ (n : ℕ). At w knows n a text is.1 is.2 × AreDue (generated_config n) is.1.history es) (sym is.3.goes.nodes) (is.3, is.4) in
    (is.1, is.2, parts.0, parts.1)

pub own_more : (w : ℕ → Writing) (knows : Known) (a : Generator) (text : List ℕ) (before : ℕ) → HasMore w knows a text before
    → (g : Course) × (sent : List ℕ) × At w knows a.nodes a text g sent × (before < (ruled (generated_config a.nodes) g.history).count)
own_more w knows a text before is =
    let parts = subst (λ (n : ℕ). At w knows n a text is.1 is.2 × (before < (ruled (generated_config n) is.1.history).count)) (sym is.3.goes.nodes) (is.3, is.4) in
    (is.1, is.2, parts.0, parts.1)

pub own_shown : (w : ℕ → Writing) (knows : Known) (a : Generator) (text : List ℕ) → HasShown w knows a text
    → (g : Course) × (sent : List ℕ) × At w knows a.nodes a text g sent × (nodes_of a.readings.items ≡ running (ruled (generated_config a.nodes) g.history))
own_shown w knows a text is =
    let parts = subst (λ (n : ℕ). At w knows n a text is.1 is.2 × (nodes_of a.readings.items ≡ running (ruled (generated_config n) is.1.history))) (sym is.3.goes.nodes) (is.3, is.4) in
    (is.1, is.2, parts.0, parts.1)

-- one more of these moves
pub all_more : (c : FabricConfig) (moves : List Move) (i : ℕ) (d : Move) (g : Course) → i < length moves
    → taken_all c (events_for (take (i + 1) moves)) g ≡ taken c (event_for (get_or moves i d)) (taken_all c (events_for (take i moves)) g)
all_more c moves i d g lt =
    ap (λ ms. taken_all c (events_for ms) g) (take_more moves i d lt)
    ∙ (ap (λ es. taken_all c es g) (map-append event_for (take i moves) (get_or moves i d ∷ []))
    ∙ taken_all-append c (events_for (take i moves)) (event_for (get_or moves i d) ∷ []) g)

pub all_rest : (c : FabricConfig) (moves : List Move) (i : ℕ) (g : Course) → taken_all c (events_for moves) g ≡ taken_all c (events_for (drop i moves)) (taken_all c (events_for (take i moves)) g)
all_rest c moves i g =
    ap (λ ms. taken_all c (events_for ms) g) (sym (take-append-drop i moves))
    ∙ (ap (λ es. taken_all c es g) (map-append event_for (take i moves) (drop i moves)) ∙ taken_all-append c (events_for (take i moves)) (events_for (drop i moves)) g)

-- a halt at one of the moves
pub all_halt : (w : ℕ → Writing) (knows known : Known) (n : ℕ) (stop : CourseHalt) (a : Generator) (text : List ℕ) (moves : List Move) (i : ℕ) (d : Move) (g : Course) (sent : List ℕ) → i < length moves
    → Went w knows n (Err stop) a text (taken (generated_config n) (event_for (get_or moves i d)) (taken_all (generated_config n) (events_for (take i moves)) g)) sent
    → Went w known n (Err stop) a text (taken_all (generated_config n) (events_for moves) g) sent
all_halt w knows known n stop a text moves i d g sent lt went =
    let c = generated_config n in
    subst (λ k. Went w known n (Err stop) a text k sent) (sym (all_rest c moves (i + 1) g))
    (went_on w knows known n stop a text (taken_all c (events_for (take (i + 1) moves)) g) sent (taken_all c (events_for (drop (i + 1) moves))) (taken_all_sticks c (events_for (drop (i + 1) moves)))
    (subst (λ k. Went w knows n (Err stop) a text k sent) (sym (all_more c moves i d g lt)) went))

-- Frames.

considers_add : (c : FabricConfig) (more k : ℕ) (g : Course) → considers c (more + k) g ≡ considers c more (considers c k g)
considers_add c zero k g = let e : 0 + k ≡ k = omega arith in ap (λ (j : ℕ). considers c j g) e
considers_add c (suc more) k g = let e : suc more + k ≡ suc (more + k) = omega arith in ap (λ (j : ℕ). considers c j g) e ∙ ap (considered_next c) (considers_add c more k g)

pub considers_halt : (w : ℕ → Writing) (knows known : Known) (n : ℕ) (stop : CourseHalt) (a : Generator) (text : List ℕ) (k all : ℕ) (g : Course) (sent : List ℕ) → k < all
    → Went w knows n (Err stop) a text (considered_next (generated_config n) (considers (generated_config n) k g)) sent
    → Went w known n (Err stop) a text (considers (generated_config n) all g) sent
considers_halt w knows known n stop a text k all g sent lt went =
    let c = generated_config n in
    let more = all - suc k in
    let e : all ≡ more + suc k = omega arith in
    subst (λ x. Went w known n (Err stop) a text x sent) (sym (ap (λ (j : ℕ). considers c j g) e ∙ considers_add c more (suc k) g))
    (went_on w knows known n stop a text (considers c (suc k) g) sent (considers c more) (considers_stick c more) went)

-- Rounds.

rounds_add : (c : FabricConfig) (n more k : ℕ) (g : Course) → rounds c n (more + k) g ≡ rounds c n more (rounds c n k g)
rounds_add c n zero k g = let e : 0 + k ≡ k = omega arith in ap (λ (j : ℕ). rounds c n j g) e
rounds_add c n (suc more) k g = let e : suc more + k ≡ suc (more + k) = omega arith in ap (λ (j : ℕ). rounds c n j g) e ∙ ap (λ (h : Course). round_unless c n h (is_full c h)) (rounds_add c n more k g)

-- what is written after some rounds is a front of what is written after all
pub lines_on : (w : Writing) (c : FabricConfig) (n k all : ℕ) (g : Course) → k ≤ all → (more : List ℕ) × (lines_written w (rounds c n k g).history ++ more ≡ lines_written w (rounds c n all g).history)
lines_on w c n k all g le =
    let e : (all - k) + k ≡ all = omega arith in
    let grows = rounds_grow w c n k (all - k) g in
    (grows.more, sym grows.lines ∙ ap (λ (j : ℕ). lines_written w (rounds c n j g).history) e)

-- nothing more is sent
pub front_sent : (w : Writing) (c : FabricConfig) (n k all : ℕ) (g : Course) (old new : Option (List ℕ)) (sent text : List ℕ) → k ≤ all → sent ++ text ≡ lines_written w (rounds c n k g).history → Grew old new sent
    → GrewByFront old new (lines_written w (rounds c n all g).history)
front_sent w c n k all g old new sent text le told grew =
    let on = lines_on w c n k all g le in
    front_of old new sent (text ++ on.0) _ (sym (append_assoc sent text on.0) ∙ (ap (λ t. t ++ on.0) told ∙ on.1)) grew

-- a front of what waits is sent
pub front_more : (w : Writing) (c : FabricConfig) (n k all : ℕ) (g : Course) (old mid new : Option (List ℕ)) (sent text : List ℕ) → k ≤ all → sent ++ text ≡ lines_written w (rounds c n k g).history → Grew old mid sent
    → GrewByFront mid new text → GrewByFront old new (lines_written w (rounds c n all g).history)
front_more w c n k all g old mid new sent text le told first second =
    let on = lines_on w c n k all g le in
    front_behind old mid new sent text on.0 _ (sym (append_assoc sent text on.0) ∙ (ap (λ t. t ++ on.0) told ∙ on.1)) first second

-- memory was short in a round: before anything of it was sent, or behind it
memory_halts : (w : Writing) (line : ℕ) (after : Course) (c : FabricConfig) (n k all : ℕ) (g : Course) (old mid new : Option (List ℕ)) (sent text : List ℕ) → k < all → Grew old mid sent → sent ++ text ≡ lines_written w (rounds c n k g).history
    → ((IsWantedAt line after × (new ≡ mid)) ⊎ ((after.refused ≡ None) × ((waits : List ℕ) × (sent ++ waits ≡ lines_written w (rounds c n (suc k) g).history) × GrewByFront mid new waits))) → GrewByFront old new (lines_written w (rounds c n all g).history)
memory_halts w line after c n k all g old mid new sent text lt grew told (inl same) =
    front_sent w c n k all g old new sent text (omega arith) told (subst (λ (o : Option (List ℕ)). Grew old o sent) (sym same.1) grew)
memory_halts w line after c n k all g old mid new sent text lt grew told (inr some) =
    front_more w c n (suc k) all g old mid new sent some.1.0 (omega arith) some.1.1 grew some.1.2

-- a halt in a round
pub rounded_halts : (w : ℕ → Writing) (knows known : Known) (n : ℕ) (stop : CourseHalt) (a b : Generator) (text old_text : List ℕ) (k all : ℕ) (g : Course) (old mid new : Option (List ℕ)) (sent : List ℕ) → k < all
    → Grew old mid sent → sent ++ old_text ≡ lines_written (w n) (rounds (generated_config n) n k g).history
    → Rounded w knows n (Err stop) a text (rounds (generated_config n) n (suc k) g) sent mid new → WentAll w known n (Err stop) b text (rounds (generated_config n) n all g) old new
rounded_halts w knows known n (halt.TooLarge line) a b text old_text k all g old mid new sent lt grew told rounded =
    let c = generated_config n in
    let r = rounded.0 in
    let more = all - suc k in
    let e : all ≡ more + suc k = omega arith in
    let here : rounds c n all g ≡ rounds c n more (rounds c n (suc k) g) = ap (λ (j : ℕ). rounds c n j g) e ∙ rounds_add c n more (suc k) g in
    let same = (rounds_stick c n more).sticks (rounds c n (suc k) g) r.event r.refused in
    let history : (rounds c n all g).history ≡ (rounds c n (suc k) g).history = ap (λ (x : Course). x.history) here ∙ same.0 in (
      record {
        event = r.event;
        refused = ap (λ (x : Course). x.refused) here ∙ same.1;
        line = r.line ∙ ap next_line (sym history);
        passes = subst (λ h. Passes c h r.event) (sym history) r.passes;
        fits = subst (λ (h : History). All (λ e. Fits e.1) h) (sym history) r.fits;
      },
      (sent, subst (λ (o : Option (List ℕ)). Grew old o sent) (sym rounded.1) grew, r.told ∙ ap (lines_written (w n)) (sym history)),
    )
rounded_halts w knows known n halt.OutOfMemory a b text old_text k all g old mid new sent lt grew told rounded =
    memory_halts (w n) a.line (rounds (generated_config n) n (suc k) g) (generated_config n) n k all g old mid new sent old_text lt grew told rounded
rounded_halts w knows known n halt.SinkFailed a b text old_text k all g old mid new sent lt grew told rounded =
    front_more (w n) (generated_config n) n (suc k) all g old mid new sent rounded.0 (omega arith) rounded.1 grew rounded.2

-- A round that ends where it began, halts, or is sent.

pub full_round : (w : ℕ → Writing) (knows : Known) (n : ℕ) (a : Generator) (text : List ℕ) (g : Course) (sent : List ℕ) (held : Option (List ℕ)) (u : Unit {0}) (full : Bool) → full ≡ true → At w knows n a text g sent
    → Rounded w knows n (Ok u) a text (round_unless (generated_config n) n g full) sent held held
full_round w knows n a text g sent held u full is at =
    subst (λ b. Rounded w knows n (Ok u) a text (round_unless (generated_config n) n g b) sent held held) (sym is)
    ([], grew_none held, subst (λ s. At w knows n a text g s) (sym (append-nil sent)) at)

halted : (w : ℕ → Writing) (knows known : Known) (n : ℕ) (stop : CourseHalt) (a : Generator) (text : List ℕ) (g : Course) (sent : List ℕ) (held : Option (List ℕ)) → Went w knows n (Err stop) a text g sent → Rounded w known n (Err stop) a text g sent held held
halted w knows known n (halt.TooLarge line) a text g sent held went = (went, refl)
halted w knows known n halt.OutOfMemory a text g sent held went = inl (went, refl)
halted w knows known n halt.SinkFailed a text g sent held went = absurd went

-- a round alone sends nothing, so the sink does not fail in it
pub no_failure : (w : ℕ → Writing) (knows : Known) (n : ℕ) (stop : CourseHalt) (a : Generator) (text : List ℕ) (g : Course) (sent : List ℕ) → ◌≡◌ {A = Result (Unit {0}) CourseHalt} (Err stop) (Err halt.SinkFailed) → Went w knows n (Err stop) a text g sent → ⊥
no_failure w knows n (halt.TooLarge line) a text g sent is went = cc
no_failure w knows n halt.OutOfMemory a text g sent is went = cc
no_failure w knows n halt.SinkFailed a text g sent is went = went

pub round_halted : (w : ℕ → Writing) (knows known : Known) (n : ℕ) (stop : CourseHalt) (a : Generator) (text : List ℕ) (g : Course) (sent : List ℕ) (held : Option (List ℕ)) (full : Bool) → full ≡ false → Went w knows n (Err stop) a text (round (generated_config n) n g) sent
    → Rounded w known n (Err stop) a text (round_unless (generated_config n) n g full) sent held held
round_halted w knows known n stop a text g sent held full is went =
    subst (λ f. Rounded w known n (Err stop) a text (round_unless (generated_config n) n g f) sent held held) (sym is) (halted w knows known n stop a text (round (generated_config n) n g) sent held went)

-- why a round halts, if it does, where its text is sent so
abbrev pub sending : Result (Unit {0}) EdgeRefusal → Result (Unit {0}) CourseHalt
sending (Ok u) = Ok u
sending (Err refusal.Failed) = Err halt.SinkFailed
sending (Err refusal.OutOfMemory) = Err halt.OutOfMemory

sent_on : (w : ℕ → Writing) (knows : Known) (n : ℕ) (r : Result (Unit {0}) EdgeRefusal) (a : Generator) (text rest : List ℕ) (g : Course) (sent : List ℕ) (old new : Option (List ℕ)) → At w knows n a text g sent → Sends r old new text rest → Rounded w knows n (sending r) a rest g sent old new
sent_on w knows n (Ok u) a text rest g sent old new at sends =
    (sends.0, sends.1, record { goes = at.goes; known = at.known; told = append_assoc sent sends.0 rest ∙ (ap (λ t. sent ++ t) sends.2 ∙ at.told) })
sent_on w knows n (Err refusal.Failed) a text rest g sent old new at sends = (text, at.told, sends)
sent_on w knows n (Err refusal.OutOfMemory) a text rest g sent old new at sends = inr (at.goes.going, (text, at.told, sends))

pub round_sent : (w : ℕ → Writing) (knows : Known) (n : ℕ) (r : Result (Unit {0}) EdgeRefusal) (a : Generator) (text rest : List ℕ) (g : Course) (sent : List ℕ) (old new : Option (List ℕ)) (full : Bool) → full ≡ false → At w knows n a text (round (generated_config n) n g) sent → Sends r old new text rest
    → Rounded w knows n (sending r) a rest (round_unless (generated_config n) n g full) sent old new
round_sent w knows n r a text rest g sent old new full is at sends =
    subst (λ f. Rounded w knows n (sending r) a rest (round_unless (generated_config n) n g f) sent old new) (sym is) (sent_on w knows n r a text rest (round (generated_config n) n g) sent old new at sends)
