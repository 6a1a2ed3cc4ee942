-- How the making of a schedule ends.
use Rattle.std.proofs.Common.{◌≡◌, ◌≤◌, ℕ, List, [], ◌++◌, take, drop, All, Option, Some, None, Result, Ok, Err, refl, ap, sym, subst, ◌∙◌, append_assoc, ⊎_elim, inl, inr}
use Rattle.std.proofs.lemmas.List.{append-nil, take-append-drop}
use Rattle.edge_io.specs.Edge.{GrewByFront}
use Rattle.fabric_status.specs.Faults.{fault_line}
use Rattle.fabric_status.specs.Writes.{Wrote as Written}
use Rattle.fabric_status.specs.declared.status.Status.{Status}
use Rattle.fabric_status.specs.declared.status.Status.TheVariants as status
use Rattle.fabric_terms.specs.declared.event.Event.{Event}
use Rattle.schedule_rules.proofs.Closing.{risen_since}
use Rattle.schedule_rules.proofs.Fronts.{front_behind, front_of, grew_as, grew_more, grew_none, wrote_more}
use Rattle.schedule_rules.specs.Halts.{Wrote}
use Rattle.world_rules.specs.Runs.{History}
use Rattle.schedule_generate.specs.Course.{Course, begun, next_line, opening, rounds, taken_all}
use Rattle.schedule_generate.specs.Goes.{At, Goes, Known, Made, Passes, Went, WentAll}
use Rattle.schedule_generate.specs.Laws.{judged_of}
use Rattle.schedule_rules.specs.Schedule.{judge}
use Rattle.fabric_terms.specs.Ranges.{Fits}
use Rattle.schedule_generate.proofs.Making.{text_is_judged_so}
use Rattle.schedule_generate.specs.Settings.{generated_config}
use Rattle.schedule_generate.specs.Texts.{Writing, all_written, ended, ended_at, gen_text, generated, last_written, lines_written}
use Rattle.schedule_generate.specs.declared.generator.Generator.{Generator}
use Rattle.schedule_generate.specs.declared.course_halt.CourseHalt.{CourseHalt}
use Rattle.schedule_generate.specs.declared.course_halt.CourseHalt.TheVariants as halt
use Rattle.schedule_generate.proofs.Steps.{rounds_stick}

-- nothing is a front of everything
pub nothing_sent : (held : Option (List ℕ)) (all : List ℕ) → GrewByFront held held all
nothing_sent held all = front_of held held [] all all refl (grew_none held)

-- a front of a text is one of a longer text
pub front_longer : (old new : Option (List ℕ)) (text more : List ℕ) → GrewByFront old new text → GrewByFront old new (text ++ more)
front_longer old new text more front =
    front_of old new (take front.0 text) (drop front.0 text ++ more) (text ++ more)
    (sym (append_assoc (take front.0 text) (drop front.0 text) more) ∙ ap (λ t. t ++ more) (take-append-drop front.0 text)) front.1

-- before the first event
pub at_first : (w : ℕ → Writing) (knows : Known) (n : ℕ) (a : Generator) (text before : List ℕ) (seed : ℕ) → Goes n a (begun seed) → knows n [] → before ≡ [] → text ≡ before ++ (w n).heading
    → At w knows n a text (begun seed) []
at_first w knows n a text before seed goes known none is = record { goes = goes; known = known; told = is ∙ ap (λ t. t ++ (w n).heading) none }

-- the opening was taken, or halted
pub opened : (w : ℕ → Writing) (knows known : Known) (n : ℕ) (r : Result (Unit {0}) CourseHalt) (a b : Generator) (text now : List ℕ) (seed : ℕ) (es : List Event) → At w knows n a text (begun seed) [] → es ≡ opening n
    → ((g : Course) (sent : List ℕ) → At w knows a.nodes a text g sent → Went w known a.nodes r b now (taken_all (generated_config a.nodes) es g) sent) → Went w known n r b now (taken_all (generated_config n) (opening n) (begun seed)) []
opened w knows known n r a b text now seed es at is went =
    subst (λ (ds : List Event). Went w known n r b now (taken_all (generated_config n) ds (begun seed)) []) is
    (subst (λ (m : ℕ). At w knows m a text (begun seed) [] → Went w known m r b now (taken_all (generated_config m) es (begun seed)) []) at.goes.nodes (went (begun seed) []) at)

-- all rounds were gone, or halted
pub gone : (w : ℕ → Writing) (knows known : Known) (n count : ℕ) (r : Result (Unit {0}) CourseHalt) (a b : Generator) (text now : List ℕ) (g : Course) (old new : Option (List ℕ)) → At w knows n a text g []
    → ((k : Course) → At w knows a.nodes a text k [] → WentAll w known a.nodes r b now (rounds (generated_config a.nodes) a.nodes count k) old new) → WentAll w known n r b now (rounds (generated_config n) n count g) old new
gone w knows known n count r a b text now g old new at went =
    subst (λ (m : ℕ). At w knows m a text g [] → WentAll w known m r b now (rounds (generated_config m) m count g) old new) at.goes.nodes (went g) at

-- a halt in the opening
pub opening_halts : (w : ℕ → Writing) (knows : Known) (n count : ℕ) (stop : CourseHalt) (a : Generator) (text : List ℕ) (g : Course) (held : Option (List ℕ))
    → Went w knows n (Err stop) a text g [] → Made n (w n) (Err stop) text (rounds (generated_config n) n count g) held held
opening_halts w knows n count (halt.TooLarge line) a text g held r =
    let same = (rounds_stick (generated_config n) n count).sticks g r.event r.refused in (
      record {
        event = r.event;
        refused = same.1;
        line = r.line ∙ ap next_line (sym same.0);
        passes = subst (λ h. Passes (generated_config n) h r.event) (sym same.0) r.passes;
        fits = subst (λ (h : History). All (λ e. Fits e.1) h) (sym same.0) r.fits;
      },
      ([], grew_none held, r.told ∙ ap (lines_written (w n)) (sym same.0)),
    )
opening_halts w knows n count halt.OutOfMemory a text g held r = nothing_sent held _
opening_halts w knows n count halt.SinkFailed a text g held r = absurd r

-- a halt in the rounds
pub rounds_halt : (w : ℕ → Writing) (knows : Known) (n : ℕ) (stop : CourseHalt) (a : Generator) (text : List ℕ) (g : Course) (old new : Option (List ℕ))
    → WentAll w knows n (Err stop) a text g old new → Made n (w n) (Err stop) text g old new
rounds_halt w knows n (halt.TooLarge line) a text g old new r = r
rounds_halt w knows n halt.OutOfMemory a text g old new r = front_longer old new (lines_written (w n) g.history) (last_written (w n) g.history g.refused) r
rounds_halt w knows n halt.SinkFailed a text g old new r = front_longer old new (lines_written (w n) g.history) (last_written (w n) g.history g.refused) r

-- all was made
pub made_all : (w : ℕ → Writing) (knows : Known) (n : ℕ) (a : Generator) (text last : List ℕ) (g : Course) (old new : Option (List ℕ)) (u : Unit {0})
    → WentAll w knows n (Ok u) a text g old new → last ≡ text ++ (w n).ending g.history → Made n (w n) (Ok u) last g old new
made_all w knows n a text last g old new u went is =
    let going : g.refused ≡ None = went.0.going in
    (going, went.0.world.fits, wrote_more old new text ((w n).ending g.history) last (lines_written (w n) g.history) (all_written (w n) g) is (ap (λ r. lines_written (w n) g.history ++ last_written (w n) g.history r) going) went.2)

-- memory was short at the end
pub end_halts : (w : ℕ → Writing) (knows : Known) (n : ℕ) (a : Generator) (text last : List ℕ) (g : Course) (old new : Option (List ℕ)) (u : Unit {0})
    → WentAll w knows n (Ok u) a text g old new → Made n (w n) (Err halt.OutOfMemory) last g old new
end_halts w knows n a text last g old new u went =
    front_of old new went.2.0 (text ++ last_written (w n) g.history g.refused) (all_written (w n) g)
    (sym (append_assoc went.2.0 text (last_written (w n) g.history g.refused)) ∙ ap (λ t. t ++ last_written (w n) g.history g.refused) went.2.2) went.2.1

-- The last text.

closed : (wanted ended : Status) (old mid new : Option (List ℕ)) (text lines more : List ℕ) (first before now : ℕ) → first ≤ before → Wrote old mid text lines → Written wanted (text ++ more) ended mid new before now
    → Written wanted (lines ++ more) ended old new first now
closed wanted ended old mid new text lines more first before now later wrote written =
    let same : wrote.0 ++ (text ++ more) ≡ lines ++ more = sym (append_assoc wrote.0 text more) ∙ ap (λ t. t ++ more) wrote.2 in
    let same_on : wrote.0 ++ ((text ++ more) ++ []) ≡ lines ++ more = ap (λ t. wrote.0 ++ t) (append-nil (text ++ more)) ∙ same in
    ⊎_elim
    (λ all. inl (all.0, grew_as old new (wrote.0 ++ (text ++ more)) (lines ++ more) same (grew_more old mid new wrote.0 (text ++ more) wrote.1 all.1)))
    (λ short. ⊎_elim
    (λ memory. inr (inl (memory.0, front_behind old mid new wrote.0 (text ++ more) [] (lines ++ more) same_on wrote.1 memory.1)))
    (λ sink. inr (inr (sink.0, front_behind old mid new wrote.0 (text ++ more) [] (lines ++ more) same_on wrote.1 sink.1, risen_since first before now later sink.2)))
    short)
    written

pub closes_well : (n : ℕ) (w : Writing) (u : Unit {0}) (g : Course) (ends : Status) (old mid new : Option (List ℕ)) (text : List ℕ) (first before now : ℕ) → first ≤ before → Made n w (Ok u) text g old mid
    → Written status.Ok text ends mid new before now → Written (ended g) (all_written w g) ends old new first now
closes_well n w u g ends old mid new text first before now later made written =
    let is : status.Ok ≡ ended g = sym (ap (ended_at g.history) made.0) in
    subst (λ t. Written (ended g) t ends old new first now) (append-nil (all_written w g))
    (subst (λ s. Written s (all_written w g ++ []) ends old new first now) is
    (closed status.Ok ends old mid new text (all_written w g) [] first before now later made.2 (subst (λ t. Written status.Ok t ends mid new before now) (sym (append-nil text)) written)))

pub closes_refused : (n : ℕ) (w : Writing) (g : Course) (line : ℕ) (ends : Status) (old mid new : Option (List ℕ)) (text : List ℕ) (first before now : ℕ) → first ≤ before → Made n w (Err (halt.TooLarge line)) text g old mid
    → Written (status.TooLarge line) (text ++ fault_line (status.TooLarge line)) ends mid new before now → Written (ended g) (all_written w g) ends old new first now
closes_refused n w g line ends old mid new text first before now later made written =
    let is : status.TooLarge line ≡ ended g = ap status.TooLarge made.0.line ∙ sym (ap (ended_at g.history) made.0.refused) in
    let last : fault_line (status.TooLarge line) ≡ last_written w g.history g.refused =
    ap (λ (k : ℕ). fault_line (status.TooLarge k)) made.0.line ∙ sym (ap (last_written w g.history) made.0.refused) in
    subst (λ s. Written s (all_written w g) ends old new first now) is
    (subst (λ t. Written (status.TooLarge line) (lines_written w g.history ++ t) ends old new first now) last
    (closed (status.TooLarge line) ends old mid new text (lines_written w g.history) (fault_line (status.TooLarge line)) first before now later made.1 written))

-- memory was short for the fault
pub closes_short : (n : ℕ) (w : Writing) (g : Course) (line : ℕ) (old mid : Option (List ℕ)) (text : List ℕ) → Made n w (Err (halt.TooLarge line)) text g old mid → GrewByFront old mid (all_written w g)
closes_short n w g line old mid text made =
    let last = last_written w g.history g.refused in
    front_of old mid made.1.0 (text ++ last) (all_written w g) (sym (append_assoc made.1.0 text last) ∙ ap (λ t. t ++ last) made.1.2) made.1.1

-- how the text is judged, where the schedule came to its end or to a limit

pub judged_well : (n seed count : ℕ) (w : Writing) (u : Unit {0}) (text : List ℕ) (old mid : Option (List ℕ)) → 1 ≤ n → n ≤ 16 → Made n w (Ok u) text (generated seed n count) old mid → judge (gen_text seed n count) ≡ judged_of n (generated seed n count)
judged_well n seed count w u text old mid some few made =
    text_is_judged_so seed n count some few made.1 (λ e f. let no : None ≡ Some e = sym made.0 ∙ f in cc)

pub judged_refused : (n seed count line : ℕ) (w : Writing) (text : List ℕ) (old mid : Option (List ℕ)) → 1 ≤ n → n ≤ 16 → Made n w (Err (halt.TooLarge line)) text (generated seed n count) old mid → judge (gen_text seed n count) ≡ judged_of n (generated seed n count)
judged_refused n seed count line w text old mid some few made =
    let r = made.0 in
    text_is_judged_so seed n count some few r.fits
    (λ e f. let same : r.event ≡ e = let both : Some r.event ≡ Some e = sym r.refused ∙ f in cc in subst (λ (x : Event). Passes (generated_config n) (generated seed n count).history x) same r.passes)
