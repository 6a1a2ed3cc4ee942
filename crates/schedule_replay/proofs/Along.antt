-- Where a run over the lines of a source stands after some of them, and how it halts.
use Rattle.std.proofs.Common.{◌≡◌, ℕ, ◌+◌, Bool, true, List, [], ◌++◌, Option, Some, None, Result, Ok, Err, refl, ap, sym, subst, ◌∙◌, append_assoc}
use Rattle.edge_io.specs.Edge.{GrewByFront}
use Rattle.fabric_terms.specs.declared.config.FabricConfig.{FabricConfig}
use Rattle.fabric_status.specs.declared.status.Refusal.{Refusal}
use Rattle.ring_world.specs.Answers.{StandsFor}
use Rattle.ring_world.specs.declared.world.World.{World}
use Rattle.line_format.specs.Lines.{lines_of}
use Rattle.world_rules.specs.Runs.{History}
use Rattle.schedule_replay.specs.Follows.{Known, At, LeadsTo, TookLine, TookNone, RefusesLine, FailsBefore, TakesNext}
use Rattle.schedule_rules.specs.Halts.{Wrote, HaltsAt, EndsLines}
use Rattle.schedule_rules.specs.Schedule.{Judged, judge_from, judged_at}
use Rattle.schedule_rules.specs.Telling.{Telling, lines_told, lines_judged}
use Rattle.schedule_rules.specs.declared.halt.Halt.{Halt}
use Rattle.schedule_rules.specs.declared.halt.Halt.TheVariants as halt
use Rattle.schedule_rules.proofs.Fronts.{grew_none, front_of, front_behind, wrote_more, wrote_as, wrote_sent}
use Rattle.schedule_replay.proofs.Lines.{reaches}

-- Some history is done, what is told of it is written or waits, and the lines that are left lead to the same end as all
-- lines.
pub record Along (t : Telling) (c : FabricConfig) (a : World) (knows : Known) (n : ℕ) (first : List ℕ) (before : Option (List ℕ)) (waits : List ℕ) (after old new : Option (List ℕ)) (text : List ℕ) : Type 0 where
  pub history : History
  pub at : At a knows c history
  pub leads : LeadsTo c [] 2 first before history n waits after
  pub wrote : Wrote old new text (lines_told t c history)

-- all lines of a source
abbrev pub all_of : FabricConfig → List ℕ → Judged
all_of c bytes = judge_from c [] 2 (lines_of bytes)

pub along_first : (t : Telling) (c : FabricConfig) (a : World) (knows : Known) (first : List ℕ) (left held : Option (List ℕ)) (text : List ℕ) → StandsFor a c [] → knows c [] → text ≡ t.heading → Along t c a knows 2 first left first left held held text
along_first t c a knows first left held text stands known is = record {
  history = [];
  at = (stands, known);
  leads = λ bytes e. (bytes, e, refl);
  wrote = ([], grew_none held, is);
}

-- the next line was taken
pub along_took : (t : Telling) (c : FabricConfig) (a b : World) (knows known : Known) (n : ℕ) (first : List ℕ) (before : Option (List ℕ)) (waits : List ℕ) (after : Option (List ℕ)) (waiting : List ℕ) (left old new : Option (List ℕ)) (text now : List ℕ) (more : Bool) → more ≡ true → (along : Along t c a knows n first before waits after old new text) → TakesNext t c along.history n (Ok more) b known text now waits after waiting left → Along t c b known (n + 1) first before waiting left old new now
along_took t c a b knows known n first before waits after waiting left old new text now more is along takes = taken (subst (λ m. TakesNext t c along.history n (Ok m) b known text now waits after waiting left) is takes)
  where
    taken : TookLine t c along.history n b known text now waits after waiting left → Along t c b known (n + 1) first before waiting left old new now
    taken took = record {
      history = took.history;
      at = took.at;
      leads = λ bytes e.
          let led = along.leads bytes e in
          let on = took.leads led.0 led.1 in
          (on.0, on.1, on.2 ∙ led.2);
      wrote = wrote_more old new text took.more now (lines_told t c along.history) (lines_told t c took.history) took.text took.lines along.wrote;
    }

pub along_sent : (t : Telling) (c : FabricConfig) (a : World) (knows : Known) (n : ℕ) (first : List ℕ) (before : Option (List ℕ)) (waits : List ℕ) (after old mid new : Option (List ℕ)) (text now : List ℕ) → Along t c a knows n first before waits after old mid text → Wrote mid new now text → Along t c a knows n first before waits after old new now
along_sent t c a knows n first before waits after old mid new text now along sent = record {
  history = along.history;
  at = along.at;
  leads = along.leads;
  wrote = wrote_sent old mid new text now (lines_told t c along.history) along.wrote sent;
}

-- what waits and what is told later
on_to : (t : Telling) (c : FabricConfig) (a : World) (knows : Known) (n : ℕ) (first : List ℕ) (before : Option (List ℕ)) (waits : List ℕ) (after old new : Option (List ℕ)) (text : List ℕ) (along : Along t c a knows n first before waits after old new text) (bytes : List ℕ) → before ≡ Some bytes → (more : List ℕ) × (along.wrote.0 ++ (text ++ more) ≡ lines_judged t (all_of c (first ++ bytes)).config (all_of c (first ++ bytes)).history)
on_to t c a knows n first before waits after old new text along bytes e =
    let led = along.leads bytes e in
    let on = reaches t c along.history n (lines_of (waits ++ led.0)) in
    (on.0, sym (append_assoc along.wrote.0 text on.0) ∙ (ap (λ l. l ++ on.0) along.wrote.2 ∙ (on.1 ∙ ap (λ j. lines_judged t j.config j.history) led.2)))

-- nothing more is written
pub short_memory : (t : Telling) (c : FabricConfig) (a : World) (knows : Known) (n : ℕ) (first : List ℕ) (before : Option (List ℕ)) (waits : List ℕ) (after old new : Option (List ℕ)) (text : List ℕ) → Along t c a knows n first before waits after old new text → (bytes : List ℕ) → before ≡ Some bytes → GrewByFront old new (lines_judged t (all_of c (first ++ bytes)).config (all_of c (first ++ bytes)).history)
short_memory t c a knows n first before waits after old new text along bytes e =
    let on = on_to t c a knows n first before waits after old new text along bytes e in
    front_of old new along.wrote.0 (text ++ on.0) _ on.1 along.wrote.1

-- a front of what waits is written
pub short_sink : (t : Telling) (c : FabricConfig) (a : World) (knows : Known) (n : ℕ) (first : List ℕ) (before : Option (List ℕ)) (waits : List ℕ) (after old mid new : Option (List ℕ)) (text : List ℕ) → Along t c a knows n first before waits after old mid text → GrewByFront mid new text → (bytes : List ℕ) → before ≡ Some bytes → GrewByFront old new (lines_judged t (all_of c (first ++ bytes)).config (all_of c (first ++ bytes)).history)
short_sink t c a knows n first before waits after old mid new text along more bytes e =
    let on = on_to t c a knows n first before waits after old mid text along bytes e in
    front_behind old mid new along.wrote.0 text on.0 _ on.1 along.wrote.1 more

pub at_refusal : (t : Telling) (c : FabricConfig) (a : World) (knows : Known) (n : ℕ) (first : List ℕ) (before : Option (List ℕ)) (waits : List ℕ) (after old new : Option (List ℕ)) (text now : List ℕ) (left : Option (List ℕ)) (refusal : Refusal) (along : Along t c a knows n first before waits after old new text) → RefusesLine c along.history n refusal text now waits after → (bytes : List ℕ) → before ≡ Some bytes → HaltsAt t (Err (halt.Refused refusal)) (all_of c (first ++ bytes)) left old new now
at_refusal t c a knows n first before waits after old new text now left refusal along refuses bytes e =
    let led = along.leads bytes e in
    let judged : judged_at c along.history (Some refusal) ≡ all_of c (first ++ bytes) = sym (refuses.judged led.0 led.1) ∙ led.2 in
    subst (λ j. HaltsAt t (Err (halt.Refused refusal)) j left old new now) judged
    (refl, wrote_as old new text now (lines_told t c along.history) (lines_told t c along.history) refuses.text refl along.wrote)

pub at_failure : (t : Telling) (c : FabricConfig) (a : World) (knows : Known) (n : ℕ) (first : List ℕ) (before : Option (List ℕ)) (waits : List ℕ) (after old new : Option (List ℕ)) (text now waiting : List ℕ) (left : Option (List ℕ)) (along : Along t c a knows n first before waits after old new text) → FailsBefore text now waits after waiting left → (bytes : List ℕ) → before ≡ Some bytes → HaltsAt t (Err halt.SourceFailed) (all_of c (first ++ bytes)) left old new now
at_failure t c a knows n first before waits after old new text now waiting left along fails bytes e =
    let led = along.leads bytes e in
    let stays = fails.stays led.0 led.1 in (
      Some c,
      along.history,
      record {
        part = waiting;
        rest = stays.1.0;
        unfinished = stays.0;
        is_left = stays.1.1;
        leads = (n, ap (λ b. judge_from c along.history n (lines_of b)) stays.1.2 ∙ led.2);
      },
      wrote_as old new text now (lines_told t c along.history) (lines_told t c along.history) fails.text refl along.wrote,
    )

pub at_end : (t : Telling) (c : FabricConfig) (a b : World) (knows known : Known) (n : ℕ) (first : List ℕ) (before : Option (List ℕ)) (waits : List ℕ) (after old new : Option (List ℕ)) (text now ending last : List ℕ) (left : Option (List ℕ)) (along : Along t c a knows n first before waits after old new text) → TookNone c along.history b known text now waits after left → t.ends c along.history ending → last ≡ now ++ ending → (bytes : List ℕ) → before ≡ Some bytes → HaltsAt t (Ok tt) (all_of c (first ++ bytes)) left old new last
at_end t c a b knows known n first before waits after old new text now ending last left along none ends is bytes e =
    let led = along.leads bytes e in
    let no_more = none.none led.0 led.1 in
    let judged : judged_at c along.history None ≡ all_of c (first ++ bytes) = sym (ap (λ b. judge_from c along.history n (lines_of b)) no_more.0) ∙ led.2 in
    subst (λ j. HaltsAt t (Ok tt) j left old new last) judged
    (record {
      good = refl;
      is_left = no_more.1;
      all = lines_told t c along.history ++ ending;
      told = (ending, ends, refl);
      wrote = wrote_more old new text ending last (lines_told t c along.history) (lines_told t c along.history ++ ending) (is ∙ ap (λ m. m ++ ending) none.text) refl along.wrote;
    })

-- the next line made a halt
pub at_halt : (t : Telling) (c : FabricConfig) (a b : World) (knows known : Known) (n : ℕ) (first : List ℕ) (before : Option (List ℕ)) (waits : List ℕ) (after old new : Option (List ℕ)) (text now waiting : List ℕ) (left : Option (List ℕ)) (stop : Halt) (along : Along t c a knows n first before waits after old new text) → TakesNext t c along.history n (Err stop) b known text now waits after waiting left → (bytes : List ℕ) → before ≡ Some bytes → HaltsAt t (Err stop) (all_of c (first ++ bytes)) left old new now
at_halt t c a b knows known n first before waits after old new text now waiting left (halt.Refused refusal) along takes = at_refusal t c a knows n first before waits after old new text now left refusal along takes
at_halt t c a b knows known n first before waits after old new text now waiting left halt.SourceFailed along takes = at_failure t c a knows n first before waits after old new text now waiting left along takes
at_halt t c a b knows known n first before waits after old new text now waiting left halt.OutOfMemory along takes = short_memory t c a knows n first before waits after old new text along
at_halt t c a b knows known n first before waits after old new text now waiting left halt.SinkFailed along takes = absurd takes

-- no line was left, and the ending was told, or memory was short
pub at_last : (t : Telling) (c : FabricConfig) (a b : World) (knows known : Known) (n : ℕ) (first : List ℕ) (before : Option (List ℕ)) (waits : List ℕ) (after old new : Option (List ℕ)) (text now last : List ℕ) (left : Option (List ℕ)) (result : Result (Unit {0}) Halt) (along : Along t c a knows n first before waits after old new text) → TookNone c along.history b known text now waits after left → EndsLines result t c along.history now last → (bytes : List ℕ) → before ≡ Some bytes → HaltsAt t result (all_of c (first ++ bytes)) left old new last
at_last t c a b knows known n first before waits after old new text now last left (Ok u) along none ends = at_end t c a b knows known n first before waits after old new text now ends.0 last left along none ends.1 ends.2
at_last t c a b knows known n first before waits after old new text now last left (Err (halt.Refused refusal)) along none ends = absurd ends
at_last t c a b knows known n first before waits after old new text now last left (Err halt.SourceFailed) along none ends = absurd ends
at_last t c a b knows known n first before waits after old new text now last left (Err halt.OutOfMemory) along none ends = short_memory t c a knows n first before waits after old new text along
at_last t c a b knows known n first before waits after old new text now last left (Err halt.SinkFailed) along none ends = absurd ends
