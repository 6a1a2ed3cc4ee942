-- What is told in a group, with one line more.
use Rattle.std.proofs.Common.{◌≡◌, ℕ, true, false, List, [], ◌∷◌, ◌++◌, Option, Some, None, Result, Ok, Err, length, ◌<◌, ◌==◌, arith, refl, sym, ap, subst, ◌∙◌}
use Rattle.std.specs.Global.{Vec}
use Rattle.std.specs.Prelude.{IfOk}
use Rattle.std.proofs.lemmas.Option.{same_Some}
use Rattle.ring_points.specs.declared.who.Who.{Who}
use Rattle.fabric_terms.specs.declared.report.Head.{Head}
use Rattle.fabric_terms.specs.declared.report.Report.{Report}
use Rattle.fabric_terms.specs.Runs.{Clocks}
use Rattle.run_audit.specs.Auditing.{entry_of as audited_entry}
use Rattle.run_audit.specs.declared.moment.Moment.{Moment}
use Rattle.line_format.specs.Lines.{lines_of}
use Rattle.line_format.specs.Readers.{Reads}
use Rattle.line_format.specs.declared.refusal.LineRefusal.{LineRefusal}
use Rattle.line_format.specs.declared.refusal.LineRefusal.TheVariants as refusal
use Rattle.std.proofs.lemmas.Bool.Decides.{nat_tests}
use Rattle.source_lines.specs.Lines.{is_ignored}
use Rattle.transcript_audit.specs.declared.group.Told.{Told}
use Rattle.transcript_audit.specs.Groups.{Group, group_from, entry_of}
use Rattle.transcript_audit.specs.Places.{goes_on, grown_by, grows, begun_with, group_in, GoesOn, IsEntry, IsSeen, TellsAs}
use Rattle.transcript_audit.specs.Said.{Said, Opens, Shows, Tells, said_of, shown_of, telling_of}
use Rattle.transcript_audit.proofs.Growing.{goes_tells, goes_quiet, grows_on, grows_stop, grows_line, grows_clocks}
use Rattle.transcript_audit.proofs.SaidSteps.{said_quiet, said_telling, shows_shown}

-- what holds of the value holds of it in other words
pub on_each : {A E : Type 0} {P Q : A → Type 0} (r : Result A E) → ((x : A) → P x → Q x) → IfOk r P → IfOk r Q
on_each (Ok x) f p = f x p
on_each (Err e) f p = p

pub tells_report : (l : List ℕ) (g : Group) (old new : Told) (h : Head) (r : Report) → is_ignored l ≡ false → telling_of l ≡ Some (Tells h.line h.who (Some r)) → TellsAs old g
    → new.who ≡ Some h.who → new.reports.items ≡ old.reports.items ++ r ∷ [] → GoesOn (goes_on l) new true g
tells_report l g old new h r i e tells who items =
    rw (goes_tells l h.line h.who (Some r) i (said_telling l (Tells h.line h.who (Some r)) e)) (record { who = who; reports = items ∙ ap (λ x. x ++ r ∷ []) tells.reports })

pub tells_sent : (l : List ℕ) (g : Group) (old new : Told) (h : Head) → is_ignored l ≡ false → telling_of l ≡ Some (Tells h.line h.who None) → TellsAs old g
    → new.who ≡ Some h.who → new.reports ≡ old.reports → GoesOn (goes_on l) new true g
tells_sent l g old new h i e tells who same =
    rw (goes_tells l h.line h.who None i (said_telling l (Tells h.line h.who None) e)) (record { who = who; reports = ap (λ x. x.items) same ∙ tells.reports })

pub tells_nothing : (l : List ℕ) (g : Group) (t : Told) → is_ignored l ≡ false → telling_of l ≡ None → TellsAs t g → GoesOn (goes_on l) t false g
tells_nothing l g t i e tells = rw (goes_quiet l i (said_quiet l e)) tells

-- a line that goes on with the group
pub goes_further : (l : List ℕ) (ls : List (List ℕ)) (new : Told) (h : Group) → GoesOn (goes_on l) new true h → (k : Group) × TellsAs new k × (grows ls k ≡ grows (l ∷ ls) h)
goes_further l ls new h goes = by (goes_on l) refl goes
  where
    by : (o : Option (Option (Who × Option Report))) → goes_on l ≡ o → GoesOn o new true h → (k : Group) × TellsAs new k × (grows ls k ≡ grows (l ∷ ls) h)
    by None e g = absurd g
    by (Some t) e g = (grown_by t h, g, sym (grows_on l ls h t e))

-- a line that ends it
pub goes_no_further : (l : List ℕ) (ls : List (List ℕ)) (new : Told) (h : Group) → GoesOn (goes_on l) new false h → TellsAs new (grows (l ∷ ls) h)
goes_no_further l ls new h goes = by (goes_on l) refl goes
  where
    by : (o : Option (Option (Who × Option Report))) → goes_on l ≡ o → GoesOn o new false h → TellsAs new (grows (l ∷ ls) h)
    by None e g = subst (λ x. TellsAs new x) (sym (grows_stop l ls h e)) g
    by (Some t) e g = absurd g

pub entry_empty : (who : Option Who) (reports : List Report) → length reports ≡ 0 → entry_of who reports ≡ None
entry_empty None reports e = refl
entry_empty (Some w) [] e = refl
entry_empty (Some w) (r ∷ rs) e = absurd (omega arith)

pub entry_some : (w : Who) (reports : List Report) → 0 < length reports → entry_of (Some w) reports ≡ Some (record { who = w; reading = None; sent = (0, 0); reports = reports })
entry_some w [] h = absurd (omega arith)
entry_some w (r ∷ rs) h = refl

pub told_all : (rest : List ℕ) (h k : Group) (t : Told) → length rest ≡ 0 → TellsAs t h → grows (lines_of rest) h ≡ k → TellsAs t k
told_all [] h k t none tells e = subst (λ x. TellsAs t x) e tells
told_all (b ∷ bs) h k t none tells e = absurd (omega arith)

-- the moment of a group
pub is_seen : (l : List ℕ) (ls : List (List ℕ)) (n : ℕ) (clocks : Clocks) (g : Group) (told : Option (Who × Vec Report)) (m : Moment) → shown_of l ≡ Some (n, clocks) → group_in (l ∷ ls) ≡ Some g
    → ((h : Group) → h.who ≡ None → h.reports ≡ [] → IsEntry (grows ls h) told) → m.line ≡ n → m.clocks.items ≡ clocks → m.entry ≡ told → IsSeen g m
is_seen l ls n clocks g told m shown begins entry line items is = by (said_of l) refl begins
  where
    by : (o : Option Said) → said_of l ≡ o → begun_with o ls ≡ Some g → IsSeen g m
    by None e b = absurd (cc (b))
    by (Some Opens) e b = absurd (cc (b))
    by (Some (Tells k w r)) e b = absurd (cc (b))
    by (Some (Shows k cs)) e b =
        let both : ◌≡◌ {A = Option (ℕ × Clocks)} (Some (k, cs)) (Some (n, clocks)) = sym (shows_shown l k cs e) ∙ shown in
        let pair : ◌≡◌ {A = ℕ × Clocks} (k, cs) (n, clocks) = same_Some _ _ both in
        let group : grows ls (group_from k cs) ≡ g = same_Some _ _ b in
        let numbers : m.line ≡ g.line = line ∙ sym (ap (λ (x : ℕ × Clocks). x.0) pair) ∙ sym (grows_line ls (group_from k cs)) ∙ ap (λ (x : Group). x.line) group in
        let lists : m.clocks.items ≡ g.clocks = items ∙ sym (ap (λ (x : ℕ × Clocks). x.1) pair) ∙ sym (grows_clocks ls (group_from k cs)) ∙ ap (λ (x : Group). x.clocks) group in
        let entries = entry (group_from k cs) refl refl in
        let told_is = ap audited_entry is ∙ entries.is ∙ ap (λ (x : Group). entry_of x.who x.reports) group in
        record { is = λ i. record { line = numbers i; time = 0; clocks = lists i; entry = told_is i } }

pub bad_read : {X Y : Type 0} (view : X → Y) (e : LineRefusal) (o : Option Y) → e ≡ refusal.BadLine → Reads view (Err e) o → o ≡ None
bad_read view e o is r = subst (λ x. Reads view (Err x) o) is r

pub positive : (n : ℕ) → (n == 0) ≡ false → 0 < n
positive n e = grind (arith, nat_tests)

-- bytes with which no group begins
pub none_begins : (bytes : List ℕ) (g : Group) → length bytes ≡ 0 → group_in (lines_of bytes) ≡ Some g → ⊥
none_begins [] g none e = cc (e)
none_begins (b ∷ bs) g none e = absurd (omega arith)

pub not_shown : (l : List ℕ) (ls : List (List ℕ)) (g : Group) → shown_of l ≡ None → group_in (l ∷ ls) ≡ Some g → ⊥
not_shown l ls g none begins = by (said_of l) refl begins
  where
    by : (o : Option Said) → said_of l ≡ o → begun_with o ls ≡ Some g → ⊥
    by None e b = cc (b)
    by (Some Opens) e b = cc (b)
    by (Some (Tells k w r)) e b = cc (b)
    by (Some (Shows k cs)) e b = let bad : ◌≡◌ {A = Option (ℕ × Clocks)} None (Some (k, cs)) = sym none ∙ shows_shown l k cs e in cc (bad)
