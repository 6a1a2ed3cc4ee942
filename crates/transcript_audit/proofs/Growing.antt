-- A group, as lines come.
use Rattle.std.proofs.Common.{◌≡◌, ℕ, true, false, List, [], ◌∷◌, Option, Some, None, refl, ap, ◌∙◌}
use Rattle.std.specs.Prelude.{option_map}
use Rattle.ring_points.specs.declared.who.Who.{Who}
use Rattle.fabric_terms.specs.declared.report.Report.{Report}
use Rattle.fabric_terms.specs.Runs.{Clocks}
use Rattle.source_lines.specs.Lines.{is_ignored}
use Rattle.transcript_audit.specs.Groups.{Group, group_from, onto}
use Rattle.transcript_audit.specs.Places.{goes_if, goes_on, grown_by, grows_by, grows, begun_with, group_in, groups_with}
use Rattle.transcript_audit.specs.Said.{Shows, Tells, said_of}
use Rattle.transcript_audit.specs.Transcript.{Reading, groups_of}
use Rattle.transcript_audit.proofs.SaidSteps.{Quiet, Is_none, Is_opens, Is_shows}

pub goes_ignored : (l : List ℕ) → is_ignored l ≡ true → goes_on l ≡ Some None
goes_ignored l e = ap (λ b. goes_if b (said_of l)) e

pub goes_tells : (l : List ℕ) (n : ℕ) (w : Who) (r : Option Report) → is_ignored l ≡ false → said_of l ≡ Some (Tells n w r) → goes_on l ≡ Some (Some (w, r))
goes_tells l n w r i s = λ j. goes_if (i j) (s j)

pub goes_quiet : (l : List ℕ) → is_ignored l ≡ false → Quiet (said_of l) → goes_on l ≡ None
goes_quiet l i (Is_none e) = λ j. goes_if (i j) (e j)
goes_quiet l i (Is_opens e) = λ j. goes_if (i j) (e j)
goes_quiet l i (Is_shows n cs e) = λ j. goes_if (i j) (e j)

pub grows_on : (l : List ℕ) (ls : List (List ℕ)) (g : Group) (t : Option (Who × Option Report)) → goes_on l ≡ Some t → grows (l ∷ ls) g ≡ grows ls (grown_by t g)
grows_on l ls g t e = ap (λ o. grows_by o (grows ls) g) e

pub grows_stop : (l : List ℕ) (ls : List (List ℕ)) (g : Group) → goes_on l ≡ None → grows (l ∷ ls) g ≡ g
grows_stop l ls g e = ap (λ o. grows_by o (grows ls) g) e

grown_line : (t : Option (Who × Option Report)) (g : Group) → (grown_by t g).line ≡ g.line
grown_line None g = refl
grown_line (Some t) g = refl

pub grows_line : (ls : List (List ℕ)) (g : Group) → (grows ls g).line ≡ g.line
grows_line [] g = refl
grows_line (l ∷ ls) g = by (goes_on l) refl (λ t. grows_line ls (grown_by t g))
  where
    by : (o : Option (Option (Who × Option Report))) → goes_on l ≡ o → ((t : Option (Who × Option Report)) → (grows ls (grown_by t g)).line ≡ (grown_by t g).line) → (grows (l ∷ ls) g).line ≡ g.line
    by None e again = ap (λ (x : Group). x.line) (grows_stop l ls g e)
    by (Some t) e again = ap (λ (x : Group). x.line) (grows_on l ls g t e) ∙ again t ∙ grown_line t g

grown_clocks : (t : Option (Who × Option Report)) (g : Group) → (grown_by t g).clocks ≡ g.clocks
grown_clocks None g = refl
grown_clocks (Some t) g = refl

pub grows_clocks : (ls : List (List ℕ)) (g : Group) → (grows ls g).clocks ≡ g.clocks
grows_clocks [] g = refl
grows_clocks (l ∷ ls) g = by (goes_on l) refl (λ t. grows_clocks ls (grown_by t g))
  where
    by : (o : Option (Option (Who × Option Report))) → goes_on l ≡ o → ((t : Option (Who × Option Report)) → (grows ls (grown_by t g)).clocks ≡ (grown_by t g).clocks) → (grows (l ∷ ls) g).clocks ≡ g.clocks
    by None e again = ap (λ (x : Group). x.clocks) (grows_stop l ls g e)
    by (Some t) e again = ap (λ (x : Group). x.clocks) (grows_on l ls g t e) ∙ again t ∙ grown_clocks t g

pub begins_with : (l : List ℕ) (ls : List (List ℕ)) (n : ℕ) (cs : Clocks) → said_of l ≡ Some (Shows n cs) → group_in (l ∷ ls) ≡ Some (grows ls (group_from n cs))
begins_with l ls n cs e = ap (λ o. begun_with o ls) e

-- the groups with one line more

pub with_ignored : (l : List ℕ) (ls : List (List ℕ)) (r : Reading) → is_ignored l ≡ true → groups_with (l ∷ ls) r ≡ groups_with ls r
with_ignored l ls r i = by r.now
  where
    by : (o : Option Group) → onto (option_map (grows (l ∷ ls)) o) r.before ≡ onto (option_map (grows ls) o) r.before
    by None = refl
    by (Some g) = ap (λ x. x ∷ r.before) (grows_on l ls g None (goes_ignored l i))

pub with_stop : (l : List ℕ) (ls : List (List ℕ)) (r : Reading) → goes_on l ≡ None → groups_with (l ∷ ls) r ≡ groups_of r
with_stop l ls r e = by r.now
  where
    by : (o : Option Group) → onto (option_map (grows (l ∷ ls)) o) r.before ≡ onto o r.before
    by None = refl
    by (Some g) = ap (λ x. x ∷ r.before) (grows_stop l ls g e)

pub with_none : (r : Reading) → groups_with [] r ≡ groups_of r
with_none r = by r.now
  where
    by : (o : Option Group) → onto (option_map (grows []) o) r.before ≡ onto o r.before
    by None = refl
    by (Some g) = refl
