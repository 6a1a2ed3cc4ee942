-- The table of places, with one line more.
use Rattle.std.proofs.Common.{◌≡◌, ℕ, Bool, true, false, List, ◌∷◌, drop, Option, Some, None, refl, sym, ap, ◌∙◌, subst, arith}
use Rattle.std.specs.Prelude.{◌&&◌, not, nat_eq, is_some, option_map, if◌then◌else◌}
use Rattle.std.proofs.lemmas.Bool.{and_parts, eqb-true}
use Rattle.std.proofs.lemmas.Bool.Decides.{nat_tests}
use Rattle.std.proofs.lemmas.Option.{same_Some}
use Rattle.ring_points.specs.declared.who.Who.{Who}
use Rattle.fabric_terms.specs.declared.report.Report.{Report}
use Rattle.fabric_terms.specs.Runs.{Clocks}
use Rattle.line_format.specs.Lines.{lines_of}
use Rattle.source_lines.specs.Lines.{is_ignored}
use Rattle.transcript_audit.specs.declared.group_index.GroupIndex.{GroupIndex}
use Rattle.transcript_audit.specs.declared.said.Said.{Said as Summary}
use Rattle.transcript_audit.specs.declared.said.Said.TheVariants as summary
use Rattle.transcript_audit.specs.Groups.{Group, group_from, grown, may_tell, group_at, onto}
use Rattle.transcript_audit.specs.Places.{Keeps, Begins, TellsIn, IsPlaced, HasBegun, HasTold, place_of, group_behind, group_in, groups_with, grows, is_over, may_begin_in, may_tell_in, summary_of}
use Rattle.transcript_audit.specs.Said.{Said, Opens, Shows, Tells, said_of}
use Rattle.transcript_audit.specs.Transcript.{Reading, groups_of, rises_over, may_begin, tells_in, placed}
use Rattle.transcript_audit.proofs.SaidSteps.{Is_opens, Is_shows}
use Rattle.transcript_audit.proofs.Growing.{goes_tells, goes_quiet, grows_on, grows_line, begins_with, with_ignored, with_stop}

module _ (bytes l : List ℕ) (ls : List (List ℕ)) (r : Reading) (old : GroupIndex) where
  pub keeps_ignored : is_ignored l ≡ true → Keeps bytes (l ∷ ls) old r → Keeps bytes ls old r
  keeps_ignored i k = record { opened = k.opened; now = k.now; places = λ line. k.places line ∙ ap (λ gs. option_map Some (group_at line gs)) (with_ignored l ls r i) }

  -- a section opens
  pub keeps_opens : (new : GroupIndex) → is_ignored l ≡ false → said_of l ≡ Some Opens → Keeps bytes (l ∷ ls) old r
      → new.opened ≡ true → new.last ≡ None → new.table ≡ old.table → Keeps bytes ls new (record { opened = true; now = None; before = groups_of r })
  keeps_opens new i said k opened now table = record {
    opened = opened;
    now = now;
    places = λ line.
        ap (λ t. option_map (group_behind bytes) (place_of line (record { opened = old.opened; last = old.last; table = t }))) table ∙ k.places line
        ∙ ap (λ gs. option_map Some (group_at line gs)) (with_stop l ls r (goes_quiet l i (Is_opens said)));
  }

  over_same : (o : Option Group) (line : ℕ) → is_over (option_map (λ g. (g.line, g.who)) o) line ≡ rises_over o line
  over_same None line = refl
  over_same (Some g) line = refl

  some_same : {A B : Type 0} (f : A → B) (o : Option A) → is_some (option_map f o) ≡ is_some o
  some_same f None = refl
  some_same f (Some x) = refl

  begin_same : (line : ℕ) (cs : Clocks) → is_ignored l ≡ false → said_of l ≡ Some (Shows line cs) → Keeps bytes (l ∷ ls) old r → may_begin_in line old ≡ may_begin line r
  begin_same line cs i said k =
      let over : is_over old.last line ≡ rises_over r.now line = ap (λ o. is_over o line) k.now ∙ over_same r.now line in
      let there : is_some (place_of line old) ≡ is_some (group_at line (groups_of r)) =
      sym (some_same (group_behind bytes) (place_of line old)) ∙ ap is_some (k.places line) ∙ some_same Some (group_at line (groups_with (l ∷ ls) r))
      ∙ ap (λ gs. is_some (group_at line gs)) (with_stop l ls r (goes_quiet l i (Is_shows line cs said))) in
      λ j. k.opened j && (over j && not (there j))

  eq_flip : (m n : ℕ) → nat_eq m n ≡ nat_eq n m
  eq_flip m n = by (nat_eq n m) refl
    where
      by : (b : Bool) → nat_eq n m ≡ b → nat_eq m n ≡ nat_eq n m
      by true e = grind (arith, nat_tests)
      by false e = grind (arith, nat_tests)

  keeps_begun : (at line : ℕ) (cs : Clocks) (new : GroupIndex) → is_ignored l ≡ false → said_of l ≡ Some (Shows line cs) → lines_of (drop at bytes) ≡ l ∷ ls
      → Keeps bytes (l ∷ ls) old r → HasBegun line at old new → Keeps bytes ls new (record { opened = true; now = Some (group_from line cs); before = groups_of r })
  keeps_begun at line cs new i said here k begun = record {
    opened = begun.opened;
    now = begun.now;
    places = λ n. ap (option_map (group_behind bytes)) (begun.places n) ∙ by n (nat_eq line n) refl;
  }
    where
      first : Group
      first = grows ls (group_from line cs)

      test : (n : ℕ) → nat_eq n first.line ≡ nat_eq line n
      test n = ap (λ x. nat_eq n x) (grows_line ls (group_from line cs)) ∙ eq_flip n line

      by : (n : ℕ) (b : Bool) → nat_eq line n ≡ b
          → option_map (group_behind bytes) (if b then Some at else place_of n old) ≡ option_map Some (group_at n (grows ls (group_from line cs) ∷ groups_of r))
      by n true e =
          let yes : nat_eq n (grows ls (group_from line cs)).line ≡ true = test n ∙ e in
          rw yes (ap (λ x. Some (group_in x)) here ∙ ap (λ x. Some x) (begins_with l ls line cs said))
      by n false e =
          let no : nat_eq n (grows ls (group_from line cs)).line ≡ false = test n ∙ e in
          rw no (k.places n ∙ ap (λ gs. option_map Some (group_at n gs)) (with_stop l ls r (goes_quiet l i (Is_shows line cs said))))

  pub placed_shows : (at line : ℕ) (cs : Clocks) (new : GroupIndex) (ok : Bool) → is_ignored l ≡ false → said_of l ≡ Some (Shows line cs) → lines_of (drop at bytes) ≡ l ∷ ls
      → Keeps bytes (l ∷ ls) old r → Begins line at old new ok → IsPlaced bytes ls new ok (placed (Shows line cs) r)
  placed_shows at line cs new ok i said here k begins = by ok (may_begin line r) refl (begins.0 ∙ begin_same line cs i said k) begins.1
    where
      by : (b d : Bool) → may_begin line r ≡ d → b ≡ d → (b ≡ true → HasBegun line at old new) → IsPlaced bytes ls new b (placed (Shows line cs) r)
      by true true e f begun = rw e (keeps_begun at line cs new i said here k (begun refl))
      by false false e f begun = rw e tt
      by true false e f begun = absurd (cc (f))
      by false true e f begun = absurd (cc (f))

  keeps_told : (line : ℕ) (w : Who) (report : Option Report) (new : GroupIndex) (g : Group) → r.now ≡ Some g → nat_eq g.line line ≡ true
      → is_ignored l ≡ false → said_of l ≡ Some (Tells line w report) → Keeps bytes (l ∷ ls) old r → HasTold line w old new
      → Keeps bytes ls new (record r { now = Some (grown w report g) })
  keeps_told line w report new g is here i said k told = record {
    opened = told.opened ∙ k.opened;
    now = told.now ∙ (λ j. Some (sym (eqb-true g.line line here) j, Some w));
    places = λ n.
        ap (λ t. option_map (group_behind bytes) (place_of n (record { opened = old.opened; last = old.last; table = t }))) told.table ∙ k.places n
        ∙ ap (λ o. option_map Some (group_at n (onto (option_map (grows (l ∷ ls)) o) r.before))) is
        ∙ ap (λ x. option_map Some (group_at n (x ∷ r.before))) (grows_on l ls g (Some (w, report)) (goes_tells l line w report i said));
  }

  pub placed_tells : (line : ℕ) (w : Who) (report : Option Report) (new : GroupIndex) (ok : Bool) → is_ignored l ≡ false → said_of l ≡ Some (Tells line w report)
      → Keeps bytes (l ∷ ls) old r → TellsIn line w old new ok → IsPlaced bytes ls new ok (placed (Tells line w report) r)
  placed_tells line w report new ok i said k tells = by r.now refl
    where
      may : ok ≡ may_tell_in line w (option_map (λ g. (g.line, g.who)) r.now)
      may = tells.0 ∙ ap (may_tell_in line w) k.now

      no : ok ≡ false → IsPlaced bytes ls new ok None
      no e = subst (λ b. IsPlaced bytes ls new b None) (sym e) tt

      yes : (g : Group) → ok ≡ true → Keeps bytes ls new (record r { now = Some (grown w report g) }) → IsPlaced bytes ls new ok (Some (record r { now = Some (grown w report g) }))
      yes g e kept = subst (λ b. IsPlaced bytes ls new b (Some (record r { now = Some (grown w report g) }))) (sym e) kept

      tested : (g : Group) → r.now ≡ Some g → (b : Bool) → (nat_eq g.line line && may_tell w g.who) ≡ b → ok ≡ b → IsPlaced bytes ls new ok (tells_in line w report r (Some g))
      tested g is true e f = rw e (yes g f (keeps_told line w report new g is (and_parts (nat_eq g.line line) (may_tell w g.who) e).0 i said k (tells.1 f)))
      tested g is false e f = rw e (no f)

      by : (o : Option Group) → r.now ≡ o → IsPlaced bytes ls new ok (tells_in line w report r r.now)
      by None e = subst (λ o. IsPlaced bytes ls new ok (tells_in line w report r o)) (sym e) (no (may ∙ ap (λ o. may_tell_in line w (option_map (λ g. (g.line, g.who)) o)) e))
      by (Some g) e =
          subst (λ o. IsPlaced bytes ls new ok (tells_in line w report r o)) (sym e)
          (tested g e (nat_eq g.line line && may_tell w g.who) refl (may ∙ ap (λ o. may_tell_in line w (option_map (λ g. (g.line, g.who)) o)) e))

-- the summary tells which
pub is_opens : (saying : Said) → summary.Opens ≡ summary_of saying → saying ≡ Opens
is_opens Opens e = refl
is_opens (Shows line cs) e = absurd (cc (e))
is_opens (Tells line w report) e = absurd (cc (e))

pub is_shows : (line : ℕ) (saying : Said) → summary.Shows line ≡ summary_of saying → (cs : Clocks) × (saying ≡ Shows line cs)
is_shows line Opens e = absurd (cc (e))
is_shows line (Shows n cs) e = let same : line ≡ n = cc (e) in (cs, ap (λ x. Shows x cs) (sym same))
is_shows line (Tells n w report) e = absurd (cc (e))

pub is_tells : (line : ℕ) (w : Who) (saying : Said) → summary.Tells line w ≡ summary_of saying → (report : Option Report) × (saying ≡ Tells line w report)
is_tells line w Opens e = absurd (cc (e))
is_tells line w (Shows n cs) e = absurd (cc (e))
is_tells line w (Tells n v report) e =
    let same : line ≡ n = cc (e) in
    let who : w ≡ v = cc (e) in
    (report, λ i. Tells (sym same i) (sym who i) report)

pub said_is : (s : Summary) (o : Option Said) → option_map summary_of o ≡ Some s → (saying : Said) × (o ≡ Some saying) × (s ≡ summary_of saying)
said_is s None e = absurd (cc (e))
said_is s (Some saying) e = (saying, refl, sym (same_Some (summary_of saying) s e))
