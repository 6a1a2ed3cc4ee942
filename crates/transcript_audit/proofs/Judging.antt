-- The verdict on the groups, as they are judged in their order.
use Rattle.std.proofs.Common.{◌≡◌, ℕ, zero, suc, ◌+◌, ◌-◌, ◌<◌, ◌≤◌, Bool, true, false, List, [], ◌∷◌, ◌++◌, length, map, take, drop, get_or, reverse, Option, Some, None, Contains, Result, Ok, Err, inl, inr, arith, refl, sym, ap, ◌∙◌, subst}
use Rattle.std.specs.Global.{Vec}
use Rattle.std.specs.Prelude.{slice_get, nat_eq, is_some, option_map, IsSome}
use Rattle.std.specs.Map.{lookup}
use Rattle.std.proofs.lemmas.Bool.{eqb-true, eq-eqb}
use Rattle.std.proofs.lemmas.List.{take_all, take_more, take-append-drop, reverse-append, length-drop, length-map}
use Rattle.std.proofs.lemmas.Option.{same_Some}
use Rattle.run_audit.specs.declared.breach.Breach.{Breach}
use Rattle.run_audit.specs.Breaches.{IsVerdict}
use Rattle.run_audit.proofs.Members.{Contains-cases, Contains-empty, Contains-first, Contains-rest}
use Rattle.run_audit.proofs.OneVerdict.{one_verdict}
use Rattle.run_audit.proofs.Safes.{safe_empty}
use Rattle.run_audit.proofs.Verdicts.{verdict_stays}
use Rattle.run_audit.specs.declared.auditor.Auditor.{Auditor}
use Rattle.run_audit.specs.declared.moment.Moment.{Moment}
use Rattle.run_audit.specs.Auditing.{StandsFor, Judges, seen}
use Rattle.fabric_status.specs.declared.status.Refusal.{Refusal}
use Rattle.transcript_audit.specs.declared.transcript.Transcript.TheVariants.{Good, Refused}
use Rattle.line_format.specs.Lines.{lines_of}
use Rattle.transcript_audit.specs.declared.group_index.GroupIndex.{GroupIndex}
use Rattle.transcript_audit.specs.Audits.{IsJudged}
use Rattle.transcript_audit.specs.Groups.{Group, AreLines, Rise, group_at, moment_of, onto, run_along}
use Rattle.transcript_audit.specs.Places.{Finds, IsSeen, IsTranscript, group_behind, group_in, lines_in, place_of}

there_looked : (es : List (ℕ × ℕ)) (line : ℕ) → Contains (map (λ e. e.0) es) line → (at : ℕ) × (lookup (nat_eq line) es ≡ Some at)
there_looked [] line has = Contains-empty line has
there_looked (e ∷ es) line has = by (nat_eq line e.0) refl (there_looked es line)
  where
    by : (b : Bool) → nat_eq line e.0 ≡ b → (Contains (map (λ x. x.0) es) line → (at : ℕ) × (lookup (nat_eq line) es ≡ Some at)) → (at : ℕ) × (lookup (nat_eq line) (e ∷ es) ≡ Some at)
    by true t rest = (e.1, rw t refl)
    by false t rest = elim (Contains-cases e.0 line (map (λ x. x.0) es) has) as (λ _. (at : ℕ) × (lookup (nat_eq line) (e ∷ es) ≡ Some at)) [
      | inl h ↦ let yes : nat_eq line e.0 ≡ true = eq-eqb line e.0 (sym h) in absurd (cc (t, yes))
      | inr k ↦ let more = rest k in (more.0, rw t more.1)
    ]

looked_there : (es : List (ℕ × ℕ)) (line at : ℕ) → lookup (nat_eq line) es ≡ Some at → Contains (map (λ e. e.0) es) line
looked_there [] line at h = absurd (cc (h))
looked_there (e ∷ es) line at h = by (nat_eq line e.0) refl (looked_there es line at)
  where
    by : (b : Bool) → nat_eq line e.0 ≡ b → (lookup (nat_eq line) es ≡ Some at → Contains (map (λ x. x.0) es) line) → Contains (map (λ x. x.0) (e ∷ es)) line
    by true t rest = subst (λ n. Contains (e.0 ∷ map (λ x. x.0) es) n) (sym (eqb-true line e.0 t)) (Contains-first e.0 (map (λ x. x.0) es))
    by false t rest = Contains-rest e.0 line (map (λ x. x.0) es) (rest (rw t at h))

module _ (bytes : List ℕ) (t : GroupIndex) (groups : List Group) (finds : Finds bytes t groups) where
  pub found : (line at : ℕ) → place_of line t ≡ Some at → (g : Group) × (group_at line groups ≡ Some g) × (group_behind bytes at ≡ Some g)
  found line at e = by (group_at line groups) refl
    where
      both : option_map (group_behind bytes) (Some at) ≡ option_map Some (group_at line groups)
      both = ap (option_map (group_behind bytes)) (sym e) ∙ finds line

      by : (o : Option Group) → group_at line groups ≡ o → (g : Group) × (group_at line groups ≡ Some g) × (group_behind bytes at ≡ Some g)
      by None f = let bad : ◌≡◌ {A = Option (Option Group)} (Some (group_behind bytes at)) None = both ∙ ap (option_map Some) f in absurd (cc (bad))
      by (Some g) f = let same : ◌≡◌ {A = Option (Option Group)} (Some (group_behind bytes at)) (Some (Some g)) = both ∙ ap (option_map Some) f in (g, f, same_Some _ _ same)

  there : (line : ℕ) → Contains (lines_in t) line → IsSome (group_at line groups)
  there line has =
      let at = there_looked t.table.entries line has in
      let g = found line at.0 at.1 in
      ap is_some g.1

  all : (line : ℕ) → IsSome (group_at line groups) → Contains (lines_in t) line
  all line some = by (place_of line t) refl
    where
      none : (o : Option Group) → None ≡ option_map Some o → IsSome o → ⊥
      none None e h = cc (h)
      none (Some g) e h = cc (e)

      by : (o : Option ℕ) → place_of line t ≡ o → Contains (lines_in t) line
      by None e = absurd (none (group_at line groups) (ap (option_map (group_behind bytes)) (sym e) ∙ finds line) some)
      by (Some at) e = looked_there t.table.entries line at e

  pub are_lines : Rise (lines_in t) → AreLines groups (lines_in t)
  are_lines rise = record { rise = rise; there = there; all = all }

-- one moment more
pub along_next : (groups : List Group) (lines : List ℕ) (i : ℕ) (d : ℕ) (g : Group) → i < length lines → group_at (get_or lines i d) groups ≡ Some g
    → run_along groups (reverse (take (i + 1) lines)) ≡ moment_of g ∷ run_along groups (reverse (take i lines))
along_next groups lines i d g h e =
    let more : reverse (take (i + 1) lines) ≡ get_or lines i d ∷ reverse (take i lines) = ap reverse (take_more lines i d h) ∙ reverse-append (take i lines) (get_or lines i d ∷ []) in
    ap (run_along groups) more ∙ ap (λ o. onto (option_map moment_of o) (run_along groups (reverse (take i lines)))) e

-- a breach is the verdict on the run that goes on
breach_along : (groups : List Group) (xs ys : List ℕ) (b : Breach) → IsVerdict (run_along groups ys) (Some b) → IsVerdict (run_along groups (xs ++ ys)) (Some b)
breach_along groups [] ys b v = v
breach_along groups (x ∷ xs) ys b v = by (group_at x groups) (breach_along groups xs ys b v)
  where
    by : (o : Option Group) → IsVerdict (run_along groups (xs ++ ys)) (Some b) → IsVerdict (onto (option_map moment_of o) (run_along groups (xs ++ ys))) (Some b)
    by None w = w
    by (Some g) w = verdict_stays (moment_of g) (run_along groups (xs ++ ys)) b w

pub breach_last : (groups : List Group) (lines : List ℕ) (i : ℕ) (b : Breach) → IsVerdict (run_along groups (reverse (take i lines))) (Some b) → IsVerdict (run_along groups (reverse lines)) (Some b)
breach_last groups lines i b v =
    let split : reverse lines ≡ reverse (drop i lines) ++ reverse (take i lines) = ap reverse (sym (take-append-drop i lines)) ∙ reverse-append (take i lines) (drop i lines) in
    subst (λ l. IsVerdict (run_along groups l) (Some b)) (sym split) (breach_along groups (reverse (drop i lines)) (reverse (take i lines)) b v)

line_at : (es : List (ℕ × ℕ)) (i : ℕ) (e : ℕ × ℕ) → slice_get es i ≡ Some e → (i < length (map (λ x. x.0) es)) × (get_or (map (λ x. x.0) es) i 0 ≡ e.0)
line_at [] i e h = absurd (cc (h))
line_at (x ∷ es) zero e h = let same : x ≡ e = cc (h) in (omega arith, ap (λ (y : ℕ × ℕ). y.0) same)
line_at (x ∷ es) (suc i) e h = let more = line_at es i e h in (omega (arith, more.0), more.1)

-- the auditor with the group at a place of the order
pub judged_one : (bytes : List ℕ) (t : GroupIndex) (groups : List Group) (i line at : ℕ) (old new : Auditor) (m : Moment) (b : Option Breach) → Finds bytes t groups
    → slice_get t.table.entries i ≡ Some (line, at) → place_of line t ≡ Some at
    → ((g : Group) → group_in (lines_of (take (length bytes - at) (drop at bytes))) ≡ Some g → IsSeen g m) → Judges old m new (Ok b)
    → StandsFor old (run_along groups (reverse (take i (lines_in t))))
    → IsVerdict (run_along groups (reverse (take (i + 1) (lines_in t)))) b × StandsFor new (run_along groups (reverse (take (i + 1) (lines_in t)))) × (new.breach ≡ b)
judged_one bytes t groups i line at old new m b finds entry place reads judges stands =
    let g = found bytes t groups finds line at place in
    let here = line_at t.table.entries i (line, at) entry in
    let piece : take (length bytes - at) (drop at bytes) ≡ drop at bytes = take_all (length bytes - at) (drop at bytes) (omega (arith, length-drop at bytes)) in
    let seen_is : seen m ≡ moment_of g.0 = (reads g.0 (ap (λ x. group_in (lines_of x)) piece ∙ g.2)).is in
    let run = run_along groups (reverse (take i (lines_in t))) in
    let next : run_along groups (reverse (take (i + 1) (lines_in t))) ≡ seen m ∷ run =
    along_next groups (lines_in t) i 0 g.0 here.0 (ap (λ n. group_at n groups) here.1 ∙ g.1) ∙ ap (λ x. x ∷ run) (sym seen_is) in
    let answer = judges run stands in (
      subst (λ r. IsVerdict r b) (sym next) answer.0,
      subst (λ r. StandsFor new r) (sym next) answer.1,
      answer.2,
    )

pub judged_breach : (bytes : List ℕ) (t : GroupIndex) (groups : List Group) (i : ℕ) (o : Option Breach) → Finds bytes t groups → Rise (lines_in t)
    → is_some o ≡ true → IsVerdict (run_along groups (reverse (take i (lines_in t)))) o → IsJudged groups (length t.table.entries) o
judged_breach bytes t groups i None finds rise some v = absurd (cc (some))
judged_breach bytes t groups i (Some b) finds rise some v = record {
  lines = lines_in t;
  order = are_lines bytes t groups finds rise;
  verdict = breach_last groups (lines_in t) i b v;
  count = length-map t.table.entries (λ (e : ℕ × ℕ). e.0);
}

pub judged_safe : (bytes : List ℕ) (t : GroupIndex) (groups : List Group) (i : ℕ) (a : Auditor) → Finds bytes t groups → Rise (lines_in t) → length t.table.entries ≤ i
    → a.breach ≡ None → StandsFor a (run_along groups (reverse (take i (lines_in t)))) → IsJudged groups (length t.table.entries) None
judged_safe bytes t groups i a finds rise done none stands = record {
  lines = lines_in t;
  order = are_lines bytes t groups finds rise;
  verdict =
      let all : take i (lines_in t) ≡ lines_in t = take_all i (lines_in t) (omega (arith, length-map t.table.entries (λ (e : ℕ × ℕ). e.0))) in
      subst (λ l. IsVerdict (run_along groups (reverse l)) None) all (subst (λ o. IsVerdict (run_along groups (reverse (take i (lines_in t)))) o) none stands.verdict);
  count = length-map t.table.entries (λ (e : ℕ × ℕ). e.0);
}

pub none_at_first : (a : Auditor) → StandsFor a [] → a.breach ≡ None
none_at_first a stands = one_verdict [] a.breach None stands.verdict safe_empty

pub none_yet : (o : Option Breach) → is_some o ≡ false → o ≡ None
none_yet None e = refl
none_yet (Some b) e = absurd (cc (e))

pub entry_there : (es : List (ℕ × ℕ)) (i : ℕ) → None ≡ slice_get es i → i < length es → ⊥
entry_there [] i e h = omega arith
entry_there (x ∷ es) zero e h = cc (e)
entry_there (x ∷ es) (suc i) e h = entry_there es i e (omega arith)

-- a transcript that was read, and one that is refused
pub good_is : (bytes : List ℕ) (text : Vec ℕ) (t : GroupIndex) (o : Result (List Group) Refusal) → IsTranscript bytes (Good text t) o → (groups : List Group) × (o ≡ Ok groups) × (text.items ≡ bytes) × Finds bytes t groups
good_is bytes text t (Ok groups) is = (groups, refl, is.0, is.1)
good_is bytes text t (Err e) is = absurd is

pub refused_is : (bytes : List ℕ) (f : Refusal) (o : Result (List Group) Refusal) → IsTranscript bytes (Refused f) o → o ≡ Err f
refused_is bytes f (Ok groups) is = absurd is
refused_is bytes f (Err e) is = ap (λ x. Err x) (sym is)
