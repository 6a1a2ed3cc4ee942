-- Two rising lists of logs with the same entries have the same lines: only logs without entries are in one and not the other.
use Rattle.std.proofs.Common.{◌≡◌, ℕ, zero, suc, ◌+◌, ◌≤◌, Bool, true, false, cond, ◌&&◌, ◌==◌, List, [], ◌∷◌, ◌++◌, length, refl, sym, ap, ◌∙◌, subst, arith}
use Rattle.std.specs.List.{flat_map, list_all}
use Rattle.std.proofs.lemmas.Bool.{and_from, and_parts}
use Rattle.write_safety.specs.Books.{KeptLog, entries_of, is_of, logs_rise, precedes}
use Rattle.write_safety.specs.Lines.{kept_line, kept_lines, log_lines}
use Rattle.write_safety.proofs.Orders.{behind, behind_differs, key_itself, precedes_on, same_key}

abbrev before : KeptLog → KeptLog → Bool
before l m = precedes l.partition l.data_loss m.partition m.data_loss

abbrev pub Same : List KeptLog → List KeptLog → Type 0
Same ls ms = (p d : ℕ) → entries_of p d ls ≡ entries_of p d ms

-- where all come behind a partition and data loss number, none is of it
none_of : (p d : ℕ) (ls : List KeptLog) → list_all (λ m. precedes p d m.partition m.data_loss) ls ≡ true → entries_of p d ls ≡ []
none_of p d [] h = refl
none_of p d (m ∷ ms) h =
    let parts = and_parts (precedes p d m.partition m.data_loss) (list_all (λ m. precedes p d m.partition m.data_loss) ms) h in
    ap (λ b. cond b m.entries (entries_of p d ms)) (behind_differs p d m.partition m.data_loss parts.0) ∙ none_of p d ms parts.1

all_behind : (l m : KeptLog) (ms : List KeptLog) → before l m ≡ true → list_all (before m) ms ≡ true → list_all (before l) ms ≡ true
all_behind l m [] h all = refl
all_behind l m (n ∷ ms) h all =
    let parts = and_parts (before m n) (list_all (before m) ms) all in
    and_from (before l n) (list_all (before l) ms)
    (precedes_on l.partition l.data_loss m.partition m.data_loss n.partition n.data_loss h parts.0) (all_behind l m ms h parts.1)

first_of : (l : KeptLog) (ls : List KeptLog) → entries_of l.partition l.data_loss (l ∷ ls) ≡ l.entries
first_of l ls = ap (λ b. cond b l.entries (entries_of l.partition l.data_loss ls)) (key_itself l.partition l.data_loss)

rest_rises : (l : KeptLog) (ls : List KeptLog) → logs_rise (l ∷ ls) ≡ true → logs_rise ls ≡ true
rest_rises l ls rise = (and_parts (list_all (before l) ls) (logs_rise ls) rise).1

-- what stands behind the first log is of others
rest_of : (p d : ℕ) (l : KeptLog) (ls : List KeptLog) → logs_rise (l ∷ ls) ≡ true → entries_of p d ls ≡ cond (is_of p d l) [] (entries_of p d (l ∷ ls))
rest_of p d l ls rise = by (is_of p d l) refl
  where
    by : (b : Bool) → is_of p d l ≡ b → entries_of p d ls ≡ cond b [] (cond b l.entries (entries_of p d ls))
    by true h =
        let key = same_key l.partition l.data_loss p d h in
        subst (λ q. entries_of q d ls ≡ []) key.0
        (subst (λ e. entries_of l.partition e ls ≡ []) key.1
        (none_of l.partition l.data_loss ls (and_parts (list_all (before l) ls) (logs_rise ls) rise).0))
    by false h = refl

no_line : (l : KeptLog) → l.entries ≡ [] → log_lines l ≡ []
no_line l none = ap (flat_map (kept_line l.partition l.data_loss)) none

both_none : {A : Type 0} (b : Bool) (xs : List A) → xs ≡ [] → cond b [] xs ≡ []
both_none true xs none = refl
both_none false xs none = none

none_at_all : (ms : List KeptLog) → logs_rise ms ≡ true → ((p d : ℕ) → entries_of p d ms ≡ []) → kept_lines ms ≡ []
none_at_all [] rise none = refl
none_at_all (m ∷ ms) rise none =
    ap (λ t. t ++ kept_lines ms) (no_line m (sym (first_of m ms) ∙ none m.partition m.data_loss))
    ∙ none_at_all ms (rest_rises m ms rise) (λ p d. rest_of p d m ms rise ∙ both_none (is_of p d m) (entries_of p d (m ∷ ms)) (none p d))

-- a log that comes before all of the other list has no entries
record Skips (l : KeptLog) (ls ms : List KeptLog) : Type 0 where
  none : l.entries ≡ []
  rest : Same ls ms

skips : (l m : KeptLog) (ls ms : List KeptLog) → logs_rise (l ∷ ls) ≡ true → logs_rise (m ∷ ms) ≡ true → before l m ≡ true → Same (l ∷ ls) (m ∷ ms) → Skips l ls (m ∷ ms)
skips l m ls ms rise other h same = record {
  none = sym (first_of l ls) ∙ (same l.partition l.data_loss ∙ absent);
  rest = λ p d. rest_of p d l ls rise ∙ by p d (is_of p d l) refl;
}
  where
    absent : entries_of l.partition l.data_loss (m ∷ ms) ≡ []
    absent =
        none_of l.partition l.data_loss (m ∷ ms)
        (and_from (before l m) (list_all (before l) ms) h (all_behind l m ms h (and_parts (list_all (before m) ms) (logs_rise ms) other).0))

    by : (p d : ℕ) (b : Bool) → is_of p d l ≡ b → cond b [] (entries_of p d (l ∷ ls)) ≡ entries_of p d (m ∷ ms)
    by p d true is =
        let key = same_key l.partition l.data_loss p d is in
        sym (subst (λ q. entries_of q d (m ∷ ms) ≡ []) key.0 (subst (λ e. entries_of l.partition e (m ∷ ms) ≡ []) key.1 absent))
    by p d false is = same p d

-- two logs of one partition and data loss number
module _ (l m : KeptLog) (ls ms : List KeptLog) (rise : logs_rise (l ∷ ls) ≡ true) (other : logs_rise (m ∷ ms) ≡ true) (same : Same (l ∷ ls) (m ∷ ms))
    (same_p : l.partition ≡ m.partition) (same_d : l.data_loss ≡ m.data_loss) where
  same_test : (p d : ℕ) → is_of p d l ≡ is_of p d m
  same_test p d = ap (λ q. q == p && l.data_loss == d) same_p ∙ ap (λ e. m.partition == p && e == d) same_d

  same_rest : Same ls ms
  same_rest p d =
      rest_of p d l ls rise
      ∙ (ap (λ es. cond (is_of p d l) [] es) (same p d)
      ∙ (ap (λ b. cond b [] (entries_of p d (m ∷ ms))) (same_test p d) ∙ sym (rest_of p d m ms other)))

  same_entries : l.entries ≡ m.entries
  same_entries =
      sym (first_of l ls)
      ∙ (same l.partition l.data_loss
      ∙ (ap (λ q. entries_of q l.data_loss (m ∷ ms)) same_p ∙ (ap (λ e. entries_of m.partition e (m ∷ ms)) same_d ∙ first_of m ms)))

  same_log : log_lines l ≡ log_lines m
  same_log =
      ap (λ q. flat_map (kept_line q l.data_loss) l.entries) same_p
      ∙ (ap (λ e. flat_map (kept_line m.partition e) l.entries) same_d ∙ ap (flat_map (kept_line m.partition m.data_loss)) same_entries)

-- by which of the two first logs comes before the other, where the lines are the same behind them
step : (l m : KeptLog) (ls ms : List KeptLog) → logs_rise (l ∷ ls) ≡ true → logs_rise (m ∷ ms) ≡ true → Same (l ∷ ls) (m ∷ ms)
    → (Same ls (m ∷ ms) → kept_lines ls ≡ kept_lines (m ∷ ms)) → (Same ls ms → kept_lines ls ≡ kept_lines ms) → (Same (l ∷ ls) ms → kept_lines (l ∷ ls) ≡ kept_lines ms)
    → kept_lines (l ∷ ls) ≡ kept_lines (m ∷ ms)
step l m ls ms rise other same first both second = by (before l m) refl (is_of m.partition m.data_loss l) refl
  where
    by : (b : Bool) → before l m ≡ b → (k : Bool) → is_of m.partition m.data_loss l ≡ k → kept_lines (l ∷ ls) ≡ kept_lines (m ∷ ms)
    by true h k is =
        let s = skips l m ls ms rise other h same in
        ap (λ t. t ++ kept_lines ls) (no_line l s.none) ∙ first s.rest
    by false h true is =
        let key = same_key l.partition l.data_loss m.partition m.data_loss is in
        ap (λ t. t ++ kept_lines ls) (same_log l m ls ms rise other same key.0 key.1)
        ∙ ap (λ t. log_lines m ++ t) (both (same_rest l m ls ms rise other same key.0 key.1))
    by false h false is =
        let s = skips m l ms ls other rise (behind l.partition l.data_loss m.partition m.data_loss h is) (λ p d. sym (same p d)) in
        second (λ p d. sym (s.rest p d)) ∙ sym (ap (λ t. t ++ kept_lines ms) (no_line m s.none))

lines_by : (n : ℕ) (ls ms : List KeptLog) → length ls + length ms ≤ n → logs_rise ls ≡ true → logs_rise ms ≡ true → Same ls ms → kept_lines ls ≡ kept_lines ms
lines_by n [] ms room rise other same = sym (none_at_all ms other (λ p d. sym (same p d)))
lines_by n (l ∷ ls) [] room rise other same = none_at_all (l ∷ ls) rise same
lines_by zero (l ∷ ls) (m ∷ ms) room rise other same = absurd (omega arith)
lines_by (suc n) (l ∷ ls) (m ∷ ms) room rise other same =
    step l m ls ms rise other same
    (λ s. lines_by n ls (m ∷ ms) (omega arith) (rest_rises l ls rise) other s)
    (λ s. lines_by n ls ms (omega arith) (rest_rises l ls rise) (rest_rises m ms other) s)
    (λ s. lines_by n (l ∷ ls) ms (omega arith) rise (rest_rises m ms other) s)

pub same_lines : (ls ms : List KeptLog) → logs_rise ls ≡ true → logs_rise ms ≡ true → Same ls ms → kept_lines ls ≡ kept_lines ms
same_lines ls ms rise other same = lines_by (length ls + length ms) ls ms (omega arith) rise other same
