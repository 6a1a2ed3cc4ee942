-- The LINEs of the groups of a run, and the run along them.
use Rattle.std.proofs.Common.{◌≡◌, ℕ, suc, ◌+◌, ◌≤◌, ◌<◌, Bool, true, false, cond, List, [], ◌∷◌, ◌++◌, length, map, Some, ⊎_elim, inl, inr, ◌⊎◌, arith, refl, sym, ap, subst, ◌∙◌}
use Rattle.std.specs.Prelude.{All, Contains, IsSome, nat_eq, option_map, reverse, slice_index}
use Rattle.std.proofs.lemmas.Bool.{eq-eqb, eqb-true}
use Rattle.std.proofs.lemmas.Bool.Decides.{nat_tests}
use Rattle.std.proofs.lemmas.List.{length-append, reverse-append}
use Rattle.std.proofs.lemmas.List.Elements.{All-head, All-tail, Contains-append_left, Contains-push, Contains-push_cases}
use Rattle.fabric_terms.specs.Runs.{Moment, Run}
use Rattle.run_audit.proofs.Members.{Contains-cases, Contains-empty, Contains-first, Contains-rest}
use Rattle.transcript_audit.specs.Groups.{AreLines, Rise, group_at, moment_of, onto, run_along}
use Rattle.trace_audit.specs.Recordings.{LinesRise, group_of_moment, groups_of_run}

-- Rising lists are the same where their elements are.

RiseFrom : ℕ → List ℕ → Type 0
RiseFrom low [] = Unit {0}
RiseFrom low (x ∷ xs) = (low ≤ x) × RiseFrom (x + 1) xs

rise_first : (x : ℕ) (xs : List ℕ) → Rise (x ∷ xs) → RiseFrom x (x ∷ xs)
unfolding RiseFrom
rise_first x [] h = (omega arith, tt)
rise_first x (y ∷ ys) h =
    let first : x < y = h 0 (omega arith) in
    let rest = rise_first y ys (λ k lt. let e : suc k + 1 ≡ suc (k + 1) = omega arith in
    subst (λ n. slice_index (x ∷ y ∷ ys) (suc k) < slice_index (x ∷ y ∷ ys) n) e (h (suc k) (omega arith))) in
    (omega arith, (omega arith, rest.1))

rise_from : (xs : List ℕ) → Rise xs → RiseFrom 0 xs
unfolding RiseFrom
rise_from [] h = tt
rise_from (x ∷ xs) h = (omega arith, (rise_first x xs h).1)

from_low : (low : ℕ) (xs : List ℕ) (n : ℕ) → RiseFrom low xs → Contains xs n → low ≤ n
unfolding RiseFrom
from_low low [] n h has = absurd (Contains-empty n has)
from_low low (x ∷ xs) n h has = ⊎_elim (λ e. subst (λ m. low ≤ m) e h.0) (λ rest. (let more = from_low (x + 1) xs n h.1 rest in let first = h.0 in omega arith)) (Contains-cases x n xs has)

-- each is in the other
Within : List ℕ → List ℕ → Type 0
Within xs ys = (n : ℕ) → Contains xs n → Contains ys n

behind_first : (x : ℕ) (xs ys : List ℕ) → RiseFrom (x + 1) xs → Within (x ∷ xs) (x ∷ ys) → Within xs ys
unfolding Within
behind_first x xs ys h w n has =
    ⊎_elim (λ e. absurd (let low = from_low (x + 1) xs n h has in omega (arith, e))) (λ rest. rest) (Contains-cases x n ys (w n (Contains-rest x n xs has)))

only_rise : (low : ℕ) (xs ys : List ℕ) → RiseFrom low xs → RiseFrom low ys → Within xs ys → Within ys xs → xs ≡ ys
unfolding RiseFrom Within
only_rise low [] [] h k v w = refl
only_rise low [] (y ∷ ys) h k v w = absurd (Contains-empty y (w y (Contains-first y ys)))
only_rise low (x ∷ xs) [] h k v w = absurd (Contains-empty x (v x (Contains-first x xs)))
only_rise low (x ∷ xs) (y ∷ ys) h k v w =
    let up : y ≤ x = from_low y (y ∷ ys) x (omega arith, k.1) (v x (Contains-first x xs)) in
    let down : x ≤ y = from_low x (x ∷ xs) y (omega arith, h.1) (w y (Contains-first y ys)) in
    let same : x ≡ y = omega arith in
    let ys_rise : RiseFrom (x + 1) ys = subst (λ n. RiseFrom (n + 1) ys) (sym same) k.1 in
    let v_same : Within (x ∷ xs) (x ∷ ys) = subst (λ n. Within (x ∷ xs) (n ∷ ys)) (sym same) v in
    let w_same : Within (x ∷ ys) (x ∷ xs) = subst (λ n. Within (n ∷ ys) (x ∷ xs)) (sym same) w in
    ap (λ n. n ∷ xs) same ∙ ap (λ zs. y ∷ zs) (only_rise (x + 1) xs ys h.1 ys_rise (behind_first x xs ys h.1 v_same) (behind_first x ys xs ys_rise w_same))

-- The LINEs of a run.

abbrev pub lines_in : Run → List ℕ
lines_in run = map (λ m. m.line) run

-- the least first
oldest_first : Run → List ℕ
oldest_first [] = []
oldest_first (m ∷ ms) = oldest_first ms ++ m.line ∷ []

reversed : (run : Run) → reverse (oldest_first run) ≡ lines_in run
unfolding oldest_first
reversed [] = refl
reversed (m ∷ ms) = reverse-append (oldest_first ms) (m.line ∷ []) ∙ ap (λ ls. m.line ∷ ls) (reversed ms)

long : (run : Run) → length (oldest_first run) ≡ length run
unfolding oldest_first
long [] = refl
long (m ∷ ms) = let sum = length-append (oldest_first ms) (m.line ∷ []) in let rest = long ms in omega arith

below_all : (line : ℕ) (run : Run) (n : ℕ) → All (λ m. m.line < line) run → Contains (oldest_first run) n → n < line
unfolding oldest_first
below_all line [] n h has = absurd (Contains-empty n has)
below_all line (m ∷ ms) n h has =
    ⊎_elim (below_all line ms n (All-tail (λ m. m.line < line) m ms h)) (λ e. subst (λ k. k < line) e (All-head (λ m. m.line < line) m ms h))
    (Contains-push_cases (oldest_first ms) m.line n has)

rise_push : (low : ℕ) (xs : List ℕ) (x : ℕ) → RiseFrom low xs → low ≤ x → ((n : ℕ) → Contains xs n → n < x) → RiseFrom low (xs ++ x ∷ [])
unfolding RiseFrom
rise_push low [] x h k all = (k, tt)
rise_push low (y ∷ ys) x h k all =
    let first : y < x = all y (Contains-first y ys) in
    (h.0, rise_push (y + 1) ys x h.1 (omega arith) (λ n has. all n (Contains-rest y n ys has)))

oldest_rise : (run : Run) → LinesRise run → RiseFrom 0 (oldest_first run)
unfolding oldest_first RiseFrom
oldest_rise [] h = tt
oldest_rise (m ∷ ms) h = rise_push 0 (oldest_first ms) m.line (oldest_rise ms h.1) (omega arith) (λ n has. below_all m.line ms n h.0 has)

-- a group stands at each of them, and at no other

there : (run : Run) (n : ℕ) → Contains (oldest_first run) n → IsSome (group_at n (groups_of_run run))
unfolding oldest_first
there [] n has = absurd (Contains-empty n has)
there (m ∷ ms) n has = by_test (nat_eq n m.line) refl (⊎_elim (λ rest. inl (there ms n rest)) inr (Contains-push_cases (oldest_first ms) m.line n has))
  where
    by_test : (b : Bool) → nat_eq n m.line ≡ b → (IsSome (group_at n (groups_of_run ms)) ⊎ (m.line ≡ n)) →
        IsSome (cond b (Some (group_of_moment m)) (group_at n (groups_of_run ms)))
    by_test true e h = refl
    by_test false e (inl some) = some
    by_test false e (inr same) = let yes : nat_eq n m.line ≡ true = eq-eqb n m.line (sym same) in absurd (cc (yes, e))

all : (run : Run) (n : ℕ) → IsSome (group_at n (groups_of_run run)) → Contains (oldest_first run) n
unfolding oldest_first
all [] n some = absurd (cc (some))
all (m ∷ ms) n some = by_test (nat_eq n m.line) refl some (all ms n)
  where
    by_test : (b : Bool) → nat_eq n m.line ≡ b → IsSome (cond b (Some (group_of_moment m)) (group_at n (groups_of_run ms))) →
        (IsSome (group_at n (groups_of_run ms)) → Contains (oldest_first ms) n) → Contains (oldest_first ms ++ m.line ∷ []) n
    by_test true e h rest = subst (λ k. Contains (oldest_first ms ++ k ∷ []) n) (eqb-true n m.line e) (Contains-push (oldest_first ms) n)
    by_test false e h rest = Contains-append_left (oldest_first ms) (m.line ∷ []) n (rest h)

-- so there is one order of them
pub one_order : (run : Run) (lines : List ℕ) → LinesRise run → AreLines (groups_of_run run) lines → (reverse lines ≡ lines_in run) × (length lines ≡ length run)
unfolding Within
one_order run lines h are =
    let same : lines ≡ oldest_first run =
    only_rise 0 lines (oldest_first run) (rise_from lines are.rise) (oldest_rise run h) (λ n has. all run n (are.there n has)) (λ n has. are.all n (there run n has)) in
    (ap reverse same ∙ reversed run, ap length same ∙ long run)

-- The run along them.

-- each moment, as it is heard
abbrev pub heard : Run → Run
heard run = map (λ m. moment_of (group_of_moment m)) run

along_rest : (m : Moment) (ms ns : Run) → All (λ n. n.line < m.line) ns → run_along (groups_of_run (m ∷ ms)) (lines_in ns) ≡ run_along (groups_of_run ms) (lines_in ns)
along_rest m ms [] h = refl
along_rest m ms (n ∷ ns) h =
    let less = All-head (λ n. n.line < m.line) n ns h in
    let other : nat_eq n.line m.line ≡ false = grind (arith, nat_tests) in
    ap (λ b. onto (option_map moment_of (cond b (Some (group_of_moment m)) (group_at n.line (groups_of_run ms)))) (run_along (groups_of_run (m ∷ ms)) (lines_in ns))) other
    ∙ ap (λ run. onto (option_map moment_of (group_at n.line (groups_of_run ms))) run) (along_rest m ms ns (All-tail (λ n. n.line < m.line) n ns h))

pub run_heard : (run : Run) → LinesRise run → run_along (groups_of_run run) (lines_in run) ≡ heard run
run_heard [] h = refl
run_heard (m ∷ ms) h =
    let same : nat_eq m.line m.line ≡ true = eq-eqb m.line m.line refl in
    ap (λ b. onto (option_map moment_of (cond b (Some (group_of_moment m)) (group_at m.line (groups_of_run ms)))) (run_along (groups_of_run (m ∷ ms)) (lines_in ms))) same
    ∙ ap (λ run. moment_of (group_of_moment m) ∷ run) (along_rest m ms ms h.0 ∙ run_heard ms h.1)
