-- Numbers one after the other, and what is made of them.
use Rattle.std.proofs.Common.{◌≡◌, ℕ, ◌+◌, ◌-◌, ◌≤◌, ◌<◌, zero, suc, List, [], ◌∷◌, ◌++◌, length, get_or, map, All, refl, ap, sym, ◌∙◌, arith, append_assoc}
use Rattle.std.specs.List.{flat_map}
use Rattle.std.proofs.lemmas.List.{append-nil, map-append}
use Rattle.std.proofs.lemmas.List.Elements.{All-nil, All-cons, All-map, All-append, All-head, All-tail}
use Rattle.fabric_terms.specs.Ranges.{Fits}
use Rattle.fabric_terms.specs.declared.event.Event.{Event}
use Rattle.schedule_generate.specs.Course.{arbiter_starts, asks_first, node_starts, opening}
use Rattle.schedule_generate.specs.Due.{ShowsTime}
use Rattle.schedule_generate.specs.Moves.{event_for, events_for}
use Rattle.schedule_generate.specs.Settings.{node_behind, numbers_from}
use Rattle.schedule_generate.specs.declared.moves.Move.{Move}

pub numbers_more : (first k : ℕ) → numbers_from first (suc k) ≡ numbers_from first k ++ (first + k) ∷ []
numbers_more first zero = let e : first ≡ first + 0 = omega arith in ap (λ x. x ∷ []) e
numbers_more first (suc k) =
    let e : first + 1 + k ≡ first + suc k = omega arith in
    ap (λ xs. first ∷ xs) (numbers_more (first + 1) k ∙ ap (λ x. numbers_from (first + 1) k ++ x ∷ []) e)

map_more : {B : Type 0} (f : ℕ → B) (first k : ℕ) → map f (numbers_from first (suc k)) ≡ map f (numbers_from first k) ++ f (first + k) ∷ []
map_more f first k = ap (map f) (numbers_more first k) ∙ map-append f (numbers_from first k) ((first + k) ∷ [])

-- one more move is made
pub pushed : (moves : List Move) (m : Move) (before : List Event) (f : ℕ → Event) (first k next : ℕ) → event_for m ≡ f (first + k) → next ≡ suc k
    → events_for moves ≡ before ++ map f (numbers_from first k) → events_for (moves ++ m ∷ []) ≡ before ++ map f (numbers_from first next)
pushed moves m before f first k next made is old =
    map-append event_for moves (m ∷ [])
    ∙ (ap (λ es. es ++ event_for m ∷ []) old
    ∙ (append_assoc before (map f (numbers_from first k)) (event_for m ∷ [])
    ∙ ap (λ es. before ++ es) (ap (λ e. map f (numbers_from first k) ++ e ∷ []) made ∙ sym (map_more f first k) ∙ ap (λ j. map f (numbers_from first j)) (sym is))))

flat_more : (f : ℕ → List ℕ) (xs : List ℕ) (x : ℕ) → flat_map f (xs ++ x ∷ []) ≡ flat_map f xs ++ f x
flat_more f [] x = append-nil (f x)
flat_more f (y ∷ xs) x = ap (λ t. f y ++ t) (flat_more f xs x) ∙ sym (append_assoc (f y) (flat_map f xs) (f x))

-- one more node is written
pub node_more : (k next : ℕ) → next ≡ suc k → flat_map node_behind (numbers_from 2 next) ≡ flat_map node_behind (numbers_from 2 k) ++ node_behind (k + 2)
node_more k next is =
    let e : 2 + k ≡ k + 2 = omega arith in
    ap (λ j. flat_map node_behind (numbers_from 2 j)) is
    ∙ (ap (flat_map node_behind) (numbers_more 2 k)
    ∙ (flat_more node_behind (numbers_from 2 k) (2 + k) ∙ ap (λ j. flat_map node_behind (numbers_from 2 k) ++ node_behind j) e))

-- of each of the numbers
pub numbers_all : (P : ℕ → Type 0) (first m : ℕ) → ((k : ℕ) → first ≤ k → k < first + m → P k) → All P (numbers_from first m)
numbers_all P first zero f = All-nil P
numbers_all P first (suc m) f =
    All-cons P first (numbers_from (first + 1) m) (f first (omega arith) (omega arith)) (numbers_all P (first + 1) m (λ k low high. f k (omega arith) (omega arith)))

pub opening_fits : (n : ℕ) → 1 ≤ n → n ≤ 16 → All Fits (opening n)
opening_fits n some few =
    All-append Fits (map arbiter_starts (numbers_from 1 3)) (map node_starts (numbers_from 1 n) ++ map asks_first (numbers_from 2 (n - 1)))
    (All-map Fits arbiter_starts (numbers_from 1 3) (numbers_all (λ k. Fits (arbiter_starts k)) 1 3 (λ k low high. (omega arith, omega arith))))
    (All-append Fits (map node_starts (numbers_from 1 n)) (map asks_first (numbers_from 2 (n - 1)))
    (All-map Fits node_starts (numbers_from 1 n) (numbers_all (λ k. Fits (node_starts k)) 1 n (λ k low high. ((low, omega arith), omega arith))))
    (All-map Fits asks_first (numbers_from 2 (n - 1)) (numbers_all (λ k. Fits (asks_first k)) 2 (n - 1) (λ k low high. ((omega arith, omega arith), (omega arith, omega arith))))))

pub opening_shows : (n : ℕ) → All (ShowsTime 0) (opening n)
opening_shows n =
    All-append (ShowsTime 0) (map arbiter_starts (numbers_from 1 3)) (map node_starts (numbers_from 1 n) ++ map asks_first (numbers_from 2 (n - 1)))
    (All-map (ShowsTime 0) arbiter_starts (numbers_from 1 3) (numbers_all (λ k. ShowsTime 0 (arbiter_starts k)) 1 3 (λ k low high. tt)))
    (All-append (ShowsTime 0) (map node_starts (numbers_from 1 n)) (map asks_first (numbers_from 2 (n - 1)))
    (All-map (ShowsTime 0) node_starts (numbers_from 1 n) (numbers_all (λ k. ShowsTime 0 (node_starts k)) 1 n (λ k low high. refl)))
    (All-map (ShowsTime 0) asks_first (numbers_from 2 (n - 1)) (numbers_all (λ k. ShowsTime 0 (asks_first k)) 2 (n - 1) (λ k low high. tt))))

-- one of these moves
pub holds_at : (P : Event → Type 0) (moves : List Move) (k : ℕ) (d : Move) → All P (events_for moves) → k < length moves → P (event_for (get_or moves k d))
holds_at P [] k d all lt = absurd (omega arith)
holds_at P (m ∷ moves) zero d all lt = All-head P (event_for m) (events_for moves) all
holds_at P (m ∷ moves) (suc k) d all lt = holds_at P moves k d (All-tail P (event_for m) (events_for moves) all) (omega arith)
