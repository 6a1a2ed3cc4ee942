-- How long the pieces of a line are, and that none has a line feed.
use Rattle.std.proofs.Common.{◌≡◌, ℕ, zero, suc, ◌+◌, ◌*◌, ◌-◌, ◌≤◌, ◌<◌, ◌^◌, ◌/◌, ◌%◌, Bool, true, false, cond, not, List, [], ◌∷◌, ◌++◌, length, map, Option, Some, None, ⊎_elim, arith, refl, ap, ◌∙◌}
use Rattle.std.specs.Prelude.{◌==◌, All, codes, decimal, nat_le, nat_lt}
use Rattle.std.specs.Fmt.{digits}
use Rattle.std.specs.Int.Digits.{digits_of}
use Rattle.std.specs.List.{flat_map}
use Rattle.std.proofs.lemmas.Bool.{and_from, and_parts, leb-true}
use Rattle.std.proofs.lemmas.Bool.Decides.{nat_tests}
use Rattle.std.proofs.lemmas.Fmt.{decimal-digits_of, length-decimal-le}
use Rattle.std.proofs.lemmas.List.{length-append}
use Rattle.std.proofs.lemmas.List.Elements.{All-cons, All-head, All-nil, All-tail}
use Rattle.std.proofs.lemmas.List.Folds.{list_all-append}
use Rattle.fabric_terms.specs.Ranges.{AreRanges, IsEpoch, IsOptional, IsPartition, IsWho, IsWord}
use Rattle.ring_points.specs.declared.interval.Interval.{Interval}
use Rattle.ring_points.specs.declared.unit.Epoch.{Epoch}
use Rattle.ring_points.specs.declared.who.Who.{Who}
use Rattle.ring_points.specs.Ranges.{fits, rises_from}
use Rattle.ring_points.specs.Whos.{arbiter_actor}
use Rattle.text_fields.specs.Epochs.{epoch_text}
use Rattle.text_fields.specs.Instances.{who_text}
use Rattle.text_fields.specs.Intervals.{interval_text, ranges_text}
use Rattle.text_fields.specs.Numbers.{optional_text}
use Rattle.text_fields.specs.Points.{hex_digit, hex_text, point_text}
use Rattle.text_fields.specs.Texts.{listed}
use Rattle.trace_audit.proofs.Lines.{inked}

-- a text of at most so many bytes, with no line feed
pub record Piece (most : ℕ) (text : List ℕ) : Type 0 where
  pub few : length text ≤ most
  pub ink : inked text ≡ true

-- words that are written out
pub literal : (text : List ℕ) → inked text ≡ true → Piece (length text) text
literal text h = record { few = omega arith; ink = h }

pub joined : {m n : ℕ} (a b : List ℕ) → Piece m a → Piece n b → Piece (m + n) (a ++ b)
joined a b h k = record {
  few = (let long = length-append a b in let first = h.few in let second = k.few in omega arith);
  ink = list_all-append (λ (b : ℕ). not (b == 10)) a b ∙ and_from (inked a) (inked b) h.ink k.ink;
}

pub longer : {m : ℕ} (n : ℕ) (text : List ℕ) → m ≤ n → Piece m text → Piece n text
longer n text h k = record { few = (let few = k.few in omega arith); ink = k.ink }

-- by computing
pub within : {m : ℕ} (n : ℕ) (text : List ℕ) → nat_le m n ≡ true → Piece m text → Piece n text
within {m} n text h k = longer n text (leb-true m n h) k

-- Numbers.

ink_digits : (ds : List ℕ) → inked (map (λ d. 48 + d) ds) ≡ true
ink_digits [] = refl
ink_digits (d ∷ ds) = let one : (48 + d == 10) ≡ false = grind (arith, nat_tests) in rw one (ink_digits ds)

zero_text : decimal 0 ≡ codes "0"
unfolding digits
zero_text = refl

pub number_piece : (n : ℕ) → n < 2 ^ 64 → Piece 20 (decimal n)
number_piece zero h = record { few = length-decimal-le 20 0 (omega arith) (omega arith) h; ink = ap inked zero_text }
number_piece (suc n) h = record {
  few = length-decimal-le 20 (suc n) (omega arith) (omega arith) h;
  ink = ap inked (decimal-digits_of (suc n) (omega arith) h) ∙ ink_digits (digits_of 10 (suc n));
}

pub optional_piece : (o : Option ℕ) → IsOptional o → Piece 20 (optional_text o)
optional_piece None h = within 20 (codes "-") refl (literal (codes "-") refl)
optional_piece (Some n) h = number_piece n h

pub word_piece : (n : ℕ) → IsWord n → Piece 20 (decimal n)
word_piece n h = number_piece n (omega arith)

-- Names.

pub who_piece : (w : Who) → IsWho w → Piece 41 (who_text w)
who_piece w h = by_kind (nat_lt (arbiter_actor 0) w.actor) (⊎_elim (λ node. (omega (arith, node.0.1), omega (arith, node.2))) (λ arbiter. (omega (arith, arbiter.0.1), omega (arith, arbiter.1))) h)
  where
    by_kind : (b : Bool) → (w.actor < 2 ^ 64) × (w.instance < 2 ^ 64) →
        Piece 41 (cond b (codes "a" ++ decimal (w.actor - arbiter_actor 0)) (decimal w.actor ++ (codes "." ++ decimal w.instance)))
    by_kind true k =
        let first = k.0 in
        within 41 _ refl (joined (codes "a") (decimal (w.actor - arbiter_actor 0)) (literal (codes "a") refl) (number_piece (w.actor - arbiter_actor 0) (omega arith)))
    by_kind false k =
        within 41 _ refl (joined (decimal w.actor) (codes "." ++ decimal w.instance) (number_piece w.actor k.0)
        (joined (codes ".") (decimal w.instance) (literal (codes ".") refl) (number_piece w.instance k.1)))

pub epoch_piece : (e : Epoch) → IsEpoch e → Piece 41 (epoch_text e)
epoch_piece e h =
    within 41 _ refl (joined (decimal e.data_loss) (codes "." ++ decimal e.configuration) (word_piece e.data_loss h.0)
    (joined (codes ".") (decimal e.configuration) (literal (codes ".") refl) (word_piece e.configuration h.1)))

pub partition_piece : (p : ℕ) → IsPartition p → Piece 5 (decimal p)
partition_piece p h = record { few = length-decimal-le 5 p (omega arith) (omega arith) (omega arith); ink = (number_piece p (omega arith)).ink }

-- Points and ranges.

digit_ink : (d : ℕ) → (hex_digit d == 10) ≡ false
digit_ink d = by_test (nat_lt d 10)
  where
    by_test : (b : Bool) → (cond b (48 + d) (87 + d) == 10) ≡ false
    by_test true = grind (arith, nat_tests)
    by_test false = grind (arith, nat_tests)

hex_piece : (k n : ℕ) → Piece k (hex_text k n)
hex_piece zero n = record { few = omega arith; ink = refl }
hex_piece (suc k) n =
    let last : Piece 1 (hex_digit (n % 16) ∷ []) = record { few = omega arith; ink = rw (digit_ink (n % 16)) refl } in
    longer (suc k) _ (omega arith) (joined (hex_text k (n / 16)) (hex_digit (n % 16) ∷ []) (hex_piece k (n / 16)) last)

pub point_piece : (p : ℕ) → Piece 16 (point_text p)
unfolding point_text
point_piece p = hex_piece 16 p

pub interval_piece : (i : Interval) → Piece 33 (interval_text i)
interval_piece i =
    within 33 _ refl (joined (point_text i.lo) (codes "-" ++ point_text i.hi) (point_piece i.lo)
    (joined (codes "-") (point_text i.hi) (literal (codes "-") refl) (point_piece i.hi)))

-- Lists.

-- so much, and a comma, for each
abbrev pub total : {A : Type 0} → ℕ → List A → ℕ
total k [] = 0
total k (x ∷ xs) = k + 1 + total k xs

more_piece : {A : Type 0} (text : A → List ℕ) (k : ℕ) (xs : List A) → All (λ y. Piece k (text y)) xs → Piece (total k xs) (flat_map (λ y. codes "," ++ text y) xs)
more_piece text k [] h = record { few = omega arith; ink = refl }
more_piece text k (x ∷ xs) h =
    let one : Piece (1 + k) (codes "," ++ text x) = joined (codes ",") (text x) (literal (codes ",") refl) (All-head (λ y. Piece k (text y)) x xs h) in
    longer (total k (x ∷ xs)) _ (omega arith)
    (joined (codes "," ++ text x) (flat_map (λ y. codes "," ++ text y) xs) one (more_piece text k xs (All-tail (λ y. Piece k (text y)) x xs h)))

pub list_piece : {A : Type 0} (text : A → List ℕ) (k : ℕ) (xs : List A) → All (λ y. Piece k (text y)) xs → Piece (total k xs + 1) (listed text xs)
list_piece text k [] h = within 1 (codes "-") refl (literal (codes "-") refl)
list_piece text k (x ∷ xs) h =
    longer (total k (x ∷ xs) + 1) _ (omega arith)
    (joined (text x) (flat_map (λ y. codes "," ++ text y) xs) (All-head (λ y. Piece k (text y)) x xs h) (more_piece text k xs (All-tail (λ y. Piece k (text y)) x xs h)))

pub total_fives : {A : Type 0} (xs : List A) → total 5 xs ≤ 6 * length xs
total_fives [] = omega arith
total_fives (x ∷ xs) = let rest = total_fives xs in omega arith

pub total_intervals : {A : Type 0} (xs : List A) → total 33 xs ≤ 34 * length xs
total_intervals [] = omega arith
total_intervals (x ∷ xs) = let rest = total_intervals xs in omega arith

pub total_names : {A : Type 0} (xs : List A) → total 64 xs ≤ 65 * length xs
total_names [] = omega arith
total_names (x ∷ xs) = let rest = total_names xs in omega arith

all_intervals : (is : List Interval) → All (λ i. Piece 33 (interval_text i)) is
all_intervals [] = All-nil (λ i. Piece 33 (interval_text i))
all_intervals (i ∷ is) = All-cons (λ i. Piece 33 (interval_text i)) i is (interval_piece i) (all_intervals is)

pub ranges_piece : (ranges : List Interval) → AreRanges ranges → Piece 1089 (ranges_text ranges)
ranges_piece ranges h =
    let few = leb-true (length ranges) 32 (and_parts (fits ranges) (rises_from 0 ranges) h).0 in
    let long = total_intervals ranges in
    longer 1089 (ranges_text ranges) (omega arith) (list_piece interval_text 33 ranges (all_intervals ranges))
