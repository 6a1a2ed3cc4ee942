-- What is found of a partition and data loss number, where those before it are parted from the rest.
use Rattle.std.proofs.Common.{◌≡◌, ℕ, ◌<◌, ◌≤◌, ◌+◌, zero, suc, Bool, true, false, List, [], ◌∷◌, ◌++◌, length, take, drop, get_or, refl, sym, ap, ◌∙◌, arith}
use Rattle.std.specs.List.{All, list_all}
use Rattle.std.specs.List.Sorted.{IsPartitionPoint, IsPartitionedBy}
use Rattle.std.proofs.lemmas.Bool.{and_parts}
use Rattle.std.proofs.lemmas.List.{length-take, length-drop, get_or-take, get_or-drop}
use Rattle.std.proofs.lemmas.List.Elements.{All-head, All-cons, All-nil, All-weaker}
use Rattle.write_safety.specs.Books.{KeptLog, comes_before, is_of, logs_rise, precedes}
use Rattle.write_safety.specs.Places.{Parts, IsAt, IsGap}
use Rattle.write_safety.proofs.Lookups.{IsOther}
use Rattle.write_safety.proofs.Orders.{before_differs, behind, precedes_on}

-- a list parted at one of its elements
pub parted_at : {A : Type 0} (xs : List A) (i : ℕ) (x : A) → i < length xs → xs ≡ take i xs ++ (get_or xs i x ∷ drop (suc i) xs)
parted_at [] i x h = absurd (omega arith)
parted_at (y ∷ ys) zero x h = refl
parted_at (y ∷ ys) (suc i) x h = ap (λ t. y ∷ t) (parted_at ys i x (omega arith))

pub parted : {A : Type 0} (xs : List A) (i : ℕ) → xs ≡ take i xs ++ drop i xs
parted [] zero = refl
parted [] (suc i) = refl
parted (y ∷ ys) zero = refl
parted (y ∷ ys) (suc i) = ap (λ t. y ∷ t) (parted ys i)

-- a rising list's later part rises
rise_drop : (ls : List KeptLog) (i : ℕ) → logs_rise ls ≡ true → logs_rise (drop i ls) ≡ true
rise_drop ls zero h = h
rise_drop [] (suc i) h = refl
rise_drop (l ∷ ls) (suc i) h = rise_drop ls i (and_parts (list_all (λ m. precedes l.partition l.data_loss m.partition m.data_loss) ls) (logs_rise ls) h).1

module _ (p d : ℕ) where
  abbrev After : KeptLog → Type 0
  After l = precedes p d l.partition l.data_loss ≡ true

  -- who comes behind one that comes behind comes behind
  all_after : (l : KeptLog) (ls : List KeptLog) → After l → list_all (λ m. precedes l.partition l.data_loss m.partition m.data_loss) ls ≡ true → All After ls
  all_after l [] after h = All-nil After
  all_after l (m ∷ ms) after h =
      let parts = and_parts (precedes l.partition l.data_loss m.partition m.data_loss) (list_all (λ m. precedes l.partition l.data_loss m.partition m.data_loss) ms) h in
      All-cons After m ms (precedes_on p d l.partition l.data_loss m.partition m.data_loss after parts.0) (all_after l ms after parts.1)

  -- the first of these, if there is one, is of others
  abbrev IsFirstOther : List KeptLog → Type 0
  IsFirstOther [] = Unit {0}
  IsFirstOther (l ∷ ls) = IsOther p d l

  above_after : (ls : List KeptLog) → logs_rise ls ≡ true → All (λ l. comes_before p d l ≡ false) ls → IsFirstOther ls → All After ls
  above_after [] rise above other = All-nil After
  above_after (l ∷ ls) rise above other =
      let parts = and_parts (list_all (λ m. precedes l.partition l.data_loss m.partition m.data_loss) ls) (logs_rise ls) rise in
      let first : After l = behind l.partition l.data_loss p d (All-head (λ l. comes_before p d l ≡ false) l ls above) other in
      All-cons After l ls first (all_after l ls first parts.0)

  first_other : (ls : List KeptLog) (i : ℕ) (x : KeptLog) → (i < length ls → IsOther p d (get_or ls i x)) → IsFirstOther (drop i ls)
  first_other [] zero x h = tt
  first_other [] (suc i) x h = tt
  first_other (l ∷ ls) zero x h = h (omega arith)
  first_other (l ∷ ls) (suc i) x h = first_other ls i x (λ lt. h (omega arith))

  none_first : (ls : List KeptLog) (i : ℕ) → length ls ≤ i → IsFirstOther (drop i ls)
  none_first [] zero le = tt
  none_first [] (suc i) le = tt
  none_first (l ∷ ls) zero le = absurd (omega arith)
  none_first (l ∷ ls) (suc i) le = none_first ls i (omega arith)

  module _ (logs : List KeptLog) (place : ℕ) (parts : Parts p d logs place) where
    pub found_at : (x : KeptLog) → place < length logs → x ≡ get_or logs place x → is_of p d x ≡ true → IsAt p d logs place
    found_at x lt at is = record {
      front = take place logs;
      log = get_or logs place x;
      back = drop (suc place) logs;
      split = parted_at logs place x lt;
      here = let le = parts.within in omega (arith, length-take place logs);
      is = ap (is_of p d) (sym at) ∙ is;
      others = All-weaker (λ l. comes_before p d l ≡ true) (IsOther p d)
          (λ l h. before_differs l.partition l.data_loss p d h) (take place logs) parts.below;
    }

    found_gap : logs_rise logs ≡ true → IsFirstOther (drop place logs) → IsGap p d logs place
    found_gap rise other = record {
      front = take place logs;
      back = drop place logs;
      split = parted logs place;
      here = let le = parts.within in omega (arith, length-take place logs);
      below = parts.below;
      above = above_after (drop place logs) (rise_drop logs place rise) parts.above other;
    }

    pub gap_at_other : (x : KeptLog) → logs_rise logs ≡ true → x ≡ get_or logs place x → is_of p d x ≡ false → IsGap p d logs place
    gap_at_other x rise at other = found_gap rise (first_other logs place x (λ lt. ap (is_of p d) (sym at) ∙ other))

    pub gap_at_end : logs_rise logs ≡ true → length logs ≤ place → IsGap p d logs place
    gap_at_end rise le = found_gap rise (none_first logs place le)

-- who comes before at a later place does so at each former one
all_at : {A : Type 0} (f : A → Bool) (xs : List A) (j : ℕ) (x : A) → list_all f xs ≡ true → j < length xs → f (get_or xs j x) ≡ true
all_at f [] j x h lt = absurd (omega arith)
all_at f (y ∷ ys) zero x h lt = (and_parts (f y) (list_all f ys) h).0
all_at f (y ∷ ys) (suc j) x h lt = all_at f ys j x (and_parts (f y) (list_all f ys) h).1 (omega arith)

pub rise_parted : (p d : ℕ) (logs : List KeptLog) → logs_rise logs ≡ true → IsPartitionedBy (comes_before p d) logs
rise_parted p d [] rise i j x le lt h = absurd (omega arith)
rise_parted p d (l ∷ ls) rise zero zero x le lt h = h
rise_parted p d (l ∷ ls) rise zero (suc j) x le lt h =
    let parts = and_parts (list_all (λ m. precedes l.partition l.data_loss m.partition m.data_loss) ls) (logs_rise ls) rise in
    let m : KeptLog = get_or ls j x in
    precedes_on l.partition l.data_loss m.partition m.data_loss p d
    (all_at (λ m. precedes l.partition l.data_loss m.partition m.data_loss) ls j x parts.0 (omega arith)) h
rise_parted p d (l ∷ ls) rise (suc i) zero x le lt h = absurd (omega arith)
rise_parted p d (l ∷ ls) rise (suc i) (suc j) x le lt h =
    rise_parted p d ls (and_parts (list_all (λ m. precedes l.partition l.data_loss m.partition m.data_loss) ls) (logs_rise ls) rise).1 i j x
    (omega arith) (omega arith) h

pub parts_at : (p d : ℕ) (logs : List KeptLog) (i : ℕ) → i ≤ length logs →
    IsPartitionPoint (λ l. comes_before p d l ≡ true) (λ l. comes_before p d l ≡ false) logs i → Parts p d logs i
parts_at p d logs i le point = record {
  within = le;
  below = λ k x lt.
      let fits : k < i = omega (arith, length-take i logs) in
      rw (get_or-take i logs k x) (point.0 k x (omega arith) fits);
  above = λ k x lt.
      let fits : i + k < length logs = omega (arith, length-drop i logs) in
      rw (get_or-drop i logs k x) (point.1 (i + k) x (omega arith) fits);
}
