-- What lists of records are.
use Rattle.std.proofs.Common.{◌≡◌, ℕ, zero, suc, List, [], ◌∷◌, ◌++◌, map, refl, sym, ap, ◌∙◌, subst}
use Rattle.std.specs.Prelude.{◌&&◌}
use Rattle.std.proofs.lemmas.Bool.{and_parts, and_from}
use Rattle.fabric_terms.specs.declared.record.Record.{Record}
use Rattle.keep_log.specs.Amounts.{Amount, nothing, with_record}
use Rattle.keep_log.specs.Spellings.{is_sound, spelling}
use Rattle.keep_log.specs.Places.{Stands, Follows, IsBadAfter, is_next, stand_in_place}
use Rattle.keep_log.specs.Laws.{FrontsAreGood, AllDecided}
use Rattle.keep_log.proofs.Spelled.{one_spelling}

-- a list that begins with a record, and what follows it
pub follows_more : (before : Amount) (r : Record) (bytes : List ℕ) (rest : List (List ℕ)) (rs : List Record)
    → Stands before r bytes → Follows (with_record before r) rest rs → Follows before (bytes ∷ rest) (r ∷ rs)
follows_more before r bytes rest rs s f = record {
  spelled = ap (λ b. b ∷ rest) s.spelled ∙ ap (λ l. spelling r ∷ l) f.spelled;
  in_place =
      and_from (is_sound r && is_next before r) (stand_in_place (with_record before r) rs)
      (and_from (is_sound r) (is_next before r) s.sound s.next) f.in_place;
}

heads : (x y : List ℕ) (xs ys : List (List ℕ)) → x ∷ xs ≡ y ∷ ys → (x ≡ y) × (xs ≡ ys)
heads x y xs ys e = let a : x ≡ y = cc in let b : xs ≡ ys = cc in (a, b)

pub follows_parts : (before : Amount) (r : Record) (bytes : List ℕ) (rest : List (List ℕ)) (rs : List Record)
    → Follows before (bytes ∷ rest) (r ∷ rs) → Stands before r bytes × Follows (with_record before r) rest rs
follows_parts before r bytes rest rs f =
    let h = heads bytes (spelling r) rest (map spelling rs) f.spelled in
    let p = and_parts (is_sound r && is_next before r) (stand_in_place (with_record before r) rs) f.in_place in
    let q = and_parts (is_sound r) (is_next before r) p.0 in
    (record { sound = q.0; next = q.1; spelled = h.0 }, record { spelled = h.1; in_place = p.1 })

pub follows_none : (before : Amount) → Follows before [] []
follows_none before = record { spelled = refl; in_place = refl }

front : (before : Amount) (xs ys : List (List ℕ)) (rs : List Record) → Follows before (xs ++ ys) rs → (fs : List Record) × Follows before xs fs
front before [] ys rs f = ([], follows_none before)
front before (bytes ∷ xs) ys [] f = let e = f.spelled in absurd (cc)
front before (bytes ∷ xs) ys (r ∷ rs) f =
    let p = follows_parts before r bytes (xs ++ ys) rs f in
    let q = front (with_record before r) xs ys rs p.1 in
    (r ∷ q.0, follows_more before r bytes xs q.0 p.0 q.1)

pub fronts_are_good : FrontsAreGood
fronts_are_good xs ys good = let p = front nothing xs ys good.records good.follows in record { records = p.0; follows = p.1 }

one_record : (kept : Amount) (bytes : List ℕ) (r s : Record) → Stands kept r bytes → Stands kept s bytes → r ≡ s
one_record kept bytes r s a b = one_spelling r s a.sound b.sound (sym a.spelled ∙ b.spelled)

one_list : (before : Amount) (lists : List (List ℕ)) (a b : List Record) → Follows before lists a → Follows before lists b → a ≡ b
one_list before [] [] [] f g = refl
one_list before [] (r ∷ rs) b f g = let e = f.spelled in absurd (cc)
one_list before [] [] (s ∷ ss) f g = let e = g.spelled in absurd (cc)
one_list before (bytes ∷ rest) [] b f g = let e = f.spelled in absurd (cc)
one_list before (bytes ∷ rest) (r ∷ rs) [] f g = let e = g.spelled in absurd (cc)
one_list before (bytes ∷ rest) (r ∷ rs) (s ∷ ss) f g =
    let p = follows_parts before r bytes rest rs f in
    let q = follows_parts before s bytes rest ss g in
    let same = one_record before bytes s r q.0 p.0 in
    let P : Record → Type 0 = λ x. Follows (with_record before x) rest ss in
    let behind = one_list (with_record before r) rest rs ss p.1 (subst P same q.1) in
    ap (λ l. r ∷ l) behind ∙ ap (λ x. x ∷ ss) (sym same)

not_both : (before : Amount) (lists : List (List ℕ)) (n : ℕ) (rs : List Record) → IsBadAfter before lists n → Follows before lists rs → ⊥
not_both before [] n rs bad f = bad
not_both before (bytes ∷ rest) n [] bad f = let e = f.spelled in absurd (cc)
not_both before (bytes ∷ rest) zero (r ∷ rs) bad f = bad r (follows_parts before r bytes rest rs f).0
not_both before (bytes ∷ rest) (suc n) (r ∷ rs) bad f =
    let p = follows_parts before r bytes rest rs f in
    let same = one_record before bytes bad.0 r bad.1.0 p.0 in
    let P : Record → Type 0 = λ x. IsBadAfter (with_record before x) rest n in
    not_both (with_record before r) rest n rs (subst P same bad.1.1) p.1

pub all_decided : AllDecided
all_decided lists = record {
  one = one_list nothing lists;
  bad = λ n bad good. not_both nothing lists n good.records bad good.follows;
}
