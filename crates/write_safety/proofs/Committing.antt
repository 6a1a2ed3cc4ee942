-- What a commit makes of a book.
use Rattle.std.proofs.Common.{◌≡◌, ℕ, true, false, cond, ◌&&◌, ◌==◌, List, [], ◌∷◌, ◌++◌, length, get_or, set, refl, sym, ap, ◌∙◌, arith}
use Rattle.std.specs.List.{All, insert}
use Rattle.std.proofs.lemmas.Bool.{eqb-true, and_parts, lt-ltb}
use Rattle.std.proofs.lemmas.Bool.Decides.{nat_tests}
use Rattle.std.proofs.lemmas.List.Elements.{All-weaker}
use Rattle.replica_core.specs.declared.entry.Entry.{Entry}
use Rattle.write_safety.specs.Books.{Commits, KeptLog, comes_before, entries_of, is_of, logs_rise, longer, precedes, with_entries}
use Rattle.write_safety.specs.Places.{IsAt, IsGap}
use Rattle.write_safety.proofs.Lookups.{IsOther, entries_behind, entries_here, entries_more, entries_none, rise_changed, rise_more}
use Rattle.write_safety.proofs.Orders.{before_differs, behind_differs, key_itself}

-- Where nothing is kept, all that is committed is.
longer_than_none : (es : List Entry) → longer es [] ≡ es
longer_than_none [] = refl
longer_than_none (e ∷ es) = ap (λ b. cond b (e ∷ es) []) (lt-ltb 0 (length (e ∷ es)) (omega arith))

-- At a place of a list that is put together.

insert_at : {A : Type 0} (front back : List A) (x : A) → insert (front ++ back) (length front) x ≡ front ++ (x ∷ back)
insert_at [] back x = refl
insert_at (y ∷ ys) back x = ap (λ t. y ∷ t) (insert_at ys back x)

get_at : {A : Type 0} (front : List A) (y : A) (back : List A) (d : A) → get_or (front ++ (y ∷ back)) (length front) d ≡ y
get_at [] y back d = refl
get_at (x ∷ xs) y back d = get_at xs y back d

set_at : {A : Type 0} (front : List A) (y : A) (back : List A) (x : A) → set (front ++ (y ∷ back)) (length front) x ≡ front ++ (x ∷ back)
set_at [] y back x = refl
set_at (z ∷ zs) y back x = ap (λ t. z ∷ t) (set_at zs y back x)

-- the others of these numbers are others of its
other_key : (p d q e : ℕ) (l : KeptLog) → is_of p d l ≡ true → (q == p && e == d) ≡ false → IsOther q e l
other_key p d q e l is other =
    let both = and_parts (l.partition == p) (l.data_loss == d) is in
    let same_p : l.partition ≡ p = eqb-true l.partition p both.0 in
    let same_d : l.data_loss ≡ d = eqb-true l.data_loss d both.1 in
    grind (arith, nat_tests)

module _ (p d : ℕ) (committed : List Entry) (old : List KeptLog) (place : ℕ) where
  module _ (gap : IsGap p d old place) where
    abbrev begun : KeptLog
    begun = record { partition = p; data_loss = d; entries = committed }

    inserted : insert old place begun ≡ gap.front ++ (begun ∷ gap.back)
    inserted = ap (λ ls. insert ls place begun) gap.split
        ∙ (ap (λ i. insert (gap.front ++ gap.back) i begun) (sym gap.here) ∙ insert_at gap.front gap.back begun)

    others_before : All (IsOther p d) gap.front
    others_before = All-weaker (λ l. comes_before p d l ≡ true) (IsOther p d) (λ l h. before_differs l.partition l.data_loss p d h) gap.front gap.below

    others_behind : All (IsOther p d) gap.back
    others_behind =
        All-weaker (λ l. precedes p d l.partition l.data_loss ≡ true) (IsOther p d) (λ l h. behind_differs p d l.partition l.data_loss h) gap.back gap.above

    pub none_kept : entries_of p d old ≡ []
    none_kept = ap (entries_of p d) gap.split ∙ (entries_behind p d gap.front gap.back others_before ∙ entries_none p d gap.back others_behind)

    pub gap_commits : Commits p d committed old (insert old place begun)
    gap_commits = record {
      here = ap (entries_of p d) inserted
          ∙ (entries_behind p d gap.front (begun ∷ gap.back) others_before
          ∙ (entries_here p d begun gap.back (key_itself p d) ∙ (sym (longer_than_none committed) ∙ ap (longer committed) (sym none_kept))));
      others = λ q e other.
          ap (entries_of q e) inserted
          ∙ (entries_more q e gap.front begun gap.back (other_key p d q e begun (key_itself p d) other) ∙ ap (entries_of q e) (sym gap.split));
    }

    pub gap_rises : logs_rise old ≡ true → logs_rise (insert old place begun) ≡ true
    gap_rises rise =
        ap logs_rise inserted ∙ rise_more p d gap.front begun gap.back refl refl gap.below gap.above (ap logs_rise (sym gap.split) ∙ rise)

  module _ (here : IsAt p d old place) where
    pub kept_here : entries_of p d old ≡ here.log.entries
    kept_here = ap (entries_of p d) here.split
        ∙ (entries_behind p d here.front (here.log ∷ here.back) here.others ∙ entries_here p d here.log here.back here.is)

    -- the list that stands at the place
    pub log_at : (l : KeptLog) → l ≡ get_or old place l → l ≡ here.log
    log_at l at =
        at ∙ (ap (λ ls. get_or ls place l) here.split
        ∙ (ap (λ i. get_or (here.front ++ (here.log ∷ here.back)) i l) (sym here.here) ∙ get_at here.front here.log here.back l))

    changed : (m : KeptLog) → set old place m ≡ here.front ++ (m ∷ here.back)
    changed m = ap (λ ls. set ls place m) here.split
        ∙ (ap (λ i. set (here.front ++ (here.log ∷ here.back)) i m) (sym here.here) ∙ set_at here.front here.log here.back m)

    pub at_others : (m : KeptLog) → is_of p d m ≡ true → (q e : ℕ) → (q == p && e == d) ≡ false → entries_of q e (set old place m) ≡ entries_of q e old
    at_others m is q e other =
        ap (entries_of q e) (changed m)
        ∙ (entries_more q e here.front m here.back (other_key p d q e m is other)
        ∙ (sym (entries_more q e here.front here.log here.back (other_key p d q e here.log here.is other)) ∙ ap (entries_of q e) (sym here.split)))

    pub at_commits : (m : KeptLog) → m ≡ with_entries (longer committed here.log.entries) here.log → Commits p d committed old (set old place m)
    at_commits m is = record {
      here = ap (entries_of p d) (changed m)
          ∙ (entries_behind p d here.front (m ∷ here.back) here.others
          ∙ (entries_here p d m here.back (ap (is_of p d) is ∙ here.is)
          ∙ (ap (λ (l : KeptLog). l.entries) is ∙ ap (longer committed) (sym kept_here))));
      others = at_others m (ap (is_of p d) is ∙ here.is);
    }

    pub at_rises : (m : KeptLog) → m.partition ≡ here.log.partition → m.data_loss ≡ here.log.data_loss → logs_rise old ≡ true →
        logs_rise (set old place m) ≡ true
    at_rises m same_p same_d rise =
        ap logs_rise (changed m) ∙ (rise_changed here.front here.log m here.back same_p same_d ∙ (ap logs_rise (sym here.split) ∙ rise))
