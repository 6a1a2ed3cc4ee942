-- What a book has after one of its lists is changed, and after one is added.
use Rattle.std.proofs.Common.{◌≡◌, ℕ, Bool, true, false, cond, ◌&&◌, List, [], ◌∷◌, ◌++◌, refl, sym, ap, ◌∙◌, subst}
use Rattle.std.specs.List.{All, list_all}
use Rattle.std.proofs.lemmas.Bool.{and_from, and_parts}
use Rattle.std.proofs.lemmas.List.Elements.{All-head, All-tail}
use Rattle.write_safety.specs.Books.{KeptLog, comes_before, entries_of, is_of, logs_rise, precedes}

abbrev pub IsOther : ℕ → ℕ → KeptLog → Type 0
IsOther p d l = is_of p d l ≡ false

-- behind lists of others
pub entries_behind : (p d : ℕ) (front rest : List KeptLog) → All (IsOther p d) front → entries_of p d (front ++ rest) ≡ entries_of p d rest
entries_behind p d [] rest others = refl
entries_behind p d (l ∷ ls) rest others =
    ap (λ b. cond b l.entries (entries_of p d (ls ++ rest))) (All-head (IsOther p d) l ls others)
    ∙ entries_behind p d ls rest (All-tail (IsOther p d) l ls others)

pub entries_none : (p d : ℕ) (ls : List KeptLog) → All (IsOther p d) ls → entries_of p d ls ≡ []
entries_none p d [] others = refl
entries_none p d (l ∷ ls) others =
    ap (λ b. cond b l.entries (entries_of p d ls)) (All-head (IsOther p d) l ls others) ∙ entries_none p d ls (All-tail (IsOther p d) l ls others)

pub entries_here : (p d : ℕ) (l : KeptLog) (back : List KeptLog) → is_of p d l ≡ true → entries_of p d (l ∷ back) ≡ l.entries
entries_here p d l back is = ap (λ b. cond b l.entries (entries_of p d back)) is

-- one that is of others makes no difference
pub entries_more : (p d : ℕ) (front : List KeptLog) (l : KeptLog) (back : List KeptLog) → IsOther p d l →
    entries_of p d (front ++ (l ∷ back)) ≡ entries_of p d (front ++ back)
entries_more p d [] l back other = ap (λ b. cond b l.entries (entries_of p d back)) other
entries_more p d (x ∷ xs) l back other = ap (λ es. cond (is_of p d x) x.entries es) (entries_more p d xs l back other)

-- rising

abbrev before : KeptLog → KeptLog → Bool
before l m = precedes l.partition l.data_loss m.partition m.data_loss

pub all_true : {A : Type 0} (f : A → Bool) (xs : List A) → All (λ x. f x ≡ true) xs → list_all f xs ≡ true
all_true f [] h = refl
all_true f (x ∷ xs) h = and_from (f x) (list_all f xs) (All-head (λ x. f x ≡ true) x xs h) (all_true f xs (All-tail (λ x. f x ≡ true) x xs h))

all_more : {A : Type 0} (f : A → Bool) (xs : List A) (n : A) (ys : List A) → list_all f (xs ++ ys) ≡ true → f n ≡ true → list_all f (xs ++ (n ∷ ys)) ≡ true
all_more f [] n ys h k = and_from (f n) (list_all f ys) k h
all_more f (x ∷ xs) n ys h k =
    let parts = and_parts (f x) (list_all f (xs ++ ys)) h in and_from (f x) (list_all f (xs ++ (n ∷ ys))) parts.0 (all_more f xs n ys parts.1 k)

pub rise_more : (p d : ℕ) (front : List KeptLog) (n : KeptLog) (back : List KeptLog) → n.partition ≡ p → n.data_loss ≡ d →
    All (λ l. comes_before p d l ≡ true) front → All (λ l. precedes p d l.partition l.data_loss ≡ true) back → logs_rise (front ++ back) ≡ true →
    logs_rise (front ++ (n ∷ back)) ≡ true
rise_more p d [] n back is_p is_d below above rise =
    let after : All (λ l. before n l ≡ true) back =
    subst (λ q. All (λ l. precedes q n.data_loss l.partition l.data_loss ≡ true) back) (sym is_p)
    (subst (λ e. All (λ l. precedes p e l.partition l.data_loss ≡ true) back) (sym is_d) above) in
    and_from (list_all (before n) back) (logs_rise back) (all_true (before n) back after) rise
rise_more p d (x ∷ xs) n back is_p is_d below above rise =
    let parts = and_parts (list_all (before x) (xs ++ back)) (logs_rise (xs ++ back)) rise in
    let first : before x n ≡ true =
    subst (λ q. precedes x.partition x.data_loss q n.data_loss ≡ true) (sym is_p)
    (subst (λ e. precedes x.partition x.data_loss p e ≡ true) (sym is_d) (All-head (λ l. comes_before p d l ≡ true) x xs below)) in
    and_from (list_all (before x) (xs ++ (n ∷ back))) (logs_rise (xs ++ (n ∷ back))) (all_more (before x) xs n back parts.0 first)
    (rise_more p d xs n back is_p is_d (All-tail (λ l. comes_before p d l ≡ true) x xs below) above parts.1)

-- one that has other entries, of the same partition and data loss number

all_changed : (x l m : KeptLog) (xs back : List KeptLog) → m.partition ≡ l.partition → m.data_loss ≡ l.data_loss →
    list_all (before x) (xs ++ (m ∷ back)) ≡ list_all (before x) (xs ++ (l ∷ back))
all_changed x l m [] back same_p same_d =
    ap (λ q. precedes x.partition x.data_loss q m.data_loss && list_all (before x) back) same_p
    ∙ ap (λ e. precedes x.partition x.data_loss l.partition e && list_all (before x) back) same_d
all_changed x l m (y ∷ ys) back same_p same_d = ap (λ b. before x y && b) (all_changed x l m ys back same_p same_d)

pub rise_changed : (front : List KeptLog) (l m : KeptLog) (back : List KeptLog) → m.partition ≡ l.partition → m.data_loss ≡ l.data_loss →
    logs_rise (front ++ (m ∷ back)) ≡ logs_rise (front ++ (l ∷ back))
rise_changed [] l m back same_p same_d =
    ap (λ q. list_all (λ n. precedes q m.data_loss n.partition n.data_loss) back && logs_rise back) same_p
    ∙ ap (λ e. list_all (λ n. precedes l.partition e n.partition n.data_loss) back && logs_rise back) same_d
rise_changed (x ∷ xs) l m back same_p same_d =
    ap (λ b. b && logs_rise (xs ++ (m ∷ back))) (all_changed x l m xs back same_p same_d)
    ∙ ap (λ b. list_all (before x) (xs ++ (l ∷ back)) && b) (rise_changed xs l m back same_p same_d)
