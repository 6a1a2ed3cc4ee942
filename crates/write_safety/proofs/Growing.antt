-- What is committed with one more report.
use Rattle.std.proofs.Common.{◌≡◌, ◌<◌, ◌≤◌, Bool, true, false, cond, ◌||◌, List, [], ◌∷◌, ◌++◌, length, take, Option, Some, None, inl, inr, refl, sym, ap, ◌∙◌, subst, ⊎_elim, arith}
use Rattle.std.specs.Prelude.{nat_lt}
use Rattle.std.specs.List.{list_any}
use Rattle.std.proofs.lemmas.Bool.{cases_lt, lt-ltb, ltb-true, ltb-false, or_parts}
use Rattle.std.proofs.lemmas.List.{length-take, take-take, take_all}
use Rattle.fabric_lemmas.specs.Members.{IsMember}
use Rattle.replica_core.specs.declared.entry.Entry.{Entry}
use Rattle.write_safety.specs.Books.{Agree, longer}
use Rattle.write_safety.specs.Greatest.{Commit, entries_committed, entries_in, first_greatest, longest}

-- one more report is the first of the greatest where its number is above that of all others
abbrev greater_of : Option Commit → Commit → Commit
greater_of None k = k
greater_of (Some m) k = cond (nat_lt m.last k.last) k m

abbrev is_above : Commit → List Commit → Bool
is_above k ks = list_any (λ m. nat_lt k.last m.last) ks

-- the first of the greatest is among them, and none of them is above it
pub record IsGreatest (ks : List Commit) (g : Commit) : Type 0 where
  pub among : IsMember g ks
  pub greatest : (m : Commit) → IsMember m ks → m.last ≤ g.last

none_above : (k : Commit) (ks : List Commit) → is_above k ks ≡ false → (m : Commit) → IsMember m ks → m.last ≤ k.last
none_above k [] h m member = absurd member
none_above k (x ∷ xs) h m (inl e) =
    let le : x.last ≤ k.last = ltb-false k.last x.last (or_parts (nat_lt k.last x.last) (is_above k xs) h).0 in
    subst (λ (z : Commit). z.last ≤ k.last) (sym e) le
none_above k (x ∷ xs) h m (inr r) = none_above k xs (or_parts (nat_lt k.last x.last) (is_above k xs) h).1 m r

some_above : (k : Commit) (ks : List Commit) → is_above k ks ≡ true → (m : Commit) × IsMember m ks × (k.last < m.last)
some_above k [] h = absurd (cc (h))
some_above k (x ∷ xs) h = go (nat_lt k.last x.last) refl h (λ f. some_above k xs f)
  where
    go : (b : Bool) → nat_lt k.last x.last ≡ b → (b || is_above k xs) ≡ true →
        (is_above k xs ≡ true → (m : Commit) × IsMember m xs × (k.last < m.last)) → (m : Commit) × IsMember m (x ∷ xs) × (k.last < m.last)
    go true e f later = (x, inl refl, ltb-true k.last x.last e)
    go false e f later = let r = later f in (r.0, inr r.1, r.2)

-- there is one where there is any
abbrev FindsGreatest : List Commit → Option Commit → Type 0
FindsGreatest ks None = ks ≡ []
FindsGreatest ks (Some g) = IsGreatest ks g

pub greatest_found : (ks : List Commit) → FindsGreatest ks (first_greatest ks)
greatest_found [] = refl
greatest_found (k ∷ ks) = go (is_above k ks) refl (first_greatest ks) (greatest_found ks)
  where
    go : (b : Bool) → is_above k ks ≡ b → (o : Option Commit) → FindsGreatest ks o → FindsGreatest (k ∷ ks) (cond b o (Some k))
    go false h o found = record {
      among = inl refl;
      greatest = λ m member. ⊎_elim (λ e. subst (λ (z : Commit). z.last ≤ k.last) (sym e) (omega arith)) (λ r. none_above k ks h m r) member;
    }
    go true h None found = let r = some_above k ks h in absurd (subst (IsMember r.0) found r.1)
    go true h (Some g) found =
        let r = some_above k ks h in record {
          among = inr found.among;
          greatest = λ m member. ⊎_elim
              (λ e. let le = found.greatest r.0 r.1 in let lt = r.2 in subst (λ (z : Commit). z.last ≤ g.last) (sym e) (omega arith))
              (λ s. found.greatest m s) member;
        }

any_join : (k : Commit) (ks : List Commit) (n : Commit) → is_above k (ks ++ (n ∷ [])) ≡ (is_above k ks || nat_lt k.last n.last)
any_join k [] n = go (nat_lt k.last n.last)
  where
    go : (b : Bool) → (b || false) ≡ b
    go true = refl
    go false = refl
any_join k (x ∷ xs) n = go (nat_lt k.last x.last) (any_join k xs n)
  where
    go : (b : Bool) → is_above k (xs ++ (n ∷ [])) ≡ (is_above k xs || nat_lt k.last n.last) →
        (b || is_above k (xs ++ (n ∷ []))) ≡ ((b || is_above k xs) || nat_lt k.last n.last)
    go true h = refl
    go false h = h

-- one more report is the first of the greatest where its number is above the greatest so far
pub greatest_more : (ks : List Commit) (n : Commit) → first_greatest (ks ++ (n ∷ [])) ≡ Some (greater_of (first_greatest ks) n)
greatest_more [] n = refl
greatest_more (k ∷ ks) n =
    ap (λ b. cond b (first_greatest (ks ++ (n ∷ []))) (Some k)) (any_join k ks n)
    ∙ go (is_above k ks) refl (nat_lt k.last n.last) refl (first_greatest ks) (greatest_found ks) (greatest_more ks n)
  where
    go : (b : Bool) → is_above k ks ≡ b → (a : Bool) → nat_lt k.last n.last ≡ a → (o : Option Commit) → FindsGreatest ks o →
        first_greatest (ks ++ (n ∷ [])) ≡ Some (greater_of o n) →
        cond (b || a) (first_greatest (ks ++ (n ∷ []))) (Some k) ≡ Some (greater_of (cond b o (Some k)) n)
    go true h a e o found again = again
    go false h true e None found again = again ∙ ap (λ b. Some (cond b n k)) (sym e)
    go false h true e (Some g) found again =
        let le = none_above k ks h g found.among in
        let lt = ltb-true k.last n.last e in
        again ∙ (ap (λ b. Some (cond b n g)) (lt-ltb g.last n.last (omega arith)) ∙ ap (λ b. Some (cond b n k)) (sym e))
    go false h false e o found again = ap (λ b. Some (cond b n k)) (sym e)

-- a report says no more than its node has
abbrev pub IsWithin : Commit → Type 0
IsWithin k = k.last ≤ length k.log

count_in : (k : Commit) → IsWithin k → length (entries_in k) ≡ k.last
count_in k within = omega (arith, length-take k.last k.log)

-- so the longer of the two is committed
pub longest_more : (ks : List Commit) (n : Commit) → ((k : Commit) → IsMember k ks → IsWithin k) → IsWithin n →
    longest (ks ++ (n ∷ [])) ≡ longer (entries_in n) (longest ks)
longest_more ks n within now = ap entries_committed (greatest_more ks n) ∙ go (first_greatest ks) (greatest_found ks)
  where
    none : (es : List Entry) → es ≡ longer es []
    none [] = refl
    none (e ∷ es) = ap (λ b. cond b (e ∷ es) []) (sym (lt-ltb 0 (length (e ∷ es)) (omega arith)))

    go : (o : Option Commit) → FindsGreatest ks o → entries_in (greater_of o n) ≡ longer (entries_in n) (entries_committed o)
    go None found = none (entries_in n)
    go (Some g) found =
        let test : nat_lt (length (entries_in g)) (length (entries_in n)) ≡ nat_lt g.last n.last =
        ap (λ a. nat_lt a (length (entries_in n))) (count_in g (within g found.among)) ∙ ap (nat_lt g.last) (count_in n now) in
        by (nat_lt g.last n.last) ∙ ap (λ b. cond b (entries_in n) (entries_in g)) (sym test)
      where
        by : (b : Bool) → entries_in (cond b n g) ≡ cond b (entries_in n) (entries_in g)
        by true = refl
        by false = refl

-- two reports agree where the one of the smaller number says no other entries
pub record Agrees (k m : Commit) : Type 0 where
  pub below : k.last ≤ m.last → take k.last m.log ≡ take k.last k.log
  pub above : m.last ≤ k.last → take m.last k.log ≡ take m.last m.log

entries_agree : (k m : Commit) → IsWithin k → IsWithin m → Agrees k m → Agree (entries_in k) (entries_in m)
entries_agree k m in_k in_m agrees = ⊎_elim less more (cases_lt k.last m.last)
  where
    counts : take (length (entries_in m)) (entries_in k) ≡ take m.last (entries_in k)
    counts = ap (λ n. take n (entries_in k)) (count_in m in_m)

    other : take (length (entries_in k)) (entries_in m) ≡ take k.last (entries_in m)
    other = ap (λ n. take n (entries_in m)) (count_in k in_k)

    less : k.last < m.last → Agree (entries_in k) (entries_in m)
    less lt =
        counts ∙ (take_all m.last (entries_in k) (omega (arith, length-take k.last k.log))
        ∙ (sym (agrees.below (omega arith)) ∙ (sym (take-take k.last m.last m.log (omega arith)) ∙ sym other)))

    more : m.last ≤ k.last → Agree (entries_in k) (entries_in m)
    more le =
        counts ∙ (take-take m.last k.last k.log le
        ∙ (agrees.above le ∙ (sym (take_all k.last (entries_in m) (omega (arith, length-take m.last m.log))) ∙ sym other)))

agree_nil : (es : List Entry) → Agree es []
agree_nil [] = refl
agree_nil (e ∷ es) = refl

-- and one more report agrees with what is committed so far
pub longest_agrees : (ks : List Commit) (n : Commit) → ((k : Commit) → IsMember k ks → IsWithin k × Agrees n k) → IsWithin n →
    Agree (entries_in n) (longest ks)
longest_agrees ks n each now = go (first_greatest ks) (greatest_found ks)
  where
    go : (o : Option Commit) → FindsGreatest ks o → Agree (entries_in n) (entries_committed o)
    go None found = agree_nil (entries_in n)
    go (Some g) found = let h = each g found.among in entries_agree n g now h.0 h.1
