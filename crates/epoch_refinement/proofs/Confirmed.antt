-- What a primary holds confirmed by a majority is confirmed by a majority of the members.
use Rattle.std.proofs.Common.{◌≡◌, ℕ, suc, ◌+◌, ◌*◌, ◌<◌, ◌≤◌, max, Bool, true, false, cond, ◌&&◌, ◌||◌, ◌==◌, nat_le, List, [], ◌∷◌, ◌++◌, length, refl, sym, ap, subst, ◌⊎◌, inl, inr, ⊎_elim, arith}
use Rattle.std.proofs.lemmas.Bool.{eqb-true, ltb-true, cases_lt, or_cases, or_left, or_right, and_from, eq-eqb, both_ways}
use Rattle.std.proofs.lemmas.List.Sums.{sum_by-cons}
use Rattle.std.specs.Prelude.{not, map, filter}
use Rattle.std.specs.List.{list_any, count_by}
use Rattle.fabric_lemmas.specs.Members.{IsMember}
use Rattle.epoch_machine.specs.Majorities.{count}
use Rattle.unit_rules.specs.declared.progress.PeerProgress.{PeerProgress}
use Rattle.unit_rules.specs.Progress.{greatest, is_confirmed, most_confirmed, confirmed_of}
use Rattle.unit_rules.specs.ReplicaStates.{ReplicationProgress}

-- the greatest of numbers is one of them, or 0
greatest_in : (ns : List ℕ) → 0 < greatest ns → IsMember (greatest ns) ns
greatest_in [] lt = absurd (omega arith)
greatest_in (n ∷ ns) lt = ⊎_elim
    (λ less. inr (subst (λ k. IsMember k ns) (let e : greatest ns ≡ max n (greatest ns) = omega arith in e) (greatest_in ns (omega arith))))
    (λ ge. inl (omega arith))
    (cases_lt n (greatest ns))

pub filter_in : {X : Type 0} (f : X → Bool) (xs : List X) (x : X) → IsMember x (filter f xs) → IsMember x xs × (f x ≡ true)
filter_in f [] x m = absurd m
filter_in f (y ∷ ys) x m = go (f y) refl m (filter_in f ys x)
  where
    go : (b : Bool) → f y ≡ b → IsMember x (cond b (y ∷ filter f ys) (filter f ys)) → (IsMember x (filter f ys) → IsMember x ys × (f x ≡ true)) →
        IsMember x (y ∷ ys) × (f x ≡ true)
    go true h (inl e) rest = (inl e, subst (λ z. f z ≡ true) (sym e) h)
    go true h (inr i) rest = let r = rest i in (inr r.0, r.1)
    go false h i rest = let r = rest i in (inr r.0, r.1)

pub map_in : {X Y : Type 0} (f : X → Y) (xs : List X) (y : Y) → IsMember y (map f xs) → (x : X) × IsMember x xs × (y ≡ f x)
map_in f [] y m = absurd m
map_in f (x ∷ xs) y (inl e) = (x, inl refl, e)
map_in f (x ∷ xs) y (inr m) = let r = map_in f xs y m in (r.0, inr r.1, r.2)

-- what is found of a list
pub any_in : {X : Type 0} (f : X → Bool) (xs : List X) → list_any f xs ≡ true → (x : X) × IsMember x xs × (f x ≡ true)
any_in f [] h = absurd (cc (h))
any_in f (x ∷ xs) h = ⊎_elim (λ e. (x, inl refl, e)) (λ r. let i = any_in f xs r in (i.0, inr i.1, i.2)) (or_cases (f x) (list_any f xs) h)

pub in_any : {X : Type 0} (f : X → Bool) (xs : List X) (x : X) → IsMember x xs → f x ≡ true → list_any f xs ≡ true
in_any f [] x m h = absurd m
in_any f (y ∷ ys) x (inl e) h = or_left (f y) (list_any f ys) (subst (λ z. f z ≡ true) e h)
in_any f (y ∷ ys) x (inr m) h = or_right (f y) (list_any f ys) (in_any f ys x m h)

-- the primary, and whoever has confirmed so much
abbrev pub has_confirmed : ℕ → ℕ → List PeerProgress → ℕ → Bool
has_confirmed me k peers m = m == me || list_any (λ q. q.node == m && nat_le k q.confirmed) peers

-- the others of a list, of which me is counted
module _ (by : ℕ → Bool) (me : ℕ) (mine : by me ≡ true) where
  abbrev others : List ℕ → List ℕ
  others ms = filter (λ m. not (m == me)) ms

  count_others : (ms : List ℕ) → count by ms + length (others ms) ≡ count by (others ms) + length ms
  count_others [] = refl
  count_others (m ∷ ms) = go (m == me) refl (by m) refl (count_others ms)
    where
      go : (same : Bool) → (m == me) ≡ same → (b : Bool) → by m ≡ b → count by ms + length (others ms) ≡ count by (others ms) + length ms →
          cond b (suc (count by ms)) (count by ms) + length (cond (not same) (m ∷ others ms) (others ms))
          ≡ count by (cond (not same) (m ∷ others ms) (others ms)) + suc (length ms)
      go true h true i e = omega arith
      go true h false i e = absurd (both_ways (by m) i (subst (λ z. by z ≡ true) (sym (eqb-true m me h)) mine))
      go false h true i e = let c : cond (by m) (suc (count by (others ms)))
          (count by (others ms)) ≡ suc (count by (others ms)) = ap (λ b. cond b (suc (count by (others ms))) (count by (others ms))) i in omega arith
      go false h false i e = let c : cond (by m) (suc (count by (others ms)))
          (count by (others ms)) ≡ count by (others ms) = ap (λ b. cond b (suc (count by (others ms))) (count by (others ms))) i in omega arith

fewer_others : (me : ℕ) (ms : List ℕ) → length (filter (λ m. not (m == me)) ms) ≤ length ms
fewer_others me [] = omega arith
fewer_others me (m ∷ ms) = go (m == me) (fewer_others me ms)
  where
    go : (same : Bool) → length (filter (λ m. not (m == me)) ms) ≤ length ms →
        length (cond (not same) (m ∷ filter (λ m. not (m == me)) ms) (filter (λ m. not (m == me)) ms)) ≤ suc (length ms)
    go true le = omega arith
    go false le = omega arith

member_less : (me : ℕ) (ms : List ℕ) → list_any (λ m. m == me) ms ≡ true → length (filter (λ m. not (m == me)) ms) < length ms
member_less me [] h = absurd (cc (h))
member_less me (m ∷ ms) h = go (m == me) refl h (member_less me ms)
  where
    go : (same : Bool) → (m == me) ≡ same → (same || list_any (λ m. m == me) ms) ≡ true →
        (list_any (λ m. m == me) ms ≡ true → length (filter (λ m. not (m == me)) ms) < length ms) →
        length (cond (not same) (m ∷ filter (λ m. not (m == me)) ms) (filter (λ m. not (m == me)) ms)) < suc (length ms)
    go true e h rest = let le = fewer_others me ms in omega arith
    go false e h rest = let lt = rest h in omega arith

-- as many nodes are counted as peers pass
peers_count : (by : ℕ → Bool) (k : ℕ) (peers : List PeerProgress) → ((q : PeerProgress) → IsMember q peers → nat_le k q.confirmed ≡ true → by q.node ≡ true) →
    count_by (nat_le k) (map (λ q. q.confirmed) peers) ≤ count by (map (λ q. q.node) peers)
peers_count by k [] h = omega arith
peers_count by k (q ∷ qs) h =
    subst (λ n. n ≤ count by (map (λ q. q.node) (q ∷ qs))) (sym (sum_by-cons (λ n. cond (nat_le k n) 1 0) q.confirmed (map (λ q. q.confirmed) qs)))
    (go (nat_le k q.confirmed) refl (by q.node) refl (peers_count by k qs (λ r m. h r (inr m))))
  where
    go : (a : Bool) → nat_le k q.confirmed ≡ a → (b : Bool) → by q.node ≡ b →
        count_by (nat_le k) (map (λ q. q.confirmed) qs) ≤ count by (map (λ q. q.node) qs) →
        cond a 1 0 + count_by (nat_le k) (map (λ q. q.confirmed) qs) ≤ cond b (suc (count by (map (λ q. q.node) qs))) (count by (map (λ q. q.node) qs))
    go true e true f le = omega arith
    go true e false f le = absurd (both_ways (by q.node) f (h q (inl refl) e))
    go false e true f le = omega arith
    go false e false f le = omega arith

map_length : {X Y : Type 0} (f : X → Y) (xs : List X) → length (map f xs) ≡ length xs
map_length f [] = refl
map_length f (x ∷ xs) = ap suc (map_length f xs)

-- the entry that is committed now is confirmed by a majority of the members, and the primary has it
pub record Committable (me own : ℕ) (l : ReplicationProgress) (ms : List ℕ) (k : ℕ) : Type 0 where
  pub most : length ms < count (has_confirmed me k l.peers) ms + count (has_confirmed me k l.peers) ms
  pub one : (k ≡ own) ⊎ ((q : PeerProgress) × IsMember q l.peers × (k ≡ q.confirmed))

pub committable : (me own : ℕ) (l : ReplicationProgress) (ms : List ℕ) → list_any (λ m. m == me) ms ≡ true →
    map (λ q. q.node) l.peers ≡ filter (λ m. not (m == me)) ms → 0 < most_confirmed (confirmed_of l own) →
    Committable me own l ms (most_confirmed (confirmed_of l own))
committable me own l ms member nodes some = record {
  most =
      let o : count by ms + length (filter (λ m. not (m == me)) ms) ≡ count by (filter (λ m. not (m == me)) ms) + length ms =
      count_others by me mine ms in
      let less = member_less me ms member in
      let c = peers_count by k l.peers confirms in
      let n = ap length nodes in
      let nc = ap (count by) nodes in
      let ln = map_length (λ (q : PeerProgress). q.node) l.peers in
      let lc = map_length (λ (q : PeerProgress). q.confirmed) l.peers in
      let m = majority in omega arith;
  one = ⊎_elim (λ e. inl e) (λ i. inr (map_in (λ (q : PeerProgress). q.confirmed) l.peers k i)) found.0;
}
  where
    k : ℕ
    k = most_confirmed (confirmed_of l own)

    by : ℕ → Bool
    by = has_confirmed me k l.peers

    mine : by me ≡ true
    mine = or_left (me == me) (list_any (λ q. q.node == me && nat_le k q.confirmed) l.peers) (eq-eqb me me refl)

    confirms : (q : PeerProgress) → IsMember q l.peers → nat_le k q.confirmed ≡ true → by q.node ≡ true
    confirms q m h =
        or_right (q.node == me) (list_any (λ r. r.node == q.node && nat_le k r.confirmed) l.peers)
        (in_any (λ r. r.node == q.node && nat_le k r.confirmed) l.peers q m
        (and_from (q.node == q.node) (nat_le k q.confirmed) (eq-eqb q.node q.node refl) h))

    found : IsMember k (confirmed_of l own) × (is_confirmed (confirmed_of l own) k ≡ true)
    found =
        filter_in (is_confirmed (confirmed_of l own)) (confirmed_of l own) k
        (greatest_in (filter (is_confirmed (confirmed_of l own)) (confirmed_of l own)) some)

    majority : suc (length (map (λ (q : PeerProgress). q.confirmed) l.peers)) < 2 * (1 + count_by (nat_le k) (map (λ (q : PeerProgress). q.confirmed) l.peers))
    majority =
        let lt = ltb-true (suc (length (map (λ (q : PeerProgress). q.confirmed) l.peers))) (2 * count_by (nat_le k) (own ∷
        map (λ (q : PeerProgress). q.confirmed) l.peers)) found.1 in
        go (nat_le k own)
        (subst (λ n. suc (length (map (λ (q : PeerProgress). q.confirmed) l.peers)) < 2 * n)
        (sum_by-cons (λ n. cond (nat_le k n) 1 0) own (map (λ (q : PeerProgress). q.confirmed) l.peers)) lt)
      where
        go : (b : Bool) → suc (length (map (λ (q : PeerProgress). q.confirmed) l.peers)) < 2 * (cond b 1 0 + count_by (nat_le k)
            (map (λ (q : PeerProgress). q.confirmed) l.peers)) →
            suc (length (map (λ (q : PeerProgress). q.confirmed) l.peers)) < 2 * (1 + count_by (nat_le k) (map (λ (q : PeerProgress). q.confirmed) l.peers))
        go true lt = lt
        go false lt = omega arith

pub member_cases : {X : Type 0} (x : X) (xs ys : List X) → IsMember x (xs ++ ys) → IsMember x xs ⊎ IsMember x ys
member_cases x [] ys m = inr m
member_cases x (z ∷ xs) ys (inl e) = inl (inl e)
member_cases x (z ∷ xs) ys (inr m) = ⊎_elim (λ h. inl (inr h)) (λ h. inr h) (member_cases x xs ys m)
