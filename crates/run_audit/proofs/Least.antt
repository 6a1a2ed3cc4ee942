-- The one that comes first, of more and more.
use Rattle.std.proofs.Common.{◌≡◌, ℕ, ◌+◌, ◌<◌, ◌≤◌, Bool, true, false, List, [], ◌∷◌, ◌++◌, length, take, get_or, Option, Some, None, ◌⊎◌, inl, inr, refl, sym, subst}
use Rattle.std.proofs.lemmas.List.{take_all, take_more}
use Rattle.std.proofs.lemmas.List.Elements.{Contains-append_left, Contains-push, Contains-push_cases}
use Rattle.run_audit.specs.declared.overlap.LiveHolder.{LiveHolder}
use Rattle.run_audit.specs.Least.{lesser_in, IsLeast}
use Rattle.run_audit.specs.Overlaps.{Among}
use Rattle.run_audit.proofs.Members.{Contains-empty}

module _ (X : Type 0) (before : X → X → Bool)
    (chain : (c d e : X) → before c d ≡ false → before d e ≡ false → before c e ≡ false)
    (flip : (c d : X) → before c d ≡ true → before d c ≡ false) where
  pub least_of_both : (P Q : X → Type 0) (o f : Option X) → IsLeast before P o → IsLeast before Q f → IsLeast before (λ c. P c ⊎ Q c) (lesser_in before o f)
  least_of_both P Q None None p q = λ c h. elim h as (λ _. ⊥) [ inl a ↦ p c a | inr b ↦ q c b ]
  least_of_both P Q None (Some f) p q = (inr q.0, λ c h. elim h as (λ _. before c f ≡ false) [ inl a ↦ absurd (p c a) | inr b ↦ q.1 c b ])
  least_of_both P Q (Some o) None p q = (inl p.0, λ c h. elim h as (λ _. before c o ≡ false) [ inl a ↦ p.1 c a | inr b ↦ absurd (q c b) ])
  least_of_both P Q (Some o) (Some f) p q = by (before f o) refl
    where
      by : (t : Bool) → before f o ≡ t → IsLeast before (λ c. P c ⊎ Q c) (lesser_in before (Some o) (Some f))
      by true e = rw e (inr q.0, λ c h. elim h as (λ _. before c f ≡ false) [ inl a ↦ chain c o f (p.1 c a) (flip f o e) | inr b ↦ q.1 c b ])
      by false e = rw e (inl p.0, λ c h. elim h as (λ _. before c o ≡ false) [ inl a ↦ p.1 c a | inr b ↦ chain c f o (q.1 c b) e ])

  pub least_of_same : (P Q : X → Type 0) (o : Option X) → ((c : X) → P c → Q c) → ((c : X) → Q c → P c) → IsLeast before P o → IsLeast before Q o
  least_of_same P Q None there back h = λ c q. h c (back c q)
  least_of_same P Q (Some b) there back h = (there b h.0, λ c q. h.1 c (back c q))

  -- of no holder
  pub least_of_none : (P : LiveHolder → X → Type 0) → IsLeast before (Among [] P) None
  least_of_none P = λ c h. Contains-empty h.0 h.1

  -- of one more
  pub least_of_more : (P : LiveHolder → X → Type 0) (hs : List LiveHolder) (h : LiveHolder) (o f : Option X)
      → IsLeast before (Among hs P) o → IsLeast before (P h) f → IsLeast before (Among (hs ++ h ∷ []) P) (lesser_in before o f)
  least_of_more P hs h o f p q =
      least_of_same (λ c. Among hs P c ⊎ P h c) (Among (hs ++ h ∷ []) P) (lesser_in before o f) there back (least_of_both (Among hs P) (P h) o f p q)
    where
      there : (c : X) → Among hs P c ⊎ P h c → Among (hs ++ h ∷ []) P c
      there c (inl a) = (a.0, Contains-append_left hs (h ∷ []) a.0 a.1, a.2)
      there c (inr b) = (h, Contains-push hs h, b)

      back : (c : X) → Among (hs ++ h ∷ []) P c → Among hs P c ⊎ P h c
      back c a = elim (Contains-push_cases hs h a.0 a.1) as (λ _. Among hs P c ⊎ P h c) [
        | inl k ↦ inl (a.0, k, a.2)
        | inr e ↦ inr (subst (λ x. P x c) (sym e) a.2)
      ]

  -- of one more in a walk over all
  pub least_on : (P : LiveHolder → X → Type 0) (hs : List LiveHolder) (i : ℕ) (d : LiveHolder) (o f r : Option X) → i < length hs
      → IsLeast before (Among (take i hs) P) o → IsLeast before (P (get_or hs i d)) f → r ≡ lesser_in before o f → IsLeast before (Among (take (i + 1) hs) P) r
  least_on P hs i d o f r h p q e =
      let more = least_of_more P (take i hs) (get_or hs i d) o f p q in
      let longer : take (i + 1) hs ≡ take i hs ++ get_or hs i d ∷ [] = take_more hs i d h in
      subst (λ l. IsLeast before (Among l P) r) (sym longer) (subst (λ x. IsLeast before (Among (take i hs ++ get_or hs i d ∷ []) P) x) (sym e) more)

  pub least_of_all : (P : LiveHolder → X → Type 0) (hs : List LiveHolder) (i : ℕ) (o : Option X) → length hs ≤ i → IsLeast before (Among (take i hs) P) o → IsLeast before (Among hs P) o
  least_of_all P hs i o h p = subst (λ l. IsLeast before (Among l P) o) (take_all i hs h) p
