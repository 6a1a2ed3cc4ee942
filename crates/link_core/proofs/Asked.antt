-- The questions to the arbitrators, one after another.
use Rattle.std.proofs.Common.{◌≡◌, ℕ, ◌+◌, ◌<◌, ◌≤◌, zero, suc, List, [], ◌++◌, ◌⊎◌, inl, inr, length, length-append, refl, ap, subst, ◌∙◌, arith, append_assoc}
use Rattle.std.proofs.lemmas.Bool.{cases_order}
use Rattle.ring_points.specs.declared.who.Ruling.{Ruling}
use Rattle.ring_points.specs.declared.who.Who.{Who}
use Rattle.fabric_terms.specs.declared.message.Body.{Body}
use Rattle.arbiter_quorum.specs.Tallies.{has_answered}
use Rattle.ring_rules.specs.declared.link.Link.{Link}
use Rattle.ring_rules.specs.Claims.{owes_round}
use Rattle.link_core.specs.Firing.{asked_first, asked_if}
use Rattle.link_core.specs.Rounds.{claimed_first, claimed_if}
use Rattle.ring_points.specs.Limits.{most_messages}

pub asked_first-zero : (peer : Who) (answers : List (ℕ × Ruling)) → asked_first 0 peer answers ≡ []
unfolding asked_first
asked_first-zero peer answers = refl

pub asked_first-suc : (k : ℕ) (peer : Who) (answers : List (ℕ × Ruling)) → asked_first (suc k) peer answers ≡ asked_first k peer answers ++ asked_if (suc k) peer (has_answered (suc k) answers)
unfolding asked_first
asked_first-suc k peer answers = refl

pub asked_more : (k : ℕ) (peer : Who) (answers : List (ℕ × Ruling)) (before now out : List (Who × Body)) → now ≡ before ++ asked_first k peer answers → out ≡ now ++ asked_if (k + 1) peer (has_answered (k + 1) answers) → out ≡ before ++ asked_first (k + 1) peer answers
asked_more k peer answers before now out e f =
    let s : k + 1 ≡ suc k = omega arith in
    f ∙ rw (e, append_assoc, s, asked_first-suc) refl

pub claimed_first-zero : (l : Link) → claimed_first 0 l ≡ []
unfolding claimed_first
claimed_first-zero l = refl

pub claimed_first-suc : (k : ℕ) (l : Link) → claimed_first (suc k) l ≡ claimed_first k l ++ claimed_if (suc k) l (owes_round (suc k) l)
unfolding claimed_first
claimed_first-suc k l = refl

pub claimed_more : (k : ℕ) (l : Link) (before now out : List (Who × Body)) → now ≡ before ++ claimed_first k l → out ≡ now ++ claimed_if (k + 1) l (owes_round (k + 1) l) → out ≡ before ++ claimed_first (k + 1) l
claimed_more k l before now out e f =
    let s : k + 1 ≡ suc k = omega arith in
    f ∙ rw (e, append_assoc, s, claimed_first-suc) refl

claimed_rises : (n : ℕ) (l : Link) (k : ℕ) → k ≤ n → length (claimed_first k l) ≤ length (claimed_first n l)
claimed_rises zero l k le = let e : k ≡ 0 = omega arith in rw e (omega arith)
claimed_rises (suc n) l k le = go (cases_order k (suc n)) (claimed_rises n l k)
  where
    go : (k ≡ suc n) ⊎ ((k < suc n) ⊎ (suc n < k)) → (k ≤ n → length (claimed_first k l) ≤ length (claimed_first n l)) →
        length (claimed_first k l) ≤ length (claimed_first (suc n) l)
    go (inl e) below = rw e (omega arith)
    go (inr (inl lt)) below =
        let rest = below (omega arith) in
        let all = length-append (claimed_first n l) (claimed_if (suc n) l (owes_round (suc n) l)) in
        rw claimed_first-suc (omega (arith, rest, all))
    go (inr (inr gt)) below = absurd (omega arith)

-- what is left of the room for all claims is enough for the next
pub claimed_room : (l : Link) (k n : ℕ) (before now : List (Who × Body)) → now ≡ before ++ claimed_first k l → k < n →
    length before + length (claimed_first n l) ≤ most_messages → length now + length (claimed_if (k + 1) l (owes_round (k + 1) l)) ≤ most_messages
claimed_room l k n before now e lt room =
    let rises = claimed_rises n l (suc k) (omega arith) in
    let split : length (claimed_first (suc k) l) ≡ length (claimed_first k l) + length (claimed_if (suc k) l (owes_round (suc k) l)) =
    ap length (claimed_first-suc k l) ∙ length-append (claimed_first k l) (claimed_if (suc k) l (owes_round (suc k) l)) in
    let now_long : length now ≡ length before + length (claimed_first k l) = ap length e ∙ length-append before (claimed_first k l) in
    let s : suc k ≡ k + 1 = omega arith in
    subst (λ (j : ℕ). length now + length (claimed_if j l (owes_round j l)) ≤ most_messages) s (omega arith)
