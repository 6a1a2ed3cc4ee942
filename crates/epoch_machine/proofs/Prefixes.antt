-- Prefixes of logs, and logs that agree.
use Rattle.std.proofs.Common.{◌≡◌, ℕ, ◌<◌, List, [], ◌∷◌, ◌++◌, length, refl, sym, ap, subst, arith, ◌≤◌, take, ◌∙◌}
use Rattle.std.proofs.lemmas.List.{append-nil, append_assoc, length-append, take-append-le, nil_from_length}
use Rattle.epoch_machine.specs.Logs.{IsAt, Prefix, Agree, Entry}
use Rattle.epoch_machine.proofs.Places.{IsAt-append, IsAt-front, IsAt-next}

pub prefix_refl : (xs : List Entry) → Prefix xs xs
prefix_refl xs = record { rest = []; is = append-nil xs }

pub prefix_nil : (xs : List Entry) → Prefix [] xs
prefix_nil xs = record { rest = xs; is = refl }

pub prefix_append : (xs ys : List Entry) → Prefix xs (xs ++ ys)
prefix_append xs ys = record { rest = ys; is = refl }

pub prefix_trans : {xs ys zs : List Entry} → Prefix xs ys → Prefix ys zs → Prefix xs zs
prefix_trans {xs} {ys} {zs} p q = record {
  rest = p.rest ++ q.rest;
  is = sym (append_assoc xs p.rest q.rest) ∙ ap (λ l. l ++ q.rest) p.is ∙ q.is;
}

-- under a common front
pub prefix_under : (b : List Entry) {xs ys : List Entry} → Prefix xs ys → Prefix (b ++ xs) (b ++ ys)
prefix_under b {xs} {ys} p = record { rest = p.rest; is = append_assoc b xs p.rest ∙ ap (λ l. b ++ l) p.is }

pub prefix_length : {xs ys : List Entry} → Prefix xs ys → length xs ≤ length ys
prefix_length {xs} {ys} p =
    let n = length-append xs p.rest in
    let m = ap length p.is in omega arith

-- one more entry of the longer log
pub prefix_next : {xs ys : List Entry} (x : Entry) → Prefix xs ys → IsAt ys (length xs) x → Prefix (xs ++ (x ∷ [])) ys
prefix_next {xs} {ys} x p h =
    let next = IsAt-next xs p.rest x (subst (λ l. IsAt l (length xs) x) (sym p.is) h) in
    record { rest = next.0; is = append_assoc xs (x ∷ []) next.0 ∙ ap (λ l. xs ++ l) (sym next.1) ∙ p.is }

pub prefix_whole : {xs ys : List Entry} → Prefix xs ys → length xs ≡ length ys → xs ≡ ys
prefix_whole {xs} {ys} p n =
    let m = length-append xs p.rest in
    let k = ap length p.is in
    let none : p.rest ≡ [] = nil_from_length p.rest (omega arith) in
    sym (append-nil xs) ∙ ap (λ l. xs ++ l) (sym none) ∙ p.is

pub prefix_at : {xs ys : List Entry} (n : ℕ) (x : Entry) → Prefix xs ys → IsAt xs n x → IsAt ys n x
prefix_at {xs} {ys} n x p h = subst (λ l. IsAt l n x) p.is (IsAt-append xs p.rest n x h)

pub prefix_at_front : {xs ys : List Entry} (n : ℕ) (x : Entry) → Prefix xs ys → n < length xs → IsAt ys n x → IsAt xs n x
prefix_at_front {xs} {ys} n x p lt h = IsAt-front xs p.rest n x lt (subst (λ l. IsAt l n x) (sym p.is) h)

pub agree_prefix : {xs ys : List Entry} (k : ℕ) → Prefix xs ys → k ≤ length xs → Agree k xs ys
agree_prefix {xs} {ys} k p le = record {
  left = le;
  right = let n = prefix_length p in omega arith;
  same = sym (take-append-le k xs p.rest le) ∙ ap (λ l. take k l) p.is;
}

pub agree_sym : {k : ℕ} {xs ys : List Entry} → Agree k xs ys → Agree k ys xs
agree_sym a = record { left = a.right; right = a.left; same = sym a.same }

pub agree_trans : {k : ℕ} {xs ys zs : List Entry} → Agree k xs ys → Agree k ys zs → Agree k xs zs
agree_trans a b = record { left = a.left; right = b.right; same = a.same ∙ b.same }
