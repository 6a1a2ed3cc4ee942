use Rattle.std.proofs.Common.{◌≡◌, ◌∙◌, ℕ, zero, suc, ◌<◌, [], ◌∷◌, length, replicate, Option, None, refl, ap, arith}
use Rattle.ring_rules.specs.declared.link.Link.{Link}
use Rattle.ring_rules.specs.Rings.{Slots}
use Rattle.ring_rules.specs.Slots.{slot_at}
use Rattle.link_core.proofs.links.again.free_each.Goals as goal

all_free : (n : ℕ) (s : Slots) → length s ≡ n → ((k : ℕ) → k < n → slot_at k s ≡ None) → s ≡ replicate n None
all_free zero [] e free = refl
all_free zero (x ∷ s) e free = absurd (omega arith)
all_free (suc n) [] e free = absurd (omega arith)
all_free (suc n) (x ∷ s) e free =
    let rest : s ≡ replicate n None = all_free n s (omega arith) (λ k lt. free (suc k) (omega arith)) in
    ap (λ (y : Option Link). y ∷ s) (free 0 (omega arith)) ∙ ap (λ (t : Slots). None ∷ t) rest

pub returns : goal.returns
returns c = all_free 16 c.loop-i.slots c.loop-i.invariant.count (λ k lt. c.loop-i.invariant.free k (omega arith))
