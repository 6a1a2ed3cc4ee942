-- A place of a table, read and written.
use Rattle.std.proofs.Common.{◌≡◌, ℕ, zero, suc, [], ◌∷◌, Option, Some, refl, sym, ap, slice_set}
use Rattle.ring_rules.specs.declared.link.Link.{Link}
use Rattle.ring_rules.specs.Rings.{Slots}
use Rattle.ring_rules.specs.Slots.{slot_at}

pub set_here : (s : Slots) (i : ℕ) (slot : Option Link) → slot_at i s ≡ slot → slice_set s i slot ≡ s
set_here [] i slot e = refl
set_here (x ∷ s) zero slot e = ap (λ (y : Option Link). y ∷ s) (sym e)
set_here (x ∷ s) (suc i) slot e = ap (λ (t : Slots). x ∷ t) (set_here s i slot e)

pub set_there : (s : Slots) (i : ℕ) (l : Link) (slot : Option Link) → slot_at i s ≡ Some l → slot_at i (slice_set s i slot) ≡ slot
set_there [] i l slot e = cc
set_there (x ∷ s) zero l slot e = refl
set_there (x ∷ s) (suc i) l slot e = set_there s i l slot e
