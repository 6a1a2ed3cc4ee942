-- Bytes at the front of a room.
use Rattle.std.proofs.Common.{◌≡◌, ℕ, ◌-◌, ◌≤◌, List, length, take, drop, length-drop, arith, ap, sym, ◌∙◌, zero-add}
use Rattle.std.proofs.lemmas.List.{drop-take}
use Rattle.std.proofs.lemmas.List.Edits.{take-paste}
use Rattle.std.specs.List.{copy_within}

-- bytes that were moved to the front
pub moved : (next end : ℕ) (room : List ℕ) → next ≤ end → end ≤ length room → take (end - next) (copy_within room next end 0) ≡ drop next (take end room)
moved next end room rise within =
    ap (λ k. take k (copy_within room next end 0)) (sym (zero-add (end - next)))
    ∙ (take-paste room 0 (drop next room) (end - next) (omega arith) (omega (arith, length-drop {A = ℕ}))
    ∙ (sym (drop-take next (end - next) room) ∙ ap (λ n. drop next (take n room)) (omega arith)))
