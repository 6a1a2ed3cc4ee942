-- What is sealed, and what is opened.
use Rattle.std.proofs.Common.{◌≡◌, ◌<◌, ◌≤◌, ℕ, Bool, true, false, List, length, Some, None, arith, refl, ap, sym, ◌∙◌}
use Rattle.std.specs.Prelude.{if◌then◌else◌}
use Rattle.std.proofs.lemmas.Slice.Eq.{bytes_eq-Decides}
use Rattle.frame_seal.specs.Seals.{Key, behind_seal, is_sealed, opened, sealed, sender_of}
use Rattle.frame_seal.proofs.Sealed.{behind, length-sealed}

is_own : (key : Key) (to : ℕ) (frame : List ℕ) → is_sealed key to (sealed key (sender_of frame) to frame) ≡ true
unfolding is_sealed
is_own key to frame =
    let bytes : List ℕ = sealed key (sender_of frame) to frame in
    (bytes_eq-Decides bytes (sealed key (sender_of (behind_seal bytes)) to (behind_seal bytes))).1
    (ap (λ (f : List ℕ). sealed key (sender_of f) to f) (sym (behind key (sender_of frame) to frame)))

pub sealed_opens : (key : Key) (to : ℕ) (frame : List ℕ) → opened key to (sealed key (sender_of frame) to frame) ≡ Some frame
unfolding opened
sealed_opens key to frame = rw (is_own key to frame) (ap (λ (f : List ℕ). Some f) (behind key (sender_of frame) to frame))

pub opened_sealed : (key : Key) (to : ℕ) (bytes frame : List ℕ) → opened key to bytes ≡ Some frame → bytes ≡ sealed key (sender_of frame) to frame
unfolding opened is_sealed
opened_sealed key to bytes frame e = by_test (is_sealed key to bytes) refl e
  where
    by_test : (b : Bool) → is_sealed key to bytes ≡ b → (if b then Some (behind_seal bytes) else None) ≡ Some frame → bytes ≡ sealed key (sender_of frame) to frame
    by_test true t same =
        let here : behind_seal bytes ≡ frame = cc in
        (bytes_eq-Decides bytes (sealed key (sender_of (behind_seal bytes)) to (behind_seal bytes))).0 t ∙ ap (λ (f : List ℕ). sealed key (sender_of f) to f) here
    by_test false t same = cc

pub fits : (key : Key) (from to : ℕ) (frame : List ℕ) → length frame ≤ 1200 → length (sealed key from to frame) < 1400
fits key from to frame few = omega (arith, few, length-sealed key from to frame)
