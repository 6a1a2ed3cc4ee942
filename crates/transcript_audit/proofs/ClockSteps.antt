-- The steps of reading clocks one by one.
use Rattle.std.proofs.Common.{◌≡◌, ℕ, zero, suc, ◌-◌, ◌<◌, true, false, List, [], ◌∷◌, ◌++◌, length, Option, Some, None, arith, refl}
use Rattle.ring_points.specs.declared.who.Who.{Who}
use Rattle.fabric_terms.specs.Runs.{Clocks}
use Rattle.run_audit.specs.Clocks.{comes_after}
use Rattle.transcript_audit.specs.Said.{clock_at, clocks_on}

pub clocks_done : (k : ℕ) (above : Option Who) (cs : Clocks) (rest : List ℕ) → length rest ≡ 0 → clocks_on k above cs rest ≡ Some cs
unfolding clocks_on
clocks_done k above cs [] none = refl
clocks_done k above cs (b ∷ bs) none = absurd (omega arith)

pub clocks_full : (k : ℕ) (above : Option Who) (cs : Clocks) (rest : List ℕ) → k ≡ 0 → 0 < length rest → clocks_on k above cs rest ≡ None
unfolding clocks_on
clocks_full k above cs [] none some = absurd (omega arith)
clocks_full zero above cs (b ∷ bs) none some = refl
clocks_full (suc k) above cs (b ∷ bs) none some = absurd (omega arith)

pub clocks_bad : (k : ℕ) (above : Option Who) (cs : Clocks) (rest : List ℕ) → 0 < k → 0 < length rest → clock_at rest ≡ None → clocks_on k above cs rest ≡ None
unfolding clocks_on
clocks_bad k above cs [] room some bad = absurd (omega arith)
clocks_bad zero above cs (b ∷ bs) room some bad = absurd (omega arith)
clocks_bad (suc k) above cs (b ∷ bs) room some bad = rw bad refl

pub clocks_low : (k : ℕ) (above : Option Who) (cs : Clocks) (rest : List ℕ) (c : Who × ℕ) (after : List ℕ) → 0 < k → 0 < length rest
    → clock_at rest ≡ Some (c, after) → comes_after above c.0 ≡ false → clocks_on k above cs rest ≡ None
unfolding clocks_on
clocks_low k above cs [] c after room some read low = absurd (omega arith)
clocks_low zero above cs (b ∷ bs) c after room some read low = absurd (omega arith)
clocks_low (suc k) above cs (b ∷ bs) c after room some read low = rw (read, low) refl

pub clocks_next : (k : ℕ) (above : Option Who) (cs : Clocks) (rest : List ℕ) (c : Who × ℕ) (after : List ℕ) → 0 < k → 0 < length rest
    → clock_at rest ≡ Some (c, after) → comes_after above c.0 ≡ true → clocks_on k above cs rest ≡ clocks_on (k - 1) (Some c.0) (cs ++ c ∷ []) after
unfolding clocks_on
clocks_next k above cs [] c after room some read higher = absurd (omega arith)
clocks_next zero above cs (b ∷ bs) c after room some read higher = absurd (omega arith)
clocks_next (suc k) above cs (b ∷ bs) c after room some read higher =
    let less : suc k - 1 ≡ k = omega arith in
    rw (read, higher, less) refl
