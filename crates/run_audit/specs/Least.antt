-- The one that comes first of those that are so.
use Rattle.std.specs.Prelude.{◌≡◌, Bool, false, Option, Some, None, if◌then◌else◌}

-- the one of two that comes first, where `before` says which does
abbrev pub lesser_in : {X : Type 0} → (X → X → Bool) → Option X → Option X → Option X
lesser_in before None found = found
lesser_in before (Some b) None = Some b
lesser_in before (Some b) (Some f) = if before f b then Some f else Some b

-- of those that are so, the one that comes first, if there is one
abbrev pub IsLeast : {X : Type 0} → (X → X → Bool) → (X → Type 0) → Option X → Type 0
IsLeast {X} before P None = (c : X) → P c → ⊥
IsLeast {X} before P (Some b) = P b × ((c : X) → P c → before c b ≡ false)
