-- Functions that agree everywhere are one.
use Rattle.std.proofs.Common.{◌≡◌, ℕ}

pub everywhere : {A : Type 0} (f g : ℕ → A) → ((any : ℕ) → f any ≡ g any) → f ≡ g
everywhere f g same = λ i any. same any i
