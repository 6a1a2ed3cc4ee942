-- Lines that are appended one behind another.
use Rattle.std.proofs.Common.{◌≡◌, ℕ, List, ◌++◌, ap, ◌∙◌, append_assoc}

behind : (text a b v w : List ℕ) → a ≡ text ++ v → b ≡ a ++ w → b ≡ text ++ (v ++ w)
behind text a b v w p q = q ∙ (ap (λ l. l ++ w) p ∙ append_assoc text v w)

pub five_lines : (text a b d e f v w x y z : List ℕ) → a ≡ text ++ v → b ≡ a ++ w → d ≡ b ++ x → e ≡ d ++ y → f ≡ e ++ z → f ≡ text ++ (v ++ (w ++ (x ++ (y ++ z))))
five_lines text a b d e f v w x y z p q r s t =
    behind text a f v (w ++ (x ++ (y ++ z))) p (behind a b f w (x ++ (y ++ z)) q (behind b d f x (y ++ z) r (behind d e f y z s t)))
