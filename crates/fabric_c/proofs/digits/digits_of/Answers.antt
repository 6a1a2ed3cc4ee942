use Rattle.std.proofs.Common.{◌≡◌, ℕ, Option, Some, None, length, take, ap, ◌∙◌}
use Rattle.hex.specs.Hex.{encode_lower}
use Rattle.fabric_c.proofs.BeforeBlanks.{digits_end, digits_front}
use Rattle.fabric_c.proofs.digits.digits_of.Goals as goal

pub returns-in-Some : goal.returns-in-Some
returns-in-Some c bytes rest are is =
    let found : ◌≡◌ {A = Option ℕ} (Some c.in-Some.end) (Some (length (encode_lower bytes))) = c.in-Some.ensures ∙ digits_end c.args.line.now bytes rest are is in
    let same : c.in-Some.end ≡ length (encode_lower bytes) = cc in
    ap (λ n. take n c.args.line.now) same ∙ digits_front c.args.line.now (encode_lower bytes) rest is

pub returns-in-None : goal.returns-in-None
returns-in-None c bytes rest are is =
    let bad : ◌≡◌ {A = Option ℕ} None (Some (length (encode_lower bytes))) = c.in-None.ensures ∙ digits_end c.args.line.now bytes rest are is in
    absurd (cc (bad))
