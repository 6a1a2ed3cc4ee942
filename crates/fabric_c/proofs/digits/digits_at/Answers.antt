use Rattle.fabric_c.proofs.BeforeBlanks.{decoded_is}
use Rattle.fabric_c.proofs.digits.digits_at.Goals as goal

pub returns : goal.returns
returns c bytes rest are is = decoded_is (λ v. v.items) c.decode.result c.digits_of.result.now bytes are (c.digits_of.ensures bytes rest are is) c.decode.ensures.ok c.decode.ensures.err
