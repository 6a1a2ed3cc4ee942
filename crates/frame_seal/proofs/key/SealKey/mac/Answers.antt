use Rattle.std.proofs.Common.{◌++◌, ℕ, List, ap, subst, ◌∙◌}
use Rattle.std.specs.Int.{w16, to_be_bytes}
use Rattle.sha2.specs.Hashers.{Holds256}
use Rattle.frame_seal.specs.Hmac.{turned}
use Rattle.frame_seal.specs.Seals.{hashed, mac_of, purpose}
use Rattle.frame_seal.proofs.Sealed.{nested}
use Rattle.frame_seal.proofs.key.SealKey.mac.Goals as goal

pub returns : goal.returns
unfolding mac_of
returns c = rw (← c.self.view_is) (
    let key : List ℕ = turned 0x36 c.self.inside.block in
    let sum : List ℕ = c.self.inside.checksum in
    let sender : List ℕ = to_be_bytes w16 c.args.from in
    let receiver : List ℕ = c.to_be_bytes-2.result in
    let one = c.update.ensures key c.begin-inner.ensures in
    let two = c.update-2.ensures _ one in
    let three = c.update-3.ensures _ two in
    let four = c.update-4.ensures _ three in
    let five = c.update-5.ensures _ four in
    let pieces = nested key purpose sum c.to_be_bytes.result receiver c.args.frame.now
    ∙ ap (λ (f : List ℕ). key ++ (purpose ++ sum ++ f ++ receiver ++ c.args.frame.now)) c.to_be_bytes.ensures
    ∙ ap (λ (t : List ℕ). key ++ (purpose ++ sum ++ sender ++ t ++ c.args.frame.now)) c.to_be_bytes-2.ensures in
    c.end.ensures (hashed (record { block = c.self.inside.block; checksum = sum }) c.args.from c.args.to c.args.frame.now)
    (subst (Holds256 c.update-5.new.self) pieces five))
