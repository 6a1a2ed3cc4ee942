use Rattle.std.proofs.Common.{◌≡◌, Some, refl}
use Rattle.turn_effects.proofs.Growing.{encoded}
use Rattle.turn_effects.proofs.Sending.{posted_to}
use Rattle.turn_effects.proofs.frames.send_one.Goals as goal
use Rattle.turn_rules.specs.Works.{address_of}

pub returns-in-Some : goal.returns-in-Some
returns-in-Some g c =
    let e : address_of c.args.config.now c.args.frame.now.to.actor ≡ Some c.in-Some.at.now = rw (← c.address_of.ensures, c.in-Some.is) refl in
    posted_to c.args.config.now c.args.actor c.args.frame.now c.in-Some.at.now _ _ _ c.try_send.result e (encoded _ _ _ _ c.encode-length.ensures.written c.encode-length.ensures.length) c.try_send.ensures
