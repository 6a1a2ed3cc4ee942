use Rattle.std.proofs.Common.{inl, inr, Err, ap, ◌∙◌, Result}
use Rattle.edge_io.specs.declared.refusal.EdgeRefusal.{EdgeRefusal}
use Rattle.turn_effects.proofs.Sending.{tried}
use Rattle.turn_effects.proofs.frames.try_send.Goals as goal

pub returns-in-Ok : goal.returns-in-Ok
returns-in-Ok g c = tried c.args.actor c.args.at.now c.args.bytes.now _ c.send.result _ c.send.ensures (inl c.in-Ok.is)

pub returns-in-Err-Failed : goal.returns-in-Err-Failed
returns-in-Err-Failed g c =
    let f : EdgeRefusal → Result (Unit {0}) EdgeRefusal = λ x. Err x in
    tried c.args.actor c.args.at.now c.args.bytes.now _ c.send.result _ c.send.ensures (inr (c.in-Err-Failed.is ∙ ap f c.in-Err-Failed.field-0-is))
