use Rattle.std.proofs.Common.{ℕ, List, Option, Some, ap}
use Rattle.fabric_terms.specs.declared.event.Event.TheVariants.{Junk}
use Rattle.text_fields.specs.Fields.{◌>>=◌}
use Rattle.schedule_replay.proofs.schedule.take_junk.Goals as goal

pub take_event-requires-clause-fits : goal.take_event-requires-clause-fits
take_event-requires-clause-fits g c =
    c.requires.fits.fits (Junk c.args.actor c.in-Ok.bytes) (ap (λ (o : Option (List ℕ)). o >>= λ x. Some (Junk c.args.actor x)) c.in-Ok.ensures)
