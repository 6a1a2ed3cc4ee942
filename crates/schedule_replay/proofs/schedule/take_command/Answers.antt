use Rattle.std.proofs.Common.{Option, Some, ap}
use Rattle.fabric_terms.specs.declared.command.Command.{Command}
use Rattle.fabric_terms.specs.declared.event.Event.TheVariants.{Do}
use Rattle.text_fields.specs.Fields.{◌>>=◌}
use Rattle.schedule_replay.proofs.schedule.take_command.Goals as goal

pub take_event-requires-clause-fits : goal.take_event-requires-clause-fits
take_event-requires-clause-fits g c =
    c.requires.fits.fits (Do c.args.node c.in-Ok.command) (ap (λ (o : Option Command). o >>= λ x. Some (Do c.args.node x)) c.in-Ok.ensures.ok)
