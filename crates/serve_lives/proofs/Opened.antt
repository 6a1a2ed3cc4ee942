-- A life opens and closes no endpoint.
use Rattle.std.proofs.Common.{◌≡◌, List, ap, ◌∙◌}
use Rattle.edge_io.specs.Told.{Told}
use Rattle.fabric_terms.specs.declared.record.Record.{Record}
use Rattle.serve_turns.specs.Live.{Around, Beginning, Live}
use Rattle.serve_turns.specs.Lives.{ClosesFor, IsLife}
use Rattle.serve_turns.specs.Moves.{Ends}
use Rattle.serve_turns.specs.declared.life.LifeEnd.{LifeEnd}
use Rattle.serve_turns.specs.declared.life.LifeEnd.TheVariants as end
use Rattle.turn_rules.specs.Plans.{Plan}
use Rattle.turn_rules.specs.declared.stop_cause.StopCause.{StopCause}
use Rattle.turn_rules.specs.declared.stop_cause.StopCause.TheVariants as stop

ends_opened : (plan : Plan) (o : Beginning) (b : Around) (l : Live) (cause : StopCause) → Ends plan o b l cause → b.told.opened ≡ o.told.opened
ends_opened plan o b l stop.OutOfMemory e = e.1.actor.stays.opened
ends_opened plan o b l stop.KeepFault e = e.1.0.actor.stays.opened
ends_opened plan o b l (stop.ClockBack former latter) e = e.0.actor.stays.opened
ends_opened plan o b l (stop.Left why) e = e.actor.stays.opened
ends_opened plan o b l stop.TableFull e = e.actor.stays.opened
ends_opened plan o b l stop.WriteFault e = absurd e
ends_opened plan o b l stop.LinkFault e = absurd e
ends_opened plan o b l (stop.BadKeep i) e = absurd e

-- to close answers does nothing at the devices of the actor
closes_told : (cause : StopCause) (b : Around) (l : Live) (c : Around) (m : Live) → ClosesFor cause b l c m → c.told ≡ b.told
closes_told (stop.Left why) b l c m k = ap (λ (x : Around). x.told) k.around
closes_told stop.OutOfMemory b l c m k = ap (λ (x : Around). x.told) k.0
closes_told stop.KeepFault b l c m k = ap (λ (x : Around). x.told) k.0
closes_told (stop.ClockBack former latter) b l c m k = ap (λ (x : Around). x.told) k.0
closes_told stop.TableFull b l c m k = ap (λ (x : Around). x.told) k.0
closes_told stop.WriteFault b l c m k = ap (λ (x : Around). x.told) k.0
closes_told stop.LinkFault b l c m k = ap (λ (x : Around). x.told) k.0
closes_told (stop.BadKeep i) b l c m k = ap (λ (x : Around). x.told) k.0

pub life_opened : (plan : Plan) (records : List Record) (a : Around) (l : Live) (e : LifeEnd) (b : Around) (m : Live) → IsLife plan records a l e b m → b.told.opened ≡ a.told.opened
life_opened plan records a l end.Told b m t = t.at.run.stays.opened
life_opened plan records a l end.Spent b m t = t.1.run.stays.opened
life_opened plan records a l (end.Stopped cause) b m t =
    ap (λ (x : Told). x.opened) (closes_told cause t.around t.live b m t.closes) ∙ ends_opened plan _ t.around t.live cause t.ends
