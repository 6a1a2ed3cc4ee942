-- A run that ends before all of its endpoints are open.
use Rattle.std.proofs.Common.{arith, ◌<◌, ℕ, List, ◌++◌, take, Option, Err, ap, sym, ◌∙◌, inl, inr, ⊎_elim}
use Rattle.std.proofs.lemmas.List.{append-nil}
use Rattle.edge_io.specs.declared.endpoint.Endpoint.{Endpoint}
use Rattle.fabric_terms.specs.declared.record.Record.{Record}
use Rattle.fabric_turns.proofs.Recalling.{untouched_on}
use Rattle.fabric_turns.specs.Opening.{OnlyRecalled, OpensAll, RecalledAll, RecallsAll}
use Rattle.keep_log.specs.declared.kept.Kept.{Kept}
use Rattle.edge_io.specs.Told.{Told}
use Rattle.turn_rules.specs.Plans.{Plan}
use Rattle.turn_rules.specs.Whole.{Ends, OpenedOnly, Opening}
use Rattle.turn_rules.specs.declared.stop_cause.StopCause.{StopCause}
use Rattle.turn_rules.specs.declared.stop_cause.StopCause.TheVariants as stop

-- the records could not be read, or one is bad

opened_none : (plan : Plan) (a b : Told) → OnlyRecalled a b → OpenedOnly plan 0 a b
opened_none plan a b p = record { untouched = p.untouched; opened = p.opened ∙ sym (append-nil a.opened) }

pub ends_recalling : (plan : Plan) (a b : Told) (r : StopCause) → RecallsAll plan a (Err r) b → Ends plan a (Err r) b
ends_recalling plan a b stop.OutOfMemory k = inl (opened_none plan a b k)
ends_recalling plan a b stop.KeepFault k = inl (opened_none plan a b k.0, k.1)
ends_recalling plan a b (stop.BadKeep i) k = (k.0, opened_none plan a b k.1)
ends_recalling plan a b stop.WriteFault k = absurd k
ends_recalling plan a b stop.LinkFault k = absurd k
ends_recalling plan a b (stop.ClockBack former latter) k = absurd k
ends_recalling plan a b (stop.Left why) k = absurd k
ends_recalling plan a b stop.TableFull k = absurd k

-- an endpoint could not be opened; the records were read before

opened_on : (plan : Plan) (n : ℕ) (a b c : Told) → OnlyRecalled a b → OpenedOnly plan n b c → OpenedOnly plan n a c
opened_on plan n a b c p o = record {
  untouched = untouched_on a b c p.untouched o.untouched;
  opened = o.opened ∙ ap (λ (es : List Endpoint). es ++ take n plan.actors) p.opened;
}

opening : (plan : Plan) (n : ℕ) (list : List (List Record)) (kept : List (Option Kept)) (a b c : Told) → RecalledAll plan a list kept b → OpenedOnly plan n b c → Opening plan n a c
opening plan n list kept a b c k o = record { kept = list; recalled = k.recalled; all = k.are_kept.all; opened = opened_on plan n a b c k.only o }

pub ends_opening : (plan : Plan) (list : List (List Record)) (kept : List (Option Kept)) (a b c : Told) (r : StopCause) → RecalledAll plan a list kept b → OpensAll plan b (Err r) c → Ends plan a (Err r) c
ends_opening plan list kept a b c stop.OutOfMemory k o = inr (inl (o.0, opening plan o.0 list kept a b c k o.1))
ends_opening plan list kept a b c stop.LinkFault k o = (
  o.0,
  (
    o.1.0,
    opening plan o.0 list kept a b c k o.1.1,
    ⊎_elim (λ (h : b.link_faults < c.link_faults). inl (omega (arith, k.only.untouched.links))) (λ full. inr full) o.1.2,
  ),
)
ends_opening plan list kept a b c stop.KeepFault k o = absurd o
ends_opening plan list kept a b c (stop.BadKeep i) k o = absurd o
ends_opening plan list kept a b c stop.WriteFault k o = absurd o
ends_opening plan list kept a b c (stop.ClockBack former latter) k o = absurd o
ends_opening plan list kept a b c (stop.Left why) k o = absurd o
ends_opening plan list kept a b c stop.TableFull k o = absurd o
