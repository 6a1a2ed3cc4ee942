use Rattle.std.proofs.Common.{ap, sym, ◌∙◌, drop}
use Rattle.std.specs.Prelude.{◌==◌, position}
use Rattle.edge_io.specs.Arrivals.{next_arrival}
use Rattle.edge_io.specs.Memory.{told_datagram}
use Rattle.edge_io.proofs.ToldArrivals.{at, none_arrives, next_arrives, others_stay}
use Rattle.edge_io.proofs.mem_links.take_next.Goals as goal

pub returns-in_err-place-clause-next : goal.returns-in_err-place-clause-next
returns-in_err-place-clause-next c =
    let found = ap (position (λ e. e.0 == c.args.actor)) (sym c.deref.ensures.value) ∙ sym c.in_err-place.ensures in
    let none = none_arrives c.args.arrivals.now.items c.args.actor found in
    ap told_datagram c.from_residual.ensures ∙ sym (ap next_arrival none)

pub returns-in_err-place-clause-rest : goal.returns-in_err-place-clause-rest
returns-in_err-place-clause-rest c =
    let found = ap (position (λ e. e.0 == c.args.actor)) (sym c.deref.ensures.value) ∙ sym c.in_err-place.ensures in
    let none = none_arrives c.args.arrivals.now.items c.args.actor found in
    none ∙ sym (ap (drop 1) none)

pub returns-clause-next : goal.returns-clause-next
returns-clause-next c =
    let found = ap (position (λ e. e.0 == c.args.actor)) (sym c.deref.ensures.value) ∙ sym c.in_ok-place.ensures in
    let next = next_arrives c.args.arrivals.now.items c.in_ok-place.place c.args.actor c.remove-arrival.result found in
    ap (λ e. told_datagram e.1) c.remove-arrival.ensures.value ∙ sym (ap next_arrival next)

pub returns-clause-rest : goal.returns-clause-rest
returns-clause-rest c =
    let found = ap (position (λ e. e.0 == c.args.actor)) (sym c.deref.ensures.value) ∙ sym c.in_ok-place.ensures in
    let next = next_arrives c.args.arrivals.now.items c.in_ok-place.place c.args.actor c.remove-arrival.result found in
    ap (at c.args.actor) c.remove-arrival.ensures.items ∙ sym (ap (drop 1) next)

pub returns-clause-others : goal.returns-clause-others
returns-clause-others c other differ =
    let found = ap (position (λ e. e.0 == c.args.actor)) (sym c.deref.ensures.value) ∙ sym c.in_ok-place.ensures in
    ap (at other) c.remove-arrival.ensures.items ∙ others_stay c.args.arrivals.now.items c.in_ok-place.place c.args.actor c.remove-arrival.result found other differ
