-- The place after what has come is one.
use Rattle.std.proofs.Common.{◌≡◌, ℕ, [], ◌∷◌, Some, None, sym, subst, ◌∙◌}
use Rattle.turn_rules.specs.Happenings.{Datagram, Absent, Failed, Comes, Begins, Turns, Bids, Hears, Fires, Rests}
use Rattle.turn_rules.specs.Laws.{OnePlace}
use Rattle.turn_rules.specs.Order.{Doing, Starting, Turning, Busy, Firing, Goes, GoesServed, IsNext, TurnPosition}
use Rattle.turn_rules.specs.Plans.{Plan}
use Rattle.turn_rules.proofs.Served.{plans_are_served}

goes_once : (plan : Plan) (turn at : ℕ) (doing : Doing) (x : Comes) (p q : TurnPosition) → GoesServed plan turn at doing x p → GoesServed plan turn at doing x q → p ≡ q
goes_once plan turn at Starting (Begins None) p q g h = g.1 ∙ sym h.1
goes_once plan turn at Starting (Begins (Some reading)) p q g h = g.1 ∙ sym h.1
goes_once plan turn at Starting (Turns reading) p q g h = absurd g
goes_once plan turn at Starting (Bids command) p q g h = absurd g
goes_once plan turn at Starting (Hears answer) p q g h = absurd g
goes_once plan turn at Starting Fires p q g h = absurd g
goes_once plan turn at Starting Rests p q g h = absurd g
goes_once plan turn at Turning (Begins reading) p q g h = absurd g
goes_once plan turn at Turning (Turns reading) p q g h = g ∙ sym h
goes_once plan turn at Turning (Bids command) p q g h = absurd g
goes_once plan turn at Turning (Hears answer) p q g h = absurd g
goes_once plan turn at Turning Fires p q g h = absurd g
goes_once plan turn at Turning Rests p q g h = absurd g
goes_once plan turn at (Busy [] n) (Begins reading) p q g h = absurd g
goes_once plan turn at (Busy [] n) (Turns reading) p q g h = absurd g
goes_once plan turn at (Busy [] n) (Bids command) p q g h = g.2 ∙ sym h.2
goes_once plan turn at (Busy [] n) (Hears (Datagram bytes)) p q g h = g ∙ sym h
goes_once plan turn at (Busy [] n) (Hears Absent) p q g h = g ∙ sym h
goes_once plan turn at (Busy [] n) (Hears Failed) p q g h = g ∙ sym h
goes_once plan turn at (Busy [] n) Fires p q g h = absurd g
goes_once plan turn at (Busy [] n) Rests p q g h = absurd g
goes_once plan turn at (Busy (c ∷ cs) n) (Begins reading) p q g h = absurd g
goes_once plan turn at (Busy (c ∷ cs) n) (Turns reading) p q g h = absurd g
goes_once plan turn at (Busy (c ∷ cs) n) (Bids command) p q g h = g.1 ∙ sym h.1
goes_once plan turn at (Busy (c ∷ cs) n) (Hears answer) p q g h = absurd g
goes_once plan turn at (Busy (c ∷ cs) n) Fires p q g h = absurd g
goes_once plan turn at (Busy (c ∷ cs) n) Rests p q g h = absurd g
goes_once plan turn at Firing (Begins reading) p q g h = absurd g
goes_once plan turn at Firing (Turns reading) p q g h = absurd g
goes_once plan turn at Firing (Bids command) p q g h = absurd g
goes_once plan turn at Firing (Hears answer) p q g h = absurd g
goes_once plan turn at Firing Fires p q g h = g ∙ sym h
goes_once plan turn at Firing Rests p q g h = g ∙ sym h

pub one_served_place : OnePlace GoesServed
one_served_place plan [] p q a b = a ∙ sym b
one_served_place plan (x ∷ h) p q a b =
    let same : a.0 ≡ b.0 = one_served_place plan h a.0 b.0 a.1.0 b.1.0 in
    let P : TurnPosition → Type 0 = λ r. IsNext GoesServed plan r x p in
    let next : IsNext GoesServed plan b.0 x p = subst P same a.1.1 in
    goes_once plan b.0.turn b.0.at b.0.doing x.comes p q next.goes b.1.1.goes

pub one_place : OnePlace Goes
one_place plan h p q a b = one_served_place plan h p q (plans_are_served plan h p a) (plans_are_served plan h q b)
