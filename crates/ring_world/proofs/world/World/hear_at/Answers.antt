use Rattle.std.proofs.Common.{◌+◌, arith}
use Rattle.std.proofs.lemmas.Result.{on_err_weaker, IfOk-weaker}
use Rattle.ring_world.proofs.Entries.{seat_rises}
use Rattle.ring_world.proofs.SeatHearing.{unheard, heard}
use Rattle.ring_world.proofs.Seats.{seat_at}
use Rattle.ring_world.proofs.world.World.hear_at.Goals as goal

pub hear-requires-clause-few : goal.hear-requires-clause-few
hear-requires-clause-few c =
    let can = c.requires.can in
    let seat = seat_at c.args.self.now can.0 c.args.place c.index_mut-seat.result.now can.1 c.requires.place c.index_mut-seat.ensures.value in
    omega (arith, seat.few, c.requires.events)

pub hear-requires-clause-rise : goal.hear-requires-clause-rise
hear-requires-clause-rise c =
    let can = c.requires.can in
    seat_rises can.0 c.args.self.now.events (c.args.place + 1) c.index_mut-seat.result.now
    (seat_at c.args.self.now can.0 c.args.place c.index_mut-seat.result.now can.1 c.requires.place c.index_mut-seat.ensures.value)

pub returns-clause-refused : goal.returns-clause-refused
returns-clause-refused c =
    on_err_weaker c.hear.result
    (unheard c.args.self.now c.args.place c.index_mut-seat.result.now c.hear.new.self c.reserve.new.self c.requires.place c.index_mut-seat.ensures.value c.in_ok-reserve.ensures.frames)
    c.hear.ensures.refused

pub returns-clause-heard : goal.returns-clause-heard
returns-clause-heard c =
    IfOk-weaker c.hear.result _ _
    (λ reply h. heard c.args.self.now c.args.place c.index_mut-seat.result.now c.hear.new.self c.reserve.new.self c.requires.place c.index_mut-seat.ensures.value c.in_ok-reserve.ensures.frames
    c.args.message.now reply c.in_ok-reserve.ensures.room h)
    c.hear.ensures.hears
