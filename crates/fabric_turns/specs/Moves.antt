-- From one place of a run to another.
use Rattle.std.specs.Prelude.{ℕ, Bool, true, false, Result, Ok, Err}
use Rattle.edge_io.specs.Told.{Told}
use Rattle.fabric_turns.specs.Runs.{Run, At, AtBy}
use Rattle.turn_rules.specs.Ends.{Stopped, StoppedBy}
use Rattle.turn_rules.specs.Happenings.{History}
use Rattle.turn_rules.specs.Order.{Doing, Rows, TurnPosition}
use Rattle.turn_rules.specs.Order as order
use Rattle.turn_rules.specs.Plans.{Setting}
use Rattle.turn_rules.specs.declared.stop_cause.StopCause.{StopCause}

-- all went well and the run is at this place, or it stopped
abbrev pub ReachesBy : Rows → Setting → Told → Told → Run → History → TurnPosition → Result (Unit {0}) StopCause → Type 0
ReachesBy may_go s a b run h p (Ok done) = AtBy may_go s a b run h p
ReachesBy may_go s a b run h p (Err stopped) = StoppedBy may_go s a b stopped

-- in a run of its plan
abbrev pub Reaches : Setting → Told → Told → Run → History → TurnPosition → Result (Unit {0}) StopCause → Type 0
Reaches = ReachesBy order.Goes

-- the same, after what came meanwhile
abbrev pub ComesTo : Setting → Told → Told → Run → TurnPosition → Result (Unit {0}) StopCause → Type 0
ComesTo s a b run p (Ok done) = (h : History) × At s a b run h p
ComesTo s a b run p (Err stopped) = Stopped s a b stopped

-- From one place the run comes to another, or it stops, whatever came before.
abbrev pub Goes : Setting → Told → Run → TurnPosition → Told → Run → TurnPosition → Result (Unit {0}) StopCause → Type 0
Goes s b run p c run' p' result = (a : Told) (h : History) → At s a b run h p → ComesTo s a c run' p' result

-- it has come to the other place
abbrev pub Leads : Setting → Told → Run → TurnPosition → Told → Run → TurnPosition → Type 0
Leads s b run p c run' p' = (a : Told) (h : History) → At s a b run h p → (now : History) × At s a c run' now p'

-- one question to the links: a datagram, and the next is the place; or none, and the other is
abbrev pub Asks : Setting → Told → Run → TurnPosition → Told → Run → TurnPosition → TurnPosition → Result Bool StopCause → Type 0
Asks s b run p c run' more none (Ok true) = Leads s b run p c run' more
Asks s b run p c run' more none (Ok false) = Leads s b run p c run' none
Asks s b run p c run' more none (Err stopped) = (a : Told) (h : History) → At s a b run h p → Stopped s a c stopped

abbrev pub at_place : ℕ → ℕ → Doing → TurnPosition
at_place turn at doing = record { turn = turn; at = at; doing = doing }
