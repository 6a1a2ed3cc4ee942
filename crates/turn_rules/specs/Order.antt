-- In which order things come: each actor starts, and then each has its turn, turn after turn.
use Rattle.std.specs.Prelude.{◌≡◌, ℕ, ◌+◌, true, false, List, [], ◌∷◌, Some, None, ◌==◌, length, nat_lt, slice_get, if◌then◌else◌}
use Rattle.edge_io.specs.declared.endpoint.Endpoint.{Endpoint}
use Rattle.fabric_terms.specs.declared.command.Command.{Command}
use Rattle.turn_rules.specs.Happenings.{Datagram, Absent, Failed, Comes, Begins, Turns, Bids, Hears, Fires, Rests, Happening, History}
use Rattle.turn_rules.specs.Plans.{Plan, orders_at, is_node_at}
use Rattle.world_rules.specs.Schedules.{command_names}

-- where an actor is in its turn: before its start; before its reading; with these commands to come and so many datagrams
-- heard; before its firing
pub data Doing : Type 0 where
  Starting : Doing
  Turning : Doing
  Busy : (left : List Command) (heard : ℕ) → Doing
  Firing : Doing

-- the starts are turn 0
pub record TurnPosition : Type 0 where
  pub turn : ℕ
  pub at : ℕ
  pub doing : Doing

-- the most datagrams of a turn
abbrev pub most_heard : ℕ
most_heard = 64

-- how an actor's turn begins; a node's with a reading, an arbitrator's with what has arrived
abbrev pub entering : Plan → ℕ → ℕ → Doing
entering plan turn at = if turn == 0 then Starting else if is_node_at plan at then Turning else Busy [] 0

abbrev pub arrive : Plan → ℕ → ℕ → TurnPosition
arrive plan turn at = record { turn = turn; at = at; doing = entering plan turn at }

-- the turn of the actor at this place, or behind the last place the next turn
abbrev pub coming : Plan → ℕ → ℕ → TurnPosition
coming plan turn at = if nat_lt at (length plan.actors) then arrive plan turn at else arrive plan (turn + 1) 0

-- the next actor's turn
abbrev pub onward : Plan → ℕ → ℕ → TurnPosition
onward plan turn at = coming plan turn (at + 1)

-- a node fires once it has heard all
abbrev pub heard_all : Plan → ℕ → ℕ → TurnPosition
heard_all plan turn at = if is_node_at plan at then record { turn = turn; at = at; doing = Firing } else onward plan turn at

-- after so many datagrams
abbrev pub hearing : Plan → ℕ → ℕ → ℕ → TurnPosition
hearing plan turn at n = if nat_lt n most_heard then record { turn = turn; at = at; doing = Busy [] n } else heard_all plan turn at

-- At a place, what may come next, and what is then the place.
abbrev pub Rows : Type 1
Rows = Plan → ℕ → ℕ → Doing → Comes → TurnPosition → Type 0

-- in a run of a plan
abbrev pub Goes : Rows
Goes plan turn at Starting (Begins None) next = (is_node_at plan at ≡ false) × (next ≡ onward plan turn at)
Goes plan turn at Starting (Begins (Some reading)) next = (is_node_at plan at ≡ true) × (next ≡ onward plan turn at)
Goes plan turn at Turning (Turns reading) next = next ≡ record { turn = turn; at = at; doing = Busy (orders_at plan turn at) 0 }
Goes plan turn at (Busy (c ∷ cs) n) (Bids command) next = (command ≡ c) × (next ≡ record { turn = turn; at = at; doing = Busy cs n })
Goes plan turn at (Busy [] n) (Hears (Datagram bytes)) next = next ≡ hearing plan turn at (n + 1)
Goes plan turn at (Busy [] n) (Hears Absent) next = next ≡ heard_all plan turn at
Goes plan turn at (Busy [] n) (Hears Failed) next = next ≡ heard_all plan turn at
Goes plan turn at Firing Fires next = next ≡ onward plan turn at
Goes plan turn at _ _ next = ⊥

-- the command names what the actor at this place may be told of
abbrev pub MayBid : Plan → ℕ → Command → Type 0
MayBid plan at command = (e : Endpoint) → slice_get plan.actors at ≡ Some e → command_names plan.config e.actor command ≡ true

-- In a served run a node may be given more commands behind those of its turn, and its turn may end without a firing. All else
-- goes as in a run of a plan.
abbrev pub GoesServed : Rows
GoesServed plan turn at (Busy [] n) (Bids command) next =
    (is_node_at plan at ≡ true) × MayBid plan at command × (next ≡ record { turn = turn; at = at; doing = Busy [] n })
GoesServed plan turn at Firing Rests next = next ≡ onward plan turn at
GoesServed plan turn at doing x next = Goes plan turn at doing x next

pub record IsNext (may_go : Rows) (plan : Plan) (p : TurnPosition) (h : Happening) (next : TurnPosition) : Type 0 where
  pub turn : h.turn ≡ p.turn
  pub place : h.place ≡ p.at
  pub goes : may_go plan p.turn p.at p.doing h.comes next

-- all of this has come in order, by these rows, and this is the place after it
abbrev pub IsInOrderBy : Rows → Plan → History → TurnPosition → Type 0
IsInOrderBy may_go plan [] p = p ≡ arrive plan 0 0
IsInOrderBy may_go plan (h ∷ hs) p = (before : TurnPosition) × (IsInOrderBy may_go plan hs before × IsNext may_go plan before h p)

abbrev pub IsInOrder : Plan → History → TurnPosition → Type 0
IsInOrder = IsInOrderBy Goes

abbrev pub IsServedOrder : Plan → History → TurnPosition → Type 0
IsServedOrder = IsInOrderBy GoesServed

-- what may come in a run of a plan may come by these rows too
abbrev pub Extends : Rows → Type 0
Extends may_go = (plan : Plan) (turn at : ℕ) (doing : Doing) (x : Comes) (p : TurnPosition) → Goes plan turn at doing x p → may_go plan turn at doing x p
