-- What the devices handed in.
use Rattle.std.specs.Prelude.{◌≡◌, ℕ, ◌+◌, Bool, true, false, List, [], ◌∷◌, Option, Some, None, ◌==◌, drop, slice_get}
use Rattle.edge_io.specs.Arrivals.{next_arrival}
use Rattle.edge_io.specs.Readings.{next_reading, readings_after}
use Rattle.edge_io.specs.declared.endpoint.Endpoint.{Endpoint}
use Rattle.edge_io.specs.Told.{Told}
use Rattle.turn_rules.specs.Happenings.{LinkAnswer, Datagram, Absent, Failed, Comes, Begins, Turns, Hears, History}
use Rattle.turn_rules.specs.Plans.{Plan}

-- the readings of a history, the newest first

abbrev pub reading_in : Comes → List ℕ → List ℕ
reading_in (Begins (Some reading)) rest = reading ∷ rest
reading_in (Turns reading) rest = reading ∷ rest
reading_in _ rest = rest

abbrev pub readings_of : History → List ℕ
readings_of [] = []
readings_of (h ∷ hs) = reading_in h.comes (readings_of hs)

-- the actor at a place
abbrev pub is_endpoint_of : ℕ → Option Endpoint → Bool
is_endpoint_of actor None = false
is_endpoint_of actor (Some e) = e.actor == actor

abbrev pub is_at : Plan → ℕ → ℕ → Bool
is_at plan place actor = is_endpoint_of actor (slice_get plan.actors place)

-- the answers that an actor got, the newest first
abbrev pub answer_in : Comes → Bool → List LinkAnswer → List LinkAnswer
answer_in (Hears answer) true rest = answer ∷ rest
answer_in _ _ rest = rest

abbrev pub answers_at : Plan → ℕ → History → List LinkAnswer
answers_at plan actor [] = []
answers_at plan actor (h ∷ hs) = answer_in h.comes (is_at plan h.place actor) (answers_at plan actor hs)

-- how many answers were failures
abbrev pub failure_in : Comes → ℕ → ℕ
failure_in (Hears Failed) rest = 1 + rest
failure_in _ rest = rest

abbrev pub failures_of : History → ℕ
failures_of [] = 0
failures_of (h ∷ hs) = failure_in h.comes (failures_of hs)

-- from these readings to come, these were given, the newest first, and those are left
abbrev pub Gave : List ℕ → List ℕ → Option (List ℕ) → Type 0
Gave all [] left = left ≡ Some all
Gave all (r ∷ rs) left = (before : List ℕ) × (Gave all rs (Some before) × (r ≡ next_reading before) × (left ≡ Some (readings_after before)))

abbrev pub Arrival : Type 0
Arrival = Option (List ℕ)

-- from these arrivals, these answers were given, the newest first, and those are left
abbrev pub Answered : List Arrival → List LinkAnswer → Option (List Arrival) → Type 0
Answered all [] left = left ≡ Some all
Answered all (Failed ∷ rest) left = Answered all rest left
Answered all (Absent ∷ rest) left = (before : List Arrival) × (Answered all rest (Some before) × (next_arrival before ≡ None) × (left ≡ Some (drop 1 before)))
Answered all (Datagram bytes ∷ rest) left = (before : List Arrival) × (Answered all rest (Some before) × (next_arrival before ≡ Some bytes) × (left ≡ Some (drop 1 before)))

-- where they tell, the clock gave the readings of the history, and the links its answers
pub record Handed (plan : Plan) (h : History) (a b : Told) : Type 0 where
  pub read : (all : List ℕ) → a.readings ≡ Some all → Gave all (readings_of h) b.readings
  pub heard : (actor : ℕ) (all : List Arrival) → a.arrivals actor ≡ Some all → Answered all (answers_at plan actor h) (b.arrivals actor)
