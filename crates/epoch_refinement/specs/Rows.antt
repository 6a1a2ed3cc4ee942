-- The rows of one partition, by the frames that make them.
use Rattle.std.specs.Prelude.{Option, Some, None}
use Rattle.ring_points.specs.declared.who.Who.{Who}
use Rattle.fabric_terms.specs.declared.message.Body.{Body}
use Rattle.fabric_terms.specs.declared.message.Body.TheVariants as body
use Rattle.unit_rules.specs.Activations.{activate_received}
use Rattle.unit_rules.specs.Copies.{sync_received, fetch_received, piece_received}
use Rattle.unit_rules.specs.Deeds.{Acted, still}
use Rattle.unit_rules.specs.Promises.{promise_received}
use Rattle.unit_rules.specs.Registers.{Register, Reply, prepare_received, vote_received, done_received}
use Rattle.unit_rules.specs.ReplicaStates.{ReplicaState}
use Rattle.unit_rules.specs.Writes.{append_received, appended_received}

-- what the replica at the node of me makes of a frame from x
abbrev pub state_received : (me x : Who) → Body → ReplicaState → Acted ReplicaState
state_received me x (body.Promise p epoch) s = promise_received x epoch s
state_received me x (body.Sync p epoch origin last) s = sync_received me.actor (record { epoch = epoch; origin = origin; last = last; asker = x }) s
state_received me x (body.Fetch p epoch lsn) s = fetch_received x epoch lsn s
state_received me x (body.Piece p epoch lsn entry_epoch text) s = piece_received epoch (record { epoch = entry_epoch; lsn = lsn; bytes = text }) s
state_received me x (body.Activate config) s = activate_received me.actor x config s
state_received me x (body.Append p epoch lsn text) s = append_received x epoch lsn text s
state_received me x (body.Appended p epoch last) s = appended_received x.actor epoch last s
state_received me x _ s = still s

-- what an arbitrator's register answers x
abbrev pub register_answers : Who → Body → Register → Option Reply
register_answers x (body.Prepare p epoch) r = Some (prepare_received p epoch x r)
register_answers x (body.Vote config) r = Some (vote_received config r)
register_answers x (body.DoneAsk config) r = Some (done_received config r)
register_answers x _ r = None
