-- A replica's rows: Promise, Sync, Fetch, Piece, Activate.
use Rattle.std.specs.Prelude.{◌≡◌, true, false, [], ◌∷◌, Some}
use Rattle.ring_points.specs.Whos.{node_instance}
use Rattle.fabric_terms.specs.declared.message.Body.TheVariants as body
use Rattle.fabric_terms.specs.declared.record.Record.TheVariants as kept
use Rattle.fabric_terms.specs.declared.report.Report.TheVariants as report
use Rattle.replica_core.specs.declared.role.Role.TheVariants.{None as NoRole, IdleSecondary, ActiveSecondary, Primary}
use Rattle.unit_rules.specs.Deeds.{Keep, Send, Tell, acted, still}
use Rattle.unit_rules.specs.Promises.{promise_received}
use Rattle.unit_rules.specs.Copies.{sync_received, fetch_received, piece_received}
use Rattle.unit_rules.specs.Activations.{activate_received}
use Rattle.rule_examples.specs.Values.{e1, e2, e3, asker, entry, replica, state, peer, leading, begun_with, catch_up, collecting, config}

pub record Promises : Type 0 where
  -- a promise that is raised is recorded and told, and takes a primary's role
  pub raised :
      promise_received asker e2 (state e1 e1 Primary)
      ≡ acted (state e2 e1 ActiveSecondary)
      (Keep (kept.PromisedAt 1 e2) ∷ Tell (report.Promised 1 e2) ∷ Send asker (body.Promised 1 e2 e1 2) ∷ [])
  -- the same again is only answered
  pub again : promise_received asker e1 (state e1 e1 Primary) ≡ acted (state e1 e1 Primary) (Send asker (body.Promised 1 e1 e1 2) ∷ [])
  -- a greater one that was promised is named
  pub older : promise_received asker e1 (state e2 e1 NoRole) ≡ acted (state e2 e1 NoRole) (Send asker (body.Older 1 e1 e2) ∷ [])

pub record Syncs : Type 0 where
  -- a Sync of the epoch of the log is answered with the own last entry and told to nobody, and the role stays
  pub again : sync_received 1 (catch_up e1 5 9) (state e1 e1 Primary) ≡ acted (state e1 e1 Primary) (Send asker (body.Adopted 1 e1 2) ∷ [])
  -- a greater promised epoch is named
  pub older : sync_received 1 (catch_up e1 5 2) (state e2 e1 NoRole) ≡ acted (state e2 e1 NoRole) (Send asker (body.Older 1 e1 e2) ∷ [])
  -- a Sync of nothing empties the log; its record is not of an own log, and nothing is told of it
  pub nothing :
      (sync_received 1 (catch_up e2 5 0) (state e1 e1 Primary)).deeds
      ≡ Keep (kept.PromisedAt 1 e2) ∷ Tell (report.Promised 1 e2) ∷ Keep (kept.AdoptedAt 1 e2 0 false) ∷ Send asker (body.Adopted 1 e2 0) ∷ []
  -- a Sync of the own log keeps it
  pub own :
      (sync_received 1 (catch_up e2 1 2) (state e2 e1 ActiveSecondary)).deeds
      ≡ Keep (kept.AdoptedAt 1 e2 2 true) ∷ Tell (report.Adopted 1 e2 2) ∷ Send asker (body.Adopted 1 e2 2) ∷ []
  -- of the own log with another end nothing comes; the promise and the role stay
  pub gap :
      sync_received 1 (catch_up e2 1 3) (state e1 e1 Primary)
      ≡ acted (record (state e2 e1 IdleSecondary) { catch_up = Some (catch_up e2 1 3) }) (Keep (kept.PromisedAt 1 e2) ∷ Tell (report.Promised 1 e2) ∷ [])
  -- of another's log the next entry after those collected is asked for
  pub other :
      (sync_received 1 (catch_up e2 5 3) (record (state e2 e1 NoRole) { replica = replica e2 e1 NoRole (entry 1 ∷ []) })).deeds
      ≡ Send (node_instance 5 0) (body.Fetch 1 e2 2) ∷ []

pub record Fetches : Type 0 where
  -- an entry of the log is given in the promised epoch
  pub given :
      fetch_received asker e2 2 (state e2 e1 NoRole)
      ≡ acted (state e2 e1 NoRole) (Send asker (body.Piece 1 e2 2 e1 (2 ∷ [])) ∷ [])
  -- and in no other, also where it is the log's
  pub silent : fetch_received asker e1 2 (state e2 e1 NoRole) ≡ still (state e2 e1 NoRole)
  -- an entry that is not in the log is not given
  pub past_end : fetch_received asker e2 3 (state e2 e1 NoRole) ≡ still (state e2 e1 NoRole)
  pub before_first : fetch_received asker e2 0 (state e2 e1 NoRole) ≡ still (state e2 e1 NoRole)

pub record Pieces : Type 0 where
  -- an entry is collected, and the next one asked for from the origin, whoever sent this one
  pub collected :
      piece_received e2 (entry 1) (collecting [])
      ≡ acted (collecting (entry 1 ∷ [])) (Keep (kept.Incoming 1 e2 1 e1 (1 ∷ [])) ∷ Send (node_instance 5 0) (body.Fetch 1 e2 2) ∷ [])
  -- the last one makes what is collected the log, and who asked for the Sync is answered
  pub last :
      piece_received e2 (entry 2) (collecting (entry 1 ∷ []))
      ≡ acted (record (collecting []) { replica = replica e2 e2 IdleSecondary [] })
      (Keep (kept.Incoming 1 e2 2 e1 (2 ∷ []))
      ∷ Keep (kept.AdoptedAt 1 e2 2 false) ∷ Tell (report.Adopted 1 e2 2) ∷ Send asker (body.Adopted 1 e2 2) ∷ [])
  -- a first one that is collected already is recorded again, and the next one asked for again
  pub first_again :
      piece_received e2 (entry 1) (collecting (entry 1 ∷ []))
      ≡ acted (collecting (entry 1 ∷ [])) (Keep (kept.Incoming 1 e2 1 e1 (1 ∷ [])) ∷ Send (node_instance 5 0) (body.Fetch 1 e2 2) ∷ [])
  -- none is taken once a greater epoch is promised
  pub promised_away :
      piece_received e2 (entry 1) (record (collecting []) { replica = replica e3 e1 IdleSecondary [] })
      ≡ still (record (collecting []) { replica = replica e3 e1 IdleSecondary [] })
  -- none is taken past the end of the Sync, none of another epoch, and none without a Sync
  pub past_end : piece_received e2 (entry 3) (collecting (entry 1 ∷ entry 2 ∷ [])) ≡ still (collecting (entry 1 ∷ entry 2 ∷ []))
  pub of_another : piece_received e3 (entry 1) (collecting []) ≡ still (collecting [])
  pub unasked : piece_received e2 (entry 1) (state e2 e1 IdleSecondary) ≡ still (state e2 e1 IdleSecondary)
  -- and none where one before it is missing
  pub gap : piece_received e2 (entry 2) (collecting []) ≡ still (collecting [])

pub record Activations : Type 0 where
  -- a primary begins with all that it has committed, and with nothing confirmed
  pub primary :
      activate_received 1 asker (config e1 1 (1 ∷ 2 ∷ [])) (state e1 e1 IdleSecondary)
      ≡ acted (begun_with (peer 2 0 3 ∷ []) 2) (Tell (report.IsPrimary 1 e1) ∷ Send asker (body.Activated 1 e1) ∷ [])
  -- another member only answers
  pub secondary :
      activate_received 2 asker (config e1 1 (1 ∷ 2 ∷ [])) (state e1 e1 IdleSecondary)
      ≡ acted (state e1 e1 ActiveSecondary) (Send asker (body.Activated 1 e1) ∷ [])
  -- the same again is only answered, and what the primary knows stays
  pub again :
      activate_received 1 asker (config e1 1 (1 ∷ 2 ∷ [])) (leading (peer 2 2 3 ∷ []) 2)
      ≡ acted (leading (peer 2 2 3 ∷ []) 2) (Send asker (body.Activated 1 e1) ∷ [])
  -- after a restart it has no role, so it says again that it is primary
  pub restarted :
      activate_received 1 asker (config e1 1 (1 ∷ 2 ∷ [])) (state e1 e1 NoRole)
      ≡ acted (begun_with (peer 2 0 3 ∷ []) 2) (Tell (report.IsPrimary 1 e1) ∷ Send asker (body.Activated 1 e1) ∷ [])
  -- a greater promised epoch is named; that it is no member, or has no log of the epoch, is not answered
  pub older :
      activate_received 1 asker (config e1 1 (1 ∷ [])) (state e2 e1 Primary)
      ≡ acted (state e2 e1 Primary) (Send asker (body.Older 1 e1 e2) ∷ [])
  pub no_member : activate_received 1 asker (config e1 2 (2 ∷ [])) (state e1 e1 NoRole) ≡ still (state e1 e1 NoRole)
  pub gap : activate_received 1 asker (config e2 1 (1 ∷ [])) (state e1 e1 NoRole) ≡ still (state e1 e1 NoRole)
