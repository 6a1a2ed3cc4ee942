-- Writes: at the primary, at the other members, and back.
use Rattle.std.specs.Prelude.{◌≡◌, [], ◌∷◌, Err, Ok}
use Rattle.ring_points.specs.Whos.{node_instance}
use Rattle.fabric_terms.specs.declared.message.Body.TheVariants as body
use Rattle.fabric_terms.specs.declared.record.Record.TheVariants as kept
use Rattle.fabric_terms.specs.declared.report.Report.TheVariants as report
use Rattle.fabric_terms.specs.declared.report.Reason.TheVariants as reason
use Rattle.fabric_terms.specs.declared.report.Verb.TheVariants as verb
use Rattle.replica_core.specs.declared.refusal.Done.TheVariants.{New}
use Rattle.replica_core.specs.declared.refusal.ReplicaRefusal.TheVariants.{Older, Gap}
use Rattle.replica_core.specs.declared.role.Role.TheVariants.{None as NoRole, IdleSecondary, ActiveSecondary, Primary}
use Rattle.replica_core.specs.Calls.{promise_call, append_call, adopt_own_call, adopt_call}
use Rattle.replica_core.specs.Replicas.{first_replica}
use Rattle.unit_rules.specs.Deeds.{Keep, Send, Tell, acted, still, refuse}
use Rattle.unit_rules.specs.ReplicaStates.{replica_put}
use Rattle.unit_rules.specs.Starts.{replica_of, replicas_after_all}
use Rattle.unit_rules.specs.Writes.{append_received, appended_received, write_commanded, state_fired}
use Rattle.rule_examples.specs.Values.{epoch, e1, e2, asker, entry, replica, state, peer, progress, leading}

pub record Writes : Type 0 where
  -- a write goes to each other member, whatever is next for it, and moves no next
  pub sent :
      (write_commanded (7 ∷ []) (leading (peer 2 0 1 ∷ peer 3 2 3 ∷ []) 2)).deeds
      ≡ Keep (kept.Wrote 1 e1 3 (7 ∷ [])) ∷ Tell (report.Accepted 1 e1 3)
      ∷ Send (node_instance 2 0) (body.Append 1 e1 3 (7 ∷ [])) ∷ Send (node_instance 3 0) (body.Append 1 e1 3 (7 ∷ [])) ∷ []
  pub moves_nothing : (write_commanded (7 ∷ []) (leading (peer 2 0 1 ∷ peer 3 2 3 ∷ []) 2)).state.progress ≡ progress (peer 2 0 1 ∷ peer 3 2 3 ∷ []) 2
  -- a node alone commits at once
  pub alone :
      (write_commanded (7 ∷ []) (leading [] 2)).deeds
      ≡ Keep (kept.Wrote 1 e1 3 (7 ∷ [])) ∷ Tell (report.Accepted 1 e1 3) ∷ Tell (report.Committed 1 e1 3) ∷ []
  -- nobody writes that has no primary's role, or has promised a higher epoch
  pub refused :
      write_commanded (7 ∷ []) (record (leading [] 2) { replica = replica e1 e1 ActiveSecondary [] })
      ≡ refuse verb.Write reason.NotPrimary (record (leading [] 2) { replica = replica e1 e1 ActiveSecondary [] })
  pub promised_away :
      write_commanded (7 ∷ []) (record (leading [] 2) { replica = replica e2 e1 Primary [] })
      ≡ refuse verb.Write reason.NotPrimary (record (leading [] 2) { replica = replica e2 e1 Primary [] })

pub record Appends : Type 0 where
  -- an idle secondary takes entries too
  pub taken :
      append_received asker e1 3 (7 ∷ []) (state e1 e1 IdleSecondary)
      ≡ acted (replica_put (state e1 e1 IdleSecondary)
      (record (replica e1 e1 IdleSecondary []) { log = entry 1 ∷ entry 2 ∷ record { epoch = e1; lsn = 3; bytes = 7 ∷ [] } ∷ [] }))
      (Keep (kept.Wrote 1 e1 3 (7 ∷ [])) ∷ Tell (report.Accepted 1 e1 3) ∷ Send asker (body.Appended 1 e1 3) ∷ [])
  -- and so does a replica without a role
  pub without_role :
      append_received asker e1 3 (7 ∷ []) (state e1 e1 NoRole)
      ≡ acted (replica_put (state e1 e1 NoRole)
      (record (replica e1 e1 NoRole []) { log = entry 1 ∷ entry 2 ∷ record { epoch = e1; lsn = 3; bytes = 7 ∷ [] } ∷ [] }))
      (Keep (kept.Wrote 1 e1 3 (7 ∷ [])) ∷ Tell (report.Accepted 1 e1 3) ∷ Send asker (body.Appended 1 e1 3) ∷ [])
  -- an entry that it has, and one that is too far, are answered with the last one
  pub held :
      append_received asker e1 1 (7 ∷ []) (state e1 e1 IdleSecondary) ≡ acted (state e1 e1 IdleSecondary) (Send asker (body.Appended 1 e1 2) ∷ [])
  pub gap :
      append_received asker e1 4 (7 ∷ []) (state e1 e1 IdleSecondary) ≡ acted (state e1 e1 IdleSecondary) (Send asker (body.Appended 1 e1 2) ∷ [])
  -- but not where the log is of another epoch
  pub elsewhere : append_received asker e2 3 (7 ∷ []) (state e2 e1 IdleSecondary) ≡ still (state e2 e1 IdleSecondary)
  -- a greater promised epoch is named
  pub older :
      append_received asker e1 3 (7 ∷ []) (state e2 e1 IdleSecondary) ≡ acted (state e2 e1 IdleSecondary) (Send asker (body.Older 1 e1 e2) ∷ [])

pub record Confirmations : Type 0 where
  -- of three members two are a majority
  pub commits :
      appended_received 2 e1 2 (leading (peer 2 0 1 ∷ peer 3 0 1 ∷ []) 0)
      ≡ acted (leading (peer 2 2 3 ∷ peer 3 0 1 ∷ []) 2) (Tell (report.Committed 1 e1 2) ∷ [])
  -- of five they are none
  pub waits :
      appended_received 2 e1 2 (leading (peer 2 0 1 ∷ peer 3 0 1 ∷ peer 4 0 1 ∷ peer 5 0 1 ∷ []) 0)
      ≡ still (leading (peer 2 2 3 ∷ peer 3 0 1 ∷ peer 4 0 1 ∷ peer 5 0 1 ∷ []) 0)
  -- what is committed is not committed again
  pub again : appended_received 2 e1 2 (leading (peer 2 2 3 ∷ []) 2) ≡ still (leading (peer 2 2 3 ∷ []) 2)
  -- a late lower answer takes the next to send back, and no confirmation
  pub late : appended_received 2 e1 1 (leading (peer 2 2 3 ∷ []) 2) ≡ still (leading (peer 2 2 2 ∷ []) 2)
  -- an entry that the primary has not is not confirmed
  pub past_end : appended_received 2 e1 5 (leading (peer 2 0 3 ∷ []) 0) ≡ still (leading (peer 2 0 6 ∷ []) 0)
  -- of another epoch, or of no member, nothing is noted
  pub of_another : appended_received 2 e2 2 (leading (peer 2 0 1 ∷ []) 0) ≡ still (leading (peer 2 0 1 ∷ []) 0)
  pub of_stranger : appended_received 4 e1 2 (leading (peer 2 0 1 ∷ []) 0) ≡ still (leading (peer 2 0 1 ∷ []) 0)
  -- an active secondary notes nothing
  pub elsewhere :
      appended_received 2 e1 2 (record (leading (peer 2 0 3 ∷ []) 0) { replica = replica e1 e1 ActiveSecondary [] })
      ≡ still (record (leading (peer 2 0 3 ∷ []) 0) { replica = replica e1 e1 ActiveSecondary [] })

-- a firing sends each other member the entry that is next for it, where there is one
abbrev pub FiringOfAPrimary : Type 0
FiringOfAPrimary = state_fired (leading (peer 2 0 2 ∷ peer 3 2 3 ∷ []) 2) ≡ Send (node_instance 2 0) (body.Append 1 e1 2 (2 ∷ [])) ∷ []

-- What a replica refuses that promised an epoch, also after its records were read again, and one with an empty log.
pub record Refusals : Type 0 where
  pub older :
      (append_call (epoch 0 6) 1 (7 ∷ []) (promise_call (epoch 0 7) (first_replica 1)).1).0 ≡ Err (Older (epoch 0 7))
  pub older_after_restart :
      (append_call (epoch 0 6) 1 (7 ∷ []) (replica_of 1 (replicas_after_all [] (kept.Boot 1 ∷ kept.PromisedAt 1 (epoch 0 7) ∷ kept.Boot 2 ∷ [])))).0
      ≡ Err (Older (epoch 0 7))
  pub second_first : (append_call (epoch 0 7) 2 (7 ∷ []) (adopt_own_call (epoch 0 7) 0 (first_replica 1)).1).0 ≡ Err (Gap 0)
  pub first : (append_call (epoch 0 7) 1 (7 ∷ []) (adopt_own_call (epoch 0 7) 0 (first_replica 1)).1).0 ≡ Ok New
  pub collected_second_first : (adopt_call (epoch 0 8) (entry 2) 3 (adopt_own_call (epoch 0 7) 0 (first_replica 1)).1).0 ≡ Err (Gap 0)
