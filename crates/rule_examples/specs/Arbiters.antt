-- What an arbitrator answers about a partition.
use Rattle.std.specs.Prelude.{◌≡◌, List, [], ◌∷◌, ◌++◌, Some, None}
use Rattle.ring_points.specs.declared.who.Who.{Who}
use Rattle.ring_points.specs.Whos.{node_instance}
use Rattle.fabric_terms.specs.declared.message.Body.{Body}
use Rattle.fabric_terms.specs.declared.message.Body.TheVariants as body
use Rattle.fabric_terms.specs.declared.record.Record.TheVariants as kept
use Rattle.unit_rules.specs.Deeds.{Deed, Keep, Send}
use Rattle.unit_rules.specs.Registers.{Register, Registers, empty_register, reply, reply_keeping, prepare_received, vote_received, done_received, question_received}
use Rattle.rule_examples.specs.Values.{epoch, e1, e2, e3, config}

abbrev pub n1 : Who
n1 = node_instance 1 1

abbrev pub n2 : Who
n2 = node_instance 2 1

-- what is recorded and sent to these questions, one after the other
abbrev pub deeds_to : Registers → List (Who × Body) → List Deed
deeds_to rs [] = []
deeds_to rs (q ∷ qs) = (question_received q.1 q.0 rs).deeds ++ deeds_to (question_received q.1 q.0 rs).state qs

-- A fresh arbitrator is asked by two nodes. Its first preparer is answered again, and another only in a greater epoch.
abbrev pub AnswersInOrder : Type 0
AnswersInOrder =
    deeds_to [] (
    (n1, body.Prepare 1 e2) ∷ (n1, body.Prepare 1 e2) ∷ (n2, body.Prepare 1 e2) ∷ (n2, body.Vote (config e1 1 (1 ∷ [])))
    ∷ (n1, body.DoneAsk (config e2 1 (1 ∷ []))) ∷ (n2, body.Prepare 1 e3) ∷ [])
    ≡ Keep (kept.PreparedBy 1 e2 n1) ∷ Send n1 (body.Prepared 1 e2 None)
    ∷ Send n1 (body.Prepared 1 e2 None)
    ∷ Send n2 (body.NoPrepare 1 e2 e2)
    ∷ Send n2 (body.NoVote 1 e1 e2)
    ∷ Keep (kept.DoneFor (config e2 1 (1 ∷ []))) ∷ Send n1 (body.DoneKept 1 e2)
    ∷ Keep (kept.PreparedBy 1 e3 n2) ∷ Send n2 (body.Prepared 1 e3 (Some (config e2 1 (1 ∷ []))))
    ∷ []

-- prepared for node 1
abbrev pub prepared : Register
prepared = record empty_register { prepared = Some (record { epoch = e2; preparer = n1 }) }

pub record Votes : Type 0 where
  -- whoever asks, the first vote of an epoch is kept, and answered from then on
  pub first :
      vote_received (config e2 1 (1 ∷ [])) prepared
      ≡ reply_keeping (kept.VotedFor (config e2 1 (1 ∷ []))) (body.Voted 1 e2 (config e2 1 (1 ∷ [])))
  pub second :
      vote_received (config e2 2 (2 ∷ [])) (record prepared { votes = config e2 1 (1 ∷ []) ∷ [] }) ≡ reply (body.Voted 1 e2 (config e2 1 (1 ∷ [])))
  -- of each epoch
  pub of_another :
      vote_received (config e3 2 (2 ∷ [])) (record prepared { votes = config e2 1 (1 ∷ []) ∷ [] })
      ≡ reply_keeping (kept.VotedFor (config e3 2 (2 ∷ []))) (body.Voted 1 e3 (config e3 2 (2 ∷ [])))
  -- nothing below the prepared epoch is voted for
  pub below : vote_received (config e1 1 (1 ∷ [])) prepared ≡ reply (body.NoVote 1 e1 e2)
  -- where nothing is prepared, nothing is below
  pub unprepared :
      vote_received (config e1 1 (1 ∷ [])) empty_register
      ≡ reply_keeping (kept.VotedFor (config e1 1 (1 ∷ []))) (body.Voted 1 e1 (config e1 1 (1 ∷ [])))

pub record Dones : Type 0 where
  -- a configuration is kept once
  pub again : done_received (config e2 1 (1 ∷ [])) (record prepared { done = Some (config e2 1 (1 ∷ [])) }) ≡ reply (body.DoneKept 1 e2)
  -- and a lower one does not replace it
  pub lower : done_received (config e2 2 (2 ∷ [])) (record prepared { done = Some (config e3 1 (1 ∷ [])) }) ≡ reply (body.DoneKept 1 e2)
  -- a greater one replaces it
  pub greater :
      done_received (config e3 2 (2 ∷ [])) (record prepared { done = Some (config e2 1 (1 ∷ [])) })
      ≡ reply_keeping (kept.DoneFor (config e3 2 (2 ∷ []))) (body.DoneKept 1 e3)
  -- nothing below the prepared epoch is kept
  pub below : done_received (config e1 1 (1 ∷ [])) prepared ≡ reply (body.NoDone 1 e1 e2)

pub record Prepares : Type 0 where
  -- where nothing is prepared, the epoch before all others can be
  pub first :
      prepare_received 1 (epoch 0 0) n1 empty_register ≡ reply_keeping (kept.PreparedBy 1 (epoch 0 0) n1) (body.Prepared 1 (epoch 0 0) None)
  -- its preparer has no lower epoch prepared either
  pub lower : prepare_received 1 e1 n1 prepared ≡ reply (body.NoPrepare 1 e1 e2)
  -- a restarted node is another preparer
  pub restarted : prepare_received 1 e2 (node_instance 1 2) prepared ≡ reply (body.NoPrepare 1 e2 e2)
