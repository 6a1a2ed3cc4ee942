-- The phases of a reconfiguration, one answer at a time.
use Rattle.std.specs.Prelude.{◌≡◌, ℕ, true, List, [], ◌∷◌, Option, Some, None, Result, Ok, Err}
use Rattle.ring_points.specs.declared.unit.Config.{Config}
use Rattle.ring_points.specs.Whos.{node_instance}
use Rattle.fabric_terms.specs.declared.message.Body.TheVariants as body
use Rattle.failover_units.specs.declared.refusal.UnitRefusal.TheVariants as refusal
use Rattle.replica_place.specs.declared.load.NodeLoad.{NodeLoad}
use Rattle.unit_rules.specs.declared.reconfig.Kind.{Kind}
use Rattle.unit_rules.specs.declared.reconfig.Kind.TheVariants.{Create, Swap, Heal, Lose}
use Rattle.unit_rules.specs.declared.reconfig.Next.{Next}
use Rattle.unit_rules.specs.declared.reconfig.Next.TheVariants as next
use Rattle.unit_rules.specs.declared.reconfig.Standing.{Standing}
use Rattle.unit_rules.specs.declared.reconfig.Task.{Task}
use Rattle.unit_rules.specs.Deeds.{Send, Acted, acted, still, send_all}
use Rattle.unit_rules.specs.Polls.{Poll, poll_of}
use Rattle.unit_rules.specs.Questions.{reconfig_fired}
use Rattle.unit_rules.specs.Reconfigs.{PreparePhase, SwapPhase, PromisePhase, CopyPhase, Reconfig, Prepare, Phase0, Phase1, Decide, Phase2, Step, Stay, Superseded, Refused}
use Rattle.unit_rules.specs.Phases.{prepare_on, swap_on, promise_on, copy_on}
use Rattle.unit_rules.specs.Transitions.{answer_received}
use Rattle.rule_examples.specs.Values.{epoch, e1, e2, e3, config, standing}

-- reconfigurations of partition 1 in the second epoch, with three arbitrators

abbrev pub task : Kind → Task
task kind = record { partition = 1; epoch = e2; kind = kind; arbitrators = 3 }

abbrev pub preparing : Kind → Option (Option Config) → Option (Option Config) → Option (Option Config) → PreparePhase
preparing kind a b c = record { task = task kind; poll = (32769, a) ∷ (32770, b) ∷ (32771, c) ∷ [] }

-- the old members are 1, 2 and 3, and these two have answered so
abbrev pub promising : Kind → List ℕ → ℕ → Option Standing → Option Standing → PromisePhase
promising kind members first a b = record { task = task kind; members = members; first = first; poll = (1, a) ∷ (2, b) ∷ (3, None) ∷ [] }

-- node 1 was the only member
abbrev pub swapping : SwapPhase
swapping = record { task = task (Swap 1); old = config e1 1 (1 ∷ []); primary = 1 }

-- nodes 1, 2 and 3 were the members, node 1 their primary, and node 2 is to follow it
abbrev pub swapping_three : SwapPhase
swapping_three = record { task = task (Swap 2); old = config e1 1 (1 ∷ 2 ∷ 3 ∷ []); primary = 2 }

abbrev pub copying : Poll (Unit {0}) → CopyPhase
copying poll =
    record { task = task (Swap 1); config = config e2 1 (1 ∷ 2 ∷ 3 ∷ []); source = record { origin = 2; last = 5 }; poll = poll }

-- the second arbitrator says that it prepared the epoch
abbrev pub prepared : List NodeLoad → Option Config → PreparePhase → Acted Step
prepared nodes old p = answer_received nodes 32770 e2 (body.Prepared 1 e2 old) (Prepare p)

pub record Preparations : Type 0 where
  -- of what was carried the highest epoch counts, in whatever order it came
  pub highest_first :
      prepare_on 32771 (body.Prepared 1 e2 (Some (config e1 1 (1 ∷ [])))) (preparing (Swap 1) None (Some (Some (config (epoch 1 1) 2 (2 ∷ [])))) None)
      ≡ Ok (next.Prepared (Some (config (epoch 1 1) 2 (2 ∷ []))))
  pub highest_last :
      prepare_on 32771 (body.Prepared 1 e2 (Some (config (epoch 1 1) 2 (2 ∷ [])))) (preparing (Swap 1) None (Some (Some (config e1 1 (1 ∷ [])))) None)
      ≡ Ok (next.Prepared (Some (config (epoch 1 1) 2 (2 ∷ []))))
  -- a second answer of an arbitrator does not count
  pub once :
      prepare_on 32770 (body.Prepared 1 e2 None) (preparing (Swap 1) None (Some None) None) ≡ Err (preparing (Swap 1) None (Some None) None)
  -- an answer to another phase does not either
  pub of_another :
      prepare_on 32770 (body.DoneKept 1 e2) (preparing (Swap 1) (Some None) None None) ≡ Err (preparing (Swap 1) (Some None) None None)

pub record AfterPrepare : Type 0 where
  pub exists :
      prepared [] None (preparing (Create 1) (Some (Some (config e1 1 (1 ∷ [])))) None None) ≡ still (Refused refusal.Exists)
  pub no_unit : prepared [] None (preparing (Swap 1) (Some None) None None) ≡ still (Refused refusal.NoUnit)
  pub no_member : prepared [] (Some (config e1 1 (1 ∷ []))) (preparing (Swap 2) (Some None) None None) ≡ still (Refused refusal.NotMember)
  pub too_few : prepared [] (Some (config e1 1 (1 ∷ []))) (preparing (Heal 1) (Some None) None None) ≡ still (Refused (refusal.TooFewDomains 0))
  -- the members of a new partition rise, and the primary is the first that is placed
  pub placed :
      (prepared
      (record { node = 3; domain = 1; up = true; load = 4 } ∷ record { node = 5; domain = 2; up = true; load = 1 } ∷ [])
      None (preparing (Create 2) (Some None) None None)).deeds
      ≡ send_all (node_instance 32769 0 ∷ node_instance 32770 0 ∷ node_instance 32771 0 ∷ []) (body.Vote (config e2 5 (3 ∷ 5 ∷ [])))
  -- a swap asks the old primary, a heal the old members, and a lost partition its node alone
  pub swap :
      (prepared [] (Some (config e1 1 (1 ∷ 2 ∷ []))) (preparing (Swap 2) (Some None) None None)).deeds ≡ Send (node_instance 1 0) (body.Promise 1 e2) ∷ []
  pub heal :
      (prepared (record { node = 3; domain = 1; up = true; load = 4 } ∷ []) (Some (config e1 1 (1 ∷ 2 ∷ []))) (preparing (Heal 1) (Some None) None None)).deeds
      ≡ Send (node_instance 1 0) (body.Promise 1 e2) ∷ Send (node_instance 2 0) (body.Promise 1 e2) ∷ []
  pub lose :
      (prepared [] (Some (config e1 1 (1 ∷ 2 ∷ []))) (preparing (Lose 4) (Some None) None None)).deeds ≡ Send (node_instance 4 0) (body.Promise 1 e2) ∷ []

pub record Moves : Type 0 where
  -- only the old primary's promise ends phase 0
  pub stranger : swap_on 2 (body.Promised 1 e2 e1 5) swapping_three ≡ Err swapping_three
  -- then all old members are asked, the old primary too
  pub of_three :
      (answer_received [] 1 e2 (body.Promised 1 e2 e1 5) (Phase0 swapping_three)).deeds
      ≡ send_all (node_instance 1 0 ∷ node_instance 2 0 ∷ node_instance 3 0 ∷ []) (body.Promise 1 e2)
  -- and at a firing those that have not answered
  pub fired_again :
      reconfig_fired (Phase1 (promising (Swap 2) (1 ∷ 2 ∷ 3 ∷ []) 2 (Some (standing e1 5)) None))
      ≡ send_all (node_instance 2 0 ∷ node_instance 3 0 ∷ []) (body.Promise 1 e2)
  -- where the old primary alone is a majority, its promise ends both phases
  pub of_one :
      answer_received [] 1 e2 (body.Promised 1 e2 e1 5) (Phase0 swapping)
      ≡ acted
      (Stay (Decide (record {
        task = task (Swap 1);
        config = config e2 1 (1 ∷ []);
        source = record { origin = 1; last = 5 };
        votes = record { arbitrators = 3; answers = [] };
      })))
      (send_all (node_instance 32769 0 ∷ node_instance 32770 0 ∷ node_instance 32771 0 ∷ []) (body.Vote (config e2 1 (1 ∷ []))))

-- node 2 promises as the second of the old members
abbrev pub second_promises : Standing → Kind → List ℕ → ℕ → Result Next PromisePhase
second_promises s kind members first =
    promise_on 2 (body.Promised 1 e2 s.at s.last) (promising kind members first (Some (standing e1 5)) None)

pub record Choices : Type 0 where
  -- the first answer of a node counts
  pub once :
      promise_on 1 (body.Promised 1 e2 e1 7) (promising (Swap 3) (1 ∷ 2 ∷ 3 ∷ []) 3 (Some (standing e1 5)) None)
      ≡ Err (promising (Swap 3) (1 ∷ 2 ∷ 3 ∷ []) 3 (Some (standing e1 5)) None)
  -- the origin has the log of the greatest epoch, then the longest, then the lower number
  pub by_epoch :
      promise_on 2 (body.Promised 1 e2 e1 3) (promising (Swap 3) (1 ∷ 2 ∷ 3 ∷ []) 3 (Some (standing (epoch 0 0) 5)) None)
      ≡ Ok (next.Chosen (config e2 3 (1 ∷ 2 ∷ 3 ∷ [])) 2 3)
  pub by_last : second_promises (standing e1 6) (Swap 3) (1 ∷ 2 ∷ 3 ∷ []) 3 ≡ Ok (next.Chosen (config e2 3 (1 ∷ 2 ∷ 3 ∷ [])) 2 6)
  pub at_tie : second_promises (standing e1 5) (Swap 3) (1 ∷ 2 ∷ 3 ∷ []) 3 ≡ Ok (next.Chosen (config e2 3 (1 ∷ 2 ∷ 3 ∷ [])) 1 5)
  -- of a heal the furthest new member that answered is the primary, which need not be the origin
  pub heal_primary : second_promises (standing e1 3) (Heal 2) (2 ∷ 4 ∷ []) 4 ≡ Ok (next.Chosen (config e2 2 (2 ∷ 4 ∷ [])) 1 5)
  -- where none of them answered, the first that was placed
  pub heal_first : second_promises (standing e1 3) (Heal 2) (4 ∷ 5 ∷ []) 5 ≡ Ok (next.Chosen (config e2 5 (4 ∷ 5 ∷ [])) 1 5)

-- a new partition, for which the arbitrators voted so far
abbrev pub deciding : List (ℕ × Config) → Reconfig
deciding votes =
    Decide (record {
      task = task (Create 1);
      config = config e2 1 (1 ∷ []);
      source = record { origin = 1; last = 0 };
      votes = record { arbitrators = 3; answers = votes };
    })

pub record Decisions : Type 0 where
  -- three arbitrators with three votes are split, and the epoch itself supersedes
  pub split :
      answer_received [] 32771 e2 (body.Voted 1 e2 (config e2 3 (3 ∷ []))) (deciding ((1, config e2 1 (1 ∷ [])) ∷ (2, config e2 2 (2 ∷ [])) ∷ []))
      ≡ still (Superseded e2)
  -- what a majority voted for goes on, also where another was proposed; a new partition has nothing to copy
  pub decided :
      (answer_received [] 32770 e2 (body.Voted 1 e2 (config e2 2 (2 ∷ []))) (deciding ((1, config e2 2 (2 ∷ [])) ∷ []))).deeds
      ≡ Send (node_instance 2 0) (body.Sync 1 e2 2 0) ∷ []
  -- a firing asks the arbitrators that have not voted
  pub fired_again :
      reconfig_fired (deciding ((1, config e2 1 (1 ∷ [])) ∷ []))
      ≡ send_all (node_instance 32770 0 ∷ node_instance 32771 0 ∷ []) (body.Vote (config e2 1 (1 ∷ [])))
  -- while somebody can still get a majority, it goes on
  pub still_open :
      answer_received [] 32770 e2 (body.Voted 1 e2 (config e2 2 (2 ∷ []))) (deciding ((1, config e2 1 (1 ∷ [])) ∷ []))
      ≡ still (Stay (deciding ((1, config e2 1 (1 ∷ [])) ∷ (2, config e2 2 (2 ∷ [])) ∷ [])))
  -- a node's vote is none
  pub of_no_arbitrator :
      answer_received [] 2 e2 (body.Voted 1 e2 (config e2 1 (1 ∷ []))) (deciding ((1, config e2 1 (1 ∷ [])) ∷ []))
      ≡ still (Stay (deciding ((1, config e2 1 (1 ∷ [])) ∷ [])))

pub record Copies : Type 0 where
  -- a majority without the primary is not enough
  pub waits :
      copy_on 3 (body.Adopted 1 e2 5) (copying ((1, None) ∷ (2, Some tt) ∷ (3, None) ∷ []))
      ≡ Err (copying ((1, None) ∷ (2, Some tt) ∷ (3, Some tt) ∷ []))
  pub ends : copy_on 1 (body.Adopted 1 e2 5) (copying ((1, None) ∷ (2, Some tt) ∷ (3, None) ∷ [])) ≡ Ok next.Copied

pub record Supersessions : Type 0 where
  -- a kept epoch that is not below the own ends each phase, whoever carries it
  pub by_older : answer_received [] 7 e2 (body.Older 1 e2 e3) (Phase2 (copying (poll_of (1 ∷ [])))) ≡ still (Superseded e3)
  pub by_equal : answer_received [] 32769 e2 (body.NoPrepare 1 e2 e2) (Prepare (preparing (Create 1) None None None)) ≡ still (Superseded e2)
  pub by_vote :
      answer_received [] 32769 e2 (body.NoVote 1 e2 (epoch 0 4)) (Prepare (preparing (Create 1) None None None)) ≡ still (Superseded (epoch 0 4))
  pub by_done : answer_received [] 32769 e2 (body.NoDone 1 e2 e3) (Phase0 swapping) ≡ still (Superseded e3)
  -- one below it does not, and an answer to another epoch is none
  pub by_lower : answer_received [] 7 e2 (body.Older 1 e2 e1) (Phase0 swapping) ≡ still (Stay (Phase0 swapping))
  pub of_another : answer_received [] 1 e1 (body.Older 1 e1 e3) (Phase0 swapping) ≡ still (Stay (Phase0 swapping))
