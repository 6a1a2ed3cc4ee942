-- What an answer does in each phase: the phase goes on with it, or ends.
use Rattle.std.specs.Prelude.{ℕ, ◌-◌, Bool, ◌&&◌, ◌==◌, List, filter, Option, Some, None, Result, Ok, Err, nat_le, nat_lt, if◌then◌else◌}
use Rattle.ring_points.specs.declared.unit.Config.{Config}
use Rattle.ring_points.specs.Whos.{arbiter_actor}
use Rattle.arbiter_quorum.specs.declared.verdict.VoteVerdict.{VoteVerdict}
use Rattle.arbiter_quorum.specs.declared.verdict.VoteVerdict.TheVariants as verdict
use Rattle.arbiter_quorum.specs.Votes.{vote_noted, vote_verdict_of}
use Rattle.fabric_terms.specs.declared.message.Body.{Body}
use Rattle.fabric_terms.specs.declared.message.Body.TheVariants as body
use Rattle.unit_rules.specs.declared.reconfig.Kind.{Kind}
use Rattle.unit_rules.specs.declared.reconfig.Kind.TheVariants.{Heal}
use Rattle.unit_rules.specs.declared.reconfig.Next.{Next}
use Rattle.unit_rules.specs.declared.reconfig.Next.TheVariants.{Prepared, Moved, Chosen, Decided, Split, Copied, Stored, Activated}
use Rattle.unit_rules.specs.declared.reconfig.Standing.{Standing}
use Rattle.unit_rules.specs.declared.reconfig.Task.{Task}
use Rattle.unit_rules.specs.Reconfigs.{OriginLog, PreparePhase, SwapPhase, PromisePhase, VotePhase, CopyPhase, DonePhase, ActivatePhase}
use Rattle.unit_rules.specs.Polls.{Poll, answered, answers_in, has_answered, is_carried}
use Rattle.unit_rules.specs.Choices.{is_among, highest_done, furthest}

-- A phase ends with what it was for, or hands itself back: with the answer counted, or as it was where the answer is to
-- another phase.

abbrev pub ends_as : {A P : Type 0} → (A → Next) → Result A P → Result Next P
ends_as next (Ok x) = Ok (next x)
ends_as next (Err p) = Err p

-- the primary and a majority of the members have answered
abbrev pub is_taken_up : Config → Poll (Unit {0}) → Bool
is_taken_up config poll = has_answered config.primary poll && is_carried poll

-- Prepare ends with a majority of the arbitrators, and with the configuration of highest epoch that they carried so far.

abbrev pub prepared_with : PreparePhase → Result (Option Config) PreparePhase
prepared_with p = if is_carried p.poll then Ok (highest_done (answers_in p.poll)) else Err p

unfoldable pub prepare_ends : ℕ → Body → PreparePhase → Result (Option Config) PreparePhase
prepare_ends actor (body.Prepared partition epoch old) p = prepared_with (record p { poll = answered actor old p.poll })
prepare_ends actor _ p = Err p

abbrev pub prepare_on : ℕ → Body → PreparePhase → Result Next PreparePhase
prepare_on actor b p = ends_as Prepared (prepare_ends actor b p)

-- Phase 0 ends with the old primary's promise.

unfoldable pub swap_ends : ℕ → Body → SwapPhase → Result Standing SwapPhase
swap_ends actor (body.Promised partition epoch at last) p = if actor == p.old.primary then Ok (record { at = at; last = last }) else Err p
swap_ends actor _ p = Err p

abbrev pub swap_on : ℕ → Body → SwapPhase → Result Next SwapPhase
swap_on actor b p = ends_as (λ standing. Moved) (swap_ends actor b p)

-- Phase 1 ends with a majority of the asked. The furthest of them is the origin, and the primary goes by the command.

abbrev pub furthest_or : ℕ → Option (ℕ × Standing) → ℕ
furthest_or first None = first
furthest_or first (Some a) = a.0

-- of a heal the furthest of the new members that answered, or else the first that was placed; else the node that is named
abbrev pub primary_by : Kind → PromisePhase → ℕ
primary_by (Heal count) p = furthest_or p.first (furthest (filter (λ a. is_among a.0 p.members) (answers_in p.poll)))
primary_by _ p = p.first

-- the configuration of the task's partition and epoch
abbrev pub config_of : Task → ℕ → List ℕ → Config
config_of t primary members = record { partition = t.partition; epoch = t.epoch; primary = primary; members = members }

-- what is proposed, and with whose log
pub record Choice : Type 0 where
  pub config : Config
  pub source : OriginLog

abbrev pub chosen_from : PromisePhase → Option (ℕ × Standing) → Result Choice PromisePhase
chosen_from p None = Err p
chosen_from p (Some a) =
    Ok (record { config = config_of p.task (primary_by p.task.kind p) p.members; source = record { origin = a.0; last = a.1.last } })

abbrev pub chosen_of : PromisePhase → Result Choice PromisePhase
chosen_of p = if is_carried p.poll then chosen_from p (furthest (answers_in p.poll)) else Err p

-- this actor has promised
abbrev pub promised_with : ℕ → Standing → PromisePhase → Result Choice PromisePhase
promised_with actor standing p = chosen_of (record p { poll = answered actor standing p.poll })

unfoldable pub promise_ends : ℕ → Body → PromisePhase → Result Choice PromisePhase
promise_ends actor (body.Promised partition epoch at last) p = promised_with actor (record { at = at; last = last }) p
promise_ends actor _ p = Err p

abbrev pub promise_on : ℕ → Body → PromisePhase → Result Next PromisePhase
promise_on actor b p = ends_as (λ c. Chosen c.config c.source.origin c.source.last) (promise_ends actor b p)

-- Decide ends with a majority for one configuration, or when none can have one any more.

-- the actor is one of the first n arbitrators
abbrev pub is_arbiter_to : ℕ → ℕ → Bool
is_arbiter_to n actor = nat_lt (arbiter_actor 0) actor && nat_le actor (arbiter_actor n)

abbrev pub voted_by : VotePhase → VoteVerdict → Result (Option Config) VotePhase
voted_by p verdict.Open = Err p
voted_by p (verdict.Decided config) = Ok (Some config)
voted_by p verdict.Split = Ok None

abbrev pub voted_with : ℕ → Config → VotePhase → Result (Option Config) VotePhase
voted_with arbitrator first p = voted_by (record p { votes = vote_noted p.votes arbitrator first }) (vote_verdict_of (vote_noted p.votes arbitrator first))

unfoldable pub vote_ends : ℕ → Body → VotePhase → Result (Option Config) VotePhase
vote_ends actor (body.Voted partition epoch first) p =
    if is_arbiter_to p.votes.arbitrators actor then voted_with (actor - arbiter_actor 0) first p else Err p
vote_ends actor _ p = Err p

abbrev pub decision : Option Config → Next
decision (Some config) = Decided config
decision None = Split

abbrev pub vote_on : ℕ → Body → VotePhase → Result Next VotePhase
vote_on actor b p = ends_as decision (vote_ends actor b p)

-- Phase 2 ends when the primary and a majority of the members have the log.

abbrev pub copied_with : CopyPhase → Result (Unit {0}) CopyPhase
copied_with p = if is_taken_up p.config p.poll then Ok tt else Err p

unfoldable pub copy_ends : ℕ → Body → CopyPhase → Result (Unit {0}) CopyPhase
copy_ends actor (body.Adopted partition epoch last) p = copied_with (record p { poll = answered actor tt p.poll })
copy_ends actor _ p = Err p

abbrev pub copy_on : ℕ → Body → CopyPhase → Result Next CopyPhase
copy_on actor b p = ends_as (λ x. Copied) (copy_ends actor b p)

-- Phase 3 ends with a majority of the arbitrators.

abbrev pub done_with : DonePhase → Result (Unit {0}) DonePhase
done_with p = if is_carried p.poll then Ok tt else Err p

unfoldable pub done_ends : ℕ → Body → DonePhase → Result (Unit {0}) DonePhase
done_ends actor (body.DoneKept partition epoch) p = done_with (record p { poll = answered actor tt p.poll })
done_ends actor _ p = Err p

abbrev pub done_on : ℕ → Body → DonePhase → Result Next DonePhase
done_on actor b p = ends_as (λ x. Stored) (done_ends actor b p)

-- Phase 4 ends when the primary and a majority of the members have their roles.

abbrev pub activated_with : ActivatePhase → Result (Unit {0}) ActivatePhase
activated_with p = if is_taken_up p.config p.poll then Ok tt else Err p

unfoldable pub activate_ends : ℕ → Body → ActivatePhase → Result (Unit {0}) ActivatePhase
activate_ends actor (body.Activated partition epoch) p = activated_with (record p { poll = answered actor tt p.poll })
activate_ends actor _ p = Err p

abbrev pub activate_on : ℕ → Body → ActivatePhase → Result Next ActivatePhase
activate_on actor b p = ends_as (λ x. Activated p.config) (activate_ends actor b p)
