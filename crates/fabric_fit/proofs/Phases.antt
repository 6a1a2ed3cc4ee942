-- A phase ends with what is in range, or goes on in range.
use Rattle.std.proofs.Common.{ℕ, ◌-◌, Bool, ◌&&◌, [], ◌∷◌, ◌++◌, Option, Some, None, IsTrue, refl}
use Rattle.std.specs.Prelude.{◌==◌, All, Err, Ok, Result, filter}
use Rattle.std.proofs.lemmas.Bool.{and_from, and_parts, cond_both}
use Rattle.std.proofs.lemmas.List.Elements.{All-append, All-cons, All-nil, All-weaker, filter_passes}
use Rattle.arbiter_quorum.specs.declared.verdict.VoteVerdict.{VoteVerdict}
use Rattle.arbiter_quorum.specs.declared.verdict.VoteVerdict.TheVariants as verdict
use Rattle.arbiter_quorum.specs.Tallies.{has_answered}
use Rattle.arbiter_quorum.specs.Votes.{VoteTally, vote_noted, vote_verdict_of}
use Rattle.fabric_terms.specs.declared.message.Body.{Body}
use Rattle.fabric_terms.specs.declared.message.Body.TheVariants as body
use Rattle.fabric_terms.specs.Fields.{is_config, is_done, is_epoch, is_last, is_node, is_unit, same_unit}
use Rattle.fabric_terms.specs.Messages.{is_sound_body}
use Rattle.ring_points.specs.declared.unit.Config.{Config}
use Rattle.ring_points.specs.Whos.{arbiter_actor}
use Rattle.unit_rules.specs.declared.reconfig.Kind.{Kind}
use Rattle.unit_rules.specs.declared.reconfig.Kind.TheVariants.{Heal}
use Rattle.unit_rules.specs.declared.reconfig.Standing.{Standing}
use Rattle.unit_rules.specs.Choices.{furthest, highest_done, is_among}
use Rattle.unit_rules.specs.Phases.{Choice, activate_ends, chosen_from, chosen_of, config_of, copy_ends, done_ends, furthest_or, is_arbiter_to, is_taken_up, prepare_ends, primary_by, promise_ends, promised_with, swap_ends, vote_ends, voted_by, voted_with}
use Rattle.unit_rules.specs.Polls.{answered, answers_in, is_carried}
use Rattle.unit_rules.specs.Reconfigs.{ActivatePhase, CopyPhase, DonePhase, PreparePhase, PromisePhase, SwapPhase, VotePhase}
use Rattle.fabric_fit.specs.Managers.{ActivateInRange, CopyInRange, DoneInRange, PrepareInRange, PromiseInRange, SourceInRange, SwapInRange, VoteInRange, VotesInRange, is_arbitrator, is_standing, is_told}
use Rattle.fabric_fit.proofs.Choices.{Found, VerdictInRange, furthest_in_range, highest_done_in_range, verdict_in_range}
use Rattle.fabric_fit.proofs.Members.{config_from}
use Rattle.fabric_fit.proofs.Polls.{Gave, answered_in_range, answers_in_range}

-- what a phase ends with, or the phase as it goes on
abbrev pub EndInRange : {A P : Type 0} → (A → Type 0) → (P → Type 0) → Result A P → Type 0
EndInRange Good InRange (Ok x) = Good x
EndInRange Good InRange (Err p) = InRange p

abbrev pub IsDone : Option Config → Type 0
IsDone o = IsTrue (is_done o)

abbrev pub IsStanding : Standing → Type 0
IsStanding s = IsTrue (is_standing s)

abbrev pub Said : Unit {0} → Type 0
Said x = Unit {0}

-- Prepare.

pub prepare_ends_in_range : (actor : ℕ) (b : Body) → IsTrue (is_sound_body b) → (p : PreparePhase) → PrepareInRange p
    → EndInRange IsDone PrepareInRange (prepare_ends actor b p)
unfolding prepare_ends
prepare_ends_in_range actor (body.Prepared partition epoch old) h p fine =
    let parts = and_parts (is_unit partition epoch) (is_done old) h in
    let poll = answered_in_range is_arbitrator is_done actor old p.poll parts.1 fine.poll in
    let now : PreparePhase = record p { poll = answered actor old p.poll } in
    cond_both (is_carried now.poll) (Ok (highest_done (answers_in now.poll))) (Err now) (EndInRange IsDone PrepareInRange)
    (λ f. highest_done_in_range (answers_in now.poll)
    (All-weaker (Gave is_arbitrator is_done) (λ a. IsDone a.1) (λ a k. (and_parts (is_arbitrator a.0) (is_done a.1) k).1) (answers_in now.poll)
    (answers_in_range is_arbitrator is_done now.poll poll)))
    (λ f. record { task = fine.task; poll = poll })
prepare_ends_in_range actor b h p fine = fine

-- Phase 0.

standing_of : (body_unit : Bool) (s : Standing) → IsTrue ((body_unit && is_epoch s.at) && is_last s.last) → IsStanding s
standing_of u s h =
    let parts = and_parts (u && is_epoch s.at) (is_last s.last) h in
    and_from (is_epoch s.at) (is_last s.last) (and_parts u (is_epoch s.at) parts.0).1 parts.1

pub swap_ends_in_range : (actor : ℕ) (b : Body) → IsTrue (is_sound_body b) → (p : SwapPhase) → SwapInRange p
    → EndInRange IsStanding SwapInRange (swap_ends actor b p)
unfolding swap_ends
swap_ends_in_range actor (body.Promised partition epoch at last) h p fine =
    let s : Standing = record { at = at; last = last } in
    cond_both (actor == p.old.primary) (Ok s) (Err p) (EndInRange IsStanding SwapInRange) (λ f. standing_of (is_unit partition epoch) s h) (λ f. fine)
swap_ends_in_range actor b h p fine = fine

-- Phase 1.

pub record ChoiceInRange (c : Choice) : Type 0 where
  pub config : IsTrue (is_config c.config)
  pub source : SourceInRange c.source

-- the primary is one of the members
primary_in_range : (kind : Kind) (p : PromisePhase) → PromiseInRange p → IsTrue (is_among (primary_by kind p) p.members)
primary_in_range (Heal count) p fine =
    found (furthest (filter (λ a. is_among a.0 p.members) (answers_in p.poll)))
    (furthest_in_range (λ a. IsTrue (is_among a.0 p.members)) (filter (λ a. is_among a.0 p.members) (answers_in p.poll))
    (filter_passes (λ a. is_among a.0 p.members) (answers_in p.poll)))
  where
    found : (o : Option (ℕ × Standing)) → Found (λ a. IsTrue (is_among a.0 p.members)) o → IsTrue (is_among (furthest_or p.first o) p.members)
    found None h = fine.first
    found (Some a) h = h
primary_in_range kind p fine = fine.first

chosen_in_range : (p : PromisePhase) → PromiseInRange p → EndInRange ChoiceInRange PromiseInRange (chosen_of p)
chosen_in_range p fine =
    cond_both (is_carried p.poll) (chosen_from p (furthest (answers_in p.poll))) (Err p) (EndInRange ChoiceInRange PromiseInRange)
    (λ f. found (furthest (answers_in p.poll))
    (furthest_in_range (Gave is_node is_standing) (answers_in p.poll) (answers_in_range is_node is_standing p.poll fine.poll)))
    (λ f. fine)
  where
    found : (o : Option (ℕ × Standing)) → Found (Gave is_node is_standing) o → EndInRange ChoiceInRange PromiseInRange (chosen_from p o)
    found None h = fine
    found (Some a) h =
        let parts = and_parts (is_node a.0) (is_standing a.1) h in
        record {
          config = config_from (config_of p.task (primary_by p.task.kind p) p.members) fine.task.unit fine.members (primary_in_range p.task.kind p fine);
          source = record { origin = parts.0; last = (and_parts (is_epoch a.1.at) (is_last a.1.last) parts.1).1 };
        }

pub promised_in_range : (actor : ℕ) (s : Standing) → IsStanding s → (p : PromisePhase) → PromiseInRange p
    → EndInRange ChoiceInRange PromiseInRange (promised_with actor s p)
promised_in_range actor s h p fine =
    chosen_in_range (record p { poll = answered actor s p.poll })
    (record { task = fine.task; members = fine.members; first = fine.first; poll = answered_in_range is_node is_standing actor s p.poll h fine.poll })

pub promise_ends_in_range : (actor : ℕ) (b : Body) → IsTrue (is_sound_body b) → (p : PromisePhase) → PromiseInRange p
    → EndInRange ChoiceInRange PromiseInRange (promise_ends actor b p)
unfolding promise_ends
promise_ends_in_range actor (body.Promised partition epoch at last) h p fine =
    let s : Standing = record { at = at; last = last } in
    promised_in_range actor s (standing_of (is_unit partition epoch) s h) p fine
promise_ends_in_range actor b h p fine = fine

-- Decide.

noted_in_range : (t : VoteTally) (arbitrator : ℕ) (kept : Config) → IsTrue (is_config kept) → VotesInRange t → VotesInRange (vote_noted t arbitrator kept)
noted_in_range t arbitrator kept h k = record {
  arbitrators = k.arbitrators;
  answers =
      cond_both (has_answered arbitrator t.answers) t.answers (t.answers ++ (arbitrator, kept) ∷ []) (All (λ a. IsTrue (is_config a.1))) (λ f. k.answers)
      (λ f. All-append (λ a. IsTrue (is_config a.1)) t.answers ((arbitrator, kept) ∷ []) k.answers
      (All-cons (λ a. IsTrue (is_config a.1)) (arbitrator, kept) [] h (All-nil (λ a. IsTrue (is_config a.1)))));
}

voted_by_in_range : (p : VotePhase) → VoteInRange p → (v : VoteVerdict) → VerdictInRange v → EndInRange IsDone VoteInRange (voted_by p v)
voted_by_in_range p fine verdict.Open h = fine
voted_by_in_range p fine (verdict.Decided config) h = h
voted_by_in_range p fine verdict.Split h = refl

voted_in_range : (arbitrator : ℕ) (kept : Config) → IsTrue (is_config kept) → (p : VotePhase) → VoteInRange p
    → EndInRange IsDone VoteInRange (voted_with arbitrator kept p)
voted_in_range arbitrator kept h p fine =
    let votes = noted_in_range p.votes arbitrator kept h fine.votes in
    let now : VoteTally = vote_noted p.votes arbitrator kept in
    voted_by_in_range (record p { votes = now }) (record { task = fine.task; config = fine.config; source = fine.source; votes = votes }) (vote_verdict_of now)
    (verdict_in_range now votes.answers)

pub vote_ends_in_range : (actor : ℕ) (b : Body) → IsTrue (is_sound_body b) → (p : VotePhase) → VoteInRange p → EndInRange IsDone VoteInRange (vote_ends actor b p)
unfolding vote_ends
vote_ends_in_range actor (body.Voted partition epoch first) h p fine =
    let parts = and_parts (is_unit partition epoch && is_config first) (same_unit partition epoch first) h in
    let config = (and_parts (is_unit partition epoch) (is_config first) parts.0).1 in
    cond_both (is_arbiter_to p.votes.arbitrators actor) (voted_with (actor - arbiter_actor 0) first p) (Err p) (EndInRange IsDone VoteInRange)
    (λ f. voted_in_range (actor - arbiter_actor 0) first config p fine) (λ f. fine)
vote_ends_in_range actor b h p fine = fine

-- Phases 2 to 4.

pub copy_ends_in_range : (actor : ℕ) (b : Body) (p : CopyPhase) → CopyInRange p → EndInRange Said CopyInRange (copy_ends actor b p)
unfolding copy_ends
copy_ends_in_range actor (body.Adopted partition epoch last) p fine =
    let now : CopyPhase = record p { poll = answered actor tt p.poll } in
    cond_both (is_taken_up p.config now.poll) (Ok tt) (Err now) (EndInRange Said CopyInRange) (λ f. tt)
    (λ f. record { task = fine.task; config = fine.config; source = fine.source; poll = answered_in_range is_node is_told actor tt p.poll refl fine.poll })
copy_ends_in_range actor b p fine = fine

pub done_ends_in_range : (actor : ℕ) (b : Body) (p : DonePhase) → DoneInRange p → EndInRange Said DoneInRange (done_ends actor b p)
unfolding done_ends
done_ends_in_range actor (body.DoneKept partition epoch) p fine =
    let now : DonePhase = record p { poll = answered actor tt p.poll } in
    cond_both (is_carried now.poll) (Ok tt) (Err now) (EndInRange Said DoneInRange) (λ f. tt)
    (λ f. record { task = fine.task; config = fine.config; poll = answered_in_range is_arbitrator is_told actor tt p.poll refl fine.poll })
done_ends_in_range actor b p fine = fine

pub activate_ends_in_range : (actor : ℕ) (b : Body) (p : ActivatePhase) → ActivateInRange p → EndInRange Said ActivateInRange (activate_ends actor b p)
unfolding activate_ends
activate_ends_in_range actor (body.Activated partition epoch) p fine =
    let now : ActivatePhase = record p { poll = answered actor tt p.poll } in
    cond_both (is_taken_up p.config now.poll) (Ok tt) (Err now) (EndInRange Said ActivateInRange) (λ f. tt)
    (λ f. record { task = fine.task; config = fine.config; poll = answered_in_range is_node is_told actor tt p.poll refl fine.poll })
activate_ends_in_range actor b p fine = fine
