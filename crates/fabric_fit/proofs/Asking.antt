-- What a reconfiguration asks, and whom, a frame can carry.
use Rattle.std.proofs.Common.{ℕ, zero, suc, ◌+◌, ◌≤◌, true, ◌&&◌, List, [], ◌∷◌, IsTrue, refl, arith}
use Rattle.std.specs.Prelude.{All, map, not}
use Rattle.std.proofs.lemmas.Bool.{and_from, or_right}
use Rattle.std.proofs.lemmas.List.Elements.{All-append, All-cons, All-filter, All-map, All-nil, All-weaker}
use Rattle.fabric_terms.specs.Fields.{is_addressee, is_arbiter, is_done, is_last, is_node, is_unit, is_within, is_word}
use Rattle.fabric_terms.specs.Messages.{is_sound_body}
use Rattle.frames_fit.proofs.Facts.{node_addressed, within_from}
use Rattle.ring_points.specs.Whos.{arbiter_actor, node_instance}
use Rattle.unit_rules.specs.Polls.{arbiters_to, waiting}
use Rattle.unit_rules.specs.Questions.{asks, awaited, has_voted, question, reconfig_fired}
use Rattle.unit_rules.specs.Reconfigs.{Decide, Phase0, Phase1, Phase2, Phase3, Phase4, Prepare, Reconfig}
use Rattle.fabric_fit.specs.Deeds.{DeedInRange}
use Rattle.fabric_fit.specs.Managers.{ReconfigInRange, is_arbitrator, is_standing, is_told}
use Rattle.fabric_fit.proofs.Deeds.{sends_all}
use Rattle.fabric_fit.proofs.Members.{config_parts, member_node}
use Rattle.fabric_fit.proofs.Polls.{waiting_in_range}

-- whichever instance of the actor runs can be asked
abbrev pub IsAsked : ℕ → Type 0
IsAsked actor = IsTrue (is_addressee (node_instance actor 0))

pub node_asked : (n : ℕ) → IsTrue (is_node n) → IsAsked n
node_asked n h = node_addressed (node_instance n 0) h refl

pub nodes_asked : (ns : List ℕ) → All (λ n. IsTrue (is_node n)) ns → All IsAsked ns
nodes_asked ns h = All-weaker (λ n. IsTrue (is_node n)) IsAsked node_asked ns h

arbitrator_asked : (n : ℕ) → IsTrue (is_arbitrator n) → IsAsked n
arbitrator_asked n h = or_right (is_node n && is_word 0) (is_arbiter (node_instance n 0)) (and_from (is_within 32769 32777 n) true h refl)

pub arbitrators_asked : (ns : List ℕ) → All (λ n. IsTrue (is_arbitrator n)) ns → All IsAsked ns
arbitrators_asked ns h = All-weaker (λ n. IsTrue (is_arbitrator n)) IsAsked arbitrator_asked ns h

-- the first of at most nine arbitrators
pub first_arbitrators : (k : ℕ) → k ≤ 9 → All (λ n. IsTrue (is_arbitrator n)) (arbiters_to k)
first_arbitrators zero h = All-nil (λ n. IsTrue (is_arbitrator n))
first_arbitrators (suc k) h =
    All-append (λ n. IsTrue (is_arbitrator n)) (arbiters_to k) (arbiter_actor (suc k) ∷ []) (first_arbitrators k (omega arith))
    (All-cons (λ n. IsTrue (is_arbitrator n)) (arbiter_actor (suc k)) [] (within_from 32769 32777 (32768 + suc k) (omega arith) (omega arith))
    (All-nil (λ n. IsTrue (is_arbitrator n))))

pub first_asked : (k : ℕ) → k ≤ 9 → All IsAsked (arbiters_to k)
first_asked k h = arbitrators_asked (arbiters_to k) (first_arbitrators k h)

-- The question.

pub question_fits : (r : Reconfig) → ReconfigInRange r → IsTrue (is_sound_body (question r))
question_fits (Prepare p) h = h.task.unit
question_fits (Phase0 p) h = h.task.unit
question_fits (Phase1 p) h = h.task.unit
question_fits (Decide p) h = h.config
question_fits (Phase2 p) h =
    let u = is_unit p.task.partition p.task.epoch in
    and_from (u && is_node p.source.origin) (is_last p.source.last) (and_from u (is_node p.source.origin) h.task.unit h.source.origin) h.source.last
question_fits (Phase3 p) h = h.config
question_fits (Phase4 p) h = h.config

pub asks_in_range : (r : Reconfig) → ReconfigInRange r → (actors : List ℕ) → All IsAsked actors → All DeedInRange (asks r actors)
asks_in_range r h actors k =
    sends_all (map (λ actor. node_instance actor 0) actors) (question r)
    (All-map (λ to. IsTrue (is_addressee to)) (λ actor. node_instance actor 0) actors k) (question_fits r h)

-- Those that have not answered.

awaited_asked : (r : Reconfig) → ReconfigInRange r → All IsAsked (awaited r)
awaited_asked (Prepare p) h = arbitrators_asked (waiting p.poll) (waiting_in_range is_arbitrator is_done p.poll h.poll)
awaited_asked (Phase0 p) h =
    let parts = config_parts p.old h.old in
    All-cons IsAsked p.old.primary [] (node_asked p.old.primary (member_node p.old.primary p.old.members parts.members parts.primary)) (All-nil IsAsked)
awaited_asked (Phase1 p) h = nodes_asked (waiting p.poll) (waiting_in_range is_node is_standing p.poll h.poll)
awaited_asked (Decide p) h =
    All-filter (λ actor. not (has_voted p.votes actor)) IsAsked (arbiters_to p.votes.arbitrators) (first_asked p.votes.arbitrators h.votes.arbitrators)
awaited_asked (Phase2 p) h = nodes_asked (waiting p.poll) (waiting_in_range is_node is_told p.poll h.poll)
awaited_asked (Phase3 p) h = arbitrators_asked (waiting p.poll) (waiting_in_range is_arbitrator is_told p.poll h.poll)
awaited_asked (Phase4 p) h = nodes_asked (waiting p.poll) (waiting_in_range is_node is_told p.poll h.poll)

pub reconfig_fired_in_range : (r : Reconfig) → ReconfigInRange r → All DeedInRange (reconfig_fired r)
unfolding reconfig_fired
reconfig_fired_in_range r h = asks_in_range r h (awaited r) (awaited_asked r h)
