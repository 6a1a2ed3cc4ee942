-- How a link lives: Renew and RenewAck.
use Rattle.std.specs.Prelude.{ℕ, Bool, true, false, not, ◌&&◌, List, is_some}
use Rattle.ring_points.specs.declared.interval.Interval.{Interval}
use Rattle.ring_points.specs.declared.who.Who.{Who}
use Rattle.ring_points.specs.Ranges.{fits}
use Rattle.ring_points.specs.Sets.{meet_of, nearer_part_of}
use Rattle.fabric_terms.specs.declared.message.Body.TheVariants as body
use Rattle.join_phases.specs.Phases.{bound_phase, is_routing}
use Rattle.token_core.specs.Tokens.{Token, frozen, can_freeze}
use Rattle.token_core.specs.Calls.{is_empty}
use Rattle.ring_route.specs.Routes.{point_of}
use Rattle.ring_rules.specs.declared.link.Link.{Link}
use Rattle.ring_rules.specs.declared.link.LinkState.{LinkState}
use Rattle.ring_rules.specs.declared.link.LinkState.TheVariants as state
use Rattle.ring_rules.specs.Rings.{Ring, Work, ◌▷◌}
use Rattle.ring_rules.specs.Links.{renewed, acknowledged, has_flight}
use Rattle.ring_rules.specs.Deeds.{put_slot, set_token, set_phase, send, in_session, answer_unknown, say_gone}

-- the owned points that are nearer to the peer
abbrev pub near_part : Ring → Link → List Interval
near_part r l = nearer_part_of r.token.ranges (point_of r.me.actor r.routes.points) (point_of l.peer.actor r.routes.points)

-- a part of what is owned, that fits and leaves what fits
abbrev pub may_freeze : Token → List Interval → Bool
may_freeze t part = fits part && can_freeze t part

-- the part has no owned point
abbrev pub owns_none : Token → List Interval → Bool
owns_none t part = is_empty (meet_of t.ranges part)

abbrev pub freeze_if : ℕ → List Interval → Work → Bool → Work
freeze_if i part w true = set_token (frozen w.ring.token part i) w
freeze_if i part w false = w

-- the part is frozen for the slot, where it has a point and fits
abbrev pub freeze_part : ℕ → List Interval → Work → Work
freeze_part i part w = freeze_if i part w (not (owns_none w.ring.token part) && may_freeze w.ring.token part)

abbrev pub grant_if : ℕ → Link → Work → Bool → Work
grant_if i l w true = freeze_part i (near_part w.ring l) w
grant_if i l w false = w

-- a node that routes freezes the nearer part for a peer that wants ranges, where no freeze and no flight stands
abbrev pub grant_wanted : ℕ → Link → Bool → Work → Work
grant_wanted i l want w = grant_if i l w (want && is_routing w.ring.phase && not (is_some w.ring.token.freeze) && not (has_flight l))

-- A Renew is heard and acknowledged, and what it wants is frozen.
abbrev pub renew_heard : ℕ → Link → ℕ → ℕ → Bool → Work → Work
renew_heard i l stamp version want w =
    w
    ▷ put_slot i l
    ▷ send l.peer (body.RenewAck l.mine l.yours stamp version)
    ▷ grant_wanted i l want

abbrev pub renew_seen : ℕ → ℕ → ℕ → Bool → List Interval → ℕ → Link → LinkState → Work → Work
renew_seen stamp version got want ranges i l state.Offered w =
    w ▷ set_phase bound_phase ▷ renew_heard i (renewed l version got ranges) stamp version want
renew_seen stamp version got want ranges i l state.Bound w = renew_heard i (renewed l version got ranges) stamp version want w
renew_seen stamp version got want ranges i l state.Parting w = say_gone l w
renew_seen stamp version got want ranges i l _ w = w

unfoldable pub renew_received : Who → ℕ → ℕ → ℕ → ℕ → ℕ → Bool → List Interval → Work → Work
renew_received from theirs own stamp version got want ranges w =
    in_session from theirs own (renew_seen stamp version got want ranges) (answer_unknown from theirs own) w

-- A RenewAck prolongs the lease from the stamp that it echoes.

abbrev pub ack_seen : ℕ → ℕ → ℕ → Link → LinkState → Work → Work
ack_seen stamp version i l state.Bound w = put_slot i (acknowledged l stamp version) w
ack_seen stamp version i l state.Parting w = put_slot i (acknowledged l stamp version) w
ack_seen stamp version i l _ w = w

unfoldable pub ack_received : Who → ℕ → ℕ → ℕ → ℕ → Work → Work
ack_received from theirs own stamp version w = in_session from theirs own (ack_seen stamp version) (λ v. v) w
