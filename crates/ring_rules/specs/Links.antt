-- The values of links, and what they say.
use Rattle.std.specs.Prelude.{ℕ, ◌+◌, Bool, true, false, not, ◌&&◌, List, [], Option, Some, None, ◌==◌, max, min, nat_le, nat_lt, is_some}
use Rattle.ring_points.specs.declared.interval.Interval.{Interval}
use Rattle.ring_points.specs.declared.who.Flight.{Flight}
use Rattle.ring_points.specs.declared.who.Who.{Who}
use Rattle.ring_points.specs.Whos.{node_instance}
use Rattle.fabric_terms.specs.declared.message.Body.{Body}
use Rattle.fabric_terms.specs.declared.message.Body.TheVariants as body
use Rattle.join_phases.specs.Phases.{is_linked}
use Rattle.token_core.specs.Tokens.{announced}
use Rattle.token_core.specs.Calls.{is_empty}
use Rattle.arbiter_quorum.specs.Tallies.{no_answers}
use Rattle.heir_rounds.specs.Rounds.{no_rounds}
use Rattle.ring_rules.specs.declared.link.Link.{Link}
use Rattle.ring_rules.specs.declared.link.LinkState.{LinkState}
use Rattle.ring_rules.specs.declared.link.LinkState.TheVariants as state
use Rattle.ring_rules.specs.Rings.{Settings, Ring}

-- a link that begins now: no record, no flight, nothing acknowledged
abbrev pub new_link : Settings → ℕ → Ring → Who → ℕ → LinkState → ℕ → ℕ → Link
new_link c now r peer theirs first wire len =
    record {
      peer = peer;
      mine = r.next_session;
      yours = theirs;
      state = first;
      until = now + len;
      ripe = 0;
      acked = 0;
      held = [];
      held_version = 0;
      got = 0;
      flight = None;
      tally = no_answers r.me peer c.arbitrators;
      rounds = no_rounds r.me c.arbitrators c.rounds;
      len = len;
      wire = wire;
    }

-- it greets any instance of the node
abbrev pub greeting_link : Settings → ℕ → Ring → ℕ → ℕ → ℕ → Link
greeting_link c now r node wire len = new_link c now r (node_instance node 0) 0 state.Hello wire len

-- it offers to the instance that greeted
abbrev pub offered_link : Settings → ℕ → Ring → Who → ℕ → ℕ → ℕ → Link
offered_link c now r from theirs wire len = new_link c now r from theirs state.Offered wire len

-- it takes the offer of the peer, with the smaller of the two lengths
abbrev pub bound_link : ℕ → Link → Who → ℕ → ℕ → Link
bound_link now l from theirs len = record l { peer = from; yours = theirs; state = state.Bound; len = min l.len len; until = now + min l.len len }

-- the flight stands no more once the peer has got it
abbrev pub confirmed_if : Option Flight → Bool → Option Flight
confirmed_if flight true = None
confirmed_if flight false = flight

abbrev pub confirmed : Option Flight → ℕ → Option Flight
confirmed None got = None
confirmed (Some f) got = confirmed_if (Some f) (nat_le f.number got)

-- the record is replaced by one of a greater version
abbrev pub recorded_if : Link → ℕ → List Interval → Bool → Link
recorded_if l version ranges true = record l { held = ranges; held_version = version }
recorded_if l version ranges false = l

abbrev pub recorded : Link → ℕ → List Interval → Link
recorded l version ranges = recorded_if l version ranges (nat_lt l.held_version version)

-- a Renew was heard: the link is bound, by its record and its flight
abbrev pub renewed : Link → ℕ → ℕ → List Interval → Link
renewed l version got ranges = record (recorded l version ranges) { state = state.Bound; flight = confirmed l.flight got }

-- a RenewAck was heard: the lease runs from the stamp that it echoes
abbrev pub acknowledged : Link → ℕ → ℕ → Link
acknowledged l stamp version = record l { until = max l.until (stamp + l.len); acked = max l.acked version }

-- it parts, without a record
abbrev pub parting_link : Link → Link
parting_link l = record l { state = state.Parting; held = [] }

-- it accuses the peer, and no arbitrator has answered
abbrev pub accused_link : Settings → Who → Link → Link
accused_link c me l = record l { state = state.Accused; tally = no_answers me l.peer c.arbitrators; rounds = no_rounds me c.arbitrators c.rounds }

abbrev pub has_flight : Link → Bool
has_flight l = is_some l.flight

-- there is nothing to take over
abbrev pub is_bare : Link → Bool
is_bare l = is_empty l.held && not (has_flight l)

abbrev pub flight_part : Option Flight → List Interval
flight_part None = []
flight_part (Some f) = f.part

-- what a link says of itself, by its frame version

abbrev pub hello_by : Bool → Link → Body
hello_by true l = body.HelloFor l.mine l.len
hello_by false l = body.Hello l.mine

abbrev pub hello_body : Link → Body
hello_body l = hello_by (l.wire == 2) l

abbrev pub offer_by : Bool → Link → Body
offer_by true l = body.OfferFor l.mine l.yours l.len
offer_by false l = body.Offer l.mine l.yours

abbrev pub offer_body : Link → Body
offer_body l = offer_by (l.wire == 2) l

-- the Renew of this reading: what the node announces now, and whether it wants ranges now
abbrev pub renew_body : ℕ → Link → Ring → Body
renew_body now l r = body.Renew l.mine l.yours now r.token.version l.got (is_linked r.phase) (announced r.token)

abbrev pub transfer_body : Link → Flight → Body
transfer_body l f = body.Transfer l.mine l.yours f.number f.part
