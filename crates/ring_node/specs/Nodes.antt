-- The ring's node as a value, and a step of it on its way.
use Rattle.std.specs.Prelude.{◌≡◌, ℕ, ◌+◌, ◌≤◌, false, not, ◌||◌, List, [], Option, None, IsTrue, is_some, map, take, length}
use Rattle.fabric_terms.specs.declared.message.Body.{Body}
use Rattle.fabric_terms.specs.declared.report.Report.{Report}
use Rattle.fabric_terms.specs.declared.report.Why.{Why}
use Rattle.join_phases.specs.declared.phases.Phase.{Phase}
use Rattle.join_phases.specs.Phases.{is_routing, left}
use Rattle.link_core.specs.Links.{Links}
use Rattle.link_core.specs.Ties as ties
use Rattle.ring_points.specs.declared.point.Point.{Point}
use Rattle.ring_points.specs.declared.who.Who.{Who}
use Rattle.ring_route.specs.Routes.{Routes}
use Rattle.ring_rules.specs.Deeds.{has_numbers}
use Rattle.ring_rules.specs.Rings.{Settings, Ring, Work, no_slots}
use Rattle.token_core.specs.Tokens.{Token}
use Rattle.ring_node.specs.Limits.{most_near}

-- what a node goes by, and its ring
pub record Node : Type 0 where
  pub settings : Settings
  pub ring : Ring

-- a node of these parts
abbrev pub node_of : Links → Token → Routes → Phase → Option ℕ → ℕ → Node
node_of k token routes phase target near =
    record {
      settings = record { lease = k.lease; longest = k.longest; answer = k.answer; bound = k.bound; near = near; arbitrators = k.arbitrators; rounds = k.rounds };
      ring = record {
        me = k.me;
        phase = phase;
        slots = k.slots;
        next_session = k.next_session;
        accused = k.accused;
        token = token;
        routes = routes;
        target = target;
      };
    }

-- what holds of every node: its points are those of its routes, no number is past the last, and only a node that routes
-- has frozen something
pub record IsNode (n : Node) (points : List (ℕ × Point)) : Type 0 where
  pub listed : n.ring.routes.points ≡ map (λ p. (p.0, p.1.0)) points
  pub near : n.settings.near ≤ most_near
  pub numbers : IsTrue (has_numbers n.ring)
  pub freeze : IsTrue (not (is_some n.ring.token.freeze) || is_routing n.ring.phase)

-- a step of a node on its way: what it goes by, and the ring, the frames and the reports so far
pub record Step : Type 0 where
  pub settings : Settings
  pub work : Work

-- the step of this node that has sent and told this
abbrev pub step : Node → List (Who × Body) → List Report → Step
step n sent told = record { settings = n.settings; work = record { ring = n.ring; sent = sent; told = told } }

-- a row done to a step
abbrev pub by : (Settings → Work → Work) → Step → Step
by row s = record s { work = row s.settings s.work }

-- the phase is the next one
abbrev pub with_phase : (Phase → Phase) → Node → Node
with_phase next n = record n { ring = record n.ring { phase = next n.ring.phase } }

-- the token is this one
abbrev pub with_token : Token → Node → Node
with_token t n = record n { ring = record n.ring { token = t } }

-- the links are these
abbrev pub with_links : Links → Node → Node
with_links k n = record n { ring = record n.ring { slots = k.slots; next_session = k.next_session; accused = k.accused } }

-- the links of a node
abbrev pub links_of : Node → Links
links_of n = ties.links_of n.settings n.ring

-- a node as it was before a row, by the numbers of then, that has left
abbrev pub left_at : Why → ℕ → ℕ → ℕ → Node → Node
left_at why version sessions accused n =
    record n {
      ring = record n.ring {
        phase = left why;
        slots = no_slots;
        next_session = sessions + 1;
        accused = take accused n.ring.accused;
        token = record n.ring.token { ranges = []; freeze = None; version = version };
      };
    }

-- A row that breaks off for want of a number leaves of a step all but phase, slots and token; of these it leaves the
-- number of the next flight.
abbrev pub patched : Ring → Ring → Ring
patched old new = record old { phase = new.phase; slots = new.slots; token = record new.token { next_flight = old.token.next_flight } }

pub record IsBroken (row : Settings → Work → Work) (old new : Step) : Type 0 where
  pub numbers : has_numbers (row old.settings old.work).ring ≡ false
  pub rest : new ≡ record old { work = record old.work { ring = patched old.work.ring new.work.ring } }
  pub version : old.work.ring.token.version ≤ new.work.ring.token.version

-- what of a step before is still there, or can be gone back to
pub record IsPatched (old new : Step) : Type 0 where
  pub settings : new.settings ≡ old.settings
  pub me : new.work.ring.me ≡ old.work.ring.me
  pub accused : take (length old.work.ring.accused) new.work.ring.accused ≡ old.work.ring.accused
  pub routes : new.work.ring.routes ≡ old.work.ring.routes
  pub target : new.work.ring.target ≡ old.work.ring.target
  pub flights : new.work.ring.token.next_flight ≡ old.work.ring.token.next_flight
  pub version : old.work.ring.token.version ≤ new.work.ring.token.version
  pub sessions : old.work.ring.next_session ≤ new.work.ring.next_session
  pub sent : take (length old.work.sent) new.work.sent ≡ old.work.sent
  pub told : take (length old.work.told) new.work.told ≡ old.work.told

-- a row of several parts broke off for want of a number
pub record IsBrokenOff (row : Settings → Work → Work) (old new : Step) : Type 0 where
  pub numbers : has_numbers (row old.settings old.work).ring ≡ false
  pub patched : IsPatched old new

-- a row on the ring alone, whatever was sent and told before it

abbrev pub Rings : (Settings → Work → Work) → Node → Node → Type 0
Rings row old new = (sent : List (Who × Body)) (told : List Report) → step new sent told ≡ by row (step old sent told)

abbrev pub RingsBroken : (Settings → Work → Work) → Node → Node → Type 0
RingsBroken row old new = (sent : List (Who × Body)) (told : List Report) → IsBroken row (step old sent told) (step new sent told)
