-- How the rows of links are the rows of a node's ring: what a node has of links, and what it does for a note.
use Rattle.std.specs.Prelude.{◌≡◌, ℕ, Bool, IsTrue, true, false, List, [], ◌∷◌, ◌++◌, Option, Some, None, Result, Ok, Err}
use Rattle.ring_points.specs.declared.interval.Interval.{Interval}
use Rattle.ring_points.specs.declared.who.Flight.{Flight}
use Rattle.ring_points.specs.declared.who.Who.{Who}
use Rattle.fabric_terms.specs.declared.message.Body.{Body}
use Rattle.fabric_terms.specs.declared.message.Body.TheVariants as body
use Rattle.fabric_terms.specs.declared.report.Reason.{Reason}
use Rattle.fabric_terms.specs.declared.report.Reason.TheVariants as reason
use Rattle.fabric_terms.specs.declared.report.Report.TheVariants as report
use Rattle.fabric_terms.specs.declared.report.Verb.TheVariants as verb
use Rattle.fabric_terms.specs.declared.report.Why.TheVariants.{Counters}
use Rattle.join_phases.specs.Phases.{bound_phase, is_linked}
use Rattle.token_core.specs.Tokens.{announced, can_gain, inherited}
use Rattle.ring_rules.specs.declared.link.Link.{Link}
use Rattle.ring_rules.specs.Rings.{Settings, Ring, Work}
use Rattle.ring_rules.specs.Slots.{slot_at}
use Rattle.ring_rules.specs.Links.{flight_part}
use Rattle.ring_rules.specs.Deeds.{set_phase, tell, refuse, undo_freeze, leave, counted, has_numbers}
use Rattle.ring_rules.specs.Renewals.{grant_wanted}
use Rattle.ring_rules.specs.Flights.{take_flight, flight_returned}
use Rattle.ring_rules.specs.Firing.{inherit}
use Rattle.link_core.specs.declared.announce.Announce.{Announce}
use Rattle.link_core.specs.declared.notes.LinkNote.{LinkNote}
use Rattle.link_core.specs.declared.notes.LinkNote.TheVariants.{BoundNow, Wanted, Arrived, Return, Undo, AccusedNow, DischargedNow, HeirNow, Ripe, Leave}
use Rattle.link_core.specs.declared.refusal.LinkRefusal.{LinkRefusal}
use Rattle.link_core.specs.declared.refusal.LinkRefusal.TheVariants as refusal
use Rattle.link_core.specs.Links.{Links, Did}

-- the links of a ring
abbrev pub links_of : Settings → Ring → Links
links_of c r =
    record {
      me = r.me;
      lease = c.lease;
      longest = c.longest;
      answer = c.answer;
      bound = c.bound;
      arbitrators = c.arbitrators;
      rounds = c.rounds;
      slots = r.slots;
      next_session = r.next_session;
      accused = r.accused;
    }

-- what a ring announces
abbrev pub announce_of : Ring → Announce
announce_of r = record { version = r.token.version; ranges = announced r.token; want = is_linked r.phase }

-- the ring has these links
abbrev pub with_links : Links → Ring → Ring
with_links k r = record r { slots = k.slots; next_session = k.next_session; accused = k.accused }

-- the step has what was done: the links, and the frames that were sent
abbrev pub with_did : Did → Work → Work
with_did d w = record w { ring = with_links d.links w.ring; sent = w.sent ++ d.sent }

-- What the node does for each note, in the words of the ring's rules.

abbrev pub wanted_at : ℕ → Option Link → Work → Work
wanted_at i None w = w
wanted_at i (Some l) w = grant_wanted i l true w

abbrev pub arrived_at : ℕ → Flight → Option Link → Work → Work
arrived_at i f None w = w
arrived_at i f (Some l) w = take_flight i l f.number f.part w (can_gain w.ring.token f.part)

-- What the notes of a row answer: whether the peer is gone and wants an answer, and the flight that it brings.
pub record Cause : Type 0 where
  pub gone : Bool
  pub flight : Option Flight

-- a firing, and a frame that says neither
abbrev pub quiet : Cause
quiet = record { gone = false; flight = None }

abbrev pub parts_from : Bool → Cause
parts_from bound = record { gone = bound; flight = None }

abbrev pub brings : ℕ → List Interval → Cause
brings number part = record { gone = false; flight = Some (record { number = number; part = part }) }

abbrev pub cause_of : Body → Cause
cause_of (body.Gone mine yours got bound) = parts_from bound
cause_of (body.Transfer mine yours flight ranges) = brings flight ranges
cause_of _ = quiet

-- the flight that came, where one did
abbrev pub arrived_in : ℕ → Option Flight → Option Link → Work → Work
arrived_in i None l w = w
arrived_in i (Some f) l w = arrived_at i f l w

abbrev pub returned_by : ℕ → Link → Bool → Option Flight → Work → Work
returned_by i l gone None w = w
returned_by i l gone (Some f) w = flight_returned i l f gone w (can_gain w.ring.token f.part)

-- the flight of the slot, where one stands
abbrev pub returned_in : ℕ → Bool → Option Link → Work → Work
returned_in i gone None w = w
returned_in i gone (Some l) w = returned_by i l gone l.flight w

abbrev pub ripe_in : ℕ → Option Link → Work → Work
ripe_in i None w = w
ripe_in i (Some l) w = inherit i l (inherited w.ring.token l.held (flight_part l.flight)) w

abbrev pub noted : Cause → LinkNote → Work → Work
noted cause BoundNow w = set_phase bound_phase w
noted cause (Wanted i) w = wanted_at i (slot_at i w.ring.slots) w
noted cause (Arrived i) w = arrived_in i cause.flight (slot_at i w.ring.slots) w
noted cause (Return i) w = returned_in i cause.gone (slot_at i w.ring.slots) w
noted cause (Undo i) w = undo_freeze i w
noted cause (AccusedNow who) w = tell (report.Accused who) w
noted cause (DischargedNow who) w = tell (report.Discharged who) w
noted cause (HeirNow who ripe) w = tell (report.Heir who ripe) w
noted cause (Ripe i) w = ripe_in i (slot_at i w.ring.slots) w
noted cause (Leave why) w = leave why w

-- in their order
abbrev pub all_noted : Cause → List LinkNote → Work → Work
all_noted cause [] w = w
all_noted cause (n ∷ ns) w = all_noted cause ns (noted cause n w)

-- a step with what a row did, once its notes are done
abbrev pub finished : Cause → Did → Work → Work
finished cause d w = all_noted cause d.notes (with_did d w)

-- the ring of a step has these links and announces this, and no number of it is past the last
pub record HasLinks (k : Links) (a : Announce) (c : Settings) (r : Ring) : Type 0 where
  pub links : links_of c r ≡ k
  pub announce : announce_of r ≡ a
  pub numbers : IsTrue (has_numbers r)

-- A call on links is a row of the rules: in any step whose ring has these links and whose frames so far end with these,
-- the row comes to the same as the links and the frames after the call, once the notes are done.
abbrev pub Does : (Settings → Work → Work) → Cause → Links → Announce → List (Who × Body) → Did → Type 0
Does row cause old a out d =
    (c : Settings) (w : Work) (before : List (Who × Body)) →
    HasLinks old a c w.ring →
    w.sent ≡ before ++ out →
    counted w (row c w) ≡ counted w (all_noted cause d.notes (record w { ring = with_links d.links w.ring; sent = before ++ d.sent }))

-- a frame of a search is no row of links
abbrev pub is_search : Body → Bool
is_search (body.Seek origin key hops) = true
is_search (body.Found key holder) = true
is_search _ = false

-- what a node does after it greeted, by what its rules do for a refusal
abbrev pub greeted : (Reason → Work → Work) → Work → Result Did LinkRefusal → Work
greeted refused w (Ok d) = counted w (with_did d w)
greeted refused w (Err refusal.Full) = counted w (refused reason.Full w)
greeted refused w (Err refusal.AlreadyLinked) = counted w (refused reason.Linked w)
greeted refused w (Err refusal.NotLinked) = w
greeted refused w (Err refusal.Busy) = w
greeted refused w (Err refusal.Counters) = leave Counters w

-- what a node does after it parted: a freeze for the slot is undone

abbrev pub undone_in : ℕ → Option Link → Work → Work
undone_in i None w = w
undone_in i (Some l) w = undo_freeze i w

abbrev pub undone_where : Option ℕ → Work → Work → Work
undone_where None old w = w
undone_where (Some i) old w = undone_in i (slot_at i old.ring.slots) w

-- by the place of the slot
abbrev pub parted : Option ℕ → Work → Result Did LinkRefusal → Work
parted place w (Ok d) = undone_where place w (with_did d w)
parted place w (Err refusal.NotLinked) = refuse verb.Part reason.NotLinked w
parted place w (Err refusal.Busy) = refuse verb.Part reason.Busy w
parted place w (Err refusal.Full) = w
parted place w (Err refusal.AlreadyLinked) = w
parted place w (Err refusal.Counters) = w
