-- A step on its way: a ring in range as long as it has numbers, what was sent in its format, and what was told in its ranges;
-- and what each deed makes of it.
use Rattle.std.proofs.Common.{◌≡◌, ℕ, ◌+◌, ◌≤◌, Bool, true, false, ◌&&◌, List, Option, Some, None, IsTrue, refl, arith}
use Rattle.std.specs.Prelude.{◌==◌, All, nat_le, slice_set}
use Rattle.std.proofs.lemmas.Bool.{and_parts, and_from, both_ways, leb-true, le-leb}
use Rattle.std.proofs.lemmas.List.Elements.{All-push, All-set}
use Rattle.fabric_terms.specs.declared.config.FabricConfig.{FabricConfig}
use Rattle.fabric_terms.specs.declared.message.Body.{Body}
use Rattle.fabric_terms.specs.declared.report.Reason.{Reason}
use Rattle.fabric_terms.specs.declared.report.Report.{Report}
use Rattle.fabric_terms.specs.declared.report.Report.TheVariants.{LeftRing, Refused}
use Rattle.fabric_terms.specs.declared.report.Verb.{Verb}
use Rattle.fabric_terms.specs.declared.report.Why.{Why}
use Rattle.fabric_terms.specs.declared.report.Why.TheVariants.{Counters}
use Rattle.fabric_terms.specs.Ranges.{FitsReason}
use Rattle.join_phases.specs.declared.phases.Phase.{Phase}
use Rattle.join_phases.specs.Phases.{is_left}
use Rattle.ring_points.specs.declared.interval.Interval.{Interval}
use Rattle.ring_points.specs.declared.who.Who.{Who}
use Rattle.ring_route.specs.declared.known.Known.{Known}
use Rattle.ring_rules.specs.declared.link.Link.{Link}
use Rattle.ring_rules.specs.Deeds.{counted, counted_if, drop_slot, has_numbers, leave, put_slot, refuse, send, set_phase, set_token, tell, then_if, then_unless_left, undo_freeze, undone_at, undone_if}
use Rattle.ring_rules.specs.Handshakes.{count_session}
use Rattle.ring_rules.specs.Rings.{Ring, Work, no_slots}
use Rattle.ring_rules.specs.Slots.{is_bound, slot_at}
use Rattle.fabric_terms.specs.Fields.{is_counted}
use Rattle.token_core.specs.Tokens.{Freeze, Token, frozen, gained, can_gain, last_number, unfrozen}
use Rattle.ring_rules.specs.Renewals.{may_freeze, owns_none}
use Rattle.frames_fit.specs.Formats.{ReportInRange, in_format}
use Rattle.frames_fit.specs.InRange.{IsInRange, KnownInRange, LinkInRange, SlotInRange, TargetInRange, TokenInRange, holds_bound, is_frozen_for_bound}
use Rattle.frames_fit.proofs.Facts.{counted_from}
use Rattle.frames_fit.proofs.Places.{free_in_range, frozen_set, is_frozen_in}
use Rattle.frames_fit.proofs.Tokens.{Rises, frozen_in_range, gained_in_range, unfrozen_in_range}

abbrev pub AllInFormat : List (Who × Body) → Type 0
AllInFormat sent = All (λ m. IsTrue (in_format m)) sent

pub record WorkInRange (c : FabricConfig) (r : Ring) (said : List (Who × Body)) (reports : List Report) : Type 0 where
  pub ring : IsInRange c r
  pub sent : AllInFormat said
  pub told : All ReportInRange reports

-- what a step leaves, and a row on its way: where a number is past the last, the row is not done
abbrev pub Done : FabricConfig → Work → Type 0
Done c w = WorkInRange c w.ring w.sent w.told

abbrev pub Going : FabricConfig → Work → Type 0
Going c w = IsTrue (has_numbers w.ring) → Done c w

-- Numbers.

pub record Numbers (r : Ring) : Type 0 where
  pub version : r.token.version ≤ last_number
  pub sessions : r.next_session ≤ last_number + 1
  pub flights : r.token.next_flight ≤ last_number + 1

pub numbers_parts : (r : Ring) → IsTrue (has_numbers r) → Numbers r
numbers_parts r h =
    let all = and_parts (nat_le r.token.version last_number && nat_le r.next_session (last_number + 1)) (nat_le r.token.next_flight (last_number + 1)) h in
    let two = and_parts (nat_le r.token.version last_number) (nat_le r.next_session (last_number + 1)) all.0 in
    record {
      version = leb-true r.token.version last_number two.0;
      sessions = leb-true r.next_session (last_number + 1) two.1;
      flights = leb-true r.token.next_flight (last_number + 1) all.1;
    }

numbers_from : (r : Ring) → Numbers r → IsTrue (has_numbers r)
numbers_from r h =
    and_from (nat_le r.token.version last_number && nat_le r.next_session (last_number + 1)) (nat_le r.token.next_flight (last_number + 1))
    (and_from (nat_le r.token.version last_number) (nat_le r.next_session (last_number + 1)) (le-leb r.token.version last_number h.version)
    (le-leb r.next_session (last_number + 1) h.sessions))
    (le-leb r.token.next_flight (last_number + 1) h.flights)

-- counters only rise
pub record Rose (old new : Ring) : Type 0 where
  pub version : old.token.version ≤ new.token.version
  pub sessions : old.next_session ≤ new.next_session
  pub flights : old.token.next_flight ≤ new.token.next_flight

numbers_before : (old new : Ring) → Rose old new → IsTrue (has_numbers new) → IsTrue (has_numbers old)
numbers_before old new h n =
    let all = numbers_parts new n in
    let a = all.version in let b = all.sessions in let d = all.flights in
    let e = h.version in let f = h.sessions in let g = h.flights in
    numbers_from old (record { version = omega arith; sessions = omega arith; flights = omega arith })

-- those before points were gained
pub gained_before : (r : Ring) (part : List Interval) → IsTrue (has_numbers (record r { token = gained r.token part })) → IsTrue (has_numbers r)
gained_before r part n =
    numbers_before r (record r { token = gained r.token part }) (record { version = omega arith; sessions = omega arith; flights = omega arith }) n

-- A ring of which something changed.

-- how far it has come, and whom it accused
range_phased : (c : FabricConfig) (r : Ring) (p : Phase) (accused : List Who) → IsInRange c r → IsInRange c (record r { phase = p; accused = accused })
range_phased c r p accused h = record {
  me = h.me;
  configured = h.configured;
  slots = h.slots;
  numbers = h.numbers;
  next_session = h.next_session;
  next_flight = h.next_flight;
  token = h.token;
  frozen = h.frozen;
  points = h.points;
  known = h.known;
  target = h.target;
}

-- a place
range_placed : (c : FabricConfig) (r : Ring) (i : ℕ) (o : Option Link) → IsInRange c r → SlotInRange o →
    (is_frozen_in i r.token.freeze ≡ true → holds_bound o ≡ true) → IsInRange c (record r { slots = slice_set r.slots i o })
range_placed c r i o h fine bound = record {
  me = h.me;
  configured = h.configured;
  slots = All-set SlotInRange r.slots i o fine h.slots;
  numbers = h.numbers;
  next_session = h.next_session;
  next_flight = h.next_flight;
  token = h.token;
  frozen = frozen_set r.slots i o r.token.freeze h.frozen bound;
  points = h.points;
  known = h.known;
  target = h.target;
}

-- the token
range_tokened : (c : FabricConfig) (r : Ring) (t : Token) → IsInRange c r → IsTrue (has_numbers (record r { token = t })) →
    r.token.next_flight ≤ t.next_flight → TokenInRange t → IsTrue (is_frozen_for_bound t.freeze r.slots) → IsInRange c (record r { token = t })
range_tokened c r t h n more fine bound = record {
  me = h.me;
  configured = h.configured;
  slots = h.slots;
  numbers = n;
  next_session = h.next_session;
  next_flight = (let one = h.next_flight in omega arith);
  token = fine;
  frozen = bound;
  points = h.points;
  known = h.known;
  target = h.target;
}

-- whom it knows, and by whom it joins
range_routed : (c : FabricConfig) (r : Ring) (known : List Known) (target : Option ℕ) → IsInRange c r → All KnownInRange known → TargetInRange target →
    IsInRange c (record r { routes = record r.routes { known = known }; target = target })
range_routed c r known target h fine to = record {
  me = h.me;
  configured = h.configured;
  slots = h.slots;
  numbers = h.numbers;
  next_session = h.next_session;
  next_flight = h.next_flight;
  token = h.token;
  frozen = h.frozen;
  points = h.points;
  known = fine;
  target = to;
}

-- The deeds.

module _ (c : FabricConfig) (w : Work) (a : Going c w) where
  pub sends : (to : Who) (b : Body) → (IsInRange c w.ring → IsTrue (in_format (to, b))) → Going c (send to b w)
  sends to b fine n =
      let d = a n in
      record { ring = d.ring; sent = All-push (λ m. IsTrue (in_format m)) w.sent (to, b) d.sent (fine d.ring); told = d.told }

  pub tells : (r : Report) → (IsInRange c w.ring → ReportInRange r) → Going c (tell r w)
  tells r fine n = let d = a n in record { ring = d.ring; sent = d.sent; told = All-push ReportInRange w.told r d.told (fine d.ring) }

  pub refuses : (verb : Verb) (reason : Reason) → FitsReason reason → Going c (refuse verb reason w)
  refuses verb reason fine = tells (Refused verb reason) (λ r. fine)

  pub phases : (next : Phase → Phase) → Going c (set_phase next w)
  phases next n = let d = a n in record { ring = range_phased c w.ring (next w.ring.phase) w.ring.accused d.ring; sent = d.sent; told = d.told }

  pub puts : (i : ℕ) (l : Link) → (IsInRange c w.ring → LinkInRange l) →
      (IsInRange c w.ring → is_frozen_in i w.ring.token.freeze ≡ true → is_bound l.state ≡ true) → Going c (put_slot i l w)
  puts i l fine bound n = let d = a n in record { ring = range_placed c w.ring i (Some l) d.ring (fine d.ring) (bound d.ring); sent = d.sent; told = d.told }

  pub drops : (i : ℕ) → (IsInRange c w.ring → is_frozen_in i w.ring.token.freeze ≡ false) → Going c (drop_slot i w)
  drops i free n = let d = a n in
      record { ring = range_placed c w.ring i None d.ring tt (λ e. absurd (both_ways _ (free d.ring) e)); sent = d.sent; told = d.told }

  pub tokens : (t : Token) → w.ring.token.version ≤ t.version → w.ring.token.next_flight ≤ t.next_flight → (IsInRange c w.ring → TokenInRange t) →
      (IsInRange c w.ring → IsTrue (is_frozen_for_bound t.freeze w.ring.slots)) → Going c (set_token t w)
  tokens t version flights fine bound n =
      let before = numbers_before w.ring (record w.ring { token = t }) (record { version = version; sessions = omega arith; flights = flights }) n in
      let d = a before in
      record { ring = range_tokened c w.ring t d.ring n flights (fine d.ring) (bound d.ring); sent = d.sent; told = d.told }

  -- a link begins in a place, by the next number, and says so
  pub begins : (i : ℕ) (l : Link) (b : Body) → l.mine ≡ w.ring.next_session → (IsTrue (is_counted l.mine) → LinkInRange l) →
      (LinkInRange l → IsTrue (in_format (l.peer, b))) → (IsInRange c w.ring → is_frozen_in i w.ring.token.freeze ≡ false) →
      Going c (send l.peer b (count_session (put_slot i l w)))
  begins i l b next fine said free n =
      let parts = numbers_parts (count_session (put_slot i l w)).ring n in
      let last = parts.sessions in
      let d = a (numbers_from w.ring (record { version = parts.version; sessions = omega arith; flights = parts.flights })) in
      let r = d.ring in
      let one = r.next_session in
      let link : LinkInRange l = fine (counted_from l.mine (omega arith) (omega arith)) in
      let placed = range_placed c w.ring i (Some l) r link (λ e. absurd (both_ways _ (free r) e)) in
      record {
        ring = record {
          me = r.me;
          configured = r.configured;
          slots = placed.slots;
          numbers = n;
          next_session = omega arith;
          next_flight = r.next_flight;
          token = r.token;
          frozen = placed.frozen;
          points = r.points;
          known = r.known;
          target = r.target;
        };
        sent = All-push (λ m. IsTrue (in_format m)) w.sent (l.peer, b) d.sent (said link);
        told = d.told;
      }

  pub routes : (known : List Known) (target : Option ℕ) → (IsInRange c w.ring → All KnownInRange known) → (IsInRange c w.ring → TargetInRange target) →
      Going c (record w { ring = record w.ring { routes = record w.ring.routes { known = known }; target = target } })
  routes known target fine to n = let d = a n in record { ring = range_routed c w.ring known target d.ring (fine d.ring) (to d.ring); sent = d.sent; told = d.told }

  pub accuses : (accused : List Who) → Going c (record w { ring = record w.ring { accused = accused } })
  accuses accused n = let d = a n in record { ring = range_phased c w.ring w.ring.phase accused d.ring; sent = d.sent; told = d.told }

  pub gains : (part : List Interval) → (IsInRange c w.ring → Rises part) → IsTrue (can_gain w.ring.token part) →
      Going c (set_token (gained w.ring.token part) w)
  gains part rises fit =
      tokens (gained w.ring.token part) (omega arith) (omega arith) (λ r. gained_in_range w.ring.token r.token part (rises r) fit) (λ r. r.frozen)

  -- for a link that is bound
  pub freezes : (part : List Interval) (i : ℕ) → (IsInRange c w.ring → Rises part) → owns_none w.ring.token part ≡ false →
      IsTrue (may_freeze w.ring.token part) → holds_bound (slot_at i w.ring.slots) ≡ true → Going c (set_token (frozen w.ring.token part i) w)
  freezes part i rises some fit bound =
      tokens (frozen w.ring.token part i) (omega arith) (omega arith) (λ r. frozen_in_range w.ring.token r.token part i (rises r) some fit) (λ r. bound)

  pub undoes : (i : ℕ) → Going c (undo_freeze i w)
  undoes i = at w.ring.token.freeze
    where
      here : Going c (set_token (unfrozen w.ring.token) w)
      here = tokens (unfrozen w.ring.token) (omega arith) (omega arith) (λ r. unfrozen_in_range w.ring.token r.token) (λ r. refl)

      by_place : (b : Bool) → Going c (set_token (undone_if w.ring.token b) w)
      by_place true = here
      by_place false = a

      at : (o : Option Freeze) → Going c (set_token (undone_at i w.ring.token o) w)
      at None = a
      at (Some z) = by_place (z.slot == i)

  pub leaves : (why : Why) → Going c (leave why w)
  leaves why n = let d = a n in let r = d.ring in record {
    ring = record {
      me = r.me;
      configured = r.configured;
      slots = free_in_range no_slots refl;
      numbers = n;
      next_session = r.next_session;
      next_flight = r.next_flight;
      token = record { ranges = refl; announced = refl; freeze = tt };
      frozen = refl;
      points = r.points;
      known = r.known;
      target = r.target;
    };
    sent = d.sent;
    told = All-push ReportInRange w.told (LeftRing why) d.told tt;
  }

-- Rows that are done, or not.

pub counts : (c : FabricConfig) (old new : Work) → Done c old → Going c new → Done c (counted old new)
counts c old new d a = by_numbers (has_numbers new.ring) refl
  where
    by_numbers : (b : Bool) → has_numbers new.ring ≡ b → Done c (counted_if old new b)
    by_numbers true e = a e
    by_numbers false e = leaves c old (λ n. d) Counters d.ring.numbers

pub goes_on : (c : FabricConfig) (next : Work → Work) (w : Work) → Done c w → Done c (next w) → Done c (then_unless_left next w)
goes_on c next w d e = by_phase (is_left w.ring.phase)
  where
    by_phase : (b : Bool) → Done c (then_if next w b)
    by_phase true = d
    by_phase false = e
