-- What the notes of links leave of a step: versions only grow, and what was sent and told before stays.
use Rattle.std.proofs.Common.{◌≡◌, ℕ, ◌+◌, ◌≤◌, ◌<◌, Bool, true, false, not, ◌&&◌, List, [], ◌∷◌, ◌++◌, Option, Some, None, length, take, drop, get_or, refl, sym, ap, ◌∙◌, arith, nat_le, ◌==◌, is_some}
use Rattle.std.proofs.Math.Seq.{take-append_seam, take-length}
use Rattle.std.proofs.lemmas.Bool.Decides.{nat_tests}
use Rattle.std.proofs.lemmas.List.{at_drop_more, length-take, take-take}
use Rattle.fabric_terms.specs.declared.report.Report.{Report}
use Rattle.fabric_terms.specs.declared.report.Report.TheVariants.{Returned}
use Rattle.link_core.specs.declared.notes.LinkNote.{LinkNote}
use Rattle.link_core.specs.declared.notes.LinkNote.TheVariants as note
use Rattle.link_core.specs.Ties.{Cause, all_noted, arrived_at, arrived_in, noted, returned_by, returned_in, ripe_in, wanted_at}
use Rattle.ring_node.specs.Nodes.{IsBroken, IsBrokenOff, Step, by}
use Rattle.ring_points.specs.declared.interval.Interval.{Interval}
use Rattle.ring_points.specs.declared.who.Flight.{Flight}
use Rattle.ring_points.specs.Ranges.{fits}
use Rattle.join_phases.specs.Phases.{is_routing}
use Rattle.ring_rules.specs.declared.link.Link.{Link}
use Rattle.ring_rules.specs.Deeds.{has_numbers, undo_freeze, undone_at, undone_if}
use Rattle.ring_rules.specs.Firing.{take_over}
use Rattle.ring_rules.specs.Flights.{close, flight_returned, take_flight}
use Rattle.ring_rules.specs.Links.{flight_part, has_flight}
use Rattle.ring_rules.specs.Renewals.{freeze_if, grant_if, may_freeze, near_part, owns_none}
use Rattle.ring_rules.specs.Rings.{Work}
use Rattle.ring_rules.specs.Slots.{slot_at}
use Rattle.token_core.specs.Tokens.{Freeze, Token, can_gain, gained, inherited, last_number}

-- what a note keeps of a step
pub record Keeps (w v : Work) : Type 0 where
  pub me : v.ring.me ≡ w.ring.me
  pub accused : v.ring.accused ≡ w.ring.accused
  pub sessions : v.ring.next_session ≡ w.ring.next_session
  pub routes : v.ring.routes ≡ w.ring.routes
  pub target : v.ring.target ≡ w.ring.target
  pub flights : v.ring.token.next_flight ≡ w.ring.token.next_flight
  pub version : w.ring.token.version ≤ v.ring.token.version
  pub sent : take (length w.sent) v.sent ≡ w.sent
  pub told : take (length w.told) v.told ≡ w.told

keeps : (w : Work) → Keeps w w
keeps w = record { me = refl; accused = refl; sessions = refl; routes = refl; target = refl; flights = refl; version = omega arith; sent = take-length w.sent; told = take-length w.told }

shorter : {A : Type 0} (xs ys : List A) → take (length xs) ys ≡ xs → length xs ≤ length ys
shorter xs ys e = omega (arith, length-take (length xs) ys, ap length e)

pub take_take : {A : Type 0} (xs ys zs : List A) → take (length xs) ys ≡ xs → take (length ys) zs ≡ ys → take (length xs) zs ≡ xs
take_take xs ys zs e f =
    sym (take-take (length xs) (length ys) zs (shorter xs ys e)) ∙ ap (take (length xs)) f ∙ e

pub keeps_both : (u v w : Work) → Keeps u v → Keeps v w → Keeps u w
keeps_both u v w h k = record {
  me = k.me ∙ h.me;
  accused = k.accused ∙ h.accused;
  sessions = k.sessions ∙ h.sessions;
  routes = k.routes ∙ h.routes;
  target = k.target ∙ h.target;
  flights = k.flights ∙ h.flights;
  version = omega (arith, h.version, k.version);
  sent = take_take u.sent v.sent w.sent h.sent k.sent;
  told = take_take u.told v.told w.told h.told k.told;
}

undone_version : (i : ℕ) (t : Token) (z : Option Freeze) → t.version ≤ (undone_at i t z).version
undone_version i t None = omega arith
undone_version i t (Some z) = elim (z.slot == i) as (λ b. t.version ≤ (undone_if t b).version) [ true ↦ omega arith | false ↦ omega arith ]

undone_flights : (i : ℕ) (t : Token) (z : Option Freeze) → (undone_at i t z).next_flight ≡ t.next_flight
undone_flights i t None = refl
undone_flights i t (Some z) = elim (z.slot == i) as (λ b. (undone_if t b).next_flight ≡ t.next_flight) [ true ↦ refl | false ↦ refl ]

keeps_undo : (i : ℕ) (w : Work) → Keeps w (undo_freeze i w)
keeps_undo i w = record { me = refl; accused = refl; sessions = refl; routes = refl; target = refl; flights = undone_flights i w.ring.token w.ring.token.freeze; version = undone_version i w.ring.token w.ring.token.freeze; sent = take-length w.sent; told = take-length w.told }

-- a change of the token that makes its version one more
keeps_freeze : (i : ℕ) (part : List Interval) (w : Work) (may : Bool) → Keeps w (freeze_if i part w may)
keeps_freeze i part w true = record { me = refl; accused = refl; sessions = refl; routes = refl; target = refl; flights = refl; version = omega arith; sent = take-length w.sent; told = take-length w.told }
keeps_freeze i part w false = keeps w

keeps_grant : (i : ℕ) (l : Link) (w : Work) (may : Bool) → Keeps w (grant_if i l w may)
keeps_grant i l w true = keeps_freeze i (near_part w.ring l) w (not (owns_none w.ring.token (near_part w.ring l)) && may_freeze w.ring.token (near_part w.ring l))
keeps_grant i l w false = keeps w

keeps_wanted : (i : ℕ) (slot : Option Link) (w : Work) → Keeps w (wanted_at i slot w)
keeps_wanted i None w = keeps w
keeps_wanted i (Some l) w = keeps_grant i l w (is_routing w.ring.phase && not (is_some w.ring.token.freeze) && not (has_flight l))

keeps_take : (i : ℕ) (l : Link) (f : Flight) (w : Work) (may : Bool) → Keeps w (take_flight i l f.number f.part w may)
keeps_take i l f w true = record { me = refl; accused = refl; sessions = refl; routes = refl; target = refl; flights = refl; version = omega arith; sent = take-length w.sent; told = take-append_seam w.told _ }
keeps_take i l f w false = keeps w

keeps_arrived : (i : ℕ) (f : Flight) (slot : Option Link) (w : Work) → Keeps w (arrived_at i f slot w)
keeps_arrived i f None w = keeps w
keeps_arrived i f (Some l) w = keeps_take i l f w (can_gain w.ring.token f.part)

keeps_close : (i : ℕ) (l : Link) (gone : Bool) (w : Work) → Keeps w (close i l gone w)
keeps_close i l true w = record { me = refl; accused = refl; sessions = refl; routes = refl; target = refl; flights = undone_flights i w.ring.token w.ring.token.freeze; version = undone_version i w.ring.token w.ring.token.freeze; sent = take-append_seam w.sent _; told = take-length w.told }
keeps_close i l false w = record { me = refl; accused = refl; sessions = refl; routes = refl; target = refl; flights = undone_flights i w.ring.token w.ring.token.freeze; version = undone_version i w.ring.token w.ring.token.freeze; sent = take-length w.sent; told = take-length w.told }

-- the flight is owned again
abbrev returning : Link → Flight → Work → Work
returning l f w = record w { ring = record w.ring { token = gained w.ring.token f.part }; told = w.told ++ Returned l.peer f.number f.part ∷ [] }

keeps_returned_if : (i : ℕ) (l : Link) (f : Flight) (gone : Bool) (w : Work) (may : Bool) → Keeps w (flight_returned i l f gone w may)
keeps_returned_if i l f gone w true =
    keeps_both w (returning l f w) (close i l gone (returning l f w)) (record { me = refl; accused = refl; sessions = refl; routes = refl; target = refl; flights = refl; version = omega arith; sent = take-length w.sent; told = take-append_seam w.told (Returned l.peer f.number f.part ∷ []) }) (keeps_close i l gone (returning l f w))
keeps_returned_if i l f gone w false = keeps w

keeps_arrived_in : (i : ℕ) (f : Option Flight) (slot : Option Link) (w : Work) → Keeps w (arrived_in i f slot w)
keeps_arrived_in i None slot w = keeps w
keeps_arrived_in i (Some f) slot w = keeps_arrived i f slot w

keeps_returned_by : (i : ℕ) (l : Link) (gone : Bool) (f : Option Flight) (w : Work) → Keeps w (returned_by i l gone f w)
keeps_returned_by i l gone None w = keeps w
keeps_returned_by i l gone (Some f) w = keeps_returned_if i l f gone w (can_gain w.ring.token f.part)

keeps_returned : (i : ℕ) (gone : Bool) (slot : Option Link) (w : Work) → Keeps w (returned_in i gone slot w)
keeps_returned i gone None w = keeps w
keeps_returned i gone (Some l) w = keeps_returned_by i l gone l.flight w

keeps_take_over : (i : ℕ) (l : Link) (added : List Interval) (w : Work) (may : Bool) → Keeps w (take_over i l added w may)
keeps_take_over i l added w true = record { me = refl; accused = refl; sessions = refl; routes = refl; target = refl; flights = refl; version = omega arith; sent = take-length w.sent; told = take-append_seam w.told _ }
keeps_take_over i l added w false = keeps w

keeps_ripe : (i : ℕ) (slot : Option Link) (w : Work) → Keeps w (ripe_in i slot w)
keeps_ripe i None w = keeps w
keeps_ripe i (Some l) w = let added = inherited w.ring.token l.held (flight_part l.flight) in keeps_take_over i l added w (fits added && can_gain w.ring.token added)

-- a report alone
keeps_told : (w : Work) (r : Report) → Keeps w (record w { told = w.told ++ r ∷ [] })
keeps_told w r = record { me = refl; accused = refl; sessions = refl; routes = refl; target = refl; flights = refl; version = omega arith; sent = take-length w.sent; told = take-append_seam w.told (r ∷ []) }

pub noted_keeps : (cause : Cause) (n : LinkNote) (w : Work) → Keeps w (noted cause n w)
noted_keeps cause note.BoundNow w = record { me = refl; accused = refl; sessions = refl; routes = refl; target = refl; flights = refl; version = omega arith; sent = take-length w.sent; told = take-length w.told }
noted_keeps cause (note.Wanted i) w = keeps_wanted i (slot_at i w.ring.slots) w
noted_keeps cause (note.Arrived i) w = keeps_arrived_in i cause.flight (slot_at i w.ring.slots) w
noted_keeps cause (note.Return i) w = keeps_returned i cause.gone (slot_at i w.ring.slots) w
noted_keeps cause (note.Undo i) w = keeps_undo i w
noted_keeps cause (note.AccusedNow who) w = keeps_told w _
noted_keeps cause (note.DischargedNow who) w = keeps_told w _
noted_keeps cause (note.HeirNow who ripe) w = keeps_told w _
noted_keeps cause (note.Ripe i) w = keeps_ripe i (slot_at i w.ring.slots) w
noted_keeps cause (note.Leave why) w = record { me = refl; accused = refl; sessions = refl; routes = refl; target = refl; flights = refl; version = omega arith; sent = take-length w.sent; told = take-append_seam w.told _ }

pub all_noted_keeps : (cause : Cause) (ns : List LinkNote) (w : Work) → Keeps w (all_noted cause ns w)
all_noted_keeps cause [] w = keeps w
all_noted_keeps cause (n ∷ ns) w = keeps_both w (noted cause n w) (all_noted cause ns (noted cause n w)) (noted_keeps cause n w) (all_noted_keeps cause ns (noted cause n w))

no_numbers : (a b s f : ℕ) → a ≤ b → (nat_le a last_number && nat_le s (last_number + 1) && nat_le f (last_number + 1)) ≡ false → (nat_le b last_number && nat_le s (last_number + 1) && nat_le f (last_number + 1)) ≡ false
no_numbers a b s f h e = grind (arith, nat_tests)

-- what has no number gets none by notes
pub no_numbers_kept : (w v : Work) → Keeps w v → has_numbers w.ring ≡ false → has_numbers v.ring ≡ false
no_numbers_kept w v k h = rw (k.sessions, k.flights) (no_numbers w.ring.token.version v.ring.token.version w.ring.next_session w.ring.token.next_flight k.version h)

-- the notes up to this place are done: the others are left to do
pub record SoFar (cause : Cause) (notes : List LinkNote) (i : ℕ) (s t : Step) : Type 0 where
  pub rest : by (λ c. all_noted cause (drop i notes)) t ≡ by (λ c. all_noted cause notes) s
  pub settings : t.settings ≡ s.settings
  pub keeps : Keeps s.work t.work

pub so_far_more : (cause : Cause) (notes : List LinkNote) (i : ℕ) (n : LinkNote) (s t u : Step) → i < length notes → n ≡ get_or notes i n → SoFar cause notes i s t → u ≡ by (λ c. noted cause n) t → SoFar cause notes (i + 1) s u
so_far_more cause notes i n s t u h e k f = record {
  rest = rw f (ap (λ (m : LinkNote). by (λ c. all_noted cause (m ∷ drop (i + 1) notes)) t) e ∙ sym (at_drop_more (λ (ns : List LinkNote). by (λ c. all_noted cause ns) t) notes i n h) ∙ k.rest);
  settings = ap (λ (x : Step). x.settings) f ∙ k.settings;
  keeps = rw f (keeps_both s.work t.work (noted cause n t.work) k.keeps (noted_keeps cause n t.work));
}

pub so_far_broken : (cause : Cause) (notes : List LinkNote) (i : ℕ) (n : LinkNote) (s t u : Step) → i < length notes → n ≡ get_or notes i n → SoFar cause notes i s t → IsBroken (λ c. noted cause n) t u → IsBrokenOff (λ c. all_noted cause notes) s u
so_far_broken cause notes i n s t u h e k b =
    let v = noted cause n t.work in
    let same : by (λ c. all_noted cause (drop (i + 1) notes)) (by (λ c. noted cause n) t) ≡ by (λ c. all_noted cause notes) s =
    ap (λ (m : LinkNote). by (λ c. all_noted cause (m ∷ drop (i + 1) notes)) t) e ∙ sym (at_drop_more (λ (ns : List LinkNote). by (λ c. all_noted cause ns) t) notes i n h) ∙ k.rest in
    record {
      numbers = sym (ap (λ (x : Step). has_numbers x.work.ring) same) ∙ no_numbers_kept v (all_noted cause (drop (i + 1) notes) v) (all_noted_keeps cause (drop (i + 1) notes) v) b.numbers;
      patched = record {
        settings = ap (λ (x : Step). x.settings) b.rest ∙ k.settings;
        me = ap (λ (x : Step). x.work.ring.me) b.rest ∙ k.keeps.me;
        accused = let a : u.work.ring.accused ≡ s.work.ring.accused = ap (λ (x : Step). x.work.ring.accused) b.rest ∙ k.keeps.accused in rw a (take-length s.work.ring.accused);
        routes = ap (λ (x : Step). x.work.ring.routes) b.rest ∙ k.keeps.routes;
        target = ap (λ (x : Step). x.work.ring.target) b.rest ∙ k.keeps.target;
        flights = ap (λ (x : Step). x.work.ring.token.next_flight) b.rest ∙ k.keeps.flights;
        version = omega (arith, k.keeps.version, b.version);
        sessions = let a : u.work.ring.next_session ≡ s.work.ring.next_session = ap (λ (x : Step). x.work.ring.next_session) b.rest ∙ k.keeps.sessions in omega (arith, a);
        sent = let a : u.work.sent ≡ t.work.sent = ap (λ (x : Step). x.work.sent) b.rest in rw a k.keeps.sent;
        told = let a : u.work.told ≡ t.work.told = ap (λ (x : Step). x.work.told) b.rest in rw a k.keeps.told;
      };
    }
