-- A firing sends few frames, and changes slots and the accused alone.
use Rattle.std.proofs.Common.{ℕ, zero, suc, ◌+◌, ◌≤◌, ◌∷◌, ◌++◌, [], ◌&&◌, not, Bool, true, false, List, length, Option, Some, None, ◌≡◌, ap, ◌∙◌, refl, arith, nat_lt, nat_le, length-append}
use Rattle.fabric_terms.specs.declared.message.Body.{Body}
use Rattle.std.proofs.Math.Seq.{take-append_seam, take-length}
use Rattle.ring_points.specs.declared.who.Flight.{Flight}
use Rattle.ring_points.specs.declared.who.Ruling.{Ruling}
use Rattle.ring_points.specs.declared.who.Who.{Who}
use Rattle.arbiter_quorum.specs.Tallies.{has_answered}
use Rattle.ring_rules.specs.declared.link.Link.{Link}
use Rattle.ring_rules.specs.declared.link.LinkState.{LinkState}
use Rattle.ring_rules.specs.declared.link.LinkState.TheVariants.{Hello, Offered, Bound, Parting, Accused, Discharged, Heir}
use Rattle.ring_rules.specs.Rings.{accused_limit}
use Rattle.ring_rules.specs.Slots.{slot_at}
use Rattle.link_core.specs.declared.announce.Announce.{Announce}
use Rattle.link_core.specs.Rounds.{claimed_first, claimed_if, claims, claims_if}
use Rattle.link_core.specs.Links.{Links, Turn}
use Rattle.link_core.specs.Kept.{IsFired}
use Rattle.link_core.specs.Firing.{accuse_if, accusing, asked, asked_first, asked_if, discharged_due, discharged_end, fired_at, fired_if, heir_due, hello_due, is_over, slot_fired, spoken, transfer_again}
use Rattle.link_core.proofs.Asked.{asked_first-zero, asked_first-suc, claimed_first-zero, claimed_first-suc}
use Rattle.ring_points.specs.Limits.{most_arbiters, most_messages}
use Rattle.link_core.specs.Limits.{most_row_messages, most_row_notes}

asked_if_few : (a : ℕ) (peer : Who) (answered : Bool) → length (asked_if a peer answered) ≤ 1
asked_if_few a peer true = omega arith
asked_if_few a peer false = omega arith

asked_first_few : (n : ℕ) (peer : Who) (answers : List (ℕ × Ruling)) → length (asked_first n peer answers) ≤ n
asked_first_few zero peer answers = rw asked_first-zero (omega arith)
asked_first_few (suc n) peer answers =
    rw (asked_first-suc, length-append) (omega (arith, asked_first_few n peer answers, asked_if_few (suc n) peer (has_answered (suc n) answers)))

asked_few : (n : ℕ) (l : Link) → n ≤ most_arbiters → length (asked n l) ≤ most_row_messages
asked_few n l h = omega (arith, asked_first_few n l.peer l.tally.answers)

-- an arbitrator is asked or claimed at, not both
one_of_both : (a : ℕ) (l : Link) (answered kept : Bool) → length (asked_if a l.peer answered) + length (claimed_if a l (answered && not kept)) ≤ 1
one_of_both a l true true = omega arith
one_of_both a l true false = omega arith
one_of_both a l false kept = omega arith

pub both_first_few : (n : ℕ) (l : Link) → length (asked_first n l.peer l.tally.answers) + length (claimed_first n l) ≤ n
both_first_few zero l = rw (asked_first-zero, claimed_first-zero) (omega arith)
both_first_few (suc n) l =
    rw (asked_first-suc, claimed_first-suc, length-append, length-append)
    (omega (arith, both_first_few n l, one_of_both (suc n) l (has_answered (suc n) l.tally.answers) (has_answered (suc n) l.rounds.answers)))

both_few : (rounds n : ℕ) (l : Link) → n ≤ most_arbiters → length (asked n l ++ claims rounds n l) ≤ most_row_messages
both_few rounds n l h = go (nat_lt 1 rounds)
  where
    go : (b : Bool) → length (asked n l ++ claims_if n l b) ≤ most_row_messages
    go true = rw length-append (omega (arith, both_first_few n l))
    go false = rw length-append (omega (arith, asked_few n l h))

-- as few frames and notes as a row has
pub record Few (t : Turn) : Type 0 where
  pub sent : length t.sent ≤ most_row_messages
  pub notes : length t.notes ≤ most_row_notes

accuse_few : (i : ℕ) (l : Link) (k : Links) (room : Bool) → k.arbitrators ≤ most_arbiters → IsFired k (accuse_if i l k room)
accuse_few i l k true h = record { kept = refl; accused = take-append_seam k.accused (l.peer ∷ []); sent = asked_few k.arbitrators (accusing k l) h; notes = omega arith }
accuse_few i l k false h = record { kept = refl; accused = take-length k.accused; sent = omega arith; notes = omega arith }

hello_few : (l : Link) (over : Bool) → Few (hello_due l over)
hello_few l true = record { sent = omega arith; notes = omega arith }
hello_few l false = record { sent = omega arith; notes = omega arith }

again_few : (l : Link) (flight : Option Flight) → length (transfer_again l flight) ≤ 1
again_few l None = omega arith
again_few l (Some f) = omega arith

discharged_few : (rounds n : ℕ) (l : Link) (over : Bool) → n ≤ most_arbiters → Few (discharged_due rounds n l over)
discharged_few rounds n l true h = record { sent = omega arith; notes = omega arith }
discharged_few rounds n l false h = record { sent = both_few rounds n l h; notes = omega arith }

heir_few : (i : ℕ) (l : Link) (ripe : Bool) → Few (heir_due i l ripe)
heir_few i l true = record { sent = omega arith; notes = omega arith }
heir_few i l false = record { sent = omega arith; notes = omega arith }

spoken_few : (now : ℕ) (a : Announce) (answer rounds n i : ℕ) (l : Link) (was : LinkState) → n ≤ most_arbiters → Few (spoken now a answer rounds n i l was)
spoken_few now a answer rounds n i l Hello h = hello_few l (nat_le l.until now)
spoken_few now a answer rounds n i l Offered h = record { sent = omega arith; notes = omega arith }
spoken_few now a answer rounds n i l Bound h = record { sent = omega (arith, again_few l l.flight); notes = omega arith }
spoken_few now a answer rounds n i l Parting h = record { sent = omega arith; notes = omega arith }
spoken_few now a answer rounds n i l Accused h = record { sent = asked_few n l h; notes = omega arith }
spoken_few now a answer rounds n i l Discharged h = discharged_few rounds n l (nat_le (discharged_end answer rounds l) now) h
spoken_few now a answer rounds n i l Heir h = heir_few i l (nat_le l.ripe now)

fired_if_few : (now : ℕ) (a : Announce) (i : ℕ) (l : Link) (was : LinkState) (k : Links) (over : Bool) → k.arbitrators ≤ most_arbiters → IsFired k (fired_if now a i l was k over)
fired_if_few now a i l was k true h = accuse_few i l k (nat_lt (length k.accused) accused_limit) h
fired_if_few now a i l was k false h = let f = spoken_few now a k.answer k.rounds k.arbitrators i l was h in record { kept = refl; accused = take-length k.accused; sent = f.sent; notes = f.notes }

fired_at_few : (now : ℕ) (a : Announce) (i : ℕ) (slot : Option Link) (k : Links) → k.arbitrators ≤ most_arbiters → IsFired k (fired_at now a i slot k)
fired_at_few now a i None k h = record { kept = refl; accused = take-length k.accused; sent = omega arith; notes = omega arith }
fired_at_few now a i (Some l) k h = fired_if_few now a i l l.state k (is_over now l) h

pub slot_fired_few : (now : ℕ) (a : Announce) (i : ℕ) (k : Links) → k.arbitrators ≤ most_arbiters → IsFired k (slot_fired now a i k)
slot_fired_few now a i k h = fired_at_few now a i (slot_at i k.slots) k h

-- the room for a row is enough for the claims, also after the questions
pub room_for_claims : (n : ℕ) (l : Link) (before : List (Who × Body)) → n ≤ most_arbiters → length before + most_row_messages ≤ most_messages → length before + length (claimed_first n l) ≤ most_messages
room_for_claims n l before few room = let both = both_first_few n l in omega arith

pub room_after_asking : (n : ℕ) (l : Link) (before now : List (Who × Body)) → now ≡ before ++ asked n l → n ≤ most_arbiters → length before + most_row_messages ≤ most_messages →
    length now + length (claimed_first n l) ≤ most_messages
room_after_asking n l before now e few room =
    let both = both_first_few n l in
    let long : length now ≡ length before + length (asked_first n l.peer l.tally.answers) = ap length e ∙ length-append before (asked n l) in
    omega arith
