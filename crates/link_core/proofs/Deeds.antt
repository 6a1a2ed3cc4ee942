-- A call that is a row of links is a row of the rules.
use Rattle.std.proofs.Common.{◌≡◌, ℕ, ◌≤◌, false, List, ◌++◌, refl, sym, ap, ◌∙◌, arith, append_assoc, length-append}
use Rattle.ring_points.specs.declared.who.Who.{Who}
use Rattle.fabric_terms.specs.declared.message.Body.{Body}
use Rattle.fabric_terms.specs.declared.message.Message.{Message}
use Rattle.ring_rules.specs.Deeds.{counted}
use Rattle.ring_rules.specs.Firing as rules_of_firing
use Rattle.ring_rules.specs.Frames as rules
use Rattle.ring_rules.specs.Rings.{Settings, Work}
use Rattle.ring_rules.specs.Slots.{slot_at}
use Rattle.link_core.specs.declared.announce.Announce.{Announce}
use Rattle.link_core.specs.Links.{Links, Did, did_after}
use Rattle.link_core.specs.Firing.{slot_fired}
use Rattle.link_core.specs.Frames.{frame_row}
use Rattle.link_core.specs.Outcomes.{FrameHeard, SlotFired}
use Rattle.link_core.specs.Ties.{quiet, Cause, Does, HasLinks, announce_of, finished, is_search, cause_of, with_links, all_noted}
use Rattle.link_core.proofs.Few.{frame_few}
use Rattle.link_core.proofs.FiredFew.{slot_fired_few}
use Rattle.link_core.proofs.FiringTies.{fired_at_tie}
use Rattle.link_core.proofs.FrameTies.{frame_tie}
use Rattle.ring_points.specs.Limits.{most_arbiters}

does_row : (row : Settings → Work → Work) (cause : Cause) (old : Links) (a : Announce) (out : List (Who × Body)) (d mine : Did) → d ≡ did_after out mine → ((c : Settings) (w : Work) → HasLinks old a c w.ring → counted w (row c w) ≡ counted w (finished cause mine w)) → Does row cause old a out d
does_row row cause old a out d mine e h = λ c w before k s.
    h c w k ∙ ap (λ (sent : List (Who × Body)). counted w (all_noted cause mine.notes (record w { ring = with_links mine.links w.ring; sent = sent })))
    (ap (λ (x : List (Who × Body)). x ++ mine.sent) s ∙ append_assoc before out mine.sent)
    ∙ ap (λ (x : Did). counted w (all_noted cause x.notes (record w { ring = with_links x.links w.ring; sent = before ++ x.sent }))) (sym e)

does_frame : (now : ℕ) (from : Who) (b : Body) (old : Links) (a : Announce) (out : List (Who × Body)) (d : Did) → d ≡ did_after out (frame_row now a from b old) → is_search b ≡ false → Does (λ c. rules.frame_row c now from b) (cause_of b) old a out d
does_frame now from b old a out d e s =
    does_row (λ c. rules.frame_row c now from b) (cause_of b) old a out d (frame_row now a from b old) e
    (λ c w k. frame_tie c now from b w k.numbers s ∙ rw (k.links, k.announce) refl)

does_firing : (now i : ℕ) (old : Links) (a : Announce) (out : List (Who × Body)) (d : Did) → d ≡ did_after out (slot_fired now a i old) → Does (λ c w. rules_of_firing.fired_at c now i (slot_at i w.ring.slots) w) quiet old a out d
does_firing now i old a out d e =
    does_row (λ c w. rules_of_firing.fired_at c now i (slot_at i w.ring.slots) w) quiet old a out d (slot_fired now a i old) e
    (λ c w k. ap (counted w) (fired_at_tie c now i (slot_at i w.ring.slots) w refl) ∙ ap (λ (m : Links). counted w (finished quiet (slot_fired now (announce_of w.ring) i m) w)) k.links ∙ ap (λ (b : Announce). counted w (finished quiet (slot_fired now b i old) w)) k.announce)

-- A call comes to what its row does.

pub frame_heard : (now : ℕ) (a : Announce) (m : Message) (old : Links) (out : List (Who × Body)) (d : Did) → old.arbitrators ≤ most_arbiters → d ≡ did_after out (frame_row now a m.from m.body old) → FrameHeard now a m old out d
frame_heard now a m old out d h e =
    let f = frame_few now a m.from m.body old h in
    record {
      did = e;
      row = does_frame now m.from m.body old a out d e;
      kept = rw e f.kept;
      sessions = rw e f.sessions;
      few = rw (e, length-append) (omega (arith, f.sent));
      notes = rw e f.notes;
    }

pub slot_was_fired : (now i : ℕ) (a : Announce) (old : Links) (out : List (Who × Body)) (d : Did) → old.arbitrators ≤ most_arbiters → d ≡ did_after out (slot_fired now a i old) → SlotFired now i a old out d
slot_was_fired now i a old out d h e =
    let f = slot_fired_few now a i old h in
    record {
      did = e;
      row = does_firing now i old a out d e;
      kept = rw e f.kept;
      accused = rw e f.accused;
      few = rw (e, length-append) (omega (arith, f.sent));
      notes = rw e f.notes;
    }

pub few_arbiters : (k : Links) (n : ℕ) → n ≤ most_arbiters → k.arbitrators ≡ n → k.arbitrators ≤ most_arbiters
few_arbiters k n h e = omega arith
