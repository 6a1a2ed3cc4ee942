-- An answer to a claim, on links, is that of the rules.
use Rattle.std.proofs.Common.{◌≡◌, ℕ, ◌-◌, nat_lt, Bool, true, false, Some, refl, ◌∙◌}
use Rattle.std.proofs.lemmas.List.{append-nil}
use Rattle.ring_points.specs.declared.who.Who.{Who}
use Rattle.ring_points.specs.Whos.{arbiter_actor}
use Rattle.heir_rounds.specs.Rounds.{round_noted, round_verdict}
use Rattle.heir_rounds.specs.declared.verdict.RoundVerdict.{RoundVerdict}
use Rattle.heir_rounds.specs.declared.verdict.RoundVerdict.TheVariants as verdict
use Rattle.ring_rules.specs.declared.link.Link.{Link}
use Rattle.ring_rules.specs.declared.link.LinkState.{LinkState}
use Rattle.ring_rules.specs.declared.link.LinkState.TheVariants.{Discharged}
use Rattle.ring_rules.specs.Claims as rules
use Rattle.ring_rules.specs.Deeds.{put_slot}
use Rattle.ring_rules.specs.Rings.{Settings, Work}
use Rattle.ring_rules.specs.Slots.{slot_at, slot_where, of_instance}
use Rattle.ring_rules.proofs.Rows.{kept_received-is}
use Rattle.link_core.specs.Links.{in_place, same}
use Rattle.link_core.specs.Rounds.{round_judged, is_discharged, kept_if, kept_seen, kept_where, kept_received}
use Rattle.link_core.specs.Rulings.{ripe_at}
use Rattle.link_core.specs.Ties.{quiet, links_of, finished}
use Rattle.link_core.proofs.FiringTies.{claims_tie}
use Rattle.link_core.proofs.SessionTies.{same_tie, stays_tie, session_tie}

judged_tie : (c : Settings) (now i : ℕ) (l : Link) (v : RoundVerdict) (w : Work) → rules.round_judged c now i l v w ≡ finished quiet (in_place i (round_judged c.rounds c.arbitrators l (ripe_at now c.bound c.answer l) v) (links_of c w.ring)) w
judged_tie c now i l verdict.Won w = rw append-nil refl
judged_tie c now i l (verdict.Next r) w = claims_tie c l (put_slot i l w)
judged_tie c now i l verdict.Over w = rw append-nil refl
judged_tie c now i l verdict.Open w = rw append-nil refl

kept_in_tie : (c : Settings) (now arbiter round : ℕ) (claimer : Who) (i : ℕ) (l : Link) (was : LinkState) (w : Work) → slot_at i w.ring.slots ≡ Some l → rules.kept_seen c now arbiter round claimer i l was w ≡ finished quiet (in_place i (kept_if c.rounds c.arbitrators (ripe_at now c.bound c.answer l) arbiter round claimer l (is_discharged was)) (links_of c w.ring)) w
kept_in_tie c now arbiter round claimer i l Discharged w e =
    judged_tie c now i (record l { rounds = round_noted l.rounds round arbiter claimer }) (round_verdict l.rounds round arbiter claimer) w
kept_in_tie c now arbiter round claimer i l _ w e = stays_tie c quiet i (Some l) w e

where_tie : (c : Settings) (now arbiter : ℕ) (victim : Who) (round : ℕ) (claimer : Who) (w : Work) (is : Bool) → rules.kept_where c now arbiter victim round claimer w is ≡ finished quiet (kept_where now arbiter victim round claimer (links_of c w.ring) is) w
where_tie c now arbiter victim round claimer w true =
    session_tie c quiet (rules.kept_seen c now arbiter round claimer) (λ i. kept_seen now c.bound c.answer c.rounds c.arbitrators arbiter round claimer) (λ v. v) (same (links_of c w.ring)) w (slot_where (of_instance victim) w.ring.slots)
    (λ i l e. kept_in_tie c now arbiter round claimer i l l.state w e) (λ i. refl) (same_tie c quiet w)
where_tie c now arbiter victim round claimer w false = same_tie c quiet w

pub kept_tie : (c : Settings) (now : ℕ) (from victim : Who) (round : ℕ) (claimer : Who) (w : Work) → rules.kept_received c now from victim round claimer w ≡ finished quiet (kept_received now from victim round claimer (links_of c w.ring)) w
kept_tie c now from victim round claimer w =
    kept_received-is c now from victim round claimer w ∙ where_tie c now (from.actor - arbiter_actor 0) victim round claimer w (nat_lt 1 c.rounds)
