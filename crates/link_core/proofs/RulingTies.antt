-- A ruling on links is that of the rules.
use Rattle.std.proofs.Common.{◌≡◌, ℕ, ◌-◌, Bool, true, false, not, ◌||◌, Some, refl, ◌∙◌}
use Rattle.std.proofs.lemmas.List.{append-nil}
use Rattle.ring_points.specs.declared.who.Ruling.{Ruling}
use Rattle.ring_points.specs.declared.who.Who.{Who}
use Rattle.ring_points.specs.Whos.{arbiter_actor}
use Rattle.arbiter_quorum.specs.declared.verdict.Verdict.{Verdict}
use Rattle.arbiter_quorum.specs.declared.verdict.Verdict.TheVariants as verdict
use Rattle.arbiter_quorum.specs.Tallies.{noted, verdict_of}
use Rattle.ring_rules.specs.declared.link.Link.{Link}
use Rattle.ring_rules.specs.declared.link.LinkState.{LinkState}
use Rattle.ring_rules.specs.declared.link.LinkState.TheVariants.{Accused, Discharged}
use Rattle.ring_rules.specs.Links.{is_bare}
use Rattle.ring_rules.specs.Rulings as rules
use Rattle.ring_rules.specs.Rings.{Settings, Work}
use Rattle.ring_rules.specs.Slots.{slot_at, slot_where, of_instance}
use Rattle.ring_rules.proofs.Rows.{ruling_received-is}
use Rattle.link_core.specs.Links.{in_place, same}
use Rattle.link_core.specs.Rulings.{ripe_at, made_heir, discharge_told, may_succeed, kept_discharged, judged, awaits, ruling_if, ruling_seen, ruling_received}
use Rattle.link_core.specs.Ties.{quiet, links_of, finished}
use Rattle.link_core.proofs.SessionTies.{same_tie, stays_tie, session_tie}

heir_tie : (c : Settings) (now i : ℕ) (l : Link) (w : Work) (bare : Bool) → rules.made_heir c now i l w bare ≡ finished quiet (in_place i (made_heir l (ripe_at now c.bound c.answer l) bare) (links_of c w.ring)) w
heir_tie c now i l w true = rw append-nil refl
heir_tie c now i l w false = rw append-nil refl

told_tie : (c : Settings) (i : ℕ) (was : LinkState) (l : Link) (w : Work) (ends : Bool) → rules.kept_discharged i l (rules.tell_discharge was l w) ends ≡ finished quiet (in_place i (kept_discharged l (discharge_told was l) ends) (links_of c w.ring)) w
told_tie c i Accused l w true = rw append-nil refl
told_tie c i Accused l w false = rw append-nil refl
told_tie c i _ l w true = rw append-nil refl
told_tie c i _ l w false = rw append-nil refl

judged_tie : (c : Settings) (now i : ℕ) (l : Link) (was : LinkState) (v : Verdict) (w : Work) → rules.judged c now i l was v w ≡ finished quiet (in_place i (judged c.rounds l (ripe_at now c.bound c.answer l) was v) (links_of c w.ring)) w
judged_tie c now i l was verdict.Heir w = heir_tie c now i l w (is_bare l)
judged_tie c now i l was verdict.Discharged w = told_tie c i was l w (is_bare l || not (may_succeed c.rounds l))
judged_tie c now i l was verdict.Lost w = rw append-nil refl
judged_tie c now i l was verdict.Open w = rw append-nil refl

ruling_in_tie : (c : Settings) (now arbiter : ℕ) (ruling : Ruling) (i : ℕ) (l : Link) (was : LinkState) (w : Work) → slot_at i w.ring.slots ≡ Some l → rules.ruling_seen c now arbiter ruling i l was w ≡ finished quiet (in_place i (ruling_if c.rounds (ripe_at now c.bound c.answer l) arbiter ruling l was (awaits was)) (links_of c w.ring)) w
ruling_in_tie c now arbiter ruling i l Accused w e = judged_tie c now i (record l { tally = noted l.tally arbiter ruling }) Accused (verdict_of (noted l.tally arbiter ruling)) w
ruling_in_tie c now arbiter ruling i l Discharged w e = judged_tie c now i (record l { tally = noted l.tally arbiter ruling }) Discharged (verdict_of (noted l.tally arbiter ruling)) w
ruling_in_tie c now arbiter ruling i l _ w e = stays_tie c quiet i (Some l) w e

pub ruling_tie : (c : Settings) (now : ℕ) (from victim : Who) (ruling : Ruling) (w : Work) → rules.ruling_received c now from victim ruling w ≡ finished quiet (ruling_received now from victim ruling (links_of c w.ring)) w
ruling_tie c now from victim ruling w =
    ruling_received-is c now from victim ruling w
    ∙ session_tie c quiet (rules.ruling_seen c now (from.actor - arbiter_actor 0) ruling) (λ i. ruling_seen now c.bound c.answer c.rounds (from.actor - arbiter_actor 0) ruling) (λ v. v) (same (links_of c w.ring)) w (slot_where (of_instance victim) w.ring.slots)
    (λ i l e. ruling_in_tie c now (from.actor - arbiter_actor 0) ruling i l l.state w e) (λ i. refl) (same_tie c quiet w)
