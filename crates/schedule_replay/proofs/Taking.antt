-- What follows where a world takes or refuses an event.
use Rattle.std.proofs.Common.{◌≡◌, ℕ, Bool, true, List, ◌∷◌, ◌++◌, length, Option, Some, None, refl, ap, sym, subst, ◌∙◌}
use Rattle.fabric_terms.specs.declared.config.FabricConfig.{FabricConfig}
use Rattle.fabric_terms.specs.declared.event.Event.{Event}
use Rattle.fabric_status.specs.declared.status.Refusal.{Refusal}
use Rattle.ring_world.specs.Answers.{Accepts, Refuses, Takes}
use Rattle.unit_rules.specs.Ruled.{ruled}
use Rattle.world_rules.specs.EventLimits.{has_room}
use Rattle.ring_world.specs.declared.world.Acted.{Acted}
use Rattle.ring_world.specs.declared.world.EventRefusal.{EventRefusal}
use Rattle.ring_world.specs.declared.world.EventRefusal.TheVariants.{NoSuch, DriftBroken, TooLarge, OutOfMemory}
use Rattle.ring_world.specs.declared.world.World.{World}
use Rattle.world_rules.specs.Runs.{History}
use Rattle.world_rules.specs.Schedules.{keeps_bound}
use Rattle.schedule_replay.specs.Follows.{At, Follows, Known}
use Rattle.schedule_rules.specs.Schedule.{Accepted, run_verdict, unless_there}
use Rattle.schedule_replay.specs.Refusals.{refusal_at}
use Rattle.schedule_rules.specs.Telling.{Telling}

accepts : (c : FabricConfig) (h : History) (n : ℕ) (e : Event) → Accepts c h e → run_verdict c (ruled c h) (length h) n e ≡ Accepted e
accepts c h n e may =
    ap (λ (there : Bool). unless_there n e there (keeps_bound c (ruled c h) e) (has_room (ruled c h) (length h) e)) may.there ∙ (ap (λ (within : Bool). unless_there n e true within (has_room (ruled c h) (length h) e)) may.bound ∙ ap (unless_there n e true true) may.room)

pub took_event : (t : Telling) (c : FabricConfig) (h : History) (n : ℕ) (e : Event) (acted : Option Acted) (a : World) (knows : Known) (old new : List ℕ) → Takes a c h n e acted → knows c ((n, e) ∷ h) → new ≡ old ++ t.told c ((n, e) ∷ h) → Follows t c h n (run_verdict c (ruled c h) (length h) n e) None a knows old new
took_event t c h n e acted a knows old new takes known is =
    subst (λ v. Follows t c h n v None a knows old new) (sym (accepts c h n e takes.accepted)) (refl, (takes.stands, known), is)

pub refused_event : (t : Telling) (c : FabricConfig) (h : History) (n : ℕ) (e : Event) (refusal : EventRefusal) (r : Refusal) (a : World) (knows : Known) (text : List ℕ) → Refuses refusal c h e → refusal_at refusal n ≡ Some r → At a knows c h → Follows t c h n (run_verdict c (ruled c h) (length h) n e) (Some r) a knows text text
refused_event t c h n e NoSuch r a knows text refuses is at =
    let there : Bool → Bool → Bool → Type 0 = λ b k m. Follows t c h n (unless_there n e b k m) (Some r) a knows text text in
    subst (λ (b : Bool). there b (keeps_bound c (ruled c h) e) (has_room (ruled c h) (length h) e)) (sym refuses) (sym is, at, refl)
refused_event t c h n e (DriftBroken broken) r a knows text refuses is at =
    let there : Bool → Bool → Bool → Type 0 = λ b k m. Follows t c h n (unless_there n e b k m) (Some r) a knows text text in
    subst (λ (b : Bool). there b (keeps_bound c (ruled c h) e) (has_room (ruled c h) (length h) e)) (sym refuses.0)
    (subst (λ (k : Bool). there true k (has_room (ruled c h) (length h) e)) (sym refuses.1) (sym is, at, refl))
refused_event t c h n e TooLarge r a knows text refuses is at =
    let there : Bool → Bool → Bool → Type 0 = λ b k m. Follows t c h n (unless_there n e b k m) (Some r) a knows text text in
    subst (λ (b : Bool). there b (keeps_bound c (ruled c h) e) (has_room (ruled c h) (length h) e)) (sym refuses.0)
    (subst (λ (k : Bool). there true k (has_room (ruled c h) (length h) e)) (sym refuses.1) (subst (λ (m : Bool). there true true m) (sym refuses.2) (sym is, at, refl)))
refused_event t c h n e OutOfMemory r a knows text refuses is at = let no : ⊥ = cc in absurd no
