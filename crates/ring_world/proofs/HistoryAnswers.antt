-- What is answered by the world of the rules is what is answered by the history.
use Rattle.std.proofs.Common.{◌≡◌, ℕ, ◌+◌, List, [], ◌∷◌, Option, Some, None, refl, sym, ap, subst, ◌∙◌, length, add-one}
use Rattle.std.specs.Prelude.{Result, Ok, Err}
use Rattle.std.proofs.lemmas.List.Elements.{All-cons}
use Rattle.fabric_terms.specs.Places.{place_of}
use Rattle.fabric_terms.specs.Reports.{Told, told, told_in, told_on}
use Rattle.fabric_terms.specs.Runs.{Entry}
use Rattle.fabric_terms.specs.declared.config.FabricConfig.{FabricConfig}
use Rattle.fabric_terms.specs.declared.event.Event.{Event}
use Rattle.fabric_terms.specs.declared.report.Report.{Report}
use Rattle.ring_points.specs.Whos.{node_instance}
use Rattle.ring_points.specs.declared.who.Who.{Who}
use Rattle.fabric_terms.specs.Ranges.{Fits}
use Rattle.world_rules.specs.Events.{world_step}
use Rattle.unit_rules.specs.Fabric.{fabric}
use Rattle.world_rules.specs.Runs.{History, run_of}
use Rattle.world_rules.specs.Worlds.{World as RuledWorld}
use Rattle.ring_world.specs.Answers.{Accepts, Answers, AnswersTick, IsWorld, Refuses, StandsFor, Stays, Takes}
use Rattle.unit_rules.specs.Ruled.{ruled}
use Rattle.ring_world.specs.Moves.{Comes, ComesTick, MayCome, MayNot, Moves, Same, placed_by, placed_in}
use Rattle.world_rules.specs.EventLimits.{has_room}
use Rattle.ring_world.specs.Seen.{Seen}
use Rattle.ring_world.specs.Stands.{SeenStands, Stands}
use Rattle.ring_world.specs.declared.world.Acted.{Acted}
use Rattle.ring_world.specs.declared.world.EventRefusal.{EventRefusal}
use Rattle.ring_world.specs.declared.world.EventRefusal.TheVariants.{NoSuch, DriftBroken as BrokenDrift, TooLarge, OutOfMemory}
use Rattle.ring_world.specs.declared.world.World.{World}

-- places after reports

placed_on : (first who : Who) (rs : List Report) (before : Told) (p : ℕ) → place_of first (told_on who rs before) p ≡ placed_by who rs p (place_of first before p)
placed_on first who [] before p = refl
placed_on first who (r ∷ rs) before p = placed_on first who rs ((who, r) ∷ before) p

places_in : (first : Who) (e : Option Entry) (before : Told) (p : ℕ) → place_of first (told_in e before) p ≡ placed_in e p (place_of first before p)
places_in first None before p = refl
places_in first (Some e) before p = placed_on first e.who e.reports before p

module _ (old new : World) (h : History) (s : StandsFor old old.config h) (e : Event) where
  abbrev c : FabricConfig
  c = old.config

  accepted : MayCome old (ruled c h) e → Accepts c h e
  accepted m = record { there = m.there; bound = m.bound; room = ap (λ n. has_room (ruled c h) n e) (sym s.keeps.events) ∙ m.room }

  taken : (line : ℕ) (acted : Option Acted) → Fits e → MayCome old (ruled c h) e → Moves old new (world_step fabric c (ruled c h) e) line acted → Takes new c h line e acted
  taken line acted fits may moves = record {
    accepted = accepted may;
    stands = record {
      config = moves.config;
      sound = s.sound;
      fits = All-cons (λ (x : ℕ × Event). Fits x.1) (line, e) h fits s.fits;
      valid = (s.valid, record { there = may.there; bound = may.bound });
      keeps = record {
        state = moves.state;
        events = moves.events ∙ (ap (λ n. n + 1) s.keeps.events ∙ add-one (length h));
        places = λ p lt.
            moves.places p lt
            ∙ (ap (λ x. placed_in (world_step fabric c (ruled c h) e).entry p x) (s.keeps.places p lt)
            ∙ sym (places_in (node_instance c.first 1) (world_step fabric c (ruled c h) e).entry (told (run_of fabric c h)) p));
      };
    };
    entry = moves.entry;
    seen = moves.seen;
  }

  refused : (refusal : EventRefusal) → MayNot refusal old (ruled c h) e → Refuses refusal c h e
  refused NoSuch m = m
  refused (BrokenDrift broken) m = m
  refused TooLarge m = (m.0, m.1, ap (λ n. has_room (ruled c h) n e) (sym s.keeps.events) ∙ m.2)
  refused OutOfMemory m = (accepted m.0, m.1)

  stays : (refusal : EventRefusal) → MayNot refusal old (ruled c h) e → Same old new → Stays new c h e refusal
  stays refusal m same = record {
    refused = refused refusal m;
    stands = record {
      config = ap (λ (x : Seen). x.config) same.seen;
      sound = s.sound;
      fits = s.fits;
      valid = s.valid;
      keeps = record {
        state = subst (λ (x : Seen). SeenStands x (ruled c h)) (sym same.seen) s.keeps.state;
        events = ap (λ (x : Seen). x.events) same.seen ∙ s.keeps.events;
        places = λ p lt. same.places p lt ∙ s.keeps.places p lt;
      };
    };
  }

  own_answer : (line : ℕ) (r : Result (Option Acted) EventRefusal) → Fits e → Comes old new (ruled c h) line e r → Answers new c h line e r
  own_answer line (Ok acted) fits m = taken line acted fits m.0 m.1
  own_answer line (Err refusal) fits m = stays refusal m.0 m.1

  own_tick : (line : ℕ) (r : Result (Unit {0}) EventRefusal) → Fits e → ComesTick old new (ruled c h) line e r → AnswersTick new c h line e r
  own_tick line (Ok u) fits m = taken line None fits m.0 m.1
  own_tick line (Err refusal) fits m = stays refusal m.0 m.1

pub answered : (old new : World) (c : FabricConfig) (h : History) (line : ℕ) (e : Event) (r : Result (Option Acted) EventRefusal) → StandsFor old c h → Fits e → Comes old new (ruled c h) line e r → Answers new c h line e r
answered old new c h line e r s fits =
    let P : FabricConfig → Type 0 = λ k. StandsFor old k h → Comes old new (ruled k h) line e r → Answers new k h line e r in
    subst P s.config (λ own. own_answer old new h own e line r fits) s

pub answered_tick : (old new : World) (c : FabricConfig) (h : History) (line : ℕ) (e : Event) (r : Result (Unit {0}) EventRefusal) → StandsFor old c h → Fits e → ComesTick old new (ruled c h) line e r → AnswersTick new c h line e r
answered_tick old new c h line e r s fits =
    let P : FabricConfig → Type 0 = λ k. StandsFor old k h → ComesTick old new (ruled k h) line e r → AnswersTick new k h line e r in
    subst P s.config (λ own. own_tick old new h own e line r fits) s

-- the same where the event is known by another name

pub answered_as : (old new : World) (c : FabricConfig) (h : History) (line : ℕ) (e given : Event) (r : Result (Option Acted) EventRefusal) → given ≡ e → StandsFor old c h → Fits given → Comes old new (ruled c h) line e r → Answers new c h line given r
answered_as old new c h line e given r is s fits comes =
    answered old new c h line given r s fits (subst (λ (x : Event). Comes old new (ruled c h) line x r) (sym is) comes)

pub answered_tick_as : (old new : World) (c : FabricConfig) (h : History) (line : ℕ) (e given : Event) (r : Result (Unit {0}) EventRefusal) → given ≡ e → StandsFor old c h → Fits given → ComesTick old new (ruled c h) line e r → AnswersTick new c h line given r
answered_tick_as old new c h line e given r is s fits comes =
    answered_tick old new c h line given r s fits (subst (λ (x : Event). ComesTick old new (ruled c h) line x r) (sym is) comes)

-- a world stands for a world of the rules
pub ruled_by_some : (a : World) → IsWorld a → (w : RuledWorld fabric) × Stands a w
ruled_by_some a (c, h, s) = (ruled c h, s.keeps.state)
