-- The world takes an event, or refuses it.
use Rattle.std.proofs.Common.{◌≡◌, ℕ, ◌+◌, ◌<◌, List, ◌∷◌, ◌++◌, Option, Some, None, Err, refl, ap, sym, subst, ◌∙◌, arith, append_assoc}
use Rattle.unit_rules.specs.Fabric.{fabric}
use Rattle.fabric_terms.specs.declared.config.FabricConfig.{FabricConfig}
use Rattle.fabric_terms.specs.declared.event.Event.{Event}
use Rattle.fabric_terms.specs.declared.event.Event.TheVariants.{Tick}
use Rattle.fabric_terms.specs.Ranges.{Fits}
use Rattle.ring_world.specs.Answers.{Accepts, Refuses, StandsFor, Takes}
use Rattle.unit_rules.specs.Ruled.{ruled}
use Rattle.ring_world.specs.declared.world.Acted.{Acted}
use Rattle.ring_world.specs.declared.world.EventRefusal.{EventRefusal}
use Rattle.ring_world.specs.declared.world.EventRefusal.TheVariants as refusal
use Rattle.run_facts.proofs.Happens.{by_cases}
use Rattle.world_rules.specs.Events.{world_step}
use Rattle.world_rules.specs.Worlds.{World}
use Rattle.schedule_generate.specs.Course.{Course, next_line, running, taken}
use Rattle.schedule_generate.specs.Goes.{At, Goes, IsLimit, IsWantedAt, Known, Refused, Went, halt_at}
use Rattle.schedule_generate.specs.Moves.{event_for}
use Rattle.schedule_generate.specs.Settings.{generated_config}
use Rattle.schedule_generate.specs.Texts.{Writing}
use Rattle.schedule_generate.specs.declared.generator.Generator.{Generator}
use Rattle.schedule_generate.specs.declared.moves.Move.{Move}
use Rattle.schedule_generate.specs.declared.moves.Move.TheVariants.{Start, Stop, Fire, Give, Link}
use Rattle.schedule_generate.proofs.Steps.{accepts_may, refuses_may, taken_may, taken_not}
use Rattle.schedule_generate.specs.Due.{ShowsTime}
use Rattle.schedule_generate.proofs.Nodes.{ticked_nodes}
use Rattle.schedule_generate.proofs.Truly.{NamesTrue, true_on}

-- Time.

pub time_still : (c : FabricConfig) (w : World fabric) (e : Event) → ((advance : ℕ) (readings : List (ℕ × ℕ)) → e ≡ Tick advance readings → ⊥) → (world_step fabric c w e).world.time ≡ w.time
time_still c w e other = by_cases fabric c w e (λ st. st.world.time ≡ w.time) (record {
  still = refl;
  begins = λ node reading g. refl;
  stops = λ node s g. refl;
  ticks = λ advance readings g. absurd (other advance readings g);
  acts = λ node i s g came. refl;
  table_begins = λ actor g. refl;
  table_stops = λ arbiter s g. refl;
  rules = λ arbiter f s g came to. refl;
}) e refl

pub no_tick : (m : Move) (advance : ℕ) (readings : List (ℕ × ℕ)) → event_for m ≡ Tick advance readings → ⊥
no_tick (Start actor reading) advance readings e = cc
no_tick (Stop actor) advance readings e = cc
no_tick (Fire node) advance readings e = cc
no_tick (Give frame) advance readings e = cc
no_tick (Link node other) advance readings e = cc

pub tick_time : (c : FabricConfig) (w : World fabric) (advance : ℕ) (readings : List (ℕ × ℕ)) → (world_step fabric c w (Tick advance readings)).world.time ≡ w.time + advance
unfolding world_step
tick_time c w advance readings = refl

pub tick_nodes : (c : FabricConfig) (w : World fabric) (advance : ℕ) (readings : List (ℕ × ℕ)) → running (world_step fabric c w (Tick advance readings)).world ≡ running w
unfolding world_step
tick_nodes c w advance readings = ticked_nodes (w.time + advance) readings w.nodes

-- a clock that starts with the true time of the generator shows that of the world
pub names_true : (n : ℕ) (a : Generator) (g : Course) (m : Move) → Goes n a g → ShowsTime a.time (event_for m) → NamesTrue (ruled (generated_config n) g.history) (event_for m)
names_true n a g (Start actor (Some reading)) goes shows = shows ∙ goes.time
names_true n a g (Start actor None) goes shows = tt
names_true n a g (Stop actor) goes shows = tt
names_true n a g (Fire node) goes shows = tt
names_true n a g (Give frame) goes shows = tt
names_true n a g (Link node other) goes shows = tt

-- An event was taken: the course has one more.
pub took_on : (w : ℕ → Writing) (knows known : Known) (n : ℕ) (a b : Generator) (text now : List ℕ) (g : Course) (sent : List ℕ) (e : Event) (acted : Option Acted)
    → At w knows n a text g sent → Takes b.world (generated_config n) g.history a.line e acted
    → known n ((a.line, e) ∷ g.history) × (now ≡ text ++ (w n).line e)
    → b.nodes ≡ a.nodes → b.line ≡ a.line + 1 → b.time ≡ (world_step fabric (generated_config n) (ruled (generated_config n) g.history) e).world.time
    → b.considered ≡ a.considered → b.draws ≡ a.draws → NamesTrue (ruled (generated_config n) g.history) e → At w known n b now (taken (generated_config n) e g) sent
took_on w knows known n a b text now g sent e acted at takes told nodes line time considered draws names =
    let c = generated_config n in
    let h = g.history in
    let here : a.line ≡ next_line h = at.goes.line in
    let new : Course = record g { history = (next_line h, e) ∷ h } in
    let same : taken c e g ≡ new = taken_may c e g at.goes.going (accepts_may c h e takes.accepted) in
    let next : next_line h + 1 ≡ next_line ((next_line h, e) ∷ h) = omega arith in
    subst (λ k. At w known n b now k sent) (sym same)
    (record {
      goes = record {
        nodes = nodes ∙ at.goes.nodes;
        going = at.goes.going;
        world = subst (λ (l : ℕ). StandsFor b.world c ((l, e) ∷ h)) here takes.stands;
        line = line ∙ (ap (λ (l : ℕ). l + 1) here ∙ next);
        time = time;
        clocks = true_on c (ruled c h) e at.goes.clocks names;
        considered = considered ∙ at.goes.considered;
        draws = draws ∙ at.goes.draws;
      };
      known = subst (λ (l : ℕ). known n ((l, e) ∷ h)) here told.0;
      told = ap (λ t. sent ++ t) told.1 ∙ (sym (append_assoc sent text ((w n).line e)) ∙ ap (λ t. t ++ (w n).line e) at.told);
    })

-- Memory was short at an event that may come: the course has taken it.
pub wanted_on : (n : ℕ) (a : Generator) (g : Course) (e : Event) → Goes n a g → Accepts (generated_config n) g.history e → IsWantedAt a.line (taken (generated_config n) e g)
wanted_on n a g e goes accepts =
    let c = generated_config n in
    let h = g.history in
    let here : a.line ≡ next_line h = goes.line in
    let lt : a.line < next_line ((next_line h, e) ∷ h) = omega (arith, here) in
    subst (λ k. IsWantedAt a.line k) (sym (taken_may c e g goes.going (accepts_may c h e accepts))) lt

-- It was refused for a limit: the course ends there.
refused_at : (w : ℕ → Writing) (knows : Known) (n : ℕ) (a b : Generator) (text : List ℕ) (g : Course) (sent : List ℕ) (e : Event)
    → At w knows n a text g sent → Fits e → Refuses refusal.TooLarge (generated_config n) g.history e → Refused w n a.line text (taken (generated_config n) e g) sent
refused_at w knows n a b text g sent e at fit f =
    let c = generated_config n in
    let same : taken c e g ≡ record g { refused = Some e } = taken_not c e g at.goes.going (refuses_may c g.history e refusal.TooLarge f (λ q. cc)) in
    subst (λ k. Refused w n a.line text k sent) (sym same)
    (record { event = e; refused = refl; line = at.goes.line; passes = record { fits = fit; there = f.0; bound = f.1 }; fits = at.goes.world.fits; told = at.told })

pub refused_on : (w : ℕ → Writing) (knows known : Known) (n : ℕ) (a b : Generator) (text : List ℕ) (g : Course) (sent : List ℕ) (e : Event) (r : EventRefusal)
    → IsLimit r → b.line ≡ a.line → At w knows n a text g sent → Fits e → Refuses r (generated_config n) g.history e → Went w known n (Err (halt_at r a.line)) b text (taken (generated_config n) e g) sent
refused_on w knows known n a b text g sent e refusal.NoSuch limit same at fit f = absurd limit
refused_on w knows known n a b text g sent e (refusal.DriftBroken d) limit same at fit f = absurd limit
refused_on w knows known n a b text g sent e refusal.TooLarge limit same at fit f = refused_at w knows n a b text g sent e at fit f
refused_on w knows known n a b text g sent e refusal.OutOfMemory limit same at fit f =
    subst (λ (l : ℕ). IsWantedAt l (taken (generated_config n) e g)) (sym same) (wanted_on n a g e at.goes f.0)
