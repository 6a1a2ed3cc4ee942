-- A frame is considered: it is lost, given once or given twice.
use Rattle.std.proofs.Common.{◌≡◌, ◌≢◌, ◌≤◌, ◌<◌, ℕ, ◌+◌, zero, suc, List, [], ◌∷◌, All, refl, ap, sym, subst, ◌∙◌, arith, map}
use Rattle.std.specs.Prelude.{◌%◌}
use Rattle.std.proofs.lemmas.List.Elements.{All-nil, All-cons, All-head, All-tail}
use Rattle.fabric_terms.specs.Ranges.{Fits, IsReading}
use Rattle.fabric_terms.specs.declared.config.FabricConfig.{FabricConfig}
use Rattle.fabric_terms.specs.declared.event.Event.TheVariants.{Give}
use Rattle.rand_pcg.specs.Lcg.{Lcg}
use Rattle.rand_pcg.specs.Pcg.{pcg32}
use Rattle.schedule_generate.specs.Course.{Course, considered_next, fires, gives_of, taken, taken_all}
use Rattle.schedule_generate.specs.Due.{ShowsTime}
use Rattle.schedule_generate.specs.Goes.{At, Known}
use Rattle.schedule_generate.specs.Shown.{nodes_of}
use Rattle.schedule_generate.specs.Texts.{Writing}
use Rattle.schedule_generate.specs.declared.generator.Generator.{Generator}

-- one more frame is considered, and its draw was made
pub considered_on : (w : ℕ → Writing) (knows : Known) (n : ℕ) (a b : Generator) (text : List ℕ) (before : ℕ) (g : Course) (sent : List ℕ) → At w knows n a text g sent → before ≡ a.considered
    → b ≡ record a { considered = before + 1; draws = b.draws } → b.draws ≡ (pcg32 a.draws).1 → At w knows n b text (record g { considered = g.considered + 1; draws = (pcg32 g.draws).1 }) sent
considered_on w knows n a b text before g sent at here is drawn =
    let goes = at.goes in
    subst (λ (x : Generator). At w knows n x text (record g { considered = g.considered + 1; draws = (pcg32 g.draws).1 }) sent) (sym is)
    (record {
      goes = record { nodes = goes.nodes; going = goes.going; world = goes.world; line = goes.line; time = goes.time; clocks = goes.clocks; considered = ap (λ (k : ℕ). k + 1) (here ∙ goes.considered); draws = drawn ∙ ap (λ (d : Lcg). (pcg32 d).1) goes.draws };
      known = at.known;
      told = at.told;
    })

-- the next frame was sent where more frames were sent than were considered
pub next_sent : (before frame count : ℕ) → frame ≡ before + 1 → before < count → (1 ≤ frame) × (frame ≤ count)
next_sent before frame count is more = (omega arith, omega arith)

by_draw : (c : FabricConfig) (g : Course) (draw k : ℕ) → (pcg32 g.draws).0 ≡ draw → draw % 8 ≡ k
    → considered_next c g ≡ taken_all c (gives_of (g.considered + 1) k) (record g { considered = g.considered + 1; draws = (pcg32 g.draws).1 })
by_draw c g draw k is which =
    ap (λ (j : ℕ). taken_all c (gives_of (g.considered + 1) j) (record g { considered = g.considered + 1; draws = (pcg32 g.draws).1 })) (ap (λ (d : ℕ). d % 8) is ∙ which)

pub frame_lost : (c : FabricConfig) (g : Course) (draw : ℕ) → (pcg32 g.draws).0 ≡ draw → draw % 8 ≡ 0 → considered_next c g ≡ record g { considered = g.considered + 1; draws = (pcg32 g.draws).1 }
frame_lost c g draw is none = by_draw c g draw 0 is none

pub frame_twice : (c : FabricConfig) (g : Course) (draw frame : ℕ) → (pcg32 g.draws).0 ≡ draw → draw % 8 ≡ 1 → frame ≡ g.considered + 1
    → considered_next c g ≡ taken_all c (Give frame ∷ Give frame ∷ []) (record g { considered = g.considered + 1; draws = (pcg32 g.draws).1 })
frame_twice c g draw frame is one number =
    by_draw c g draw 1 is one
    ∙ ap (λ (k : ℕ). taken_all c (Give k ∷ Give k ∷ []) (record g { considered = g.considered + 1; draws = (pcg32 g.draws).1 })) (sym number)

once : (frame k : ℕ) → k ≢ 0 → k ≢ 1 → gives_of frame k ≡ Give frame ∷ []
once frame zero not_lost not_twice = absurd (not_lost refl)
once frame (suc zero) not_lost not_twice = absurd (not_twice refl)
once frame (suc (suc k)) not_lost not_twice = refl

pub frame_once : (c : FabricConfig) (g : Course) (draw frame : ℕ) → (pcg32 g.draws).0 ≡ draw → draw % 8 ≢ 0 → draw % 8 ≢ 1 → frame ≡ g.considered + 1
    → considered_next c g ≡ taken c (Give frame) (record g { considered = g.considered + 1; draws = (pcg32 g.draws).1 })
frame_once c g draw frame is not_lost not_twice number =
    let now : Course = record g { considered = g.considered + 1; draws = (pcg32 g.draws).1 } in
    by_draw c g draw (draw % 8) is refl
    ∙ (ap (λ es. taken_all c es now) (once (g.considered + 1) (draw % 8) not_lost not_twice) ∙ ap (λ (k : ℕ). taken c (Give k) now) (sym number))

-- a firing has no reading
pub fires_show : (time : ℕ) (nodes : List ℕ) → All (ShowsTime time) (map fires nodes)
fires_show time [] = All-nil (ShowsTime time)
fires_show time (k ∷ ks) = All-cons (ShowsTime time) (fires k) (map fires ks) tt (fires_show time ks)

-- the firings of nodes that run
pub fires_fit : (readings : List (ℕ × ℕ)) → All IsReading readings → All Fits (map fires (nodes_of readings))
fires_fit [] fit = All-nil Fits
fires_fit (r ∷ readings) fit = All-cons Fits (fires r.0) (map fires (nodes_of readings)) (All-head IsReading r readings fit).0 (fires_fit readings (All-tail IsReading r readings fit))
