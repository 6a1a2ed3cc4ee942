-- Who holds a point by the state of the nodes is who holds one by what is seen of the run.
use Rattle.std.proofs.Common.{◌≡◌, ℕ, suc, ◌+◌, ◌<◌, ◌^◌, Bool, true, false, cond, List, [], ◌∷◌, Option, Some, None, refl, sym, ap, subst, ◌∙◌, arith, length}
use Rattle.std.specs.Prelude.{◌==◌, ◌&&◌, ◌||◌, filter, find, is_some, map, slice_get}
use Rattle.std.specs.List.{list_any, zip}
use Rattle.std.specs.Option.{option_map}
use Rattle.std.proofs.lemmas.Bool.{and_parts, eqb-true}
use Rattle.std.proofs.lemmas.List.{length-map}
use Rattle.std.proofs.lemmas.List.Recursion.{is_count_by}
use Rattle.fabric_terms.specs.declared.config.FabricConfig.{FabricConfig}
use Rattle.fabric_terms.specs.Runs.{Run, clocks_of, own_of, reading_of}
use Rattle.point_places.specs.Lines.{held_by as holder_has}
use Rattle.point_places.specs.declared.unheld.Holder.{Holder}
use Rattle.ring_points.specs.declared.interval.Interval.{Interval}
use Rattle.ring_points.specs.declared.who.Who.{Who}
use Rattle.ring_points.specs.Ranges.{in_ranges}
use Rattle.ring_points.specs.Whos.{same_who}
use Rattle.ring_rules.specs.Rings.{Settings}
use Rattle.ring_rules.specs.Slots.{fence_of}
use Rattle.run_facts.specs.Held.{owned_by}
use Rattle.unit_rules.specs.Fabric.{fabric_stays, fabric}
use Rattle.run_facts.proofs.Clocks.{clocks_are, clocks_are_of_running_lem}
use Rattle.run_facts.proofs.Orderly.{last_own_is_held_lem}
use Rattle.fabric_lemmas.specs.Maps.{at, rises}
use Rattle.world_rules.specs.Nodes.{NodeState}
use Rattle.world_rules.specs.Runs.{History, run_of}
use Rattle.ring_world.specs.Answers.{StandsFor}
use Rattle.unit_rules.specs.Ruled.{ruled}
use Rattle.ring_world.specs.Holders.{held_now}
use Rattle.point_places.specs.Holders.{held_by, held_ranges, holder_of, holders_in, holders_of, holds_in, is_some_range}
use Rattle.ring_world.specs.Running.{AllRun, RunsAs}
use Rattle.ring_world.specs.declared.running.Running.{Running}
use Rattle.ring_world.specs.declared.world.World.{World}
use Rattle.ring_world.proofs.Maps.{at_place}
use Rattle.ring_world.proofs.Nodes.{Ruled, clock_of}

-- a clock, and the node that it is of
abbrev pub Clocked : Type 0
Clocked = (Who × ℕ) × Running

abbrev pub holder_here : Clocked → Holder
holder_here k = record { who = k.0.0; ranges = held_now k.0.1 k.1.node.value }

abbrev pub holds_some : Holder → Bool
holds_some h = is_some_range h.ranges

-- those that hold a point
abbrev pub holders_here : List Clocked → List Holder
holders_here ks = filter holds_some (map holder_here ks)

-- what a running node has told last, and what its clock shows
pub record Tells (c : FabricConfig) (run : Run) (e : Ruled) : Type 0 where
  pub own : own_of e.1.node.ring.me run ≡ Some (owned_by c e.1.node.ring)
  pub reads : reading_of e.1.node.ring.me (clocks_of run) ≡ Some e.1.reading

same_holder : (c : FabricConfig) (t : ℕ) (run : Run) (r : Running) (e : Ruled) → RunsAs c t r e → Tells c run e → holder_of run e.1.node.ring.me ≡ holder_here (clock_of e, r)
same_holder c t run r e runs tells =
    let ring : e.1.node.ring ≡ r.node.value.state.ring = sym (ap (λ (z : NodeState fabric). z.ring) runs.node) in
    let answer : c.answer ≡ r.node.value.settings.answer = sym (ap (λ (z : Settings). z.answer) runs.goes_by.settings) in
    (λ i. record { who = e.1.node.ring.me; ranges = held_ranges (tells.reads i) (tells.own i) })
    ∙ (λ i.
    record {
      who = e.1.node.ring.me;
      ranges = held_ranges (Some e.1.reading) (Some (record { ranges = (ring i).token.ranges; fence = fence_of (answer i) (ring i).slots }));
    })

all_holders : (c : FabricConfig) (t : ℕ) (run : Run) (rs : List Running) (es : List Ruled) → AllRun c t rs es
    → ((i : ℕ) (e : Ruled) → slice_get es i ≡ Some e → Tells c run e)
    → map (λ (clock : Who × ℕ). holder_of run clock.0) (map clock_of es) ≡ map holder_here (zip (map clock_of es) rs)
all_holders c t run [] [] h tells = refl
all_holders c t run [] (e ∷ es) h tells = absurd h
all_holders c t run (r ∷ rs) [] h tells = absurd h
all_holders c t run (r ∷ rs) (e ∷ es) h tells = λ i.
    same_holder c t run r e h.0 (tells 0 e refl) i ∷ all_holders c t run rs es h.1 (λ j q g. tells (suc j) q g) i

-- the nodes of a world have told so
tells_here : (c : FabricConfig) (h : History) (i : ℕ) (e : Ruled) → rises (ruled c h).nodes ≡ true → slice_get (ruled c h).nodes i ≡ Some e → Tells c (run_of fabric c h) e
tells_here c h i e rise there =
    let found : at e.0 (ruled c h).nodes ≡ Some e.1 = at_place 0 (ruled c h).nodes i e.0 e.1 rise there in
    record {
      own = last_own_is_held_lem fabric fabric_stays c h e.0 e.1 found;
      reads = (clocks_are_of_running_lem fabric fabric_stays c h e.1.node.ring.me e.1.reading).1 (record { node = e.0; state = e.1; here = found; name = refl; reads = refl });
    }

own_holders : (a : World) (h : History) → StandsFor a a.config h → holders_of (run_of fabric a.config h) ≡ holders_here (zip a.clocks.items a.running.items)
own_holders a h s =
    let run : Run = run_of fabric a.config h in
    let nodes = s.keeps.state.nodes in
    let clocks = clocks_are fabric a.config h in
    ap (λ ks. filter holds_some (map (λ (clock : Who × ℕ). holder_of run clock.0) ks)) clocks
    ∙ (ap (filter holds_some) (all_holders a.config a.time run a.running.items (ruled a.config h).nodes nodes.running (λ i e g. tells_here a.config h i e nodes.rise g))
    ∙ ap (λ ks. holders_here (zip ks a.running.items)) (sym nodes.clocks))

pub holders_are : (a : World) (c : FabricConfig) (h : History) → StandsFor a c h → holders_of (run_of fabric c h) ≡ holders_here (zip a.clocks.items a.running.items)
holders_are a c h s =
    let P : FabricConfig → Type 0 = λ k. StandsFor a k h → holders_of (run_of fabric k h) ≡ holders_here (zip a.clocks.items a.running.items) in
    subst P s.config (own_holders a h) s

-- how many they are

abbrev kept_of_clocks : Run → List (Who × ℕ) → ℕ
kept_of_clocks run ks = length (filter holds_some (map (λ (clock : Who × ℕ). holder_of run clock.0) ks))

one_more : (h : Holder) (hs : List Holder) (b : Bool) → length (cond b (h ∷ hs) hs) ≡ cond b (1 + length hs) (length hs)
one_more h hs true = let more : suc (length hs) ≡ 1 + length hs = omega arith in more
one_more h hs false = refl

pub holders_counted : (run : Run) → holders_in run ≡ length (holders_of run)
holders_counted run =
    sym (is_count_by (kept_of_clocks run) (λ (clock : Who × ℕ). is_some_range (held_by run clock.0)) refl
    (λ k ks. one_more (holder_of run k.0) (filter holds_some (map (λ (clock : Who × ℕ). holder_of run clock.0) ks)) (is_some_range (held_by run k.0)))
    (clocks_of run))

-- who holds a point is one of the holders that has it

some_has : (p : ℕ) (is : List Interval) → in_ranges p is ≡ true → is_some_range is ≡ true
some_has p [] h = h
some_has p (i ∷ is) h = refl

abbrev has : Who → ℕ → Holder → Bool
has w p h = same_who h.who w && in_ranges p h.ranges

-- who holds nothing has no point
kept_if : (w : Who) (p : ℕ) (h : Holder) (hs : List Holder) (b : Bool) → holds_some h ≡ b → list_any (has w p) (cond b (h ∷ hs) hs) ≡ (has w p h || list_any (has w p) hs)
kept_if w p h hs true e = refl
kept_if w p h hs false e = by_value (same_who h.who w) (in_ranges p h.ranges) (list_any (has w p) hs) (λ g. some_has p h.ranges g)
  where
    by_value : (s i rest : Bool) → (i ≡ true → is_some_range h.ranges ≡ true) → rest ≡ ((s && i) || rest)
    by_value false i rest g = refl
    by_value true false rest g = refl
    by_value true true rest g = let some = g refl in absurd (cc)

has_all : (w : Who) (p : ℕ) (hs : List Holder) → list_any (has w p) (filter holds_some hs) ≡ list_any (has w p) hs
has_all w p [] = refl
has_all w p (h ∷ hs) = kept_if w p h (filter holds_some hs) (holds_some h) refl ∙ ap (λ b. has w p h || b) (has_all w p hs)

same_who-true : (a b : Who) → same_who a b ≡ true → a ≡ b
same_who-true a b h =
    let parts = and_parts (a.actor == b.actor) (a.instance == b.instance) h in
    λ i. record { actor = eqb-true a.actor b.actor parts.0 i; instance = eqb-true a.instance b.instance parts.1 i }

module _ (run : Run) (w : Who) (p : ℕ) where
  abbrev found_in : List (Who × ℕ) → Bool
  found_in ks = list_any (has w p) (map (λ (clock : Who × ℕ). holder_of run clock.0) ks)

  -- the clock of w
  abbrev clock_in : List (Who × ℕ) → Option (Who × ℕ)
  clock_in ks = find (λ (clock : Who × ℕ). same_who clock.0 w) ks

  -- the holder of a clock, before those of the others
  with_one : (k : Who × ℕ) (others : Option (Who × ℕ)) (s : Bool) → same_who k.0 w ≡ s
      → ((s && in_ranges p (held_by run k.0)) || (is_some others && holds_in run w p)) ≡ (is_some (cond s (Some k) others) && holds_in run w p)
  with_one k others false e = refl
  with_one k others true e =
      let same : k.0 ≡ w = same_who-true k.0 w e in
      ap (λ x. in_ranges p (held_by run x) || (is_some others && holds_in run w p)) same ∙ twice (holds_in run w p) (is_some others)
    where
      twice : (b o : Bool) → (b || (o && b)) ≡ b
      twice true o = refl
      twice false true = refl
      twice false false = refl

  found_if : (ks : List (Who × ℕ)) → found_in ks ≡ (is_some (clock_in ks) && holds_in run w p)
  found_if [] = refl
  found_if (k ∷ ks) = ap (λ b. has w p (holder_of run k.0) || b) (found_if ks) ∙ with_one k (clock_in ks) (same_who k.0 w) refl

  -- who has no clock holds nothing
  only_running : (o : Option (Who × ℕ)) → (is_some o && in_ranges p (held_ranges (option_map (λ (clock : Who × ℕ). clock.1) o) (own_of w run))) ≡ in_ranges p (held_ranges (option_map (λ (clock : Who × ℕ). clock.1) o) (own_of w run))
  only_running None = refl
  only_running (Some k) = refl

  pub has_held : holder_has (holders_of run) w p ≡ holds_in run w p
  has_held = has_all w p (map (λ (clock : Who × ℕ). holder_of run clock.0) (clocks_of run)) ∙ (found_if (clocks_of run) ∙ only_running (clock_in (clocks_of run)))

-- they are few
pub few_clocks : (a : World) (c : FabricConfig) (h : History) → StandsFor a c h → length a.clocks.items < 2 ^ 32
few_clocks a c h s =
    let state = s.keeps.state in
    let many = ap length state.nodes.clocks ∙ length-map (ruled c h).nodes clock_of in
    omega (arith, state.few_events, state.nodes.few)
