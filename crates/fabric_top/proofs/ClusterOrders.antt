-- Each command of a cluster's source names what its actor may be told of.
use Rattle.std.proofs.Common.{◌≡◌, ◌≤◌, ◌+◌, ℕ, zero, suc, Bool, true, false, cond, List, [], ◌∷◌, ◌++◌, length, Option, Some, None, Ok, arith, refl, ap, sym, subst, ◌∙◌}
use Rattle.std.specs.Prelude.{All, ◌==◌, ◌&&◌, ◌||◌, find, get_or, nat_lt, option_map, position, slice_get, unwrap_or}
use Rattle.std.specs.List.{list_any}
use Rattle.std.proofs.lemmas.Bool.{eq-eqb, eqb-true}
use Rattle.std.proofs.lemmas.List.Elements.{All-append, All-cons, All-head, All-nil, All-tail}
use Rattle.std.proofs.lemmas.List.Folds.{list_any-append}
use Rattle.std.proofs.lemmas.List.Quantifiers.{position-Some}
use Rattle.std.proofs.lemmas.Option.{get_or_from_slice_get}
use Rattle.edge_io.proofs.Positions.{position-None}
use Rattle.edge_io.specs.declared.endpoint.Endpoint.{Endpoint}
use Rattle.fabric_status.specs.declared.status.Refusal.TheVariants.{NoSuch}
use Rattle.fabric_terms.specs.Sound.{IsSound, IsSoundNode}
use Rattle.fabric_terms.specs.declared.config.FabricConfig.{FabricConfig}
use Rattle.ring_points.specs.Limits.{most_arbiters, most_node_number}
use Rattle.fabric_terms.specs.declared.config.NodeEntry.{NodeEntry}
use Rattle.source_lines.specs.Lines.{is_ignored, most_line, most_lines}
use Rattle.turn_rules.specs.declared.order.Order.{Order}
use Rattle.world_rules.specs.Schedules.{command_names, is_configured_node}
use Rattle.turn_plans.specs.Bids.{Bid, bid_of}
use Rattle.turn_plans.specs.Crews.{arbiters_to, listener, node_at, nodes_to}
use Rattle.turn_plans.specs.Plans.{judge_from}
use Rattle.turn_plans.specs.PlanVerdicts.{Ignored, Ordered, PlanVerdict, Refused, bid_verdict, is_there, line_verdict, order_of, order_verdict, place_of, unless_ignored, unless_large}
use Rattle.turn_plans.specs.declared.crew.Crew.{Crew}
use Rattle.turn_plans.proofs.Judging.{Given, judge_line, judge_on, verdict}
use Rattle.turn_plans.proofs.Runs.{found}

-- the command names what the actor at its place may be told of
abbrev pub Names : FabricConfig → List Endpoint → Order → Type 0
Names c es o = (e : Endpoint) → slice_get es o.place ≡ Some e → command_names c e.actor o.command ≡ true

-- The node of a configured number is among the actors.

holds_of : {X : Type 0} (P : X → Type 0) (p : X → Bool) (xs : List X) (y : X) → All P xs → find p xs ≡ Some y → P y × (p y ≡ true)
holds_of P p [] y all f = cc
holds_of {X} P p (x ∷ xs) y all f = by_test (p x) refl (holds_of P p xs y (All-tail P x xs all)) f
  where
    by_test : (b : Bool) → p x ≡ b → (find p xs ≡ Some y → P y × (p y ≡ true)) → cond b (Some x) (find p xs) ≡ Some y → P y × (p y ≡ true)
    by_test true passes later g =
        let same : x ≡ y = cc in
        (subst P same (All-head P x xs all), ap p (sym same) ∙ passes)
    by_test false fails later g = later g

or_true : (b : Bool) → (b || true) ≡ true
or_true true = refl
or_true false = refl

any_left : {X : Type 0} (p : X → Bool) (xs ys : List X) → list_any p xs ≡ true → list_any p (xs ++ ys) ≡ true
any_left p xs ys there = list_any-append p xs ys ∙ ap (λ (b : Bool). b || list_any p ys) there

any_right : {X : Type 0} (p : X → Bool) (xs ys : List X) → list_any p ys ≡ true → list_any p (xs ++ ys) ≡ true
any_right p xs ys there = list_any-append p xs ys ∙ ap (λ (b : Bool). list_any p xs || b) there ∙ or_true (list_any p xs)

abbrev is_of : ℕ → Endpoint → Bool
is_of node e = e.actor == node

listens : (c : FabricConfig) (node : ℕ) (e : NodeEntry) → find (λ e. e.node == node) c.nodes ≡ Some e → list_any (is_of node) (node_at c node) ≡ true
listens c node e f =
    ap (λ (o : Option NodeEntry). list_any (is_of node) (listener node (option_map (λ e. e.at) o))) f
    ∙ ap (λ (b : Bool). b || false) (eq-eqb node node refl)

among_nodes : (c : FabricConfig) (node n : ℕ) (e : NodeEntry) → find (λ e. e.node == node) c.nodes ≡ Some e → 1 ≤ node → node ≤ n → list_any (is_of node) (nodes_to c n) ≡ true
unfolding nodes_to
among_nodes c node zero e f some most = absurd (omega (arith, some, most))
among_nodes c node (suc n) e f some most = by_test (node == suc n) refl (among_nodes c node n e f some)
  where
    by_test : (b : Bool) → (node == suc n) ≡ b → (node ≤ n → list_any (is_of node) (nodes_to c n) ≡ true) → list_any (is_of node) (nodes_to c n ++ node_at c (suc n)) ≡ true
    by_test true same before =
        let last : node ≡ suc n = eqb-true node (suc n) same in
        any_right (is_of node) (nodes_to c n) (node_at c (suc n)) (subst (λ (k : ℕ). list_any (is_of node) (node_at c k) ≡ true) last (listens c node e f))
    by_test false other before =
        let no : node ≡ suc n → ⊥ = λ h. (let yes : (node == suc n) ≡ true = eq-eqb node (suc n) h in cc) in
        any_left (is_of node) (nodes_to c n) (node_at c (suc n)) (before (omega (arith, some, most, no)))

pub among : (c : FabricConfig) (node : ℕ) → IsSound c → is_configured_node c node ≡ true → list_any (is_of node) (nodes_to c most_node_number ++ arbiters_to c most_arbiters) ≡ true
among c node sound there =
    let f = found (λ (e : NodeEntry). e.node == node) c.nodes there in
    let h = holds_of IsSoundNode (λ (e : NodeEntry). e.node == node) c.nodes f.0 sound.nodes f.1 in
    let is : f.0.node ≡ node = eqb-true f.0.node node h.1 in
    let low : 1 ≤ f.0.node = h.0.node.from_low in
    let high : f.0.node ≤ most_node_number = h.0.node.to_high in
    any_left (is_of node) (nodes_to c most_node_number) (arbiters_to c most_arbiters) (among_nodes c node most_node_number f.0 f.1 (omega (arith, is, low)) (omega (arith, is, high)))

-- So the place of a command is its node's.

placed : (es : List Endpoint) (node : ℕ) (e : Endpoint) → list_any (is_of node) es ≡ true → slice_get es (place_of es node) ≡ Some e → e.actor ≡ node
placed es node e there here = by_position (position (is_of node) es) refl here
  where
    by_position : (o : Option ℕ) → position (is_of node) es ≡ o → slice_get es (unwrap_or o 0) ≡ Some e → e.actor ≡ node
    by_position None none at = let no : true ≡ false = sym there ∙ position-None (is_of node) es none in cc
    by_position (Some i) some at =
        let passes : is_of node (get_or es i e) ≡ true = (position-Some (is_of node) es i e some).1 in
        eqb-true e.actor node (ap (is_of node) (sym (get_or_from_slice_get es i e e at)) ∙ passes)

both : (a b : Bool) → (a && b) ≡ true → (a ≡ true) × (b ≡ true)
both true b h = (refl, h)
both false b h = cc

-- A line that is a command.

module _ (c : FabricConfig) (es : List Endpoint) (all : (node : ℕ) → is_configured_node c node ≡ true → list_any (is_of node) es ≡ true) where
  names_bid : (b : Bid) → is_there c b ≡ true → Names c es (order_of es b)
  names_bid b there e here =
      let t = both (is_configured_node c b.node) (command_names c b.node b.command) there in
      ap (λ (k : ℕ). command_names c k b.command) (placed es b.node e (all b.node t.0) here) ∙ t.1

  order_names : (n : ℕ) (b : Bid) (o : Order) → order_verdict c es n b ≡ Ordered o → Names c es o
  order_names n b o is = by_there (is_there c b) refl is
    where
      by_there : (t : Bool) → is_there c b ≡ t → cond t (Ordered (order_of es b)) (Refused (NoSuch n)) ≡ Ordered o → Names c es o
      by_there true there same = let is_order : order_of es b ≡ o = cc in subst (Names c es) is_order (names_bid b there)
      by_there false there same = cc

  bid_names : (n : ℕ) (b : Option Bid) (o : Order) → bid_verdict c es n b ≡ Ordered o → Names c es o
  bid_names n None o is = cc
  bid_names n (Some b) o is = order_names n b o is

  ignored_names : (crew : Crew) (turns least n : ℕ) (line : List ℕ) (o : Order) (ignored : Bool) → unless_ignored crew c es turns least n line ignored ≡ Ordered o → Names c es o
  ignored_names crew turns least n line o true is = cc
  ignored_names crew turns least n line o false is = bid_names n (bid_of crew least turns line) o is

  large_names : (crew : Crew) (turns least n : ℕ) (line : List ℕ) (o : Order) (large : Bool) → unless_large crew c es turns least n line large ≡ Ordered o → Names c es o
  large_names crew turns least n line o true is = cc
  large_names crew turns least n line o false is = ignored_names crew turns least n line o (is_ignored line) is

  line_names : (crew : Crew) (turns least n : ℕ) (line : List ℕ) (o : Order) → line_verdict crew c es turns least n line ≡ Ordered o → Names c es o
  unfolding line_verdict
  line_names crew turns least n line o is = large_names crew turns least n line o (nat_lt most_line (length line) || nat_lt most_lines n) is

  -- all lines
  pub all_name : (crew : Crew) (turns : ℕ) (orders : List Order) (least n : ℕ) (ls : List (List ℕ)) (read : List Order) → All (Names c es) orders → judge_from crew c es turns orders least n ls ≡ Ok read → All (Names c es) read
  all_name crew turns orders least n [] read so_far is = let same : orders ≡ read = cc in subst (All (Names c es)) same so_far
  all_name crew turns orders least n (l ∷ ls) read so_far is =
      by_verdict (λ more low. all_name crew turns more low (n + 1) ls read) (verdict g least n l) refl (sym (judge_line g orders least n l ls) ∙ is)
    where
      g : Given
      g = record { crew = crew; config = c; actors = es; turns = turns }

      by_verdict : ((more : List Order) (low : ℕ) → All (Names c es) more → judge_from crew c es turns more low (n + 1) ls ≡ Ok read → All (Names c es) read) →
          (v : PlanVerdict) → verdict g least n l ≡ v → judge_on g orders least n ls v ≡ Ok read → All (Names c es) read
      by_verdict later Ignored v on = later orders least so_far on
      by_verdict later (Ordered o) v on =
          later (orders ++ o ∷ []) o.turn
          (All-append (Names c es) orders (o ∷ []) so_far (All-cons (Names c es) o [] (line_names crew turns least n l o v) (All-nil (Names c es)))) on
      by_verdict later (Refused refusal) v on = cc
