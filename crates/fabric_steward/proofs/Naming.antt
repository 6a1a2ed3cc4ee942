-- What the policy names is what it was configured with.
use Rattle.std.proofs.Common.{◌≡◌, ℕ, zero, suc, Bool, true, false, cond, List, [], ◌∷◌, Option, Some, None, map, ap, refl, sym, ◌∙◌}
use Rattle.std.specs.Prelude.{IfSome, IsTrue, find, option_map, nat_eq, slice_get}
use Rattle.std.specs.List.{list_any}
use Rattle.std.proofs.lemmas.Bool.{eq-eqb, or_left, or_right, and_from}
use Rattle.std.proofs.lemmas.Option.{IfSome_then}
use Rattle.ring_points.specs.declared.point.Point.{Point}
use Rattle.ring_points.specs.declared.unit.Config.{Config}
use Rattle.fabric_terms.specs.declared.report.Reason.{Reason}
use Rattle.fabric_terms.specs.declared.report.Reason.TheVariants.{NoUnit, Exists}
use Rattle.fabric_terms.specs.declared.report.Report.{Report}
use Rattle.fabric_terms.specs.declared.report.Report.TheVariants.{Configured, Superseded, Refused}
use Rattle.service_file.specs.declared.settings.Declared.{Declared}
use Rattle.fabric_steward.specs.declared.advice.Advice.{Advice}
use Rattle.fabric_steward.specs.declared.advice.Advice.TheVariants.{Join, Look, Greet, LookForManager, Create, Learn, Heal}
use Rattle.fabric_steward.specs.declared.advice.Deed.{Deed}
use Rattle.fabric_steward.specs.declared.advice.Deed.TheVariants as deed
use Rattle.fabric_steward.specs.declared.node_watch.NodeWatch.{NodeWatch}
use Rattle.fabric_steward.specs.declared.unit_watch.UnitWatch.{UnitWatch}
use Rattle.fabric_steward.specs.Afterwards.{advised, after, node_asked, node_greeted, unit_commanded}
use Rattle.fabric_steward.specs.Domains.{domains_up}
use Rattle.fabric_steward.specs.Facts.{Facts}
use Rattle.fabric_steward.specs.Greetings.{earlier_of, greet_rule, is_earlier, is_to_greet, longest_ago}
use Rattle.fabric_steward.specs.Laws.{GivesItsNames, KeepsItsNames, Names, declared_of, is_wanted, may_give, names_of}
use Rattle.fabric_steward.specs.Noted.{partition_of, partition_told, told_at, unit_refused, unit_slowed, unit_told, unit_told_of, units_noted}
use Rattle.fabric_steward.specs.Policies.{Policy}
use Rattle.fabric_steward.specs.Rules.{advice, command_of, count_for, create_rule, heal_rule, is_lost, is_to_create, is_to_heal, is_to_learn, join_rule, learn_rule, look_rule, manager_rule}
use Rattle.fabric_steward.specs.Watching.{observed, still_changing, unit_forgotten, unit_observed, unit_seen, units_observed}
use Rattle.fabric_steward.proofs.Advising.{either, either_some, first_given, if_given, map_given}

-- What stays

-- a map that changes no image leaves the images of a list
images_stay : {X Y : Type 0} (image : X → Y) (g : X → X) → ((x : X) → image (g x) ≡ image x) → (xs : List X) → map image (map g xs) ≡ map image xs
images_stay image g same [] = refl
images_stay image g same (x ∷ xs) = ap (λ y. y ∷ map image (map g xs)) (same x) ∙ ap (λ ys. image x ∷ ys) (images_stay image g same xs)

seen_declared : (f : Facts) (now d : ℕ) (o : Option Config) (w : UnitWatch) → declared_of (unit_seen f now d o w) ≡ declared_of w
seen_declared f now d None w = refl
seen_declared f now d (Some c) w = refl

observed_declared : (f : Facts) (now d : ℕ) (w : UnitWatch) → declared_of (unit_observed f now d w) ≡ declared_of w
observed_declared f now d w = seen_declared f now d (f.config_of w.partition) (still_changing f w)

units_declared : (f : Facts) (now d lease : ℕ) (manages : Bool) (ws : List UnitWatch) → map declared_of (units_observed f now d lease manages ws) ≡ map declared_of ws
units_declared f now d lease true ws = images_stay declared_of (unit_observed f now d) (observed_declared f now d) ws
units_declared f now d lease false ws = images_stay declared_of (unit_forgotten lease) (λ w. refl) ws

-- the same names with other partitions
abbrev with_units : Policy → List Declared → Names
with_units s ds = record { joins = s.joins; nodes = map (λ n. n.node) s.nodes; points = map (λ n. n.point.0) s.nodes; units = ds }

-- the same names with these nodes
abbrev with_nodes : Policy → List ℕ → List ℕ → Names
with_nodes s nodes points = record { joins = s.joins; nodes = nodes; points = points; units = map declared_of s.units }

observed_names : (f : Facts) (now : ℕ) (s : Policy) → names_of (observed f now s) ≡ names_of s
observed_names f now s = ap (with_units s) (units_declared f now (domains_up f now s.nodes) s.lease (f.manages now) s.units)

chosen_same : {X Y : Type 0} (image : X → Y) (b : Bool) (v w : X) → image v ≡ image w → image (cond b v w) ≡ image w
chosen_same image true v w same = same
chosen_same image false v w same = refl

commanded_declared : (q now : ℕ) (d : Deed) (w : UnitWatch) → declared_of (unit_commanded q d now w) ≡ declared_of w
commanded_declared q now d w = chosen_same declared_of (nat_eq w.partition q) (record w { commanded = Some now; deed = Some d }) w refl

asked_node : (point : Point) (now : ℕ) (n : NodeWatch) → (node_asked point now n).node ≡ n.node
asked_node point now n = chosen_same (λ (m : NodeWatch). m.node) (nat_eq n.point.0 point.0) (record n { asked = Some now }) n refl

asked_point : (point : Point) (now : ℕ) (n : NodeWatch) → (node_asked point now n).point.0 ≡ n.point.0
asked_point point now n = chosen_same (λ (m : NodeWatch). m.point.0) (nat_eq n.point.0 point.0) (record n { asked = Some now }) n refl

greeted_node : (node now : ℕ) (n : NodeWatch) → (node_greeted node now n).node ≡ n.node
greeted_node node now n = chosen_same (λ (m : NodeWatch). m.node) (nat_eq n.node node) (record n { greeted = Some now }) n refl

greeted_point : (node now : ℕ) (n : NodeWatch) → (node_greeted node now n).point.0 ≡ n.point.0
greeted_point node now n = chosen_same (λ (m : NodeWatch). m.point.0) (nat_eq n.node node) (record n { greeted = Some now }) n refl

-- what changes no node's number and no point leaves the names
nodes_stay : (s : Policy) (g : NodeWatch → NodeWatch) → ((n : NodeWatch) → (g n).node ≡ n.node) → ((n : NodeWatch) → (g n).point.0 ≡ n.point.0)
    → names_of (record s { nodes = map g s.nodes }) ≡ names_of s
nodes_stay s g node point =
    ap (λ nodes. with_nodes s nodes (map (λ (n : NodeWatch). n.point.0) (map g s.nodes))) (images_stay (λ (n : NodeWatch). n.node) g node s.nodes)
    ∙ ap (with_nodes s (map (λ (n : NodeWatch). n.node) s.nodes)) (images_stay (λ (n : NodeWatch). n.point.0) g point s.nodes)

commanded_names : (q now : ℕ) (d : Deed) (s : Policy) → with_units s (map declared_of (map (unit_commanded q d now) s.units)) ≡ names_of s
commanded_names q now d s = ap (with_units s) (images_stay declared_of (unit_commanded q d now) (commanded_declared q now d) s.units)

after_names : (a : Option Advice) (now : ℕ) (s : Policy) → names_of (after a now s) ≡ names_of s
after_names None now s = refl
after_names (Some (Join node)) now s = refl
after_names (Some (Look point)) now s = nodes_stay s (node_asked point now) (asked_node point now) (asked_point point now)
after_names (Some (Greet node)) now s = nodes_stay s (node_greeted node now) (greeted_node node now) (greeted_point node now)
after_names (Some LookForManager) now s = refl
after_names (Some (Create q count)) now s = commanded_names q now deed.Create s
after_names (Some (Learn q count)) now s = commanded_names q now deed.Learn s
after_names (Some (Heal q count)) now s = commanded_names q now deed.Heal s

advised_names : (f : Facts) (now : ℕ) (s : Policy) → names_of (advised f now s) ≡ names_of s
advised_names f now s = after_names (advice f now (observed f now s)) now (observed f now s) ∙ observed_names f now s

refused_declared : (lease : ℕ) (reason : Reason) (w : UnitWatch) → declared_of (unit_refused lease reason w) ≡ declared_of w
refused_declared lease NoUnit w = refl
refused_declared lease Exists w = refl
refused_declared lease _ w = refl

told_declared : (lease : ℕ) (report : Report) (w : UnitWatch) → declared_of (unit_told lease report w) ≡ declared_of w
told_declared lease (Configured partition epoch) w = refl
told_declared lease (Superseded partition epoch) w = chosen_same declared_of w.learnt (unit_slowed lease w) w refl
told_declared lease (Refused verb reason) w = refused_declared lease reason w
told_declared lease _ w = refl

told_of_declared : (partition lease : ℕ) (report : Report) (w : UnitWatch) → declared_of (unit_told_of partition lease report w) ≡ declared_of w
told_of_declared partition lease report w =
    chosen_same declared_of (nat_eq w.partition partition) (unit_told lease report w) w (told_declared lease report w)

told_at_declared : (about : Option ℕ) (lease : ℕ) (report : Report) (ws : List UnitWatch) → map declared_of (told_at about lease report ws) ≡ map declared_of ws
told_at_declared None lease report ws = refl
told_at_declared (Some partition) lease report ws =
    images_stay declared_of (unit_told_of partition lease report) (told_of_declared partition lease report) ws

noted_declared : (lease : ℕ) (about : Option ℕ) (told : List Report) (ws : List UnitWatch) → map declared_of (units_noted lease about told ws) ≡ map declared_of ws
noted_declared lease about [] ws = refl
noted_declared lease about (report ∷ told) ws =
    noted_declared lease about told (told_at (partition_told about report) lease report ws) ∙ told_at_declared (partition_told about report) lease report ws

pub keeps_its_names : KeepsItsNames
keeps_its_names = record {
  advised = advised_names;
  noted = λ input told s. ap (with_units s) (noted_declared s.lease (partition_of input) told s.units);
}

-- What is given

found_any_in : {X Y : Type 0} (image : X → Y) (own : X → Y → Bool) (x : X) (ys : List Y) (rest : Option X) (b : Bool) → own x (image x) ≡ true
    → IfSome rest (λ z. list_any (own z) ys ≡ true) → IfSome (cond b (Some x) rest) (λ z. list_any (own z) (image x ∷ ys) ≡ true)
found_any_in image own x ys rest true self later = or_left (own x (image x)) (list_any (own x) ys) self
found_any_in image own x ys None false self later = tt
found_any_in image own x ys (Some z) false self later = or_right (own z (image x)) (list_any (own z) ys) later

-- what is found passes a test that each item passes for itself
pub found_any : {X Y : Type 0} (image : X → Y) (test : X → Bool) (own : X → Y → Bool) → ((x : X) → own x (image x) ≡ true) → (xs : List X)
    → IfSome (find test xs) (λ x. list_any (own x) (map image xs) ≡ true)
found_any image test own self [] = tt
found_any image test own self (x ∷ xs) = found_any_in image own x (map image xs) (find test xs) (test x) (self x) (found_any image test own self xs)

got_any : (xs : List ℕ) (i : ℕ) → IfSome (slice_get xs i) (λ m. list_any (λ n. nat_eq n m) xs ≡ true)
got_any [] i = tt
got_any (x ∷ xs) zero = or_left (nat_eq x x) (list_any (λ n. nat_eq n x) xs) (eq-eqb x x refl)
got_any (x ∷ xs) (suc i) = IfSome_then (slice_get xs i) (got_any xs i) (λ m any. or_right (nat_eq x m) (list_any (λ n. nat_eq n m) xs) any)

-- a node of this number is among these
abbrev Is : List NodeWatch → NodeWatch → Type 0
Is ns n = list_any (λ m. nat_eq m n.node) (map (λ (k : NodeWatch). k.node) ns) ≡ true

is_first : (n : NodeWatch) (ns : List NodeWatch) → Is (n ∷ ns) n
is_first n ns = or_left (nat_eq n.node n.node) (list_any (λ m. nat_eq m n.node) (map (λ (k : NodeWatch). k.node) ns)) (eq-eqb n.node n.node refl)

is_later : (n m : NodeWatch) (ns : List NodeWatch) → Is ns m → Is (n ∷ ns) m
is_later n m ns is = or_right (nat_eq n.node m.node) (list_any (λ k. nat_eq k m.node) (map (λ (k : NodeWatch). k.node) ns)) is

earlier_is : (n : NodeWatch) (ns : List NodeWatch) (o : Option NodeWatch) → IfSome o (Is ns) → Is (n ∷ ns) (earlier_of n o)
earlier_is n ns None is = is_first n ns
earlier_is n ns (Some other) is = either (Is (n ∷ ns)) (is_earlier n.greeted other.greeted) n other (is_first n ns) (is_later n other ns is)

longest_is : (f : Facts) (now : ℕ) (s : Policy) (ns : List NodeWatch) → IfSome (longest_ago f now s ns) (Is ns)
longest_is f now s [] = tt
longest_is f now s (n ∷ ns) =
    let rest = longest_is f now s ns in
    either_some (Is (n ∷ ns)) (is_to_greet f now s n) (earlier_of n (longest_ago f now s ns)) (longest_ago f now s ns)
    (earlier_is n ns (longest_ago f now s ns) rest)
    (IfSome_then (longest_ago f now s ns) rest (λ m is. is_later n m ns is))

pub wanted : (d : ℕ) (w : UnitWatch) → is_wanted d w.partition (count_for d w) (declared_of w) ≡ true
wanted d w = and_from (nat_eq w.partition w.partition) (nat_eq (count_for d w) (count_for d w)) (eq-eqb w.partition w.partition refl) (eq-eqb (count_for d w) (count_for d w) refl)

-- the command of this advice may be given
abbrev MayGive : (d : ℕ) → Names → Advice → Type 0
MayGive d names a = IsTrue (may_give d names (command_of a))

unit_given : (d : ℕ) (names : Names) (b : Bool) (test : UnitWatch → Bool) (g : UnitWatch → Advice) (ws : List UnitWatch) → names.units ≡ map declared_of ws
    → ((w : UnitWatch) → list_any (is_wanted d w.partition (count_for d w)) names.units ≡ true → MayGive d names (g w))
    → IfSome (cond b (option_map g (find test ws)) None) (MayGive d names)
unit_given d names b test g ws units may =
    if_given (MayGive d names) b (option_map g (find test ws)) (
    map_given (MayGive d names) g (find test ws) (
    IfSome_then (find test ws) (found_any declared_of test (λ w. is_wanted d w.partition (count_for d w)) (wanted d) ws) (λ w any. may w (rw units any))))

advice_given : (f : Facts) (now : ℕ) (s : Policy) → IfSome (advice f now s) (MayGive (domains_up f now s.nodes) (names_of s))
advice_given f now s =
    let d : ℕ = domains_up f now s.nodes in
    let names : Names = names_of s in
    let Q : Advice → Type 0 = MayGive d names in
    first_given Q (
    join_rule f now s ∷ look_rule f now s ∷ greet_rule f now d s ∷ manager_rule f now s ∷ create_rule f now d s ∷ learn_rule f now d s ∷ heal_rule f now d s ∷ []) (
      if_given Q _ _ (map_given Q Join (slice_get s.joins s.turn) (got_any s.joins s.turn)),
      (
        if_given Q _ _ (map_given Q (λ n. Look n.point) (find (is_lost f now s) s.nodes) (
            IfSome_then (find (is_lost f now s) s.nodes) (found_any (λ (n : NodeWatch). n.point.0) (is_lost f now s) (λ n p. nat_eq p n.point.0) (λ n. eq-eqb n.point.0 n.point.0 refl) s.nodes)
            (λ n any. or_right (nat_eq n.point.0 0) (list_any (λ p. nat_eq p n.point.0) names.points) any))),
        (
          if_given Q _ _ (map_given Q (λ n. Greet n.node) (longest_ago f now s s.nodes) (longest_is f now s s.nodes)),
          (
            if_given Q _ (Some LookForManager) refl,
            (
              unit_given d names _ (is_to_create f now d s) (λ w. Create w.partition (count_for d w)) s.units refl (λ w any. any),
              (
                unit_given d names _ (is_to_learn f now d s) (λ w. Learn w.partition (count_for d w)) s.units refl (λ w any. any),
                (
                  unit_given d names _ (is_to_heal f now s) (λ w. Heal w.partition (count_for d w)) s.units refl (λ w any. any),
                  tt,
                ),
              ),
            ),
          ),
        ),
      ),
    )

given_of : (a : Option Advice) (d : ℕ) (names : Names) → IfSome a (MayGive d names) → IfSome (option_map command_of a) (λ command. IsTrue (may_give d names command))
given_of None d names given = tt
given_of (Some a) d names given = given

pub gives_its_names : GivesItsNames
gives_its_names f now s =
    rw (sym (observed_names f now s)) (given_of (advice f now (observed f now s)) (domains_up f now s.nodes) (names_of (observed f now s)) (advice_given f now (observed f now s)))
