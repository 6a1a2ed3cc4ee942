-- A partition knows when it was commanded last, and is free only a pause later.
use Rattle.std.proofs.Common.{arith, ◌≡◌, ℕ, ◌+◌, ◌-◌, ◌*◌, ◌/◌, ◌≤◌, min, max, Bool, true, false, cond, List, [], ◌∷◌, Option, Some, None, map, ap, refl, sym, ◌∙◌}
use Rattle.std.specs.Prelude.{IfSome, find, option_map, nat_eq, not, slice_get, ◌&&◌, ◌||◌}
use Rattle.std.proofs.lemmas.Bool.{and_parts, leb-true, eqb-true, eqb-false, false≢true}
use Rattle.ring_points.specs.declared.unit.Config.{Config}
use Rattle.fabric_terms.specs.declared.report.Reason.{Reason}
use Rattle.fabric_terms.specs.declared.report.Reason.TheVariants.{NoUnit, Exists}
use Rattle.fabric_terms.specs.declared.report.Report.{Report}
use Rattle.fabric_terms.specs.declared.report.Report.TheVariants.{Configured, Superseded, Refused}
use Rattle.service_file.specs.declared.settings.Declared.{Declared}
use Rattle.fabric_steward.specs.declared.advice.Advice.{Advice}
use Rattle.fabric_steward.specs.declared.advice.Advice.TheVariants.{Join, Look, Greet, LookForManager, Create, Learn, Heal}
use Rattle.fabric_steward.specs.declared.advice.Deed.{Deed}
use Rattle.fabric_steward.specs.declared.advice.Deed.TheVariants as deed
use Rattle.fabric_steward.specs.declared.unit_watch.UnitWatch.{UnitWatch}
use Rattle.fabric_steward.specs.Afterwards.{advised, after, command_given, unit_commanded}
use Rattle.fabric_steward.specs.Calls.{ArePaused, Call, Advised, Noted, commands_for, is_for, is_of, newest, policy_after}
use Rattle.fabric_steward.specs.Domains.{domains_up}
use Rattle.fabric_steward.specs.Facts.{Facts}
use Rattle.fabric_steward.specs.Greetings.{greet_rule, longest_ago}
use Rattle.fabric_steward.specs.Laws.{PausesBetween}
use Rattle.fabric_steward.specs.Noted.{partition_of, partition_told, told_at, unit_configured, unit_refused, unit_slowed, unit_told, unit_told_of, units_noted}
use Rattle.fabric_steward.specs.Policies.{Policy, fresh_policy, unit_watched}
use Rattle.fabric_steward.specs.Rules.{advice, command_of, count_for, create_rule, has_cause, heal_rule, is_free, is_long, is_lost, is_to_create, is_to_heal, is_to_learn, join_rule, learn_rule, look_rule, manager_rule}
use Rattle.fabric_steward.specs.Times.{first_pause, is_over}
use Rattle.fabric_steward.specs.Watching.{observed, still_changing, unit_forgotten, unit_observed, unit_seen, units_observed}
use Rattle.fabric_steward.proofs.Advising.{AllOf, first_given, found, if_given, map_given, mapped_all}

-- the watch of this partition has the last command, and at least this pause
pub record Knows (p pause : ℕ) (last : Option ℕ) (w : UnitWatch) : Type 0 where
  pub commanded : w.partition ≡ p → w.commanded ≡ last
  pub paused : w.partition ≡ p → pause ≤ w.pause

abbrev pub AllKnow : (p pause : ℕ) → Option ℕ → List UnitWatch → Type 0
AllKnow p pause last ws = AllOf (Knows p pause last) ws

-- What the policy sees changes neither

seen_knows : (p pause : ℕ) (last : Option ℕ) (f : Facts) (now d : ℕ) (o : Option Config) (w : UnitWatch) → Knows p pause last w → Knows p pause last (unit_seen f now d o w)
seen_knows p pause last f now d None w k = record { commanded = k.commanded; paused = k.paused }
seen_knows p pause last f now d (Some c) w k = record { commanded = k.commanded; paused = k.paused }

observed_knows : (p pause : ℕ) (last : Option ℕ) (f : Facts) (now d : ℕ) (w : UnitWatch) → Knows p pause last w → Knows p pause last (unit_observed f now d w)
observed_knows p pause last f now d w k =
    seen_knows p pause last f now d (f.config_of w.partition) (still_changing f w) (record { commanded = k.commanded; paused = k.paused })

forgotten_knows : (p lease pause : ℕ) (last : Option ℕ) → pause ≡ first_pause lease → (w : UnitWatch) → Knows p pause last w → Knows p pause last (unit_forgotten lease w)
forgotten_knows p lease pause last base w k = record { commanded = k.commanded; paused = λ same. omega arith }

units_know : (p lease pause : ℕ) (last : Option ℕ) (f : Facts) (now d : ℕ) (manages : Bool) (ws : List UnitWatch) → pause ≡ first_pause lease → AllKnow p pause last ws
    → AllKnow p pause last (units_observed f now d lease manages ws)
units_know p lease pause last f now d true ws base all =
    mapped_all (Knows p pause last) (Knows p pause last) (unit_observed f now d) (observed_knows p pause last f now d) ws all
units_know p lease pause last f now d false ws base all =
    mapped_all (Knows p pause last) (Knows p pause last) (unit_forgotten lease) (forgotten_knows p lease pause last base) ws all

-- A report makes a pause no shorter than the first one

-- the first pause of a lease
record IsFirst (lease pause : ℕ) : Type 0 where
  pub some : 1 ≤ lease
  pub base : pause ≡ first_pause lease

doubled_above : (lease pause now : ℕ) → IsFirst lease pause → pause ≤ now → pause ≤ min (now * 2) (lease * 2)
doubled_above lease pause now is above = let e : pause ≡ max 1 (lease / 4) = is.base in let o : 1 ≤ lease = is.some in omega arith

slowed_knows : (p lease pause : ℕ) (last : Option ℕ) (w : UnitWatch) → IsFirst lease pause → Knows p pause last w → Knows p pause last (record w { pause = min (w.pause * 2) (lease * 2) })
slowed_knows p lease pause last w is k = record { commanded = k.commanded; paused = λ same. doubled_above lease pause w.pause is (k.paused same) }

refused_knows : (p lease pause : ℕ) (last : Option ℕ) (reason : Reason) (w : UnitWatch) → IsFirst lease pause → Knows p pause last w → Knows p pause last (unit_refused lease reason w)
refused_knows p lease pause last NoUnit w is k = record { commanded = k.commanded; paused = k.paused }
refused_knows p lease pause last Exists w is k = record { commanded = k.commanded; paused = k.paused }
refused_knows p lease pause last _ w is k = slowed_knows p lease pause last w is k

configured_knows : (p lease pause : ℕ) (last : Option ℕ) (w : UnitWatch) → IsFirst lease pause → Knows p pause last w → Knows p pause last (unit_configured lease w)
configured_knows p lease pause last w is k = record { commanded = k.commanded; paused = λ same. let e : pause ≡ max 1 (lease / 4) = is.base in omega arith }

chosen : (P : UnitWatch → Type 0) (b : Bool) (v w : UnitWatch) → P v → P w → P (cond b v w)
chosen P true v w one other = one
chosen P false v w one other = other

told_knows : (p lease pause : ℕ) (last : Option ℕ) (report : Report) (w : UnitWatch) → IsFirst lease pause → Knows p pause last w → Knows p pause last (unit_told lease report w)
told_knows p lease pause last (Configured partition epoch) w is k = configured_knows p lease pause last w is k
told_knows p lease pause last (Superseded partition epoch) w is k =
    chosen (Knows p pause last) w.learnt (unit_slowed lease w) w (slowed_knows p lease pause last w is k) k
told_knows p lease pause last (Refused verb reason) w is k = refused_knows p lease pause last reason w is k
told_knows p lease pause last _ w is k = k

told_of_knows : (p lease pause : ℕ) (last : Option ℕ) (partition : ℕ) (report : Report) → IsFirst lease pause → (w : UnitWatch) → Knows p pause last w → Knows p pause last (unit_told_of partition lease report w)
told_of_knows p lease pause last partition report is w k =
    chosen (Knows p pause last) (nat_eq w.partition partition) (unit_told lease report w) w (told_knows p lease pause last report w is k) k

told_at_know : (p lease pause : ℕ) (last about : Option ℕ) (report : Report) (ws : List UnitWatch) → IsFirst lease pause → AllKnow p pause last ws
    → AllKnow p pause last (told_at about lease report ws)
told_at_know p lease pause last None report ws is all = all
told_at_know p lease pause last (Some partition) report ws is all =
    mapped_all (Knows p pause last) (Knows p pause last) (unit_told_of partition lease report) (told_of_knows p lease pause last partition report is) ws all

noted_know : (p lease pause : ℕ) (last about : Option ℕ) (told : List Report) (ws : List UnitWatch) → IsFirst lease pause → AllKnow p pause last ws
    → AllKnow p pause last (units_noted lease about told ws)
noted_know p lease pause last about [] ws is all = all
noted_know p lease pause last about (report ∷ told) ws is all =
    noted_know p lease pause last about told (told_at (partition_told about report) lease report ws) is (told_at_know p lease pause last (partition_told about report) report ws is all)

-- A command is kept by the partition that it is for

commanded_by : (p q now : ℕ) (pause : ℕ) (last : Option ℕ) (d : Deed) (w : UnitWatch) (here : Bool) (mine : Bool) → nat_eq w.partition q ≡ here → nat_eq q p ≡ mine → Knows p pause last w
    → Knows p pause (cond mine (Some now) last) (cond here (record w { commanded = Some now; deed = Some d }) w)
commanded_by p q now pause last d w true true is_here is_mine k = record { commanded = λ same. refl; paused = k.paused }
commanded_by p q now pause last d w true false is_here is_mine k =
    record { commanded = λ same. absurd (eqb-false q p is_mine (sym (eqb-true w.partition q is_here) ∙ same)); paused = k.paused }
commanded_by p q now pause last d w false true is_here is_mine k =
    record { commanded = λ same. absurd (eqb-false w.partition q is_here (same ∙ sym (eqb-true q p is_mine))); paused = k.paused }
commanded_by p q now pause last d w false false is_here is_mine k = k

commanded_knows : (p q now pause : ℕ) (last : Option ℕ) (d : Deed) (w : UnitWatch) → Knows p pause last w → Knows p pause (cond (nat_eq q p) (Some now) last) (unit_commanded q d now w)
commanded_knows p q now pause last d w k = commanded_by p q now pause last d w (nat_eq w.partition q) (nat_eq q p) refl refl k

all_commanded : (p q now pause : ℕ) (last : Option ℕ) (d : Deed) (ws : List UnitWatch) → AllKnow p pause last ws → AllKnow p pause (cond (nat_eq q p) (Some now) last) (map (unit_commanded q d now) ws)
all_commanded p q now pause last d ws all =
    mapped_all (Knows p pause last) (Knows p pause (cond (nat_eq q p) (Some now) last)) (unit_commanded q d now) (commanded_knows p q now pause last d) ws all

after_know : (p now pause : ℕ) (last : Option ℕ) (a : Option Advice) (s : Policy) → AllKnow p pause last s.units
    → AllKnow p pause (cond (is_for p (option_map command_of a)) (Some now) last) (after a now s).units
after_know p now pause last None s all = all
after_know p now pause last (Some (Join node)) s all = all
after_know p now pause last (Some (Look point)) s all = all
after_know p now pause last (Some (Greet node)) s all = all
after_know p now pause last (Some LookForManager) s all = all
after_know p now pause last (Some (Create q count)) s all = all_commanded p q now pause last deed.Create s.units all
after_know p now pause last (Some (Learn q count)) s all = all_commanded p q now pause last deed.Learn s.units all
after_know p now pause last (Some (Heal q count)) s all = all_commanded p q now pause last deed.Heal s.units all

-- A partition is commanded only a pause after the last command

over_later : (now ticks pause : ℕ) (then : Option ℕ) → 1 ≤ pause → pause ≤ ticks → is_over now ticks then ≡ true → IfSome then (λ last. last + pause ≤ now)
over_later now ticks pause None some long over = tt
over_later now ticks pause (Some last) some long over = let e : ticks ≤ now - last = leb-true ticks (now - last) over in omega arith

-- what this advice commands of the partition comes a pause after the last command
abbrev Later : (p pause now : ℕ) → Option ℕ → Advice → Type 0
Later p pause now last a = is_of p (command_of a) ≡ true → IfSome last (λ reading. reading + pause ≤ now)

free_later : (p pause now : ℕ) (last : Option ℕ) (f : Facts) (w : UnitWatch) → 1 ≤ pause → Knows p pause last w → is_free f now w ≡ true → nat_eq w.partition p ≡ true
    → IfSome last (λ reading. reading + pause ≤ now)
free_later p pause now last f w some k free is =
    let same : w.partition ≡ p = eqb-true w.partition p is in
    let over : is_over now w.pause w.commanded ≡ true = (and_parts (not (f.is_changing w.partition)) (is_over now w.pause w.commanded) free).1 in
    rw (sym (k.commanded same)) (over_later now w.pause pause w.commanded some (k.paused same) over)

any_given : {X : Type 0} (R : X → Type 0) (o : Option X) → ((x : X) → R x) → IfSome o R
any_given R None each = tt
any_given R (Some x) each = each x

-- a rule that finds a free partition
unit_later : (p pause now : ℕ) (last : Option ℕ) (f : Facts) (b : Bool) (test : UnitWatch → Bool) (g : UnitWatch → Advice) (ws : List UnitWatch) → 1 ≤ pause
    → ((w : UnitWatch) → test w ≡ true → is_free f now w ≡ true) → ((w : UnitWatch) → is_of p (command_of (g w)) ≡ true → nat_eq w.partition p ≡ true)
    → AllKnow p pause last ws → IfSome (cond b (option_map g (find test ws)) None) (Later p pause now last)
unit_later p pause now last f b test g ws some frees names all =
    if_given (Later p pause now last) b (option_map g (find test ws)) (
    map_given (Later p pause now last) g (find test ws) (
    found (Knows p pause last) (λ w. Later p pause now last (g w)) test (λ w k passes mine. free_later p pause now last f w some k (frees w passes) (names w mine)) ws all))

-- the middle one of three tests
middle : (x y z : Bool) → (x && y && z) ≡ true → y ≡ true
middle x y z all = (and_parts x y (and_parts (x && y) z all).0).1

advice_later : (p pause now : ℕ) (last : Option ℕ) (f : Facts) (s : Policy) → 1 ≤ pause → AllKnow p pause last s.units → IfSome (advice f now s) (Later p pause now last)
advice_later p pause now last f s some all =
    let Q : Advice → Type 0 = Later p pause now last in
    let d : ℕ = domains_up f now s.nodes in
    first_given Q (
    join_rule f now s ∷ look_rule f now s ∷ greet_rule f now d s ∷ manager_rule f now s ∷ create_rule f now d s ∷ learn_rule f now d s ∷ heal_rule f now d s ∷ []) (
      if_given Q _ _ (map_given Q Join (slice_get s.joins s.turn) (any_given (λ m. Q (Join m)) (slice_get s.joins s.turn) (λ m mine. absurd (false≢true mine)))),
      (
        if_given Q _ _ (map_given Q (λ n. Look n.point) (find (is_lost f now s) s.nodes) (any_given (λ n. Q (Look n.point)) (find (is_lost f now s) s.nodes) (λ n mine. absurd (false≢true mine)))),
        (
          if_given Q _ _ (map_given Q (λ n. Greet n.node) (longest_ago f now s s.nodes) (any_given (λ n. Q (Greet n.node)) (longest_ago f now s s.nodes) (λ n mine. absurd (false≢true mine)))),
          (
            if_given Q _ (Some LookForManager) (λ mine. absurd (false≢true mine)),
            (
              unit_later p pause now last f _ (is_to_create f now d s) (λ w. Create w.partition (count_for d w)) s.units some (λ w. middle w.missing (is_free f now w) (is_long now d s w)) (λ w mine. mine) all,
              (
                unit_later p pause now last f _ (is_to_learn f now d s) (λ w. Learn w.partition (count_for d w)) s.units some (λ w. middle (not w.learnt) (is_free f now w) (is_long now d s w)) (λ w mine. mine) all,
                (
                  unit_later p pause now last f _ (is_to_heal f now s) (λ w. Heal w.partition (count_for d w)) s.units some (λ w. middle w.learnt (is_free f now w) (has_cause f now s.heal_after w)) (λ w mine. mine) all,
                  tt,
                ),
              ),
            ),
          ),
        ),
      ),
    )

-- The row

fresh_know : (p lease : ℕ) (ds : List Declared) → AllKnow p (first_pause lease) None (map (unit_watched lease) ds)
fresh_know p lease [] = tt
fresh_know p lease (d ∷ ds) = (record { commanded = λ same. refl; paused = λ same. omega arith }, fresh_know p lease ds)

after_lease : (a : Option Advice) (now : ℕ) (s : Policy) → (after a now s).lease ≡ s.lease
after_lease None now s = refl
after_lease (Some (Join node)) now s = refl
after_lease (Some (Look point)) now s = refl
after_lease (Some (Greet node)) now s = refl
after_lease (Some LookForManager) now s = refl
after_lease (Some (Create q count)) now s = refl
after_lease (Some (Learn q count)) now s = refl
after_lease (Some (Heal q count)) now s = refl

lease_stays : (s : Policy) (calls : List Call) → (policy_after s calls).lease ≡ s.lease
lease_stays s [] = refl
lease_stays s (Advised f now ∷ before) =
    after_lease (advice f now (observed f now (policy_after s before))) now (observed f now (policy_after s before)) ∙ lease_stays s before
lease_stays s (Noted input told ∷ before) = lease_stays s before

-- the partitions know the last command, and the commands are a pause apart
abbrev Paused : (p pause : ℕ) → List ℕ → List UnitWatch → Type 0
Paused p pause readings units = AllKnow p pause (newest readings) units × ArePaused pause readings

one_more : (p pause now : ℕ) (readings : List ℕ) (units : List UnitWatch) (b : Bool) → (b ≡ true → IfSome (newest readings) (λ last. last + pause ≤ now))
    → AllKnow p pause (cond b (Some now) (newest readings)) units → ArePaused pause readings → Paused p pause (cond b (now ∷ readings) readings) units
one_more p pause now readings units true later know paused = (know, (later refl, paused))
one_more p pause now readings units false later know paused = (know, paused)

one_advice : (p pause now : ℕ) (readings : List ℕ) (units : List UnitWatch) (a : Option Advice) → IfSome a (Later p pause now (newest readings))
    → AllKnow p pause (cond (is_for p (option_map command_of a)) (Some now) (newest readings)) units → ArePaused pause readings
    → Paused p pause (cond (is_for p (option_map command_of a)) (now ∷ readings) readings) units
one_advice p pause now readings units None later know paused = (know, paused)
one_advice p pause now readings units (Some a) later know paused = one_more p pause now readings units (is_of p (command_of a)) later know paused

first_positive : (lease pause : ℕ) → IsFirst lease pause → 1 ≤ pause
first_positive lease pause is = let e : pause ≡ max 1 (lease / 4) = is.base in omega arith

advised_paused : (p pause now : ℕ) (readings : List ℕ) (f : Facts) (s : Policy) → IsFirst s.lease pause → Paused p pause readings s.units
    → Paused p pause (cond (is_for p (command_given f now s)) (now ∷ readings) readings) (advised f now s).units
advised_paused p pause now readings f s is paused =
    let a : Option Advice = advice f now (observed f now s) in
    let know : AllKnow p pause (newest readings) (observed f now s).units =
    units_know p s.lease pause (newest readings) f now (domains_up f now s.nodes) (f.manages now) s.units is.base paused.0 in
    one_advice p pause now readings (advised f now s).units a
    (advice_later p pause now (newest readings) f (observed f now s) (first_positive s.lease pause is) know)
    (after_know p now pause (newest readings) a (observed f now s) know)
    paused.1

first_after : (s : Policy) → 1 ≤ s.lease → (calls : List Call) → IsFirst (policy_after s calls).lease (first_pause s.lease)
first_after s some calls =
    record { some = omega (arith, lease_stays s calls); base = ap first_pause (sym (lease_stays s calls)) }

row_paused : (p : ℕ) (s : Policy) → 1 ≤ s.lease → AllKnow p (first_pause s.lease) None s.units → (calls : List Call)
    → Paused p (first_pause s.lease) (commands_for p s calls) (policy_after s calls).units
row_paused p s some fresh [] = (fresh, tt)
row_paused p s some fresh (Advised f now ∷ before) =
    advised_paused p (first_pause s.lease) now (commands_for p s before) f (policy_after s before) (first_after s some before) (row_paused p s some fresh before)
row_paused p s some fresh (Noted input told ∷ before) =
    let paused = row_paused p s some fresh before in
    (noted_know p (policy_after s before).lease (first_pause s.lease) (newest (commands_for p s before)) (partition_of input) told (policy_after s before).units (first_after s some before) paused.0, paused.1)

pub pauses_between : PausesBetween
pauses_between c settings me calls partition some =
    (row_paused partition (fresh_policy c settings me) some (fresh_know partition c.lease settings.partitions) calls).1
