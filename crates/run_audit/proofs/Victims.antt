-- The victim that is named first, of more and more holders.
use Rattle.std.proofs.Common.{◌≡◌, ℕ, ◌+◌, ◌<◌, ◌≤◌, true, false, List, [], ◌∷◌, IsTrue, length, take, get_or, Option, Some, None, refl, ap, arith}
use Rattle.std.proofs.lemmas.Bool.{false≢true}
use Rattle.std.proofs.lemmas.Bool.Decides.{nat_tests}
use Rattle.ring_points.specs.declared.interval.Interval.{Interval}
use Rattle.ring_points.specs.declared.who.Who.{Who}
use Rattle.ring_points.specs.Ranges.{in_ranges, rises_from}
use Rattle.ring_points.proofs.Rising.{RisesWith, first_and_rest, in_ranges-from}
use Rattle.run_audit.specs.declared.overlap.LiveHolder.{LiveHolder}
use Rattle.run_audit.specs.declared.take_overs.TakeOvers.{TakeOvers}
use Rattle.run_audit.specs.declared.victim.Victim.{Victim}
use Rattle.run_audit.specs.Overlaps.{Among}
use Rattle.run_audit.specs.Owners.{taken_at}
use Rattle.run_audit.specs.Victims.{is_named_before, lesser_victim, IsLeastVictim, IsVictim}
use Rattle.run_audit.proofs.Least as least

named_chain : (c d e : Victim) → is_named_before c d ≡ false → is_named_before d e ≡ false → is_named_before c e ≡ false
named_chain c d e h k = grind (arith, nat_tests)

named_flip : (c d : Victim) → is_named_before c d ≡ true → is_named_before d c ≡ false
named_flip c d h = grind (arith, nat_tests)

pub least_of_none : (P : LiveHolder → Victim → Type 0) → IsLeastVictim (Among [] P) None
least_of_none = least.least_of_none Victim is_named_before named_chain named_flip

pub least_on : (P : LiveHolder → Victim → Type 0) (hs : List LiveHolder) (i : ℕ) (d : LiveHolder) (o f r : Option Victim) → i < length hs
    → IsLeastVictim (Among (take i hs) P) o → IsLeastVictim (P (get_or hs i d)) f → r ≡ lesser_victim o f → IsLeastVictim (Among (take (i + 1) hs) P) r
least_on = least.least_on Victim is_named_before named_chain named_flip

pub least_of_all : (P : LiveHolder → Victim → Type 0) (hs : List LiveHolder) (i : ℕ) (o : Option Victim) → length hs ≤ i → IsLeastVictim (Among (take i hs) P) o → IsLeastVictim (Among hs P) o
least_of_all = least.least_of_all Victim is_named_before named_chain named_flip

named_equal : (c b : Victim) → c.who ≡ b.who → b.point ≤ c.point → is_named_before c b ≡ false
named_equal c b e h = grind (arith, nat_tests, ap (λ (w : Who). w.actor) e, ap (λ (w : Who). w.instance) e)

pub not_over : (t : TakeOvers) (h : LiveHolder) → taken_at h.who t ≡ false → IsLeastVictim (IsVictim t h) None
not_over t h off = λ c v. let over = v.over in absurd (cc (over, off))

pub without_points : (t : TakeOvers) (h : LiveHolder) → h.ranges.now ≡ [] → IsLeastVictim (IsVictim t h) None
without_points t h none = λ c v. let at : in_ranges c.point [] ≡ true = rw none at v.has in false≢true at

at_lo : (i : Interval) (is : List Interval) (p : ℕ) → p ≡ i.lo → i.lo ≤ i.hi → in_ranges p (i ∷ is) ≡ true
at_lo i is p e h = grind (arith, nat_tests)

raised : (i : Interval) (is : List Interval) → RisesWith 0 i is → IsTrue (rises_from i.lo (i ∷ is))
raised i is r = let o = r.ordered in let n = r.inside in let t = r.rest in grind (arith, nat_tests)

least_point : (i : Interval) (is : List Interval) (p : ℕ) → IsTrue (rises_from 0 (i ∷ is)) → in_ranges p (i ∷ is) ≡ true → i.lo ≤ p
least_point i is p rises has = in_ranges-from i.lo p (i ∷ is) (raised i is (first_and_rest 0 i is rises)) has

-- the first point of its ranges
pub first_point : (t : TakeOvers) (h : LiveHolder) (d : Interval) → taken_at h.who t ≡ true → 0 < length h.ranges.now → IsTrue (rises_from 0 h.ranges.now)
    → IsLeastVictim (IsVictim t h) (Some (record { who = h.who; point = (get_or h.ranges.now 0 d).lo }))
first_point t h d over some rises = by h.ranges.now refl
  where
    by : (l : List Interval) → h.ranges.now ≡ l → IsLeastVictim (IsVictim t h) (Some (record { who = h.who; point = (get_or h.ranges.now 0 d).lo }))
    by [] e = let n : length h.ranges.now ≡ 0 = ap length e in absurd (omega arith)
    by (i ∷ is) e =
        let r : IsTrue (rises_from 0 (i ∷ is)) = rw e at rises in
        let lo : (get_or h.ranges.now 0 d).lo ≡ i.lo = ap (λ (l : List Interval). (get_or l 0 d).lo) e in (
          record {
            is = refl;
            over = over;
            has = rw e (at_lo i is i.lo refl (first_and_rest 0 i is r).ordered);
          },
          λ c v.
              let has : in_ranges c.point (i ∷ is) ≡ true = rw e at v.has in
              let low : i.lo ≤ c.point = least_point i is c.point r has in
              named_equal c (record { who = h.who; point = (get_or h.ranges.now 0 d).lo }) v.is (omega arith),
        )

pub ruleset victims = (least_of_none, not_over, without_points, first_point)
