-- Reports that move points from where they are, told one after the other.
use Rattle.std.proofs.Common.{◌≡◌, ℕ, ◌+◌, ◌<◌, Bool, true, false, ◌&&◌, ◌||◌, List, [], ◌∷◌, ◌++◌, refl, sym, ap, ◌∙◌, subst, ◌⊎◌, inl, inr, ⊎_elim, arith}
use Rattle.std.specs.Prelude.{◌==◌}
use Rattle.std.specs.List.{list_any}
use Rattle.std.proofs.lemmas.Bool.{and_parts, eqb-true, both_ways}
use Rattle.fabric_terms.specs.declared.report.Report.{Report}
use Rattle.fabric_terms.specs.declared.report.Report.TheVariants.{Own, Gave, Took, Returned, TookOver, LeftRing}
use Rattle.fabric_terms.specs.Places.{Place, place_after, place_of, TakesFrom, gave_number}
use Rattle.fabric_terms.specs.Reports.{Told, told_on}
use Rattle.fabric_terms.specs.TakeOvers.{tells_take_over, was_taken_over}
use Rattle.ring_points.specs.declared.interval.Interval.{Interval}
use Rattle.ring_points.specs.declared.who.Who.{Who}
use Rattle.ring_points.specs.Whos.{same_who}
use Rattle.ring_machine.specs.World as machine
use Rattle.ring_points.proofs.Whos.{same_who-true}
use Rattle.ring_refinement.specs.Moves.{MovedBy, IsNext, next_after, IsOver, AreOver}
use Rattle.world_rules.specs.Above.{is_ring_report}

-- x gave the flight of this number
abbrev pub has_given : Who → ℕ → Told → Bool
has_given x number t = list_any (λ told. gave_number x number told.0 told.1) t

-- each report took its points from where they were, and gave a flight of a new number
abbrev pub AllMoved : Who → Told → Type 0
AllMoved first [] = Unit {0}
AllMoved first (t ∷ before) = TakesFrom t.0 t.1 (place_of first before) × AllMoved first before

abbrev pub AllNew : Told → Type 0
AllNew [] = Unit {0}
AllNew (t ∷ before) = ((number : ℕ) → gave_number t.0 number t.0 t.1 ≡ true → has_given t.0 number before ≡ false) × AllNew before

-- what was told so far, with where the points are told to be and the number of x's next flight
pub record SoFar (first x : Who) (t : Told) (next : ℕ) (places : ℕ → Place) : Type 0 where
  pub placed : (p : ℕ) → place_of first t p ≡ places p
  pub moved : AllMoved first t
  pub new : AllNew t
  pub below : (number : ℕ) → has_given x number t ≡ true → number < next

either : (a b : Bool) → (a || b) ≡ true → (a ≡ true) ⊎ (b ≡ true)
either true b h = inl refl
either false b h = inr h

-- what a report says of flights given

given_is : (x y z : Who) (number n : ℕ) (ranges : List Interval) → gave_number x number z (Gave y n ranges) ≡ true → (z ≡ x) × (n ≡ number)
given_is x y z number n ranges h =
    let both : (same_who z x ≡ true) × ((n == number) ≡ true) = and_parts (same_who z x) (n == number) h in
    (same_who-true z x both.0, eqb-true n number both.1)

new_report : (x z : Who) (number next : ℕ) (r : Report) → IsNext r next → gave_number z number x r ≡ true →
    (x ≡ z) × (number ≡ next) × (next_after r next ≡ next + 1)
new_report x z number next (Gave y n ranges) is h = let g = given_is z y x number n ranges h in (g.0, sym g.1 ∙ is, refl)
new_report x z number next r is h = absurd (cc (h))

next_rises : (r : Report) (number next : ℕ) → number < next → number < next_after r next
next_rises (Gave y n ranges) number next lt = omega arith
next_rises r number next lt = lt

-- one report more
report_on : (first x : Who) (t : Told) (next : ℕ) (places : ℕ → Place) (r : Report) → TakesFrom x r places → IsNext r next →
    SoFar first x t next places →
    SoFar first x ((x, r) ∷ t) (next_after r next) (λ p. place_after x r p (places p))
report_on first x t next places r takes is s = record {
  placed = λ p. ap (place_after x r p) (s.placed p);
  moved = (subst (TakesFrom x r) (λ i p. sym (s.placed p) i) takes, s.moved);
  new = (λ number h. fresh number h (has_given x number t) refl, s.new);
  below = λ number h.
      ⊎_elim (λ g. let n = new_report x x number next r is g in let a = n.1 in let b = n.2 in omega arith) (λ g. next_rises r number next (s.below number g))
      (either (gave_number x number x r) (has_given x number t) h);
}
  where
    fresh : (number : ℕ) → gave_number x number x r ≡ true → (b : Bool) → has_given x number t ≡ b → has_given x number t ≡ false
    fresh number h false e = e
    fresh number h true e = let n = new_report x x number next r is h in let a = n.1 in let lt = s.below number e in absurd (omega arith)

-- the reports of a step
pub told_so_far : (first x : Who) (rs : List Report) (t : Told) (next then : ℕ) (places later : ℕ → Place) → MovedBy x rs next places then later →
    SoFar first x t next places → SoFar first x (told_on x rs t) then later
told_so_far first x [] t next then places later m s = record {
  placed = λ p. s.placed p ∙ (λ i. m.1 i p);
  moved = s.moved;
  new = s.new;
  below = λ number h. let lt = s.below number h in let e = m.0 in omega arith;
}
told_so_far first x (r ∷ rs) t next then places later m s =
    told_so_far first x rs ((x, r) ∷ t) (next_after r next) then (λ p. place_after x r p (places p)) later m.2 (report_on first x t next places r m.0 m.1 s)

-- reports of steps one after the other
moved_then : (x : Who) (rs more : List Report) (n1 n2 n3 : ℕ) (p1 p2 p3 : ℕ → Place) → MovedBy x rs n1 p1 n2 p2 → MovedBy x more n2 p2 n3 p3 →
    MovedBy x (rs ++ more) n1 p1 n3 p3
moved_then x [] more n1 n2 n3 p1 p2 p3 a b = subst (λ (z : ℕ × (ℕ → Place)). MovedBy x more z.0 z.1 n3 p3) (λ i. (sym a.0 i, sym a.1 i)) b
moved_then x (r ∷ rs) more n1 n2 n3 p1 p2 p3 a b = (a.0, a.1, moved_then x rs more (next_after r n1) n2 n3 (λ p. place_after x r p (p1 p)) p2 p3 a.2 b)

-- reports that move nothing

abbrev pub moves : Report → Bool
moves (Gave y number ranges) = true
moves (Took y number ranges) = true
moves (Returned y number ranges) = true
moves (TookOver v ranges) = true
moves _ = false

pub none_moves : (x : Who) (rs : List Report) (next : ℕ) (places : ℕ → Place) → list_any moves rs ≡ false → MovedBy x rs next places next places
none_moves x [] next places h = (refl, refl)
none_moves x (Gave y number ranges ∷ rs) next places h = absurd (cc (h))
none_moves x (Took y number ranges ∷ rs) next places h = absurd (cc (h))
none_moves x (Returned y number ranges ∷ rs) next places h = absurd (cc (h))
none_moves x (TookOver v ranges ∷ rs) next places h = absurd (cc (h))
none_moves x (r ∷ rs) next places h = (tt, tt, none_moves x rs next places h)

pub none_over : (k : machine.Settings) (w : machine.World) (rs : List Report) → list_any moves rs ≡ false → AreOver k w rs
none_over k w [] h = tt
none_over k w (Gave y number ranges ∷ rs) h = absurd (cc (h))
none_over k w (Took y number ranges ∷ rs) h = absurd (cc (h))
none_over k w (Returned y number ranges ∷ rs) h = absurd (cc (h))
none_over k w (TookOver v ranges ∷ rs) h = absurd (cc (h))
none_over k w (r ∷ rs) h = (tt, none_over k w rs h)

-- reports that are not the ring's
pub others_move : (rs : List Report) → list_any is_ring_report rs ≡ false → list_any moves rs ≡ false
others_move [] h = refl
others_move (Own ranges fence ∷ rs) h = absurd (cc (h))
others_move (Gave y number ranges ∷ rs) h = absurd (cc (h))
others_move (Took y number ranges ∷ rs) h = absurd (cc (h))
others_move (Returned y number ranges ∷ rs) h = absurd (cc (h))
others_move (TookOver v ranges ∷ rs) h = absurd (cc (h))
others_move (LeftRing why ∷ rs) h = absurd (cc (h))
others_move (r ∷ rs) h = others_move rs h

over_append : (k : machine.Settings) (w : machine.World) (rs more : List Report) → AreOver k w rs → AreOver k w more → AreOver k w (rs ++ more)
over_append k w [] more a b = b
over_append k w (r ∷ rs) more a b = (a.0, over_append k w rs more a.1 b)

-- reports that move nothing may come after

pub moved_quietly : (x : Who) (rs more : List Report) (n1 n2 : ℕ) (p1 p2 : ℕ → Place) → list_any moves more ≡ false → MovedBy x rs n1 p1 n2 p2 →
    MovedBy x (rs ++ more) n1 p1 n2 p2
moved_quietly x rs more n1 n2 p1 p2 quiet a = moved_then x rs more n1 n2 n2 p1 p2 p2 a (none_moves x more n2 p2 quiet)

pub over_quietly : (k : machine.Settings) (w : machine.World) (rs more : List Report) → list_any moves more ≡ false → AreOver k w rs →
    AreOver k w (rs ++ more)
over_quietly k w rs more quiet a = over_append k w rs more a (none_over k w more quiet)

-- what others gave stays

same_given : (x y : Who) (number : ℕ) (r : Report) → same_who x y ≡ false → gave_number y number x r ≡ false
same_given x y number (Gave z n ranges) h = ap (λ b. b && n == number) h
same_given x y number r h = refl

pub given_elsewhere : (x y : Who) (number : ℕ) (rs : List Report) (t : Told) → same_who x y ≡ false → has_given y number (told_on x rs t) ≡ true →
    has_given y number t ≡ true
given_elsewhere x y number [] t h g = g
given_elsewhere x y number (r ∷ rs) t h g =
    let more = given_elsewhere x y number rs ((x, r) ∷ t) h g in
    ⊎_elim (λ e. absurd (both_ways (gave_number y number x r) (same_given x y number r h) e)) (λ e. e) (either (gave_number y number x r) (has_given y number t) more)

-- who is told to be taken over is dead
pub over_told : (k : machine.Settings) (w : machine.World) (v x : Who) (rs : List Report) (t : Told) → AreOver k w rs →
    (was_taken_over v t ≡ true → machine.Dead k (w.instance v)) → was_taken_over v (told_on x rs t) ≡ true → machine.Dead k (w.instance v)
over_told k w v x [] t over before h = before h
over_told k w v x (r ∷ rs) t over before h =
    over_told k w v x rs ((x, r) ∷ t) over.1
    (λ g. ⊎_elim (λ e. here r over.0 e) before (either (tells_take_over v r) (was_taken_over v t) g)) h
  where
    here : (r : Report) → IsOver k w r → tells_take_over v r ≡ true → machine.Dead k (w.instance v)
    here (TookOver z ranges) o e = subst (λ (z : Who). machine.Dead k (w.instance z)) (same_who-true z v e) o
    here r o e = absurd (cc (e))
