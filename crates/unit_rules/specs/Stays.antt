-- What runs above the ring and beside the accusations does nothing of the ring.
use Rattle.std.specs.Prelude.{◌≡◌, refl, Bool, true, false, List, [], ◌∷◌, ◌||◌}
use Rattle.std.specs.List.{list_any}
use Rattle.world_rules.specs.Above.{KeepsOut, StaysAbove, is_ring_frame, is_ring_record, is_ring_report}
use Rattle.unit_rules.specs.Deeds.{Deed, Keep, Send, Tell, Acted, did, unless, records_of, frames_of, reports_of}
use Rattle.unit_rules.specs.Loads.{site_of}
use Rattle.unit_rules.specs.Steps.{failover_step}
use Rattle.unit_rules.specs.Registers.{question_received}
use Rattle.unit_rules.specs.Units.{units}

-- what fails a test may be put in front of what fails it, and what passes is left out
left_out : {X : Type 0} (test : X → Bool) (x : X) (xs : List X) → list_any test xs ≡ false → list_any test (unless (test x) x xs) ≡ false
left_out test x xs rest = by_test (test x) refl
  where
    behind : (b : Bool) → b ≡ false → (b || list_any test xs) ≡ false
    behind true e = e
    behind false e = rest

    by_test : (b : Bool) → test x ≡ b → list_any test (unless b x xs) ≡ false
    by_test true e = rest
    by_test false e = behind (test x) e

records_stay : (ds : List Deed) → list_any is_ring_record (records_of ds) ≡ false
records_stay [] = refl
records_stay (Keep r ∷ ds) = left_out is_ring_record r (records_of ds) (records_stay ds)
records_stay (Send to b ∷ ds) = records_stay ds
records_stay (Tell r ∷ ds) = records_stay ds

frames_stay : (ds : List Deed) → list_any (λ m. is_ring_frame m.1) (frames_of ds) ≡ false
frames_stay [] = refl
frames_stay (Keep r ∷ ds) = frames_stay ds
frames_stay (Send to b ∷ ds) = left_out (λ m. is_ring_frame m.1) (to, b) (frames_of ds) (frames_stay ds)
frames_stay (Tell r ∷ ds) = frames_stay ds

reports_stay : (ds : List Deed) → list_any is_ring_report (reports_of ds) ≡ false
reports_stay [] = refl
reports_stay (Keep r ∷ ds) = reports_stay ds
reports_stay (Send to b ∷ ds) = reports_stay ds
reports_stay (Tell r ∷ ds) = left_out is_ring_report r (reports_of ds) (reports_stay ds)

keeps_out : {S : Type 0} (a : Acted S) → KeepsOut (did a)
keeps_out a = record { sends = frames_stay a.deeds; records = records_stay a.deeds; tells = reports_stay a.deeds }

pub units_stay : StaysAbove units
units_stay = record {
  above = λ c now r s i. keeps_out (failover_step (site_of c r.me.actor) now r s i);
  beside = λ c arbiter s m. keeps_out (question_received m.body m.from s);
}
