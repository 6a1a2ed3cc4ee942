-- What is done in a step, one deed after another.
use Rattle.std.specs.Prelude.{Bool, List, [], ◌∷◌, ◌++◌, map, if◌then◌else◌}
use Rattle.ring_points.specs.declared.who.Who.{Who}
use Rattle.fabric_terms.specs.declared.message.Body.{Body}
use Rattle.fabric_terms.specs.declared.record.Record.{Record}
use Rattle.fabric_terms.specs.declared.report.Report.{Report}
use Rattle.fabric_terms.specs.declared.report.Report.TheVariants.{Refused}
use Rattle.fabric_terms.specs.declared.report.Reason.{Reason}
use Rattle.fabric_terms.specs.declared.report.Verb.{Verb}
use Rattle.world_rules.specs.Above.{is_ring_frame, is_ring_record, is_ring_report}
use Rattle.world_rules.specs.Uppers.{Did}

-- something is recorded, sent or told
pub data Deed : Type 0 where
  Keep : (r : Record) → Deed
  Send : (to : Who) → (b : Body) → Deed
  Tell : (r : Report) → Deed

-- what stands after a row, and what was done in it
pub record Acted (S : Type 0) : Type 0 where
  pub state : S
  pub deeds : List Deed

-- this stands now, and these are the deeds in their order
abbrev pub acted : {S : Type 0} → S → List Deed → Acted S
acted s deeds = record { state = s; deeds = deeds }

-- nothing is done
abbrev pub still : {S : Type 0} → S → Acted S
still s = acted s []

-- these are done first
abbrev pub after_deeds : {S : Type 0} → List Deed → Acted S → Acted S
after_deeds before a = record a { deeds = before ++ a.deeds }

-- a command is refused, and changes nothing
abbrev pub refuse : {S : Type 0} → Verb → Reason → S → Acted S
refuse verb reason s = acted s (Tell (Refused verb reason) ∷ [])

-- the same body to each of these, in their order
abbrev pub send_all : List Who → Body → List Deed
send_all tos b = map (λ to. Send to b) tos

-- What the deeds come to, each kind in its order. What is the ring's is left out here: whatever a row says, it does
-- nothing of the ring.

-- x comes first, unless the test holds
abbrev pub unless : {X : Type 0} → Bool → X → List X → List X
unless test x xs = if test then xs else x ∷ xs

-- what is recorded
abbrev pub records_of : List Deed → List Record
records_of [] = []
records_of (Keep r ∷ ds) = unless (is_ring_record r) r (records_of ds)
records_of (Send to b ∷ ds) = records_of ds
records_of (Tell r ∷ ds) = records_of ds

-- what is sent to whom
abbrev pub frames_of : List Deed → List (Who × Body)
frames_of [] = []
frames_of (Keep r ∷ ds) = frames_of ds
frames_of (Send to b ∷ ds) = unless (is_ring_frame b) (to, b) (frames_of ds)
frames_of (Tell r ∷ ds) = frames_of ds

-- what is told
abbrev pub reports_of : List Deed → List Report
reports_of [] = []
reports_of (Keep r ∷ ds) = reports_of ds
reports_of (Send to b ∷ ds) = reports_of ds
reports_of (Tell r ∷ ds) = unless (is_ring_report r) r (reports_of ds)

-- a row, as the world sees it
abbrev pub did : {S : Type 0} → Acted S → Did S
did a = record { state = a.state; records = records_of a.deeds; sent = frames_of a.deeds; told = reports_of a.deeds }
