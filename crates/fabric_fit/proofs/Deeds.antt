-- Deeds in range, one after another, and as the world sees them.
use Rattle.std.proofs.Common.{Bool, true, false, List, [], ◌∷◌, IsTrue}
use Rattle.std.specs.Prelude.{All}
use Rattle.std.proofs.lemmas.Bool.{and_from}
use Rattle.std.proofs.lemmas.List.Elements.{All-append, All-cons, All-head, All-nil, All-tail}
use Rattle.fabric_terms.specs.declared.message.Body.{Body}
use Rattle.fabric_terms.specs.Fields.{is_addressee}
use Rattle.fabric_terms.specs.Messages.{is_sound_body}
use Rattle.frames_fit.specs.Above.{DidInFormat}
use Rattle.frames_fit.specs.Formats.{ReportInRange, in_format}
use Rattle.ring_points.specs.declared.who.Who.{Who}
use Rattle.unit_rules.specs.Deeds.{Acted, Deed, Keep, Send, Tell, after_deeds, acted, did, frames_of, records_of, reports_of, send_all, still, unless}
use Rattle.world_rules.specs.Above.{is_ring_frame, is_ring_record, is_ring_report}
use Rattle.fabric_fit.specs.Deeds.{ActedInRange, DeedInRange}
use Rattle.fabric_fit.specs.Records.{KeptRecord}

-- Deeds.

pub no_deeds : All DeedInRange []
no_deeds = All-nil DeedInRange

pub deeds_from : (d : Deed) (ds : List Deed) → DeedInRange d → All DeedInRange ds → All DeedInRange (d ∷ ds)
deeds_from d ds h k = All-cons DeedInRange d ds h k

pub one_deed : (d : Deed) → DeedInRange d → All DeedInRange (d ∷ [])
one_deed d h = deeds_from d [] h no_deeds

pub sends : (to : Who) (b : Body) → IsTrue (is_addressee to) → IsTrue (is_sound_body b) → DeedInRange (Send to b)
sends to b h k = and_from (is_addressee to) (is_sound_body b) h k

pub sends_all : (tos : List Who) (b : Body) → All (λ to. IsTrue (is_addressee to)) tos → IsTrue (is_sound_body b) → All DeedInRange (send_all tos b)
sends_all [] b h k = no_deeds
sends_all (to ∷ tos) b h k =
    deeds_from (Send to b) (send_all tos b) (sends to b (All-head (λ to. IsTrue (is_addressee to)) to tos h) k)
    (sends_all tos b (All-tail (λ to. IsTrue (is_addressee to)) to tos h) k)

-- Rows.

module _ {S : Type 0} (InRange : S → Type 0) where
  pub stays_in_range : (s : S) → InRange s → ActedInRange InRange (still s)
  stays_in_range s h = record { state = h; deeds = no_deeds }

  pub does_one : (s : S) (d : Deed) → InRange s → DeedInRange d → ActedInRange InRange (acted s (d ∷ []))
  does_one s d h k = record { state = h; deeds = one_deed d k }

  pub does_after : (before : List Deed) (a : Acted S) → All DeedInRange before → ActedInRange InRange a → ActedInRange InRange (after_deeds before a)
  does_after before a h k = record { state = k.state; deeds = All-append DeedInRange before a.deeds h k.deeds }

-- As the world sees them.

pub all_unless : {X : Type 0} (P : X → Type 0) (test : Bool) (x : X) (xs : List X) → P x → All P xs → All P (unless test x xs)
all_unless P true x xs h k = k
all_unless P false x xs h k = All-cons P x xs h k

records_in_range : (ds : List Deed) → All DeedInRange ds → All KeptRecord (records_of ds)
records_in_range [] h = All-nil KeptRecord
records_in_range (Keep r ∷ ds) h =
    all_unless KeptRecord (is_ring_record r) r (records_of ds) (All-head DeedInRange (Keep r) ds h) (records_in_range ds (All-tail DeedInRange (Keep r) ds h))
records_in_range (Send to b ∷ ds) h = records_in_range ds (All-tail DeedInRange (Send to b) ds h)
records_in_range (Tell r ∷ ds) h = records_in_range ds (All-tail DeedInRange (Tell r) ds h)

frames_in_range : (ds : List Deed) → All DeedInRange ds → All (λ m. IsTrue (in_format m)) (frames_of ds)
frames_in_range [] h = All-nil (λ m. IsTrue (in_format m))
frames_in_range (Keep r ∷ ds) h = frames_in_range ds (All-tail DeedInRange (Keep r) ds h)
frames_in_range (Send to b ∷ ds) h =
    all_unless (λ m. IsTrue (in_format m)) (is_ring_frame b) (to, b) (frames_of ds) (All-head DeedInRange (Send to b) ds h)
    (frames_in_range ds (All-tail DeedInRange (Send to b) ds h))
frames_in_range (Tell r ∷ ds) h = frames_in_range ds (All-tail DeedInRange (Tell r) ds h)

reports_in_range : (ds : List Deed) → All DeedInRange ds → All ReportInRange (reports_of ds)
reports_in_range [] h = All-nil ReportInRange
reports_in_range (Keep r ∷ ds) h = reports_in_range ds (All-tail DeedInRange (Keep r) ds h)
reports_in_range (Send to b ∷ ds) h = reports_in_range ds (All-tail DeedInRange (Send to b) ds h)
reports_in_range (Tell r ∷ ds) h =
    all_unless ReportInRange (is_ring_report r) r (reports_of ds) (All-head DeedInRange (Tell r) ds h)
    (reports_in_range ds (All-tail DeedInRange (Tell r) ds h))

pub did_in_format : {S : Type 0} (InRange : S → Type 0) (a : Acted S) → ActedInRange InRange a → DidInFormat InRange KeptRecord (did a)
did_in_format InRange a h = record {
  state = h.state;
  records = records_in_range a.deeds h.deeds;
  sent = frames_in_range a.deeds h.deeds;
  told = reports_in_range a.deeds h.deeds;
}
