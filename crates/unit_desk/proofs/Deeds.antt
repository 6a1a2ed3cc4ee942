-- What deeds come to, where more of them follow.
use Rattle.std.proofs.Common.{◌≡◌, Bool, true, false, List, [], ◌∷◌, ◌++◌, refl, ap, ◌∙◌}
use Rattle.ring_points.specs.declared.who.Who.{Who}
use Rattle.fabric_terms.specs.declared.message.Body.{Body}
use Rattle.fabric_terms.specs.declared.record.Record.{Record}
use Rattle.fabric_terms.specs.declared.report.Report.{Report}
use Rattle.unit_rules.specs.Deeds.{Deed, Keep, Send, Tell, unless, records_of, frames_of, reports_of}
use Rattle.world_rules.specs.Above.{is_ring_frame, is_ring_record, is_ring_report}

unless-append : {X : Type 0} (test : Bool) (x : X) (xs ys : List X) → unless test x (xs ++ ys) ≡ unless test x xs ++ ys
unless-append true x xs ys = refl
unless-append false x xs ys = refl

pub records_of-append : (first more : List Deed) → records_of (first ++ more) ≡ records_of first ++ records_of more
records_of-append [] more = refl
records_of-append (Keep r ∷ first) more =
    ap (λ (rs : List Record). unless (is_ring_record r) r rs) (records_of-append first more)
    ∙ unless-append (is_ring_record r) r (records_of first) (records_of more)
records_of-append (Send to b ∷ first) more = records_of-append first more
records_of-append (Tell r ∷ first) more = records_of-append first more

pub frames_of-append : (first more : List Deed) → frames_of (first ++ more) ≡ frames_of first ++ frames_of more
frames_of-append [] more = refl
frames_of-append (Keep r ∷ first) more = frames_of-append first more
frames_of-append (Send to b ∷ first) more =
    ap (λ (ms : List (Who × Body)). unless (is_ring_frame b) (to, b) ms) (frames_of-append first more)
    ∙ unless-append (is_ring_frame b) (to, b) (frames_of first) (frames_of more)
frames_of-append (Tell r ∷ first) more = frames_of-append first more

pub reports_of-append : (first more : List Deed) → reports_of (first ++ more) ≡ reports_of first ++ reports_of more
reports_of-append [] more = refl
reports_of-append (Keep r ∷ first) more = reports_of-append first more
reports_of-append (Send to b ∷ first) more = reports_of-append first more
reports_of-append (Tell r ∷ first) more =
    ap (λ (rs : List Report). unless (is_ring_report r) r rs) (reports_of-append first more)
    ∙ unless-append (is_ring_report r) r (reports_of first) (reports_of more)

pub ruleset deeds_append = (records_of-append, frames_of-append, reports_of-append)
