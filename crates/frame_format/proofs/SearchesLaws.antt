-- The law of each kind: searches.
use Rattle.std.proofs.Common.{◌≡◌, ℕ, Some, refl}
use Rattle.std.specs.Prelude.{IsTrue}
use Rattle.fabric_terms.specs.declared.message.Body.TheVariants.{Seek, Found}
use Rattle.ring_points.specs.declared.who.Who.{Who}
use Rattle.ring_points.specs.declared.point.Point.{Point}
use Rattle.fabric_terms.specs.Messages.{is_sound_body}
use Rattle.frame_format.specs.Frames.{body_bytes}
use Rattle.frame_format.specs.Searches.{seek_of, found_of, searches_of}
use Rattle.wire_fields.proofs.Forms.{pair_is}
use Rattle.wire_fields.proofs.FieldLaws.{hops_is, point_is, who_is}
use Rattle.frame_format.proofs.BodyForms.{Finds, kind_found, kind_again, case_found}
use Rattle.frame_format.proofs.RulingsLaws.{rulings_found}

seek_found : Finds 1 8 seek_of
unfolding seek_of
seek_found = kind_found {make = (λ x. Seek x.0.0 x.0.1 x.1)} (pair_is (pair_is who_is point_is) hops_is) (record { version_is = λ x. refl; kind_is = λ x. refl; sound = λ x h. h; spelled = λ x. refl })

pub seek_again : (origin : Who) (key : Point) (hops : ℕ) → IsTrue (is_sound_body (Seek origin key hops)) → seek_of (body_bytes (Seek origin key hops)) ≡ Some (Seek origin key hops)
unfolding seek_of
seek_again origin key hops h = kind_again (pair_is (pair_is who_is point_is) hops_is) (λ x. Seek x.0.0 x.0.1 x.1) ((origin, key), hops) h

found_found : Finds 1 9 found_of
unfolding found_of
found_found = kind_found {make = (λ x. Found x.0 x.1)} (pair_is point_is who_is) (record { version_is = λ x. refl; kind_is = λ x. refl; sound = λ x h. h; spelled = λ x. refl })

pub found_again : (key : Point) (holder : Who) → IsTrue (is_sound_body (Found key holder)) → found_of (body_bytes (Found key holder)) ≡ Some (Found key holder)
unfolding found_of
found_again key holder h = kind_again (pair_is point_is who_is) (λ x. Found x.0 x.1) (key, holder) h

pub searches_found : (kind : ℕ) → Finds 1 kind (searches_of kind)
unfolding searches_of
searches_found kind = case_found 1 kind 8 seek_found (case_found 1 kind 9 found_found (rulings_found kind))
