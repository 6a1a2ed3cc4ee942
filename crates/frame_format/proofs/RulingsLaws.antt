-- The law of each kind: rulings.
use Rattle.std.proofs.Common.{◌≡◌, ℕ, Some, refl}
use Rattle.std.specs.Prelude.{IsTrue, true}
use Rattle.std.proofs.lemmas.Bool.{and_parts, and_from}
use Rattle.fabric_terms.specs.declared.message.Body.TheVariants.{Accuse, Ruled, Claim, Kept}
use Rattle.ring_points.specs.declared.who.Who.{Who}
use Rattle.ring_points.specs.declared.who.Ruling.{Ruling}
use Rattle.fabric_terms.specs.Fields.{is_who}
use Rattle.fabric_terms.specs.Messages.{is_sound_body}
use Rattle.frame_format.specs.Frames.{body_bytes}
use Rattle.frame_format.specs.Rulings.{accuse_of, ruled_of, claim_of, kept_of, rulings_of}
use Rattle.wire_fields.proofs.Forms.{pair_is}
use Rattle.wire_fields.proofs.FieldLaws.{round_is, ruling_is, who_is}
use Rattle.frame_format.proofs.BodyForms.{Finds, kind_found, kind_again, case_found}
use Rattle.frame_format.proofs.PartitionsLaws.{partitions_found}

accuse_found : Finds 1 16 accuse_of
unfolding accuse_of
accuse_found = kind_found {make = (λ x. Accuse x)} who_is (record { version_is = λ x. refl; kind_is = λ x. refl; sound = λ x h. h; spelled = λ x. refl })

pub accuse_again : (victim : Who) → IsTrue (is_sound_body (Accuse victim)) → accuse_of (body_bytes (Accuse victim)) ≡ Some (Accuse victim)
unfolding accuse_of
accuse_again victim h = kind_again who_is (λ x. Accuse x) victim h

ruled_found : Finds 1 17 ruled_of
unfolding ruled_of
ruled_found = kind_found {make = (λ x. Ruled x.0 x.1)} (pair_is who_is ruling_is) (record { version_is = λ x. refl; kind_is = λ x. refl; sound = λ x h. (and_parts (is_who x.0) true h).0; spelled = λ x. refl })

pub ruled_again : (victim : Who) (ruling : Ruling) → IsTrue (is_sound_body (Ruled victim ruling)) → ruled_of (body_bytes (Ruled victim ruling)) ≡ Some (Ruled victim ruling)
unfolding ruled_of
ruled_again victim ruling h = kind_again (pair_is who_is ruling_is) (λ x. Ruled x.0 x.1) (victim, ruling) (and_from (is_who victim) true h refl)

claim_found : Finds 1 18 claim_of
unfolding claim_of
claim_found = kind_found {make = (λ x. Claim x.0 x.1)} (pair_is who_is round_is) (record { version_is = λ x. refl; kind_is = λ x. refl; sound = λ x h. h; spelled = λ x. refl })

pub claim_again : (victim : Who) (round : ℕ) → IsTrue (is_sound_body (Claim victim round)) → claim_of (body_bytes (Claim victim round)) ≡ Some (Claim victim round)
unfolding claim_of
claim_again victim round h = kind_again (pair_is who_is round_is) (λ x. Claim x.0 x.1) (victim, round) h

kept_found : Finds 1 19 kept_of
unfolding kept_of
kept_found = kind_found {make = (λ x. Kept x.0.0 x.0.1 x.1)} (pair_is (pair_is who_is round_is) who_is) (record { version_is = λ x. refl; kind_is = λ x. refl; sound = λ x h. h; spelled = λ x. refl })

pub kept_again : (victim : Who) (round : ℕ) (claimer : Who) → IsTrue (is_sound_body (Kept victim round claimer)) → kept_of (body_bytes (Kept victim round claimer)) ≡ Some (Kept victim round claimer)
unfolding kept_of
kept_again victim round claimer h = kind_again (pair_is (pair_is who_is round_is) who_is) (λ x. Kept x.0.0 x.0.1 x.1) ((victim, round), claimer) h

pub rulings_found : (kind : ℕ) → Finds 1 kind (rulings_of kind)
unfolding rulings_of
rulings_found kind = case_found 1 kind 16 accuse_found (case_found 1 kind 17 ruled_found (case_found 1 kind 18 claim_found (case_found 1 kind 19 kept_found (partitions_found kind))))
