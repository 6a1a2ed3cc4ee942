-- The law of each kind: links.
use Rattle.std.proofs.Common.{◌≡◌, ℕ, List, Some, refl, sym, ◌∙◌}
use Rattle.std.specs.Prelude.{IsTrue, Bool, true, ◌&&◌}
use Rattle.std.proofs.lemmas.Bool.{and_parts, and_from}
use Rattle.fabric_terms.specs.declared.message.Body.TheVariants.{Hello, HelloFor, Offer, OfferFor, Take, Renew, RenewAck, Transfer, Gone}
use Rattle.ring_points.specs.declared.interval.Interval.{Interval}
use Rattle.ring_points.specs.Ranges.{is_proper}
use Rattle.fabric_terms.specs.Fields.{is_session, is_stamp, is_word}
use Rattle.fabric_terms.specs.Messages.{is_sound_body}
use Rattle.frame_format.specs.Frames.{body_bytes}
use Rattle.frame_format.specs.Links.{hello_of, hello_for_of, offer_of, offer_for_of, take_of, renew_of, renew_ack_of, transfer_of, gone_of, links_of, leases_of}
use Rattle.wire_fields.proofs.Forms.{pair_is}
use Rattle.wire_fields.proofs.FieldLaws.{counted_is, flag_is, lease_is, part_is, ranges_is, session_is, stamp_is, word_is}
use Rattle.frame_format.proofs.BodyForms.{Finds, kind_found, kind_again, case_found, none_finds, any_true}
use Rattle.frame_format.proofs.SearchesLaws.{searches_found}

hello_found : Finds 1 1 hello_of
unfolding hello_of
hello_found = kind_found {make = (λ x. Hello x)} counted_is (record { version_is = λ x. refl; kind_is = λ x. refl; sound = λ x h. h; spelled = λ x. refl })

pub hello_again : (mine : ℕ) → IsTrue (is_sound_body (Hello mine)) → hello_of (body_bytes (Hello mine)) ≡ Some (Hello mine)
unfolding hello_of
hello_again mine h = kind_again counted_is (λ x. Hello x) mine h

hello_for_found : Finds 2 1 hello_for_of
unfolding hello_for_of
hello_for_found = kind_found {make = (λ x. HelloFor x.0 x.1)} (pair_is counted_is lease_is) (record { version_is = λ x. refl; kind_is = λ x. refl; sound = λ x h. h; spelled = λ x. refl })

pub hello_for_again : (mine : ℕ) (length : ℕ) → IsTrue (is_sound_body (HelloFor mine length)) → hello_for_of (body_bytes (HelloFor mine length)) ≡ Some (HelloFor mine length)
unfolding hello_for_of
hello_for_again mine length h = kind_again (pair_is counted_is lease_is) (λ x. HelloFor x.0 x.1) (mine, length) h

offer_found : Finds 1 2 offer_of
unfolding offer_of
offer_found = kind_found {make = (λ x. Offer x.0 x.1)} session_is (record { version_is = λ x. refl; kind_is = λ x. refl; sound = λ x h. h; spelled = λ x. refl })

pub offer_again : (mine : ℕ) (yours : ℕ) → IsTrue (is_sound_body (Offer mine yours)) → offer_of (body_bytes (Offer mine yours)) ≡ Some (Offer mine yours)
unfolding offer_of
offer_again mine yours h = kind_again session_is (λ x. Offer x.0 x.1) (mine, yours) h

offer_for_found : Finds 2 2 offer_for_of
unfolding offer_for_of
offer_for_found = kind_found {make = (λ x. OfferFor x.0.0 x.0.1 x.1)} (pair_is session_is lease_is) (record { version_is = λ x. refl; kind_is = λ x. refl; sound = λ x h. h; spelled = λ x. refl })

pub offer_for_again : (mine : ℕ) (yours : ℕ) (length : ℕ) → IsTrue (is_sound_body (OfferFor mine yours length)) → offer_for_of (body_bytes (OfferFor mine yours length)) ≡ Some (OfferFor mine yours length)
unfolding offer_for_of
offer_for_again mine yours length h = kind_again (pair_is session_is lease_is) (λ x. OfferFor x.0.0 x.0.1 x.1) ((mine, yours), length) h

take_found : Finds 1 3 take_of
unfolding take_of
take_found = kind_found {make = (λ x. Take x.0 x.1)} session_is (record { version_is = λ x. refl; kind_is = λ x. refl; sound = λ x h. h; spelled = λ x. refl })

pub take_again : (mine : ℕ) (yours : ℕ) → IsTrue (is_sound_body (Take mine yours)) → take_of (body_bytes (Take mine yours)) ≡ Some (Take mine yours)
unfolding take_of
take_again mine yours h = kind_again session_is (λ x. Take x.0 x.1) (mine, yours) h

renew_found : Finds 1 4 renew_of
unfolding renew_of
renew_found = kind_found {make = (λ x. Renew x.0.0.0.0.0.0 x.0.0.0.0.0.1 x.0.0.0.0.1 x.0.0.0.1 x.0.0.1 x.0.1 x.1)} (pair_is (pair_is (pair_is (pair_is (pair_is session_is stamp_is) word_is) word_is) flag_is) ranges_is) (record {
  version_is = λ x. refl;
  kind_is = λ x. refl;
  sound = λ x h.
      let a = is_session x.0.0.0.0.0.0 x.0.0.0.0.0.1 && is_stamp x.0.0.0.0.1 && is_word x.0.0.0.1 && is_word x.0.0.1 in
      let p = and_parts (a && true) (is_proper x.1) h in
      and_from a (is_proper x.1) (sym (any_true a) ∙ p.0) p.1;
  spelled = λ x. refl;
})

pub renew_again : (mine : ℕ) (yours : ℕ) (stamp : ℕ) (version : ℕ) (got : ℕ) (want : Bool) (ranges : List Interval) → IsTrue (is_sound_body (Renew mine yours stamp version got want ranges)) → renew_of (body_bytes (Renew mine yours stamp version got want ranges)) ≡ Some (Renew mine yours stamp version got want ranges)
unfolding renew_of
renew_again mine yours stamp version got want ranges h = kind_again (pair_is (pair_is (pair_is (pair_is (pair_is session_is stamp_is) word_is) word_is) flag_is) ranges_is) (λ x. Renew x.0.0.0.0.0.0 x.0.0.0.0.0.1 x.0.0.0.0.1 x.0.0.0.1 x.0.0.1 x.0.1 x.1) ((((((mine, yours), stamp), version), got), want), ranges) (let a = is_session mine yours && is_stamp stamp && is_word version && is_word got in
    let p = and_parts a (is_proper ranges) h in
    and_from (a && true) (is_proper ranges) (any_true a ∙ p.0) p.1)

renew_ack_found : Finds 1 5 renew_ack_of
unfolding renew_ack_of
renew_ack_found = kind_found {make = (λ x. RenewAck x.0.0.0 x.0.0.1 x.0.1 x.1)} (pair_is (pair_is session_is stamp_is) word_is) (record { version_is = λ x. refl; kind_is = λ x. refl; sound = λ x h. h; spelled = λ x. refl })

pub renew_ack_again : (mine : ℕ) (yours : ℕ) (stamp : ℕ) (version : ℕ) → IsTrue (is_sound_body (RenewAck mine yours stamp version)) → renew_ack_of (body_bytes (RenewAck mine yours stamp version)) ≡ Some (RenewAck mine yours stamp version)
unfolding renew_ack_of
renew_ack_again mine yours stamp version h = kind_again (pair_is (pair_is session_is stamp_is) word_is) (λ x. RenewAck x.0.0.0 x.0.0.1 x.0.1 x.1) (((mine, yours), stamp), version) h

transfer_found : Finds 1 6 transfer_of
unfolding transfer_of
transfer_found = kind_found {make = (λ x. Transfer x.0.0.0 x.0.0.1 x.0.1 x.1)} (pair_is (pair_is session_is counted_is) part_is) (record { version_is = λ x. refl; kind_is = λ x. refl; sound = λ x h. h; spelled = λ x. refl })

pub transfer_again : (mine : ℕ) (yours : ℕ) (flight : ℕ) (ranges : List Interval) → IsTrue (is_sound_body (Transfer mine yours flight ranges)) → transfer_of (body_bytes (Transfer mine yours flight ranges)) ≡ Some (Transfer mine yours flight ranges)
unfolding transfer_of
transfer_again mine yours flight ranges h = kind_again (pair_is (pair_is session_is counted_is) part_is) (λ x. Transfer x.0.0.0 x.0.0.1 x.0.1 x.1) (((mine, yours), flight), ranges) h

gone_found : Finds 1 7 gone_of
unfolding gone_of
gone_found = kind_found {make = (λ x. Gone x.0.0.0 x.0.0.1 x.0.1 x.1)} (pair_is (pair_is session_is word_is) flag_is) (record { version_is = λ x. refl; kind_is = λ x. refl; sound = λ x h. (and_parts (is_session x.0.0.0 x.0.0.1 && is_word x.0.1) true h).0; spelled = λ x. refl })

pub gone_again : (mine : ℕ) (yours : ℕ) (got : ℕ) (bound : Bool) → IsTrue (is_sound_body (Gone mine yours got bound)) → gone_of (body_bytes (Gone mine yours got bound)) ≡ Some (Gone mine yours got bound)
unfolding gone_of
gone_again mine yours got bound h = kind_again (pair_is (pair_is session_is word_is) flag_is) (λ x. Gone x.0.0.0 x.0.0.1 x.0.1 x.1) (((mine, yours), got), bound) (and_from (is_session mine yours && is_word got) true h refl)

pub links_found : (kind : ℕ) → Finds 1 kind (links_of kind)
unfolding links_of
links_found kind = case_found 1 kind 1 hello_found (case_found 1 kind 2 offer_found (case_found 1 kind 3 take_found (case_found 1 kind 4 renew_found (case_found 1 kind 5 renew_ack_found (case_found 1 kind 6 transfer_found (case_found 1 kind 7 gone_found (searches_found kind)))))))

pub leases_found : (kind : ℕ) → Finds 2 kind (leases_of kind)
unfolding leases_of
leases_found kind = case_found 2 kind 1 hello_for_found (case_found 2 kind 2 offer_for_found (none_finds 2 kind))
