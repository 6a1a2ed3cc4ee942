-- The law of each kind: partitions.
use Rattle.std.proofs.Common.{◌≡◌, ℕ, Option, Some, refl}
use Rattle.std.specs.Prelude.{IsTrue, ◌&&◌, ◌++◌}
use Rattle.std.proofs.lemmas.Bool.{and_parts, and_from}
use Rattle.fabric_terms.specs.declared.message.Body.TheVariants.{Prepare, Prepared, NoPrepare, Vote, Voted, NoVote, DoneAsk, DoneKept, NoDone}
use Rattle.ring_points.specs.declared.unit.Epoch.{Epoch}
use Rattle.ring_points.specs.declared.unit.Config.{Config}
use Rattle.fabric_terms.specs.Fields.{is_unit, is_config, same_unit}
use Rattle.fabric_terms.specs.Messages.{is_sound_body}
use Rattle.frame_format.specs.Frames.{body_bytes}
use Rattle.wire_fields.specs.Texts.{unit_bytes, config_bytes}
use Rattle.wire_fields.specs.Readers.{such, pair, unit_at, config_at}
use Rattle.frame_format.specs.Partitions.{prepare_of, prepared_of, no_prepare_of, vote_of, voted_of, no_vote_of, done_ask_of, done_kept_of, no_done_of, partitions_of}
use Rattle.wire_fields.proofs.Forms.{IsField, pair_is, such_is}
use Rattle.wire_fields.proofs.ConfigLaws.{config_is, done_is}
use Rattle.wire_fields.proofs.FieldLaws.{epoch_is, unit_is}
use Rattle.frame_format.proofs.BodyForms.{Finds, kind_found, kind_again, case_found}
use Rattle.frame_format.proofs.ReplicasLaws.{replicas_found}

prepare_found : Finds 1 32 prepare_of
unfolding prepare_of
prepare_found = kind_found {make = (λ x. Prepare x.0 x.1)} unit_is (record { version_is = λ x. refl; kind_is = λ x. refl; sound = λ x h. h; spelled = λ x. refl })

pub prepare_again : (partition : ℕ) (epoch : Epoch) → IsTrue (is_sound_body (Prepare partition epoch)) → prepare_of (body_bytes (Prepare partition epoch)) ≡ Some (Prepare partition epoch)
unfolding prepare_of
prepare_again partition epoch h = kind_again unit_is (λ x. Prepare x.0 x.1) (partition, epoch) h

prepared_found : Finds 1 33 prepared_of
unfolding prepared_of
prepared_found = kind_found {make = (λ x. Prepared x.0.0 x.0.1 x.1)} (pair_is unit_is done_is) (record { version_is = λ x. refl; kind_is = λ x. refl; sound = λ x h. h; spelled = λ x. refl })

pub prepared_again : (partition : ℕ) (epoch : Epoch) (done : Option Config) → IsTrue (is_sound_body (Prepared partition epoch done)) → prepared_of (body_bytes (Prepared partition epoch done)) ≡ Some (Prepared partition epoch done)
unfolding prepared_of
prepared_again partition epoch done h = kind_again (pair_is unit_is done_is) (λ x. Prepared x.0.0 x.0.1 x.1) ((partition, epoch), done) h

no_prepare_found : Finds 1 34 no_prepare_of
unfolding no_prepare_of
no_prepare_found = kind_found {make = (λ x. NoPrepare x.0.0 x.0.1 x.1)} (pair_is unit_is epoch_is) (record { version_is = λ x. refl; kind_is = λ x. refl; sound = λ x h. h; spelled = λ x. refl })

pub no_prepare_again : (partition : ℕ) (epoch : Epoch) (kept : Epoch) → IsTrue (is_sound_body (NoPrepare partition epoch kept)) → no_prepare_of (body_bytes (NoPrepare partition epoch kept)) ≡ Some (NoPrepare partition epoch kept)
unfolding no_prepare_of
no_prepare_again partition epoch kept h = kind_again (pair_is unit_is epoch_is) (λ x. NoPrepare x.0.0 x.0.1 x.1) ((partition, epoch), kept) h

vote_found : Finds 1 35 vote_of
unfolding vote_of
vote_found = kind_found {make = (λ x. Vote x)} config_is (record { version_is = λ x. refl; kind_is = λ x. refl; sound = λ x h. h; spelled = λ x. refl })

pub vote_again : (config : Config) → IsTrue (is_sound_body (Vote config)) → vote_of (body_bytes (Vote config)) ≡ Some (Vote config)
unfolding vote_of
vote_again config h = kind_again config_is (λ x. Vote x) config h

voted_is : IsField (such (λ x. same_unit x.0.0 x.0.1 x.1) (pair unit_at config_at)) (λ x. is_unit x.0.0 x.0.1 && is_config x.1 && same_unit x.0.0 x.0.1 x.1) (λ x. unit_bytes x.0.0 x.0.1 ++ config_bytes x.1)
voted_is =
    such_is (pair_is unit_is config_is) (λ x. same_unit x.0.0 x.0.1 x.1) (λ x. is_unit x.0.0 x.0.1 && is_config x.1 && same_unit x.0.0 x.0.1 x.1) (λ x a b. and_from (is_unit x.0.0 x.0.1 && is_config x.1) (same_unit x.0.0 x.0.1 x.1) a b) (λ x h. and_parts (is_unit x.0.0 x.0.1 && is_config x.1) (same_unit x.0.0 x.0.1 x.1) h)

voted_found : Finds 1 36 voted_of
unfolding voted_of
voted_found = kind_found {make = (λ x. Voted x.0.0 x.0.1 x.1)} voted_is (record { version_is = λ x. refl; kind_is = λ x. refl; sound = λ x h. h; spelled = λ x. refl })

pub voted_again : (partition : ℕ) (epoch : Epoch) (kept : Config) → IsTrue (is_sound_body (Voted partition epoch kept)) → voted_of (body_bytes (Voted partition epoch kept)) ≡ Some (Voted partition epoch kept)
unfolding voted_of
voted_again partition epoch kept h = kind_again voted_is (λ x. Voted x.0.0 x.0.1 x.1) ((partition, epoch), kept) h

no_vote_found : Finds 1 37 no_vote_of
unfolding no_vote_of
no_vote_found = kind_found {make = (λ x. NoVote x.0.0 x.0.1 x.1)} (pair_is unit_is epoch_is) (record { version_is = λ x. refl; kind_is = λ x. refl; sound = λ x h. h; spelled = λ x. refl })

pub no_vote_again : (partition : ℕ) (epoch : Epoch) (kept : Epoch) → IsTrue (is_sound_body (NoVote partition epoch kept)) → no_vote_of (body_bytes (NoVote partition epoch kept)) ≡ Some (NoVote partition epoch kept)
unfolding no_vote_of
no_vote_again partition epoch kept h = kind_again (pair_is unit_is epoch_is) (λ x. NoVote x.0.0 x.0.1 x.1) ((partition, epoch), kept) h

done_ask_found : Finds 1 38 done_ask_of
unfolding done_ask_of
done_ask_found = kind_found {make = (λ x. DoneAsk x)} config_is (record { version_is = λ x. refl; kind_is = λ x. refl; sound = λ x h. h; spelled = λ x. refl })

pub done_ask_again : (config : Config) → IsTrue (is_sound_body (DoneAsk config)) → done_ask_of (body_bytes (DoneAsk config)) ≡ Some (DoneAsk config)
unfolding done_ask_of
done_ask_again config h = kind_again config_is (λ x. DoneAsk x) config h

done_kept_found : Finds 1 39 done_kept_of
unfolding done_kept_of
done_kept_found = kind_found {make = (λ x. DoneKept x.0 x.1)} unit_is (record { version_is = λ x. refl; kind_is = λ x. refl; sound = λ x h. h; spelled = λ x. refl })

pub done_kept_again : (partition : ℕ) (epoch : Epoch) → IsTrue (is_sound_body (DoneKept partition epoch)) → done_kept_of (body_bytes (DoneKept partition epoch)) ≡ Some (DoneKept partition epoch)
unfolding done_kept_of
done_kept_again partition epoch h = kind_again unit_is (λ x. DoneKept x.0 x.1) (partition, epoch) h

no_done_found : Finds 1 40 no_done_of
unfolding no_done_of
no_done_found = kind_found {make = (λ x. NoDone x.0.0 x.0.1 x.1)} (pair_is unit_is epoch_is) (record { version_is = λ x. refl; kind_is = λ x. refl; sound = λ x h. h; spelled = λ x. refl })

pub no_done_again : (partition : ℕ) (epoch : Epoch) (kept : Epoch) → IsTrue (is_sound_body (NoDone partition epoch kept)) → no_done_of (body_bytes (NoDone partition epoch kept)) ≡ Some (NoDone partition epoch kept)
unfolding no_done_of
no_done_again partition epoch kept h = kind_again (pair_is unit_is epoch_is) (λ x. NoDone x.0.0 x.0.1 x.1) ((partition, epoch), kept) h

pub partitions_found : (kind : ℕ) → Finds 1 kind (partitions_of kind)
unfolding partitions_of
partitions_found kind = case_found 1 kind 32 prepare_found (case_found 1 kind 33 prepared_found (case_found 1 kind 34 no_prepare_found (case_found 1 kind 35 vote_found (case_found 1 kind 36 voted_found (case_found 1 kind 37 no_vote_found (case_found 1 kind 38 done_ask_found (case_found 1 kind 39 done_kept_found (case_found 1 kind 40 no_done_found (replicas_found kind)))))))))
