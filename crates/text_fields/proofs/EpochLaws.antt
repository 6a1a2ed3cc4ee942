-- Epochs are read exactly where they are spelled.
use Rattle.std.proofs.Common.{refl}
use Rattle.std.specs.Prelude.{codes}
use Rattle.fabric_terms.specs.Ranges.{IsEpoch}
use Rattle.text_fields.specs.Epochs.{epoch_made, epoch_at, epoch_text}
use Rattle.text_fields.specs.Inverses.{IsField, EndsNumber}
use Rattle.text_fields.proofs.FieldLaws.{made_at_is, pair_is}
use Rattle.text_fields.proofs.NumberLaws.{word_number_is}

pub epoch_is : IsField epoch_at IsEpoch epoch_text EndsNumber
epoch_is =
    made_at_is (pair_is word_number_is (codes ".") word_number_is (λ _. refl)) epoch_made IsEpoch epoch_text
    (λ e h. (h, refl))
    (λ e h. ((e.data_loss, e.configuration), h, refl))
