-- What the registers answer is in the ranges of frames, and what they record keeps them so.
use Rattle.std.proofs.Common.{◌≡◌, ℕ, Bool, true, false, ◌&&◌, ◌||◌, [], Option, Some, None, IsTrue, refl, arith}
use Rattle.std.specs.Prelude.{◌==◌, All, nat_le, length, if◌then◌else◌}
use Rattle.std.proofs.lemmas.Bool.{and_from, and_parts, or_right}
use Rattle.std.proofs.lemmas.Bool.Decides.{nat_tests}
use Rattle.std.proofs.lemmas.List.Elements.{All-nil}
use Rattle.fabric_terms.specs.declared.message.Body.{Body}
use Rattle.fabric_terms.specs.declared.message.Body.TheVariants as body
use Rattle.fabric_terms.specs.declared.message.Message.{Message}
use Rattle.fabric_terms.specs.declared.record.Record.{Record}
use Rattle.fabric_terms.specs.Fields.{has_members, is_addressee, is_arbiter, is_config, is_done, is_epoch, is_node, is_sender, is_short, is_unit, is_who, is_word, same_unit}
use Rattle.fabric_terms.specs.Messages.{is_sound, is_sound_body}
use Rattle.frames_fit.specs.Above.{DidInFormat}
use Rattle.frames_fit.specs.Formats.{ReportInRange, in_format}
use Rattle.frames_fit.proofs.Facts.{who_addressed}
use Rattle.frames_fit.proofs.Frames.{sound_parts}
use Rattle.ring_points.specs.declared.unit.Config.{Config}
use Rattle.ring_points.specs.declared.unit.Epoch.{Epoch}
use Rattle.ring_points.specs.declared.who.Who.{Who}
use Rattle.ring_points.specs.Epochs.{same_epoch}
use Rattle.unit_rules.specs.Deeds.{did, unless}
use Rattle.unit_rules.specs.Registers.{Register, Registers, Reply, done_received, is_above, is_below, is_newer, is_prepared_for, prepare_received, prepared_epoch, question_received, register_of, replied, vote_in, vote_received, vote_settled}
use Rattle.world_rules.specs.Above.{is_ring_frame, is_ring_record}
use Rattle.fabric_fit.specs.Records.{KeptRecord}
use Rattle.fabric_fit.specs.Registers.{RegisterInRange, RegistersInRange, is_vote}
use Rattle.fabric_fit.proofs.Deeds.{all_unless}
use Rattle.fabric_fit.proofs.Ranges.{register_in_range, vote_found, with_in_range}

-- who may send may be answered
pub sender_addressed : (w : Who) → IsTrue (is_sender w) → IsTrue (is_addressee w)
sender_addressed w h = by (is_who w) refl h
  where
    by : (b : Bool) → is_who w ≡ b → IsTrue (b || is_arbiter w) → IsTrue (is_addressee w)
    by true e g = who_addressed w e
    by false e g = or_right (is_node w.actor && is_word w.instance) (is_arbiter w) g

unit_of_config : (c : Config) → IsTrue (is_config c) → IsTrue (is_unit c.partition c.epoch)
unit_of_config c h =
    let parts = and_parts ((is_unit c.partition c.epoch && is_short c.primary) && nat_le (length c.members) 7) (has_members c) h in
    let more = and_parts (is_unit c.partition c.epoch && is_short c.primary) (nat_le (length c.members) 7) parts.0 in
    (and_parts (is_unit c.partition c.epoch) (is_short c.primary) more.0).0

itself : (c : Config) → IsTrue (same_unit c.partition c.epoch c)
itself c = grind (arith, nat_tests)

same_unit_from : (p : ℕ) (e : Epoch) (c : Config) → IsTrue (c.partition == p) → same_epoch c.epoch e ≡ true → IsTrue (same_unit p e c)
same_unit_from p e c h k =
    let parts = and_parts (c.epoch.data_loss == e.data_loss) (c.epoch.configuration == e.configuration) k in
    and_from (c.partition == p && c.epoch.data_loss == e.data_loss) (c.epoch.configuration == e.configuration)
    (and_from (c.partition == p) (c.epoch.data_loss == e.data_loss) h parts.0) parts.1

abbrev KeptFits : Option Record → Type 0
KeptFits None = Unit {0}
KeptFits (Some r) = KeptRecord r

-- an answer that a frame can carry, and a record that keeps the registers so
record ReplyFits (r : Reply) : Type 0 where
  body : IsTrue (is_sound_body r.body)
  kept : KeptFits r.kept

either : (test : Bool) (a b : Reply) → ReplyFits a → ReplyFits b → ReplyFits (if test then a else b)
either true a b h k = h
either false a b h k = k

-- The three questions.

module _ (partition : ℕ) (epoch : Epoch) (asker : Who) (r : Register) (unit : IsTrue (is_unit partition epoch)) (fine : RegisterInRange (partition, r)) where
  prepared : IsTrue (is_sound_body (body.Prepared partition epoch r.done))
  prepared = and_from (is_unit partition epoch) (is_done r.done) unit fine.done

  prepare_fits : ReplyFits (prepare_received partition epoch asker r)
  unfolding prepare_received
  prepare_fits =
      either (is_above r.prepared epoch) _ _ (record { body = prepared; kept = unit })
      (either (is_prepared_for r.prepared epoch asker) _ _ (record { body = prepared; kept = tt })
      (record { body = and_from (is_unit partition epoch) (is_epoch (prepared_epoch r.prepared)) unit fine.prepared; kept = tt }))

module _ (config : Config) (r : Register) (sound : IsTrue (is_config config)) (fine : RegisterInRange (config.partition, r)) where
  unit : IsTrue (is_unit config.partition config.epoch)
  unit = unit_of_config config sound

  below : IsTrue (is_unit config.partition config.epoch && is_epoch (prepared_epoch r.prepared))
  below = and_from (is_unit config.partition config.epoch) (is_epoch (prepared_epoch r.prepared)) unit fine.prepared

  voted : (kept : Config) → IsTrue (is_config kept) → IsTrue (same_unit config.partition config.epoch kept)
      → IsTrue (is_sound_body (body.Voted config.partition config.epoch kept))
  voted kept h k =
      and_from (is_unit config.partition config.epoch && is_config kept) (same_unit config.partition config.epoch kept)
      (and_from (is_unit config.partition config.epoch) (is_config kept) unit h) k

  settled : (o : Option Config) → vote_in config.epoch r.votes ≡ o → ReplyFits (vote_settled config o)
  settled None e = record { body = voted config sound (itself config); kept = sound }
  settled (Some first) e =
      let found = vote_found (λ vote. IsTrue (is_vote config.partition vote)) config.epoch r.votes first fine.votes e in
      let parts = and_parts (is_config first) (first.partition == config.partition) found.0 in
      record { body = voted first parts.0 (same_unit_from config.partition config.epoch first parts.1 found.1); kept = tt }

  vote_fits : ReplyFits (vote_received config r)
  unfolding vote_received
  vote_fits = either (is_below r.prepared config.epoch) _ _ (record { body = below; kept = tt }) (settled (vote_in config.epoch r.votes) refl)

  done_fits : ReplyFits (done_received config r)
  unfolding done_received
  done_fits =
      either (is_below r.prepared config.epoch) _ _ (record { body = below; kept = tt })
      (either (is_newer config.epoch r.done) _ _ (record { body = unit; kept = sound }) (record { body = unit; kept = tt }))

-- What is done with an answer.

module _ (asker : Who) (rs : Registers) (addressed : IsTrue (is_addressee asker)) (fine : RegistersInRange rs) where
  reply_in_format : (r : Reply) → ReplyFits r → DidInFormat RegistersInRange KeptRecord (did (replied asker rs (Some r)))
  reply_in_format r h = by r.kept h.kept
    where
      sent : All (λ m. IsTrue (in_format m)) (unless (is_ring_frame r.body) (asker, r.body) [])
      sent = all_unless (λ m. IsTrue (in_format m)) (is_ring_frame r.body) (asker, r.body) [] (and_from (is_addressee asker) (is_sound_body r.body) addressed h.body)
          (All-nil (λ m. IsTrue (in_format m)))

      by : (kept : Option Record) → KeptFits kept
          → DidInFormat RegistersInRange KeptRecord (did (replied asker rs (Some (record { kept = kept; body = r.body }))))
      by None k = record { state = fine; records = All-nil KeptRecord; sent = sent; told = All-nil ReportInRange }
      by (Some one) k = record {
        state = with_in_range rs one fine k;
        records = all_unless KeptRecord (is_ring_record one) one [] k (All-nil KeptRecord);
        sent = sent;
        told = All-nil ReportInRange;
      }

  still_in_format : DidInFormat RegistersInRange KeptRecord (did (replied asker rs None))
  still_in_format = record { state = fine; records = All-nil KeptRecord; sent = All-nil (λ m. IsTrue (in_format m)); told = All-nil ReportInRange }

  answered : (b : Body) → IsTrue (is_sound_body b) → DidInFormat RegistersInRange KeptRecord (did (question_received b asker rs))
  answered (body.Prepare partition epoch) h =
      reply_in_format (prepare_received partition epoch asker (register_of partition rs))
      (prepare_fits partition epoch asker (register_of partition rs) h (register_in_range partition rs fine))
  answered (body.Vote config) h =
      reply_in_format (vote_received config (register_of config.partition rs))
      (vote_fits config (register_of config.partition rs) h (register_in_range config.partition rs fine))
  answered (body.DoneAsk config) h =
      reply_in_format (done_received config (register_of config.partition rs))
      (done_fits config (register_of config.partition rs) h (register_in_range config.partition rs fine))
  answered _ h = still_in_format

pub question_in_format : (m : Message) (rs : Registers) → RegistersInRange rs → IsTrue (is_sound m)
    → DidInFormat RegistersInRange KeptRecord (did (question_received m.body m.from rs))
question_in_format m rs fine h =
    answered m.from rs (sender_addressed m.from (sound_parts m h).from) fine m.body (sound_parts m h).body
