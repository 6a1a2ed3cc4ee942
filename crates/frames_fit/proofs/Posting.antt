-- What is sent goes on top of the frames.
use Rattle.std.proofs.Common.{◌&&◌, List, [], ◌∷◌, IsTrue}
use Rattle.std.specs.Prelude.{All}
use Rattle.std.proofs.lemmas.Bool.{and_parts, and_from}
use Rattle.std.proofs.lemmas.List.Elements.{All-cons, All-head, All-tail}
use Rattle.fabric_terms.specs.declared.message.Body.{Body}
use Rattle.fabric_terms.specs.declared.message.Message.{Message}
use Rattle.fabric_terms.specs.declared.record.Record.{Record}
use Rattle.ring_points.specs.declared.who.Who.{Who}
use Rattle.fabric_terms.specs.Fields.{is_addressee, is_sender}
use Rattle.fabric_terms.specs.Messages.{is_sound, is_sound_body}
use Rattle.world_rules.specs.Uppers.{Did, Upper}
use Rattle.world_rules.specs.Worlds.{posted}
use Rattle.frames_fit.specs.Above.{SendsInFormat}
use Rattle.frames_fit.specs.Formats.{ReportInRange, in_format}
use Rattle.frames_fit.specs.Tables.{RecordInRange}
use Rattle.frames_fit.proofs.Going.{AllInFormat}

abbrev pub Sound : Message → Type 0
Sound m = IsTrue (is_sound m)

-- in their format, from one who may send
pub posted_sound : (from : Who) (sent : List (Who × Body)) (frames : List Message) → IsTrue (is_sender from) → AllInFormat sent → All Sound frames →
    All Sound (posted from sent frames)
posted_sound from [] frames h k m = m
posted_sound from (s ∷ ss) frames h k m =
    let parts = and_parts (is_addressee s.0) (is_sound_body s.1) (All-head (λ m. IsTrue (in_format m)) s ss k) in
    let one : Message = record { from = from; to = s.0; body = s.1 } in
    posted_sound from ss (one ∷ frames) h (All-tail (λ m. IsTrue (in_format m)) s ss k)
    (All-cons Sound one frames
    (and_from (is_sender from && is_addressee s.0) (is_sound_body s.1) (and_from (is_sender from) (is_addressee s.0) h parts.0) parts.1) m)

-- a record of the ring, or of what runs above or beside
abbrev pub KeptInRange : {a : Upper} → SendsInFormat a → Record → Type 0
KeptInRange p = RecordInRange p.Kept

-- What an actor does: what it records and tells is in range, and what it sends goes on top of sound frames.
pub record ActsInFormat {S : Type 0} {a : Upper} (p : SendsInFormat a) (who : Who) (d : Did S) : Type 0 where
  pub records : All (KeptInRange p) d.records
  pub posts : (frames : List Message) → All Sound frames → All Sound (posted who d.sent frames)
  pub told : All ReportInRange d.told
