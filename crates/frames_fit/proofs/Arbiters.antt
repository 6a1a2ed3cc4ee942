-- A whole arbitrator keeps to the ranges of frames.
use Rattle.std.proofs.Common.{◌≡◌, ℕ, Bool, true, false, not, List, [], ◌∷◌, IsTrue, refl}
use Rattle.std.specs.Prelude.{◌==◌, All, nat_lt}
use Rattle.std.proofs.lemmas.Bool.{and_parts, eqb-true, ltb-false, not-true}
use Rattle.std.proofs.lemmas.List.Elements.{All-cons, All-nil}
use Rattle.fabric_terms.specs.declared.config.FabricConfig.{FabricConfig}
use Rattle.fabric_terms.specs.declared.message.Body.{Body}
use Rattle.fabric_terms.specs.declared.message.Body.TheVariants as body
use Rattle.fabric_terms.specs.declared.message.Message.{Message}
use Rattle.fabric_terms.specs.declared.record.Record.{Record}
use Rattle.fabric_terms.specs.Sound.{IsSound}
use Rattle.ring_points.specs.declared.who.Ruling.{Ruling}
use Rattle.ring_points.specs.declared.who.Who.{Who}
use Rattle.ring_points.specs.Whos.{arbiter_actor}
use Rattle.ring_rules.specs.Arbiters.{accusation_kept, accusation_ruled, claim_answer, claim_kept, claim_settled, no_table, table_after, takes_frame}
use Rattle.fabric_terms.specs.Fields.{is_round, is_sender, is_who}
use Rattle.fabric_terms.specs.Messages.{is_sound, is_sound_body}
use Rattle.world_rules.specs.Arbiters.{ArbiterState, arbiter_begun, arbiter_step, arbiter_takes, beside_did}
use Rattle.world_rules.specs.Uppers.{Upper, Did}
use Rattle.world_rules.specs.Worlds.{arbiter_who}
use Rattle.frames_fit.specs.Above.{SendsInFormat}
use Rattle.frames_fit.specs.Formats.{ReportInRange, in_format}
use Rattle.frames_fit.specs.Tables.{TableInRange}
use Rattle.frames_fit.proofs.Facts.{high_addressed, low_sends, ruled_format, who_addressed}
use Rattle.frames_fit.proofs.Frames.{sound_parts}
use Rattle.frames_fit.proofs.Going.{AllInFormat}
use Rattle.frames_fit.proofs.Posting.{ActsInFormat, KeptInRange, posted_sound}
use Rattle.frames_fit.proofs.Tables.{accusation_recorded, after_in_range, claim_answered, claim_recorded, no_table_in_range}

-- its table, and what runs beside it
pub record ArbiterInRange (a : Upper) (p : SendsInFormat a) (c : FabricConfig) (s : ArbiterState a) : Type 0 where
  pub table : TableInRange s.table
  pub beside : p.Beside c s.beside

-- what it leaves in a step
pub record ArbiterActs (a : Upper) (p : SendsInFormat a) (c : FabricConfig) (who : Who) (d : Did (ArbiterState a)) : Type 0 where
  pub state : ArbiterInRange a p c d.state
  pub acts : ActsInFormat p who d

module _ (a : Upper) (p : SendsInFormat a) (c : FabricConfig) (sound : IsSound c) (arbiter : ℕ) where
  pub arbiter_begins : (records : List Record) → All (KeptInRange p) records → ArbiterInRange a p c (arbiter_begun a c arbiter records)
  unfolding arbiter_begun
  arbiter_begins records kept =
      record { table = after_in_range p.Kept no_table records no_table_in_range kept; beside = p.beside_begun c arbiter records sound kept }

module _ (a : Upper) (p : SendsInFormat a) (c : FabricConfig) (sound : IsSound c) (arbiter : ℕ) (m : Message) (h : IsTrue (is_sound m)) (s : ArbiterState a)
    (fine : ArbiterInRange a p c s) where
  -- whom it takes a frame from, and by whom the frame is taken
  from_node : takes_frame arbiter m ≡ true → IsTrue (is_who m.from)
  from_node e =
      let low = ltb-false (arbiter_actor 0) m.from.actor (not-true (nat_lt (arbiter_actor 0) m.from.actor)
      (and_parts (m.to.actor == arbiter_actor arbiter) (not (nat_lt (arbiter_actor 0) m.from.actor)) e).1) in
      low_sends m.from (sound_parts m h).from low

  by_arbiter : takes_frame arbiter m ≡ true → IsTrue (is_sender (arbiter_who arbiter))
  by_arbiter e =
      high_addressed m.to arbiter (sound_parts m h).to
      (eqb-true m.to.actor (arbiter_actor arbiter) (and_parts (m.to.actor == arbiter_actor arbiter) (not (nat_lt (arbiter_actor 0) m.from.actor)) e).0)

  -- what the table answers: these are recorded, and these are sent
  answers : (e : takes_frame arbiter m ≡ true) (records : List Record) (sent : List (Who × Body)) → All (KeptInRange p) records → AllInFormat sent →
      ArbiterActs a p c (arbiter_who arbiter) (record { state = record s { table = table_after s.table records }; records = records; sent = sent; told = [] })
  answers e records sent kept said = record {
    state = record { table = after_in_range p.Kept s.table records fine.table kept; beside = fine.beside };
    acts = record { records = kept; posts = λ frames k. posted_sound (arbiter_who arbiter) sent frames (by_arbiter e) said k; told = All-nil ReportInRange };
  }

  aside : takes_frame arbiter m ≡ true → ArbiterActs a p c (arbiter_who arbiter) (beside_did a s (a.beside_step c arbiter s.beside m))
  aside e =
      let d = p.beside_step c arbiter s.beside m sound fine.beside h in
      record {
        state = record { table = fine.table; beside = d.state };
        acts = record {
          records = d.records;
          posts = λ frames k. posted_sound (arbiter_who arbiter) (a.beside_step c arbiter s.beside m).sent frames (by_arbiter e) d.sent k;
          told = All-nil ReportInRange;
        };
      }

  taken : (b : Body) → IsTrue (is_sound_body b) → (takes : Bool) → takes_frame arbiter m ≡ takes →
      ArbiterActs a p c (arbiter_who arbiter) (arbiter_takes a c arbiter m s b takes)
  taken b k false e = record { state = fine; acts = record { records = All-nil (KeptInRange p); posts = λ frames f. f; told = All-nil ReportInRange } }
  taken (body.Accuse victim) k true e =
      let ruling : Ruling = accusation_ruled s.table.accusations m.from victim in
      answers e (accusation_kept s.table.accusations m.from victim) ((m.from, body.Ruled victim ruling) ∷ [])
      (accusation_recorded p.Kept s.table fine.table m.from victim (from_node e) k)
      (All-cons (λ m. IsTrue (in_format m)) (m.from, body.Ruled victim ruling) []
      (ruled_format m.from (who_addressed m.from (from_node e)) victim ruling k) (All-nil (λ m. IsTrue (in_format m))))
  taken (body.Claim victim round) k true e =
      let parts = and_parts (is_who victim) (is_round round) k in
      answers e (claim_kept s.table m.from victim round) (claim_answer m.from victim round (claim_settled s.table m.from victim round))
      (claim_recorded p.Kept s.table fine.table m.from victim (from_node e) parts.0 round parts.1)
      (claim_answered p.Kept s.table fine.table m.from victim (from_node e) parts.0 round parts.1)
  taken b k true e = aside e

  pub arbiter_acts : ArbiterActs a p c (arbiter_who arbiter) (arbiter_step a c arbiter m s)
  unfolding arbiter_step
  arbiter_acts = taken m.body (sound_parts m h).body (takes_frame arbiter m) refl
