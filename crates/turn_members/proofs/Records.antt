-- The records that a start and a step make have spellings, and records that have spellings are in range.
use Rattle.std.proofs.Common.{◌≡◌, ℕ, Bool, true, false, cond, not, ◌&&◌, List, [], ◌∷◌, Option, Some, None, IsTrue, refl, sym, subst, arith}
use Rattle.std.specs.Prelude.{◌==◌, All, nat_le, nat_lt, if◌then◌else◌}
use Rattle.std.specs.List.{list_any}
use Rattle.std.proofs.lemmas.Bool.{and_from, and_parts, ltb-false, not-true, or_parts}
use Rattle.std.proofs.lemmas.Bool.Decides.{nat_tests}
use Rattle.std.proofs.lemmas.List.Elements.{All-cons, All-head, All-nil, All-tail}
use Rattle.unit_rules.specs.Fabric.{fabric}
use Rattle.fabric_fit.specs.Records.{KeptRecord}
use Rattle.fabric_terms.specs.Fields.{is_config, is_round, is_unit, is_who}
use Rattle.fabric_terms.specs.Messages.{is_sound as is_sound_frame, is_sound_body}
use Rattle.fabric_terms.specs.declared.config.FabricConfig.{FabricConfig}
use Rattle.fabric_terms.specs.declared.message.Body.{Body}
use Rattle.fabric_terms.specs.declared.message.Body.TheVariants as body
use Rattle.fabric_terms.specs.declared.message.Message.{Message}
use Rattle.fabric_terms.specs.declared.record.Record.{Record}
use Rattle.fabric_terms.specs.declared.record.Record.TheVariants.{Boot, AccusedBy, PreparedBy, VotedFor, DoneFor, PromisedAt, Wrote, Incoming, AdoptedAt, ClaimedBy}
use Rattle.frames_fit.proofs.Facts.{low_sends}
use Rattle.frames_fit.proofs.Frames.{sound_parts}
use Rattle.keep_log.specs.Amounts.{Amount, is_arbiters, with_record}
use Rattle.keep_log.specs.Places.{is_next, stand_in_place}
use Rattle.keep_log.specs.Spellings.{is_later_round, is_sound}
use Rattle.ring_points.specs.Whos.{arbiter_actor}
use Rattle.ring_points.specs.declared.unit.Config.{Config}
use Rattle.ring_points.specs.declared.unit.Epoch.{Epoch}
use Rattle.ring_points.specs.declared.who.Who.{Who}
use Rattle.ring_rules.specs.Arbiters.{accusation_kept, claim_kept, claimer_kept, first_accuser, first_claimer, first_kept, takes_frame}
use Rattle.ring_rules.specs.declared.input.Input.{Input}
use Rattle.unit_rules.specs.Deeds.{did, unless}
use Rattle.unit_rules.specs.Registers.{Register, Registers, Reply, done_received, is_above, is_below, is_newer, is_prepared_for, prepare_received, question_answered, register_of, replied, vote_in, vote_received, vote_settled}
use Rattle.world_rules.specs.Above.{is_ring_record}
use Rattle.world_rules.specs.Arbiters.{ArbiterState, arbiter_step, arbiter_takes}
use Rattle.world_rules.specs.Nodes.{NodeState, boot_kept, instance_begun, is_spent, node_step}
use Rattle.world_rules.specs.Uppers.{Did}
use Rattle.world_rules.proofs.Rows.{arbiter_step-is}
use Rattle.turn_members.proofs.Own.{own_records}

abbrev pub Spelled : Record → Type 0
Spelled r = IsTrue (is_sound r)

-- Kept records are in range.

in_range : (r : Record) → Spelled r → KeptRecord r
in_range (Boot instance) h = h
in_range (AccusedBy victim first) h = h
in_range (PreparedBy partition epoch preparer) h = (and_parts (is_unit partition epoch) (is_who preparer) h).0
in_range (VotedFor config) h = h
in_range (DoneFor config) h = h
in_range (PromisedAt partition epoch) h = h
in_range (Wrote partition epoch lsn text) h = h
in_range (Incoming partition epoch lsn entry_epoch text) h = h
in_range (AdoptedAt partition epoch last own) h = h
in_range (ClaimedBy victim round claimer) h =
    let parts = and_parts (is_who victim && is_later_round round) (is_who claimer) h in
    let first = and_parts (is_who victim) (is_later_round round) parts.0 in
    let later = and_parts (nat_lt 1 round) (is_round round) first.1 in
    and_from (is_who victim && is_round round) (is_who claimer) (and_from (is_who victim) (is_round round) first.0 later.1) parts.1

pub kept_in_range : (before : Amount) (records : List Record) → stand_in_place before records ≡ true → All KeptRecord records
kept_in_range before [] h = All-nil KeptRecord
kept_in_range before (r ∷ rs) h =
    let parts = and_parts (is_sound r && is_next before r) (stand_in_place (with_record before r) rs) h in
    let one = and_parts (is_sound r) (is_next before r) parts.0 in
    All-cons KeptRecord r rs (in_range r one.0) (kept_in_range (with_record before r) rs parts.1)

-- A node's records.

-- the record of a start counts the instance
pub boot_spelled : (records : List Record) → All KeptRecord (boot_kept records) → All Spelled (boot_kept records)
boot_spelled records h = by (is_spent records) h
  where
    by : (b : Bool) → All KeptRecord (cond b [] (Boot (instance_begun records) ∷ [])) → All Spelled (cond b [] (Boot (instance_begun records) ∷ []))
    by true k = All-nil Spelled
    by false k = All-cons Spelled (Boot (instance_begun records)) [] (All-head KeptRecord (Boot (instance_begun records)) [] k) (All-nil Spelled)

-- a step records what runs above the ring records, which is a node's own

spelled_from : (r : Record) → is_arbiters r ≡ false → KeptRecord r → Spelled r
spelled_from (Boot instance) e h = h
spelled_from (AccusedBy victim first) e h = absurd (cc)
spelled_from (PreparedBy partition epoch preparer) e h = absurd (cc)
spelled_from (VotedFor config) e h = absurd (cc)
spelled_from (DoneFor config) e h = absurd (cc)
spelled_from (PromisedAt partition epoch) e h = h
spelled_from (Wrote partition epoch lsn text) e h = h
spelled_from (Incoming partition epoch lsn entry_epoch text) e h = h
spelled_from (AdoptedAt partition epoch last own) e h = h
spelled_from (ClaimedBy victim round claimer) e h = absurd (cc)

all_spelled : (rs : List Record) → list_any is_arbiters rs ≡ false → All KeptRecord rs → All Spelled rs
all_spelled [] e h = All-nil Spelled
all_spelled (r ∷ rs) e h =
    let parts = or_parts (is_arbiters r) (list_any is_arbiters rs) e in
    All-cons Spelled r rs (spelled_from r parts.0 (All-head KeptRecord r rs h)) (all_spelled rs parts.1 (All-tail KeptRecord r rs h))

pub node_spelled : (c : FabricConfig) (now : ℕ) (i : Input) (s : NodeState fabric) → All KeptRecord (node_step fabric c now i s).records → All Spelled (node_step fabric c now i s).records
node_spelled c now i s h = all_spelled (node_step fabric c now i s).records (own_records c now i s) h

-- An arbitrator's records.

later_from : (round : ℕ) → IsTrue (is_round round) → (round == 1) ≡ false → IsTrue (is_later_round round)
later_from round h e =
    let parts = and_parts (nat_le 1 round) (nat_le round 8) h in
    and_from (nat_lt 1 round) (is_round round) (grind (arith, nat_tests, parts.0, e)) h

abbrev KeptSpelled : Option Record → Type 0
KeptSpelled None = Unit {0}
KeptSpelled (Some r) = Spelled r

either : (test : Bool) (a b : Reply) → KeptSpelled a.kept → KeptSpelled b.kept → KeptSpelled (if test then a else b).kept
either true a b h k = h
either false a b h k = k

module _ (asker : Who) (named : IsTrue (is_who asker)) where
  prepare_spelled : (partition : ℕ) (epoch : Epoch) (r : Register) → IsTrue (is_unit partition epoch) → KeptSpelled (prepare_received partition epoch asker r).kept
  unfolding prepare_received
  prepare_spelled partition epoch r h =
      either (is_above r.prepared epoch) _ _ (and_from (is_unit partition epoch) (is_who asker) h named) (either (is_prepared_for r.prepared epoch asker) _ _ tt tt)

  settled_spelled : (config : Config) (o : Option Config) → IsTrue (is_config config) → KeptSpelled (vote_settled config o).kept
  settled_spelled config None h = h
  settled_spelled config (Some first) h = tt

  vote_spelled : (config : Config) (r : Register) → IsTrue (is_config config) → KeptSpelled (vote_received config r).kept
  unfolding vote_received
  vote_spelled config r h = either (is_below r.prepared config.epoch) _ _ tt (settled_spelled config (vote_in config.epoch r.votes) h)

  done_spelled : (config : Config) (r : Register) → IsTrue (is_config config) → KeptSpelled (done_received config r).kept
  unfolding done_received
  done_spelled config r h = either (is_below r.prepared config.epoch) _ _ tt (either (is_newer config.epoch r.done) _ _ h tt)

  all_unless : (test : Bool) (r : Record) → Spelled r → All Spelled (unless test r [])
  all_unless true r h = All-nil Spelled
  all_unless false r h = All-cons Spelled r [] h (All-nil Spelled)

  reply_spelled : (rs : Registers) (kept : Option Record) (said : Body) → KeptSpelled kept → All Spelled (did (replied asker rs (Some (record { kept = kept; body = said })))).records
  reply_spelled rs None said h = All-nil Spelled
  reply_spelled rs (Some r) said h = all_unless (is_ring_record r) r h

  replied_spelled : (rs : Registers) (r : Reply) → KeptSpelled r.kept → All Spelled (did (replied asker rs (Some r))).records
  replied_spelled rs r h = reply_spelled rs r.kept r.body h

  question_spelled : (rs : Registers) (b : Body) → IsTrue (is_sound_body b) → All Spelled (did (replied asker rs (question_answered b asker rs))).records
  question_spelled rs (body.Prepare partition epoch) h = replied_spelled rs (prepare_received partition epoch asker (register_of partition rs)) (prepare_spelled partition epoch (register_of partition rs) h)
  question_spelled rs (body.Vote config) h = replied_spelled rs (vote_received config (register_of config.partition rs)) (vote_spelled config (register_of config.partition rs) h)
  question_spelled rs (body.DoneAsk config) h = replied_spelled rs (done_received config (register_of config.partition rs)) (done_spelled config (register_of config.partition rs) h)
  question_spelled rs _ h = All-nil Spelled

module _ (c : FabricConfig) (arbiter : ℕ) (m : Message) (h : IsTrue (is_sound_frame m)) (s : ArbiterState fabric) where
  from_node : takes_frame arbiter m ≡ true → IsTrue (is_who m.from)
  from_node e =
      let low = ltb-false (arbiter_actor 0) m.from.actor (not-true (nat_lt (arbiter_actor 0) m.from.actor)
      (and_parts (m.to.actor == arbiter_actor arbiter) (not (nat_lt (arbiter_actor 0) m.from.actor)) e).1) in
      low_sends m.from (sound_parts m h).from low

  accused_spelled : (victim : Who) → IsTrue (is_who victim) → IsTrue (is_who m.from) → All Spelled (accusation_kept s.table.accusations m.from victim)
  unfolding accusation_kept
  accused_spelled victim v f = by (first_accuser m.from s.table.accusations) (first_accuser victim s.table.accusations)
    where
      by : (x y : Option Who) → All Spelled (first_kept m.from victim x y)
      by None None = All-cons Spelled (AccusedBy victim m.from) [] (and_from (is_who victim) (is_who m.from) v f) (All-nil Spelled)
      by None (Some y) = All-nil Spelled
      by (Some x) y = All-nil Spelled

  claimed_spelled : (victim : Who) (round : ℕ) → IsTrue (is_who victim) → IsTrue (is_round round) → IsTrue (is_who m.from) → All Spelled (claim_kept s.table m.from victim round)
  unfolding claim_kept
  claimed_spelled victim round v r f = by (first_accuser victim s.table.accusations) (first_claimer victim round s.table.claims) (round == 1) refl
    where
      by : (x y : Option Who) (b : Bool) → (round == 1) ≡ b → All Spelled (claimer_kept m.from victim round x y b)
      by None y b e = All-nil Spelled
      by (Some x) (Some y) b e = All-nil Spelled
      by (Some x) None true e = All-nil Spelled
      by (Some x) None false e =
          All-cons Spelled (ClaimedBy victim round m.from) []
          (and_from (is_who victim && is_later_round round) (is_who m.from) (and_from (is_who victim) (is_later_round round) v (later_from round r e)) f) (All-nil Spelled)

  by_body : (said : Body) → m.body ≡ said → (b : Bool) → takes_frame arbiter m ≡ b → All Spelled (arbiter_takes fabric c arbiter m s said b).records
  by_body said e false f = All-nil Spelled
  by_body (body.Accuse victim) e true f =
      let k : IsTrue (is_sound_body (body.Accuse victim)) = subst (λ (b : Body). IsTrue (is_sound_body b)) e (sound_parts m h).body in
      accused_spelled victim k (from_node f)
  by_body (body.Claim victim round) e true f =
      let k : IsTrue (is_sound_body (body.Claim victim round)) = subst (λ (b : Body). IsTrue (is_sound_body b)) e (sound_parts m h).body in
      let parts = and_parts (is_who victim) (is_round round) k in
      claimed_spelled victim round parts.0 parts.1 (from_node f)
  by_body said e true f = question_spelled m.from (from_node f) s.beside m.body (sound_parts m h).body

  pub arbiter_spelled : All Spelled (arbiter_step fabric c arbiter m s).records
  arbiter_spelled =
      subst (λ (d : Did (ArbiterState fabric)). All Spelled d.records) (sym (arbiter_step-is fabric c arbiter m s)) (by_body m.body refl (takes_frame arbiter m) refl)
