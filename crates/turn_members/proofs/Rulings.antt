-- What an arbitrator's call answers is what the rules say.
use Rattle.std.proofs.Common.{◌≡◌, ℕ, Bool, true, false, List, [], ◌∷◌, Option, None, refl, sym, ap, subst, ◌∙◌}
use Rattle.std.specs.Prelude.{Ok, Err}
use Rattle.std.specs.Option.{option_to_list}
use Rattle.arbiter_core.specs.Arbiters.{Arbiter, Outcome, frame_call, is_full_for, taken}
use Rattle.arbiter_core.specs.declared.answer.Answer.{Answer}
use Rattle.arbiter_core.specs.declared.answer.Answer.TheVariants.{Reply, Nothing}
use Rattle.unit_rules.specs.Fabric.{fabric}
use Rattle.fabric_terms.specs.declared.config.FabricConfig.{FabricConfig}
use Rattle.fabric_terms.specs.declared.message.Body.{Body}
use Rattle.fabric_terms.specs.declared.message.Body.TheVariants as body
use Rattle.fabric_terms.specs.declared.message.Message.{Message}
use Rattle.fabric_terms.specs.declared.record.Record.{Record}
use Rattle.ring_points.specs.declared.who.Who.{Who}
use Rattle.ring_rules.specs.Arbiters.{takes_frame}
use Rattle.world_rules.specs.Arbiters.{ArbiterState, arbiter_step, arbiter_takes}
use Rattle.world_rules.specs.Uppers.{Did}
use Rattle.world_rules.proofs.Rows.{arbiter_step-is}
use Rattle.arbiter_core.proofs.Calls.{Agreed, Agrees, accuse_agrees, claim_agrees, nothing_agrees, question_agrees}
use Rattle.arbiter_core.proofs.Steps.{is_ruling, kept_state}
use Rattle.arbiter_core.specs.declared.answer.ArbiterError.{ArbiterError}
use Rattle.fabric_terms.specs.Sent.{from_all}
use Rattle.ring_rules.specs.declared.input.Input.TheVariants as input
use Rattle.turn_members.specs.Answers.{answer_frames, answer_records}
use Rattle.turn_members.specs.Members.{Does, state_of}
use Rattle.turn_members.specs.declared.deed.Deed.{Deed}
use Rattle.turn_rules.specs.Steps.{Arbiter as Running, arbiter_stepped, exceeds, stepped}
use Rattle.world_rules.specs.Worlds.{arbiter_who}

-- The call answers what was done, and keeps what was recorded.

abbrev AgreesOn : Arbiter → Did (ArbiterState fabric) → Outcome Answer → Type 0
AgreesOn a d o = Agrees a d.records d.sent o

-- what the rules say of the message
abbrev ruled : FabricConfig → Message → Arbiter → Did (ArbiterState fabric)
ruled c m a = arbiter_step fabric c a.number m (state_of a)

module _ (c : FabricConfig) (m : Message) (a : Arbiter) where
  call_of : (said : Body) → m.body ≡ said → (b : Bool) → AgreesOn a (arbiter_takes fabric c a.number m (state_of a) said b) (taken b said m.from a)
  call_of said e false = nothing_agrees a
  call_of (body.Accuse victim) e true = accuse_agrees m.from a victim
  call_of (body.Claim victim round) e true = claim_agrees m.from a victim round
  call_of said e true = question_agrees m.from a m.body said e

  agrees : (o : Outcome Answer) → frame_call m a ≡ o → AgreesOn a (ruled c m a) o
  agrees o call =
      subst (λ (x : Outcome Answer). AgreesOn a (ruled c m a) x) call
      (subst (λ (d : Did (ArbiterState fabric)). AgreesOn a d (frame_call m a)) (sym (arbiter_step-is fabric c a.number m (state_of a))) (call_of m.body refl (takes_frame a.number m)))

-- The step of the rules.

full_when : (number : ℕ) (a : Arbiter) (records : List Record) → is_full_for records a ≡ true → exceeds (Running number (kept_state records (state_of a))) ≡ true
unfolding exceeds
full_when number a [] e = absurd (cc)
full_when number a (r ∷ rs) e = e

room_when : (number : ℕ) (a : Arbiter) (records : List Record) → exceeds (Running number (state_of a)) ≡ false → is_full_for records a ≡ false → exceeds (Running number (kept_state records (state_of a))) ≡ false
unfolding exceeds
room_when number a [] h e = h
room_when number a (r ∷ rs) h e = e

-- a list of records and frames that are done
record IsDone (turn : ℕ) (a : Arbiter) (kept : List Record) (posts : List (Who × Body)) (deed : Deed) : Type 0 where
  pub head : deed.head ≡ record { line = turn; time = None; who = arbiter_who a.number; reading = None }
  pub records : deed.outcome.records ≡ kept
  pub frames : deed.outcome.frames ≡ from_all (arbiter_who a.number) posts
  pub reports : deed.outcome.reports ≡ []

module _ (c : FabricConfig) (turn : ℕ) (last : Option ℕ) (m : Message) (a : Arbiter) where
  does_step : (n : Arbiter) (records : List Record) (sent : List (Who × Body)) (deed : Deed) → exceeds (Running a.number (state_of a)) ≡ false
      → Agreed a (ruled c m a).records (ruled c m a).sent records sent n → IsDone turn a records sent deed
      → Does (arbiter_stepped turn a.number (arbiter_step fabric c a.number m (state_of a))) (Running n.number (state_of n)) deed
  does_step n records sent deed room k done =
      let ruling = is_ruling c a.number m (state_of a) in
      let d : Did (ArbiterState fabric) = ruled c m a in
      record {
        makes = record {
          member = ap (λ (x : Arbiter). Running x.number (state_of x)) k.now ∙ ap (λ (s : ArbiterState fabric). Running a.number s) (sym ruling.state);
          head = done.head;
          records = done.records ∙ k.records;
          frames = done.frames ∙ ap (λ (ms : List (Who × Body)). from_all (arbiter_who a.number) ms) k.sent;
          reports = done.reports ∙ sym ruling.told;
        };
        room = ap (λ (s : ArbiterState fabric). exceeds (Running a.number s)) ruling.state ∙ room_when a.number a d.records room k.room;
      }

  pub full_step : (e : ArbiterError) (n : Arbiter) → frame_call m a ≡ (Err e, n) → exceeds (stepped c turn last (input.Frame m) (Running a.number (state_of a))).member ≡ true
  unfolding stepped
  full_step e n call =
      let ruling = is_ruling c a.number m (state_of a) in
      let d : Did (ArbiterState fabric) = ruled c m a in
      let full : is_full_for d.records a ≡ true = agrees c m a (Err e, n) call in
      ap (λ (s : ArbiterState fabric). exceeds (Running a.number s)) ruling.state ∙ full_when a.number a d.records full

  -- by what is answered
  pub heard : (n : Arbiter) (answer : Answer) (deed : Deed) → exceeds (Running a.number (state_of a)) ≡ false → frame_call m a ≡ (Ok answer, n)
      → deed.head ≡ record { line = turn; time = None; who = arbiter_who a.number; reading = None } → deed.outcome.records ≡ answer_records answer
      → deed.outcome.frames ≡ answer_frames (arbiter_who a.number) answer → deed.outcome.reports ≡ []
      → Does (stepped c turn last (input.Frame m) (Running a.number (state_of a))) (Running n.number (state_of n)) deed
  unfolding stepped
  heard n Nothing deed room call head records frames reports =
      does_step n [] [] deed room (agrees c m a (Ok Nothing, n) call) (record { head = head; records = records; frames = frames; reports = reports })
  heard n (Reply kept to said) deed room call head records frames reports =
      does_step n (option_to_list kept) ((to, said) ∷ []) deed room (agrees c m a (Ok (Reply kept to said), n) call) (record { head = head; records = records; frames = frames; reports = reports })

  pub number_kept : (n : Arbiter) (answer : Answer) → frame_call m a ≡ (Ok answer, n) → n.number ≡ a.number
  number_kept n Nothing call = let k : Agreed a (ruled c m a).records (ruled c m a).sent [] [] n = agrees c m a (Ok Nothing, n) call in ap (λ (x : Arbiter). x.number) k.now
  number_kept n (Reply kept to said) call =
      let k : Agreed a (ruled c m a).records (ruled c m a).sent (option_to_list kept) ((to, said) ∷ []) n = agrees c m a (Ok (Reply kept to said), n) call in
      ap (λ (x : Arbiter). x.number) k.now
